use Rattle.std.proofs.Common.{List, ℕ, ◌++◌, ◌-◌, length, refl, ap, sym, subst, ◌∙◌}
use Rattle.std.specs.Char.{encode_utf8}
use Rattle.std.specs.Str.{chars, IsUtf8}
use Rattle.graphql_report.specs.inner.Strings.{Passes, IsBad, Ends, TellsAhead}
use Rattle.graphql_report.proofs.Escapes.{walked-on}
use Rattle.graphql_report.proofs.StringTexts.{tells-other, walk-begun, tells-bad, tells-none, shorter, rest-within, after-quote}
use Rattle.graphql_report.proofs.faults.bad_escape.Goals as goal

pub returns-in_default-clause-escape : goal.returns-in_default-clause-escape
returns-in_default-clause-escape c = tells-other c.args.text.now c.utf8.text c.in_default.ensures.cases

pub loop-after-init : goal.loop-after-init
loop-after-init c =
    let m = c.in-Some.ensures.cases in
    walk-begun c.args.text.now c.in-Some.rest.now c.utf8.text (m.1.split ∙ ap (λ (l : List ℕ). encode_utf8 34 ++ l) (sym m.2))

passed : (c : goal.In-Content) → IsUtf8 c.in-Content.after.now × Passes (chars c.loop-after.rest.now) (chars c.in-Content.after.now)
passed c = subst (TellsAhead (chars c.loop-after.rest.now)) c.in-Content.is c.in_ok-after.ensures

pub loop-after-smaller : goal.loop-after-smaller
loop-after-smaller c = shorter c.loop-after.rest.now c.in-Content.after.now c.loop-after.invariant.0 (passed c).0 (passed c).1

pub loop-after-preserved : goal.loop-after-preserved
loop-after-preserved c = ((passed c).0, walked-on (chars c.args.text.now) (chars c.loop-after.rest.now) (chars c.in-Content.after.now) c.loop-after.invariant.1 (passed c).1)

pub overflow_sub-result : goal.overflow_sub-result
overflow_sub-result c = rest-within c.args.text.now c.loop-after.rest.now c.utf8.text c.loop-after.invariant.0 c.loop-after.invariant.1

pub returns-in-BadEscape-clause-escape : goal.returns-in-BadEscape-clause-escape
returns-in-BadEscape-clause-escape c =
    let bad : IsBad (chars c.loop-after.rest.now) = subst (TellsAhead (chars c.loop-after.rest.now)) c.in-BadEscape.is c.in_ok-after.ensures in
    tells-bad c.args.text.now c.loop-after.rest.now (length c.args.text.now - length c.loop-after.rest.now) c.utf8.text c.loop-after.invariant.0 c.loop-after.invariant.1 bad refl

pub returns-in-End-clause-escape : goal.returns-in-End-clause-escape
returns-in-End-clause-escape c =
    let ends : Ends (chars c.loop-after.rest.now) = subst (TellsAhead (chars c.loop-after.rest.now)) c.in-End.is c.in_ok-after.ensures in
    tells-none (chars c.args.text.now) (chars c.loop-after.rest.now) c.loop-after.invariant.1 ends

pub returns-in-BadEscape-clause-some : goal.returns-in-BadEscape-clause-some
returns-in-BadEscape-clause-some c = after-quote c.args.text.now c.loop-after.rest.now c.utf8.text c.loop-after.invariant.0 c.loop-after.invariant.1
