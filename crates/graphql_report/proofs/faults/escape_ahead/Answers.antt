use Rattle.std.proofs.Common.{ℕ, List, Option, sym, subst, ◌∙◌}
use Rattle.std.specs.Borrow.{Bor}
use Rattle.std.specs.Prelude.{IfNone}
use Rattle.std.specs.Str.{chars}
use Rattle.std.specs.Str.Iter.{chars_rest}
use Rattle.graphql_report.specs.inner.Strings.{HasNoUnit}
use Rattle.graphql_report.proofs.StringTexts.{first-char, bad-ahead}
use Rattle.graphql_report.proofs.faults.escape_ahead.Goals as goal

pub returns-in-None : goal.returns-in-None
returns-in-None c =
    let none : HasNoUnit (chars c.args.text.now) = subst (λ (found : Option (Bor (List ℕ))). IfNone found (HasNoUnit (chars c.args.text.now))) c.in-None.is c.in_ok-rest.ensures.none in
    bad-ahead (chars c.args.text.now) (chars c.split_chars.result.0.now) (chars c.split_chars.result.1.now) (chars (chars_rest c.next.new.self)) c.requires.0 c.in-Some.next c.split_chars.ensures.split c.split_chars.ensures.first c.requires.1
    (first-char c.split_chars.result.1.now c.chars.result c.next.new.self c.in-Some.next c.split_chars.ensures.utf8 c.chars.ensures.rest c.in-Some.ensures.steps) (sym c.is_line_end.ensures ∙ c.if-is_line_end.false) none
