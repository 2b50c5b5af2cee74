use Rattle.std.proofs.Common.{◌≡◌, ◌<◌, false, eqb, length, sym, ◌∙◌, arith}
use Rattle.std.proofs.lemmas.Bool.{eqb-true}
use Rattle.std.proofs.lemmas.Bool.Decides.{nat_tests}
use Rattle.std.proofs.lemmas.Str.{IsCharBoundary-after_ascii}
use Rattle.graphql_layout.proofs.BlankLines.{end_low, passes, is_last_line}
use Rattle.graphql_layout.proofs.one_reading.has_blank_line.Goals as goal

pub returns-then-is_empty : goal.returns-then-is_empty
returns-then-is_empty c = λ _. c.lines.invariant.1 (is_last_line c.lines.text.now c.split_line.result.0.now c.split_line.result.1.now c.split_line.ensures (eqb-true _ _ (sym c.is_empty.ensures ∙ c.if-is_empty.true)))

pub range_from-text-requires : goal.range_from-text-requires
range_from-text-requires c =
    let l = c.split_line.ensures in
    let none : eqb (length c.split_line.result.1.now) 0 ≡ false = sym c.is_empty.ensures ∙ c.if-is_empty.false in
    let some : 0 < length c.split_line.result.1.now = grind (arith, nat_tests) in
    λ _. IsCharBoundary-after_ascii c.split_line.result.1.now 0 l.rest_utf8 some (end_low c.split_line.result.1.now l.rest_utf8 some l.ends)

pub lines-preserved : goal.lines-preserved
lines-preserved c =
    let none : eqb (length c.split_line.result.1.now) 0 ≡ false = sym c.is_empty.ensures ∙ c.if-is_empty.false in
    let some : 0 < length c.split_line.result.1.now = grind (arith, nat_tests) in
    (c.range_from-text.utf8, λ h. c.lines.invariant.1 (passes c.lines.text.now c.split_line.result.0.now c.split_line.result.1.now c.range_from-text.result.now c.split_line.ensures some c.range_from-text.ensures.value (sym c.holds_blanks.ensures ∙ c.if-holds_blanks.false) h))
