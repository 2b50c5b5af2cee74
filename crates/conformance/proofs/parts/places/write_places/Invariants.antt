use Rattle.std.proofs.Common.{◌≡◌}
use Rattle.conformance.proofs.parts.places.write_places.Given as goal

-- the calculator is one of the text, and stands at the offset that was asked for last
abbrev pub invariant-loop-word : goal.invariant-loop-word
invariant-loop-word l = record {
  of_text : l.calculator.text ≡ l.text;
  at_last : l.calculator.offset ≡ l.last;
}
