use Rattle.std.proofs.Common.{arith}
use Rattle.std.proofs.lemmas.Str.{IsCharBoundary-start}
use Rattle.graphql_tokens.proofs.BlockLines.{blank_boundary}
use Rattle.graphql_tokens.proofs.text.block.dedented.Goals as goal

pub range_from-requires : goal.range_from-requires
range_from-requires c =
    let bs = c.as_bytes.result.now in
    let u = c.as_bytes.ensures.utf8 in
    let b = blank_boundary bs 0 c.min.result u (IsCharBoundary-start bs u) (omega arith) (omega (arith, c.min.ensures, c.past_blanks.ensures.value)) in
    rw (← c.as_bytes.ensures.value) (λ _. b)
