use Rattle.std.proofs.Common.{◌≡◌, ℕ, ◌-◌, List, length, take, ap, ◌∙◌, arith}
use Rattle.graphql_layout.proofs.QuotedBlocks.{before_quotes, after_quotes}
use Rattle.graphql_layout.proofs.blocks.inside_quotes.Goals as goal

pub range-front-requires-clause-end_boundary : goal.range-front-requires-clause-end_boundary
range-front-requires-clause-end_boundary c = before_quotes c.args.spelling.now c.requires

pub range_from-requires : goal.range_from-requires
range_from-requires c = λ some.
    let text : List ℕ = c.args.spelling.now in
    let left : ℕ = length text - 3 in
    let same : left - 0 ≡ left = omega arith in
    after_quotes text c.range-front.result.now c.requires (c.range-front.ensures.value ∙ ap (λ (n : ℕ). take n text) same) c.range-front.utf8
