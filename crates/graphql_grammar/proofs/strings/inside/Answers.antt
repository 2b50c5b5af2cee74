use Rattle.std.proofs.Common.{◌≡◌, ℕ, ◌-◌, List, length, take, ap, ◌∙◌, subst, sym, arith}
use Rattle.std.specs.Str.{IsCharBoundary, IsUtf8}
use Rattle.graphql_reading.proofs.ProperTokens.{after-quotes}
use Rattle.graphql_grammar.proofs.strings.inside.Goals as goal

pub range_from-requires : goal.range_from-requires
range_from-requires c = λ some.
    let text : List ℕ = c.args.text.now in
    let left : ℕ = length text - c.args.quotes in
    let same : left - 0 ≡ left = omega arith in
    let front : c.range-front.result.now ≡ take left text = c.range-front.ensures.value ∙ ap (λ (n : ℕ). take n text) same in
    subst (λ (l : List ℕ). IsCharBoundary l c.args.quotes) (sym front) (after-quotes c.args.quotes text c.requires (subst IsUtf8 front c.range-front.utf8) some)
