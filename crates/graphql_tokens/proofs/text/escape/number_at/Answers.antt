use Rattle.std.proofs.Common.{◌≡◌, Some, None, sym, ap, ◌∙◌}
use Rattle.std.proofs.lemmas.List.{take_rest}
use Rattle.graphql_tokens.specs.inner.Escapes.{four_digits, scalar_of, pair_at}
use Rattle.graphql_tokens.proofs.Escapes.{number_at_pair}
use Rattle.graphql_tokens.proofs.text.escape.number_at.Goals as goal

pub returns-in-None : goal.returns-in-None
returns-in-None c =
    let text = c.args.text.now in
    let n = c.in_ok-number.number in
    let digits : four_digits text ≡ Some n = sym c.four_digits.ensures ∙ c.in_ok-number.was in
    let none : scalar_of n ≡ None = sym c.scalar_of.ensures ∙ c.in-None.is in
    c.pair_at.ensures ∙ ap (pair_at n) (take_rest text 4) ∙ sym (number_at_pair text n (λ e. c.if-byte-eq123.false (c.byte.ensures ∙ e)) digits none)
