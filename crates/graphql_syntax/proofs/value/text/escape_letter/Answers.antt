use Rattle.std.proofs.Common.{◌≡◌, Some, inl, inr, refl, sym, subst}
use Rattle.graphql_syntax.specs.trees.ValueText.{escape_letter}
use Rattle.graphql_syntax.proofs.value.text.escape_letter.Goals as goal

pub returns-then-c-eq92 : goal.returns-then-c-eq92
returns-then-c-eq92 c =
    elim c.if-c-eq92.either [
      | inl quote ↦ subst (λ x. Some x ≡ escape_letter x) (sym quote) refl
      | inr backslash ↦ subst (λ x. Some x ≡ escape_letter x) (sym backslash.1) refl
    ]
