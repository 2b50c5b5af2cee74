-- A string whose content stands between its quotes as it is.
use Rattle.std.proofs.Common.{◌≡◌, ℕ, ◌+◌, List, [], ◌∷◌, length, refl, ap, arith, length-append}
use Rattle.graphql_layout.specs.declared.sheet.Last.{Last}
use Rattle.graphql_layout.specs.declared.sheet.Last.TheVariants.{Comment, Other}
use Rattle.graphql_layout.specs.inner.Endings.{string_ending}
use Rattle.graphql_layout.specs.inner.Sheets.{holds_off_token}
use Rattle.graphql_layout.specs.texts.Items.{in_quotes}

-- it may come where a quote may
pub quote_held : (last : Last) (content : List ℕ) → holds_off_token last (in_quotes content) ≡ holds_off_token last (34 ∷ [])
quote_held Comment content = refl
quote_held (Other ending) content = refl

pub quoted_ending : (content : List ℕ) → string_ending (2 + length content) ≡ string_ending (length (in_quotes content))
quoted_ending content = ap string_ending (omega (arith, length-append content (34 ∷ [])))
