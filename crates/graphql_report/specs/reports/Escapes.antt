-- Where the first bad escape of a string begins, and at which token that string does.
-- Source: this project's choice.
use Rattle.std.specs.Prelude.{◌≡◌, ◌≢◌, ℕ, ◌+◌, false, List, [], ◌∷◌, ◌++◌, length, drop}
use Rattle.std.specs.Str.{byte, chars, encode_utf8_all}
use Rattle.graphql_tokens.specs.declared.lexer.TokenKind.TheVariants.{Fault}
use Rattle.graphql_tokens.specs.tokens.Edition.{Current}
use Rattle.graphql_tokens.specs.tokens.Place.{is_line_end}
use Rattle.graphql_tokens.specs.tokens.Strings.{IsContent}
use Rattle.graphql_tokens.specs.tokens.Token.{Token}

-- The characters begin with a quote and a content, and at the backslash after it begins no escape: no characters from there
-- on, one or more, are a content. The line goes on after the backslash.
pub record HasBadEscape (text : List ℕ) : Type 0 where
  pub content : List ℕ
  pub next : ℕ
  pub rest : List ℕ
  pub is : text ≡ byte "\"" ∷ content ++ byte "\\" ∷ next ∷ rest
  pub good_before : IsContent Current content
  pub in_line : is_line_end next ≡ false
  pub none : (escape after : List ℕ) → byte "\\" ∷ next ∷ rest ≡ escape ++ after → escape ≢ [] → ¬ (IsContent Current escape)

-- The token is a fault, and a string begins there whose first bad escape begins at this offset of the text.
abbrev pub IsBadEscapeOf : List ℕ → Token → ℕ → Type 0
IsBadEscapeOf text token offset = (token.bare.kind ≡ Fault) × ((bad : HasBadEscape (chars (drop token.start text))) × (offset ≡ token.start + 1 + length (encode_utf8_all bad.content)))
