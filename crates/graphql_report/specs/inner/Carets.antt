-- Where the caret stands at a refused token.
-- Source: this project's choice.
use Rattle.std.specs.Prelude.{◌≡◌, ◌⊎◌, ℕ, ◌+◌, List, length}
use Rattle.std.specs.Str.{encode_utf8_all, IsCharBoundary}
use Rattle.graphql_tokens.specs.tokens.Token.{Token}
use Rattle.graphql_report.specs.reports.Escapes.{HasBadEscape, IsBadEscapeOf}

-- the first bad escape begins after so many bytes; where there is none, the number is 0
abbrev pub TellsEscape : List ℕ → ℕ → Type 0
TellsEscape text offset = ((offset ≡ 0) × (¬ (HasBadEscape text))) ⊎ ((bad : HasBadEscape text) × (offset ≡ 1 + length (encode_utf8_all bad.content)))

-- no string with a bad escape begins at the token
abbrev pub HasNoBadEscape : List ℕ → Token → Type 0
HasNoBadEscape text token = (offset : ℕ) → ¬ (IsBadEscapeOf text token offset)

-- So many bytes after the token its first bad escape begins; where it has none, or isn't cut off there, the number is 0.
abbrev pub IsWrongAfter : List ℕ → Token → ℕ → Type 0
IsWrongAfter text token passed =
    ((passed ≡ 0) × (IsCharBoundary text token.start → HasNoBadEscape text token))
    ⊎ (IsCharBoundary text token.start × IsBadEscapeOf text token (token.start + passed))
