-- Proper tokens: those whose bytes spell their kind. The word is this project's own.
use Rattle.std.specs.Prelude.{◌≡◌, ℕ, ◌⊎◌, List, [], ◌∷◌}
use Rattle.std.specs.Str.{encode_utf8_all}
use Rattle.std.specs.Char.{IsScalar}
use Rattle.std.specs.List.{AllByRecursion}
use Rattle.graphql_tokens.specs.tokens.Edition.{Current}
use Rattle.graphql_tokens.specs.tokens.Spelling.{IsSpelling}
use Rattle.graphql_tokens.specs.tokens.Token.{Token}
use Rattle.graphql_tokens.specs.declared.lexer.TokenKind.{TokenKind}
use Rattle.graphql_tokens.specs.declared.lexer.TokenKind.TheVariants.{Fault, End}

-- these bytes are the UTF-8 of characters that spell the kind
abbrev pub Spells : TokenKind → List ℕ → Type 0
Spells kind bytes = (w : List ℕ) × AllByRecursion IsScalar w × (bytes ≡ encode_utf8_all w) × IsSpelling Current kind w

-- a bare token with a spelling of its kind; an end has the empty one, and a fault has none
abbrev pub IsProperBare : TokenKind → List ℕ → Type 0
IsProperBare End bytes = bytes ≡ []
IsProperBare Fault bytes = ⊥
IsProperBare kind bytes = Spells kind bytes

abbrev pub IsProper : Token → Type 0
IsProper t = IsProperBare t.bare.kind t.bare.spelling

abbrev pub AreProper : List Token → Type 0
AreProper [] = Unit {0}
AreProper (t ∷ ts) = IsProper t × AreProper ts

-- each token but a fault is proper
abbrev pub AreProperButFaults : List Token → Type 0
AreProperButFaults [] = Unit {0}
AreProperButFaults (t ∷ ts) = ((t.bare.kind ≡ Fault) ⊎ IsProper t) × AreProperButFaults ts
