-- How tokens are spelled, as sets of texts, and which character may follow each of them.
-- Source: GraphQL October 2021, section 2.1.6 (Lexical Tokens), with sections 2.1.8 (Punctuators), 2.1.9 (Names),
-- 2.9.1 and 2.9.2 (numbers) and 2.9.4 (strings).
use Rattle.std.specs.Prelude.{◌≡◌, ℕ, Bool, true, false, ◌⊎◌, ◌&&◌, ◌==◌, List, [], ◌∷◌, length, codes}
use Rattle.std.specs.List.{AllByRecursion}
use Rattle.std.specs.Str.{byte}
use Rattle.graphql_tokens.specs.tokens.Edition.{Edition}
use Rattle.graphql_tokens.specs.tokens.Classes.{is_punct, is_name_start, is_name_char}
use Rattle.graphql_tokens.specs.tokens.Numbers.{IsNumber, forbids_number}
use Rattle.graphql_tokens.specs.tokens.Strings.{IsString}
use Rattle.graphql_tokens.specs.tokens.Blocks.{IsBlock}
use Rattle.graphql_tokens.specs.declared.lexer.TokenKind.{TokenKind}
use Rattle.graphql_tokens.specs.declared.lexer.TokenKind.TheVariants.{Punct, Name, Number, String, Block, Fault, End}

-- one character of the class, or three dots
abbrev pub IsPunct : List ℕ → Type 0
IsPunct w = ((c : ℕ) × (w ≡ c ∷ []) × (is_punct c ≡ true)) ⊎ (w ≡ codes "...")

-- a letter or `_`, and then letters, `_` and digits
abbrev pub IsName : List ℕ → Type 0
IsName [] = ⊥
IsName (c ∷ cs) = (is_name_start c ≡ true) × AllByRecursion (λ d. is_name_char d ≡ true) cs

abbrev pub IsSpelling : Edition → TokenKind → List ℕ → Type 0
IsSpelling edition Punct w = IsPunct w
IsSpelling edition Name w = IsName w
IsSpelling edition Number w = IsNumber w
IsSpelling edition String w = IsString edition w
IsSpelling edition Block w = IsBlock w
IsSpelling edition Fault w = ⊥
IsSpelling edition End w = ⊥

-- whether this character may not follow this spelling; after the empty string no quote may come
abbrev pub forbids : TokenKind → List ℕ → ℕ → Bool
forbids Name w c = is_name_char c
forbids Number w c = forbids_number c
forbids String w c = length w == 2 && c == byte "\""
forbids other w c = false

abbrev pub MayFollow : TokenKind → List ℕ → List ℕ → Type 0
MayFollow kind w [] = Unit {0}
MayFollow kind w (c ∷ cs) = forbids kind w c ≡ false

-- the text begins with w, a token of this kind, and goes on with the rest
pub record Begins (edition : Edition) (kind : TokenKind) (w rest : List ℕ) : Type 0 where
  pub spelled : IsSpelling edition kind w
  pub follows : MayFollow kind w rest
