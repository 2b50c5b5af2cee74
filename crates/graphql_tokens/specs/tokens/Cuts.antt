-- The token list of a text.
-- Source: GraphQL October 2021, section 2.1.6 (Lexical Tokens) and section 2.1.7 (Ignored Tokens). That each token has
-- an offset and a place, and that the list goes on to an end or a fault, is this project's choice.
use Rattle.std.specs.Prelude.{◌≡◌, ◌≢◌, ℕ, Bool, true, false, ◌⊎◌, List, [], ◌∷◌, ◌++◌, length}
use Rattle.std.specs.List.{concat}
use Rattle.std.specs.Str.{byte, chars, encode_utf8_all}
use Rattle.graphql_tokens.specs.tokens.Edition.{Edition, Current}
use Rattle.graphql_tokens.specs.tokens.Place.{place_after}
use Rattle.graphql_tokens.specs.tokens.Classes.{is_ignored}
use Rattle.graphql_tokens.specs.tokens.Ignored.{AreIgnored}
use Rattle.graphql_tokens.specs.tokens.Spelling.{Begins}
use Rattle.graphql_tokens.specs.tokens.Token.{Token}
use Rattle.graphql_tokens.specs.declared.lexer.TokenKind.{TokenKind}
use Rattle.graphql_tokens.specs.declared.lexer.TokenKind.TheVariants.{Fault, End}

-- ---- what stands next

-- the token that is spelled by these characters, after the characters of the front
abbrev pub token : TokenKind → List ℕ → List ℕ → Token
token kind front w = record { bare = record { kind = kind; spelling = encode_utf8_all w }; start = length (encode_utf8_all front); pos = place_after front }

-- the text goes on, and neither an ignored character nor a comment is next
abbrev pub GoesOn : List ℕ → Type 0
GoesOn [] = ⊥
GoesOn (c ∷ cs) = (is_ignored c ≡ false) × (c ≢ byte "#")

-- no beginning of the text is a token
abbrev pub HasNoToken : Edition → List ℕ → Type 0
HasNoToken edition text = (kind : TokenKind) (w rest : List ℕ) → text ≡ w ++ rest → ¬ (Begins edition kind w rest)

-- Ignored text stands at the front of the text, and a rest after it. Either may be empty.
pub record IgnoredFront (text : List ℕ) : Type 0 where
  pub pieces : List (List ℕ)
  pub after : List ℕ
  pub whole : text ≡ concat pieces ++ after
  pub ignored : AreIgnored pieces after

-- A token stands next, and a rest: the text begins with a word that spells the token and may end there.
pub record TokenStands (edition : Edition) (front text : List ℕ) (t : Token) : Type 0 where
  pub kind : TokenKind
  pub word : List ℕ
  pub rest : List ℕ
  pub whole : text ≡ word ++ rest
  pub begins : Begins edition kind word rest
  pub is : t ≡ token kind front word

-- The text ends, and the token is an end.
pub record EndStands (front text : List ℕ) (t : Token) : Type 0 where
  pub ends : text ≡ []
  pub is : t ≡ token End front []

-- The text goes on, no beginning of it is a token, and the token is a fault.
pub record FaultStands (edition : Edition) (front text : List ℕ) (t : Token) : Type 0 where
  pub goes_on : GoesOn text
  pub none : HasNoToken edition text
  pub is : t ≡ token Fault front []

-- ---- the list

-- After the characters of the front, this text is cut into these tokens. Ignored text is left out. Then the first
-- token stands, and the rest of the text is cut into the others; or an end or a fault stands, and there are no others.
abbrev pub Cuts : Edition → List ℕ → List ℕ → List Token → Type 0
Cuts edition front text [] = ⊥
Cuts edition front text (t ∷ ts) =
    (ignored : IgnoredFront text)
    × (let here = front ++ concat ignored.pieces in
    ((first : TokenStands edition here ignored.after t) × Cuts edition (here ++ first.word) first.rest ts)
    ⊎ (EndStands here ignored.after t × (ts ≡ []))
    ⊎ (FaultStands edition here ignored.after t × (ts ≡ [])))

-- the text, in UTF-8, is cut into these tokens
abbrev pub IsCutInto : List ℕ → List Token → Type 0
IsCutInto text tokens = Cuts Current [] (chars text) tokens

-- ---- how a list ends

abbrev pub is_last : TokenKind → Bool
is_last Fault = true
is_last End = true
is_last other = false

-- one token is an end or a fault, and it is the last
abbrev pub EndsOnce : List Token → Type 0
EndsOnce [] = ⊥
EndsOnce (t ∷ []) = is_last t.bare.kind ≡ true
EndsOnce (t ∷ u ∷ ts) = (is_last t.bare.kind ≡ false) × EndsOnce (u ∷ ts)

abbrev pub HasNoFault : List Token → Type 0
HasNoFault [] = Unit {0}
HasNoFault (t ∷ ts) = (t.bare.kind ≢ Fault) × HasNoFault ts
