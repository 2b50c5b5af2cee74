-- What the names say of tokens that are expected after a front.
-- Source: this project's choice.
use Rattle.std.specs.Prelude.{◌≡◌, ◌≢◌, ◌⊎◌, ℕ, ◌||◌, IsTrue, List, [], ◌∷◌, ◌++◌, map, codes}
use Rattle.std.specs.Borrow.{Bor}
use Rattle.std.specs.List.{Contains}
use Rattle.graphql_tokens.specs.tokens.Cuts.{IsCutInto}
use Rattle.graphql_tokens.specs.tokens.Edition.{Current}
use Rattle.graphql_tokens.specs.tokens.Proper.{IsProper}
use Rattle.graphql_tokens.specs.tokens.Token.{Bare, Token}
use Rattle.graphql_tokens.specs.declared.lexer.TokenKind.{TokenKind}
use Rattle.graphql_tokens.specs.declared.lexer.TokenKind.TheVariants.{Punct, Name, Number, String as Quoted, Block, Fault, End}
use Rattle.graphql_trees.specs.calls.Locations.{location_word}
use Rattle.graphql_trees.specs.declared.service.DirectiveLocation.{DirectiveLocation}
use Rattle.graphql_reading.specs.grammar.Fronts.{Viable}
use Rattle.graphql_reading.specs.grammar.Limits.{Limits}
use Rattle.graphql_reading.specs.grammar.Tests.{Test, punct, any_name, any_number, any_string, any_block}
use Rattle.graphql_grammar.specs.answers.Language.{grammar}
use Rattle.graphql_requests.specs.grammar.Requests.{requests}
use Rattle.graphql_schemas.specs.grammar.Schemas.{schemas}
use Rattle.graphql_report.specs.declared.fronts.Language.{Language}
use Rattle.graphql_report.specs.declared.fronts.Language.TheVariants.{Requests, Schemas}
use Rattle.graphql_report.specs.reports.Expected.{HasTreeOf, Samples, quoted, number_name, string_name, location_name, name_name, value_name, end_name}

-- ---- what the code has

-- samples as the code has them
abbrev pub samples_of : List (Bor (List ℕ) × Bor (List ℕ)) → Samples
samples_of samples = map (λ s. (s.0.now, s.1.now)) samples

-- names as the code has them
abbrev pub texts : List (Bor (List ℕ)) → List (List ℕ)
texts names = map (λ name. name.now) names

-- ---- what they say of tokens

abbrev pub IsViable : Language → Limits → List Token → Type 0
IsViable Requests limits front = Viable (grammar requests Current) limits front
IsViable Schemas limits front = Viable (grammar schemas Current) limits front

-- The text has no fault, and after its tokens this token can stand, which isn't the end.
pub record CanStand (language : Language) (limits : Limits) (text : List ℕ) (t : Token) : Type 0 where
  pub tokens : List Token
  pub last : Token
  pub cut : IsCutInto text (tokens ++ last ∷ [])
  pub ends : last.bare.kind ≡ End
  pub proper : IsProper t
  pub inner : t.bare.kind ≢ End
  pub viable : IsViable language limits (tokens ++ t ∷ [])

-- a punctuator by its text, a name by its text too, or as a location, any other token by its kind
abbrev pub CallsKind : TokenKind → List ℕ → List ℕ → Type 0
CallsKind Punct spelling name = name ≡ quoted spelling
CallsKind Name spelling name =
    (name ≡ name_name) ⊎ (name ≡ quoted spelling)
    ⊎ ((name ≡ location_name) × ((location : DirectiveLocation) × (spelling ≡ codes (location_word location))))
CallsKind Number spelling name = name ≡ number_name
CallsKind Quoted spelling name = name ≡ string_name
CallsKind Block spelling name = name ≡ string_name
CallsKind Fault spelling name = ⊥
CallsKind End spelling name = ⊥

-- a value begins with it that is no variable
abbrev pub begins_value : Test
begins_value t = any_name t || any_number t || any_string t || any_block t || punct "[" t || punct "{" t

-- the token is called so
abbrev pub Calls : Bare → List ℕ → Type 0
Calls t name = CallsKind t.kind t.spelling name ⊎ ((name ≡ value_name) × IsTrue (begins_value t))

-- each token that can stand on the line after a front is called by one of the names
abbrev pub NamesAll : Language → Limits → List ℕ → List (List ℕ) → Type 0
NamesAll language limits front names = (t : Token) → CanStand language limits (front ++ 10 ∷ []) t → (name : List ℕ) × Contains names name × Calls t.bare name

-- Of a front whose tokens have no fault, each name is what some token is called that can stand on the line after it; or it is
-- the end's, and the front has a tree.
abbrev pub NamesOnly : Language → Limits → List ℕ → List (List ℕ) → Type 0
NamesOnly language limits front names =
    (tokens : List Token) (last : Token) → IsCutInto (front ++ 10 ∷ []) (tokens ++ last ∷ []) → last.bare.kind ≡ End → (name : List ℕ) → Contains names name
    → ((t : Token) × CanStand language limits (front ++ 10 ∷ []) t × Calls t.bare name)
    ⊎ ((name ≡ end_name) × ((whole : List Token) → IsCutInto (front ++ 10 ∷ []) whole → HasTreeOf language limits whole))
