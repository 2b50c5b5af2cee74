-- What it means that the tokens of a text are a viable front, in either language.
-- Source: this project's choice.
use Rattle.std.specs.Prelude.{◌≡◌, ℕ, List, [], ◌∷◌, ◌++◌}
use Rattle.graphql_tokens.specs.declared.lexer.TokenKind.TheVariants.{End}
use Rattle.graphql_tokens.specs.tokens.Edition.{Current}
use Rattle.graphql_tokens.specs.tokens.Token.{Token}
use Rattle.graphql_reading.specs.grammar.Fronts.{Viable}
use Rattle.graphql_reading.specs.grammar.Limits.{Limits}
use Rattle.graphql_grammar.specs.answers.Language.{Language as Described, grammar}
use Rattle.graphql_requests.specs.grammar.Requests.{requests}
use Rattle.graphql_schemas.specs.grammar.Schemas.{schemas}
use Rattle.graphql_report.specs.declared.fronts.Language.{Language}
use Rattle.graphql_report.specs.declared.fronts.Language.TheVariants.{Requests, Schemas}

-- the last of these characters is a line feed
pub record LastIsLineFeed (text : List ℕ) : Type 0 where
  pub before : List ℕ
  pub is : text ≡ before ++ 10 ∷ []

-- The tokens of a text have no fault, and those before its end are a viable front.
pub record IsFront {D Document : Type 0} (language : Described D Document) (limits : Limits) (tokens : List Token) : Type 0 where
  pub front : List Token
  pub last : Token
  pub split : tokens ≡ front ++ last ∷ []
  pub ends : last.bare.kind ≡ End
  pub viable : Viable (grammar language Current) limits front

-- the same of what the text is read as
abbrev pub IsFrontOf : Language → Limits → List Token → Type 0
IsFrontOf Requests limits tokens = IsFront requests limits tokens
IsFrontOf Schemas limits tokens = IsFront schemas limits tokens
