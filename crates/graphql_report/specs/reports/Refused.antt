-- The token at which a text is refused, whichever language it is read as and wherever its reading began.
-- Source: this project's choice.
use Rattle.std.specs.Prelude.{◌≡◌, ℕ, suc, ◌+◌, List, ◌∷◌, ◌++◌, length, drop, Option, Some, None}
use Rattle.graphql_tokens.specs.declared.lexer.Token.{Token as LentToken}
use Rattle.graphql_tokens.specs.tokens.Cuts.{IsCutInto}
use Rattle.graphql_tokens.specs.tokens.Edition.{Current}
use Rattle.graphql_tokens.specs.tokens.Place.{place}
use Rattle.graphql_tokens.specs.tokens.Seen.{seen}
use Rattle.graphql_tokens.specs.tokens.Token.{Token}
use Rattle.graphql_reading.specs.grammar.Fronts.{IsRefused, Verdict}
use Rattle.graphql_reading.specs.grammar.Limits.{Limits}
use Rattle.graphql_grammar.specs.answers.Language.{grammar}
use Rattle.graphql_grammar.specs.declared.error.Error.{Error}
use Rattle.graphql_grammar.specs.declared.error.Error.TheVariants.{Syntax, RecursionLimitExceeded}
use Rattle.graphql_requests.specs.grammar.Requests.{requests}
use Rattle.graphql_schemas.specs.grammar.Schemas.{schemas}
use Rattle.graphql_report.specs.declared.fronts.Language.{Language}
use Rattle.graphql_report.specs.declared.fronts.Language.TheVariants.{Requests, Schemas}
use Rattle.graphql_report.specs.declared.rests.ReadFrom.{ReadFrom}
use Rattle.graphql_report.specs.declared.rests.ReadUpTo.{ReadUpTo}

-- of the tokens of a text, read as this language, the one of this number is refused
abbrev pub RefusesTheToken : Language → Limits → List Token → ℕ → Verdict → Type 0
RefusesTheToken Requests limits tokens number verdict = IsRefused (grammar requests Current) limits tokens number verdict
RefusesTheToken Schemas limits tokens number verdict = IsRefused (grammar schemas Current) limits tokens number verdict

-- the text is refused at this token
pub record IsRefusedAt (language : Language) (limits : Limits) (text : List ℕ) (token : Token) (verdict : Verdict) : Type 0 where
  pub before : List Token
  pub after : List Token
  pub cut : IsCutInto text (before ++ token ∷ after)
  pub refused : RefusesTheToken language limits (before ++ token ∷ after) (suc (length before)) verdict

-- a token of the rest of a text, with its offset and its place in the whole text
abbrev pub in_text : List ℕ → ReadFrom → Token → Token
in_text text from t = record { bare = t.bare; start = from.offset + t.start; pos = place text (from.offset + t.start) }

-- the rest of the text, from there on, is refused at this token
pub record IsRefusedFrom (language : Language) (limits : Limits) (text : List ℕ) (from : ReadFrom) (token : Token) : Type 0 where
  pub in_rest : Token
  pub verdict : Verdict
  pub refused : IsRefusedAt language limits (drop from.offset text) in_rest verdict
  pub is : token ≡ in_text text from in_rest

-- it is refused at this token, which is known
abbrev pub IsKnown : Language → Limits → List ℕ → ReadUpTo → Token → Type 0
IsKnown language limits text read token = IsRefusedFrom language limits text read.from token × ((lent : LentToken) × (read.token ≡ Some lent) × (seen lent ≡ token))

-- the error is one of a refused token
abbrev pub IsOfAToken : Error → Type 0
IsOfAToken (Syntax message start end) = Unit {0}
IsOfAToken RecursionLimitExceeded = Unit {0}
IsOfAToken other = ⊥

-- The token at which the rest of the text is refused; none, if the error is one of a token, only where it is refused at none.
abbrev pub IsItsToken : Language → Limits → List ℕ → ReadFrom → Error → Option LentToken → Type 0
IsItsToken language limits text from error (Some token) = IsRefusedFrom language limits text from (seen token)
IsItsToken language limits text from error None = IsOfAToken error → (token : Token) → ¬ (IsRefusedFrom language limits text from token)
