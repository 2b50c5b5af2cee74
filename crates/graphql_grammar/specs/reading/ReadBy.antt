-- What the reader of a language tells of each list of tokens, and so what a parser can say that is made of it.
use Rattle.std.specs.Prelude.{◌≡◌, List, [], ◌∷◌}
use Rattle.graphql_tokens.specs.tokens.Cuts.{EndsOnce}
use Rattle.graphql_tokens.specs.tokens.Alike.{AreAlike}
use Rattle.graphql_tokens.specs.tokens.Edition.{Current}
use Rattle.graphql_tokens.specs.tokens.Proper.{AreProperButFaults}
use Rattle.graphql_tokens.specs.tokens.Token.{Token}
use Rattle.graphql_grammar.specs.answers.Answers.{AreTheDefinitions, BreakAlike, HasOneTree, IsDecided, RestsOnBareTokens}
use Rattle.graphql_grammar.specs.answers.Language.{Language, grammar}
use Rattle.graphql_reading.specs.grammar.Fronts.{bares, RefusedToken, Verdict}
use Rattle.graphql_reading.specs.grammar.Limits.{Limits}
use Rattle.graphql_reading.specs.reading.Outcome.{Reader, Read, Refused, whole_at}

-- this is the refused token, and after it comes what isn't read
abbrev pub RefusedHere : {D Document : Type 0} → Language D Document → Limits → List Token → Verdict → Token → List Token → Type 0
RefusedHere language limits ts v t after = (refused : RefusedToken (grammar language Current) limits ts v) × (refused.token ≡ t) × (refused.after ≡ after)

-- How a block string is written makes no difference: other tokens that are alike have a tree where these have one, the same
-- but for its places, and it breaks the same rule in the same definition, or none.
pub record RestsOnAlikeTokens {D Document : Type 0} (language : Language D Document) (limits : Limits) (tokens : List Token) : Type 0 where
  pub has_tree : (others : List Token) → AreAlike (bares tokens) (bares others) → (ds : List D) → grammar language Current limits tokens ds → (es : List D) × grammar language Current limits others es
  pub same_tree : (others : List Token) → AreAlike (bares tokens) (bares others) → (ds es : List D) → grammar language Current limits tokens ds → grammar language Current limits others es → language.placeless ds ≡ language.placeless es
  pub same_breach : (others : List Token) → AreAlike (bares tokens) (bares others) → (ds es : List D) → grammar language Current limits tokens ds → grammar language Current limits others es → BreakAlike language ds es

-- What it reads are the definitions, and nothing is left; and what it refuses is the refused token. The last three
-- fields are facts of the grammar alone.
pub record IsReadBy {D Document : Type 0} (language : Language D Document) (reader : Limits → Reader (List D)) : Type 0 where
  pub accepts : (limits : Limits) (ts : List Token) → EndsOnce ts → AreProperButFaults ts → (ds : List D) (rest : List Token) → whole_at (reader limits) ts ≡ Read ds rest → (rest ≡ []) × AreTheDefinitions language limits ts ds
  pub refuses : (limits : Limits) (ts : List Token) → EndsOnce ts → AreProperButFaults ts → (v : Verdict) (t : Token) (after : List Token) → whole_at (reader limits) ts ≡ Refused v (t ∷ after) → RefusedHere language limits ts v t after
  pub only : (limits : Limits) (ts : List Token) → EndsOnce ts → AreProperButFaults ts → (ds : List D) → grammar language Current limits ts ds → AreTheDefinitions language limits ts ds
  pub decided : (limits : Limits) (ts : List Token) → EndsOnce ts → AreProperButFaults ts → IsDecided language limits ts
  pub one_tree : (ts : List Token) → HasOneTree language ts
  pub bare : (limits : Limits) (ts : List Token) → RestsOnBareTokens language limits ts
  pub alike : (limits : Limits) (ts : List Token) → RestsOnAlikeTokens language limits ts
