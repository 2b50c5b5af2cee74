-- What a parse and a check promise of a text, and of the tokens that a lexer has left, whichever language they read.
-- Source: this project's choice.
use Rattle.std.specs.Prelude.{◌≡◌, ℕ, ◌+◌, Result, List, []}
use Rattle.std.specs.Str.{chars}
use Rattle.graphql_tokens.specs.tokens.Cuts.{Cuts, HasNoFault, IsCutInto}
use Rattle.graphql_tokens.specs.tokens.Edition.{Former, Current}
use Rattle.graphql_tokens.specs.tokens.Token.{Token, Lexing, left}
use Rattle.graphql_grammar.specs.answers.Answers.{Answers, AreTheDefinitions, HasOneTree, HasOneAnswer, IsDecided, RestsOnBareTokens, TakenFor}
use Rattle.graphql_grammar.specs.answers.Language.{Language, grammar}
use Rattle.graphql_grammar.specs.declared.error.Error.{Error}
use Rattle.graphql_reading.specs.grammar.Limits.{Limits}

-- A text, in UTF-8, is read as a document of the language within the limits, with this result.
pub record ReadsText {D Document : Type 0} (language : Language D Document) (limits : Limits) (text : List ℕ) (result : Result Document Error) : Type 0 where
  -- The text has a list of tokens.
  pub cut : (tokens : List Token) × IsCutInto text tokens
  -- The result says of the text's tokens what an answer says.
  pub answer : (tokens : List Token) → IsCutInto text tokens → Answers language limits tokens result
  -- A text that has a tree by the former grammar has the same tree now.
  pub former : (tokens : List Token) (ds : List D) → Cuts Former [] (chars text) tokens → grammar language Former limits tokens ds → IsCutInto text tokens × AreTheDefinitions language limits tokens ds
  -- The tokens of a text that the former edition cuts without a fault are those of now.
  pub former_tokens : (tokens : List Token) → HasNoFault tokens → Cuts Former [] (chars text) tokens → Answers language limits tokens result
  -- These four hold of each text, also where memory runs out.
  pub one_answer : (tokens : List Token) → IsCutInto text tokens → HasOneAnswer language limits tokens
  pub one_tree : (tokens : List Token) → IsCutInto text tokens → HasOneTree language tokens
  pub decided : (tokens : List Token) → IsCutInto text tokens → IsDecided language limits tokens
  pub bare : (tokens : List Token) → IsCutInto text tokens → RestsOnBareTokens language limits tokens

-- The tokens that a lexer has left are read so; the lexer is as the first before, and as the second afterwards.
pub record ReadsTokens {D Document : Type 0} (language : Language D Document) (limits : Limits) (old new : Lexing) (result : Result Document Error) : Type 0 where
  -- The result says of them what an answer says.
  pub answer : Answers language limits (left old) result
  -- Any tree of theirs is their one tree.
  pub only : (ds : List D) → grammar language Current limits (left old) ds → AreTheDefinitions language limits (left old) ds
  -- These four hold of any tokens, also where memory runs out.
  pub one_answer : HasOneAnswer language limits (left old)
  pub one_tree : HasOneTree language (left old)
  pub decided : IsDecided language limits (left old)
  pub bare : RestsOnBareTokens language limits (left old)
  -- So many more are taken,
  pub taken : (count : ℕ) × (new.taken ≡ old.taken + count) × TakenFor language limits (left old) result count
  -- of the same list and the same text.
  pub whole : new.whole ≡ old.whole
  pub text : new.text ≡ old.text
