-- The language of a parser: its grammar, what its rules forbid, and the documents that it makes.
-- Source: this project's choice.
use Rattle.std.specs.Prelude.{Option, List}
use Rattle.graphql_tokens.specs.tokens.Edition.{Edition}
use Rattle.graphql_grammar.specs.declared.error.Error.{Error}
use Rattle.graphql_reading.specs.grammar.Fronts.{Grammar, whole}

-- Of definitions D, and of documents Document as the code has them.
pub record Language (D Document : Type 0) : Type 1 where
  -- the definitions of a list of tokens without its end, by an edition and within limits
  pub definitions : Edition → Grammar (List D)
  -- the definitions with each place made 0:0
  pub placeless : List D → List D
  -- the error that a definition is after those that stand before it, if it breaks a rule there
  pub breach : List D → D → Option Error
  -- the error of a list whose definitions break no rule, if it lacks something
  pub lack : List D → Option Error
  -- the document that a list makes that breaks no rule and lacks nothing
  pub makes : List D → Document → Type 0

-- a document is its definitions and the end of the text
abbrev pub grammar : {D Document : Type 0} → Language D Document → Edition → Grammar (List D)
grammar language edition = whole (language.definitions edition)
