-- What the calls promise that write a text anew.
-- Source: this project's choice.
use Rattle.std.specs.Prelude.{◌≡◌, ℕ, None, Result, Ok, Err, List}
use Rattle.graphql_tokens.specs.tokens.Cuts.{IsCutInto}
use Rattle.graphql_tokens.specs.tokens.Token.{Token}
use Rattle.graphql_reading.specs.grammar.Limits.{Limits}
use Rattle.graphql_grammar.specs.answers.Answers.{AreTheDefinitions, AreUnbroken}
use Rattle.graphql_grammar.specs.answers.Language.{Language}
use Rattle.graphql_grammar.specs.declared.error.Error.{Error}

-- what the call says of the text that it was given: that it is accepted, or the error
abbrev pub judgement_of : {T : Type 0} → Result T Error → Result (Unit {0}) Error
judgement_of (Ok written) = Ok tt
judgement_of (Err error) = Err error

-- the definitions break no rule and lack nothing
abbrev pub AreSound : {D Document : Type 0} → Language D Document → List D → Type 0
AreSound language ds = AreUnbroken language ds × (language.lack ds ≡ None)

-- Each of the two texts has its one tree within the limits. The trees are sound, and the same but for their places.
pub record MeanTheSame {D Document : Type 0} (language : Language D Document) (limits : Limits) (text other : List ℕ) : Type 0 where
  pub definitions : List D
  pub other_definitions : List D
  pub tree : (tokens : List Token) → IsCutInto text tokens → AreTheDefinitions language limits tokens definitions
  pub other_tree : (tokens : List Token) → IsCutInto other tokens → AreTheDefinitions language limits tokens other_definitions
  pub same : language.placeless definitions ≡ language.placeless other_definitions
  pub sound : AreSound language definitions
  pub other_sound : AreSound language other_definitions
