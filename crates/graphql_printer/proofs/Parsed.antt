-- The document of a parse is that of its text; and where a text makes the same as other definitions, its parse gives a document
-- that is made so, unless memory runs out.
use Rattle.std.proofs.Common.{◌≡◌, ℕ, inl, inr, Result, Ok, Err, Option, Some, None, List, refl, sym, ap, ◌∙◌, subst}
use Rattle.std.specs.Str.{IsUtf8}
use Rattle.graphql_tokens.specs.tokens.Token.{Token}
use Rattle.graphql_reading.specs.grammar.Limits.{Limits}
use Rattle.graphql_grammar.specs.answers.Answers.{AreTheDefinitions, Answers, Breaks}
use Rattle.graphql_grammar.specs.answers.Language.{Language}
use Rattle.graphql_grammar.specs.answers.Reads.{ReadsText}
use Rattle.graphql_grammar.specs.declared.error.Error.{Error}
use Rattle.graphql_grammar.specs.declared.error.Error.TheVariants.{Syntax, RecursionLimitExceeded, OutOfMemory, MultipleRoots, MissingQueryRoot, MultipleOperations, OperationDuplicated, FragmentDuplicated, MissingOperation}
use Rattle.graphql_printer.specs.Printed.{IsDocumentOf, MakesTheSame}

pub of_parsed : {D Document : Type 0} (language : Language D Document) (limits : Limits) (text : List ℕ) (document : Document) → IsUtf8 text → ReadsText language limits text (Ok document) → IsDocumentOf language limits text document
of_parsed language limits text document utf8 reads =
    let a = reads.answer reads.cut.0 reads.cut.1 in
    record { utf8 = utf8; tokens = reads.cut.0; cut = reads.cut.1; definitions = a.0; tree = a.1; sound = (a.2.unbroken, a.2.complete); made = a.2.made }

module _ {D Document T : Type 0} (language : Language D Document) (made_of : List D → T) (limits : Limits) (ds : List D) (text : List ℕ) (same : MakesTheSame language made_of limits ds text) where
  -- the parse gives a document that is made of the text's one tree, or memory ran out
  abbrev pub IsReadAgain : Result Document Error → Type 0
  IsReadAgain (Ok document) = language.makes same.other_definitions document
  IsReadAgain (Err error) = error ≡ OutOfMemory

  not-some : {A : Type 0} (o : Option A) (a : A) → o ≡ None → o ≡ Some a → ⊥
  not-some None a e h = cc
  not-some (Some b) a e h = cc

  -- a sound tree breaks nothing
  breaks-none : (tokens : List Token) (error : Error) → AreTheDefinitions language limits tokens same.other_definitions → Breaks language limits tokens error → ⊥
  breaks-none tokens error tree broken =
      let one : broken.definitions ≡ same.other_definitions = tree.only broken.definitions (limits, broken.tree.within) in
      elim broken.broken [
        | inl first ↦ not-some (language.breach first.before first.broken) error (same.sound.0 first.before first.broken first.after (sym one ∙ first.split)) first.is
        | inr lacks ↦ not-some (language.lack broken.definitions) error (ap language.lack one ∙ same.sound.1) lacks.is
      ]

  by_answer : (tokens : List Token) (result : Result Document Error) → AreTheDefinitions language limits tokens same.other_definitions → Answers language limits tokens result → IsReadAgain result
  by_answer tokens (Ok document) tree a = subst (λ (l : List D). language.makes l document) (tree.only a.0 (limits, a.1.within)) a.2.made
  by_answer tokens (Err OutOfMemory) tree a = refl
  by_answer tokens (Err (Syntax message start end)) tree a = absurd (a.0.no_tree same.other_definitions tree.within)
  by_answer tokens (Err RecursionLimitExceeded) tree a = absurd (a.no_tree same.other_definitions tree.within)
  by_answer tokens (Err (MultipleRoots root schema pos)) tree a = absurd (breaks-none tokens (MultipleRoots root schema pos) tree a)
  by_answer tokens (Err (MissingQueryRoot pos)) tree a = absurd (breaks-none tokens (MissingQueryRoot pos) tree a)
  by_answer tokens (Err (MultipleOperations anonymous pos)) tree a = absurd (breaks-none tokens (MultipleOperations anonymous pos) tree a)
  by_answer tokens (Err (OperationDuplicated name first second)) tree a = absurd (breaks-none tokens (OperationDuplicated name first second) tree a)
  by_answer tokens (Err (FragmentDuplicated name first second)) tree a = absurd (breaks-none tokens (FragmentDuplicated name first second) tree a)
  by_answer tokens (Err MissingOperation) tree a = absurd (breaks-none tokens MissingOperation tree a)

  pub read_again : (result : Result Document Error) → ReadsText language limits text result → IsReadAgain result
  read_again result reads = by_answer reads.cut.0 result (same.tree reads.cut.0 reads.cut.1) (reads.answer reads.cut.0 reads.cut.1)
