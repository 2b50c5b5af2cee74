-- What the answer of a parser tells of a text: whether its tokens have a tree.
use Rattle.std.proofs.Common.{◌≡◌, ℕ, Bool, true, false, IsTrue, ◌↔◌, Result, Ok, Err, List, refl}
use Rattle.std.specs.Prelude.{IfOk}
use Rattle.std.specs.declared.alloc.AllocError.{AllocError}
use Rattle.graphql_tokens.specs.tokens.Cuts.{IsCutInto}
use Rattle.graphql_tokens.specs.tokens.Edition.{Current}
use Rattle.graphql_tokens.specs.tokens.Token.{Token}
use Rattle.graphql_reading.specs.grammar.Limits.{Limits}
use Rattle.graphql_grammar.specs.answers.Answers.{Answers, ErrorMeans}
use Rattle.graphql_grammar.specs.answers.Language.{Language, grammar}
use Rattle.graphql_grammar.specs.declared.error.Error.{Error}
use Rattle.graphql_grammar.specs.declared.error.Error.TheVariants.{Syntax, MultipleRoots, MissingQueryRoot, MultipleOperations, OperationDuplicated, FragmentDuplicated, MissingOperation, RecursionLimitExceeded, OutOfMemory}
use Rattle.graphql_report.specs.reports.Expected.{HasTree}
use Rattle.graphql_report.specs.inner.Told.{TellsTree}

has : {D Document : Type 0} (language : Language D Document) (limits : Limits) (ts : List Token) (ds : List D) → grammar language Current limits ts ds → (b : Bool) → b ≡ true → IsTrue b ↔ HasTree language limits ts
has language limits ts ds h b is = (λ _. (ds, h), λ _. is)

has-none : {D Document : Type 0} (language : Language D Document) (limits : Limits) (ts : List Token) → ((ds : List D) → grammar language Current limits ts ds → ⊥) → (b : Bool) → b ≡ false → IsTrue b ↔ HasTree language limits ts
has-none language limits ts none b is = (λ t. absurd cc, λ h. absurd (none h.0 h.1))

told : {D Document : Type 0} (language : Language D Document) (limits : Limits) (ts : List Token) (error : Error) → ErrorMeans language limits ts error → (b : Bool) → TellsTree error (Ok b) → IsTrue b ↔ HasTree language limits ts
told language limits ts (Syntax message start stop) means b tells = has-none language limits ts means.0.no_tree b tells
told language limits ts RecursionLimitExceeded means b tells = has-none language limits ts means.no_tree b tells
told language limits ts OutOfMemory means b tells = absurd tells
told language limits ts (MultipleRoots root schema pos) means b tells = has language limits ts means.definitions means.tree.within b tells
told language limits ts (MissingQueryRoot pos) means b tells = has language limits ts means.definitions means.tree.within b tells
told language limits ts (MultipleOperations anonymous operation) means b tells = has language limits ts means.definitions means.tree.within b tells
told language limits ts (OperationDuplicated operation first second) means b tells = has language limits ts means.definitions means.tree.within b tells
told language limits ts (FragmentDuplicated fragment first second) means b tells = has language limits ts means.definitions means.tree.within b tells
told language limits ts MissingOperation means b tells = has language limits ts means.definitions means.tree.within b tells

-- the answer is right of each list into which the text is cut
abbrev pub IsRight : {D Document : Type 0} → Language D Document → Limits → List ℕ → Bool → Type 0
IsRight language limits text b = (ts : List Token) → IsCutInto text ts → IsTrue b ↔ HasTree language limits ts

pub refused-right : {D Document : Type 0} (language : Language D Document) (limits : Limits) (text : List ℕ) (error : Error) → ((ts : List Token) → IsCutInto text ts → ErrorMeans language limits ts error) → (result : Result Bool AllocError) → TellsTree error result → IfOk result (IsRight language limits text)
refused-right language limits text error means (Err refused) tells = tt
refused-right language limits text error means (Ok b) tells = λ ts cut. told language limits ts error (means ts cut) b tells

pub accepted-right : {D Document : Type 0} (language : Language D Document) (limits : Limits) (text : List ℕ) → (document : Document) → ((ts : List Token) → IsCutInto text ts → Answers language limits ts (Ok document)) → IsRight language limits text true
accepted-right language limits text document answers = λ ts cut. has language limits ts (answers ts cut).0 (answers ts cut).1.within true refl
