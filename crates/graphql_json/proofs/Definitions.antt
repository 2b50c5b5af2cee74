-- Definitions that break no rule: all operations among them, and what each breaks.
use Rattle.std.proofs.Common.{◌≡◌, Option, Some, None, option_map, List, [], ◌∷◌, ◌++◌, map, refl, sym, ap, ◌∙◌, append_assoc}
use Rattle.graphql_grammar.proofs.Breaches.{none-first, none-second}
use Rattle.graphql_parser.specs.answers.Answers.{AreUnbroken}
use Rattle.graphql_parser.specs.answers.Breaches.{or_else}
use Rattle.graphql_parser.specs.answers.Language.{Language}
use Rattle.graphql_parser.specs.requests.Documents.{named_operations, document_of}
use Rattle.graphql_parser.specs.requests.Request.{Definition, operation, fragment}
use Rattle.graphql_parser.specs.requests.Requests.{requests}
use Rattle.graphql_parser.specs.requests.Rules.{first_operation, first_anonymous}
use Rattle.graphql_parser.specs.trees.Request.{OperationDefinition, operations_of}
use Rattle.graphql_parser.specs.types.Error.TheVariants.{MultipleOperations}
use Rattle.graphql_parser.specs.types.Pos.{Pos}
use Rattle.graphql_parser.specs.types.Positioned.{Positioned}
use Rattle.graphql_json.specs.nodes.Requests.{Operation}
use Rattle.graphql_requests.proofs.OneMore.{first-more, anonymous-more, anonymous-place, beside-anonymous, beside-named, none-inside}
use Rattle.graphql_requests.specs.reading.Sorting.{anonymous_in}

-- ---- in any language

-- each of these breaks no rule after the definitions before it
abbrev pub AreKept : {D Document : Type 0} → Language D Document → List D → List D → Type 0
AreKept language before [] = Unit {0}
AreKept language before (d ∷ ds) = (language.breach before d ≡ None) × AreKept language (before ++ d ∷ []) ds

kept_from : {D Document : Type 0} (language : Language D Document) (whole before ds : List D) → AreUnbroken language whole → whole ≡ before ++ ds → AreKept language before ds
kept_from language whole before [] h e = tt
kept_from language whole before (d ∷ ds) h e = (h before d ds e, kept_from language whole (before ++ d ∷ []) ds h (e ∙ sym (append_assoc before (d ∷ []) ds)))

pub kept : {D Document : Type 0} (language : Language D Document) (ds : List D) → AreUnbroken language ds → AreKept language [] ds
kept language ds h = kept_from language ds [] ds h refl

-- ---- operations

-- all operations, in source order
abbrev pub operations_in : List Definition → List Operation
operations_in [] = []
operations_in (operation name o ∷ ds) = (name, o) ∷ operations_in ds
operations_in (fragment name f ∷ ds) = operations_in ds

-- after an operation without a name stands no other
none_after : (before ds : List Definition) (o : Positioned OperationDefinition) (first : Pos) → anonymous_in before ≡ Some o → first_operation before ≡ Some first → AreKept requests before ds → operations_in ds ≡ []
none_after before [] o first a f h = refl
none_after before (operation None p ∷ ds) o first a f h =
    absurd (let breaks : Some (MultipleOperations p.pos first) ≡ None = sym (ap (option_map (λ first. MultipleOperations p.pos first)) f) ∙ h.0 in cc)
none_after before (operation (Some name) p ∷ ds) o first a f h =
    let place : first_anonymous before ≡ Some o.pos = anonymous-place before ∙ ap (option_map (λ o. o.pos)) a in
    absurd (let breaks : option_map (λ anonymous. MultipleOperations anonymous p.pos) (Some o.pos) ≡ None = sym (ap (option_map (λ anonymous. MultipleOperations anonymous p.pos)) place) ∙ none-first _ _ h.0 in cc)
none_after before (fragment name g ∷ ds) o first a f h =
    let d = fragment name g in
    none_after (before ++ d ∷ []) ds o first (anonymous-more before d ∙ ap (λ x. or_else x None) a) (first-more before d ∙ ap (λ x. or_else x None) f) h.1

-- an operation without a name is the only one
alone : (before ds : List Definition) (o : Positioned OperationDefinition) → anonymous_in before ≡ None → anonymous_in ds ≡ Some o → AreKept requests before ds
    → (first_operation before ≡ None) × (operations_in ds ≡ (None, o) ∷ [])
alone before [] o none is h = absurd cc
alone before (operation None p ∷ ds) o none is h =
    let d = operation None p in
    let first = none-inside (λ first. MultipleOperations p.pos first) (first_operation before) h.0 in
    let same : p ≡ o = cc in
    let no_others = none_after (before ++ d ∷ []) ds p p.pos (anonymous-more before d ∙ ap (λ x. or_else x (Some p)) none) (first-more before d ∙ ap (λ x. or_else x (Some p.pos)) first) h.1 in
    (first, ap (λ (os : List Operation). (None, p) ∷ os) no_others ∙ ap (λ (x : Positioned OperationDefinition). (None, x) ∷ []) same)
alone before (operation (Some name) p ∷ ds) o none is h =
    let d = operation (Some name) p in
    let rest = alone (before ++ d ∷ []) ds o (anonymous-more before d ∙ ap (λ x. or_else x None) none) is h.1 in
    absurd (let some : Some p.pos ≡ None = none-second (first_operation before) (Some p.pos) (sym (first-more before d) ∙ rest.0) in cc)
alone before (fragment name f ∷ ds) o none is h =
    let d = fragment name f in
    let rest = alone (before ++ d ∷ []) ds o (anonymous-more before d ∙ ap (λ x. or_else x None) none) is h.1 in
    (none-first (first_operation before) None (sym (first-more before d) ∙ rest.0), rest.1)

named : (ds : List Definition) → anonymous_in ds ≡ None → map (λ operation. (Some operation.0, operation.1)) (named_operations ds) ≡ operations_in ds
named [] e = refl
named (operation None o ∷ ds) e = absurd cc
named (operation (Some name) o ∷ ds) e = ap (λ (os : List Operation). (Some name, o) ∷ os) (named ds e)
named (fragment name f ∷ ds) e = named ds e

-- a document has all operations of its definitions, in source order
pub all_operations : (ds : List Definition) → AreUnbroken requests ds → operations_of (document_of ds).operations ≡ operations_in ds
all_operations ds h = by (anonymous_in ds) refl
  where
    by : (o : Option (Positioned OperationDefinition)) → anonymous_in ds ≡ o → operations_of (document_of ds).operations ≡ operations_in ds
    by None e = ap operations_of (beside-named (named_operations ds) ds e) ∙ named ds e
    by (Some o) e = ap operations_of (beside-anonymous (named_operations ds) ds o e) ∙ sym (alone [] ds o refl e (kept requests ds h)).1
