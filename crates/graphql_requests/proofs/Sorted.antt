-- What sorted definitions tell of one definition more, and how they stay sorted with it.
use Rattle.std.proofs.Common.{◌≡◌, is_some, Option, Some, None, option_map, List, [], ◌∷◌, ◌++◌, map, refl, sym, ap, ◌∙◌}
use Rattle.std.specs.Map.{lookup}
use Rattle.std.specs.Str.{bytes_eq}
use Rattle.std.proofs.lemmas.List.{append-nil}
use Rattle.graphql_tokens.specs.declared.pos.Pos.{Pos}
use Rattle.graphql_tokens.specs.declared.pos.Positioned.{Positioned}
use Rattle.graphql_trees.specs.declared.executable.OperationDefinition.{OperationDefinition}
use Rattle.graphql_trees.specs.declared.executable.FragmentDefinition.{FragmentDefinition}
use Rattle.graphql_trees.specs.declared.executable.DocumentOperations.{DocumentOperations}
use Rattle.graphql_trees.specs.declared.executable.DocumentOperations.TheVariants.{Single, Multiple}
use Rattle.graphql_syntax.specs.trees.Parts.{Name, placed}
use Rattle.graphql_trees.specs.trees.Request.{multiple}
use Rattle.graphql_trees.specs.trees.Request as request
use Rattle.graphql_trees.specs.trees.RequestViews.{operation_tree, fragment_tree, entry_tree, operations_tree}
use Rattle.graphql_requests.specs.declared.rules.Sorted.{Sorted}
use Rattle.graphql_requests.specs.grammar.Documents.{named_operations, fragments, operations_beside}
use Rattle.graphql_requests.specs.grammar.Request.{Definition, operation, fragment}
use Rattle.graphql_requests.specs.grammar.Requests.{requests}
use Rattle.graphql_requests.specs.grammar.Rules.{breach_of, missing_operation, first_operation, first_anonymous, first_operation_named, first_fragment_named}
use Rattle.graphql_grammar.specs.answers.Answers.{IsDocument, Lacks}
use Rattle.graphql_grammar.specs.answers.Breaches.{or_else}
use Rattle.graphql_grammar.specs.declared.error.Error.TheVariants.{MultipleOperations, OperationDuplicated, FragmentDuplicated, MissingOperation}
use Rattle.graphql_requests.specs.declared.definitions.Definition.{Definition as CodeDefinition}
use Rattle.graphql_requests.specs.reading.Definitions.{definition_tree}
use Rattle.graphql_requests.specs.reading.Sorting.{definition_trees, anonymous_in, first_place, IsSorted}
use Rattle.graphql_grammar.proofs.Breaches.{or-none, none-first, none-second}
use Rattle.graphql_grammar.proofs.Unbroken.{unbroken-none, unbroken-more}
use Rattle.graphql_requests.proofs.OneMore.{first-more, anonymous-more, named-more, fragments-more, anonymous-place, operation-place, fragment-place, lookup-place, map-last, first-place-map, first-place-more, none-inside, beside-anonymous, beside-named}

-- ---- what is found among them

map-place : {A B : Type 0} (tree : A → B) (x : Option (Positioned A)) → option_map (λ o. o.pos) (option_map (placed tree) x) ≡ option_map (λ o. o.pos) x
map-place tree None = refl
map-place tree (Some a) = refl

abbrev place-of : {A : Type 0} → Option (Positioned A) → Option Pos
place-of x = option_map (λ o. o.pos) x

pub anonymous-found : (ds : List Definition) (s : Sorted) → IsSorted ds s → first_anonymous ds ≡ option_map (λ o. o.pos) s.anonymous
anonymous-found ds s h = anonymous-place ds ∙ sym (ap place-of h.anonymous) ∙ map-place operation_tree s.anonymous

pub first-found : (ds : List Definition) (s : Sorted) → IsSorted ds s → first_operation ds ≡ or_else (option_map (λ o. o.pos) s.anonymous) (first_place s.operations.entries)
first-found ds s h =
    h.first
    ∙ ap (λ (x : Option (Positioned request.OperationDefinition)). or_else (place-of x) (first_place (named_operations ds))) (sym h.anonymous)
    ∙ ap (λ (x : Option Pos). or_else x (first_place (named_operations ds))) (map-place operation_tree s.anonymous)
    ∙ ap (λ (es : List (Name × Positioned request.OperationDefinition)). or_else (place-of s.anonymous) (first_place es)) (sym h.operations)
    ∙ ap (or_else (place-of s.anonymous)) (first-place-map operation_tree s.operations.entries)

pub operation-found : (name : Name) (ds : List Definition) (s : Sorted) → IsSorted ds s → first_operation_named name ds ≡ option_map (λ o. o.pos) (lookup (bytes_eq name) s.operations.entries)
operation-found name ds s h =
    operation-place name ds
    ∙ ap (λ (es : List (Name × Positioned request.OperationDefinition)). place-of (lookup (bytes_eq name) es)) (sym h.operations)
    ∙ lookup-place operation_tree name s.operations.entries

pub fragment-found : (name : Name) (ds : List Definition) (s : Sorted) → IsSorted ds s → first_fragment_named name ds ≡ option_map (λ f. f.pos) (lookup (bytes_eq name) s.fragments.entries)
fragment-found name ds s h =
    fragment-place name ds
    ∙ ap (λ (es : List (Name × Positioned request.FragmentDefinition)). place-of (lookup (bytes_eq name) es)) (sym h.fragments)
    ∙ lookup-place fragment_tree name s.fragments.entries

-- ---- breaches

pub operation-breaks : (ds : List Definition) (s : Sorted) (name : Name) (o : Positioned request.OperationDefinition) (place : Pos) → IsSorted ds s → option_map (λ o. o.pos) s.anonymous ≡ Some place → breach_of ds (operation (Some name) o) ≡ Some (MultipleOperations place o.pos)
operation-breaks ds s name o place h e =
    ap (λ (x : Option Pos). or_else (option_map (λ anonymous. MultipleOperations anonymous o.pos) x) (option_map (λ first. OperationDuplicated name first o.pos) (first_operation_named name ds))) (anonymous-found ds s h ∙ e)

-- after operations with names, only an operation of the name breaks a rule
pub named-breach : (ds : List Definition) (s : Sorted) (name : Name) (o : Positioned request.OperationDefinition) → IsSorted ds s → s.anonymous ≡ None → breach_of ds (operation (Some name) o) ≡ option_map (λ first. OperationDuplicated name first o.pos) (option_map (λ o. o.pos) (lookup (bytes_eq name) s.operations.entries))
named-breach ds s name o h e =
    ap (λ (x : Option Pos). or_else (option_map (λ anonymous. MultipleOperations anonymous o.pos) x) (option_map (λ first. OperationDuplicated name first o.pos) (first_operation_named name ds))) (anonymous-found ds s h ∙ ap place-of e)
    ∙ ap (option_map (λ first. OperationDuplicated name first o.pos)) (operation-found name ds s h)

pub fragment-breach : (ds : List Definition) (s : Sorted) (name : Name) (f : Positioned request.FragmentDefinition) → IsSorted ds s → breach_of ds (fragment name f) ≡ option_map (λ first. FragmentDuplicated name first f.pos) (option_map (λ f. f.pos) (lookup (bytes_eq name) s.fragments.entries))
fragment-breach ds s name f h = ap (option_map (λ first. FragmentDuplicated name first f.pos)) (fragment-found name ds s h)

-- ---- one more

no-entries : {A : Type 0} (es : List (Name × Positioned A)) → first_place es ≡ None → es ≡ []
no-entries [] e = refl
no-entries (x ∷ es) e = absurd cc

pub sorted-none : (s : Sorted) → s.anonymous ≡ None → s.operations.entries ≡ [] → s.fragments.entries ≡ [] → IsSorted [] s
sorted-none s a o f = record {
  unbroken = unbroken-none requests;
  first = refl;
  alone = λ e. refl;
  anonymous = ap (option_map (placed operation_tree)) a;
  operations = ap (map (entry_tree operation_tree)) o;
  fragments = ap (map (entry_tree fragment_tree)) f;
}

pub sorted-anonymous : (ds : List Definition) (s t : Sorted) (o : Positioned OperationDefinition) → IsSorted ds s → or_else (option_map (λ o. o.pos) s.anonymous) (first_place s.operations.entries) ≡ None → t.anonymous ≡ Some o → t.operations ≡ s.operations → t.fragments ≡ s.fragments → IsSorted (ds ++ operation None (placed operation_tree o) ∷ []) t
sorted-anonymous ds s t o h e now operations fragments =
    let d : Definition = operation None (placed operation_tree o) in
    let before : first_operation ds ≡ None = first-found ds s h ∙ e in
    let absent : anonymous_in ds ≡ None = none-inside (λ o. o.pos) (anonymous_in ds) (none-first _ (first_place (named_operations ds)) (sym h.first ∙ before)) in
    let empty : named_operations ds ≡ [] = no-entries (named_operations ds) (none-second (option_map (λ o. o.pos) (anonymous_in ds)) _ (sym h.first ∙ before)) in
    let named : named_operations (ds ++ d ∷ []) ≡ [] = named-more ds d ∙ append-nil (named_operations ds) ∙ empty in
    let its : anonymous_in (ds ++ d ∷ []) ≡ Some (placed operation_tree o) = anonymous-more ds d ∙ ap (λ (x : Option (Positioned request.OperationDefinition)). or_else x (Some (placed operation_tree o))) absent in
    record {
      unbroken = unbroken-more requests ds d h.unbroken (ap (option_map (λ first. MultipleOperations o.pos first)) before);
      first =
          first-more ds d ∙ ap (λ (x : Option Pos). or_else x (Some o.pos)) before
          ∙ sym (ap (λ (x : Option (Positioned request.OperationDefinition)). or_else (place-of x) (first_place (named_operations (ds ++ d ∷ [])))) its);
      alone = λ _. named;
      anonymous = ap (option_map (placed operation_tree)) now ∙ sym its;
      operations = ap (λ m. map (entry_tree operation_tree) m.entries) operations ∙ h.operations ∙ empty ∙ sym named;
      fragments = ap (λ m. map (entry_tree fragment_tree) m.entries) fragments ∙ h.fragments ∙ sym (fragments-more ds d ∙ append-nil _);
    }

pub sorted-operation : (ds : List Definition) (s t : Sorted) (name : Name) (o : Positioned OperationDefinition) → IsSorted ds s → s.anonymous ≡ None → lookup (bytes_eq name) s.operations.entries ≡ None → t.anonymous ≡ s.anonymous → t.operations.entries ≡ s.operations.entries ++ (name, o) ∷ [] → t.fragments ≡ s.fragments → IsSorted (ds ++ operation (Some name) (placed operation_tree o) ∷ []) t
sorted-operation ds s t name o h e none same pushed fragments =
    let d : Definition = operation (Some name) (placed operation_tree o) in
    let absent : anonymous_in ds ≡ None = sym h.anonymous ∙ ap (option_map (placed operation_tree)) e in
    let its : anonymous_in (ds ++ d ∷ []) ≡ None = anonymous-more ds d ∙ ap (λ (x : Option (Positioned request.OperationDefinition)). or_else x None) absent in
    let named = named-more ds d in
    let before : first_operation ds ≡ first_place (named_operations ds) = h.first ∙ ap (λ (x : Option (Positioned request.OperationDefinition)). or_else (place-of x) (first_place (named_operations ds))) absent in
    record {
      unbroken = unbroken-more requests ds d h.unbroken (named-breach ds s name (placed operation_tree o) h e ∙ ap (λ (x : Option (Positioned OperationDefinition)). option_map (λ first. OperationDuplicated name first o.pos) (place-of x)) none);
      first =
          first-more ds d ∙ ap (λ (x : Option Pos). or_else x (Some o.pos)) before ∙ sym (first-place-more (named_operations ds) ((name, placed operation_tree o) ∷ [])) ∙ ap first_place (sym named)
          ∙ sym (ap (λ (x : Option (Positioned request.OperationDefinition)). or_else (place-of x) (first_place (named_operations (ds ++ d ∷ [])))) its);
      alone = λ k. absurd (let never = sym (ap is_some its) ∙ k in cc);
      anonymous = ap (option_map (placed operation_tree)) (same ∙ e) ∙ sym its;
      operations = ap (map (entry_tree operation_tree)) pushed ∙ map-last (entry_tree operation_tree) s.operations.entries (name, o) ∙ ap (λ (es : List (Name × Positioned request.OperationDefinition)). es ++ (name, placed operation_tree o) ∷ []) h.operations ∙ sym named;
      fragments = ap (λ m. map (entry_tree fragment_tree) m.entries) fragments ∙ h.fragments ∙ sym (fragments-more ds d ∙ append-nil _);
    }

pub sorted-fragment : (ds : List Definition) (s t : Sorted) (name : Name) (f : Positioned FragmentDefinition) → IsSorted ds s → lookup (bytes_eq name) s.fragments.entries ≡ None → t.anonymous ≡ s.anonymous → t.operations ≡ s.operations → t.fragments.entries ≡ s.fragments.entries ++ (name, f) ∷ [] → IsSorted (ds ++ fragment name (placed fragment_tree f) ∷ []) t
sorted-fragment ds s t name f h none same operations pushed =
    let d : Definition = fragment name (placed fragment_tree f) in
    let its : anonymous_in (ds ++ d ∷ []) ≡ anonymous_in ds = anonymous-more ds d ∙ or-none (anonymous_in ds) in
    let named : named_operations (ds ++ d ∷ []) ≡ named_operations ds = named-more ds d ∙ append-nil (named_operations ds) in
    record {
      unbroken = unbroken-more requests ds d h.unbroken (fragment-breach ds s name (placed fragment_tree f) h ∙ ap (λ (x : Option (Positioned FragmentDefinition)). option_map (λ first. FragmentDuplicated name first f.pos) (place-of x)) none);
      first =
          first-more ds d ∙ or-none (first_operation ds) ∙ h.first
          ∙ ap (λ (x : Option (Positioned request.OperationDefinition)). or_else (place-of x) (first_place (named_operations ds))) (sym its)
          ∙ ap (λ (es : List (Name × Positioned request.OperationDefinition)). or_else (place-of (anonymous_in (ds ++ d ∷ []))) (first_place es)) (sym named);
      alone = λ k. named ∙ h.alone (sym (ap is_some its) ∙ k);
      anonymous = ap (option_map (placed operation_tree)) same ∙ h.anonymous ∙ sym its;
      operations = ap (λ m. map (entry_tree operation_tree) m.entries) operations ∙ h.operations ∙ sym named;
      fragments = ap (map (entry_tree fragment_tree)) pushed ∙ map-last (entry_tree fragment_tree) s.fragments.entries (name, f) ∙ ap (λ (es : List (Name × Positioned request.FragmentDefinition)). es ++ (name, placed fragment_tree f) ∷ []) h.fragments ∙ sym (fragments-more ds d);
    }

-- ---- documents

pub single-document : (ds : List Definition) (s : Sorted) (o : Positioned OperationDefinition) (operations : DocumentOperations) → IsSorted ds s → s.anonymous ≡ Some o → operations ≡ Single o → IsDocument requests ds (record { operations = operations; fragments = s.fragments })
single-document ds s o operations h e is =
    let its : anonymous_in ds ≡ Some (placed operation_tree o) = sym h.anonymous ∙ ap (option_map (placed operation_tree)) e in
    record {
      unbroken = h.unbroken;
      complete = ap missing_operation (first-found ds s h ∙ ap (λ (x : Option (Positioned OperationDefinition)). or_else (place-of x) (first_place s.operations.entries)) e);
      made =
          ap (λ os. record { operations = operations_tree os; fragments = map (entry_tree fragment_tree) s.fragments.entries }) is
          ∙ ap (λ os. record { operations = os; fragments = map (entry_tree fragment_tree) s.fragments.entries }) (sym (beside-anonymous (named_operations ds) ds (placed operation_tree o) its))
          ∙ ap (λ fs. record { operations = operations_beside (named_operations ds) ds; fragments = fs }) h.fragments;
    }

has-place : {A : Type 0} (es : List (Name × Positioned A)) → (es ≡ [] → ⊥) → (place : Pos) × (first_place es ≡ Some place)
has-place [] h = absurd (h refl)
has-place (e ∷ es) h = (e.1.pos, refl)

pub multiple-document : (ds : List Definition) (s : Sorted) (operations : DocumentOperations) → IsSorted ds s → s.anonymous ≡ None → (s.operations.entries ≡ [] → ⊥) → operations ≡ Multiple s.operations → IsDocument requests ds (record { operations = operations; fragments = s.fragments })
multiple-document ds s operations h e some is =
    let its : anonymous_in ds ≡ None = sym h.anonymous ∙ ap (option_map (placed operation_tree)) e in
    let p = has-place s.operations.entries some in
    record {
      unbroken = h.unbroken;
      complete = ap missing_operation (first-found ds s h ∙ ap (λ (x : Option (Positioned OperationDefinition)). or_else (place-of x) (first_place s.operations.entries)) e ∙ p.1);
      made =
          ap (λ os. record { operations = operations_tree os; fragments = map (entry_tree fragment_tree) s.fragments.entries }) is
          ∙ ap (λ es. record { operations = multiple es; fragments = map (entry_tree fragment_tree) s.fragments.entries }) h.operations
          ∙ ap (λ os. record { operations = os; fragments = map (entry_tree fragment_tree) s.fragments.entries }) (sym (beside-named (named_operations ds) ds its))
          ∙ ap (λ fs. record { operations = operations_beside (named_operations ds) ds; fragments = fs }) h.fragments;
    }

-- without an operation, one is lacking
pub lacks-operation : (ds : List Definition) (s : Sorted) → IsSorted ds s → s.anonymous ≡ None → s.operations.entries ≡ [] → Lacks requests ds MissingOperation
lacks-operation ds s h e none = record {
  unbroken = h.unbroken;
  is = ap missing_operation (first-found ds s h
      ∙ ap (λ (x : Option (Positioned OperationDefinition)). or_else (place-of x) (first_place s.operations.entries)) e
      ∙ ap (λ (es : List (Name × Positioned OperationDefinition)). first_place es) none);
}

-- ---- lists of definitions of the code

pub trees-split : (before : List CodeDefinition) (d : CodeDefinition) (after : List CodeDefinition) → definition_trees (before ++ d ∷ after) ≡ definition_trees before ++ definition_tree d ∷ definition_trees after
trees-split [] d after = refl
trees-split (x ∷ before) d after = ap (λ (l : List Definition). definition_tree x ∷ l) (trees-split before d after)
