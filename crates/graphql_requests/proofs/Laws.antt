-- The names in a document that breaks no rule are distinct.
use Rattle.std.proofs.Common.{◌≡◌, Option, Some, None, option_map, List, [], ◌∷◌, ◌++◌, Result, Ok, Err, IfOk, refl, sym, ap, ◌∙◌, subst}
use Rattle.std.specs.List.{AllByRecursion}
use Rattle.std.specs.Map.{lookup}
use Rattle.std.specs.Str.{bytes_eq}
use Rattle.graphql_tokens.specs.declared.pos.Pos.{Pos}
use Rattle.graphql_tokens.specs.declared.pos.Positioned.{Positioned}
use Rattle.graphql_tokens.specs.tokens.Token.{Token}
use Rattle.graphql_trees.specs.declared.executable.ExecutableDocument.{ExecutableDocument}
use Rattle.graphql_syntax.specs.trees.Parts.{Name}
use Rattle.graphql_trees.specs.trees.Request.{OperationDefinition, FragmentDefinition, Operations, single, multiple}
use Rattle.graphql_trees.specs.trees.RequestViews.{document_tree}
use Rattle.graphql_grammar.specs.answers.Answers.{Answers, AreUnbroken, IsDocument}
use Rattle.graphql_grammar.specs.declared.error.Error.{Error}
use Rattle.graphql_grammar.specs.declared.error.Error.TheVariants.{MultipleOperations, OperationDuplicated, FragmentDuplicated}
use Rattle.graphql_reading.specs.grammar.Limits.{Limits}
use Rattle.graphql_grammar.proofs.Breaches.{none-second}
use Rattle.graphql_grammar.proofs.Unbroken.{not-nil}
use Rattle.graphql_reading.proofs.IgnoresPlaces.{head-is, tail-is}
use Rattle.graphql_requests.specs.grammar.Documents.{named_operations, fragments, operations_beside, document_of}
use Rattle.graphql_requests.specs.grammar.Laws.{HasDistinctNames, AreDistinct, IsLawful}
use Rattle.graphql_requests.specs.grammar.Request.{Definition, operation, fragment}
use Rattle.graphql_requests.specs.grammar.Requests.{requests}
use Rattle.graphql_requests.specs.grammar.Rules.{breach_of, lack_of, missing_operation, first_operation, first_anonymous, first_operation_named, first_fragment_named}
use Rattle.graphql_requests.proofs.DistinctObjects.{OfDefinition, all-distinct, in-operations, in-fragments, in-beside}
use Rattle.graphql_requests.proofs.OneMore.{operation-place, fragment-place, none-inside}

-- ---- an entry comes from a definition, and those before it from the definitions before that

pub record Comes {A : Type 0} (entries : List Definition → List (Name × A)) (made : Name × A → Definition) (ds : List Definition) (before : List (Name × A)) (e : Name × A) : Type 0 where
  pub first : List Definition
  pub rest : List Definition
  pub split : ds ≡ first ++ made e ∷ rest
  pub same : entries first ≡ before

abbrev an-operation : Name × Positioned OperationDefinition → Definition
an-operation e = operation (Some e.0) e.1

abbrev a-fragment : Name × Positioned FragmentDefinition → Definition
a-fragment e = fragment e.0 e.1

abbrev Named : Type 0
Named = Name × Positioned OperationDefinition

-- a definition is made of one entry, or of none
data Picks {A : Type 0} (entries : List Definition → List (Name × A)) (made : Name × A → Definition) (d : Definition) : Type 0 where
  one : (e : Name × A) → d ≡ made e → ((ds : List Definition) → entries (d ∷ ds) ≡ e ∷ entries ds) → Picks entries made d
  none : ((ds : List Definition) → entries (d ∷ ds) ≡ entries ds) → Picks entries made d

comes : {A : Type 0} (entries : List Definition → List (Name × A)) (made : Name × A → Definition) → entries [] ≡ [] → ((d : Definition) → Picks entries made d) → (ds : List Definition) (before : List (Name × A)) (e : Name × A) (after : List (Name × A)) → entries ds ≡ before ++ e ∷ after → Comes entries made ds before e
comes entries made empty picks [] before e after h = absurd (not-nil e before after (sym empty ∙ h))
comes {A} entries made empty picks (d ∷ ds) before e after h = go (picks d) before (λ before h. comes entries made empty picks ds before e after h) h
  where
    go : Picks entries made d → (before : List (Name × A)) → ((before : List (Name × A)) → entries ds ≡ before ++ e ∷ after → Comes entries made ds before e) → entries (d ∷ ds) ≡ before ++ e ∷ after → Comes entries made (d ∷ ds) before e
    go (none skips) before further h =
        let m = further before (sym (skips ds) ∙ h) in
        record { first = d ∷ m.first; rest = m.rest; split = ap (λ (l : List Definition). d ∷ l) m.split; same = skips m.first ∙ m.same }
    go (one x is adds) [] further h = record {
      first = [];
      rest = ds;
      split = ap (λ (y : Definition). y ∷ ds) (is ∙ ap made (head-is x e (entries ds) after (sym (adds ds) ∙ h)));
      same = empty;
    }
    go (one x is adds) (b ∷ before) further h =
        let split : x ∷ entries ds ≡ b ∷ before ++ e ∷ after = sym (adds ds) ∙ h in
        let m = further before (tail-is x b (entries ds) (before ++ e ∷ after) split) in
        record {
          first = d ∷ m.first;
          rest = m.rest;
          split = ap (λ (l : List Definition). d ∷ l) m.split;
          same = adds m.first ∙ ap (λ (l : List (Name × A)). x ∷ l) m.same ∙ ap (λ (y : Name × A). y ∷ before) (head-is x b (entries ds) (before ++ e ∷ after) split);
        }

picks-operation : (d : Definition) → Picks named_operations an-operation d
picks-operation (operation None o) = none (λ ds. refl)
picks-operation (operation (Some name) o) = one (name, o) refl (λ ds. refl)
picks-operation (fragment name f) = none (λ ds. refl)

picks-fragment : (d : Definition) → Picks fragments a-fragment d
picks-fragment (operation name o) = none (λ ds. refl)
picks-fragment (fragment name f) = one (name, f) refl (λ ds. refl)

-- ---- so its name is none of theirs

distinct-operations : (ds : List Definition) → AreUnbroken requests ds → HasDistinctNames (named_operations ds)
distinct-operations ds unbroken before e after h =
    let m = comes named_operations an-operation refl picks-operation ds before e after h in
    let keeps : breach_of m.first (an-operation e) ≡ None = unbroken m.first (an-operation e) m.rest m.split in
    let second = none-second (option_map (λ anonymous. MultipleOperations anonymous e.1.pos) (first_anonymous m.first)) (option_map (λ first. OperationDuplicated e.0 first e.1.pos) (first_operation_named e.0 m.first)) keeps in
    let absent = none-inside (λ first. OperationDuplicated e.0 first e.1.pos) (first_operation_named e.0 m.first) second in
    ap (lookup (bytes_eq e.0)) (sym m.same) ∙ none-inside (λ o. o.pos) (lookup (bytes_eq e.0) (named_operations m.first)) (sym (operation-place e.0 m.first) ∙ absent)

distinct-fragments : (ds : List Definition) → AreUnbroken requests ds → HasDistinctNames (fragments ds)
distinct-fragments ds unbroken before e after h =
    let m = comes fragments a-fragment refl picks-fragment ds before e after h in
    let keeps : breach_of m.first (a-fragment e) ≡ None = unbroken m.first (a-fragment e) m.rest m.split in
    let absent = none-inside (λ first. FragmentDuplicated e.0 first e.1.pos) (first_fragment_named e.0 m.first) keeps in
    ap (lookup (bytes_eq e.0)) (sym m.same) ∙ none-inside (λ f. f.pos) (lookup (bytes_eq e.0) (fragments m.first)) (sym (fragment-place e.0 m.first) ∙ absent)

-- ---- operations

-- where there is an operation, and none without a name, there is one with a name
some-named : (ds : List Definition) → (first_operation ds ≡ None → ⊥) → (named : List Named) → operations_beside named ds ≡ multiple named → named_operations ds ≡ [] → ⊥
some-named [] some named e empty = some refl
some-named (operation None o ∷ ds) some named e empty = clash o named e
  where
    clash : (o : Positioned OperationDefinition) (named : List Named) → single o ≡ multiple named → ⊥
    clash o named e = absurd cc
some-named (operation (Some name) o ∷ ds) some named e empty = absurd cc
some-named (fragment name f ∷ ds) some named e empty = some-named ds some named e empty

lacks-none : (place : Option Pos) → missing_operation place ≡ None → place ≡ None → ⊥
lacks-none None e h = absurd cc
lacks-none (Some p) e h = absurd cc

beside : (ds : List Definition) → AreUnbroken requests ds → lack_of ds ≡ None → (os : Operations) → operations_beside (named_operations ds) ds ≡ os → AreDistinct os
beside ds unbroken complete (single o) e = tt
beside ds unbroken complete (multiple es) e =
    let same : es ≡ named_operations ds = named ds (named_operations ds) es e in (
      λ empty. some-named ds (lacks-none (first_operation ds) complete) (named_operations ds) (e ∙ ap multiple same) (sym same ∙ empty),
      subst HasDistinctNames (sym same) (distinct-operations ds unbroken),
    )
  where
    inner : (xs ys : List Named) → multiple xs ≡ multiple ys → ys ≡ xs
    inner xs ys e = cc

    clash : (o : Positioned OperationDefinition) (named : List Named) → single o ≡ multiple named → ⊥
    clash o named e = absurd cc

    named : (l : List Definition) (xs es : List Named) → operations_beside xs l ≡ multiple es → es ≡ xs
    named [] xs es e = inner xs es e
    named (operation None o ∷ l) xs es e = absurd (clash o es e)
    named (operation (Some name) o ∷ l) xs es e = named l xs es e
    named (fragment name f ∷ l) xs es e = named l xs es e

lawful : (ds : List Definition) (document : ExecutableDocument) → AllByRecursion OfDefinition ds → IsDocument requests ds document → IsLawful (document_tree document)
lawful ds document distinct h = subst IsLawful (sym h.made) (record {
  operations = beside ds h.unbroken h.complete (document_of ds).operations refl;
  fragments = distinct-fragments ds h.unbroken;
  in_operations = in-beside (named_operations ds) ds (in-operations ds distinct) distinct;
  in_fragments = in-fragments ds distinct;
})

pub lawful-answer : (limits : Limits) (ts : List Token) (result : Result ExecutableDocument Error) → Answers requests limits ts result → IfOk result (λ document. IsLawful (document_tree document))
lawful-answer limits ts (Ok document) (ds, h, is) = lawful ds document (all-distinct limits ts ds h.within) is
lawful-answer limits ts (Err error) h = tt
