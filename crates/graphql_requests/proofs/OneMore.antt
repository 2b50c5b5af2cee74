-- What is known of definitions that break no rule, with one more after them.
use Rattle.std.proofs.Common.{◌≡◌, Bool, true, false, cond, Option, Some, None, option_map, List, [], ◌∷◌, ◌++◌, map, refl, sym, ap, ◌∙◌}
use Rattle.std.specs.Map.{lookup}
use Rattle.std.specs.Str.{bytes_eq}
use Rattle.graphql_tokens.specs.declared.pos.Pos.{Pos}
use Rattle.graphql_tokens.specs.declared.pos.Positioned.{Positioned}
use Rattle.graphql_syntax.specs.trees.Parts.{Name, placed}
use Rattle.graphql_trees.specs.trees.Request.{OperationDefinition, FragmentDefinition, single, multiple}
use Rattle.graphql_trees.specs.trees.RequestViews.{entry_tree}
use Rattle.indexmap.specs.IndexMap.{insert_entry}
use Rattle.graphql_grammar.specs.answers.Breaches.{or_else}
use Rattle.graphql_requests.specs.grammar.Documents.{named_operations, fragments, operations_beside}
use Rattle.graphql_requests.specs.grammar.Request.{Definition, operation, fragment}
use Rattle.graphql_requests.specs.grammar.Rules.{first_operation, first_anonymous, first_operation_named, first_fragment_named}
use Rattle.graphql_requests.specs.reading.Sorting.{anonymous_in, first_place}

-- ---- what is found in the list with one more

pub first-more : (ds : List Definition) (d : Definition) → first_operation (ds ++ d ∷ []) ≡ or_else (first_operation ds) (first_operation (d ∷ []))
first-more [] d = refl
first-more (operation name o ∷ ds) d = refl
first-more (fragment name f ∷ ds) d = first-more ds d

pub anonymous-more : (ds : List Definition) (d : Definition) → anonymous_in (ds ++ d ∷ []) ≡ or_else (anonymous_in ds) (anonymous_in (d ∷ []))
anonymous-more [] d = refl
anonymous-more (operation None o ∷ ds) d = refl
anonymous-more (operation (Some name) o ∷ ds) d = anonymous-more ds d
anonymous-more (fragment name f ∷ ds) d = anonymous-more ds d

pub named-more : (ds : List Definition) (d : Definition) → named_operations (ds ++ d ∷ []) ≡ named_operations ds ++ named_operations (d ∷ [])
named-more [] d = refl
named-more (operation None o ∷ ds) d = named-more ds d
named-more (operation (Some name) o ∷ ds) d = ap (λ (l : List (Name × Positioned OperationDefinition)). (name, o) ∷ l) (named-more ds d)
named-more (fragment name f ∷ ds) d = named-more ds d

pub fragments-more : (ds : List Definition) (d : Definition) → fragments (ds ++ d ∷ []) ≡ fragments ds ++ fragments (d ∷ [])
fragments-more [] d = refl
fragments-more (operation name o ∷ ds) d = fragments-more ds d
fragments-more (fragment name f ∷ ds) d = ap (λ (l : List (Name × Positioned FragmentDefinition)). (name, f) ∷ l) (fragments-more ds d)

-- ---- the first of a kind, by what is kept

place : {A : Type 0} → Positioned A → Pos
place o = o.pos

pub anonymous-place : (ds : List Definition) → first_anonymous ds ≡ option_map (λ o. o.pos) (anonymous_in ds)
anonymous-place [] = refl
anonymous-place (operation None o ∷ ds) = refl
anonymous-place (operation (Some name) o ∷ ds) = anonymous-place ds
anonymous-place (fragment name f ∷ ds) = anonymous-place ds

map-cond : {A B : Type 0} (f : A → B) (w : Bool) (x y : Option A) → option_map f (cond w x y) ≡ cond w (option_map f x) (option_map f y)
map-cond f true x y = refl
map-cond f false x y = refl

pub operation-place : (name : Name) (ds : List Definition) → first_operation_named name ds ≡ option_map (λ o. o.pos) (lookup (bytes_eq name) (named_operations ds))
operation-place name [] = refl
operation-place name (operation None o ∷ ds) = operation-place name ds
operation-place name (operation (Some other) o ∷ ds) =
    ap (cond (bytes_eq name other) (Some o.pos)) (operation-place name ds)
    ∙ sym (map-cond (λ (o : Positioned OperationDefinition). o.pos) (bytes_eq name other) (Some o) (lookup (bytes_eq name) (named_operations ds)))
operation-place name (fragment other f ∷ ds) = operation-place name ds

pub fragment-place : (name : Name) (ds : List Definition) → first_fragment_named name ds ≡ option_map (λ f. f.pos) (lookup (bytes_eq name) (fragments ds))
fragment-place name [] = refl
fragment-place name (operation other o ∷ ds) = fragment-place name ds
fragment-place name (fragment other f ∷ ds) =
    ap (cond (bytes_eq name other) (Some f.pos)) (fragment-place name ds)
    ∙ sym (map-cond (λ (f : Positioned FragmentDefinition). f.pos) (bytes_eq name other) (Some f) (lookup (bytes_eq name) (fragments ds)))

-- the entries of the code are found at the same places
pub lookup-place : {A B : Type 0} (tree : A → B) (name : Name) (es : List (Name × Positioned A)) → option_map (λ o. o.pos) (lookup (bytes_eq name) (map (entry_tree tree) es)) ≡ option_map (λ o. o.pos) (lookup (bytes_eq name) es)
lookup-place tree name [] = refl
lookup-place {A} {B} tree name (e ∷ es) =
    map-cond (λ (o : Positioned B). o.pos) (bytes_eq name e.0) (Some (placed tree e.1)) (lookup (bytes_eq name) (map (entry_tree tree) es))
    ∙ ap (cond (bytes_eq name e.0) (Some e.1.pos)) (lookup-place tree name es)
    ∙ sym (map-cond (λ (o : Positioned A). o.pos) (bytes_eq name e.0) (Some e.1) (lookup (bytes_eq name) es))

-- a name that isn't there goes last
pub insert-last : {A : Type 0} (name : Name) (a : A) (es : List (Name × A)) → lookup (bytes_eq name) es ≡ None → insert_entry bytes_eq es name a ≡ es ++ (name, a) ∷ []
insert-last name a [] h = refl
insert-last {A} name a (e ∷ es) h = go (λ k. insert-last name a es k) (bytes_eq name e.0) refl
  where
    go : (lookup (bytes_eq name) es ≡ None → insert_entry bytes_eq es name a ≡ es ++ (name, a) ∷ []) → (w : Bool) → bytes_eq name e.0 ≡ w → insert_entry bytes_eq (e ∷ es) name a ≡ (e ∷ es) ++ (name, a) ∷ []
    go more true at = absurd (let found = sym (ap (λ (w : Bool). cond w (Some e.1) (lookup (bytes_eq name) es)) at) ∙ h in cc)
    go more false at =
        ap (λ (w : Bool). cond w ((e.0, a) ∷ es) (e ∷ insert_entry bytes_eq es name a)) at
        ∙ ap (λ (l : List (Name × A)). e ∷ l) (more (sym (ap (λ (w : Bool). cond w (Some e.1) (lookup (bytes_eq name) es)) at) ∙ h))

pub map-last : {A B : Type 0} (f : A → B) (xs : List A) (x : A) → map f (xs ++ x ∷ []) ≡ map f xs ++ f x ∷ []
map-last f [] x = refl
map-last {A} {B} f (y ∷ xs) x = ap (λ (l : List B). f y ∷ l) (map-last f xs x)

pub first-place-map : {A B : Type 0} (tree : A → B) (es : List (Name × Positioned A)) → first_place (map (entry_tree tree) es) ≡ first_place es
first-place-map tree [] = refl
first-place-map tree (e ∷ es) = refl

pub first-place-more : {A : Type 0} (es more : List (Name × Positioned A)) → first_place (es ++ more) ≡ or_else (first_place es) (first_place more)
first-place-more [] more = refl
first-place-more (e ∷ es) more = refl

-- ---- documents

pub beside-anonymous : (named : List (Name × Positioned OperationDefinition)) (ds : List Definition) (o : Positioned OperationDefinition) → anonymous_in ds ≡ Some o → operations_beside named ds ≡ single o
beside-anonymous named [] o e = absurd cc
beside-anonymous named (operation None p ∷ ds) o e = ap single (same e)
  where
    same : Some p ≡ Some o → p ≡ o
    same e = cc
beside-anonymous named (operation (Some name) p ∷ ds) o e = beside-anonymous named ds o e
beside-anonymous named (fragment name f ∷ ds) o e = beside-anonymous named ds o e

pub beside-named : (named : List (Name × Positioned OperationDefinition)) (ds : List Definition) → anonymous_in ds ≡ None → operations_beside named ds ≡ multiple named
beside-named named [] e = refl
beside-named named (operation None p ∷ ds) e = absurd cc
beside-named named (operation (Some name) p ∷ ds) e = beside-named named ds e
beside-named named (fragment name f ∷ ds) e = beside-named named ds e

pub none-inside : {A B : Type 0} (f : A → B) (x : Option A) → option_map f x ≡ None → x ≡ None
none-inside f None e = refl
none-inside f (Some a) e = absurd cc
