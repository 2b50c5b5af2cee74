-- The JSON of a schema file is in source order, where the places of the roots of each schema grow.
use Rattle.std.proofs.Common.{◌≡◌, ℕ, Bool, true, false, cond, ◌||◌, Option, Some, None, option_map, is_some, List, [], ◌∷◌, ◌++◌, map, refl, sym, ap, ap₂, ◌∙◌, subst, if◌then◌else◌}
use Rattle.std.specs.List.{AllByRecursion}
use Rattle.graphql_parser.specs.answers.Answers.{IsDocument}
use Rattle.graphql_parser.specs.notation.Limits.{Limits}
use Rattle.graphql_parser.specs.notation.Relations.{opt, given, between_of}
use Rattle.graphql_parser.specs.notation.Tests.{any_name}
use Rattle.graphql_parser.specs.schemas.Documents.{root_name, schema_tree_of, tree_of, document_of}
use Rattle.graphql_parser.specs.schemas.Rules.{same_kind, first_of_kind, first_repeated, breach_of, repeats_a_root, lacks_a_query}
use Rattle.graphql_parser.specs.schemas.Schema.{Schema, Root, root_of as root_in, a_root, roots, schema_of, a_schema, schema_extension_of, a_schema_extension}
use Rattle.graphql_parser.specs.schemas.SchemaFile.{Definition, schema, type_def, directive, a_definition}
use Rattle.graphql_parser.specs.schemas.Schemas.{schemas}
use Rattle.graphql_parser.specs.schemas.Types.{parts_of, list_alone, some_parts}
use Rattle.graphql_parser.specs.tokens.Edition.{Edition, Current}
use Rattle.graphql_parser.specs.tokens.Token.{Token}
use Rattle.graphql_parser.specs.trees.Parts.{Name}
use Rattle.graphql_parser.specs.trees.SchemaViews.{schema_document_tree}
use Rattle.graphql_parser.specs.types.OperationType.{OperationType}
use Rattle.graphql_parser.specs.types.OperationType.TheVariants.{Query, Mutation, Subscription}
use Rattle.graphql_parser.specs.types.Pos.{Pos}
use Rattle.graphql_parser.specs.types.Positioned.{Positioned}
use Rattle.graphql_parser.specs.types.ServiceDocument.{ServiceDocument}
use Rattle.graphql_json.specs.declared.place.Place.{Place}
use Rattle.graphql_json.specs.declared.place.Places.{Places}
use Rattle.graphql_json.specs.nodes.Nodes.{no_place, at, document_node, items_of, json_text, stands_before}
use Rattle.graphql_json.specs.nodes.Schemas.{Root as JsonRoot, put_root, with_root, roots_of, schema_node, definition_json, schema_value}
use Rattle.graphql_json.specs.nodes.SourceOrder.{AreGrowing, AreOfText, IsFileInSourceOrder, root_places, root_of, file_definition_in_order, file_in_order}
use Rattle.graphql_json.proofs.Definitions.{AreKept, kept}
use Rattle.graphql_json.proofs.PhrasePlaces.{Picks, EachPicks, picks_one, picks_mapped, picks_either, picks_first, picks_second, picks_plus, each_plus, picked_grow}
use Rattle.graphql_json.proofs.PlaceOrder.{AllAfter, Grow, grow, first_grow, not_after, places_of}
use Rattle.graphql_json.proofs.TokenPlaces.{places_grow}
use Rattle.graphql_grammar.proofs.Breaches.{none-first}
use Rattle.graphql_requests.proofs.OneMore.{none-inside}
use Rattle.json.specs.Json.{item}

-- ---- roots that repeat no kind

same_sym : (a b : OperationType) → same_kind a b ≡ same_kind b a
same_sym Query Query = refl
same_sym Query Mutation = refl
same_sym Query Subscription = refl
same_sym Mutation Query = refl
same_sym Mutation Mutation = refl
same_sym Mutation Subscription = refl
same_sym Subscription Query = refl
same_sym Subscription Mutation = refl
same_sym Subscription Subscription = refl

same_is : (a b : OperationType) → same_kind a b ≡ true → a ≡ b
same_is Query Query e = refl
same_is Query Mutation e = absurd cc
same_is Query Subscription e = absurd cc
same_is Mutation Query e = absurd cc
same_is Mutation Mutation e = refl
same_is Mutation Subscription e = absurd cc
same_is Subscription Query e = absurd cc
same_is Subscription Mutation e = absurd cc
same_is Subscription Subscription e = refl

-- the kind of each root is none of those after it
abbrev AreApart : List Root → Type 0
AreApart [] = Unit {0}
AreApart (root ∷ roots) = (first_of_kind root.kind roots ≡ None) × AreApart roots

none_of_two : {A : Type 0} (b : Bool) (x : A) (rest : Option A) → cond b (Some x) rest ≡ None → (b ≡ false) × (rest ≡ None)
none_of_two true x rest e = absurd cc
none_of_two false x rest e = (refl, e)

-- a root of the kind is there still after one more
still_there : (kind : OperationType) (before : List Root) (root : Root) → is_some (first_of_kind kind before) ≡ true → is_some (first_of_kind kind (before ++ root ∷ [])) ≡ true
still_there kind [] root e = absurd cc
still_there kind (other ∷ before) root e = by (same_kind kind other.kind) e (still_there kind before root)
  where
    by : (b : Bool) → is_some (cond b (Some other) (first_of_kind kind before)) ≡ true → (is_some (first_of_kind kind before) ≡ true → is_some (first_of_kind kind (before ++ root ∷ [])) ≡ true)
        → is_some (cond b (Some other) (first_of_kind kind (before ++ root ∷ []))) ≡ true
    by true e more = refl
    by false e more = more e

same_itself : (kind : OperationType) → same_kind kind kind ≡ true
same_itself Query = refl
same_itself Mutation = refl
same_itself Subscription = refl

now_there : (before : List Root) (root : Root) → is_some (first_of_kind root.kind (before ++ root ∷ [])) ≡ true
now_there [] root = ap (λ (b : Bool). is_some (cond b (Some root) None)) (same_itself root.kind)
now_there (other ∷ before) root = by (same_kind root.kind other.kind) (now_there before root)
  where
    by : (b : Bool) → is_some (first_of_kind root.kind (before ++ root ∷ [])) ≡ true → is_some (cond b (Some other) (first_of_kind root.kind (before ++ root ∷ []))) ≡ true
    by true e = refl
    by false e = e

-- a kind that is there does not come again
not_again : (kind : OperationType) (before roots : List Root) → is_some (first_of_kind kind before) ≡ true → first_repeated before roots ≡ None → first_of_kind kind roots ≡ None
not_again kind before [] there e = refl
not_again kind before (root ∷ roots) there e =
    let parts = none_of_two (is_some (first_of_kind root.kind before)) root (first_repeated (before ++ root ∷ []) roots) e in
    by (same_kind kind root.kind) refl parts.0 (not_again kind (before ++ root ∷ []) roots (still_there kind before root there) parts.1)
  where
    by : (b : Bool) → same_kind kind root.kind ≡ b → is_some (first_of_kind root.kind before) ≡ false → first_of_kind kind roots ≡ None → cond b (Some root) (first_of_kind kind roots) ≡ None
    by true same absent more = absurd (let here : is_some (first_of_kind root.kind before) ≡ true = ap (λ (k : OperationType). is_some (first_of_kind k before)) (sym (same_is kind root.kind same)) ∙ there in cc)
    by false same absent more = more

apart : (before roots : List Root) → first_repeated before roots ≡ None → AreApart roots
apart before [] e = tt
apart before (root ∷ roots) e =
    let rest = (none_of_two (is_some (first_of_kind root.kind before)) root (first_repeated (before ++ root ∷ []) roots) e).1 in
    (not_again root.kind (before ++ root ∷ []) roots (now_there before root) rest, apart (before ++ root ∷ []) roots rest)

-- ---- roots of some kinds, in source order

abbrev pub root_place : Root → Pos
root_place root = root.name.pos

abbrev of_kinds : (OperationType → Bool) → List Root → List JsonRoot
of_kinds among [] = []
of_kinds among (root ∷ roots) = cond (among root.kind) (root_of root ∷ of_kinds among roots) (of_kinds among roots)

-- with one kind more
abbrev and_kind : OperationType → (OperationType → Bool) → OperationType → Bool
and_kind kind among other = same_kind kind other || among other

no_more : (kind : OperationType) (among : OperationType → Bool) (roots : List Root) → first_of_kind kind roots ≡ None → of_kinds (and_kind kind among) roots ≡ of_kinds among roots
no_more kind among [] e = refl
no_more kind among (root ∷ roots) e =
    let parts = none_of_two (same_kind kind root.kind) root (first_of_kind kind roots) e in
    let rest = no_more kind among roots parts.1 in
    ap (λ (b : Bool). cond (b || among root.kind) (root_of root ∷ of_kinds (and_kind kind among) roots) (of_kinds (and_kind kind among) roots)) parts.0
    ∙ ap (λ (l : List JsonRoot). cond (among root.kind) (root_of root ∷ l) l) rest

-- the root of a kind stands after what all roots stand after
found_after : (kind : OperationType) (place : Pos) (roots : List Root) (name : Positioned Name) → root_name kind roots ≡ Some name → AllAfter place (map root_place roots) → stands_before place name.pos ≡ true
found_after kind place [] name e h = absurd cc
found_after kind place (root ∷ roots) name e h = by (same_kind kind root.kind) e (λ more. found_after kind place roots name more h.1)
  where
    by : (b : Bool) → option_map (λ root. root.name) (cond b (Some root) (first_of_kind kind roots)) ≡ Some name → (root_name kind roots ≡ Some name → stands_before place name.pos ≡ true) → stands_before place name.pos ≡ true
    by true e more = let same : root.name ≡ name = cc in ap (λ (n : Positioned Name). stands_before place n.pos) (sym same) ∙ h.0
    by false e more = more e

-- a root that stands before all goes first
goes_first : (kind : OperationType) (name : Positioned Name) (among : OperationType → Bool) (roots : List Root) → AllAfter name.pos (map root_place roots) → put_root (kind, name) (of_kinds among roots) ≡ (kind, name) ∷ of_kinds among roots
goes_first kind name among [] h = refl
goes_first kind name among (root ∷ roots) h = by (among root.kind) (goes_first kind name among roots h.1)
  where
    by : (b : Bool) → put_root (kind, name) (of_kinds among roots) ≡ (kind, name) ∷ of_kinds among roots
        → put_root (kind, name) (cond b (root_of root ∷ of_kinds among roots) (of_kinds among roots)) ≡ (kind, name) ∷ cond b (root_of root ∷ of_kinds among roots) (of_kinds among roots)
    by true more =
        ap (λ (b : Bool). if b then (kind, name) ∷ root_of root ∷ of_kinds among roots else root_of root ∷ put_root (kind, name) (of_kinds among roots)) h.0
    by false more = more

-- a root that may be missing goes after one that stands before it
goes_later : (kind : OperationType) (root : Root) (found : Option (Positioned Name)) (others : List JsonRoot) → ((name : Positioned Name) → found ≡ Some name → stands_before (root_place root) name.pos ≡ true)
    → with_root kind found (root_of root ∷ others) ≡ root_of root ∷ with_root kind found others
goes_later kind root None others h = refl
goes_later kind root (Some name) others h =
    ap (λ (b : Bool). if b then (kind, name) ∷ root_of root ∷ others else root_of root ∷ put_root (kind, name) others) (not_after (root_place root) name.pos (h name refl))

inserted : (kind : OperationType) (among : OperationType → Bool) → among kind ≡ false → (roots : List Root) → AreApart roots → Grow (map root_place roots)
    → with_root kind (root_name kind roots) (of_kinds among roots) ≡ of_kinds (and_kind kind among) roots
inserted kind among new [] apart grows = refl
inserted kind among new (root ∷ roots) apart grows = by (same_kind kind root.kind) refl (among root.kind) refl (inserted kind among new roots apart.1 grows.1)
  where
    by : (same : Bool) → same_kind kind root.kind ≡ same → (meant : Bool) → among root.kind ≡ meant
        → with_root kind (root_name kind roots) (of_kinds among roots) ≡ of_kinds (and_kind kind among) roots
        → with_root kind (option_map (λ root. root.name) (cond same (Some root) (first_of_kind kind roots))) (cond meant (root_of root ∷ of_kinds among roots) (of_kinds among roots))
        ≡ cond (same || meant) (root_of root ∷ of_kinds (and_kind kind among) roots) (of_kinds (and_kind kind among) roots)
    by true same true meant more = absurd (let never : among kind ≡ true = ap among (same_is kind root.kind same) ∙ meant in cc)
    by true same false meant more =
        let is = same_is kind root.kind same in
        goes_first kind root.name among roots grows.0
        ∙ ap₂ (λ (k : OperationType) (l : List JsonRoot). (k, root.name) ∷ l) is (sym (no_more kind among roots (ap (λ (k : OperationType). first_of_kind k roots) is ∙ apart.0)))
    by false same true meant more =
        goes_later kind root (root_name kind roots) (of_kinds among roots) (λ name found. found_after kind (root_place root) roots name found grows.0)
        ∙ ap (λ (l : List JsonRoot). root_of root ∷ l) more
    by false same false meant more = more

-- ---- all roots

abbrev no_kind : OperationType → Bool
no_kind kind = false

abbrev all_kinds : OperationType → Bool
all_kinds = and_kind Subscription (and_kind Mutation (and_kind Query no_kind))

of_no_kind : (roots : List Root) → of_kinds no_kind roots ≡ []
of_no_kind [] = refl
of_no_kind (root ∷ roots) = of_no_kind roots

each_kind : (kind : OperationType) → all_kinds kind ≡ true
each_kind Query = refl
each_kind Mutation = refl
each_kind Subscription = refl

of_all_kinds : (roots : List Root) → of_kinds all_kinds roots ≡ map root_of roots
of_all_kinds [] = refl
of_all_kinds (root ∷ roots) =
    ap (λ (b : Bool). cond b (root_of root ∷ of_kinds all_kinds roots) (of_kinds all_kinds roots)) (each_kind root.kind) ∙ ap (λ (l : List JsonRoot). root_of root ∷ l) (of_all_kinds roots)

roots_in_order : (s : Schema) → first_repeated [] s.roots ≡ None → Grow (map root_place s.roots) → roots_of (schema_tree_of s) ≡ map root_of s.roots
roots_in_order s distinct grows =
    let roots = s.roots in
    let separate = apart [] roots distinct in
    let query = ap (λ (l : List JsonRoot). with_root Query (root_name Query roots) l) (sym (of_no_kind roots)) ∙ inserted Query no_kind refl roots separate grows in
    let mutation = ap (λ (l : List JsonRoot). with_root Mutation (root_name Mutation roots) l) query ∙ inserted Mutation (and_kind Query no_kind) refl roots separate grows in
    ap (λ (l : List JsonRoot). with_root Subscription (root_name Subscription roots) l) mutation
    ∙ inserted Subscription (and_kind Mutation (and_kind Query no_kind)) refl roots separate grows ∙ of_all_kinds roots

-- ---- files

same_json : (place : Place) (d : Definition) → breach_of [] d ≡ None → Grow (root_places d) → definition_json place (tree_of d) ≡ file_definition_in_order place d
same_json place (schema s) unbroken grows =
    let distinct : first_repeated [] s.node.roots ≡ None = none-inside _ (first_repeated [] s.node.roots) (none-first (repeats_a_root s) (lacks_a_query s) unbroken) in
    ap (schema_node (at place s.pos) (schema_tree_of s.node)) (roots_in_order s.node distinct grows)
same_json place (type_def t) unbroken grows = refl
same_json place (directive d) unbroken grows = refl

-- what stands before a definition makes no difference to what it breaks
anywhere : (before : List Definition) (d : Definition) → breach_of before d ≡ breach_of [] d
anywhere before (schema s) = refl
anywhere before (type_def t) = refl
anywhere before (directive d) = refl

same_items : (place : Place) (before ds : List Definition) → AreKept schemas before ds → AllByRecursion (λ d. Grow (root_places d)) ds → items_of (definition_json place) (document_of ds) ≡ items_of (file_definition_in_order place) ds
same_items place before [] h g = refl
same_items place before (d ∷ ds) h g = ap₂ item (same_json place d (sym (anywhere before d) ∙ h.0) g.0) (same_items place (before ++ d ∷ []) ds h.1 g.1)

pub in_order : (places : Places) (document : ServiceDocument) (ds : List Definition) → IsDocument schemas ds document → AllByRecursion (λ d. Grow (root_places d)) ds → schema_value places (schema_document_tree document) ≡ file_in_order places ds
in_order places document ds h g =
    ap (schema_value places) h.made ∙ ap (document_node (no_place places)) (same_items (no_place places) [] ds (kept schemas ds h.unbroken) g)

-- ---- the places of the roots of a text

picks_root : Picks a_root (λ root. root_place root ∷ [])
picks_root = picks_mapped root_in (λ root. root_place root ∷ []) (picks_second (λ x. x.1.pos ∷ []) (picks_second (λ t. t.pos ∷ []) (picks_one any_name)))

picks_roots : Picks roots (map root_place)
picks_roots = picks_mapped between_of (map root_place) (picks_second (λ x. map root_place x.0) (picks_first (map root_place) (picks_plus root_place picks_root)))

picks_given : Picks (opt roots) (λ found. map root_place (given found))
picks_given used None h = tt
picks_given used (Some found) h = picks_roots used found h

picks_parts : (edition : Edition) (limits : Limits) → Picks (some_parts edition limits roots) (λ parts. map root_place parts.1)
picks_parts edition limits =
    picks_either (λ parts. map root_place parts.1) (picks_mapped parts_of (λ parts. map root_place parts.1) (picks_second (λ found. map root_place (given found)) picks_given))
    (picks_mapped list_alone (λ parts. map root_place parts.1) picks_roots)

picks_schema : (edition : Edition) (limits : Limits) → Picks (a_schema edition limits) (λ s. map root_place s.node.roots)
picks_schema edition limits =
    picks_mapped schema_of (λ s. map root_place s.node.roots) (picks_second (λ x. map root_place x.1.1) (picks_second (λ x. map root_place x.1) (picks_second (map root_place) picks_roots)))

picks_extension : (edition : Edition) (limits : Limits) → Picks (a_schema_extension edition limits) (λ s. map root_place s.node.roots)
picks_extension edition limits =
    picks_mapped schema_extension_of (λ s. map root_place s.node.roots) (picks_second (λ x. map root_place x.1.1) (picks_second (λ x. map root_place x.1) (picks_parts edition limits)))

picks_definition : (edition : Edition) (limits : Limits) → Picks (a_definition edition limits) root_places
picks_definition edition limits =
    picks_either root_places (picks_mapped schema root_places (picks_schema edition limits))
    (picks_either root_places (picks_mapped schema root_places (picks_extension edition limits))
    (picks_either root_places (picks_mapped type_def root_places (λ used t h. tt))
    (picks_either root_places (picks_mapped type_def root_places (λ used t h. tt))
    (picks_mapped directive root_places (λ used d h. tt)))))

each_grows : (all : List Pos) (ds : List Definition) → EachPicks root_places all ds → Grow all → AllByRecursion (λ d. Grow (root_places d)) ds
each_grows all [] h g = tt
each_grows all (d ∷ ds) h g = (picked_grow (root_places d) all h.0 g, each_grows all ds h.1 g)

pub roots_grow : (ds : List Definition) → AreOfText schemas ds → AllByRecursion (λ d. Grow (root_places d)) ds
roots_grow ds h =
    let m = h.tree.1 in
    let split = m.holds in
    let first = first_grow split.front split.back (subst (λ (ts : List Token). Grow (places_of ts)) split.joined (places_grow h)) in
    subst (AllByRecursion (λ d. Grow (root_places d))) (sym m.is)
    (each_grows (places_of split.front) m.value.0 (each_plus root_places (picks_definition Current h.tree.0) split.front m.value.0 split.first) first)

-- ---- the clause

all_grow : (ds : List Definition) → AllByRecursion (λ d. AreGrowing (root_places d)) ds → AllByRecursion (λ d. Grow (root_places d)) ds
all_grow [] h = tt
all_grow (d ∷ ds) h = (grow (root_places d) h.0, all_grow ds h.1)

pub in_source_order : (places : Places) (document : ServiceDocument) (json : List ℕ) → json ≡ json_text (schema_value places (schema_document_tree document)) → IsFileInSourceOrder places document json
in_source_order places document json e = record {
  where_places_grow = λ ds h g. e ∙ ap json_text (in_order places document ds h (all_grow ds g));
  in_texts = λ ds h t. e ∙ ap json_text (in_order places document ds h (roots_grow ds t));
}
