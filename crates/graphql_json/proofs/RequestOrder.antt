-- The JSON of a request is in source order, where the places of its definitions grow.
use Rattle.std.proofs.Common.{◌≡◌, ℕ, zero, suc, true, List, [], ◌∷◌, map, refl, ap, ◌∙◌}
use Rattle.std.specs.List.{AllByRecursion}
use Rattle.graphql_parser.specs.answers.Answers.{IsDocument}
use Rattle.graphql_parser.specs.answers.Language.{grammar}
use Rattle.graphql_parser.specs.grammar.Operations.{kind_of, operation_type}
use Rattle.graphql_parser.specs.notation.Limits.{Limits}
use Rattle.graphql_parser.specs.notation.Tests.{punct, keyword}
use Rattle.graphql_parser.specs.requests.Documents.{fragments}
use Rattle.graphql_parser.specs.requests.Request.{Definition, operation, fragment, query_of, operation_of, fragment_of, a_definition}
use Rattle.graphql_parser.specs.requests.Requests.{requests}
use Rattle.graphql_parser.specs.requests.Selections.{selection_set_of, selection_set}
use Rattle.graphql_parser.specs.tokens.Edition.{Edition, Current}
use Rattle.graphql_parser.specs.trees.RequestViews.{document_tree}
use Rattle.graphql_parser.specs.types.ExecutableDocument.{ExecutableDocument}
use Rattle.graphql_parser.specs.types.OperationType.TheVariants.{Query, Mutation, Subscription}
use Rattle.graphql_parser.specs.types.Pos.{Pos}
use Rattle.graphql_json.specs.declared.place.Place.{Place}
use Rattle.graphql_json.specs.declared.place.Places.{Places}
use Rattle.graphql_json.specs.nodes.Nodes.{no_place, document_node, items_of, json_text, stands_before}
use Rattle.graphql_json.specs.nodes.Requests.{Operation, Fragment, operation_json, fragment_json, after_fragments, definitions_json, request_value}
use Rattle.graphql_json.specs.nodes.SourceOrder.{AreOfText, IsInSourceOrder, place_of, definition_in_order, request_in_order}
use Rattle.graphql_json.proofs.Definitions.{operations_in, all_operations}
use Rattle.graphql_json.proofs.Fragments.{after_earlier, before_later}
use Rattle.graphql_json.proofs.PhrasePlaces.{Picks, picks_one, picks_mapped, picks_either, picks_first, picks_plus, picked_grow}
use Rattle.graphql_json.proofs.PlaceOrder.{AllAfter, Grow, grow, not_after, places_of}
use Rattle.graphql_json.proofs.TokenPlaces.{places_grow}
use Rattle.json.specs.Json.{Json, Items, item}

-- ---- the merge of operations and fragments

operations_after : (p : Pos) (ds : List Definition) → AllAfter p (map place_of ds) → AllByRecursion (λ o. stands_before p o.1.pos ≡ true) (operations_in ds)
operations_after p [] h = tt
operations_after p (operation name o ∷ ds) h = (h.0, operations_after p ds h.1)
operations_after p (fragment name f ∷ ds) h = operations_after p ds h.1

fragments_after : (p : Pos) (ds : List Definition) → AllAfter p (map place_of ds) → AllByRecursion (λ f. stands_before p f.1.pos ≡ true) (fragments ds)
fragments_after p [] h = tt
fragments_after p (operation name o ∷ ds) h = fragments_after p ds h.1
fragments_after p (fragment name f ∷ ds) h = (h.0, fragments_after p ds h.1)

module _ (place : Place) where
  -- a definition whose place is smaller than those of the fragments comes first
  before_all : (pos : Pos) (definition : Json) (others : List Fragment → Items) (fs : List Fragment) → AllByRecursion (λ f. stands_before pos f.1.pos ≡ true) fs
      → after_fragments place pos definition others fs ≡ item definition (others fs)
  before_all pos definition others [] h = refl
  before_all pos definition others (f ∷ fs) h = before_later place pos definition others f fs (not_after pos f.1.pos h.0)

  -- a fragment whose place is smaller than those of the operations comes first
  fragment_first : (f : Fragment) (os : List Operation) (fs : List Fragment) → AllByRecursion (λ o. stands_before f.1.pos o.1.pos ≡ true) os
      → definitions_json place os (f ∷ fs) ≡ item (fragment_json place f) (definitions_json place os fs)
  fragment_first f [] fs h = refl
  fragment_first f (o ∷ os) fs h = after_earlier place o.1.pos (operation_json place o) (definitions_json place os) f fs h.0

  merged : (ds : List Definition) → Grow (map place_of ds) → definitions_json place (operations_in ds) (fragments ds) ≡ items_of (definition_in_order place) ds
  merged [] h = refl
  merged (operation name o ∷ ds) h =
      before_all o.pos (operation_json place (name, o)) (definitions_json place (operations_in ds)) (fragments ds) (fragments_after o.pos ds h.0)
      ∙ ap (item (operation_json place (name, o))) (merged ds h.1)
  merged (fragment name f ∷ ds) h = fragment_first (name, f) (operations_in ds) (fragments ds) (operations_after f.pos ds h.0) ∙ ap (item (fragment_json place (name, f))) (merged ds h.1)

pub in_order : (places : Places) (document : ExecutableDocument) (ds : List Definition) → IsDocument requests ds document → Grow (map place_of ds) → request_value places (document_tree document) ≡ request_in_order places ds
in_order places document ds h g =
    let place = no_place places in
    ap (request_value places) h.made
    ∙ ap (document_node place) (ap (λ (os : List Operation). definitions_json place os (fragments ds)) (all_operations ds h.unbroken) ∙ merged place ds g)

-- ---- the places of the definitions of a text

picks_set : (edition : Edition) (values sets : ℕ) → Picks (selection_set edition values sets) (λ set. set.pos ∷ [])
picks_set edition values zero = picks_mapped selection_set_of (λ set. set.pos ∷ []) (picks_first (λ t. t.pos ∷ []) (picks_one (punct "{")))
picks_set edition values (suc sets) = picks_mapped selection_set_of (λ set. set.pos ∷ []) (picks_first (λ t. t.pos ∷ []) (picks_one (punct "{")))

picks_operation_type : Picks operation_type (λ x. x.0.pos ∷ [])
picks_operation_type =
    picks_either (λ x. x.0.pos ∷ []) (picks_mapped (kind_of Query) (λ x. x.0.pos ∷ []) (picks_one (keyword "query")))
    (picks_either (λ x. x.0.pos ∷ []) (picks_mapped (kind_of Mutation) (λ x. x.0.pos ∷ []) (picks_one (keyword "mutation")))
    (picks_mapped (kind_of Subscription) (λ x. x.0.pos ∷ []) (picks_one (keyword "subscription"))))

picks_definition : (edition : Edition) (limits : Limits) → Picks (a_definition edition limits) (λ d. place_of d ∷ [])
picks_definition edition limits =
    picks_either (λ d. place_of d ∷ []) (picks_mapped query_of (λ d. place_of d ∷ []) (picks_set edition limits.values limits.selections))
    (picks_either (λ d. place_of d ∷ []) (picks_mapped operation_of (λ d. place_of d ∷ []) (picks_first (λ x. x.0.pos ∷ []) picks_operation_type))
    (picks_mapped fragment_of (λ d. place_of d ∷ []) (picks_first (λ t. t.pos ∷ []) (picks_one (keyword "fragment")))))

picks_document : (limits : Limits) → Picks (grammar requests Current limits) (map place_of)
picks_document limits = picks_mapped (λ x. x.0) (map place_of) (picks_first (map place_of) (picks_plus place_of (picks_definition Current limits)))

pub definitions_grow : (ds : List Definition) → AreOfText requests ds → Grow (map place_of ds)
definitions_grow ds h =
    picked_grow (map place_of ds) (places_of h.tokens) (picks_document h.tree.0 h.tokens ds h.tree.1) (places_grow h)

-- ---- the clause

pub in_source_order : (places : Places) (document : ExecutableDocument) (json : List ℕ) → json ≡ json_text (request_value places (document_tree document)) → IsInSourceOrder places document json
in_source_order places document json e = record {
  where_places_grow = λ ds h g. e ∙ ap json_text (in_order places document ds h (grow (map place_of ds) g));
  in_texts = λ ds h t. e ∙ ap json_text (in_order places document ds h (definitions_grow ds t));
}
