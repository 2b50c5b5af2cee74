-- Lists of what is its own tree, and roots one after another.
use Rattle.std.proofs.Common.{◌≡◌, List, [], ◌∷◌, ◌++◌, map, Option, Some, None, Result, Ok, refl, ap}
use Rattle.graphql_parser.specs.trees.Parts.{Name, placed}
use Rattle.graphql_parser.specs.types.OperationType.{OperationType}
use Rattle.graphql_parser.specs.types.Positioned.{Positioned}
use Rattle.graphql_json.specs.declared.place.Place.{Place}
use Rattle.graphql_json.specs.inner.Roots.{and_then, root_tokens}
use Rattle.graphql_json.specs.inner.Written.{Adds}
use Rattle.graphql_json.specs.nodes.Nodes.{items_of}
use Rattle.graphql_json.specs.nodes.Schemas.{Root, root_json}
use Rattle.graphql_json.proofs.Steps.{next, as_tokens}
use Rattle.json.specs.Token.{Token}
use Rattle.json.specs.Tree.{items_tokens}

-- ---- what is its own tree

pub same_placed : {A : Type 0} (parts : List (Positioned A)) → map (placed (λ part. part)) parts ≡ parts
same_placed [] = refl
same_placed (part ∷ parts) = ap (λ others. part ∷ others) (same_placed parts)

-- ---- one root after another

tokens_of_root : (place : Place) (kind : OperationType) (name : Option (Positioned Name)) (others : List Root)
    → root_tokens place kind name ++ items_tokens (items_of (root_json place) others) ≡ items_tokens (items_of (root_json place) (and_then kind name others))
tokens_of_root place kind None others = refl
tokens_of_root place kind (Some name) others = refl

pub next_root : {E F : Type 0} {u : Unit {0}} {r : Result (Unit {0}) E} {a b c : List Token} (place : Place) (kind : OperationType) (name : Option (Positioned Name)) (others : List Root)
    → Adds {E = F} (Ok u) a b (root_tokens place kind name) → Adds r b c (items_tokens (items_of (root_json place) others)) → Adds r a c (items_tokens (items_of (root_json place) (and_then kind name others)))
next_root place kind name others written rest = as_tokens (tokens_of_root place kind name others) (next written rest)
