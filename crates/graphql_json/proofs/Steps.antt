-- Calls that add tokens, one after another.
use Rattle.std.proofs.Common.{◌≡◌, ◌≤◌, ℕ, List, [], ◌∷◌, ◌++◌, ◌+◌, drop, Bool, true, false, Option, Some, None, option_map, Result, Ok, Err, if◌then◌else◌, ◌==◌, ◌&&◌, codes, refl, ap, sym, ◌∙◌, append_assoc, subst}
use Rattle.std.specs.List.{slice_get}
use Rattle.std.proofs.lemmas.List.{drop_more}
use Rattle.std.proofs.lemmas.Option.{slice_get_within, get_or_from_slice_get}
use Rattle.graphql_parser.specs.trees.Parts.{placed}
use Rattle.graphql_parser.specs.types.Pos.{Pos}
use Rattle.graphql_parser.specs.types.Positioned.{Positioned}
use Rattle.graphql_json.specs.declared.place.Place.{Place}
use Rattle.graphql_json.specs.declared.place.Places.{Places}
use Rattle.graphql_json.specs.declared.place.Places.TheVariants.{LeftOut, Written}
use Rattle.graphql_json.specs.inner.Written.{Adds, opening, place_tokens, pos_tokens, member_tokens, optional_tokens}
use Rattle.graphql_json.specs.nodes.Nodes.{node, optional, place_members, pos_members}
use Rattle.json.specs.Json.{Json, Members, member, Items, no_items, item, array}
use Rattle.json.specs.Token.{Token, begin_object, begin_array, end_array, key, string}
use Rattle.json.specs.Tree.{json_tokens, members_tokens, items_tokens}

-- ---- the tokens of nodes

place_or_none : (b : Bool) (pos : Pos) (others : Members) → members_tokens (if b then others else pos_members pos others) ≡ (if b then [] else pos_tokens pos) ++ members_tokens others
place_or_none true pos others = refl
place_or_none false pos others = refl

tokens_of_place : (places : Places) (pos : Option Pos) (others : Members) → members_tokens (place_members places pos others) ≡ place_tokens places pos ++ members_tokens others
tokens_of_place LeftOut pos others = refl
tokens_of_place Written None others = refl
tokens_of_place Written (Some pos) others = place_or_none ((pos.line == 0) && (pos.column == 0)) pos others

pub tokens_of_node : (kind : List ℕ) (place : Place) (members : Members) → json_tokens (node kind place members) ≡ opening kind place ++ members_tokens members
unfolding node
tokens_of_node kind place members = ap (λ ts. begin_object ∷ key (codes "kind") ∷ string kind ∷ ts) (tokens_of_place place.places place.pos members)

-- ---- one call after another

pub next : {E F : Type 0} {u : Unit {0}} {r : Result (Unit {0}) E} {a b c ts us : List Token} → Adds {E = F} (Ok u) a b ts → Adds r b c us → Adds r a c (ts ++ us)
next {r = Ok v} {a = a} {ts = ts} {us = us} first then_ = record { ok = then_.ok ∙ ap (λ x. x ++ us) first.ok ∙ append_assoc a ts us }
next {r = Err x} first then_ = record { ok = tt }

-- the same tokens
pub as_tokens : {E : Type 0} {r : Result (Unit {0}) E} {a b ts us : List Token} → ts ≡ us → Adds r a b ts → Adds r a b us
as_tokens e added = subst (Adds _ _ _) e added

-- a node: what opens it, and then its members
pub whole_node : {E F : Type 0} {u : Unit {0}} {r : Result (Unit {0}) E} {a b c : List Token} (kind : List ℕ) (place : Place) (members : Members)
    → Adds {E = F} (Ok u) a b (opening kind place) → Adds r b c (members_tokens members) → Adds r a c (json_tokens (node kind place members))
whole_node kind place members opened rest = as_tokens (sym (tokens_of_node kind place members)) (next opened rest)

-- a member that may be missing, and then others
tokens_of_optional : {A : Type 0} (name : List ℕ) (json : A → Json) (part : Option A) (others : Members) → optional_tokens name json part ++ members_tokens others ≡ members_tokens (optional name json part others)
tokens_of_optional name json None others = refl
tokens_of_optional name json (Some part) others = refl

pub next_optional : {A E F : Type 0} {u : Unit {0}} {r : Result (Unit {0}) E} {a b c : List Token} (name : List ℕ) (json : A → Json) (part : Option A) (others : Members)
    → Adds {E = F} (Ok u) a b (optional_tokens name json part) → Adds r b c (members_tokens others) → Adds r a c (members_tokens (optional name json part others))
next_optional name json part others written rest = as_tokens (tokens_of_optional name json part others) (next written rest)

-- a node that has a description and a name: what opens it with these, and then its other members
pub whole_described : {A E F : Type 0} {u : Unit {0}} {r : Result (Unit {0}) E} {a b c : List Token} (kind : List ℕ) (place : Place) (json : A → Json) (description : Option A) (name : Json) (others : Members)
    → Adds {E = F} (Ok u) a b (opening kind place ++ optional_tokens (codes "description") json description ++ member_tokens (codes "name") name) → Adds r b c (members_tokens others)
    → Adds r a c (json_tokens (node kind place (optional (codes "description") json description (member (codes "name") name others))))
whole_described kind place json description name others opened rest =
    let described = optional_tokens (codes "description") json description in
    let named = members_tokens (member (codes "name") name others) in
    as_tokens
    (append_assoc (opening kind place ++ described) (member_tokens (codes "name") name) (members_tokens others)
    ∙ append_assoc (opening kind place) described named
    ∙ ap (λ ts. opening kind place ++ ts) (tokens_of_optional (codes "description") json description (member (codes "name") name others))
    ∙ sym (tokens_of_node kind place (optional (codes "description") json description (member (codes "name") name others))))
    (next opened rest)

-- a list that is a member: what opens it, its items, of which the rest is none at last, and what closes it
pub whole_list : {E F : Type 0} {u : Unit {0}} {r : Result (Unit {0}) E} {a b l c : List Token} {name : List ℕ} (all rest : Items)
    → Adds {E = F} (Ok u) a b (key name ∷ begin_array ∷ []) → l ++ items_tokens rest ≡ b ++ items_tokens all → rest ≡ no_items → Adds r l c (end_array ∷ [])
    → Adds r a c (member_tokens name (array all))
whole_list {r = Ok v} {a = a} {b = b} {l = l} {name = name} all rest opened so_far none closed =
    record { ok = closed.ok ∙ ap (λ items. l ++ items_tokens items) (sym none) ∙ so_far ∙ ap (λ ts. ts ++ items_tokens all) opened.ok ∙ append_assoc a (key name ∷ begin_array ∷ []) (items_tokens all) }
whole_list {r = Err x} all rest opened so_far none closed = record { ok = tt }

-- a part whose tree is itself
pub same_option : {A : Type 0} (part : Option (Positioned A)) → option_map (placed (λ (x : A). x)) part ≡ part
same_option None = refl
same_option (Some part) = refl

-- of the items of a list, or the fields of an object, the rest is left to be written, and is no larger than all of them
abbrev pub IsWrittenTo : {A : Type 0} → (A → ℕ) → (A → Items) → A → A → List Token → List Token → Type 0
IsWrittenTo size json all rest begun written = (size rest ≤ size all) × (written ++ items_tokens (json rest) ≡ begun ++ items_tokens (json all))

-- one item of a list is written
pub item_written : {E : Type 0} {u : Unit {0}} {a b all : List Token} (json : Json) (others : Items) → Adds {E = E} (Ok u) a b (json_tokens json) → a ++ items_tokens (item json others) ≡ all → b ++ items_tokens others ≡ all
item_written {a = a} json others written so_far = ap (λ ts. ts ++ items_tokens others) written.ok ∙ append_assoc a (json_tokens json) (items_tokens others) ∙ so_far

-- the item of an index is the first of those from there on
pub at_index : {X : Type 0} (xs : List X) (i : ℕ) (x : X) → Some x ≡ slice_get xs i → drop i xs ≡ x ∷ drop (i + 1) xs
at_index xs i x e = drop_more xs i x (slice_get_within xs i x (sym e)) ∙ ap (λ y. y ∷ drop (i + 1) xs) (get_or_from_slice_get xs i x x (sym e))
