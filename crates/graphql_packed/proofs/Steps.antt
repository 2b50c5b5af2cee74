-- Calls that add bytes, one after another.
use Rattle.std.proofs.Common.{◌≡◌, ◌≤◌, ℕ, List, [], ◌∷◌, ◌++◌, map, Option, Some, None, option_map, Result, Ok, Err, refl, ap, sym, ◌∙◌, append_assoc, append-nil, subst}
use Rattle.graphql_parser.specs.trees.Parts.{placed}
use Rattle.graphql_parser.specs.types.Positioned.{Positioned}
use Rattle.graphql_packed.specs.inner.Written.{Adds}
use Rattle.graphql_packed.specs.packed.Bytes.{Bytes, node_bytes, optional_bytes, list_bytes}

-- one call after another
pub next : {E F : Type 0} {u : Unit {0}} {r : Result (Unit {0}) E} {a b c ts us : Bytes} → Adds {E = F} (Ok u) a b ts → Adds r b c us → Adds r a c (ts ++ us)
next {r = Ok v} {a = a} {ts = ts} {us = us} first then_ = record { ok = then_.ok ∙ ap (λ x. x ++ us) first.ok ∙ append_assoc a ts us }
next {r = Err x} first then_ = record { ok = tt }

-- the same bytes
pub as_bytes : {E : Type 0} {r : Result (Unit {0}) E} {a b ts us : Bytes} → ts ≡ us → Adds r a b ts → Adds r a b us
as_bytes e added = subst (Adds _ _ _) e added

-- a list: how many items it has, and then these, of which the rest is none at last
pub whole_list : {E F : Type 0} {u v : Unit {0}} {a b c ts : Bytes} (all rest : Bytes) → Adds {E = F} (Ok u) a b ts → c ++ rest ≡ b ++ all → rest ≡ [] → Adds {E = E} (Ok v) a c (ts ++ all)
whole_list {a = a} {c = c} {ts = ts} all rest counted so_far none =
    record { ok = sym (append-nil c) ∙ ap (λ us. c ++ us) (sym none) ∙ so_far ∙ ap (λ us. us ++ all) counted.ok ∙ append_assoc a ts all }

-- of the items of a list, or the fields of an object, the rest is left to be written, and is no larger than all of them
abbrev pub IsWrittenTo : {A : Type 0} → (A → ℕ) → (A → Bytes) → A → A → Bytes → Bytes → Type 0
IsWrittenTo size bytes all rest begun written = (size rest ≤ size all) × (written ++ bytes rest ≡ begun ++ bytes all)

-- ---- what is its own tree

same_option : {A : Type 0} (part : Option (Positioned A)) → option_map (placed (λ (x : A). x)) part ≡ part
same_option None = refl
same_option (Some part) = refl

same_list : {A : Type 0} (parts : List (Positioned A)) → map (placed (λ (x : A). x)) parts ≡ parts
same_list [] = refl
same_list (part ∷ parts) = ap (λ others. part ∷ others) (same_list parts)

pub own_option : {A E : Type 0} {r : Result (Unit {0}) E} {a b : Bytes} (bytes : A → Bytes) (part : Option (Positioned A))
    → Adds r a b (optional_bytes (node_bytes bytes) (option_map (placed (λ (x : A). x)) part)) → Adds r a b (optional_bytes (node_bytes bytes) part)
own_option bytes part added = as_bytes (ap (λ p. optional_bytes (node_bytes bytes) p) (same_option part)) added

pub own_list : {A E : Type 0} {r : Result (Unit {0}) E} {a b : Bytes} (bytes : A → Bytes) (parts : List (Positioned A))
    → Adds r a b (list_bytes (node_bytes bytes) (map (placed (λ (x : A). x)) parts)) → Adds r a b (list_bytes (node_bytes bytes) parts)
own_list bytes parts added = as_bytes (ap (λ ps. list_bytes (node_bytes bytes) ps) (same_list parts)) added
