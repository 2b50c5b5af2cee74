-- No depth gives another cost than as many as there are fragments.
use Rattle.std.proofs.Common.{arith, subst, ◌≡◌, ℕ, zero, suc, ◌+◌, ◌≤◌, ◌⊎◌, inl, inr, List, [], ◌∷◌, map, length, Option, Some, None, refl, ap, ap₂, sym, ◌∙◌}
use Rattle.std.proofs.lemmas.List.{length-map}
use Rattle.std.specs.Option.{option_and_then}
use Rattle.graphql_parser.specs.calls.Named.{named}
use Rattle.graphql_parser.specs.trees.Parts.{Name}
use Rattle.graphql_parser.specs.trees.Request.{Document, Operations, OperationDefinition, Selection, SelectionSet, field, fragment_spread, inline_fragment, no_selections, selection_and, single, multiple}
use Rattle.graphql_parser.specs.types.Positioned.{Positioned}
use Rattle.example_checker.specs.Costs.{Fragment, Fragments, Costs, both, selection_cost, set_cost, fragment_cost, named_cost, entries_cost, operations_cost, cost_at_depth}
use Rattle.example_checker.specs.Prices.{price_in}
use Rattle.example_checker.proofs.Rounds.{price_of_first}

-- the second cost is the first, where there is a first
pub record Grows (x y : Option ℕ) : Type 0 where
  pub keeps : (c : ℕ) → x ≡ Some c → y ≡ Some c

grows_same : (x : Option ℕ) → Grows x x
grows_same x = record { keeps = λ c e. e }

grows_none : (x y : Option ℕ) → x ≡ None → Grows x y
grows_none x y e = record { keeps = λ c e2. absurd (cc) }

grows_both : (x y z w : Option ℕ) → Grows x z → Grows y w → Grows (both x y) (both z w)
grows_both None y z w p q = grows_none None (both z w) refl
grows_both (Some a) None z w p q = grows_none None (both z w) refl
grows_both (Some a) (Some b) z w p q = record { keeps = λ c e. ap₂ both (p.keeps a refl) (q.keeps b refl) ∙ e }

mutual
  pub grows_selection : (f g : Name → Option ℕ) → ((n : Name) → Grows (f n) (g n)) → (x : Selection) → Grows (selection_cost f x) (selection_cost g x)
  grows_selection f g p (field pos alias name arguments directives set_pos set) = grows_both (Some 1) (set_cost f set) (Some 1) (set_cost g set) (grows_same (Some 1)) (grows_set f g p set)
  grows_selection f g p (fragment_spread s) = p s.node.fragment_name.node
  grows_selection f g p (inline_fragment pos condition directives set_pos set) = grows_set f g p set

  pub grows_set : (f g : Name → Option ℕ) → ((n : Name) → Grows (f n) (g n)) → (xs : SelectionSet) → Grows (set_cost f xs) (set_cost g xs)
  grows_set f g p no_selections = grows_same (Some 0)
  grows_set f g p (selection_and pos x xs) = grows_both (selection_cost f x) (set_cost f xs) (selection_cost g x) (set_cost g xs) (grows_selection f g p x) (grows_set f g p xs)

grows_named : {V : Type 0} (g h : V → Option ℕ) → ((v : V) → Grows (g v) (h v)) → (v : Option V) → Grows (option_and_then g v) (option_and_then h v)
grows_named g h p None = grows_same None
grows_named g h p (Some v) = p v

-- one level more keeps the costs that are known
grows_deeper : (fs : Fragments) (k : ℕ) (f : Fragment) → Grows (fragment_cost fs k f) (fragment_cost fs (suc k) f)
grows_deeper fs zero f = grows_none None (fragment_cost fs (suc zero) f) refl
grows_deeper fs (suc k) f = grows_set (named_cost fs k) (named_cost fs (suc k)) (λ name. grows_named (fragment_cost fs k) (fragment_cost fs (suc k)) (grows_deeper fs k) (named name fs)) f.node.selection_set.node

-- ---- how many costs are missing

abbrev missing_one : Option ℕ → ℕ
missing_one None = 1
missing_one (Some c) = 0

abbrev missing : List (Option ℕ) → ℕ
missing [] = 0
missing (x ∷ xs) = missing_one x + missing xs

missing_all : (xs : List (Option ℕ)) → missing xs ≤ length xs
missing_all [] = omega arith
missing_all (None ∷ xs) = let e = missing_all xs in omega arith
missing_all (Some c ∷ xs) = let e = missing_all xs in omega arith

-- where costs are kept, either they are the same, or fewer are missing
record Step (xs ys : List (Option ℕ)) : Type 0 where
  fewer : missing ys ≤ missing xs
  moves : (xs ≡ ys) ⊎ (suc (missing ys) ≤ missing xs)

step_one : (x y : Option ℕ) → Grows x y → (x ≡ y) ⊎ (suc (missing_one y) ≤ missing_one x)
step_one (Some a) y p = inl (sym (p.keeps a refl))
step_one None None p = inl refl
step_one None (Some b) p = inr (omega arith)

cons_moves : (x y : Option ℕ) (xs ys : List (Option ℕ)) → x ≡ y → (xs ≡ ys) ⊎ (suc (missing ys) ≤ missing xs) → ((x ∷ xs) ≡ (y ∷ ys)) ⊎ (suc (missing (y ∷ ys)) ≤ missing (x ∷ xs))
cons_moves x y xs ys e (inl same) = inl (ap₂ (λ (a : Option ℕ) (as₀ : List (Option ℕ)). a ∷ as₀) e same)
cons_moves x y xs ys e (inr few) = inr (let k = ap missing_one e in omega arith)

cons_step : (x y : Option ℕ) (xs ys : List (Option ℕ)) → (x ≡ y) ⊎ (suc (missing_one y) ≤ missing_one x) → Step xs ys → Step (x ∷ xs) (y ∷ ys)
cons_step x y xs ys (inr few) rest = record {
  fewer = let h = rest.fewer in omega arith;
  moves = inr (let h = rest.fewer in omega arith);
}
cons_step x y xs ys (inl e) rest = record {
  fewer = let h = rest.fewer in let k = ap missing_one e in omega arith;
  moves = cons_moves x y xs ys e rest.moves;
}

steps : {V : Type 0} (g h : V → Option ℕ) → ((v : V) → Grows (g v) (h v)) → (fs : List (Name × V)) → Step (map (λ (f : Name × V). g f.1) fs) (map (λ (f : Name × V). h f.1) fs)
steps g h p [] = record { fewer = omega arith; moves = inl refl }
steps {V} g h p (f ∷ fs) = cons_step (g f.1) (h f.1) (map (λ (f : Name × V). g f.1) fs) (map (λ (f : Name × V). h f.1) fs) (step_one (g f.1) (h f.1) (p f.1)) (steps g h p fs)

-- ---- as many levels as there are fragments are enough

abbrev pub table : Fragments → ℕ → List (Option ℕ)
table fs k = map (λ (f : Name × Fragment). fragment_cost fs k f.1) fs

-- where two depths give the same costs to the fragments, names have the same costs
named_by_table : (fs : Fragments) (k l : ℕ) → table fs k ≡ table fs l → (name : Name) → named_cost fs k name ≡ named_cost fs l name
named_by_table fs k l e name =
    sym (price_of_first (fragment_cost fs k) fs name) ∙ (ap (λ (prices : List (Option ℕ)). price_in fs prices name) e ∙ price_of_first (fragment_cost fs l) fs name)

table_suc : (fs : Fragments) (k l : ℕ) → table fs k ≡ table fs l → table fs (suc k) ≡ table fs (suc l)
table_suc fs k l e = ap (λ (cost_of : Name → Option ℕ). map (λ (f : Name × Fragment). set_cost cost_of f.1.node.selection_set.node) fs) (λ i. λ name. named_by_table fs k l e name i)

start : (fs : Fragments) → missing (table fs zero) + zero ≤ length fs
start fs = let h = missing_all (table fs zero) in let e = length-map fs (λ (f : Name × Fragment). fragment_cost fs zero f.1) in omega arith

-- what one level more comes to, where some costs are missing
further : (n k : ℕ) (xs ys : List (Option ℕ)) → missing xs + k ≤ n → (xs ≡ ys) ⊎ (suc (missing ys) ≤ missing xs) → (xs ≡ ys) ⊎ (missing ys + suc k ≤ n)
further n k xs ys h (inl e) = inl e
further n k xs ys h (inr few) = inr (omega arith)

progress_one : (fs : Fragments) (k : ℕ) → (table fs k ≡ table fs (suc k)) ⊎ (missing (table fs k) + k ≤ length fs) → (table fs (suc k) ≡ table fs (suc (suc k))) ⊎ (missing (table fs (suc k)) + suc k ≤ length fs)
progress_one fs k (inl e) = inl (table_suc fs k (suc k) e)
progress_one fs k (inr h) =
    elim (further (length fs) k (table fs k) (table fs (suc k)) h ((steps (fragment_cost fs k) (fragment_cost fs (suc k)) (grows_deeper fs k) fs).moves))
    as (λ _. (table fs (suc k) ≡ table fs (suc (suc k))) ⊎ (missing (table fs (suc k)) + suc k ≤ length fs))
    [ inl e ↦ inl (table_suc fs k (suc k) e) | inr few ↦ inr few ]

progress : (fs : Fragments) (k : ℕ) → (table fs k ≡ table fs (suc k)) ⊎ (missing (table fs k) + k ≤ length fs)
progress fs zero = inr (start fs)
progress fs (suc k) = progress_one fs k (progress fs k)

none_missing : (n : ℕ) (xs ys : List (Option ℕ)) → missing xs + n ≤ n → (xs ≡ ys) ⊎ (suc (missing ys) ≤ missing xs) → xs ≡ ys
none_missing n xs ys h (inl e) = e
none_missing n xs ys h (inr few) = absurd (omega arith)

stable_from : (fs : Fragments) (n : ℕ) → n ≡ length fs → (table fs n ≡ table fs (suc n)) ⊎ (missing (table fs n) + n ≤ length fs) → table fs n ≡ table fs (suc n)
stable_from fs n e (inl same) = same
stable_from fs n e (inr h) = none_missing n (table fs n) (table fs (suc n)) (omega arith) ((steps (fragment_cost fs n) (fragment_cost fs (suc n)) (grows_deeper fs n) fs).moves)

pub stable : (fs : Fragments) → table fs (length fs) ≡ table fs (suc (length fs))
stable fs = stable_from fs (length fs) refl (progress fs (length fs))

-- ---- so any depth gives the cost at that one

named_grows_by : (fs : Fragments) (depth : ℕ) → ((f : Fragment) → Grows (fragment_cost fs depth f) (fragment_cost fs (suc (length fs)) f)) →
    (name : Name) → Grows (named_cost fs depth name) (named_cost fs (length fs) name)
named_grows_by fs depth p name =
    subst (Grows (named_cost fs depth name)) (sym (named_by_table fs (length fs) (suc (length fs)) (stable fs) name))
    (grows_named (fragment_cost fs depth) (fragment_cost fs (suc (length fs))) p (named name fs))

fragment_grows : (fs : Fragments) (depth : ℕ) (f : Fragment) → Grows (fragment_cost fs depth f) (fragment_cost fs (suc (length fs)) f)
fragment_grows fs zero f = grows_none None (fragment_cost fs (suc (length fs)) f) refl
fragment_grows fs (suc depth) f = grows_set (named_cost fs depth) (named_cost fs (length fs)) (named_grows_by fs depth (fragment_grows fs depth)) f.node.selection_set.node

pub named_grows : (fs : Fragments) (depth : ℕ) (name : Name) → Grows (named_cost fs depth name) (named_cost fs (length fs) name)
named_grows fs depth = named_grows_by fs depth (fragment_grows fs depth)

grows_entries : (f g : Name → Option ℕ) → ((n : Name) → Grows (f n) (g n)) → (os : List (Name × Positioned OperationDefinition)) → Grows (entries_cost f os) (entries_cost g os)
grows_entries f g p [] = grows_same (Some 0)
grows_entries f g p (o ∷ os) = grows_both (set_cost f o.1.node.selection_set.node) (entries_cost f os) (set_cost g o.1.node.selection_set.node) (entries_cost g os) (grows_set f g p o.1.node.selection_set.node) (grows_entries f g p os)

grows_operations : (f g : Name → Option ℕ) → ((n : Name) → Grows (f n) (g n)) → (ops : Operations) → Grows (operations_cost f ops) (operations_cost g ops)
grows_operations f g p (single o) = grows_set f g p o.node.selection_set.node
grows_operations f g p (multiple os) = grows_entries f g p os

-- what a request costs at any depth, it costs where its spreads nest as deep as there are fragments
pub enough : (d : Document) (cost : ℕ) → Costs d cost → cost_at_depth (length d.fragments) d ≡ Some cost
enough d cost p = (grows_operations (named_cost d.fragments p.0) (named_cost d.fragments (length d.fragments)) (named_grows d.fragments p.0) d.operations).keeps cost p.1
