-- The roots of a schema in the order of their places: they are roots of the schema, each under its kind, and no kind comes twice.
use Rattle.std.proofs.Common.{◌≡◌, Bool, true, false, cond, Option, Some, None, option_map, List, [], ◌∷◌, map, refl, sym, ap, ◌∙◌, subst, if◌then◌else◌}
use Rattle.std.specs.List.{AllByRecursion}
use Rattle.graphql_tokens.specs.declared.pos.Pos.{Pos}
use Rattle.graphql_reading.specs.grammar.Places.{nowhere}
use Rattle.graphql_syntax.specs.declared.types.OperationType.{OperationType}
use Rattle.graphql_syntax.specs.declared.types.OperationType.TheVariants.{Query, Mutation, Subscription}
use Rattle.graphql_schemas.specs.grammar.Documents.{root_name, schema_tree_of}
use Rattle.graphql_schemas.specs.grammar.Rules.{same_kind, first_of_kind, first_repeated}
use Rattle.graphql_schemas.specs.grammar.Placeless.{placeless_root}
use Rattle.graphql_schemas.specs.grammar.Schema.{Root, Schema}
use Rattle.graphql_printer.specs.inner.Places.{stands_before}
use Rattle.graphql_printer.specs.inner.ShownSchemas.{Root as ShownRoot, put_root, with_root, roots_of}

-- ---- the order, of roots as they are written

abbrev pub as_kind : OperationType → Root → Root
as_kind kind root = record { kind = kind; pos = root.pos; name = root.name }

abbrev one : OperationType → Option Root → Option Root
one kind root = option_map (as_kind kind) root

-- by which root goes before which
module _ (before : Root → Root → Bool) where
  abbrev put : Root → List Root → List Root
  put root [] = root ∷ []
  put root (first ∷ others) = if before root first then root ∷ first ∷ others else first ∷ put root others

  abbrev with_one : Option Root → List Root → List Root
  with_one None roots = roots
  with_one (Some root) roots = put root roots

  abbrev three : Option Root → Option Root → Option Root → List Root
  three query mutation subscription = with_one (one Subscription subscription) (with_one (one Mutation mutation) (with_one (one Query query) []))

  abbrev pub ordered : List Root → List Root
  ordered roots = three (first_of_kind Query roots) (first_of_kind Mutation roots) (first_of_kind Subscription roots)

  -- ---- each is under its kind, and no kind comes twice

  record AreApart (q m s : Option Root) (roots : List Root) : Type 0 where
    query : first_of_kind Query roots ≡ one Query q
    mutation : first_of_kind Mutation roots ≡ one Mutation m
    subscription : first_of_kind Subscription roots ≡ one Subscription s
    once : first_repeated [] roots ≡ None

  apart : (q m s : Option Root) → AreApart q m s (three q m s)
  apart None None None = record { query = refl; mutation = refl; subscription = refl; once = refl }
  apart (Some q) None None = record { query = refl; mutation = refl; subscription = refl; once = refl }
  apart None (Some m) None = record { query = refl; mutation = refl; subscription = refl; once = refl }
  apart None None (Some s) = record { query = refl; mutation = refl; subscription = refl; once = refl }
  apart (Some q) (Some m) None =
      elim (before (as_kind Mutation m) (as_kind Query q)) as (λ b. AreApart (Some q) (Some m) None (if b then as_kind Mutation m ∷ as_kind Query q ∷ [] else as_kind Query q ∷ as_kind Mutation m ∷ [])) [
        | true ↦ record { query = refl; mutation = refl; subscription = refl; once = refl }
        | false ↦ record { query = refl; mutation = refl; subscription = refl; once = refl }
      ]
  apart (Some q) None (Some s) =
      elim (before (as_kind Subscription s) (as_kind Query q)) as (λ b. AreApart (Some q) None (Some s) (if b then as_kind Subscription s ∷ as_kind Query q ∷ [] else as_kind Query q ∷ as_kind Subscription s ∷ [])) [
        | true ↦ record { query = refl; mutation = refl; subscription = refl; once = refl }
        | false ↦ record { query = refl; mutation = refl; subscription = refl; once = refl }
      ]
  apart None (Some m) (Some s) =
      elim (before (as_kind Subscription s) (as_kind Mutation m)) as (λ b. AreApart None (Some m) (Some s) (if b then as_kind Subscription s ∷ as_kind Mutation m ∷ [] else as_kind Mutation m ∷ as_kind Subscription s ∷ [])) [
        | true ↦ record { query = refl; mutation = refl; subscription = refl; once = refl }
        | false ↦ record { query = refl; mutation = refl; subscription = refl; once = refl }
      ]
  apart (Some q) (Some m) (Some s) = by (before (as_kind Mutation m) (as_kind Query q))
    where
      query : Root
      query = as_kind Query q

      mutation : Root
      mutation = as_kind Mutation m

      subscription : Root
      subscription = as_kind Subscription s

      -- before both, between them, or after them
      three_of : (x y : Root) → AreApart (Some q) (Some m) (Some s) (subscription ∷ x ∷ y ∷ []) → AreApart (Some q) (Some m) (Some s) (x ∷ subscription ∷ y ∷ []) → AreApart (Some q) (Some m) (Some s) (x ∷ y ∷ subscription ∷ []) → AreApart (Some q) (Some m) (Some s) (put subscription (x ∷ y ∷ []))
      three_of x y first second third =
          elim (before subscription x) as (λ b. AreApart (Some q) (Some m) (Some s) (if b then subscription ∷ x ∷ y ∷ [] else x ∷ put subscription (y ∷ []))) [
            | true ↦ first
            | false ↦ elim (before subscription y) as (λ b. AreApart (Some q) (Some m) (Some s) (x ∷ (if b then subscription ∷ y ∷ [] else y ∷ subscription ∷ []))) [ true ↦ second | false ↦ third ]
          ]

      by : (b : Bool) → AreApart (Some q) (Some m) (Some s) (put subscription (if b then mutation ∷ query ∷ [] else query ∷ mutation ∷ []))
      by true =
          three_of mutation query (record { query = refl; mutation = refl; subscription = refl; once = refl }) (record { query = refl; mutation = refl; subscription = refl; once = refl }) (record { query = refl; mutation = refl; subscription = refl; once = refl })
      by false =
          three_of query mutation (record { query = refl; mutation = refl; subscription = refl; once = refl }) (record { query = refl; mutation = refl; subscription = refl; once = refl }) (record { query = refl; mutation = refl; subscription = refl; once = refl })

  of_roots : (roots : List Root) → AreApart (first_of_kind Query roots) (first_of_kind Mutation roots) (first_of_kind Subscription roots) (ordered roots)
  of_roots roots = apart (first_of_kind Query roots) (first_of_kind Mutation roots) (first_of_kind Subscription roots)

  pub order-once : (roots : List Root) → first_repeated [] (ordered roots) ≡ None
  order-once roots = (of_roots roots).once

  pub order-first : (kind : OperationType) (roots : List Root) → first_of_kind kind (ordered roots) ≡ option_map (as_kind kind) (first_of_kind kind roots)
  order-first Query roots = (of_roots roots).query
  order-first Mutation roots = (of_roots roots).mutation
  order-first Subscription roots = (of_roots roots).subscription

  pub order-names : (kind : OperationType) (roots : List Root) → root_name kind (ordered roots) ≡ root_name kind roots
  order-names kind roots = ap (option_map (λ r. r.name)) (order-first kind roots) ∙ by (first_of_kind kind roots)
    where
      by : (root : Option Root) → option_map (λ r. r.name) (one kind root) ≡ option_map (λ r. r.name) root
      by None = refl
      by (Some root) = refl

  -- ---- they are roots of the schema

  same-is : (a b : OperationType) → same_kind a b ≡ true → a ≡ b
  same-is Query Query e = refl
  same-is Mutation Mutation e = refl
  same-is Subscription Subscription e = refl
  same-is a b e = absurd cc

  same-itself : (kind : OperationType) → same_kind kind kind ≡ true
  same-itself Query = refl
  same-itself Mutation = refl
  same-itself Subscription = refl

  of-kind : (P : Root → Type 0) (kind : OperationType) (roots : List Root) → AllByRecursion P roots → (root : Root) → first_of_kind kind roots ≡ Some root → P (as_kind kind root)
  of-kind P kind [] h root e = absurd cc
  of-kind P kind (first ∷ others) h root e = by (same_kind kind first.kind) refl e (of-kind P kind others h.1 root)
    where
      by : (b : Bool) → same_kind kind first.kind ≡ b → cond b (Some first) (first_of_kind kind others) ≡ Some root → (first_of_kind kind others ≡ Some root → P (as_kind kind root)) → P (as_kind kind root)
      by true same is more =
          let this : first ≡ root = cc in
          subst (λ (r : Root). P (as_kind kind r)) this (subst (λ (k : OperationType). P (as_kind k first)) (sym (same-is kind first.kind same)) h.0)
      by false same is more = more is

  each-put : (P : Root → Type 0) (root : Root) (roots : List Root) → P root → AllByRecursion P roots → AllByRecursion P (put root roots)
  each-put P root [] h k = (h, tt)
  each-put P root (first ∷ others) h k = by (before root first) (each-put P root others h k.1)
    where
      by : (b : Bool) → AllByRecursion P (put root others) → AllByRecursion P (if b then root ∷ first ∷ others else first ∷ put root others)
      by true e = (h, k)
      by false e = (k.0, e)

  each-with : (P : Root → Type 0) (kind : OperationType) (root : Option Root) (roots : List Root) → ((r : Root) → root ≡ Some r → P (as_kind kind r)) → AllByRecursion P roots → AllByRecursion P (with_one (one kind root) roots)
  each-with P kind None roots h k = k
  each-with P kind (Some root) roots h k = each-put P (as_kind kind root) roots (h root refl) k

  pub order-each : (P : Root → Type 0) (roots : List Root) → AllByRecursion P roots → AllByRecursion P (ordered roots)
  order-each P roots h =
      each-with P Subscription (first_of_kind Subscription roots) _ (of-kind P Subscription roots h)
      (each-with P Mutation (first_of_kind Mutation roots) _ (of-kind P Mutation roots h)
      (each-with P Query (first_of_kind Query roots) [] (of-kind P Query roots h) tt))

  -- and there are some, where the schema has some
  pub order-some : (first : Root) (others : List Root) → ordered (first ∷ others) ≡ [] → ⊥
  order-some first others e =
      let here : first_of_kind first.kind (first ∷ others) ≡ Some first = ap (λ (b : Bool). cond b (Some first) (first_of_kind first.kind others)) (same-itself first.kind) in
      let none : None ≡ one first.kind (first_of_kind first.kind (first ∷ others)) = sym (ap (first_of_kind first.kind) e) ∙ order-first first.kind (first ∷ others) in
      nothing (none ∙ ap (one first.kind) here)
    where
      nothing : None ≡ Some first → ⊥
      nothing e = cc

-- ---- the order of their places, in which roots are printed

abbrev pub by_place : Root → Root → Bool
by_place a b = stands_before a.name.pos b.name.pos

abbrev pub in_order : List Root → List Root
in_order roots = ordered by_place roots

abbrev pub root_of : Root → ShownRoot
root_of root = (root.kind, root.name)

put-shown : (root : Root) (roots : List Root) → map root_of (put by_place root roots) ≡ put_root (root_of root) (map root_of roots)
put-shown root [] = refl
put-shown root (first ∷ others) = by (stands_before root.name.pos first.name.pos) (put-shown root others)
  where
    by : (b : Bool) → map root_of (put by_place root others) ≡ put_root (root_of root) (map root_of others)
        → map root_of (if b then root ∷ first ∷ others else first ∷ put by_place root others) ≡ (if b then root_of root ∷ root_of first ∷ map root_of others else root_of first ∷ put_root (root_of root) (map root_of others))
    by true e = refl
    by false e = ap (λ (l : List ShownRoot). root_of first ∷ l) e

with-shown : (kind : OperationType) (root : Option Root) (roots : List Root) (shown : List ShownRoot) → map root_of roots ≡ shown → map root_of (with_one by_place (one kind root) roots) ≡ with_root kind (option_map (λ r. r.name) root) shown
with-shown kind None roots shown e = e
with-shown kind (Some root) roots shown e = put-shown (as_kind kind root) roots ∙ ap (put_root (kind, root.name)) e

pub order-shown : (s : Schema) → map root_of (in_order s.roots) ≡ roots_of (schema_tree_of s)
order-shown s =
    let roots = s.roots in
    let query = with-shown Query (first_of_kind Query roots) [] [] refl in
    let mutation = with-shown Mutation (first_of_kind Mutation roots) _ _ query in
    with-shown Subscription (first_of_kind Subscription roots) _ _ mutation

-- ---- the order of roots that are at other places

abbrev pick : Option Root → Option Root → Option Root → OperationType → Option Root
pick q m s Query = q
pick q m s Mutation = m
pick q m s Subscription = s

abbrev place_in : Option Root → Pos
place_in None = nowhere
place_in (Some root) = root.name.pos

-- roots go before one another as those of their kinds do
abbrev as_kinds : Option Root → Option Root → Option Root → Root → Root → Bool
as_kinds q m s a b = stands_before (place_in (pick q m s a.kind)) (place_in (pick q m s b.kind))

abbrev pub as_in : List Root → Root → Root → Bool
as_in roots = as_kinds (first_of_kind Query roots) (first_of_kind Mutation roots) (first_of_kind Subscription roots)

same-order : (q m s : Option Root) → three by_place q m s ≡ three (as_kinds q m s) q m s
same-order None None None = refl
same-order (Some q) None None = refl
same-order None (Some m) None = refl
same-order None None (Some s) = refl
same-order (Some q) (Some m) None = refl
same-order (Some q) None (Some s) = refl
same-order None (Some m) (Some s) = refl
same-order (Some q) (Some m) (Some s) =
    let query = as_kind Query q in
    let mutation = as_kind Mutation m in
    let subscription = as_kind Subscription s in
    elim (stands_before m.name.pos q.name.pos) as (λ b. put by_place subscription (if b then mutation ∷ query ∷ [] else query ∷ mutation ∷ []) ≡ put (as_kinds (Some q) (Some m) (Some s)) subscription (if b then mutation ∷ query ∷ [] else query ∷ mutation ∷ [])) [
      | true ↦ refl
      | false ↦ refl
    ]

first-placeless : (kind : OperationType) (roots : List Root) → option_map placeless_root (first_of_kind kind roots) ≡ first_of_kind kind (map placeless_root roots)
first-placeless kind [] = refl
first-placeless kind (root ∷ roots) = by (same_kind kind root.kind) (first-placeless kind roots)
  where
    by : (b : Bool) → option_map placeless_root (first_of_kind kind roots) ≡ first_of_kind kind (map placeless_root roots)
        → option_map placeless_root (cond b (Some root) (first_of_kind kind roots)) ≡ cond b (Some (placeless_root root)) (first_of_kind kind (map placeless_root roots))
    by true e = refl
    by false e = e

module _ (q m s : Option Root) where
  abbrev before : Root → Root → Bool
  before = as_kinds q m s

  put-placeless : (root : Root) (roots : List Root) → map placeless_root (put before root roots) ≡ put before (placeless_root root) (map placeless_root roots)
  put-placeless root [] = refl
  put-placeless root (first ∷ others) = by (before root first) (put-placeless root others)
    where
      by : (b : Bool) → map placeless_root (put before root others) ≡ put before (placeless_root root) (map placeless_root others)
          → map placeless_root (if b then root ∷ first ∷ others else first ∷ put before root others) ≡ (if b then placeless_root root ∷ placeless_root first ∷ map placeless_root others else placeless_root first ∷ put before (placeless_root root) (map placeless_root others))
      by true e = refl
      by false e = ap (λ (l : List Root). placeless_root first ∷ l) e

  with-placeless : (kind : OperationType) (root : Option Root) (roots others : List Root) → map placeless_root roots ≡ others → map placeless_root (with_one before (one kind root) roots) ≡ with_one before (one kind (option_map placeless_root root)) others
  with-placeless kind None roots others e = e
  with-placeless kind (Some root) roots others e = put-placeless (as_kind kind root) roots ∙ ap (put before (placeless_root (as_kind kind root))) e

  three-placeless : (a b c : Option Root) → map placeless_root (three before a b c) ≡ three before (option_map placeless_root a) (option_map placeless_root b) (option_map placeless_root c)
  three-placeless a b c =
      let query = with-placeless Query a [] [] refl in
      let mutation = with-placeless Mutation b _ _ query in
      with-placeless Subscription c _ _ mutation

  ordered-placeless : (roots : List Root) → map placeless_root (ordered before roots) ≡ ordered before (map placeless_root roots)
  ordered-placeless roots =
      let query = first-placeless Query roots in
      let mutation = first-placeless Mutation roots in
      let subscription = first-placeless Subscription roots in
      three-placeless (first_of_kind Query roots) (first_of_kind Mutation roots) (first_of_kind Subscription roots) ∙ (λ i. three before (query i) (mutation i) (subscription i))

-- where roots are the same but for places, they go in the same order by the places of the one
pub order-like : (roots others : List Root) → map placeless_root roots ≡ map placeless_root others → map placeless_root (in_order roots) ≡ map placeless_root (ordered (as_in roots) others)
order-like roots others same =
    let q = first_of_kind Query roots in
    let m = first_of_kind Mutation roots in
    let s = first_of_kind Subscription roots in
    ap (map placeless_root) (same-order q m s) ∙ ordered-placeless q m s roots ∙ ap (ordered (as_in roots)) same ∙ sym (ordered-placeless q m s others)
