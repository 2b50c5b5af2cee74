-- What is kept of the roots of a schema, with one root more.
use Rattle.std.proofs.Common.{◌≡◌, Bool, true, false, cond, ◌||◌, is_some, Option, Some, None, option_map, List, [], ◌∷◌, ◌++◌, refl, sym, ap, ◌∙◌, append_assoc, append-nil}
use Rattle.std.specs.Option.{option_or}
use Rattle.graphql_syntax.specs.declared.types.OperationType.{OperationType}
use Rattle.graphql_syntax.specs.declared.types.OperationType.TheVariants.{Query, Mutation, Subscription}
use Rattle.graphql_schemas.specs.grammar.Rules.{same_kind, first_repeated}
use Rattle.graphql_schemas.specs.grammar.Schema.{Root}
use Rattle.graphql_parser.specs.declared.check.schemas.rules.Root as code_root
use Rattle.graphql_parser.specs.declared.check.schemas.rules.Roots as code_roots
use Rattle.graphql_parser.specs.SchemaRules.{head_of, has_kind, roots_of}

-- ---- kinds

one-kind : (b : Bool) (root : Root) → is_some (cond b (Some root) None) ≡ b
one-kind true root = refl
one-kind false root = refl

other-kind : (b c : Bool) (root : Root) (o p : Option Root) → is_some o ≡ (is_some p || c) → is_some (cond b (Some root) o) ≡ (is_some (cond b (Some root) p) || c)
other-kind true c root o p e = refl
other-kind false c root o p e = e

pub kind-more : (kind : OperationType) (roots : List Root) (last : Root) → has_kind kind (roots ++ last ∷ []) ≡ (has_kind kind roots || same_kind kind last.kind)
kind-more kind [] last = one-kind (same_kind kind last.kind) last
kind-more kind (root ∷ roots) last = other-kind (same_kind kind root.kind) (same_kind kind last.kind) root _ _ (kind-more kind roots last)

-- ---- the first whose kind one before it has

either-or : {A : Type 0} (b : Bool) (a : A) (o p q : Option A) → o ≡ option_or p q → cond b (Some a) o ≡ option_or (cond b (Some a) p) q
either-or true a o p q e = refl
either-or false a o p q e = e

repeats-more : (front roots : List Root) (last : Root) → first_repeated front (roots ++ last ∷ []) ≡ option_or (first_repeated front roots) (cond (has_kind last.kind (front ++ roots)) (Some last) None)
repeats-more front [] last = ap (λ (l : List Root). cond (has_kind last.kind l) (Some last) None) (sym (append-nil front))
repeats-more front (root ∷ roots) last =
    either-or (has_kind root.kind front) root _ _ _
    (repeats-more (front ++ root ∷ []) roots last ∙ ap (λ (l : List Root). option_or (first_repeated (front ++ root ∷ []) roots) (cond (has_kind last.kind l) (Some last) None)) (append_assoc front (root ∷ []) roots))

mapped-or : {A B : Type 0} (f : A → B) (o : Option A) (b : Bool) (a : A) → option_map f (option_or o (cond b (Some a) None)) ≡ option_or (option_map f o) (cond b (Some (f a)) None)
mapped-or f (Some x) b a = refl
mapped-or f None true a = refl
mapped-or f None false a = refl

pub repeated-more : (roots : List Root) (last : Root) → option_map head_of (first_repeated [] (roots ++ last ∷ [])) ≡ option_or (option_map head_of (first_repeated [] roots)) (cond (has_kind last.kind roots) (Some (head_of last)) None)
repeated-more roots last = ap (option_map head_of) (repeats-more [] roots last) ∙ mapped-or head_of (first_repeated [] roots) (has_kind last.kind roots) last

-- with one root more, what is kept is still what is kept of all
pub roots-more : (roots : List Root) (last : Root) (self : code_roots.Roots) (root : code_root.Root) → self ≡ roots_of roots → root ≡ head_of last → (query mutation subscription : Bool) (again repeated : Option code_root.Root) → query ≡ (self.query || same_kind Query root.kind) → mutation ≡ (self.mutation || same_kind Mutation root.kind) → subscription ≡ (self.subscription || same_kind Subscription root.kind) → again ≡ cond (has_kind root.kind roots) (Some root) None → repeated ≡ option_or self.repeated again → record { query = query; mutation = mutation; subscription = subscription; repeated = repeated } ≡ roots_of (roots ++ last ∷ [])
roots-more roots last self root is head query mutation subscription again repeated q m s a r =
    let q' : query ≡ has_kind Query (roots ++ last ∷ []) = q ∙ (λ i. (is i).query || same_kind Query (head i).kind) ∙ sym (kind-more Query roots last) in
    let m' : mutation ≡ has_kind Mutation (roots ++ last ∷ []) = m ∙ (λ i. (is i).mutation || same_kind Mutation (head i).kind) ∙ sym (kind-more Mutation roots last) in
    let s' : subscription ≡ has_kind Subscription (roots ++ last ∷ []) = s ∙ (λ i. (is i).subscription || same_kind Subscription (head i).kind) ∙ sym (kind-more Subscription roots last) in
    let a' : again ≡ cond (has_kind last.kind roots) (Some (head_of last)) None = a ∙ (λ i. cond (has_kind (head i).kind roots) (Some (head i)) None) in
    let r' : repeated ≡ option_map head_of (first_repeated [] (roots ++ last ∷ [])) = r ∙ (λ i. option_or (is i).repeated (a' i)) ∙ sym (repeated-more roots last) in
    λ i. record { query = q' i; mutation = m' i; subscription = s' i; repeated = r' i }
