-- The laws of `==` of types: `same_type` tests whether two trees are equal.
use Rattle.std.specs.Prelude.{◌≡◌, true, ◌↔◌, refl, nat_eq}
use Rattle.std.proofs.Common.{sym, ap, ◌∙◌}
use Rattle.std.specs.Bool.{beq}
use Rattle.std.specs.Cmp.{IsEquivalence, booleans_Decides, decided, first_so, second_so}
use Rattle.std.specs.Cmp.Lexicographic.{pointwise, bytes_decides}
use Rattle.graphql_syntax.specs.trees.TypeTree.{TypeTree, named, list}
use Rattle.graphql_syntax.specs.trees.TypeEquality.{same_type}
use Rattle.graphql_syntax.specs.inner.TreeLaws.{both}

-- what the test passes is equal
pub same_type-true : (s t : TypeTree) → same_type s t ≡ true → s ≡ t
same_type-true (named m a) (named n b) e =
    let name = (bytes_decides m n).0 (first_so (pointwise nat_eq m n) (beq a b) e) in
    let nullable = (booleans_Decides a b).0 (second_so (pointwise nat_eq m n) (beq a b) e) in
    cc
same_type-true (list s a) (list t b) e =
    let item = same_type-true s t (first_so (same_type s t) (beq a b) e) in
    let nullable = (booleans_Decides a b).0 (second_so (same_type s t) (beq a b) e) in
    cc
same_type-true _ _ e = cc

-- a tree passes against itself
pub same_type-itself : (t : TypeTree) → same_type t t ≡ true
same_type-itself (named n b) = both (pointwise nat_eq n n) (beq b b) ((bytes_decides n n).1 refl) ((booleans_Decides b b).1 refl)
same_type-itself (list t b) = both (same_type t t) (beq b b) (same_type-itself t) ((booleans_Decides b b).1 refl)

pub same_type-is : (s t : TypeTree) → same_type s t ≡ true ↔ (s ≡ t)
same_type-is s t = (same_type-true s t, λ e. ap (same_type s) (sym e) ∙ same_type-itself s)

pub same_type_equiv : IsEquivalence same_type
same_type_equiv = decided same_type same_type-is
