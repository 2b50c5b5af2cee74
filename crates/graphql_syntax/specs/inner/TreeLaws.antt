-- The laws of `==` of values: `same_tree` tests whether two trees are equal.
use Rattle.std.specs.Prelude.{◌≡◌, Bool, true, ◌&&◌, ◌↔◌, refl}
use Rattle.std.proofs.Common.{sym, ap, ◌∙◌}
use Rattle.std.specs.Cmp.{IsEquivalence, booleans_Decides, decided, first_so, second_so}
use Rattle.std.specs.Cmp.Lexicographic.{bytes_decides}
use Rattle.graphql_syntax.specs.trees.ValueTree.{Tree, variable, null, number, string, boolean, enumeration, list, object, Trees, no_trees, more_trees, Fields, no_fields, field}
use Rattle.graphql_syntax.specs.trees.TreeEquality.{same_text, same_tree, same_trees, same_fields}

pub both : (a b : Bool) → a ≡ true → b ≡ true → (a && b) ≡ true
both a b p q = cc

-- ---- what the test passes is equal

mutual
  pub same_tree-true : (s t : Tree) → same_tree s t ≡ true → s ≡ t
  same_tree-true (variable m) (variable n) e = ap variable ((bytes_decides m n).0 e)
  same_tree-true null null e = refl
  same_tree-true (number m) (number n) e = ap number ((bytes_decides m n).0 e)
  same_tree-true (string m) (string n) e = ap string ((bytes_decides m n).0 e)
  same_tree-true (boolean a) (boolean b) e = ap boolean ((booleans_Decides a b).0 e)
  same_tree-true (enumeration m) (enumeration n) e = ap enumeration ((bytes_decides m n).0 e)
  same_tree-true (list ts) (list us) e = ap list (same_trees-true ts us e)
  same_tree-true (object fs) (object gs) e = ap object (same_fields-true fs gs e)
  same_tree-true _ _ e = cc

  same_trees-true : (ts us : Trees) → same_trees ts us ≡ true → ts ≡ us
  same_trees-true no_trees no_trees e = refl
  same_trees-true (more_trees t ts) (more_trees u us) e =
      let one = same_tree-true t u (first_so (same_tree t u) (same_trees ts us) e) in
      let rest = same_trees-true ts us (second_so (same_tree t u) (same_trees ts us) e) in
      cc
  same_trees-true _ _ e = cc

  same_fields-true : (fs gs : Fields) → same_fields fs gs ≡ true → fs ≡ gs
  same_fields-true no_fields no_fields e = refl
  same_fields-true (field m t fs) (field n u gs) e =
      let name = (bytes_decides m n).0 (first_so (same_text m n) (same_tree t u && same_fields fs gs) e) in
      let both = second_so (same_text m n) (same_tree t u && same_fields fs gs) e in
      let one = same_tree-true t u (first_so (same_tree t u) (same_fields fs gs) both) in
      let rest = same_fields-true fs gs (second_so (same_tree t u) (same_fields fs gs) both) in
      cc
  same_fields-true _ _ e = cc

-- ---- a tree passes against itself

mutual
  pub same_tree-itself : (t : Tree) → same_tree t t ≡ true
  same_tree-itself (variable n) = (bytes_decides n n).1 refl
  same_tree-itself null = refl
  same_tree-itself (number n) = (bytes_decides n n).1 refl
  same_tree-itself (string s) = (bytes_decides s s).1 refl
  same_tree-itself (boolean b) = (booleans_Decides b b).1 refl
  same_tree-itself (enumeration n) = (bytes_decides n n).1 refl
  same_tree-itself (list ts) = same_trees-itself ts
  same_tree-itself (object fs) = same_fields-itself fs

  same_trees-itself : (ts : Trees) → same_trees ts ts ≡ true
  same_trees-itself no_trees = refl
  same_trees-itself (more_trees t ts) = both (same_tree t t) (same_trees ts ts) (same_tree-itself t) (same_trees-itself ts)

  same_fields-itself : (fs : Fields) → same_fields fs fs ≡ true
  same_fields-itself no_fields = refl
  same_fields-itself (field n t fs) =
      both (same_text n n) (same_tree t t && same_fields fs fs) ((bytes_decides n n).1 refl)
      (both (same_tree t t) (same_fields fs fs) (same_tree-itself t) (same_fields-itself fs))

pub same_tree-is : (s t : Tree) → same_tree s t ≡ true ↔ (s ≡ t)
same_tree-is s t = (same_tree-true s t, λ e. ap (same_tree s) (sym e) ∙ same_tree-itself s)

pub same_tree_equiv : IsEquivalence same_tree
same_tree_equiv = decided same_tree same_tree-is
