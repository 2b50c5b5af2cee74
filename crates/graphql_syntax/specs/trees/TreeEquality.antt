-- The test of whether two value trees are equal.
-- Source: this project's choice: numbers are equal by their literals, and objects with their fields in order.
use Rattle.std.specs.Prelude.{ℕ, List, Bool, true, false, ◌&&◌, nat_eq}
use Rattle.std.specs.Bool.{beq}
use Rattle.std.specs.Cmp.Lexicographic.{pointwise}
use Rattle.graphql_syntax.specs.trees.ValueTree.{Tree, variable, null, number, string, boolean, enumeration, list, object, Trees, no_trees, more_trees, Fields, no_fields, field}

abbrev pub same_text : List ℕ → List ℕ → Bool
same_text = pointwise nat_eq

-- the same case over the same parts
abbrev mutual
  pub same_tree : Tree → Tree → Bool
  same_tree (variable m) (variable n) = same_text m n
  same_tree null null = true
  same_tree (number m) (number n) = same_text m n
  same_tree (string s) (string t) = same_text s t
  same_tree (boolean a) (boolean b) = beq a b
  same_tree (enumeration m) (enumeration n) = same_text m n
  same_tree (list ts) (list us) = same_trees ts us
  same_tree (object fs) (object gs) = same_fields fs gs
  same_tree _ _ = false

  pub same_trees : Trees → Trees → Bool
  same_trees no_trees no_trees = true
  same_trees (more_trees t ts) (more_trees u us) = same_tree t u && same_trees ts us
  same_trees _ _ = false

  pub same_fields : Fields → Fields → Bool
  same_fields no_fields no_fields = true
  same_fields (field m t fs) (field n u gs) = same_text m n && (same_tree t u && same_fields fs gs)
  same_fields _ _ = false
