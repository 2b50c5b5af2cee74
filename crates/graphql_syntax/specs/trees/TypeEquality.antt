-- The test of whether two type trees are equal.
-- Source: this project's choice.
use Rattle.std.specs.Prelude.{Bool, false, ◌&&◌, nat_eq}
use Rattle.std.specs.Bool.{beq}
use Rattle.std.specs.Cmp.Lexicographic.{pointwise}
use Rattle.graphql_syntax.specs.trees.TypeTree.{TypeTree, named, list}

-- the same case over the same parts
abbrev pub same_type : TypeTree → TypeTree → Bool
same_type (named m a) (named n b) = pointwise nat_eq m n && beq a b
same_type (list s a) (list t b) = same_type s t && beq a b
same_type _ _ = false
