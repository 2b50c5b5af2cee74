-- Type trees, and the texts that show them.
-- Source: GraphQL October 2021, section 2.11 (Type References). That a text has no blanks is this project's choice.
use Rattle.std.specs.Prelude.{ℕ, List, [], ◌++◌, Bool, true, false, codes}
use Rattle.graphql_syntax.specs.declared.types.Type.{«Type» as TypeReference}
use Rattle.graphql_syntax.specs.declared.types.BaseType.{BaseType, Named, List'}

-- a name, or a list of a type; and whether it may be null
pub data TypeTree : Type 0 where
  named : List ℕ → Bool → TypeTree
  list : TypeTree → Bool → TypeTree

-- the tree of a base, with its mark of nullability
abbrev pub base_tree : BaseType → Bool → TypeTree
base_tree (Named n) nullable = named n nullable
base_tree (List' p base inner) nullable = list (base_tree base inner) nullable

abbrev pub type_tree : TypeReference → TypeTree
type_tree t = base_tree t.base t.nullable

-- `!` where it may not be null
abbrev pub mark : Bool → List ℕ
mark true = []
mark false = codes "!"

-- the text that shows a type
abbrev pub type_text : TypeTree → List ℕ
type_text (named n nullable) = n ++ mark nullable
type_text (list t nullable) = codes "[" ++ (type_text t ++ (codes "]" ++ mark nullable))

-- the text that shows a base: that of the base as a type that may be null
abbrev pub base_text : BaseType → List ℕ
base_text b = type_text (base_tree b true)
