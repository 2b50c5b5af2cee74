-- The tree that each value stands for: the case of its name over the trees of its parts.
-- Source: this project's choice; the trees are those of `ValueTree`.
use Rattle.std.specs.Prelude.{ℕ, List, map, string_bytes}
use Rattle.graphql_syntax.specs.trees.ValueTree.{Tree, variable, null, number, string, boolean, enumeration, list, object, Trees, Fields, trees_of, fields_of}
use Rattle.graphql_syntax.specs.declared.value.ConstValue.{ConstValue, fold-ConstValue}
use Rattle.graphql_syntax.specs.declared.value.ConstValue.TheOpen.{ConstValue-F}
use Rattle.graphql_syntax.specs.declared.value.Value.{Value, fold-Value}
use Rattle.graphql_syntax.specs.declared.value.Value.TheOpen.{Value-F}

-- one level of a value, over the trees of what stands inside
abbrev pub value_step : Value-F Tree → Tree
value_step (Value-F.Variable n) = variable n
value_step Value-F.Null = null
value_step (Value-F.Number n) = number n
value_step (Value-F.String s) = string (string_bytes s)
value_step (Value-F.Boolean b) = boolean b
value_step (Value-F.Enum n) = enumeration n
value_step (Value-F.List v) = list (trees_of v.items)
value_step (Value-F.Object v) = object (fields_of v.items)

abbrev pub value_tree : Value → Tree
value_tree = fold-Value Tree value_step

-- a level of a value without variables, as one of a value in which they may stand
abbrev pub as_value : ConstValue-F Tree → Value-F Tree
as_value ConstValue-F.Null = Value-F.Null
as_value (ConstValue-F.Number n) = Value-F.Number n
as_value (ConstValue-F.String s) = Value-F.String s
as_value (ConstValue-F.Boolean b) = Value-F.Boolean b
as_value (ConstValue-F.Enum n) = Value-F.Enum n
as_value (ConstValue-F.List v) = Value-F.List v
as_value (ConstValue-F.Object v) = Value-F.Object v

abbrev pub const_step : ConstValue-F Tree → Tree
const_step level = value_step (as_value level)

abbrev pub const_tree : ConstValue → Tree
const_tree = fold-ConstValue Tree const_step

-- the trees of the items of a list and of the fields of an object, of either type of values
module _ {V : Type 0} (tree : V → Tree) where
  abbrev pub trees_by : List V → Trees
  trees_by vs = trees_of (map tree vs)

  abbrev pub field_by : List ℕ × V → List ℕ × Tree
  field_by f = (f.0, tree f.1)

  abbrev pub fields_by : List (List ℕ × V) → Fields
  fields_by fs = fields_of (map field_by fs)
