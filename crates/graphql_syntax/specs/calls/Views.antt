-- What a borrowed view of a value stands for: the tree of the value.
-- Source: this project's choice; the trees are those of `ValueTree`.
use Rattle.std.specs.Prelude.{ℕ, List, map}
use Rattle.std.specs.Borrow.{Bor}
use Rattle.graphql_syntax.specs.trees.ValueTree as tree
use Rattle.graphql_syntax.specs.trees.ValueTree.{Tree, trees_of, fields_of}
use Rattle.graphql_syntax.specs.trees.ValueViews.{const_tree, value_tree, field_by}
use Rattle.graphql_syntax.specs.declared.value.view.ValueView.{ValueView}
use Rattle.graphql_syntax.specs.declared.value.view.ValueView.TheVariants as views
use Rattle.graphql_syntax.specs.declared.value.view.Items.{Items}
use Rattle.graphql_syntax.specs.declared.value.view.Items.TheVariants as items
use Rattle.graphql_syntax.specs.declared.value.view.Fields.{Fields}
use Rattle.graphql_syntax.specs.declared.value.view.Fields.TheVariants as fields
use Rattle.graphql_syntax.specs.declared.value.view.ListView.{ListView}
use Rattle.graphql_syntax.specs.declared.value.view.ObjectView.{ObjectView}
use Rattle.graphql_syntax.specs.declared.value.view.ListItems.{ListItems}
use Rattle.graphql_syntax.specs.declared.value.view.ObjectFields.{ObjectFields}

-- the items of a list, whichever type they have
abbrev pub items_of : Items → List Tree
items_of (items.Values vs) = map value_tree vs.now
items_of (items.Constants vs) = map const_tree vs.now

abbrev pub list_items : ListView → List Tree
list_items v = items_of v.items

-- the fields of an object, each name with its value
abbrev pub pairs_of : Fields → List (List ℕ × Tree)
pairs_of (fields.Values fs) = map (field_by value_tree) fs.now
pairs_of (fields.Constants fs) = map (field_by const_tree) fs.now

abbrev pub object_fields : ObjectView → List (List ℕ × Tree)
object_fields v = pairs_of v.fields

abbrev pub view_tree : ValueView → Tree
view_tree (views.Variable n) = tree.variable n.now
view_tree views.Null = tree.null
view_tree (views.Number n) = tree.number n.now
view_tree (views.String s) = tree.string s.now
view_tree (views.Boolean b) = tree.boolean b
view_tree (views.Enum n) = tree.enumeration n.now
view_tree (views.List v) = tree.list (trees_of (list_items v))
view_tree (views.Object v) = tree.object (fields_of (object_fields v))

-- a field, without its references
abbrev pub seen_field : Bor (List ℕ) × ValueView → List ℕ × Tree
seen_field f = (f.0.now, view_tree f.1)

-- what the iterators have left
abbrev pub items_left : ListItems → List Tree
items_left items = list_items items.left

abbrev pub fields_left : ObjectFields → List (List ℕ × Tree)
fields_left fields = object_fields fields.left
