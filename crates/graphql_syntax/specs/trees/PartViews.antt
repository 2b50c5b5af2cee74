-- The trees that arguments and directives stand for.
-- Source: this project's choice; the trees are those of `Parts`.
use Rattle.std.specs.Prelude.{List, map}
use Rattle.graphql_tokens.specs.declared.pos.Positioned.{Positioned}
use Rattle.graphql_syntax.specs.declared.value.ConstValue.{ConstValue}
use Rattle.graphql_syntax.specs.declared.value.Value.{Value}
use Rattle.graphql_syntax.specs.declared.types.ConstDirective.{ConstDirective}
use Rattle.graphql_syntax.specs.declared.types.Directive.{Directive}
use Rattle.graphql_syntax.specs.trees.Parts as trees
use Rattle.graphql_syntax.specs.trees.Parts.{Name, placed}
use Rattle.graphql_syntax.specs.trees.ValueViews.{const_tree, value_tree}

abbrev pub argument_tree : Positioned Name × Positioned Value → trees.Argument
argument_tree a = (a.0, placed value_tree a.1)

abbrev pub const_argument_tree : Positioned Name × Positioned ConstValue → trees.Argument
const_argument_tree a = (a.0, placed const_tree a.1)

abbrev pub arguments_tree : List (Positioned Name × Positioned Value) → trees.Arguments
arguments_tree as₀ = map argument_tree as₀

abbrev pub const_arguments_tree : List (Positioned Name × Positioned ConstValue) → trees.Arguments
const_arguments_tree as₀ = map const_argument_tree as₀

abbrev pub directive_tree : Directive → trees.Directive
directive_tree d = record { name = d.name; arguments = arguments_tree d.arguments.items }

abbrev pub const_directive_tree : ConstDirective → trees.Directive
const_directive_tree d = record { name = d.name; arguments = const_arguments_tree d.arguments.items }

abbrev pub directives_tree : List (Positioned Directive) → trees.Directives
directives_tree ds = map (placed directive_tree) ds

abbrev pub const_directives_tree : List (Positioned ConstDirective) → trees.Directives
const_directives_tree ds = map (placed const_directive_tree) ds
