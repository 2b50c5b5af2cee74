-- The document of a list of definitions that breaks no rule.
-- Source: this project's choice, as the Rust crate's: the definitions in source order, and each root of a schema under
-- its kind.
use Rattle.std.specs.Prelude.{Option, option_map, List, map}
use Rattle.graphql_tokens.specs.declared.pos.Positioned.{Positioned}
use Rattle.graphql_syntax.specs.declared.types.OperationType.{OperationType}
use Rattle.graphql_syntax.specs.declared.types.OperationType.TheVariants.{Query, Mutation, Subscription}
use Rattle.graphql_syntax.specs.trees.Parts.{Name, placed}
use Rattle.graphql_trees.specs.trees.Schema as trees
use Rattle.graphql_schemas.specs.grammar.Rules.{first_of_kind}
use Rattle.graphql_schemas.specs.grammar.Schema.{Root, Schema}
use Rattle.graphql_schemas.specs.grammar.SchemaFile.{Definition, schema, type_def, directive}

-- the name of the type at which operations of this kind begin
abbrev pub root_name : OperationType → List Root → Option (Positioned Name)
root_name kind roots = option_map (λ root. root.name) (first_of_kind kind roots)

abbrev pub schema_tree_of : Schema → trees.SchemaDefinition
schema_tree_of s = record {
  description = s.description;
  extend = s.extend;
  directives = s.directives;
  query = root_name Query s.roots;
  mutation = root_name Mutation s.roots;
  subscription = root_name Subscription s.roots;
}

abbrev pub tree_of : Definition → trees.Definition
tree_of (schema s) = trees.schema (placed schema_tree_of s)
tree_of (type_def t) = trees.type_def t
tree_of (directive d) = trees.directive d

abbrev pub document_of : List Definition → trees.Document
document_of ds = map tree_of ds
