-- The trees that the definitions of the code stand for, before their document is made.
use Rattle.std.specs.Prelude.{List, map}
use Rattle.graphql_syntax.specs.trees.Parts.{placed}
use Rattle.graphql_syntax.specs.trees.PartViews.{const_directives_tree}
use Rattle.graphql_trees.specs.trees.SchemaViews.{description_tree, type_definition_tree, directive_definition_tree}
use Rattle.graphql_schemas.specs.declared.definitions.Definition as code
use Rattle.graphql_schemas.specs.declared.definitions.Definition.TheVariants as variants
use Rattle.graphql_schemas.specs.declared.schema.Root as code_root
use Rattle.graphql_schemas.specs.declared.schema.Schema as code_schema
use Rattle.graphql_schemas.specs.grammar.Schema.{Root, Schema}
use Rattle.graphql_schemas.specs.grammar.SchemaFile.{Definition, schema, type_def, directive}

abbrev pub root_tree : code_root.Root → Root
root_tree r = record { kind = r.kind; pos = r.pos; name = r.name }

abbrev pub root_trees : List code_root.Root → List Root
root_trees roots = map root_tree roots

abbrev pub schema_tree : code_schema.Schema → Schema
schema_tree s = record {
  description = description_tree s.description;
  extend = s.extend;
  directives = const_directives_tree s.directives.items;
  roots = root_trees s.roots.items;
}

abbrev pub definition_tree : code.Definition → Definition
definition_tree (variants.Schema s) = schema (placed schema_tree s)
definition_tree (variants.TypeDef t) = type_def (placed type_definition_tree t)
definition_tree (variants.Directive d) = directive (placed directive_definition_tree d)

abbrev pub definition_trees : List code.Definition → List Definition
definition_trees ds = map definition_tree ds
