use Rattle.std.proofs.Common.{rules}
use Rattle.graphql_parser.specs.trees.SchemaViews.{schema_document_tree}
use Rattle.graphql_packed.proofs.SchemasDetermined.{only_schema}
use Rattle.graphql_packed.proofs.packed_schema.Goals as goal

pub returns-clause-determines : goal.returns-clause-determines
returns-clause-determines c other more begins = only_schema c.finish.result.items (schema_document_tree c.args.document.now) other more (search rules) begins
