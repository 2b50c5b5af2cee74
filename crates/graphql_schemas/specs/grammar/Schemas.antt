-- Schema files as a language: their grammar, their rules and their documents.
-- Source: this project's choice.
use Rattle.std.specs.Prelude.{◌≡◌, None, List}
use Rattle.std.specs.List.{AllByRecursion}
use Rattle.graphql_tokens.specs.tokens.Edition.{Former}
use Rattle.graphql_tokens.specs.tokens.Token.{Token}
use Rattle.graphql_trees.specs.declared.service.ServiceDocument.{ServiceDocument}
use Rattle.graphql_trees.specs.trees.SchemaViews.{schema_document_tree}
use Rattle.graphql_grammar.specs.answers.Language.{Language, grammar}
use Rattle.graphql_schemas.specs.grammar.Documents.{document_of}
use Rattle.graphql_schemas.specs.grammar.Placeless.{placeless_definitions}
use Rattle.graphql_schemas.specs.grammar.Rules.{breach_of}
use Rattle.graphql_schemas.specs.grammar.SchemaFile.{Definition, definitions, HasNoDescribedSchema}
use Rattle.graphql_reading.specs.grammar.Limits.{Limits}

-- a list of definitions lacks nothing
abbrev pub schemas : Language Definition ServiceDocument
schemas = record {
  definitions = definitions;
  placeless = placeless_definitions;
  breach = breach_of;
  lack = λ ds. None;
  makes = λ ds document. schema_document_tree document ≡ document_of ds;
}

-- where tokens have a tree by the former grammar, no schema in it has a description
abbrev pub FormerDescribesNoSchema : Limits → Type 0
FormerDescribesNoSchema limits = (tokens : List Token) (ds : List Definition) → grammar schemas Former limits tokens ds → AllByRecursion HasNoDescribedSchema ds
