-- Requests as a language: their grammar, their rules and their documents.
-- Source: this project's choice.
use Rattle.std.specs.Prelude.{◌≡◌}
use Rattle.graphql_trees.specs.declared.executable.ExecutableDocument.{ExecutableDocument}
use Rattle.graphql_trees.specs.trees.RequestViews.{document_tree}
use Rattle.graphql_grammar.specs.answers.Language.{Language}
use Rattle.graphql_requests.specs.grammar.Documents.{document_of}
use Rattle.graphql_requests.specs.grammar.Placeless.{placeless_definitions}
use Rattle.graphql_requests.specs.grammar.Request.{Definition, definitions}
use Rattle.graphql_requests.specs.grammar.Rules.{breach_of, lack_of}

abbrev pub requests : Language Definition ExecutableDocument
requests = record {
  definitions = definitions;
  placeless = placeless_definitions;
  breach = breach_of;
  lack = lack_of;
  makes = λ ds document. document_tree document ≡ document_of ds;
}
