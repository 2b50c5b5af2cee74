use Rattle.std.proofs.Common.{rules}
use Rattle.graphql_parser.specs.trees.RequestViews.{document_tree}
use Rattle.graphql_packed.proofs.RequestsDetermined.{only_request}
use Rattle.graphql_packed.proofs.packed_request.Goals as goal

pub returns-clause-determines : goal.returns-clause-determines
returns-clause-determines c other more begins = only_request c.finish.result.items (document_tree c.args.document.now) other more (search rules) begins
