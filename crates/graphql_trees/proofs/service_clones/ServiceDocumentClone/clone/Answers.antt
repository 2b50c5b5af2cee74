use Rattle.graphql_syntax.proofs.Clones.{same_all}
use Rattle.graphql_trees.specs.trees.SchemaViews.{definition_tree}
use Rattle.graphql_trees.proofs.service_clones.ServiceDocumentClone.clone.Goals as goal

pub returns : goal.returns
returns c =
    let definitions = same_all definition_tree c.args.self.now.definitions.items c.in_ok-clone.field-0.items c.in_ok-clone.ensures.cases.0 in
    record { cases = definitions }
