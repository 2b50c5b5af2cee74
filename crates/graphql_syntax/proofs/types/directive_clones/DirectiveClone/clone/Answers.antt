use Rattle.graphql_syntax.proofs.Clones.{same_node, same_arguments}
use Rattle.graphql_syntax.specs.trees.ValueViews.{value_tree}
use Rattle.graphql_syntax.proofs.types.directive_clones.DirectiveClone.clone.Goals as goal

pub returns : goal.returns
returns c =
    let name = same_node c.args.self.now.name c.in_ok-clone.field-0 c.in_ok-clone.ensures.cases in
    let arguments = same_arguments value_tree c.args.self.now.arguments.items c.in_ok-clone-2.field-0.items c.in_ok-clone-2.ensures.cases.0 in
    record { cases = λ i. record { name = name i; arguments = arguments i } }
