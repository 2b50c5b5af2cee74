use Rattle.std.proofs.Common.{◌≡◌, ◌∙◌, rules, arith, Some, None}
use Rattle.graphql_parser.specs.trees.RequestViews.{document_tree}
use Rattle.example_checker.proofs.Answers.{price_by, let_through, no_other, too_dear, endless}
use Rattle.example_checker.proofs.costs.cost_within.Goals as goal

pub returns-in_default-clause-endless : goal.returns-in_default-clause-endless
returns-in_default-clause-endless c = λ _.
    let priced = price_by c.args.limit (document_tree c.args.document.now) c.as_slice.result.now c.price_of_operations.result (c.as_slice.ensures.value ∙ c.in_ok-prices.ensures) c.price_of_operations.ensures in
    let missing : c.price_of_operations.result ≡ None = first_of (cc, search rules) in
    endless c.args.limit (document_tree c.args.document.now) (priced ∙ missing)

pub returns-then-cost-from-clause-too_dear : goal.returns-then-cost-from-clause-too_dear
returns-then-cost-from-clause-too_dear c = λ _.
    let priced = price_by c.args.limit (document_tree c.args.document.now) c.as_slice.result.now c.price_of_operations.result (c.as_slice.ensures.value ∙ c.in_ok-prices.ensures) c.price_of_operations.ensures in
    let first_is : c.price_of_operations.result ≡ Some c.in-Some.cost = first_of (cc, search rules) in
    too_dear c.args.limit c.in-Some.cost (document_tree c.args.document.now) (priced ∙ first_is) (first_of (omega arith, search rules))

pub returns-clause-cost : goal.returns-clause-cost
returns-clause-cost c =
    let priced = price_by c.args.limit (document_tree c.args.document.now) c.as_slice.result.now c.price_of_operations.result (c.as_slice.ensures.value ∙ c.in_ok-prices.ensures) c.price_of_operations.ensures in
    let first_is : c.price_of_operations.result ≡ Some c.in-Some.cost = first_of (cc, search rules) in
    let_through c.args.limit c.in-Some.cost (document_tree c.args.document.now) (priced ∙ first_is) (first_of (omega arith, search rules))

pub returns-clause-no_other : goal.returns-clause-no_other
returns-clause-no_other c =
    let priced = price_by c.args.limit (document_tree c.args.document.now) c.as_slice.result.now c.price_of_operations.result (c.as_slice.ensures.value ∙ c.in_ok-prices.ensures) c.price_of_operations.ensures in
    let first_is : c.price_of_operations.result ≡ Some c.in-Some.cost = first_of (cc, search rules) in
    no_other c.args.limit c.in-Some.cost (document_tree c.args.document.now) (priced ∙ first_is) (first_of (omega arith, search rules))
