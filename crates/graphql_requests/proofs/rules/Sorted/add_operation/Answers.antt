use Rattle.std.proofs.Common.{Option, option_map, sym, refl, ap, ◌∙◌}
use Rattle.std.proofs.lemmas.Result.{err_from_is_err_and}
use Rattle.graphql_tokens.specs.declared.pos.Positioned.{Positioned}
use Rattle.graphql_syntax.specs.trees.Parts.{placed}
use Rattle.graphql_trees.specs.declared.executable.OperationDefinition.{OperationDefinition}
use Rattle.graphql_trees.specs.trees.RequestViews.{operation_tree}
use Rattle.graphql_grammar.specs.declared.error.Error.TheVariants.{OperationDuplicated}
use Rattle.graphql_requests.proofs.OneMore.{insert-last}
use Rattle.graphql_requests.proofs.Sorted.{sorted-operation, operation-breaks, named-breach}
use Rattle.graphql_requests.proofs.rules.Sorted.add_operation.Goals as goal

pub returns-in-Some-clause-added : goal.returns-in-Some-clause-added
returns-in-Some-clause-added c ds h = operation-breaks ds c.args.self.now c.args.name (placed operation_tree c.args.operation) _ h (ap (option_map (λ o. o.pos)) c.in-Some.is)

pub returns-in-Some-get-clause-added : goal.returns-in-Some-get-clause-added
returns-in-Some-get-clause-added c ds h =
    named-breach ds c.args.self.now c.args.name (placed operation_tree c.args.operation) h c.in_default.is
    ∙ ap (λ (x : Option (Positioned OperationDefinition)). option_map (λ first. OperationDuplicated c.args.name first c.args.operation.pos) (option_map (λ o. o.pos) x)) (sym c.in-Some-get.ensures.value)

pub returns-clause-added : goal.returns-clause-added
returns-clause-added c ds h =
    let none = sym c.in_default-get.ensures.value in
    sorted-operation ds c.args.self.now _ c.args.name c.args.operation h c.in_default.is none refl (c.in_ok-insert_indexed.ensures.entries ∙ insert-last c.args.name c.args.operation _ none) refl

-- memory runs out only where no rule is broken
pub returns-in_err-insert_indexed-clause-added : goal.returns-in_err-insert_indexed-clause-added
returns-in_err-insert_indexed-clause-added c ds h =
    let p = err_from_is_err_and c.from_residual.result c.from_residual.ensures.1 in
    rw (p.1, p.2) (named-breach ds c.args.self.now c.args.name (placed operation_tree c.args.operation) h c.in_default.is
    ∙ ap (λ (x : Option (Positioned OperationDefinition)). option_map (λ first. OperationDuplicated c.args.name first c.args.operation.pos) (option_map (λ o. o.pos) x)) (sym c.in_default-get.ensures.value))
