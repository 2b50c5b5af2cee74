use Rattle.std.proofs.Common.{Option, option_map, sym, refl, ap, ◌∙◌}
use Rattle.std.proofs.lemmas.Result.{err_from_is_err_and}
use Rattle.graphql_tokens.specs.declared.pos.Positioned.{Positioned}
use Rattle.graphql_syntax.specs.trees.Parts.{placed}
use Rattle.graphql_trees.specs.declared.executable.FragmentDefinition.{FragmentDefinition}
use Rattle.graphql_trees.specs.trees.RequestViews.{fragment_tree}
use Rattle.graphql_grammar.specs.declared.error.Error.TheVariants.{FragmentDuplicated}
use Rattle.graphql_requests.proofs.OneMore.{insert-last}
use Rattle.graphql_requests.proofs.Sorted.{sorted-fragment, fragment-breach}
use Rattle.graphql_requests.proofs.rules.Sorted.add_fragment.Goals as goal

pub returns-in-Some-clause-added : goal.returns-in-Some-clause-added
returns-in-Some-clause-added c ds h =
    fragment-breach ds c.args.self.now c.args.name (placed fragment_tree c.args.fragment) h
    ∙ ap (λ (x : Option (Positioned FragmentDefinition)). option_map (λ first. FragmentDuplicated c.args.name first c.args.fragment.pos) (option_map (λ f. f.pos) x)) (sym c.in-Some.ensures.value)

pub returns-clause-added : goal.returns-clause-added
returns-clause-added c ds h =
    let none = sym c.in_default.ensures.value in
    sorted-fragment ds c.args.self.now _ c.args.name c.args.fragment h none refl refl (c.in_ok-insert_indexed.ensures.entries ∙ insert-last c.args.name c.args.fragment _ none)

-- memory runs out only where no rule is broken
pub returns-in_err-insert_indexed-clause-added : goal.returns-in_err-insert_indexed-clause-added
returns-in_err-insert_indexed-clause-added c ds h =
    let p = err_from_is_err_and c.from_residual.result c.from_residual.ensures.1 in
    rw (p.1, p.2) (fragment-breach ds c.args.self.now c.args.name (placed fragment_tree c.args.fragment) h
    ∙ ap (λ (x : Option (Positioned FragmentDefinition)). option_map (λ first. FragmentDuplicated c.args.name first c.args.fragment.pos) (option_map (λ f. f.pos) x)) (sym c.in_default.ensures.value))
