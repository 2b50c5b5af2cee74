use Rattle.std.proofs.Common.{ℕ, List, Option, ap, sym, ◌∙◌}
use Rattle.std.proofs.lemmas.List.{length-set}
use Rattle.graphql_parser.specs.trees.RequestViews.{document_tree, selection_set_tree}
use Rattle.example_checker.specs.Costs.{set_cost}
use Rattle.example_checker.specs.Prices.{capped, price_in}
use Rattle.example_checker.proofs.Entries.{entry_at}
use Rattle.example_checker.proofs.Known.{one_priced}
use Rattle.example_checker.proofs.costs.first_prices.Goals as goal

pub loop-place-preserved-in-Some-get_index : goal.loop-place-preserved-in-Some-get_index
loop-place-preserved-in-Some-get_index c =
    let fragments = (document_tree c.args.document.now).fragments in
    let set = c.in-Some-get_index.fragment.now.node.selection_set.node in (
      length-set c.loop-place.prices.items c.in-Some.place c.price_of_set.result ∙ c.loop-place.invariant.0,
      one_priced c.args.limit fragments c.loop-place.prices.items c.in-Some.place _ c.price_of_set.result c.loop-place.invariant.1
          (entry_at c.args.document.now.fragments.entries c.in-Some.place _ (sym c.in-Some-get_index.ensures.entry))
          (c.price_of_set.ensures ∙ ap (λ (prices : List (Option ℕ)). capped c.args.limit (set_cost (price_in fragments prices) (selection_set_tree set))) c.as_slice.ensures.value),
    )
