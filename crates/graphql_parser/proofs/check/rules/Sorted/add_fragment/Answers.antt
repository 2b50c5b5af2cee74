use Rattle.std.proofs.Common.{Some, refl, sym, ◌∙◌}
use Rattle.std.proofs.lemmas.Map.Text.{btree_map_updates_str}
use Rattle.graphql_parser.proofs.Sorted.{sorted-fragment}
use Rattle.graphql_parser.proofs.check.rules.Sorted.add_fragment.Goals as goal

pub returns-in-None-clause-added : goal.returns-in-None-clause-added
returns-in-None-clause-added c ds h =
    sorted-fragment ds c.args.self.now _ c.args.name.now c.args.place h (sym c.in_ok-insert_ordered.ensures.old ∙ c.in-None.is) refl refl refl
    (btree_map_updates_str c.args.name.now c.args.self.now.fragments c.insert_ordered.new.map (Some c.args.place) c.in_ok-insert_ordered.ensures.updates)
