use Rattle.std.proofs.Common.{Some, refl, sym, ◌∙◌}
use Rattle.std.proofs.lemmas.Map.Text.{btree_map_updates_str}
use Rattle.graphql_parser.proofs.Sorted.{sorted-operation}
use Rattle.graphql_parser.proofs.check.rules.Sorted.add_operation.Goals as goal

pub returns-in-None-clause-added : goal.returns-in-None-clause-added
returns-in-None-clause-added c ds h =
    sorted-operation ds c.args.self.now _ c.args.name.now c.args.place h c.in_default.is (sym c.in_ok-insert_ordered.ensures.old ∙ c.in-None.is) c.or-self.ensures refl
    (btree_map_updates_str c.args.name.now c.args.self.now.operations c.insert_ordered.new.map (Some c.args.place) c.in_ok-insert_ordered.ensures.updates) refl
