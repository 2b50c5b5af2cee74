use Rattle.std.proofs.Common.{◌≡◌, ◌⊎◌}
use Rattle.std.specs.Prelude.{codes}
use Rattle.graphql_trees.specs.calls.Locations.{location_word}
use Rattle.graphql_trees.specs.declared.service.DirectiveLocation.{DirectiveLocation}
use Rattle.graphql_report.proofs.hints.better_of.Given as goal

abbrev pub invariant-loop-location : goal.invariant-loop-location
invariant-loop-location l = (l.best.word.now ≡ l.fn.best.word.now) ⊎ ((location : DirectiveLocation) × (l.best.word.now ≡ codes (location_word location)))
