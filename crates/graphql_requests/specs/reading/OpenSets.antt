-- The open sets of the code, as readers of lists see them.
use Rattle.std.specs.Prelude.{List, drop}
use Rattle.graphql_tokens.specs.declared.pos.Positioned.{Positioned}
use Rattle.graphql_trees.specs.trees.Request.{Selection}
use Rattle.graphql_requests.specs.declared.selections.OpenSet.{OpenSet}
use Rattle.graphql_requests.specs.reading.SelectionSteps.{Opened}

-- the innermost of the open sets, whose selections these are
abbrev pub part : OpenSet → List (Positioned Selection) → Opened
part s xs = record { place = s.place; items = drop s.first xs }
