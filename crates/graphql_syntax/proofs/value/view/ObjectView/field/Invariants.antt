use Rattle.std.proofs.Common.{◌≡◌}
use Rattle.graphql_syntax.specs.calls.Named.{named}
use Rattle.graphql_syntax.specs.calls.Views.{object_fields, fields_left}
use Rattle.graphql_syntax.proofs.value.view.ObjectView.field.Given as goal

abbrev pub invariant-loop-key : goal.invariant-loop-key
invariant-loop-key l =
    (goal.iterator-loop-key).can_next l.key-iterator ×
    (goal.iterator-loop-key).is_finite l.key-iterator ×
    (named l.name (object_fields l.self) ≡ named l.name (fields_left l.key-iterator))
