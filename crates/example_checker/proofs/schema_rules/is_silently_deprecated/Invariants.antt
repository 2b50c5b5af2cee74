use Rattle.std.proofs.Common.{◌≡◌, drop}
use Rattle.example_checker.specs.Schemas.{is_silent}
use Rattle.example_checker.proofs.schema_rules.is_silently_deprecated.Given as goal

abbrev pub invariant-loop-directive : goal.invariant-loop-directive
invariant-loop-directive l = is_silent l.field.directives.items ≡ is_silent (drop l.directive-index l.directive-items)
