use Rattle.std.proofs.Common.{◌≡◌, drop}
use Rattle.graphql_syntax.specs.calls.Named.{argument_named}
use Rattle.graphql_syntax.proofs.types.lookup.find_argument.Given as goal

abbrev pub invariant-loop-key : goal.invariant-loop-key
invariant-loop-key g l =
    argument_named l.name l.arguments.items ≡ argument_named l.name (drop l.key-index l.key-items)
