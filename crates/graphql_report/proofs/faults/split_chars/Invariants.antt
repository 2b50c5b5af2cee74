use Rattle.std.specs.Str.Iter.{chars_rest}
use Rattle.graphql_report.proofs.StringTexts.{Dropped}
use Rattle.graphql_report.proofs.faults.split_chars.Given as goal

abbrev pub invariant-loop : goal.invariant-loop
invariant-loop l = Dropped l.text l.counter (chars_rest l.rest)
