use Rattle.std.proofs.Common.{◌≡◌, ◌≤◌, length}
use Rattle.graphql_tokens.specs.inner.Reading.{past_line}
use Rattle.graphql_tokens.specs.inner.Running.{ahead}
use Rattle.graphql_tokens.specs.inner.Lexing.{RunsOver}
use Rattle.graphql_tokens.proofs.lexer.reading.pass_last_line.Given as goal

abbrev pub invariant-loop-own : goal.invariant-loop-own
invariant-loop-own l = record { runs : RunsOver l.bytes l.own; same : past_line (ahead l.own) ≡ past_line (ahead l.fn.places); forward : l.fn.places.walk.offset ≤ l.own.walk.offset }

abbrev pub decreases-loop-own : goal.decreases-loop-own
decreases-loop-own l = length (ahead l.own)
