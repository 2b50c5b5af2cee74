use Rattle.std.proofs.Common.{◌≡◌, ◌≤◌, length}
use Rattle.graphql_tokens.specs.inner.Reading.{skip}
use Rattle.graphql_tokens.specs.inner.Running.{ahead}
use Rattle.graphql_tokens.specs.inner.Lexing.{RunsOver}
use Rattle.graphql_tokens.proofs.lexer.reading.pass_ignored.Given as goal

abbrev pub invariant-loop-b : goal.invariant-loop-b
invariant-loop-b l = record { runs : RunsOver l.bytes l.places; same : skip (ahead l.places) ≡ skip (ahead l.fn.places); forward : l.fn.places.walk.offset ≤ l.places.walk.offset }

abbrev pub decreases-loop-b : goal.decreases-loop-b
decreases-loop-b l = length (ahead l.places)
