use Rattle.graphql_report.specs.inner.Called.{texts}
use Rattle.graphql_report.specs.inner.Told.{IsGuess}
use Rattle.graphql_report.proofs.hints.push_guess.Given as goal

abbrev pub invariant-loop-name : goal.invariant-loop-name
invariant-loop-name l = IsGuess (texts l.expected) l.best.word.now
