use Rattle.std.proofs.Common.{◌-◌, length, ap, arith}
use Rattle.graphql_tokens.specs.inner.Running.{ahead}
use Rattle.graphql_tokens.proofs.Runs.{run_of, run_end, ahead_of_run, run_shorter}
use Rattle.graphql_tokens.proofs.lexer.reading.pass_class.Goals as goal

pub pass_run-requires-clause-ascii : goal.pass_run-requires-clause-ascii
pass_run-requires-clause-ascii g c =
    let has = g.C.ByteClass.has in
    let places = c.args.places.now in
    let end = run_end has c.args.bytes.now places c.offset-start.result c.past_run-end.result c.requires.runs c.offset-start.ensures c.past_run-end.ensures.value in
    run_of has c.requires.within places.walk.text.now places.walk.offset (c.past_run-end.result - c.offset-start.result) (omega (arith, end, c.offset-start.ensures))

pub returns-clause-rest : goal.returns-clause-rest
returns-clause-rest g c =
    let has = g.C.ByteClass.has in
    let places = c.args.places.now in
    let end = run_end has c.args.bytes.now places c.offset-start.result c.past_run-end.result c.requires.runs c.offset-start.ensures c.past_run-end.ensures.value in
    ahead_of_run has c.requires.within places c.pass_run.new.self (c.past_run-end.result - c.offset-start.result) c.requires.runs.running c.pass_run.ensures.same c.pass_run.ensures.passed
    (omega (arith, end, c.offset-start.ensures))

pub returns-clause-no_more : goal.returns-clause-no_more
returns-clause-no_more g c = omega (arith, ap length (returns-clause-rest g c), run_shorter g.C.ByteClass.has (ahead c.args.places.now))
