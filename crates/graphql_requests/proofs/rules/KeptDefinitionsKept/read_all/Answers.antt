use Rattle.std.proofs.lemmas.Result.{err_from_is_err_and}
use Rattle.graphql_grammar.proofs.Bounds.{refusal-takes}
use Rattle.graphql_requests.proofs.RequestProductions.{takes-definition}
use Rattle.graphql_requests.proofs.rules.KeptDefinitionsKept.read_all.Goals as goal

pub one_or_more-requires-clause-takes : goal.one_or_more-requires-clause-takes
one_or_more-requires-clause-takes c = takes-definition c.args.limits

pub returns-in_err-items-clause-takes : goal.returns-in_err-items-clause-takes
returns-in_err-items-clause-takes c most is =
    let p = err_from_is_err_and c.from_residual.result c.from_residual.ensures.1 in
    rw (p.1, is) (refusal-takes c.args.parser.now c.one_or_more.new.parser c.in_err-items.ensures.pays)
