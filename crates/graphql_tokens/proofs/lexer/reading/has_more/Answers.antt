use Rattle.std.proofs.Common.{◌<◌, ◌≤◌, length, ap, arith}
use Rattle.std.proofs.lemmas.Bool.Decides.{nat_tests}
use Rattle.graphql_tokens.proofs.FirstBytes.{ahead_some, peek_none}
use Rattle.graphql_tokens.proofs.lexer.reading.has_more.Goals as goal

pub returns-clause-more : goal.returns-clause-more
returns-clause-more c t =
    let l : c.offset.result < length c.args.bytes.now = grind (arith, nat_tests) in
    let r = c.requires in
    ahead_some c.args.places.now r.running (omega (arith, c.offset.ensures, ap length r.same))

pub returns-clause-end : goal.returns-clause-end
returns-clause-end c f =
    let l : length c.args.bytes.now ≤ c.offset.result = grind (arith, nat_tests) in
    peek_none _ c.args.places.now _ c.requires c.offset.ensures l
