use Rattle.std.proofs.Common.{◌≡◌, [], string_bytes, rules}
use Rattle.graphql_tokens.specs.tokens.Cuts.{IsCutInto, EndsOnce}
use Rattle.graphql_tokens.specs.tokens.Proper.{AreProperButFaults}
use Rattle.graphql_tokens.specs.tokens.Token.{left}
use Rattle.graphql_layout.proofs.Minified.{all_written, again}
use Rattle.graphql_layout.proofs.minify.Goals as goal

is_minified : goal.returns-clause-minified
is_minified c =
    let all = left c.into_iter-token-iterator.result in
    let cut : IsCutInto c.args.text.now all = search rules in
    let ends : EndsOnce all = search rules in
    let proper : AreProperButFaults all = search rules in
    let none : left c.loop-token.token-iterator ≡ [] = search rules in
    all_written c.args.text.now (string_bytes c.loop-token.out) all (left c.loop-token.token-iterator) c.loop-token.ending c.utf8.text cut ends proper c.loop-token.invariant none

pub returns-clause-minified : goal.returns-clause-minified
returns-clause-minified c = is_minified c

pub returns-clause-again : goal.returns-clause-again
returns-clause-again c = λ other m. again c.args.text.now (string_bytes c.loop-token.out) other (is_minified c) m
