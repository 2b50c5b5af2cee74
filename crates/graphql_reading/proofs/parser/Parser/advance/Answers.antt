use Rattle.std.proofs.Common.{◌≡◌, ◌∷◌, ◌∙◌, sym, ap, arith}
use Rattle.graphql_tokens.specs.tokens.Seen.{seen}
use Rattle.graphql_tokens.specs.tokens.Token.{left}
use Rattle.graphql_reading.specs.reading.Ahead.{Ahead}
use Rattle.graphql_reading.proofs.Funds.{worth-next}
use Rattle.graphql_reading.proofs.parser.Parser.advance.Goals as goal

pub returns-clause-pays : goal.returns-clause-pays
returns-clause-pays c =
    let on : seen c.next_token-next.result ∷ left c.next_token-next.new.self ≡ c.args.self.now.after = sym c.next_token-next.ensures.token ∙ ap (λ (a : Ahead). a.after) c.self.view_is in
    let same : c.self.inside.memory ≡ c.args.self.now.memory = ap (λ (a : Ahead). a.memory) c.self.view_is in
    rw same (omega (arith, worth-next c.args.self.now _ on), omega arith)
