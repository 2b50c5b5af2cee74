use Rattle.graphql_tokens.specs.tokens.Token.{left}
use Rattle.graphql_report.proofs.TokensOf.{IsSought}
use Rattle.graphql_report.proofs.definitions.offset_of.Given as goal

abbrev pub invariant-loop-token : goal.invariant-loop-token
invariant-loop-token l = IsSought l.text l.place (left l.token-iterator) l.offset
