use Rattle.std.proofs.Common.{string_bytes}
use Rattle.graphql_tokens.specs.tokens.Token.{left}
use Rattle.graphql_layout.proofs.Remains.{Remains}
use Rattle.graphql_layout.proofs.minify.Given as goal

abbrev pub invariant-loop-token : goal.invariant-loop-token
invariant-loop-token l = Remains (left l.initial.token-iterator) (left l.token-iterator) l.ending (string_bytes l.out)
