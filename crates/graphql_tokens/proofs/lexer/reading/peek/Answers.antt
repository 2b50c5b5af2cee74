use Rattle.std.proofs.Common.{arith}
use Rattle.graphql_tokens.proofs.FirstBytes.{peek_some, peek_none}
use Rattle.graphql_tokens.proofs.lexer.reading.peek.Goals as goal

pub returns-then-at-bytes : goal.returns-then-at-bytes
returns-then-at-bytes c = peek_some _ c.args.places.now _ c.requires c.offset-at.ensures c.if-at-bytes.true (omega (arith, c.type_inv.bytes c.offset-at.result))

pub returns-else-at-bytes : goal.returns-else-at-bytes
returns-else-at-bytes c = peek_none _ c.args.places.now _ c.requires c.offset-at.ensures c.if-at-bytes.false
