use Rattle.std.proofs.Common.{rules, ◌<◌, ◌^◌, length, arith}
use Rattle.graphql_packed.proofs.Numbers.{text_is}
use Rattle.graphql_packed.proofs.Steps.{as_bytes}
use Rattle.graphql_packed.proofs.buffer.Buffer.text.Goals as goal

pub returns : goal.returns
returns c =
    let fits : length c.args.text.now < 2 ^ 64 = first_of (search rules, grind arith) in
    as_bytes (text_is c.args.text.now fits) (search rules)
