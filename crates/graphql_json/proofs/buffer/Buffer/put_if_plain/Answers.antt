use Rattle.std.proofs.Common.{◌≤◌, true, length, rules, arith}
use Rattle.json.specs.Written.{PlainBetween}
use Rattle.json.proofs.Printed.Plain.{escape_on_plain}
use Rattle.graphql_json.proofs.buffer.Buffer.put_if_plain.Goals as goal

pub returns : goal.returns
returns c =
    let text = c.args.text.now in
    let all : length text ≤ c.plain_run.result = omega (arith, c.if-plain_run-text.false) in
    let plain : PlainBetween text 0 (length text) = (λ k from before. c.plain_run.ensures.plain k from (omega (arith, all, before))) in
    ((search rules, escape_on_plain true text plain), tt)
