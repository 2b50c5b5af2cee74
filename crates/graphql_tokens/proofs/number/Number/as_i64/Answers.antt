use Rattle.graphql_tokens.specs.calls.Integers.{IsIntegerOf}
use Rattle.graphql_tokens.proofs.Integers.{signed_some, signed_none, ok_some, err_none}
use Rattle.graphql_tokens.proofs.number.Number.as_i64.Goals as goal

pub returns-clause-some : goal.returns-clause-some
returns-clause-some c =
    rw (← c.as_str.ensures.text)
    (ok_some (IsIntegerOf c.as_str.result.now) c.ok.result c.parse.result c.ok.ensures.value
    (signed_some c.as_str.result.now c.parse.result c.parse.ensures.value.0 c.as_str.ensures.literal))

pub returns-clause-none : goal.returns-clause-none
returns-clause-none c =
    rw (← c.as_str.ensures.text)
    (err_none _ c.ok.result c.parse.result c.ok.ensures.value
    (signed_none c.as_str.result.now c.parse.result c.parse.ensures.value.0))
