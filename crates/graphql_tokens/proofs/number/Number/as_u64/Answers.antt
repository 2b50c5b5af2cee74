use Rattle.std.proofs.Common.{pos}
use Rattle.graphql_tokens.specs.calls.Integers.{IsIntegerOf}
use Rattle.graphql_tokens.proofs.Integers.{unsigned_some, unsigned_none, ok_some, err_none}
use Rattle.graphql_tokens.proofs.number.Number.as_u64.Goals as goal

pub returns-in_default-clause-some : goal.returns-in_default-clause-some
returns-in_default-clause-some c =
    rw (← c.as_str.ensures.text)
    (ok_some (λ n. IsIntegerOf c.as_str.result.now (pos n)) c.ok.result c.parse.result c.ok.ensures.value
    (unsigned_some c.as_str.result.now c.parse.result c.parse.ensures.value.0 c.as_str.ensures.literal))

pub returns-in_default-clause-none : goal.returns-in_default-clause-none
returns-in_default-clause-none c =
    rw (← c.as_str.ensures.text)
    (err_none _ c.ok.result c.parse.result c.ok.ensures.value
    (λ x e. unsigned_none c.as_str.result.now c.parse.result c.parse.ensures.value.0 x e c.in_default.not-text))
