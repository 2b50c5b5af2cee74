use Rattle.std.proofs.Common.{subst}
use Rattle.graphql_tokens.specs.inner.SmallText.{IsPlacedByLength}
use Rattle.graphql_tokens.proofs.small_text.SmallTextClone.clone.Goals as goal

pub invariant_of-result : goal.invariant_of-result
invariant_of-result c = subst IsPlacedByLength c.in-Short.is c.self.invariant
