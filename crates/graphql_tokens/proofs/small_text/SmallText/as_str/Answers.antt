use Rattle.std.proofs.Common.{subst}
use Rattle.std.proofs.lemmas.Str.{IsUtf8-had}
use Rattle.graphql_tokens.specs.declared.small_text.Place.TheVariants.{Short}
use Rattle.graphql_tokens.specs.inner.SmallText.{IsPlacedByLength}
use Rattle.graphql_tokens.proofs.small_text.SmallText.as_str.Goals as goal

pub from_utf8_unchecked-requires : goal.from_utf8_unchecked-requires
from_utf8_unchecked-requires c =
    let placed : IsPlacedByLength (Short c.in-Short.len c.in-Short.bytes) = subst IsPlacedByLength c.in-Short.is c.self.invariant in
    IsUtf8-had _ placed.2
