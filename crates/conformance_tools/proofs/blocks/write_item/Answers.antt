use Rattle.std.proofs.Common.{[], ◌∷◌, refl}
use lib.Utf8.{encode}
use Rattle.std.specs.Str.{chars}
use Rattle.conformance_tools.proofs.blocks.write_item.Goals as goal

pub comment-requires : goal.comment-requires
unfolding chars
comment-requires g = (refl, (refl, (refl, tt)))

pub token-requires : goal.token-requires
unfolding encode
token-requires g = (97 ∷ [], (refl, tt), refl, (refl, tt))
