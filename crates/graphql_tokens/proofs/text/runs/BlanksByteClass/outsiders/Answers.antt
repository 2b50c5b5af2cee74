use Rattle.std.proofs.Common.{ℕ, bit_and, refl}
use Rattle.std.proofs.lemmas.Simd.{zip2_of_maps, zip2_splat}
use Rattle.graphql_tokens.specs.tokens.BlockText.{is_blank_char}
use Rattle.graphql_tokens.specs.inner.ByteClasses.{is_outside}
use Rattle.graphql_tokens.proofs.Lanes.{mask_of, sixteen}
use Rattle.graphql_tokens.proofs.text.runs.BlanksByteClass.outsiders.Goals as goal

pub returns : goal.returns
returns c =
    let v = c.args.bytes in
    let long = c.fits-bytes.0 in
    mask_of _ (is_outside is_blank_char) v (sixteen v long) c.fits-bytes.1 (zip2_of_maps bit_and _ _ v (zip2_splat {Y = ℕ} _ v 16 9 long) (zip2_splat {Y = ℕ} _ v 16 32 long)) refl
