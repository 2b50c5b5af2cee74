use Rattle.std.proofs.Common.{refl}
use Rattle.std.proofs.lemmas.Simd.{zip2_of_maps, zip2_splat}
use Rattle.graphql_tokens.specs.inner.ByteClasses.{is_outside}
use Rattle.graphql_tokens.specs.tokens.Strings.{is_plain}
use Rattle.graphql_tokens.proofs.Lanes.{mask_of, sixteen}
use Rattle.graphql_tokens.proofs.text.runs.PlainByteClass.outsiders.Goals as goal

pub returns : goal.returns
returns c =
    let v = c.args.bytes in
    let long = c.fits-bytes.0 in
    let quotes = zip2_of_maps _ _ _ v (zip2_splat _ v 16 34 long) (zip2_splat _ v 16 92 long) in
    mask_of _ (is_outside is_plain) v (sixteen v long) c.fits-bytes.1 (zip2_of_maps _ _ _ v (zip2_of_maps _ _ _ v quotes (zip2_splat _ v 16 10 long)) (zip2_splat _ v 16 13 long)) refl
