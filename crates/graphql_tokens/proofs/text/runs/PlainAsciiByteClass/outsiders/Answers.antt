use Rattle.std.proofs.Common.{refl}
use Rattle.std.proofs.lemmas.Simd.{zip2_of_maps, zip2_splat, zip2_splat_left}
use Rattle.graphql_tokens.specs.inner.ByteClasses.{is_outside}
use Rattle.graphql_tokens.proofs.Lanes.{mask_of, sixteen, at_most}
use Rattle.graphql_tokens.proofs.Runs.{plain_ascii}
use Rattle.graphql_tokens.proofs.text.runs.PlainAsciiByteClass.outsiders.Goals as goal

pub returns : goal.returns
returns c =
    let v = c.args.bytes in
    let long = c.fits-bytes.0 in
    let quotes = zip2_of_maps _ _ _ v (zip2_splat _ v 16 34 long) (zip2_splat _ v 16 92 long) in
    let line_ends = zip2_of_maps _ _ _ v (zip2_of_maps _ _ _ v quotes (zip2_splat _ v 16 10 long)) (zip2_splat _ v 16 13 long) in
    mask_of _ (is_outside plain_ascii) v (sixteen v long) c.fits-bytes.1 (zip2_of_maps _ _ _ v line_ends (zip2_splat_left at_most 128 16 v long)) refl
