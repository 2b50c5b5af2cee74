use Rattle.std.proofs.Common.{refl, arith}
use Rattle.std.proofs.lemmas.Simd.{zip2_of_maps, zip2_splat}
use Rattle.graphql_tokens.specs.inner.ByteClasses.{is_outside}
use Rattle.graphql_tokens.specs.tokens.Place.{is_in_line}
use Rattle.graphql_tokens.proofs.Lanes.{mask_of}
use Rattle.graphql_layout.proofs.scans.ends.Goals as goal

pub returns : goal.returns
returns c =
    let v = c.args.bytes in
    let long = c.fits-bytes.0 in
    mask_of _ (is_outside is_in_line) v (omega (arith, long)) c.fits-bytes.1 (zip2_of_maps _ _ _ v (zip2_splat _ v 64 10 long) (zip2_splat _ v 64 13 long)) refl
