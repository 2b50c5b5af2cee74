use Rattle.std.proofs.Common.{refl}
use Rattle.std.proofs.lemmas.Simd.{zip2_of_maps, zip2_splat}
use Rattle.graphql_tokens.specs.inner.ByteClasses.{is_outside}
use Rattle.graphql_tokens.proofs.Lanes.{mask_of}
use Rattle.graphql_printer.specs.inner.Words.{stays_in_string}
use Rattle.graphql_printer.proofs.Lanes.{eight}
use Rattle.graphql_printer.proofs.scans.StringBytesByteClass.outsiders.Goals as goal

pub returns : goal.returns
returns c =
    let v = c.args.bytes in
    let long = c.fits-bytes.0 in
    mask_of _ (is_outside stays_in_string) v (eight v long) c.fits-bytes.1 (zip2_of_maps _ _ _ v (zip2_of_maps _ _ _ v (zip2_of_maps _ _ _ v (zip2_of_maps _ _ _ v (zip2_splat _ v 8 32 long) (zip2_splat _ v 8 34 long)) (zip2_splat _ v 8 92 long)) (zip2_splat _ v 8 127 long)) (zip2_splat _ v 8 194 long)) refl
