use Rattle.std.proofs.Common.{ℕ, bit_and, bit_or, refl}
use Rattle.std.proofs.lemmas.Simd.{zip2_of_maps, zip2_splat, splat_is_map}
use Rattle.graphql_tokens.specs.tokens.Classes.{is_name_char}
use Rattle.graphql_tokens.specs.inner.ByteClasses.{is_outside}
use Rattle.graphql_tokens.proofs.Lanes.{mask_of, minus, at_most}
use Rattle.graphql_printer.proofs.Lanes.{eight}
use Rattle.graphql_printer.proofs.scans.NameBytesByteClass.outsiders.Goals as goal

pub returns : goal.returns
returns c =
    let v = c.args.bytes in
    let long = c.fits-bytes.0 in
    let letters = zip2_of_maps at_most (λ x. 26) (λ x. minus (bit_or x 32) 97) v (splat_is_map v 8 26 long) (zip2_of_maps minus (λ x. bit_or x 32) (λ x. 97) v (zip2_splat bit_or v 8 32 long) (splat_is_map v 8 97 long)) in
    let digits = zip2_of_maps at_most (λ x. 10) (λ x. minus x 48) v (splat_is_map v 8 10 long) (zip2_splat minus v 8 48 long) in
    mask_of _ (is_outside is_name_char) v (eight v long) c.fits-bytes.1 (zip2_of_maps bit_and _ _ v (zip2_of_maps bit_and _ _ v letters digits) (zip2_splat {Y = ℕ} _ v 8 95 long)) refl
