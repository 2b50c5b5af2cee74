use Rattle.std.proofs.Common.{refl}
use Rattle.std.proofs.lemmas.Simd.{zip2_of_maps, zip2_splat, splat_is_map}
use Rattle.std.specs.Char.{is_ascii_digit}
use Rattle.graphql_tokens.specs.inner.ByteClasses.{is_outside}
use Rattle.graphql_tokens.proofs.Lanes.{mask_of, sixteen, minus, at_most}
use Rattle.graphql_tokens.proofs.text.runs.DigitsByteClass.outsiders.Goals as goal

pub returns : goal.returns
returns c =
    let v = c.args.bytes in
    let long = c.fits-bytes.0 in
    mask_of _ (is_outside is_ascii_digit) v (sixteen v long) c.fits-bytes.1 (zip2_of_maps at_most (λ x. 10) (λ x. minus x 48) v (splat_is_map v 16 10 long) (zip2_splat minus v 16 48 long)) refl
