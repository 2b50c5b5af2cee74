use Rattle.std.proofs.Common.{◌≡◌, ◌≤◌, ℕ, List, length, get_or, take, bit_and, refl, sym, arith}
use Rattle.std.proofs.lemmas.Simd.{zip2_of_maps}
use Rattle.std.proofs.lemmas.List.{map-id}
use Rattle.graphql_tokens.specs.inner.ByteClasses.{is_outside}
use Rattle.graphql_tokens.proofs.Lanes.{mask_of}
use Rattle.graphql_layout.specs.declared.scans.TheConstants.{BLANKS}
use Rattle.graphql_layout.specs.inner.Standing.{is_blank_byte}
use Rattle.graphql_layout.proofs.Swizzles.{are_positions, looked_up}
use Rattle.graphql_layout.proofs.scans.others.Goals as goal

few : (v : List ℕ) → length v ≡ 64 → length v ≤ 64
few v e = omega (arith, e)

pub swizzle-same : goal.swizzle-same
swizzle-same c = are_positions c.args.bytes c.fits-bytes.0

pub returns : goal.returns
returns c =
    let v = c.args.bytes in
    let long = c.fits-bytes.0 in
    mask_of _ (is_outside is_blank_byte) v (few v long) c.fits-bytes.1 (zip2_of_maps _ (λ x. x) (λ x. get_or (take 16 BLANKS) (bit_and x 15) 0) v (sym (map-id v)) (looked_up (take 16 BLANKS) v refl long)) refl
