use Rattle.std.proofs.Common.{◌≡◌, ◌≤◌, length, w8, refl, arith}
use Rattle.std.proofs.lemmas.Simd.{zip2_of_maps, zip2_splat, length-chunk, chunk-fits}
use lib.Lanes.{chunk}
use Rattle.json.specs.Run.{is_stop}
use Rattle.graphql_tokens.proofs.Lanes.{mask_of}
use Rattle.graphql_json.proofs.plain.stops_at.Goals as goal

pub returns : goal.returns
returns g c =
    let text = c.args.text.now in
    let n = g.row.N in
    let v = chunk c.args.at n text in
    let long : length v ≡ n = length-chunk c.args.at n text c.requires.fits in
    let few : length v ≤ 64 = omega (arith, c.requires.lanes) in
    let marks = zip2_of_maps _ _ _ v (zip2_splat _ v n 34 long) (zip2_splat _ v n 92 long) in
    let stops = zip2_of_maps _ _ _ v marks (zip2_splat _ v n 32 long) in
    mask_of _ is_stop v few (chunk-fits w8 c.args.at n text c.type_inv.text) stops refl
