use Rattle.std.proofs.Common.{◌≡◌, ◌≤◌, true, length, take, ◌∙◌, rules, take-take}
use Rattle.std.proofs.lemmas.List.{take-append-le}
use Rattle.json.proofs.Printed.Places.{Placed-then}
use Rattle.json.proofs.Printed.Plain.{escape_on_plain}
use Rattle.graphql_json.proofs.buffer.Buffer.put_plain.Goals as goal

pub returns : goal.returns
returns c =
    let text = c.args.text.now in
    let placed = Placed-then c.put_comma-at.ensures (Placed-then c.copy-at.ensures (Placed-then c.if-not-copy_plain.ensures.copied c.copy-self-inside.ensures)) in
    let end = c.copy-self-inside.result in
    let row = c.copy-self-inside.new.row in
    let within : end ≤ length row = search rules in
    let seen : take c.self.inside.len c.as_mut_slice-row.result.now ≡ c.args.self.now.items = search rules in
    ((take-take end _ _ (search rules) ∙ take-append-le end row _ within ∙ placed.bytes ∙ rw seen, escape_on_plain true text c.if-not-copy_plain.ensures.plain), tt)
