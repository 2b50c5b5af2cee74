use Rattle.std.proofs.Common.{◌≡◌, ◌+◌, ◌-◌, rules, arith, length, subst}
use Rattle.std.proofs.lemmas.List.{take_rest}
use Rattle.json.specs.Filled.{Placed}
use Rattle.json.proofs.Printed.Places.{Placed-ends}
use Rattle.graphql_json.proofs.plain.copy_ends.Goals as goal

pub returns : goal.returns
returns g c =
    let text = c.args.text.now in
    let end : c.args.at + (length text - g.row.N) + g.row.N ≡ c.args.at + length text = omega arith in
    subst (Placed c.args.row.now c.copy_first-2.new.row c.args.at text) end
    (Placed-ends text g.row.N (search rules) c.requires.covers.0 c.requires.covers.1 c.copy_first.ensures
    (rw (take_rest text (length text - g.row.N)) at c.copy_first-2.ensures))
