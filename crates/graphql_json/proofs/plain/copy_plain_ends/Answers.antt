use Rattle.std.proofs.Common.{rules}
use Rattle.graphql_json.proofs.Copies.{plain_ends}
use Rattle.graphql_json.proofs.plain.copy_plain_ends.Goals as goal

pub returns : goal.returns
returns g c =
    let text = c.args.text.now in
    record {
      copied = c.copy_ends.ensures;
      plain = plain_ends text g.row.N c.requires.covers.0 c.requires.covers.1 (search rules) (search rules);
      left = tt;
    }
