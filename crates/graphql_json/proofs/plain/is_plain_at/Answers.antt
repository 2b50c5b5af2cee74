use Rattle.graphql_json.proofs.Stops.{plain_on_no_stop}
use Rattle.graphql_json.proofs.plain.is_plain_at.Goals as goal

pub returns : goal.returns
returns g c = plain_on_no_stop c.args.text.now c.args.at g.row.N c.requires.fits c.stops_at.result c.stops_at.ensures
