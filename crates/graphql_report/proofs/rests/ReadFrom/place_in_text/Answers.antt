use Rattle.graphql_report.proofs.Spots.{to-text}
use Rattle.graphql_report.proofs.rests.ReadFrom.place_in_text.Goals as goal

pub returns : goal.returns
returns c = λ front here begins few is. to-text front here c.args.self.line c.saturating_sub.result c.saturating_add.result c.args.place begins few is c.saturating_sub.ensures c.saturating_add.ensures
