use Rattle.graphql_layout.proofs.Pushes.{line_pushed}
use Rattle.graphql_layout.proofs.sheet.push_line.Goals as goal

pub returns-clause-ok : goal.returns-clause-ok
returns-clause-ok c = line_pushed c.push.result c.args.line_end c.args.text.now c.push.new.text c.args.last c.requires c.push.ensures.ok
