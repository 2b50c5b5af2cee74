use Rattle.std.proofs.Common.{string_bytes}
use Rattle.graphql_layout.proofs.Sheets.{finished, finished_tokens}
use Rattle.graphql_layout.proofs.sheet.Sheet.finish.Goals as goal

pub returns-clause-items : goal.returns-clause-items
returns-clause-items c = rw (← c.self.view_is) (finished (string_bytes c.self.inside.text) c.self.inside.last c.self.invariant)

pub returns-clause-tokens : goal.returns-clause-tokens
returns-clause-tokens c = rw (← c.self.view_is) (finished_tokens (string_bytes c.self.inside.text) c.self.inside.last c.self.invariant)
