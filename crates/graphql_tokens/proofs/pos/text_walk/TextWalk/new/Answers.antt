use Rattle.std.proofs.Common.{refl, arith}
use Rattle.graphql_tokens.proofs.Running.{walks_at_start}
use Rattle.graphql_tokens.proofs.pos.text_walk.TextWalk.new.Goals as goal

pub returns-clause-walking : goal.returns-clause-walking
returns-clause-walking c = walks_at_start _ refl c.utf8.text (omega arith)
