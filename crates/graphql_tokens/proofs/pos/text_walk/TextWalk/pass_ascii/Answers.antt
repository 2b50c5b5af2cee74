use Rattle.std.proofs.Common.{refl}
use Rattle.graphql_tokens.proofs.Running.{walks_past, passes_ascii}
use Rattle.graphql_tokens.proofs.pos.text_walk.TextWalk.pass_ascii.Goals as goal

pub returns-clause-walking : goal.returns-clause-walking
returns-clause-walking c =
    walks_past c.args.self.now _ _ c.requires.walking refl (passes_ascii c.args.self.now _ c.requires.more c.requires.ascii refl)
