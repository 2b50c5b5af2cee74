use Rattle.graphql_tokens.specs.tokens.Cuts.{is_last}
use Rattle.graphql_tokens.proofs.Lexes.{tokens_left, left_ends, left_proper}
use Rattle.graphql_tokens.proofs.lexer.Tokens.is_ended.Goals as goal

pub returns-clause-ended : goal.returns-clause-ended
returns-clause-ended c =
    rw (c.is_last.ensures, ← c.self.view_is, c.self.invariant.given) (tokens_left c.self.inside.text.now c.self.inside.places.walk.offset (is_last c.self.inside.last))

pub returns-clause-ends : goal.returns-clause-ends
returns-clause-ends c = rw (← c.self.view_is) (left_ends c.self.inside.text.now c.self.inside.taken)

pub returns-clause-proper : goal.returns-clause-proper
returns-clause-proper c = rw (← c.self.view_is) (left_proper c.self.inside.text.now c.self.inside.places c.self.inside.taken c.self.invariant.runs)

pub returns-clause-within : goal.returns-clause-within
returns-clause-within c = rw (← c.self.view_is) c.self.invariant.within
