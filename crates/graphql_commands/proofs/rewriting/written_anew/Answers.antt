use Rattle.graphql_commands.proofs.rewriting.written_anew.Goals as goal

-- src/rewriting.rt:43:1
pub returns-in-Ok-written-clause-laid_out : goal.returns-in-Ok-written-clause-laid_out
returns-in-Ok-written-clause-laid_out c = λ is. let both = c.in-Ok-written.ensures.laid_out is in (both.0, (_, both.1))
