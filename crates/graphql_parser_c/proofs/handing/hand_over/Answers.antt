use Rattle.std.proofs.Common.{Err, refl, inr}
use Rattle.graphql_grammar.specs.declared.error.Error.TheVariants.{OutOfMemory}
use Rattle.graphql_parser_c.proofs.handing.hand_over.Goals as goal

pub returns-in_default-clause-told : goal.returns-in_default-clause-told
returns-in_default-clause-told g c = (Err OutOfMemory, inr refl, refl, c.none.ensures)
