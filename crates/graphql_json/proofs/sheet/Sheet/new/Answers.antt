use Rattle.std.proofs.Common.{[], refl, ap}
use Rattle.json.specs.Lex.{tokens, lex, punctuate}
use Rattle.json.specs.Print.{print_from}
use Rattle.graphql_json.proofs.sheet.Sheet.new.Goals as goal

pub invariant_of-result : goal.invariant_of-result
unfolding print_from
invariant_of-result c = record { written = []; writable = tt; text = c.new.ensures; place = refl }

pub returns : goal.returns
unfolding lex punctuate
returns c = ap tokens c.new.ensures
