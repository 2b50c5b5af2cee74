use Rattle.graphql_syntax.proofs.TypeTexts.{same_base}
use Rattle.graphql_syntax.proofs.types.type_clones.+clone.Goals as goal

pub TypeClone::clone-returns : goal.TypeClone::clone-returns
TypeClone::clone-returns t c =
    record { cases = same_base c.in_ok-clone.field-0 c.args.self.now.base c.args.self.now.nullable c.in_ok-clone.ensures.cases }
