use Rattle.std.proofs.Common.{sym, subst}
use Rattle.graphql_grammar.specs.declared.error.Error.{Error}
use Rattle.graphql_report.specs.reports.Offsets.{AreErrorOffsets}
use Rattle.graphql_report.proofs.definitions.error_offsets.Goals as goal

pub returns-in_ok-definitions-in-OperationDuplicated : goal.returns-in_ok-definitions-in-OperationDuplicated
returns-in_ok-definitions-in-OperationDuplicated c = subst (λ (e : Error). AreErrorOffsets c.args.text.now e c.offsets_at.result) (sym c.in-OperationDuplicated.is) c.offsets_at.ensures

pub returns-in_ok-definitions-in-FragmentDuplicated : goal.returns-in_ok-definitions-in-FragmentDuplicated
returns-in_ok-definitions-in-FragmentDuplicated c = subst (λ (e : Error). AreErrorOffsets c.args.text.now e c.offsets_at-in-FragmentDuplicated.result) (sym c.in-FragmentDuplicated.is) c.offsets_at-in-FragmentDuplicated.ensures

pub returns-in_ok-roots-in-MultipleRoots : goal.returns-in_ok-roots-in-MultipleRoots
returns-in_ok-roots-in-MultipleRoots c = subst (λ (e : Error). AreErrorOffsets c.args.text.now e c.offsets_at-in-MultipleRoots.result) (sym c.in-MultipleRoots.is) c.offsets_at-in-MultipleRoots.ensures
