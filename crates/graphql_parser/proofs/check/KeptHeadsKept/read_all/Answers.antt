use Rattle.std.proofs.Common.{arith, inl, inr}
use Rattle.std.proofs.lemmas.Result.{err_from_is_err_and}
use Rattle.graphql_grammar.proofs.Bounds.{refusal-takes}
use Rattle.graphql_parser.proofs.check.KeptHeadsKept.read_all.Goals as goal

pub returns-in_err-items-clause-takes : goal.returns-in_err-items-clause-takes
returns-in_err-items-clause-takes c most cost =
    let p = err_from_is_err_and c.from_residual.result c.from_residual.ensures.1 in
    elim cost [
      | inl is ↦ rw (p.1, is) (refusal-takes c.args.parser.now c.read_heads.new.parser c.in_err-items.ensures.pays)
      | inr alone ↦ rw (p.1, (c.read_heads.ensures.alone alone.0).0) (omega arith, omega arith)
    ]
