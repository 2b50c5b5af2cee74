use Rattle.std.proofs.Common.{Bool, Option, sym, subst}
use Rattle.std.specs.Prelude.{IfSome, Vec}
use Rattle.std.specs.declared.alloc.Global.{Global}
use Rattle.graphql_report.specs.declared.phrases.Phrase.{Phrase}
use Rattle.graphql_report.specs.inner.Left.{IsLeftOf}
use Rattle.graphql_report.proofs.LeftTexts.{EndIsToldOf}
use Rattle.graphql_report.proofs.probes.ends.Goals as goal

pub returns-in-Some-2 : goal.returns-in-Some-2
returns-in-Some-2 c =
    let left : IsLeftOf c.args.language c.args.limits c.args.line.now c.as_slice.result.now =
    subst (IsLeftOf c.args.language c.args.limits c.args.line.now) (sym c.as_slice.ensures.value) (subst (λ (o : Option (Vec Phrase Global)). IfSome o (λ v. IsLeftOf c.args.language c.args.limits c.args.line.now v.items)) c.in-Some.is c.requires) in
    subst (λ (o : Option Bool). IfSome o (EndIsToldOf c.args.limits c.as_slice.result.now)) c.in-Some-2.is c.in_ok-answer.ensures c.args.language c.args.line.now c.utf8.line left
