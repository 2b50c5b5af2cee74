use Rattle.std.proofs.Common.{◌^◌, ◌<◌, length, arith, subst, sym}
use Rattle.graphql_report.specs.reports.Refused.{IsItsToken}
use Rattle.graphql_report.specs.reports.Rests.{top}
use Rattle.graphql_report.proofs.Refusing.{moved-token, none-there}
use Rattle.graphql_report.proofs.refused.refused_token_from.Goals as goal
use Rattle.graphql_report.proofs.refused.refused_token_from.Goals.{in-Some, in-None}

pub returns : goal.returns
returns c =
    let short : length c.args.text.now < 2 ^ 63 = omega arith in
    let is = c.after-rest.ensures c.requires.0 in
    elim c.match-token.branch [
      | in-Some w ↦ subst (IsItsToken c.args.language c.args.limits c.args.text.now c.args.from c.args.error.now) (sym w.result-is)
          (moved-token c.args.language c.args.limits c.args.text.now c.after-rest.result.now c.args.from w.in-Some.token w.moved.result c.utf8.text short c.requires is c.after-rest.utf8
          (subst (IsItsToken c.args.language c.args.limits c.after-rest.result.now top c.args.error.now) w.in-Some.is c.in_ok-token.ensures) w.moved.ensures.same w.moved.ensures.start w.moved.ensures.moved)
      | in-None w ↦ subst (IsItsToken c.args.language c.args.limits c.args.text.now c.args.from c.args.error.now) (sym w.result-is)
          (λ of. none-there c.args.language c.args.limits c.args.text.now c.after-rest.result.now c.args.from is (subst (IsItsToken c.args.language c.args.limits c.after-rest.result.now top c.args.error.now) w.in-None.is c.in_ok-token.ensures of))
    ]
