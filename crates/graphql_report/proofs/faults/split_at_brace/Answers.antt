use Rattle.std.proofs.Common.{sym, ap, ◌∙◌, take, drop}
use Rattle.graphql_report.proofs.StringTexts.{CutAtBrace, at-brace, no-brace}
use Rattle.graphql_report.proofs.faults.split_at_brace.Goals as goal

is-cut : (c : goal.After-split_at) → CutAtBrace c.args.text.now c.split_at.result.0.now c.split_at.result.1.now
is-cut c =
    let m = c.in-Some.ensures.cases in
    at-brace c.args.text.now c.split_at.result.0.now c.split_at.result.1.now c.in-Some.at m.0 c.utf8.text m.3 m.4 m.1.0 m.1.1
    (c.split_at.ensures.front ∙ ap (λ k. take k c.args.text.now) (sym m.1.1.ends)) (c.split_at.ensures.back ∙ ap (λ k. drop k c.args.text.now) (sym m.1.1.ends))

pub returns-in-Some-clause-split : goal.returns-in-Some-clause-split
returns-in-Some-clause-split c = (is-cut c).split

pub returns-in-Some-clause-brace : goal.returns-in-Some-clause-brace
returns-in-Some-clause-brace c = (is-cut c).brace

pub returns-in-Some-clause-some : goal.returns-in-Some-clause-some
returns-in-Some-clause-some c = (is-cut c).some

pub returns-in-Some-clause-utf8 : goal.returns-in-Some-clause-utf8
returns-in-Some-clause-utf8 c = (is-cut c).utf8

pub returns-in-None-clause-split : goal.returns-in-None-clause-split
returns-in-None-clause-split c = (no-brace c.args.text.now c.utf8.text c.in-None.ensures.cases).split

pub returns-in-None-clause-brace : goal.returns-in-None-clause-brace
returns-in-None-clause-brace c = (no-brace c.args.text.now c.utf8.text c.in-None.ensures.cases).brace

pub returns-in-None-clause-utf8 : goal.returns-in-None-clause-utf8
returns-in-None-clause-utf8 c = (no-brace c.args.text.now c.utf8.text c.in-None.ensures.cases).utf8
