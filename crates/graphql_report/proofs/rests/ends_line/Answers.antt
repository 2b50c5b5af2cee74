use Rattle.std.proofs.Common.{Some, lit<, rules, refl}
use Rattle.std.proofs.lemmas.Str.Pattern.{strip_suffix_char}
use Rattle.graphql_report.proofs.LaterLines.{column-first}
use Rattle.graphql_report.proofs.rests.ends_line.Goals as goal

pub returns-in-Some : goal.returns-in-Some
returns-in-Some c = λ _.
    let is = strip_suffix_char 10 c.args.text.now (Some c.in-Some.field-0) c.in-Some.ensures.cases (lit< tt) in
    column-first c.args.text.now c.in-Some.field-0.now 10 (search rules) refl c.utf8.text is

pub returns-in-Some-strip_suffix : goal.returns-in-Some-strip_suffix
returns-in-Some-strip_suffix c = λ _.
    let is = strip_suffix_char 13 c.args.text.now (Some c.in-Some-strip_suffix.field-0) c.in-Some-strip_suffix.ensures.cases (lit< tt) in
    column-first c.args.text.now c.in-Some-strip_suffix.field-0.now 13 (search rules) refl c.utf8.text is
