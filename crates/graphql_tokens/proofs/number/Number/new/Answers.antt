use Rattle.std.proofs.Common.{◌≡◌, true}
use Rattle.graphql_tokens.specs.inner.Numerals.{is_numeral}
use Rattle.graphql_tokens.proofs.Numerals.{is_numeral-is}
use Rattle.graphql_tokens.proofs.number.Number.new.Goals as goal

pub returns-then-not-is_number-clause-number : goal.returns-then-not-is_number-clause-number
returns-then-not-is_number-clause-number c = λ number. let passed = (is_numeral-is c.args.text.now).1 number in cc

pub returns-in_err-new-clause-refused : goal.returns-in_err-new-clause-refused
returns-in_err-new-clause-refused c = λ no.
    let passed : is_numeral c.args.text.now ≡ true = cc in absurd (no ((is_numeral-is c.args.text.now).0 passed))

pub returns-clause-number : goal.returns-clause-number
returns-clause-number c =
    let passed : is_numeral c.args.text.now ≡ true = cc in
    ((is_numeral-is c.args.text.now).0 passed, c.in_ok-new.ensures.text)

pub returns-clause-refused : goal.returns-clause-refused
returns-clause-refused c = λ no.
    let passed : is_numeral c.args.text.now ≡ true = cc in absurd (no ((is_numeral-is c.args.text.now).0 passed))
