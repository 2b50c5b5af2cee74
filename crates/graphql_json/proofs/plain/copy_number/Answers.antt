use Rattle.std.proofs.Common.{◌≡◌, ◌+◌, ◌/◌, ◌%◌, [], ◌∷◌, ◌++◌, decimal, rules, arith, ap, ◌∙◌}
use Rattle.std.proofs.lemmas.Fmt.{decimal_digit, decimal_step}
use Rattle.json.proofs.Printed.Places.{Placed-then}
use Rattle.graphql_json.proofs.plain.copy_number.Goals as goal

pub returns-then-number-lt10-clause-number : goal.returns-then-number-lt10-clause-number
returns-then-number-lt10-clause-number c = rw (decimal_digit c.args.number c.if-number-lt10.true) c.copy_digit.ensures

pub returns-then-number-lt100-clause-number : goal.returns-then-number-lt100-clause-number
returns-then-number-lt100-clause-number c =
    let n = c.args.number in
    let two : decimal n ≡ (48 + n / 10) ∷ (48 + n % 10) ∷ [] =
    decimal_step n c.if-number-lt10.false (search rules) ∙ ap (λ l. l ++ (48 + n % 10) ∷ []) (decimal_digit (n / 10) (omega arith)) in
    rw two (Placed-then c.copy_digit-next.ensures c.copy_digit-then-number-lt100.ensures)
