use Rattle.std.proofs.Common.{◌≡◌, ℕ, ◌-◌, ◌^◌, true, false, List, [], ◌++◌, length, Option, append-nil, ap, ◌∙◌, subst, arith}
use Rattle.std.specs.Prelude.{codes, replicate, Some, IfSome, option_map}
use Rattle.std.specs.String.{string_bytes}
use Rattle.std.specs.Fmt.{char_count, digits, format_spec, padded_integral, radix_prefix, shown_prefix, styled_digits_output}
use Rattle.graphql_report.specs.reports.Faults.{number_of}
use Rattle.graphql_report.proofs.NumberParts.{told-ok}
use Rattle.graphql_report.proofs.faults.invisible_fault.Goals as goal

-- as a number with zeros before it, of four digits or more
padded-number : (c : ℕ) → padded_integral (format_spec 32 0 4 4 (2 ^ 64 - 1)) false [] (digits 16 true c) ≡ number_of c
unfolding padded_integral char_count
padded-number c =
    let d : List ℕ = digits 16 true c in
    let short : 4 - length d - 0 - 0 ≡ 4 - length d = omega arith in
    ap (λ n. replicate n 48 ++ (d ++ [])) short ∙ ap (λ (l : List ℕ). replicate (4 - length d) 48 ++ l) (append-nil d)

number-told : (output : Option (List ℕ)) (c : ℕ) (told : List ℕ) → output ≡ Some (padded_integral (format_spec 32 0 4 4 (2 ^ 64 - 1)) false [] (digits 16 true c)) → IfSome output (λ bs. told ≡ bs) → told ≡ number_of c
number-told output c told is h = subst (λ (o : Option (List ℕ)). IfSome o (λ bs. told ≡ bs)) is h ∙ padded-number c

pub returns : goal.returns
returns c =
    let number = number-told (styled_digits_output c.in_radix.result c.laid_out.result) c.from-code.result (string_bytes c.in_ok-number.number) (λ i. option_map (padded_integral (c.laid_out.ensures i) false (shown_prefix (c.laid_out.ensures i) (radix_prefix c.in_radix.result.base))) (c.in_radix.ensures i)) c.in_ok-number.ensures.ok ∙ ap number_of c.from-code.ensures in
    told-ok string_bytes c.format-2.result (λ told. told ≡ codes "the character U+" ++ (number_of c.args.c ++ codes " begins no token")) (codes "the character U+" ++ (c.as_str-shown.result.now ++ codes " begins no token")) c.format-2.ensures.ok
    (λ told e. e ∙ ap (λ (l : List ℕ). codes "the character U+" ++ (l ++ codes " begins no token")) (c.as_str-shown.ensures.value ∙ number))
