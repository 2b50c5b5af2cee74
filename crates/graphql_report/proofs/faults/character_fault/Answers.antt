use Rattle.std.proofs.Common.{◌++◌, sym, ◌∙◌}
use Rattle.std.specs.Prelude.{codes}
use Rattle.std.specs.Char.{encode_utf8}
use Rattle.std.specs.String.{string_bytes}
use Rattle.graphql_report.specs.reports.Faults.{IsToldOfCharacter, invisible, number_of, quote}
use Rattle.graphql_report.proofs.NumberParts.{told-ok}
use Rattle.graphql_report.proofs.faults.character_fault.Goals as goal

pub returns-then-is_other_quote : goal.returns-then-is_other_quote
returns-then-is_other_quote c = told-ok string_bytes c.format.result (IsToldOfCharacter c.args.c) (encode_utf8 c.args.c ++ codes " begins no token (a string stands between double quotes)") c.format.ensures.ok
    (λ told e. quote (sym c.is_other_quote.ensures ∙ c.if-is_other_quote.true) e)

pub returns-then-is_invisible : goal.returns-then-is_invisible
returns-then-is_invisible c = told-ok string_bytes c.invisible_fault.result (IsToldOfCharacter c.args.c) (codes "the character U+" ++ (number_of c.args.c ++ codes " begins no token")) c.invisible_fault.ensures
    (λ told e. invisible (sym c.is_other_quote.ensures ∙ c.if-is_other_quote.false) (sym c.is_invisible.ensures ∙ c.if-is_invisible.true) e)
