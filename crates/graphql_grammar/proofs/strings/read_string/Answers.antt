use Rattle.std.proofs.Common.{List, sym, ap, ◌∙◌, arith}
use Rattle.std.proofs.lemmas.Str.{encodes-chars, IsUtf8-string_bytes}
use Rattle.std.specs.String.{string_bytes}
use Rattle.graphql_tokens.specs.tokens.Token.{Token}
use Rattle.graphql_reading.specs.reading.Outcome.{Read, Refused}
use Rattle.graphql_reading.specs.grammar.Fronts.{syntax}
use Rattle.graphql_reading.proofs.Loops.{stays, ahead-stays, on-stays}
use Rattle.graphql_grammar.proofs.SimpleValues.{string-here, string-means, string-none}
use Rattle.graphql_grammar.proofs.strings.read_string.Goals as goal

pub inside-requires : goal.inside-requires
inside-requires c = string-here c.hand-token.result c.args.parser.now.hand c.hand-token.ensures.token (sym c.is_string.ensures ∙ c.if-not-is_string.false) c.hand-token.ensures.proper

pub returns-in_default-clause-gives : goal.returns-in_default-clause-gives
returns-in_default-clause-gives c =
    let asked = c.string_value.ensures.stays in
    let none = rw c.in_default.is at c.in_ok-text.ensures.none in
    (string-none c.hand-token.result c.args.parser.now.hand c.args.parser.now.after c.inside.result.now c.hand-token.ensures.token (sym c.is_string.ensures ∙ c.if-not-is_string.false) c.inside.ensures.inside none ∙ ap (λ (l : List Token). Refused syntax l) (sym (ahead-stays c.args.parser.now c.string_value.new.self asked)), on-stays c.args.parser.now c.args.parser.now c.string_value.new.self (stays c.args.parser.now) asked)

pub returns-clause-gives : goal.returns-clause-gives
returns-clause-gives c =
    let asked = c.string_value.ensures.stays in
    let means = rw c.in-Some.is at c.in_ok-text.ensures.some in
    let back = encodes-chars (string_bytes c.in-Some.text) (IsUtf8-string_bytes c.in-Some.text) in
    let reads = string-means c.hand-token.result c.args.parser.now.hand c.args.parser.now.after c.inside.result.now (string_bytes c.in-Some.text) c.hand-token.ensures.token (sym c.is_string.ensures ∙ c.if-not-is_string.false) c.inside.ensures.inside means back in
    (reads ∙ ap (λ (l : List Token). Read (string_bytes c.in-Some.text) l) (sym (c.advance.ensures.left ∙ asked.1)), (c.advance.ensures.source ∙ asked.2, omega (arith, c.advance.ensures.taken, asked.3)))
