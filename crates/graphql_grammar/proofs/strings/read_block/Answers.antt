use Rattle.std.proofs.Common.{List, sym, ap, ◌∙◌, arith}
use Rattle.std.proofs.lemmas.Str.{encodes-chars, IsUtf8-string_bytes}
use Rattle.std.specs.String.{string_bytes}
use Rattle.graphql_tokens.specs.tokens.Token.{Token}
use Rattle.graphql_reading.specs.reading.Outcome.{Read}
use Rattle.graphql_grammar.proofs.SimpleValues.{block-here, block-means}
use Rattle.graphql_grammar.proofs.strings.read_block.Goals as goal

pub inside-requires : goal.inside-requires
inside-requires c = block-here c.hand-token.result c.args.parser.now.hand c.hand-token.ensures.token (sym c.is_block.ensures ∙ c.if-not-is_block.false) c.hand-token.ensures.proper

pub returns-clause-gives : goal.returns-clause-gives
returns-clause-gives c =
    let asked = c.block_string_value.ensures.stays in
    let back = encodes-chars (string_bytes c.in_ok-text.text) (IsUtf8-string_bytes c.in_ok-text.text) in
    let reads = block-means c.hand-token.result c.args.parser.now.hand c.args.parser.now.after c.inside.result.now (string_bytes c.in_ok-text.text) c.hand-token.ensures.token (sym c.is_block.ensures ∙ c.if-not-is_block.false) c.inside.ensures.inside c.in_ok-text.ensures.value back in
    (reads ∙ ap (λ (l : List Token). Read (string_bytes c.in_ok-text.text) l) (sym (c.advance.ensures.left ∙ asked.1)), (c.advance.ensures.source ∙ asked.2, omega (arith, c.advance.ensures.taken, asked.3)))
