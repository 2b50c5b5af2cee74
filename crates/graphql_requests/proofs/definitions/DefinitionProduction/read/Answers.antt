use Rattle.std.proofs.Common.{◌≡◌, false, List, ◌∷◌, sym, ◌∙◌}
use Rattle.graphql_tokens.specs.tokens.Token.{Token}
use Rattle.graphql_reading.specs.grammar.Limits.{Limits}
use Rattle.graphql_reading.specs.grammar.Tests.{punct, keyword}
use Rattle.graphql_requests.specs.reading.Definitions.{definition_tree, worded_at}
use Rattle.graphql_requests.specs.reading.Request.{definition_at}
use Rattle.graphql_reading.proofs.Loops.{there}
use Rattle.graphql_requests.proofs.Operations.{operation-law}
use Rattle.graphql_requests.proofs.definitions.DefinitionProduction.read.Goals as goal

by-word : (limits : Limits) (t : Token) (ts : List Token) → punct "{" t.bare ≡ false → keyword "fragment" t.bare ≡ false → definition_at limits (t ∷ ts) ≡ worded_at limits (t ∷ ts)
by-word limits t ts brace fragment = rw (brace, fragment) (operation-law limits (t ∷ ts))

pub returns-else-is_at_keyword-clause-gives : goal.returns-else-is_at_keyword-clause-gives
returns-else-is_at_keyword-clause-gives c =
    there definition_tree c.read_operation.result c.args.parser.now c.read_operation.new.parser (worded_at c.args.limits) (definition_at c.args.limits)
    (sym (by-word c.args.limits c.args.parser.now.hand c.args.parser.now.after (sym c.is_at_punct.ensures ∙ c.if-is_at_punct.false) (sym c.is_at_keyword.ensures ∙ c.if-is_at_keyword.false)))
    c.read_operation.ensures.gives
