use Rattle.std.proofs.Common.{ap, ◌∙◌}
use Rattle.graphql_tokens.specs.inner.Reading.{found}
use Rattle.graphql_tokens.specs.inner.Running.{ahead}
use Rattle.graphql_tokens.specs.declared.lexer.TokenKind.TheVariants.{Number}
use Rattle.graphql_tokens.proofs.Ahead.{next_number, found_gives}
use Rattle.graphql_tokens.proofs.lexer.pass_number_token.Goals as goal

pub returns : goal.returns
returns c =
    let read = c.pass_number.ensures in
    let is = next_number c.args.b _ c.requires.first c.requires.number ∙ ap (found Number (ahead c.args.places.now)) read.rest in
    found_gives Number _ _ _ _ c.pass_number.result is c.found.ensures read.runs read.forward
