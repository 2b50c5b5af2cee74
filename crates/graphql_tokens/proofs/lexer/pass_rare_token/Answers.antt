use Rattle.std.proofs.Common.{ap, ◌∙◌, arith}
use Rattle.graphql_tokens.specs.inner.Reading.{found}
use Rattle.graphql_tokens.specs.inner.Running.{ahead}
use Rattle.graphql_tokens.specs.declared.lexer.TokenKind.TheVariants.{Punct}
use Rattle.graphql_tokens.proofs.Ahead.{next_quote, next_dot, next_none, found_gives}
use Rattle.graphql_tokens.proofs.lexer.pass_rare_token.Goals as goal

pub returns-then-b-eq34 : goal.returns-then-b-eq34
returns-then-b-eq34 c =
    let p = c.pass_ascii.ensures.passed in
    let is = next_quote c.args.b p.0 _ _ c.requires.first p.1 c.if-b-eq34.true in
    let given = c.pass_quoted.ensures in
    record { runs = given.runs; kind = ap (λ t. t.0) is ∙ given.kind; rest = λ l. ap (λ t. t.1) is ∙ given.rest l; forward = omega (arith, given.forward) }

pub returns-then-b-eq46 : goal.returns-then-b-eq46
returns-then-b-eq46 c =
    let p = c.pass_ascii-then-b-eq46.ensures.passed in
    let read = c.pass_dots.ensures in
    let is = next_dot c.args.b p.0 _ _ c.requires.first p.1 c.if-b-eq46.true ∙ ap (found Punct (ahead c.args.places.now)) read.rest in
    found_gives Punct _ _ _ _ c.pass_dots.result is c.found.ensures read.runs (omega (arith, read.forward))

pub returns : goal.returns
returns c =
    let is = next_none c.args.b _ c.requires.first c.requires.no_punct c.requires.no_name c.if-b-eq34.false c.requires.no_number c.if-b-eq46.false in
    record { runs = c.requires.runs; kind = ap (λ t. t.0) is; rest = λ l. absurd (cc); forward = omega arith }
