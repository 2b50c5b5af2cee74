-- Requests of which a check keeps no more than one definition.
-- Source: this project's choice.
use Rattle.std.specs.Prelude.{◌≡◌, true, List, ◌∷◌, ◌++◌}
use Rattle.graphql_tokens.specs.tokens.Edition.{Current}
use Rattle.graphql_tokens.specs.tokens.Token.{Token}
use Rattle.graphql_reading.specs.grammar.Limits.{Limits}
use Rattle.graphql_reading.specs.grammar.Tests.{the_end}
use Rattle.graphql_requests.specs.grammar.Request.{Definition, a_definition}

-- where the tokens begin with a definition, nothing but the end of the text stands after it
abbrev pub FirstStandsAlone : Limits → List Token → Type 0
FirstStandsAlone limits tokens = (front after : List Token) (d : Definition) (t : Token) → tokens ≡ front ++ t ∷ after → a_definition Current limits front d → the_end t.bare ≡ true
