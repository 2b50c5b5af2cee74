-- Definitions of directives, and where directives may stand (GraphQL October 2021, section 3.13).
use Rattle.std.specs.Prelude.{◌≡◌, true, false, Bool, Option, Some, None, List, codes}
use Rattle.graphql_tokens.specs.declared.pos.Positioned.{Positioned}
use Rattle.graphql_tokens.specs.tokens.Edition.{Edition}
use Rattle.graphql_tokens.specs.tokens.Token.{Bare, Token}
use Rattle.graphql_trees.specs.declared.service.DirectiveLocation.{DirectiveLocation}
use Rattle.graphql_trees.specs.calls.Locations.{location_word}
use Rattle.graphql_trees.specs.trees.Schema.{Description, InputValues, DirectiveDefinition}
use Rattle.graphql_reading.specs.grammar.Fronts.{Grammar}
use Rattle.graphql_reading.specs.grammar.Places.{at, name_of}
use Rattle.graphql_reading.specs.grammar.Relations.{Rel, one, meaning, ◌⨾◌, mapped, opt, given, after, separated}
use Rattle.graphql_reading.specs.grammar.Tests.{punct, keyword, any_name}
use Rattle.graphql_schemas.specs.grammar.Descriptions.{a_description, described}
use Rattle.graphql_schemas.specs.grammar.InputValues.{arguments_definition}

-- ---- locations

-- a name that is the word of this location
abbrev pub IsLocation : Bare → DirectiveLocation → Type 0
IsLocation t location = t.spelling ≡ codes (location_word location)

abbrev pub location_of : Token × DirectiveLocation → Positioned DirectiveLocation
location_of (t, location) = at t location

-- DirectiveLocation : one of the 19 words
abbrev pub a_location : Rel (Positioned DirectiveLocation)
a_location = mapped location_of (meaning any_name IsLocation)

-- ---- definitions

abbrev pub is_there : Option Token → Bool
is_there None = false
is_there (Some word) = true

abbrev pub directive_definition_of : Description × (Token × (Token × (Token × (Option InputValues × (Option Token × List (Positioned DirectiveLocation)))))) → Positioned DirectiveDefinition
directive_definition_of (description, (word, (sign, (name, (arguments, (repeatable, locations)))))) = described description word (record {
  description = description;
  name = name_of name;
  arguments = given arguments;
  is_repeatable = is_there repeatable;
  locations = locations;
})

-- DirectiveDefinition : Description? 'directive' '@' Name ArgumentsDefinition? 'repeatable'? 'on' DirectiveLocations
-- DirectiveLocations : '|'? DirectiveLocation ('|' DirectiveLocation)*
abbrev pub a_directive_definition : Edition → Grammar (Positioned DirectiveDefinition)
a_directive_definition edition limits =
    mapped directive_definition_of (opt (a_description edition) ⨾ one (keyword "directive") ⨾ one (punct "@") ⨾ one any_name ⨾ opt (arguments_definition edition limits) ⨾ opt (one (keyword "repeatable")) ⨾ after (keyword "on") (separated (punct "|") a_location))
