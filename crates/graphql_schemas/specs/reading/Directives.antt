-- Reading definitions of directives from lists of tokens.
use Rattle.std.specs.Prelude.{ℕ, Bool, cond, Option, Some, None, List, [], ◌∷◌, codes}
use Rattle.std.specs.Str.{bytes_eq}
use Rattle.graphql_tokens.specs.declared.pos.Positioned.{Positioned}
use Rattle.graphql_tokens.specs.tokens.Token.{Token}
use Rattle.graphql_trees.specs.declared.service.DirectiveLocation.{DirectiveLocation}
use Rattle.graphql_trees.specs.declared.service.DirectiveLocation.TheVariants as locations
use Rattle.graphql_trees.specs.trees.Schema.{InputValues}
use Rattle.graphql_reading.specs.grammar.Limits.{Limits}
use Rattle.graphql_reading.specs.grammar.Tests.{punct, keyword, any_name}
use Rattle.graphql_reading.specs.reading.Outcome.{Reader, one_at, meaning_at, then_at, mapped_at, opt_at, after_at, separated_at}
use Rattle.graphql_trees.specs.calls.Locations.{location_word}
use Rattle.graphql_schemas.specs.grammar.Directives.{location_of, is_there}
use Rattle.graphql_schemas.specs.reading.InputValues.{arguments_definition_at}

-- ---- locations

abbrev pub all_locations : List DirectiveLocation
all_locations =
    locations.Query ∷ locations.Mutation ∷ locations.Subscription ∷ locations.Field
    ∷ locations.FragmentDefinition ∷ locations.FragmentSpread ∷ locations.InlineFragment
    ∷ locations.Schema ∷ locations.Scalar ∷ locations.Object ∷ locations.FieldDefinition
    ∷ locations.ArgumentDefinition ∷ locations.Interface ∷ locations.Union ∷ locations.Enum
    ∷ locations.EnumValue ∷ locations.InputObject ∷ locations.InputFieldDefinition
    ∷ locations.VariableDefinition ∷ []

-- the first of these whose word this is
abbrev pub location_among : List ℕ → List DirectiveLocation → Option DirectiveLocation
location_among spelling [] = None
location_among spelling (location ∷ others) = cond (bytes_eq spelling (codes (location_word location))) (Some location) (location_among spelling others)

abbrev pub location_named : List ℕ → Option DirectiveLocation
location_named spelling = location_among spelling all_locations

abbrev pub location_at : Reader (Positioned DirectiveLocation)
location_at = mapped_at location_of (meaning_at any_name (λ t. location_named t.spelling))

abbrev pub locations_at : Reader (List (Positioned DirectiveLocation))
locations_at = after_at (keyword "on") (separated_at (punct "|") location_at)

-- ---- definitions

abbrev pub repeatable_at : Reader Bool
repeatable_at = mapped_at is_there (opt_at (keyword "repeatable") (one_at (keyword "repeatable")))

-- after the description
abbrev pub directive_rest_at : Limits → Reader (Token × (Token × (Token × (Option InputValues × (Option Token × List (Positioned DirectiveLocation))))))
directive_rest_at limits =
    then_at (one_at (keyword "directive")) (then_at (one_at (punct "@")) (then_at (one_at any_name) (then_at (opt_at (punct "(") (arguments_definition_at limits)) (then_at (opt_at (keyword "repeatable") (one_at (keyword "repeatable"))) locations_at))))
