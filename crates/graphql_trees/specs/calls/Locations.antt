-- The words of the places where a directive may stand.
-- Source: GraphQL October 2021, section 3.13 (Directives), DirectiveLocation.
use Rattle.graphql_trees.specs.declared.service.DirectiveLocation.{DirectiveLocation}
use Rattle.graphql_trees.specs.declared.service.DirectiveLocation.TheVariants as locations
use Prim.Native.String.{String}

-- the word of each place where a directive may stand
abbrev pub location_word : DirectiveLocation → String
location_word locations.Query = "QUERY"
location_word locations.Mutation = "MUTATION"
location_word locations.Subscription = "SUBSCRIPTION"
location_word locations.Field = "FIELD"
location_word locations.FragmentDefinition = "FRAGMENT_DEFINITION"
location_word locations.FragmentSpread = "FRAGMENT_SPREAD"
location_word locations.InlineFragment = "INLINE_FRAGMENT"
location_word locations.Schema = "SCHEMA"
location_word locations.Scalar = "SCALAR"
location_word locations.Object = "OBJECT"
location_word locations.FieldDefinition = "FIELD_DEFINITION"
location_word locations.ArgumentDefinition = "ARGUMENT_DEFINITION"
location_word locations.Interface = "INTERFACE"
location_word locations.Union = "UNION"
location_word locations.Enum = "ENUM"
location_word locations.EnumValue = "ENUM_VALUE"
location_word locations.InputObject = "INPUT_OBJECT"
location_word locations.InputFieldDefinition = "INPUT_FIELD_DEFINITION"
location_word locations.VariableDefinition = "VARIABLE_DEFINITION"
