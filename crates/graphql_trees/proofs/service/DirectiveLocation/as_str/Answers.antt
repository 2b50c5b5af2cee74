use Rattle.std.proofs.Common.{codes, sym, ap}
use Rattle.graphql_trees.specs.calls.Locations.{location_word}
use Rattle.graphql_trees.proofs.service.DirectiveLocation.as_str.Goals as goal

pub returns-in-Query : goal.returns-in-Query
returns-in-Query c = ap (λ l. codes (location_word l)) (sym c.in-Query.is)

pub returns-in-Mutation : goal.returns-in-Mutation
returns-in-Mutation c = ap (λ l. codes (location_word l)) (sym c.in-Mutation.is)

pub returns-in-Subscription : goal.returns-in-Subscription
returns-in-Subscription c = ap (λ l. codes (location_word l)) (sym c.in-Subscription.is)

pub returns-in-Field : goal.returns-in-Field
returns-in-Field c = ap (λ l. codes (location_word l)) (sym c.in-Field.is)

pub returns-in-FragmentDefinition : goal.returns-in-FragmentDefinition
returns-in-FragmentDefinition c = ap (λ l. codes (location_word l)) (sym c.in-FragmentDefinition.is)

pub returns-in-FragmentSpread : goal.returns-in-FragmentSpread
returns-in-FragmentSpread c = ap (λ l. codes (location_word l)) (sym c.in-FragmentSpread.is)

pub returns-in-InlineFragment : goal.returns-in-InlineFragment
returns-in-InlineFragment c = ap (λ l. codes (location_word l)) (sym c.in-InlineFragment.is)

pub returns-in-Schema : goal.returns-in-Schema
returns-in-Schema c = ap (λ l. codes (location_word l)) (sym c.in-Schema.is)

pub returns-in-Scalar : goal.returns-in-Scalar
returns-in-Scalar c = ap (λ l. codes (location_word l)) (sym c.in-Scalar.is)

pub returns-in-Object : goal.returns-in-Object
returns-in-Object c = ap (λ l. codes (location_word l)) (sym c.in-Object.is)

pub returns-in-FieldDefinition : goal.returns-in-FieldDefinition
returns-in-FieldDefinition c = ap (λ l. codes (location_word l)) (sym c.in-FieldDefinition.is)

pub returns-in-ArgumentDefinition : goal.returns-in-ArgumentDefinition
returns-in-ArgumentDefinition c = ap (λ l. codes (location_word l)) (sym c.in-ArgumentDefinition.is)

pub returns-in-Interface : goal.returns-in-Interface
returns-in-Interface c = ap (λ l. codes (location_word l)) (sym c.in-Interface.is)

pub returns-in-Union : goal.returns-in-Union
returns-in-Union c = ap (λ l. codes (location_word l)) (sym c.in-Union.is)

pub returns-in-Enum : goal.returns-in-Enum
returns-in-Enum c = ap (λ l. codes (location_word l)) (sym c.in-Enum.is)

pub returns-in-EnumValue : goal.returns-in-EnumValue
returns-in-EnumValue c = ap (λ l. codes (location_word l)) (sym c.in-EnumValue.is)

pub returns-in-InputObject : goal.returns-in-InputObject
returns-in-InputObject c = ap (λ l. codes (location_word l)) (sym c.in-InputObject.is)

pub returns-in-InputFieldDefinition : goal.returns-in-InputFieldDefinition
returns-in-InputFieldDefinition c = ap (λ l. codes (location_word l)) (sym c.in-InputFieldDefinition.is)

pub returns-in-VariableDefinition : goal.returns-in-VariableDefinition
returns-in-VariableDefinition c = ap (λ l. codes (location_word l)) (sym c.in-VariableDefinition.is)
