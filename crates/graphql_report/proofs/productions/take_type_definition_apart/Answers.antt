use Rattle.graphql_report.proofs.Apart.{put-always, either-always}
use Rattle.graphql_report.proofs.SchemaProductions.{implements-productions, names-productions, maybe_fields-productions, field-productions, fields-productions, members-productions, maybe_values-productions, enum_value-productions, enum_values-productions}
use Rattle.graphql_report.proofs.SchemaProductions.{body-productions}
use Rattle.graphql_report.proofs.productions.take_type_definition_apart.Goals as goal

pub returns-in-MaybeImplements : goal.returns-in-MaybeImplements
returns-in-MaybeImplements c = either-always c.args.parser.now.hand.bare _ _ _ _ _ _ _ _ c.either.result c.in-MaybeImplements.is c.either.ensures c.is_at_keyword.ensures (λ limits. implements-productions limits c.args.parser.now.hand.bare)

pub returns-in-Names : goal.returns-in-Names
returns-in-Names c = either-always c.args.parser.now.hand.bare _ _ _ _ _ _ _ _ c.either-in-Names.result c.in-Names.is c.either-in-Names.ensures c.is_at.ensures (λ limits. names-productions limits c.args.parser.now.hand.bare c.in-Names.mark)

pub returns-in-MaybeFields : goal.returns-in-MaybeFields
returns-in-MaybeFields c = either-always c.args.parser.now.hand.bare _ _ _ _ _ _ _ _ c.either-in-MaybeFields.result c.in-MaybeFields.is c.either-in-MaybeFields.ensures c.is_at_punct.ensures (λ limits. maybe_fields-productions limits c.args.parser.now.hand.bare)

pub returns-in-FieldDefinition : goal.returns-in-FieldDefinition
returns-in-FieldDefinition c = put-always c.args.parser.now.hand.bare c.args.left.now.items c.put-in-FieldDefinition.new.left.items _ _ _ c.put-in-FieldDefinition.result c.in-FieldDefinition.is c.put-in-FieldDefinition.ensures (λ limits. field-productions limits c.args.parser.now.hand.bare)

pub returns-in-FieldDefinitions : goal.returns-in-FieldDefinitions
returns-in-FieldDefinitions c = either-always c.args.parser.now.hand.bare _ _ _ _ _ _ _ _ c.either-in-FieldDefinitions.result c.in-FieldDefinitions.is c.either-in-FieldDefinitions.ensures c.is_at_member.ensures (λ limits. fields-productions limits c.args.parser.now.hand.bare)

pub returns-in-MaybeMembers : goal.returns-in-MaybeMembers
returns-in-MaybeMembers c = either-always c.args.parser.now.hand.bare _ _ _ _ _ _ _ _ c.either-in-MaybeMembers.result c.in-MaybeMembers.is c.either-in-MaybeMembers.ensures c.is_at_punct-in-MaybeMembers.ensures (λ limits. members-productions limits c.args.parser.now.hand.bare)

pub returns-in-MaybeEnumValues : goal.returns-in-MaybeEnumValues
returns-in-MaybeEnumValues c = either-always c.args.parser.now.hand.bare _ _ _ _ _ _ _ _ c.either-in-MaybeEnumValues.result c.in-MaybeEnumValues.is c.either-in-MaybeEnumValues.ensures c.is_at_punct-in-MaybeEnumValues.ensures (λ limits. maybe_values-productions limits c.args.parser.now.hand.bare)

pub returns-in-EnumValueDefinition : goal.returns-in-EnumValueDefinition
returns-in-EnumValueDefinition c = put-always c.args.parser.now.hand.bare c.args.left.now.items c.put-in-EnumValueDefinition.new.left.items _ _ _ c.put-in-EnumValueDefinition.result c.in-EnumValueDefinition.is c.put-in-EnumValueDefinition.ensures (λ limits. enum_value-productions limits c.args.parser.now.hand.bare)

pub returns-in-EnumValueDefinitions : goal.returns-in-EnumValueDefinitions
returns-in-EnumValueDefinitions c = either-always c.args.parser.now.hand.bare _ _ _ _ _ _ _ _ c.either-in-EnumValueDefinitions.result c.in-EnumValueDefinitions.is c.either-in-EnumValueDefinitions.ensures c.is_at_enum_value.ensures (λ limits. enum_values-productions limits c.args.parser.now.hand.bare)

pub returns-in-TypeBody : goal.returns-in-TypeBody
returns-in-TypeBody c = put-always c.args.parser.now.hand.bare c.args.left.now.items c.put.new.left.items _ _ _ c.put.result c.in-TypeBody.is c.put.ensures (λ limits. body-productions limits c.args.parser.now.hand.bare c.in-TypeBody.extend c.word_of-keyword.result c.word_of-keyword.ensures)
