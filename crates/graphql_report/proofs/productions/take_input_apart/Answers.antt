use Rattle.graphql_report.proofs.Apart.{put-always, either-always}
use Rattle.graphql_report.proofs.SchemaProductions.{input_fields-productions, maybe_arguments-productions, input_value-productions, input_values-productions}
use Rattle.graphql_report.proofs.productions.take_input_apart.Goals as goal

pub returns-in-MaybeInputFields : goal.returns-in-MaybeInputFields
returns-in-MaybeInputFields c = either-always c.args.parser.now.hand.bare _ _ _ _ _ _ _ _ c.either.result c.in-MaybeInputFields.is c.either.ensures c.is_at_punct.ensures (λ limits. input_fields-productions limits c.args.parser.now.hand.bare)

pub returns-in-MaybeArgumentsDefinition : goal.returns-in-MaybeArgumentsDefinition
returns-in-MaybeArgumentsDefinition c = either-always c.args.parser.now.hand.bare _ _ _ _ _ _ _ _ c.either-in-MaybeArgumentsDefinition.result c.in-MaybeArgumentsDefinition.is c.either-in-MaybeArgumentsDefinition.ensures c.is_at_punct-in-MaybeArgumentsDefinition.ensures (λ limits. maybe_arguments-productions limits c.args.parser.now.hand.bare)

pub returns-in-InputValueDefinition : goal.returns-in-InputValueDefinition
returns-in-InputValueDefinition c = put-always c.args.parser.now.hand.bare c.args.left.now.items c.put.new.left.items _ _ _ c.put.result c.in-InputValueDefinition.is c.put.ensures (λ limits. input_value-productions limits c.args.parser.now.hand.bare)

pub returns-in-InputValueDefinitions : goal.returns-in-InputValueDefinitions
returns-in-InputValueDefinitions c = either-always c.args.parser.now.hand.bare _ _ _ _ _ _ _ _ c.either-in-InputValueDefinitions.result c.in-InputValueDefinitions.is c.either-in-InputValueDefinitions.ensures c.is_at_member.ensures (λ limits. input_values-productions limits c.args.parser.now.hand.bare)
