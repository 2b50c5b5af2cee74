use Rattle.graphql_report.proofs.Apart.{put-always, either-always}
use Rattle.graphql_report.proofs.RequestProductions.{variables-productions, variable_definition-productions, variable_definitions-productions, after_type-productions, set-productions, selections-productions, selection-productions, aliased-productions, after_dots-productions, condition-productions, request_definition-productions, worded-productions, request_definitions-productions}
use Rattle.graphql_report.proofs.productions.take_request_apart.Goals as goal

pub returns-in-MaybeVariables : goal.returns-in-MaybeVariables
returns-in-MaybeVariables c = either-always c.args.parser.now.hand.bare _ _ _ _ _ _ _ _ c.either.result c.in-MaybeVariables.is c.either.ensures c.is_at_punct.ensures (λ limits. variables-productions limits c.args.parser.now.hand.bare)

pub returns-in-VariableDefinition : goal.returns-in-VariableDefinition
returns-in-VariableDefinition c = put-always c.args.parser.now.hand.bare c.args.left.now.items c.put.new.left.items _ _ _ c.put.result c.in-VariableDefinition.is c.put.ensures (λ limits. variable_definition-productions limits c.args.parser.now.hand.bare)

pub returns-in-VariableDefinitions : goal.returns-in-VariableDefinitions
returns-in-VariableDefinitions c = either-always c.args.parser.now.hand.bare _ _ _ _ _ _ _ _ c.either-in-VariableDefinitions.result c.in-VariableDefinitions.is c.either-in-VariableDefinitions.ensures c.is_at_punct-in-VariableDefinitions.ensures (λ limits. variable_definitions-productions limits c.args.parser.now.hand.bare)

pub returns-in-AfterType : goal.returns-in-AfterType
returns-in-AfterType c = either-always c.args.parser.now.hand.bare _ _ _ _ _ _ _ _ c.either-in-AfterType.result c.in-AfterType.is c.either-in-AfterType.ensures c.is_at_punct-in-AfterType.ensures (λ limits. after_type-productions limits c.args.parser.now.hand.bare)

pub returns-in-Set : goal.returns-in-Set
returns-in-Set c = put-always c.args.parser.now.hand.bare c.args.left.now.items c.put-in-Set.new.left.items _ _ _ c.put-in-Set.result c.in-Set.is c.put-in-Set.ensures (λ limits. set-productions limits c.args.parser.now.hand.bare c.in-Set.levels)

pub returns-in-Selections : goal.returns-in-Selections
returns-in-Selections c = either-always c.args.parser.now.hand.bare _ _ _ _ _ _ _ _ c.either-in-Selections.result c.in-Selections.is c.either-in-Selections.ensures c.is_at_selection.ensures (λ limits. selections-productions limits c.args.parser.now.hand.bare c.in-Selections.levels)

pub returns-in-Selection : goal.returns-in-Selection
returns-in-Selection c = either-always c.args.parser.now.hand.bare _ _ _ _ _ _ _ _ c.either-in-Selection.result c.in-Selection.is c.either-in-Selection.ensures c.is_at_punct-in-Selection.ensures (λ limits. selection-productions limits c.args.parser.now.hand.bare c.in-Selection.levels)

pub returns-in-MaybeAliased : goal.returns-in-MaybeAliased
returns-in-MaybeAliased c = either-always c.args.parser.now.hand.bare _ _ _ _ _ _ _ _ c.either-in-MaybeAliased.result c.in-MaybeAliased.is c.either-in-MaybeAliased.ensures c.is_at_punct-in-MaybeAliased.ensures (λ limits. aliased-productions limits c.args.parser.now.hand.bare)

pub returns-in-AfterDots : goal.returns-in-AfterDots
returns-in-AfterDots c = either-always c.args.parser.now.hand.bare _ _ _ _ _ _ _ _ c.either-in-AfterDots.result c.in-AfterDots.is c.either-in-AfterDots.ensures c.is_at_fragment_name.ensures (λ limits. after_dots-productions limits c.args.parser.now.hand.bare c.in-AfterDots.levels)

pub returns-in-MaybeCondition : goal.returns-in-MaybeCondition
returns-in-MaybeCondition c = either-always c.args.parser.now.hand.bare _ _ _ _ _ _ _ _ c.either-in-MaybeCondition.result c.in-MaybeCondition.is c.either-in-MaybeCondition.ensures c.is_at_keyword.ensures (λ limits. condition-productions limits c.args.parser.now.hand.bare)

pub returns-in-RequestDefinition : goal.returns-in-RequestDefinition
returns-in-RequestDefinition c = either-always c.args.parser.now.hand.bare _ _ _ _ _ _ _ _ c.either-in-RequestDefinition.result c.in-RequestDefinition.is c.either-in-RequestDefinition.ensures c.is_at_punct-in-RequestDefinition.ensures (λ limits. request_definition-productions limits c.args.parser.now.hand.bare)

pub returns-in-WordedDefinition : goal.returns-in-WordedDefinition
returns-in-WordedDefinition c = either-always c.args.parser.now.hand.bare _ _ _ _ _ _ _ _ c.either-in-WordedDefinition.result c.in-WordedDefinition.is c.either-in-WordedDefinition.ensures c.is_at_keyword-in-WordedDefinition.ensures (λ limits. worded-productions limits c.args.parser.now.hand.bare)

pub returns-in-RequestDefinitions : goal.returns-in-RequestDefinitions
returns-in-RequestDefinitions c = either-always c.args.parser.now.hand.bare _ _ _ _ _ _ _ _ c.either-in-RequestDefinitions.result c.in-RequestDefinitions.is c.either-in-RequestDefinitions.ensures c.is_next.ensures (λ limits. request_definitions-productions limits c.args.parser.now.hand.bare)
