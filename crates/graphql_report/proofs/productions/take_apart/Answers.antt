use Rattle.graphql_report.proofs.Apart.{put-so, either-so}
use Rattle.graphql_report.proofs.ValueProductions.{value-productions, simple-productions, unnamed-productions, values-productions, fields-productions, arguments-productions, maybe_arguments-productions, directives-productions, default-productions}
use Rattle.graphql_report.proofs.RequestProductions.{maybe_name-productions}
use Rattle.graphql_report.proofs.SchemaProductions.{maybe_mark-productions}
use Rattle.graphql_report.proofs.ValueProductions.{own_value-productions, own_type-productions}
use Rattle.graphql_report.proofs.RequestProductions.{own_set-productions}
use Rattle.graphql_report.proofs.productions.take_apart.Goals as goal

pub returns-in-MaybeMark : goal.returns-in-MaybeMark
returns-in-MaybeMark c = either-so c.args.limits c.args.parser.now.hand.bare _ _ _ _ _ _ _ _ c.either.result c.in-MaybeMark.is c.either.ensures c.is_at.ensures (maybe_mark-productions c.args.limits c.args.parser.now.hand.bare c.in-MaybeMark.mark)

pub returns-in-MaybeName : goal.returns-in-MaybeName
returns-in-MaybeName c = either-so c.args.limits c.args.parser.now.hand.bare _ _ _ _ _ _ _ _ c.either-in-MaybeName.result c.in-MaybeName.is c.either-in-MaybeName.ensures c.is_at_name.ensures (maybe_name-productions c.args.limits c.args.parser.now.hand.bare)

pub returns-in-Value : goal.returns-in-Value
returns-in-Value c = either-so c.args.limits c.args.parser.now.hand.bare _ _ _ _ _ _ _ _ c.either-in-Value.result c.in-Value.is c.either-in-Value.ensures c.is_at_simple.ensures (value-productions c.args.limits c.args.parser.now.hand.bare c.in-Value.variables c.in-Value.levels)

pub returns-in-Simple : goal.returns-in-Simple
returns-in-Simple c = either-so c.args.limits c.args.parser.now.hand.bare _ _ _ _ _ _ _ _ c.either-in-Simple.result c.in-Simple.is c.either-in-Simple.ensures c.is_at_name-in-Simple.ensures (simple-productions c.args.limits c.args.parser.now.hand.bare c.in-Simple.variables)

pub returns-in-Unnamed : goal.returns-in-Unnamed
returns-in-Unnamed c = either-so c.args.limits c.args.parser.now.hand.bare _ _ _ _ _ _ _ _ c.either-in-Unnamed.result c.in-Unnamed.is c.either-in-Unnamed.ensures c.is_at_punct.ensures (unnamed-productions c.args.limits c.args.parser.now.hand.bare c.in-Unnamed.variables)

pub returns-in-Values : goal.returns-in-Values
returns-in-Values c = either-so c.args.limits c.args.parser.now.hand.bare _ _ _ _ _ _ _ _ c.either-in-Values.result c.in-Values.is c.either-in-Values.ensures c.is_at_value.ensures (values-productions c.args.limits c.args.parser.now.hand.bare c.in-Values.variables c.in-Values.levels)

pub returns-in-ObjectFields : goal.returns-in-ObjectFields
returns-in-ObjectFields c = either-so c.args.limits c.args.parser.now.hand.bare _ _ _ _ _ _ _ _ c.either-in-ObjectFields.result c.in-ObjectFields.is c.either-in-ObjectFields.ensures c.is_at_name-in-ObjectFields.ensures (fields-productions c.args.limits c.args.parser.now.hand.bare c.in-ObjectFields.variables c.in-ObjectFields.levels)

pub returns-in-Arguments : goal.returns-in-Arguments
returns-in-Arguments c = either-so c.args.limits c.args.parser.now.hand.bare _ _ _ _ _ _ _ _ c.either-in-Arguments.result c.in-Arguments.is c.either-in-Arguments.ensures c.is_at_name-in-Arguments.ensures (arguments-productions c.args.limits c.args.parser.now.hand.bare c.in-Arguments.variables)

pub returns-in-MaybeArguments : goal.returns-in-MaybeArguments
returns-in-MaybeArguments c = either-so c.args.limits c.args.parser.now.hand.bare _ _ _ _ _ _ _ _ c.either-in-MaybeArguments.result c.in-MaybeArguments.is c.either-in-MaybeArguments.ensures c.is_at_punct-in-MaybeArguments.ensures (maybe_arguments-productions c.args.limits c.args.parser.now.hand.bare c.in-MaybeArguments.variables)

pub returns-in-Directives : goal.returns-in-Directives
returns-in-Directives c = either-so c.args.limits c.args.parser.now.hand.bare _ _ _ _ _ _ _ _ c.either-in-Directives.result c.in-Directives.is c.either-in-Directives.ensures c.is_at_punct-in-Directives.ensures (directives-productions c.args.limits c.args.parser.now.hand.bare c.in-Directives.variables)

pub returns-in-MaybeDefault : goal.returns-in-MaybeDefault
returns-in-MaybeDefault c = either-so c.args.limits c.args.parser.now.hand.bare _ _ _ _ _ _ _ _ c.either-in-MaybeDefault.result c.in-MaybeDefault.is c.either-in-MaybeDefault.ensures c.is_at_punct-in-MaybeDefault.ensures (default-productions c.args.limits c.args.parser.now.hand.bare)

pub returns-in-OwnValue : goal.returns-in-OwnValue
returns-in-OwnValue c = put-so c.args.limits c.args.parser.now.hand.bare c.args.left.now.items c.put.new.left.items _ _ _ c.put.result c.in-OwnValue.is c.put.ensures (own_value-productions c.args.limits c.args.parser.now.hand.bare c.in-OwnValue.variables c.values.result c.values.ensures)

pub returns-in-OwnType : goal.returns-in-OwnType
returns-in-OwnType c = put-so c.args.limits c.args.parser.now.hand.bare c.args.left.now.items c.put-in-OwnType.new.left.items _ _ _ c.put-in-OwnType.result c.in-OwnType.is c.put-in-OwnType.ensures (own_type-productions c.args.limits c.args.parser.now.hand.bare c.types.result c.types.ensures)

pub returns-in-OwnSet : goal.returns-in-OwnSet
returns-in-OwnSet c = put-so c.args.limits c.args.parser.now.hand.bare c.args.left.now.items c.put-in-OwnSet.new.left.items _ _ _ c.put-in-OwnSet.result c.in-OwnSet.is c.put-in-OwnSet.ensures (own_set-productions c.args.limits c.args.parser.now.hand.bare c.selections.result c.selections.ensures)
