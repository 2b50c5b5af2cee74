use Rattle.graphql_report.proofs.Apart.{put-always, either-always}
use Rattle.graphql_report.proofs.SchemaProductions.{schema_definitions-productions, schema_definition-productions, extended-productions, root_parts-productions, undescribed-productions, no_schema-productions, repeatable-productions, locations-productions, maybe_roots-productions, roots-productions, root-productions, description-productions}
use Rattle.graphql_report.proofs.productions.take_schema_apart.Goals as goal

pub returns-in-SchemaDefinitions : goal.returns-in-SchemaDefinitions
returns-in-SchemaDefinitions c = either-always c.args.parser.now.hand.bare _ _ _ _ _ _ _ _ c.either.result c.in-SchemaDefinitions.is c.either.ensures c.is_at_definition.ensures (λ limits. schema_definitions-productions limits c.args.parser.now.hand.bare)

pub returns-in-SchemaDefinition : goal.returns-in-SchemaDefinition
returns-in-SchemaDefinition c = either-always c.args.parser.now.hand.bare _ _ _ _ _ _ _ _ c.either-in-SchemaDefinition.result c.in-SchemaDefinition.is c.either-in-SchemaDefinition.ensures c.is_at_keyword.ensures (λ limits. schema_definition-productions limits c.args.parser.now.hand.bare)

pub returns-in-Extended : goal.returns-in-Extended
returns-in-Extended c = either-always c.args.parser.now.hand.bare _ _ _ _ _ _ _ _ c.either-in-Extended.result c.in-Extended.is c.either-in-Extended.ensures c.is_at_keyword-in-Extended.ensures (λ limits. extended-productions limits c.args.parser.now.hand.bare)

pub returns-in-RootParts : goal.returns-in-RootParts
returns-in-RootParts c = either-always c.args.parser.now.hand.bare _ _ _ _ _ _ _ _ c.either-in-RootParts.result c.in-RootParts.is c.either-in-RootParts.ensures c.is_at_part.ensures (λ limits. root_parts-productions limits c.args.parser.now.hand.bare)

pub returns-in-Undescribed : goal.returns-in-Undescribed
returns-in-Undescribed c = either-always c.args.parser.now.hand.bare _ _ _ _ _ _ _ _ c.either-in-Undescribed.result c.in-Undescribed.is c.either-in-Undescribed.ensures c.is_at_keyword-in-Undescribed.ensures (λ limits. undescribed-productions limits c.args.parser.now.hand.bare)

pub returns-in-NoSchema : goal.returns-in-NoSchema
returns-in-NoSchema c = either-always c.args.parser.now.hand.bare _ _ _ _ _ _ _ _ c.either-in-NoSchema.result c.in-NoSchema.is c.either-in-NoSchema.ensures c.is_at_keyword-in-NoSchema.ensures (λ limits. no_schema-productions limits c.args.parser.now.hand.bare)

pub returns-in-MaybeRepeatable : goal.returns-in-MaybeRepeatable
returns-in-MaybeRepeatable c = either-always c.args.parser.now.hand.bare _ _ _ _ _ _ _ _ c.either-in-MaybeRepeatable.result c.in-MaybeRepeatable.is c.either-in-MaybeRepeatable.ensures c.is_at_keyword-in-MaybeRepeatable.ensures (λ limits. repeatable-productions limits c.args.parser.now.hand.bare)

pub returns-in-Locations : goal.returns-in-Locations
returns-in-Locations c = either-always c.args.parser.now.hand.bare _ _ _ _ _ _ _ _ c.either-in-Locations.result c.in-Locations.is c.either-in-Locations.ensures c.is_at_punct.ensures (λ limits. locations-productions limits c.args.parser.now.hand.bare)

pub returns-in-MaybeRoots : goal.returns-in-MaybeRoots
returns-in-MaybeRoots c = either-always c.args.parser.now.hand.bare _ _ _ _ _ _ _ _ c.either-in-MaybeRoots.result c.in-MaybeRoots.is c.either-in-MaybeRoots.ensures c.is_at_punct-in-MaybeRoots.ensures (λ limits. maybe_roots-productions limits c.args.parser.now.hand.bare)

pub returns-in-Roots : goal.returns-in-Roots
returns-in-Roots c = either-always c.args.parser.now.hand.bare _ _ _ _ _ _ _ _ c.either-in-Roots.result c.in-Roots.is c.either-in-Roots.ensures c.is_at_operation_type.ensures (λ limits. roots-productions limits c.args.parser.now.hand.bare)

pub returns-in-Root : goal.returns-in-Root
returns-in-Root c = put-always c.args.parser.now.hand.bare c.args.left.now.items c.put.new.left.items _ _ _ c.put.result c.in-Root.is c.put.ensures (λ limits. root-productions limits c.args.parser.now.hand.bare)

pub returns-in-MaybeDescription : goal.returns-in-MaybeDescription
returns-in-MaybeDescription c = either-always c.args.parser.now.hand.bare _ _ _ _ _ _ _ _ c.either-in-MaybeDescription.result c.in-MaybeDescription.is c.either-in-MaybeDescription.ensures c.is_at_description.ensures (λ limits. description-productions limits c.args.parser.now.hand.bare)
