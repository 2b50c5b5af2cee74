-- What the definitions of a schema file take once more where its document is made.
use denote.RattleType.{RattleType}
use Rattle.graphql_trees.specs.contracts.service.TypeSystemDefinition as definition

-- the type of a definition as it stands in a document
abbrev pub definition_row : RattleType
definition_row = definition.the_row
