-- Directives that are constant: in no argument of which a variable stands.
-- Source: GraphQL October 2021, sections 2.12 (Directives) and 2.9 (Input Values), where they are marked `Const`.
use Rattle.std.specs.Prelude.{[], ◌∷◌, Bool, false, ◌||◌}
use Rattle.graphql_syntax.specs.trees.Parts.{Arguments, Directive}
use Rattle.graphql_syntax.specs.trees.ValueTree.{has_variable}

-- whether a variable stands in one of the values, at any depth
abbrev pub arguments_have_variable : Arguments → Bool
arguments_have_variable [] = false
arguments_have_variable (argument ∷ others) = has_variable argument.1.node || arguments_have_variable others

abbrev pub directive_has_variable : Directive → Bool
directive_has_variable d = arguments_have_variable d.arguments
