-- Interfaces of a type, types of a union and values of an enum, and their places (GraphQL October 2021, sections 3.6,
-- 3.8 and 3.9).
use Rattle.std.specs.Prelude.{false, List, [], ◌∷◌}
use Rattle.graphql_tokens.specs.declared.pos.Positioned.{Positioned}
use Rattle.graphql_tokens.specs.tokens.Edition.{Edition}
use Rattle.graphql_tokens.specs.tokens.Token.{Token}
use Rattle.graphql_syntax.specs.trees.Parts.{Name, Directives}
use Rattle.graphql_trees.specs.trees.Schema.{Description, Names, EnumValueDefinition}
use Rattle.graphql_grammar.specs.grammar.Arguments.{directives}
use Rattle.graphql_reading.specs.grammar.Fronts.{Grammar}
use Rattle.graphql_reading.specs.grammar.Places.{name_of}
use Rattle.graphql_reading.specs.grammar.Relations.{Rel, one, ◌⨾◌, mapped, plus, opt, between, after, separated}
use Rattle.graphql_reading.specs.grammar.Tests.{Test, punct, keyword, any_name, name_but}
use Rattle.graphql_schemas.specs.grammar.Descriptions.{a_description, described}

-- a name with its place
abbrev pub a_name : Rel (Positioned Name)
a_name = mapped name_of (one any_name)

-- ImplementsInterfaces : 'implements' '&'? Name ('&' Name)*
abbrev pub implements : Rel Names
implements = after (keyword "implements") (separated (punct "&") a_name)

-- UnionMemberTypes : '=' '|'? Name ('|' Name)*
abbrev pub members : Rel Names
members = after (punct "=") (separated (punct "|") a_name)

-- ---- values of an enum

-- EnumValue : a Name other than 'true', 'false', 'null'
abbrev pub enum_name : Test
enum_name = name_but ("true" ∷ "false" ∷ "null" ∷ [])

abbrev pub enum_value_of : Description × (Token × Directives) → Positioned EnumValueDefinition
enum_value_of (description, (name, directives)) = described description name (record {
  description = description;
  value = name_of name;
  directives = directives;
})

-- EnumValueDefinition : Description? EnumValue Directives[Const]?
abbrev pub an_enum_value : Edition → Grammar (Positioned EnumValueDefinition)
an_enum_value edition limits = mapped enum_value_of (opt (a_description edition) ⨾ one enum_name ⨾ directives edition false limits.values)

-- EnumValuesDefinition : '{' EnumValueDefinition+ '}'
abbrev pub enum_values : Edition → Grammar (List (Positioned EnumValueDefinition))
enum_values edition limits = between (punct "{") (plus (an_enum_value edition limits)) (punct "}")
