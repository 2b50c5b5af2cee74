-- Definitions and extensions of schemas, and their places (GraphQL October 2021, section 3.3).
use Rattle.std.specs.Prelude.{Bool, true, false, None, List}
use Rattle.graphql_tokens.specs.declared.pos.Pos.{Pos}
use Rattle.graphql_tokens.specs.declared.pos.Positioned.{Positioned}
use Rattle.graphql_tokens.specs.tokens.Edition.{Edition, Former, Current}
use Rattle.graphql_tokens.specs.tokens.Token.{Token}
use Rattle.graphql_syntax.specs.declared.types.OperationType.{OperationType}
use Rattle.graphql_syntax.specs.trees.Parts.{Name, Directives}
use Rattle.graphql_trees.specs.trees.Schema.{Description}
use Rattle.graphql_grammar.specs.grammar.Arguments.{directives}
use Rattle.graphql_grammar.specs.grammar.Operations.{operation_type}
use Rattle.graphql_reading.specs.grammar.Fronts.{Grammar}
use Rattle.graphql_reading.specs.grammar.Places.{at, name_of}
use Rattle.graphql_reading.specs.grammar.Relations.{Rel, one, never, ◌⨾◌, mapped, plus, opt, between}
use Rattle.graphql_reading.specs.grammar.Tests.{punct, keyword, any_name}
use Rattle.graphql_schemas.specs.grammar.Descriptions.{Text, a_description, described}
use Rattle.graphql_schemas.specs.grammar.Types.{some_parts}

-- ---- roots

-- the kind of operations that begin at a type, where the keyword stands, and the type's name
pub record Root : Type 0 where
  pub kind : OperationType
  pub pos : Pos
  pub name : Positioned Name

abbrev pub root_of : (Token × OperationType) × (Token × Token) → Root
root_of ((word, kind), (colon, name)) = record { kind = kind; pos = word.pos; name = name_of name }

-- RootOperationTypeDefinition : OperationType ':' Name
abbrev pub a_root : Rel Root
a_root = mapped root_of (operation_type ⨾ one (punct ":") ⨾ one any_name)

-- Roots : '{' RootOperationTypeDefinition+ '}'
abbrev pub roots : Rel (List Root)
roots = between (punct "{") (plus a_root) (punct "}")

-- ---- definitions and extensions

-- a definition or an extension of a schema, with its roots in source order
pub record Schema : Type 0 where
  pub description : Description
  pub extend : Bool
  pub directives : Directives
  pub roots : List Root

-- by the former edition a schema has no description
abbrev pub schema_description : Edition → Rel Text
schema_description Former = never
schema_description Current = a_description Current

abbrev pub schema_of : Description × (Token × (Directives × List Root)) → Positioned Schema
schema_of (description, (word, (directives, roots))) =
    described description word (record { description = description; extend = false; directives = directives; roots = roots })

-- SchemaDefinition : Description? 'schema' Directives[Const]? Roots
abbrev pub a_schema : Edition → Grammar (Positioned Schema)
a_schema edition limits = mapped schema_of (opt (schema_description edition) ⨾ one (keyword "schema") ⨾ directives edition false limits.values ⨾ roots)

abbrev pub schema_extension_of : Token × (Token × (Directives × List Root)) → Positioned Schema
schema_extension_of (extend, (word, (directives, roots))) =
    at extend (record { description = None; extend = true; directives = directives; roots = roots })

-- SchemaExtension : 'extend' 'schema' Directives[Const] Roots? | 'extend' 'schema' Roots
-- It stands at 'extend'.
abbrev pub a_schema_extension : Edition → Grammar (Positioned Schema)
a_schema_extension edition limits = mapped schema_extension_of (one (keyword "extend") ⨾ one (keyword "schema") ⨾ some_parts edition limits roots)
