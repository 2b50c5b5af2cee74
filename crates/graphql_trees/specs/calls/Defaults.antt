-- What the accessors of a request's tree give.
-- Source: GraphQL October 2021, sections 2.7 (Field Alias) for the response key and 2.10 (Variables) for a default.
-- That a variable which may be null has null as its default is this project's choice.
use Rattle.std.specs.Prelude.{ℕ, List, Bool, true, false, Option, Some, None}
use Rattle.graphql_tokens.specs.declared.pos.Positioned.{Positioned}
use Rattle.graphql_syntax.specs.declared.value.ConstValue.{ConstValue, Null}
use Rattle.graphql_trees.specs.declared.executable.VariableDefinition.{VariableDefinition}
use Rattle.graphql_trees.specs.declared.executable.Field.{Field, out-Field}

-- null, where it is a value of the type
abbrev pub null_where : Bool → Option ConstValue
null_where true = Some Null
null_where false = None

abbrev pub default_or_null : Option (Positioned ConstValue) → Bool → Option ConstValue
default_or_null (Some v) nullable = Some v.node
default_or_null None nullable = null_where nullable

-- the value of a variable where a request gives none
abbrev pub default_of : VariableDefinition → Option ConstValue
default_of d = default_or_null d.default_value d.var_type.node.nullable

abbrev pub alias_or_name : Option (Positioned (List ℕ)) → Positioned (List ℕ) → Positioned (List ℕ)
alias_or_name (Some alias) name = alias
alias_or_name None name = name

-- the name of a field's value in a response
abbrev pub response_key : Field → Positioned (List ℕ)
response_key f = alias_or_name (out-Field f).alias (out-Field f).name
