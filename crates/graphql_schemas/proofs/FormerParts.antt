-- The parts of definitions by the former grammar are parts by the current one, with the same trees.
use Rattle.std.proofs.Common.{false}
use Rattle.graphql_tokens.specs.tokens.Edition.{Former, Current}
use Rattle.graphql_grammar.specs.grammar.Types.{type_reference}
use Rattle.graphql_grammar.specs.grammar.Values.{BlockStands}
use Rattle.graphql_grammar.proofs.Former.{string-stands, includes-directives, includes-default}
use Rattle.graphql_reading.specs.grammar.Limits.{Limits}
use Rattle.graphql_reading.specs.grammar.Relations.{one, meaning, mapped}
use Rattle.graphql_reading.specs.grammar.Tests.{punct, any_name, any_string, any_block}
use Rattle.graphql_reading.proofs.Includes.{Includes, includes-same, includes-meaning, includes-then, includes-either, includes-mapped, includes-opt, includes-plus, includes-between}
use Rattle.graphql_schemas.specs.grammar.Descriptions.{text_of, a_description}
use Rattle.graphql_schemas.specs.grammar.Fields.{a_field_definition, fields}
use Rattle.graphql_schemas.specs.grammar.InputValues.{an_input_value, arguments_definition, input_fields}
use Rattle.graphql_schemas.specs.grammar.Members.{enum_name, an_enum_value, enum_values}

-- ---- descriptions

pub includes-description : Includes (a_description Former) (a_description Current)
includes-description = includes-either (includes-mapped (includes-meaning any_string string-stands)) (includes-same {p = mapped text_of (meaning any_block BlockStands)})

-- ---- input values

pub includes-input_value : (c : Limits) → Includes (an_input_value Former c) (an_input_value Current c)
includes-input_value c =
    includes-mapped (includes-then (includes-opt includes-description)
    (includes-then (includes-same {p = one any_name})
    (includes-then (includes-same {p = one (punct ":")})
    (includes-then (includes-same {p = type_reference c.types})
    (includes-then (includes-opt (includes-default c.values)) (includes-directives false c.values))))))

pub includes-arguments_definition : (c : Limits) → Includes (arguments_definition Former c) (arguments_definition Current c)
includes-arguments_definition c = includes-between (punct "(") (punct ")") (includes-plus (includes-input_value c))

pub includes-input_fields : (c : Limits) → Includes (input_fields Former c) (input_fields Current c)
includes-input_fields c = includes-between (punct "{") (punct "}") (includes-plus (includes-input_value c))

-- ---- fields

pub includes-field_definition : (c : Limits) → Includes (a_field_definition Former c) (a_field_definition Current c)
includes-field_definition c =
    includes-mapped (includes-then (includes-opt includes-description)
    (includes-then (includes-same {p = one any_name})
    (includes-then (includes-opt (includes-arguments_definition c))
    (includes-then (includes-same {p = one (punct ":")})
    (includes-then (includes-same {p = type_reference c.types}) (includes-directives false c.values))))))

pub includes-fields : (c : Limits) → Includes (fields Former c) (fields Current c)
includes-fields c = includes-between (punct "{") (punct "}") (includes-plus (includes-field_definition c))

-- ---- values of enums

pub includes-enum_value : (c : Limits) → Includes (an_enum_value Former c) (an_enum_value Current c)
includes-enum_value c = includes-mapped (includes-then (includes-opt includes-description) (includes-then (includes-same {p = one enum_name}) (includes-directives false c.values)))

pub includes-enum_values : (c : Limits) → Includes (enum_values Former c) (enum_values Current c)
includes-enum_values c = includes-between (punct "{") (punct "}") (includes-plus (includes-enum_value c))
