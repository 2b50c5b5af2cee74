-- Reading the bodies of types as the code does: the keyword, the name, and the rest by the keyword.
use Rattle.std.specs.Prelude.{Bool, false, cond, Option, Some, None, map, Vec}
use Rattle.std.specs.declared.alloc.Global.{Global}
use Rattle.graphql_tokens.specs.declared.pos.Positioned.{Positioned}
use Rattle.graphql_tokens.specs.tokens.Seen.{seen}
use Rattle.graphql_tokens.specs.tokens.Token.{Bare, Token}
use Rattle.graphql_syntax.specs.declared.types.ConstDirective.{ConstDirective}
use Rattle.graphql_syntax.specs.trees.PartViews.{const_directives_tree}
use Rattle.graphql_syntax.specs.trees.Parts.{Name, placed}
use Rattle.graphql_trees.specs.declared.service.FieldDefinition.{FieldDefinition}
use Rattle.graphql_trees.specs.declared.service.TypeKind.{TypeKind}
use Rattle.graphql_trees.specs.trees.Schema.{object, interface}
use Rattle.graphql_trees.specs.trees.SchemaViews.{field_definition_tree, kind_tree}
use Rattle.graphql_reading.specs.grammar.Limits.{Limits}
use Rattle.graphql_grammar.specs.reading.Arguments.{directives_at}
use Rattle.graphql_reading.specs.grammar.Places.{name_of}
use Rattle.graphql_reading.specs.grammar.Tests.{keyword, any_name}
use Rattle.graphql_reading.specs.reading.Outcome.{Reader, ◌>>=◌, one_at, then_at, mapped_at, choose_at}
use Rattle.graphql_schemas.specs.declared.types.Body as code_body
use Rattle.graphql_schemas.specs.declared.types.Word.{Word}
use Rattle.graphql_schemas.specs.declared.types.Word.TheVariants as words
use Rattle.graphql_schemas.specs.grammar.Types.{Members, Rest, Body}
use Rattle.graphql_schemas.specs.reading.Fields.{given_fields_at}
use Rattle.graphql_schemas.specs.reading.Members.{given_implements_at}
use Rattle.graphql_schemas.specs.reading.Types.{fields_rest_at, scalar_rest_at, union_rest_at, enum_rest_at, input_rest_at}

-- ---- what those of the code stand for

abbrev pub in_members : Vec (Positioned Name) Global × (Vec (Positioned ConstDirective) Global × Vec (Positioned FieldDefinition) Global) → Members
in_members m = (m.0.items, (const_directives_tree m.1.0.items, map (placed field_definition_tree) m.1.1.items))

abbrev pub in_rest : Vec (Positioned ConstDirective) Global × TypeKind → Rest
in_rest r = (const_directives_tree r.0.items, kind_tree r.1)

abbrev pub in_body : code_body.Body → Body
in_body b = (seen b.word, (b.name, (const_directives_tree b.directives.items, kind_tree b.kind)))

-- ---- by the keyword

-- the kind of type whose keyword a token is
abbrev pub word_of : Bare → Option Word
word_of t =
    cond (keyword "scalar" t) (Some words.Scalar)
    (cond (keyword "type" t) (Some words.Type)
    (cond (keyword "interface" t) (Some words.Interface)
    (cond (keyword "union" t) (Some words.Union)
    (cond (keyword "enum" t) (Some words.Enum)
    (cond (keyword "input" t) (Some words.Input) None)))))

abbrev pub worded : Word → Token → Token × Word
worded word t = (t, word)

abbrev pub word_at : Reader (Token × Word)
word_at =
    choose_at (keyword "scalar") (mapped_at (worded words.Scalar) (one_at (keyword "scalar")))
    (choose_at (keyword "type") (mapped_at (worded words.Type) (one_at (keyword "type")))
    (choose_at (keyword "interface") (mapped_at (worded words.Interface) (one_at (keyword "interface")))
    (choose_at (keyword "union") (mapped_at (worded words.Union) (one_at (keyword "union")))
    (choose_at (keyword "enum") (mapped_at (worded words.Enum) (one_at (keyword "enum")))
    (mapped_at (worded words.Input) (one_at (keyword "input")))))))

abbrev pub rest_at : Bool → Limits → Word → Reader Rest
rest_at extend limits words.Scalar = scalar_rest_at extend limits
rest_at extend limits words.Type = fields_rest_at object extend limits
rest_at extend limits words.Interface = fields_rest_at interface extend limits
rest_at extend limits words.Union = union_rest_at extend limits
rest_at extend limits words.Enum = enum_rest_at extend limits
rest_at extend limits words.Input = input_rest_at extend limits

-- a keyword, a name, and the rest
abbrev pub after_word_at : Bool → Limits → Token × Word → Reader Body
after_word_at extend limits (token, word) = mapped_at (λ x. (token, (name_of x.0, x.1))) (then_at (one_at any_name) (rest_at extend limits word))

abbrev pub body_by_word_at : Bool → Limits → Reader Body
body_by_word_at extend limits ts = word_at ts >>= after_word_at extend limits

-- ---- the parts of object types and interfaces, each a list that may be empty

abbrev pub members_by_part_at : Limits → Reader Members
members_by_part_at limits = then_at given_implements_at (then_at (directives_at false limits.values) (given_fields_at limits))
