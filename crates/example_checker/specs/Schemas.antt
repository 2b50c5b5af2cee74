-- What the rules for schema files say: which fields there are, and which of them are deprecated without a reason.
use Rattle.std.specs.Prelude.{List, [], Bool, ◌&&◌, not, is_some, codes}
use Rattle.std.specs.List.{list_any}
use Rattle.std.specs.Str.{bytes_eq}
use Rattle.graphql_parser.specs.calls.Named.{argument_named}
use Rattle.graphql_parser.specs.types.Positioned.{Positioned}
use Rattle.graphql_parser.specs.types.ConstDirective.{ConstDirective}
use Rattle.graphql_parser.specs.types.FieldDefinition.{FieldDefinition}
use Rattle.graphql_parser.specs.types.TypeKind.{TypeKind}
use Rattle.graphql_parser.specs.types.TypeKind.TheVariants as kinds
use Rattle.graphql_parser.specs.types.TypeSystemDefinition.{TypeSystemDefinition}
use Rattle.graphql_parser.specs.types.TypeSystemDefinition.TheVariants as definitions

abbrev pub fields_of_kind : TypeKind → List (Positioned FieldDefinition)
fields_of_kind kinds.Scalar = []
fields_of_kind (kinds.Object o) = o.fields.items
fields_of_kind (kinds.Interface i) = i.fields.items
fields_of_kind (kinds.Union u) = []
fields_of_kind (kinds.Enum e) = []
fields_of_kind (kinds.InputObject i) = []

-- the fields of an object type or of an interface
abbrev pub fields_in : TypeSystemDefinition → List (Positioned FieldDefinition)
fields_in (definitions.Schema s) = []
fields_in (definitions.TypeDef t) = fields_of_kind t.node.kind
fields_in (definitions.Directive d) = []

-- it is `@deprecated`, and no argument of it is `reason`
abbrev pub deprecates_silently : ConstDirective → Bool
deprecates_silently d = bytes_eq d.name.node (codes "deprecated") && not (is_some (argument_named (codes "reason") d.arguments.items))

abbrev pub is_silent : List (Positioned ConstDirective) → Bool
is_silent directives = list_any (λ d. deprecates_silently d.node) directives
