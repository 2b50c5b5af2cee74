-- What holds of each accepted schema file, whatever its text (GraphQL October 2021, sections 3.3.1, 3.3.2 and 5.6.3).
use Rattle.std.specs.Prelude.{◌≡◌, true, false, IsSome, None}
use Rattle.std.specs.List.{AllByRecursion}
use Rattle.graphql_tokens.specs.declared.pos.Positioned.{Positioned}
use Rattle.graphql_trees.specs.trees.Schema.{InputValueDefinition, InputValues, FieldDefinition, EnumValueDefinition, TypeKind, scalar, object, interface, union, enumeration, input_object, SchemaDefinition, Definition, schema, type_def, directive, Document}
use Rattle.graphql_grammar.specs.grammar.Distinct.{IsDistinctDefault, AreDistinctDirectives}

-- a definition names the type at which queries begin, and an extension has no description
pub record IsLawfulSchema (s : SchemaDefinition) : Type 0 where
  pub query : s.extend ≡ false → IsSome s.query
  pub undescribed : s.extend ≡ true → s.description ≡ None

abbrev pub IsLawfulDefinition : Definition → Type 0
IsLawfulDefinition (schema s) = IsLawfulSchema s.node
IsLawfulDefinition (type_def t) = t.node.extend ≡ true → t.node.description ≡ None
IsLawfulDefinition (directive d) = Unit {0}

-- ---- what stands in a schema file holds no object with two fields of one name

abbrev pub IsDistinctInputValue : Positioned InputValueDefinition → Type 0
IsDistinctInputValue v = IsDistinctDefault v.node.default_value × AreDistinctDirectives v.node.directives

abbrev pub AreDistinctInputValues : InputValues → Type 0
AreDistinctInputValues values = AllByRecursion IsDistinctInputValue values

abbrev pub IsDistinctField : Positioned FieldDefinition → Type 0
IsDistinctField f = AreDistinctInputValues f.node.arguments × AreDistinctDirectives f.node.directives

abbrev pub IsDistinctEnumValue : Positioned EnumValueDefinition → Type 0
IsDistinctEnumValue v = AreDistinctDirectives v.node.directives

abbrev pub IsDistinctKind : TypeKind → Type 0
IsDistinctKind scalar = Unit {0}
IsDistinctKind (object o) = AllByRecursion IsDistinctField o.fields
IsDistinctKind (interface i) = AllByRecursion IsDistinctField i.fields
IsDistinctKind (union types) = Unit {0}
IsDistinctKind (enumeration values) = AllByRecursion IsDistinctEnumValue values
IsDistinctKind (input_object fields) = AreDistinctInputValues fields

abbrev pub HasDistinctObjects : Definition → Type 0
HasDistinctObjects (schema s) = AreDistinctDirectives s.node.directives
HasDistinctObjects (type_def t) = AreDistinctDirectives t.node.directives × IsDistinctKind t.node.kind
HasDistinctObjects (directive d) = AreDistinctInputValues d.node.arguments

-- ---- the law

-- Each definition and each extension is lawful. No object has two fields of one name.
pub record IsLawful (document : Document) : Type 0 where
  pub definitions : AllByRecursion IsLawfulDefinition document
  pub objects : AllByRecursion HasDistinctObjects document
