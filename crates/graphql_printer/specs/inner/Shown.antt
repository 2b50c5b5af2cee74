-- What is printed of values, types, arguments and directives, as bare tokens.
-- Source: GraphQL October 2021, sections 2.6 (Arguments) and 2.9 to 2.12 (Input Values to Directives). That strings are printed
-- between single quotes is this project's choice.
use Rattle.std.specs.Prelude.{ℕ, Bool, true, false, Option, Some, None, List, [], ◌∷◌, ◌++◌, codes, flat_map, map}
use Prim.Native.String.{String as Word}
use Rattle.graphql_tokens.specs.declared.lexer.TokenKind.{TokenKind}
use Rattle.graphql_tokens.specs.declared.lexer.TokenKind.TheVariants.{Punct, Name, Number, String, Block}
use Rattle.graphql_tokens.specs.declared.pos.Positioned.{Positioned}
use Rattle.graphql_tokens.specs.tokens.Alike.{value_of_block}
use Rattle.graphql_tokens.specs.tokens.Token.{Bare}
use Rattle.graphql_syntax.specs.trees.Parts.{Argument, Arguments, Directive, Directives, placed}
use Rattle.graphql_syntax.specs.trees.TypeTree.{TypeTree, named, list as list_type}
use Rattle.graphql_syntax.specs.trees.ValueText.{word_of}
use Rattle.graphql_syntax.specs.trees.ValueTree.{Tree, Trees, Fields, variable, null, number, string, boolean, enumeration, list, object, no_trees, more_trees, no_fields, field}
use Rattle.graphql_printer.specs.inner.Strings.{string_text}

-- ---- tokens

abbrev pub sign : Word → Bare
sign text = record { kind = Punct; spelling = codes text }

abbrev pub word : List ℕ → Bare
word name = record { kind = Name; spelling = name }

abbrev pub literal : List ℕ → Bare
literal digits = record { kind = Number; spelling = digits }

abbrev pub quoted : List ℕ → Bare
quoted text = record { kind = String; spelling = string_text text }

-- the token, or of a block string its value in place of its spelling, so that the same is made of those that have one value
abbrev pub by_value_of : TokenKind → List ℕ → List ℕ
by_value_of Block spelling = value_of_block spelling
by_value_of other spelling = spelling

abbrev pub by_value : Bare → Bare
by_value b = record { kind = b.kind; spelling = by_value_of b.kind b.spelling }

abbrev pub by_values : List Bare → List Bare
by_values bs = map by_value bs

-- ---- parts

-- what is shown of a node, whatever its place
abbrev pub shown_node : {A : Type 0} → (A → List Bare) → Positioned A → List Bare
shown_node shown p = shown p.node

-- a part, where it is there
abbrev pub shown_part : {A : Type 0} → (A → List Bare) → Option A → List Bare
shown_part shown None = []
shown_part shown (Some part) = shown part

-- a list between two signs, where it isn't empty
abbrev pub shown_between : {A : Type 0} → Word → Word → (A → List Bare) → List A → List Bare
shown_between opening closing shown [] = []
shown_between opening closing shown (a ∷ others) = sign opening ∷ (flat_map shown (a ∷ others) ++ sign closing ∷ [])

-- a list with a sign between each two
abbrev pub shown_separated : {A : Type 0} → Word → (A → List Bare) → List A → List Bare
shown_separated between shown [] = []
shown_separated between shown (a ∷ others) = shown a ++ flat_map (λ other. sign between ∷ shown other) others

-- ---- values

abbrev mutual
  pub shown_value : Tree → List Bare
  shown_value (variable n) = sign "$" ∷ word n ∷ []
  shown_value null = word (codes "null") ∷ []
  shown_value (number n) = literal n ∷ []
  shown_value (string s) = quoted s ∷ []
  shown_value (boolean b) = word (word_of b) ∷ []
  shown_value (enumeration n) = word n ∷ []
  shown_value (list ts) = sign "[" ∷ (shown_items ts ++ sign "]" ∷ [])
  shown_value (object fs) = sign "{" ∷ (shown_fields fs ++ sign "}" ∷ [])

  pub shown_items : Trees → List Bare
  shown_items no_trees = []
  shown_items (more_trees t ts) = shown_value t ++ shown_items ts

  pub shown_fields : Fields → List Bare
  shown_fields no_fields = []
  shown_fields (field n t fs) = (word n ∷ sign ":" ∷ shown_value t) ++ shown_fields fs

abbrev pub shown_default : Positioned Tree → List Bare
shown_default value = sign "=" ∷ shown_value value.node

-- ---- types

abbrev pub shown_mark : Bool → List Bare
shown_mark true = []
shown_mark false = sign "!" ∷ []

abbrev pub shown_type : TypeTree → List Bare
shown_type (named name nullable) = word name ∷ shown_mark nullable
shown_type (list_type item nullable) = sign "[" ∷ (shown_type item ++ sign "]" ∷ shown_mark nullable)

-- ---- arguments and directives

-- an argument with the tree of its value
abbrev pub argument_by : {V T : Type 0} → (V → T) → Positioned (List ℕ) × Positioned V → Positioned (List ℕ) × Positioned T
argument_by tree argument = (argument.0, placed tree argument.1)

-- of a value that is shown so
abbrev pub shown_argument_by : {T : Type 0} → (T → List Bare) → Positioned (List ℕ) × Positioned T → List Bare
shown_argument_by shown argument = word argument.0.node ∷ sign ":" ∷ shown argument.1.node

abbrev pub shown_argument : Argument → List Bare
shown_argument = shown_argument_by shown_value

abbrev pub shown_arguments_by : {T : Type 0} → (T → List Bare) → List (Positioned (List ℕ) × Positioned T) → List Bare
shown_arguments_by shown arguments = shown_between "(" ")" (shown_argument_by shown) arguments

abbrev pub shown_arguments : Arguments → List Bare
shown_arguments = shown_arguments_by shown_value

abbrev pub shown_directive : Directive → List Bare
shown_directive directive = sign "@" ∷ word directive.name.node ∷ shown_arguments directive.arguments

abbrev pub shown_directives : Directives → List Bare
shown_directives directives = flat_map (shown_node shown_directive) directives
