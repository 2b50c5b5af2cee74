-- The bytes of numbers, choices, texts and places, of nodes, of parts that may be missing, and of lists.
-- Source: this project's choice.
use Rattle.std.specs.Prelude.{ℕ, ◌/◌, ◌^◌, List, [], ◌∷◌, ◌++◌, length, Bool, true, false, Option, Some, None}
use Rattle.std.specs.Int.{bytes_low_first}
use Rattle.graphql_parser.specs.types.Pos.{Pos}
use Rattle.graphql_parser.specs.types.Positioned.{Positioned}

abbrev pub Bytes : Type 0
Bytes = List ℕ

-- A number: eight bytes, the lowest first. The last is what is left of it above the others, a byte too below 2 ^ 64, as
-- each number in memory is.
unfoldable pub number_bytes : ℕ → Bytes
number_bytes number = bytes_low_first 0 7 number ++ number / 256 ^ 7 ∷ []

-- a choice: one byte
abbrev pub choice : ℕ → Bytes
choice number = number ∷ []

-- whether something is so
abbrev pub flag : Bool → Bytes
flag false = choice 0
flag true = choice 1

-- a text, by its bytes in UTF-8: how many they are, and these
abbrev pub text_bytes : Bytes → Bytes
text_bytes text = number_bytes (length text) ++ text

-- a place: its line and its column
abbrev pub place_bytes : Pos → Bytes
place_bytes pos = number_bytes pos.line ++ number_bytes pos.column

-- a node: its place, and what it is
abbrev pub node_bytes : {A : Type 0} → (A → Bytes) → Positioned A → Bytes
node_bytes bytes part = place_bytes part.pos ++ bytes part.node

-- a name or another text, at its place
abbrev pub word_bytes : Positioned Bytes → Bytes
word_bytes word = node_bytes text_bytes word

-- a part that may be missing: whether it is there, and then the part
abbrev pub optional_bytes : {A : Type 0} → (A → Bytes) → Option A → Bytes
optional_bytes bytes None = flag false
optional_bytes bytes (Some part) = flag true ++ bytes part

-- parts, one after another
abbrev pub each_bytes : {A : Type 0} → (A → Bytes) → List A → Bytes
each_bytes bytes [] = []
each_bytes bytes (part ∷ parts) = bytes part ++ each_bytes bytes parts

-- a list: how many items it has, and these
abbrev pub list_bytes : {A : Type 0} → (A → Bytes) → List A → Bytes
list_bytes bytes items = number_bytes (length items) ++ each_bytes bytes items
