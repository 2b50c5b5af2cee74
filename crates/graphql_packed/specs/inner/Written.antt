-- What a call adds to the bytes that are written so far.
use Rattle.std.specs.Prelude.{◌≡◌, ◌++◌, Result, OnOk, Option, option_map}
use Rattle.std.specs.Borrow.{Bor}
use Rattle.graphql_parser.specs.trees.Parts.{Name, placed}
use Rattle.graphql_parser.specs.trees.TypeTree.{base_tree}
use Rattle.graphql_parser.specs.types.BaseType.{BaseType, Named, List'}
use Rattle.graphql_parser.specs.types.Positioned.{Positioned}
use Rattle.graphql_packed.specs.packed.Bytes.{Bytes, choice, text_bytes}
use Rattle.graphql_packed.specs.packed.Values.{type_bytes}

-- where a call goes well, it adds these bytes
pub record Adds {E : Type 0} (result : Result (Unit {0}) E) (old new added : Bytes) : Type 0 where
  pub ok : OnOk result (new ≡ old ++ added)

-- a name that is lent, where there is one
abbrev pub lent_name : Option (Bor Name) → Option Name
lent_name name = option_map (λ n. n.now) name

-- an argument, over the tree of its value
abbrev pub argument_tree : {V T : Type 0} → (V → T) → Positioned Name × Positioned V → Positioned Name × Positioned T
argument_tree tree argument = (argument.0, placed tree argument.1)

-- a type without its mark
abbrev pub base_bytes : BaseType → Bytes
base_bytes (Named name) = choice 0 ++ text_bytes name
base_bytes (List' p base inner) = choice 1 ++ type_bytes (base_tree base inner)
