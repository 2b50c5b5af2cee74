-- What arguments in the code stand for, whatever their values are.
use Rattle.graphql_tokens.specs.declared.pos.Positioned.{Positioned}
use Rattle.graphql_syntax.specs.trees.Parts as trees
use Rattle.graphql_syntax.specs.trees.Parts.{Name, placed}
use Rattle.graphql_syntax.specs.trees.ValueTree.{Tree}

-- a name and its value, where each value stands for a tree
abbrev pub in_argument : {V : Type 0} → (V → Tree) → Positioned Name × Positioned V → trees.Argument
in_argument tree argument = (argument.0, placed tree argument.1)
