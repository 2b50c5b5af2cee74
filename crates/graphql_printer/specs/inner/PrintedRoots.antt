-- The roots of a schema, while they are put in order.
-- Source: this project's choice.
use Rattle.std.specs.Prelude.{List, [], ◌∷◌, Option, Some, None, is_some, Bool, false, not, ◌&&◌}
use Rattle.graphql_tokens.specs.declared.pos.Positioned.{Positioned}
use Rattle.graphql_tokens.specs.tokens.Token.{Bare}
use Rattle.graphql_syntax.specs.declared.types.OperationType.{OperationType}
use Rattle.graphql_syntax.specs.trees.Parts.{Name}
use Rattle.graphql_printer.specs.inner.Places.{stands_before}
use Rattle.graphql_printer.specs.inner.ShownSchemas.{Root, shown_root}

-- a root that may be missing, and others
abbrev pub and_then : OperationType → Option (Positioned Name) → List Root → List Root
and_then kind None roots = roots
and_then kind (Some name) roots = (kind, name) ∷ roots

-- none of the three is there
abbrev pub are_none : {A : Type 0} → Option A → Option A → Option A → Bool
are_none a b c = not (is_some a) && (not (is_some b) && not (is_some c))

-- both are there, and the place of the first is smaller
abbrev pub goes_before : Option (Positioned Name) → Option (Positioned Name) → Bool
goes_before (Some a) (Some b) = stands_before a.pos b.pos
goes_before (Some a) None = false
goes_before None b = false

-- a root that may be missing
abbrev pub shown_maybe_root : OperationType → Option (Positioned Name) → List Bare
shown_maybe_root kind None = []
shown_maybe_root kind (Some name) = shown_root (kind, name)
