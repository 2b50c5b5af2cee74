-- What is written of the values of a type: the tree that each stands for, and the bytes of that tree, without its place.
use Rattle.graphql_packed.specs.packed.Bytes.{Bytes}

pub record Form (A : Type 0) : Type 1 where
  pub Tree : Type 0
  pub tree : A → Tree
  pub bytes : Tree → Bytes

abbrev pub form : {A T : Type 0} → (A → T) → (T → Bytes) → Form A
form {T = T} tree bytes = record { Tree = T; tree = tree; bytes = bytes }
