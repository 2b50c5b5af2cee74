-- What a call adds to the tokens that are printed so far.
-- Source: this project's choice.
use Rattle.std.specs.Prelude.{◌≡◌, List, ◌++◌, Result, OnOk}
use Rattle.graphql_tokens.specs.tokens.Token.{Bare}
use Rattle.graphql_printer.specs.inner.Shown.{by_values}

-- where a call goes well, it adds these tokens
pub record Prints {E : Type 0} (result : Result (Unit {0}) E) (old new : List Bare) (added : List Bare) : Type 0 where
  pub ok : OnOk result (new ≡ old ++ by_values added)

-- what is printed of the values of a type: the tree that each stands for, and what is shown of that tree
pub record Form (A : Type 0) : Type 1 where
  pub Tree : Type 0
  pub tree : A → Tree
  pub shown : Tree → List Bare

abbrev pub form : {A T : Type 0} → (A → T) → (T → List Bare) → Form A
form {T = T} tree shown = record { Tree = T; tree = tree; shown = shown }
