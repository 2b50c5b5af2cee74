-- What a position calculator shows. This project's choice: GraphQL October 2021 says nothing of how places are found.
use Rattle.std.specs.Prelude.{ℕ, List}

pub record Calculator : Type 0 where
  -- the bytes of its text, in UTF-8
  pub text : List ℕ
  -- the byte offset up to which it has passed the text: 0 at first, and then the offset of the last step
  pub offset : ℕ
  -- Which walk over the text it is on. Nothing says which number a walk has, so two walks can't be shown to be the
  -- same one: a step that leaves this number as it was has gone on with the walk that the calculator began with. Of a
  -- second walk beside it no clause speaks: that there is none is read off the type, which has this walk as its one field.
  pub walk : ℕ
