-- What stands for the line feed, the quotes or the backslash at the front of a text.
-- Source: this project's choice.
use Rattle.std.specs.Prelude.{◌≡◌, ℕ, ◌<◌, Bool, true, ◌||◌, ◌==◌, List, ◌++◌, length, slice_index}
use Rattle.std.specs.Str.{byte, chars, encode_utf8_all, IsUtf8}
use Rattle.graphql_layout.specs.declared.line_ends.LineBreak.{LineBreak}
use Rattle.graphql_layout.specs.texts.Blocks.{body}
use Rattle.graphql_layout.specs.texts.Shortened.{is_open}

abbrev pub is_special : ℕ → Bool
is_special c = c == byte "\n" || c == byte "\"" || c == byte "\\"

-- one of them is at the front
pub record BeginsWithMark (text : List ℕ) : Type 0 where
  pub some : 0 < length text
  pub special : is_special (slice_index text 0) ≡ true

-- What was written of the text before the rest; and whether that is open, if nothing more comes.
pub record IsMarked (between : LineBreak) (text rest : List ℕ) (stays : Bool) (old new : List ℕ) : Type 0 where
  pub written : new ++ encode_utf8_all (body between 0 (chars rest)) ≡ old ++ encode_utf8_all (body between 0 (chars text))
  pub still : (before : Bool) → is_open 0 before (chars text) ≡ is_open 0 stays (chars rest)
  pub shorter : length rest < length text
  pub utf8 : IsUtf8 rest
