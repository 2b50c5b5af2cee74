-- A text after a part of it is replaced.
-- Source: Language Server Protocol 3.17, "TextDocumentContentChangeEvent" and "Range". That a range whose end is before its start
-- is empty, at its start, is this project's choice.
use Rattle.std.specs.Prelude.{ℕ, List, ◌++◌, length, drop, max}
use Rattle.text_edits.specs.declared.Encoding.TheVariants.{Utf8}
use Rattle.text_edits.specs.Units.{fitting}

-- the characters of a text before an offset in bytes
abbrev pub before : ℕ → List ℕ → List ℕ
before offset text = fitting Utf8 offset text

-- the characters of a text from an offset in bytes on
abbrev pub from : ℕ → List ℕ → List ℕ
from offset text = drop (length (before offset text)) text

-- the characters of a text where `new` is in the place of those between two offsets in bytes
abbrev pub replaced : List ℕ → ℕ → ℕ → List ℕ → List ℕ
replaced text start end new = before start text ++ (new ++ from (max start end) text)
