-- A text after the changes of a notification, one after another.
-- Source: Language Server Protocol 3.17, "DidChangeTextDocumentParams": each change speaks of the text as the one before it left it,
-- and one without a range is the whole text.
use Rattle.std.specs.Prelude.{◌≡◌, ℕ, List, [], ◌∷◌, Option, None, Some}
use Rattle.std.specs.Str.{chars}
use Rattle.text_edits.specs.declared.Encoding.{Encoding}
use Rattle.text_edits.specs.declared.Range.{Range}
use Rattle.text_edits.specs.Edits.{replaced}
use Rattle.text_edits.specs.Positions.{offset_of}
use Rattle.graphql_server.specs.declared.texts.Change.{Change}

-- the text after `new` is put in the place of a range, or of all of it
abbrev pub IsReplaced : Encoding → List ℕ → Option Range → List ℕ → List ℕ → Type 0
IsReplaced encoding text None new after = after ≡ new
IsReplaced encoding text (Some range) new after =
    chars after ≡ replaced (chars text) (offset_of encoding text range.start) (offset_of encoding text range.end) (chars new)

-- the text after a change
abbrev pub IsChanged : Encoding → List ℕ → Change → List ℕ → Type 0
IsChanged encoding text change after = IsReplaced encoding text change.range change.text.now after

-- the text after changes, from the first on
abbrev pub AreChanged : Encoding → List ℕ → List Change → List ℕ → Type 0
AreChanged encoding text [] after = after ≡ text
AreChanged encoding text (change ∷ changes) after =
    (between : List ℕ) × IsChanged encoding text change between × AreChanged encoding between changes after
