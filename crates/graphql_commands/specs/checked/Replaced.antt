-- What is put in the place of files that are laid out anew.
-- Source: this project's choice.
use Rattle.std.specs.Prelude.{◌≡◌, ◌⊎◌, ◌++◌, ℕ, List, Result, Ok, IsOkAnd, codes, string_bytes}
use Rattle.std.specs.declared.alloc.Global.{Global}
use Rattle.std.specs.declared.string.String.{String}
use Rattle.graphql_layout.specs.texts.LaidOut.{IsLaidOut}
use Rattle.graphql_layout.specs.texts.Minified.{IsMinified}
use Rattle.graphql_parser.specs.notation.Limits.{Limits}
use Rattle.graphql_report.specs.declared.fronts.Language.{Language}
use Rattle.graphql_texts.specs.checked.Rewritten.{MeanTheSameAs}
use Rattle.graphql_commands.specs.checked.Files.{IsBlank}
use Rattle.graphql_commands.specs.declared.texts.Unread.{Unread}
use Rattle.graphql_commands.specs.declared.texts.Unwritten.{Unwritten}

-- the second text is the first one laid out, and means the same within these limits
abbrev pub IsAnew : Limits → List ℕ → List ℕ → Type 0
IsAnew limits old text = IsLaidOut old text × ((language : Language) × MeanTheSameAs language limits old text)

-- the second text is the first one minified, with a line feed after it
abbrev pub IsMinifiedLine : List ℕ → List ℕ → Type 0
IsMinifiedLine old text = (minified : List ℕ) × IsMinified old minified × (text ≡ minified ++ codes "\n")

-- the text that was read is blank, or it is laid out
abbrev pub IsAsLaidOut : String Global → Type 0
IsAsLaidOut old = IsBlank (string_bytes old) ⊎ IsLaidOut (string_bytes old) (string_bytes old)

-- Under this name nothing is put, or what was read there is put there laid out. `gives` says what may be read under a name at
-- a state, and `puts` what may come of putting a text there; both say the state after that.
abbrev pub PutsLaidOut : {T : Type 0} → (T → List ℕ → Result (String Global) Unread → T → Type 0) → (T → List ℕ → List ℕ → Result (Unit {0}) Unwritten → T → Type 0) → Limits → T → List ℕ → T → Type 0
PutsLaidOut {T} gives puts limits here name there = (read : Result (String Global) Unread) × (next : T) × gives here name read next × ((next ≡ there) ⊎ ((text : List ℕ) × (said : Result (Unit {0}) Unwritten) × IsOkAnd read (λ old. IsAnew limits (string_bytes old) text) × puts next name text said there))

-- Under this name there is a text, and it is laid out or blank, and nothing is put there; or it is put there laid out.
abbrev pub LeavesLaidOut : {T : Type 0} → (T → List ℕ → Result (String Global) Unread → T → Type 0) → (T → List ℕ → List ℕ → Result (Unit {0}) Unwritten → T → Type 0) → Limits → T → List ℕ → T → Type 0
LeavesLaidOut {T} gives puts limits here name there = (read : Result (String Global) Unread) × (next : T) × gives here name read next × (((next ≡ there) × IsOkAnd read IsAsLaidOut) ⊎ ((text : List ℕ) × IsOkAnd read (λ old. IsAnew limits (string_bytes old) text) × puts next name text (Ok tt) there))
