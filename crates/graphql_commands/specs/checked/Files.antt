-- When a text is blank, and when files are good that are read one after another.
-- Source: this project's choice.
use Rattle.std.specs.Prelude.{◌≡◌, ◌⊎◌, ℕ, Bool, true, List, [], ◌∷◌, Option, Result, IsOkAnd, string_bytes}
use Rattle.std.specs.declared.alloc.Global.{Global}
use Rattle.std.specs.declared.string.String.{String}
use Rattle.graphql_parser.specs.tokens.Cuts.{IsCutInto}
use Rattle.graphql_parser.specs.tokens.Token.{Token}
use Rattle.graphql_parser.specs.notation.Limits.{Limits}
use Rattle.graphql_report.specs.declared.fronts.Language.{Language}
use Rattle.graphql_texts.specs.checked.Good.{IsGoodText}
use Rattle.graphql_texts.specs.checked.Language.{IsReadAs}
use Rattle.graphql_tokens.specs.declared.lexer.TokenKind.TheVariants.{End}
use Rattle.graphql_commands.specs.declared.texts.Unread.{Unread}

-- of these tokens the first is the end of the text, and there is no other
abbrev pub AreTheEnd : List Token → Type 0
AreTheEnd [] = ⊥
AreTheEnd (t ∷ ts) = (t.bare.kind ≡ End) × (ts ≡ [])

-- the text is empty, or all of it is ignored: blanks, commas, line ends and comments
abbrev pub IsBlank : List ℕ → Type 0
IsBlank text = (tokens : List Token) → IsCutInto text tokens → AreTheEnd tokens

-- the text is good, read as the language that the option or the file's name says, or as one of the two if neither says one
abbrev pub IsGoodFile : Option Language → Bool → Limits → List ℕ → List ℕ → Type 0
IsGoodFile option fragments limits name text = (language : Language) × IsReadAs option name language × IsGoodText fragments language limits text

-- There is a text, and it is good; or blank, if requests may hold fragments alone.
abbrev pub IsGood : Option Language → Bool → Limits → List ℕ → Result (String Global) Unread → Type 0
IsGood option fragments limits name read = IsOkAnd read (λ text. IsGoodFile option fragments limits name (string_bytes text) ⊎ ((fragments ≡ true) × IsBlank (string_bytes text)))

-- What is read under this name at a state leads to another state, and is good. `gives` says what may be read under a name at a
-- state, and the state after that.
abbrev pub GivesGoodText : {T : Type 0} → (T → List ℕ → Result (String Global) Unread → T → Type 0) → Option Language → Bool → Limits → T → List ℕ → T → Type 0
GivesGoodText gives option fragments limits here name there = (read : Result (String Global) Unread) × gives here name read there × IsGood option fragments limits name read

-- What is done under these names one after another leads from one state to another; `step` says what is done under one.
abbrev pub AreSteps : {T : Type 0} → (T → List ℕ → T → Type 0) → T → List (List ℕ) → T → Type 0
AreSteps step here [] there = here ≡ there
AreSteps {T} step here (name ∷ names) there = (next : T) × step here name next × AreSteps step next names there

-- Read under these names one after another, from one state of what texts are read from to another, there is a text each
-- time, and it is good.
abbrev pub GiveGoodTexts : {T : Type 0} → (T → List ℕ → Result (String Global) Unread → T → Type 0) → Option Language → Bool → Limits → T → List (List ℕ) → T → Type 0
GiveGoodTexts gives option fragments limits = AreSteps (GivesGoodText gives option fragments limits)
