-- What stands at the front of a string's rest: a unit of its content, a bad escape, or its end. And the parts of a number.
-- Source: this project's choice.
use Rattle.std.specs.Prelude.{◌≡◌, ◌≢◌, ℕ, ◌≤◌, true, false, List, ◌∷◌, ◌++◌, length}
use Rattle.std.specs.Str.{byte, chars, IsUtf8}
use Rattle.graphql_tokens.specs.tokens.Edition.{Current}
use Rattle.graphql_tokens.specs.tokens.Place.{is_line_end}
use Rattle.graphql_tokens.specs.tokens.Numbers.{is_e, is_sign, IsOptional}
use Rattle.graphql_tokens.specs.tokens.Strings.{UnitMeans, IsContent}
use Rattle.graphql_report.specs.declared.faults.Ahead.{Ahead}
use Rattle.graphql_report.specs.declared.faults.Ahead.TheVariants.{Content, BadEscape, End}
use Rattle.graphql_report.specs.reports.Faults.{begins_with_digit}

-- the text is these two parts
abbrev pub IsSplit : List ℕ → List ℕ → List ℕ → Type 0
IsSplit text front rest = chars text ≡ chars front ++ chars rest

-- no character and no escape of a content stands at the front
abbrev pub HasNoUnit : List ℕ → Type 0
HasNoUnit text = (unit after : List ℕ) (c : ℕ) → UnitMeans Current unit c → text ≢ unit ++ after

-- a content, one character or more, and this rest after it
pub record Passes (text rest : List ℕ) : Type 0 where
  pub content : List ℕ
  pub is_content : IsContent Current content
  pub some : 1 ≤ length content
  pub whole : text ≡ content ++ rest

-- a backslash and a character in the line, and no escape
pub record IsBad (text : List ℕ) : Type 0 where
  pub next : ℕ
  pub rest : List ℕ
  pub is : text ≡ byte "\\" ∷ next ∷ rest
  pub in_line : is_line_end next ≡ false
  pub none : HasNoUnit text

-- no unit, and no backslash in the line
pub record Ends (text : List ℕ) : Type 0 where
  pub none : HasNoUnit text
  pub ends : (next : ℕ) (rest : List ℕ) → text ≡ byte "\\" ∷ next ∷ rest → is_line_end next ≡ true

-- what the answer says of the text
abbrev pub TellsAhead : List ℕ → Ahead → Type 0
TellsAhead text (Content rest) = IsUtf8 rest.now × Passes text (chars rest.now)
TellsAhead text BadEscape = IsBad text
TellsAhead text End = Ends text

-- the text is a front of this kind, and a rest after it
abbrev pub IsAfter : (List ℕ → Type 0) → List ℕ → List ℕ → Type 0
IsAfter P text rest = (front : List ℕ) × P front × (text ≡ front ++ rest)

-- the escape with which the text begins, as far as it is shown
abbrev pub IsShownEscape : List ℕ → List ℕ → Type 0
IsShownEscape text escape = (rest : List ℕ) × (text ≡ escape ++ rest) × (1 ≤ length escape) × (length escape ≤ 12)

-- a point without a digit is next
abbrev pub HasBarePoint : List ℕ → Type 0
HasBarePoint text = (rest : List ℕ) × (text ≡ byte "." ∷ rest) × (begins_with_digit rest ≡ false)

-- `e` or `E` is next, and no digit after it
abbrev pub HasBareExponent : List ℕ → Type 0
HasBareExponent text = (e : ℕ) × (sign : List ℕ) × (rest : List ℕ) × (is_e e ≡ true) × IsOptional is_sign sign × (text ≡ e ∷ (sign ++ rest)) × (begins_with_digit rest ≡ false)
