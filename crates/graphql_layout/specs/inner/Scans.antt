-- A pass over the characters of a block string, for its lines that are shorter than the common indent.
-- Source: this project's choice.
use Rattle.std.specs.Prelude.{ℕ, ◌-◌, Bool, false, true, ◌&&◌, ◌||◌, nat_lt, if◌then◌else◌, List, [], ◌∷◌}
use Rattle.graphql_tokens.specs.tokens.BlockText.{is_blank_char}
use Rattle.graphql_tokens.specs.tokens.Place.{is_line_end}
use Rattle.graphql_layout.specs.declared.one_reading.Scan.{Scan}

-- the line so far is a short one after a text: it has a blank, but fewer than the indent
abbrev pub ends_short : Scan → Bool
ends_short s = s.has_text && (nat_lt 0 s.left && nat_lt s.left s.indent)

abbrev pub at_line_end : Scan → Scan
at_line_end s = record { indent = s.indent; left = s.indent; has_text = s.has_text; is_pending = s.is_pending || ends_short s; is_cut = s.is_cut }

abbrev pub at_blank : Scan → Scan
at_blank s = record { indent = s.indent; left = s.left - 1; has_text = s.has_text; is_pending = s.is_pending; is_cut = s.is_cut }

abbrev pub at_text : Scan → Scan
at_text s = record { indent = s.indent - s.left; left = 0; has_text = true; is_pending = false; is_cut = s.is_cut || s.is_pending }

-- one character on
abbrev pub step : Scan → ℕ → Scan
step s c = if is_line_end c then at_line_end s else (if is_blank_char c then at_blank s else at_text s)

abbrev pub scanned : Scan → List ℕ → Scan
scanned s [] = s
scanned s (c ∷ cs) = scanned (step s c) cs

-- before the first line, whose indent isn't looked at; those of the others are at most this
abbrev pub first_scan : ℕ → Scan
first_scan most = record { indent = most; left = 0; has_text = false; is_pending = false; is_cut = false }

abbrev pub scan : ℕ → List ℕ → Scan
scan most cs = scanned (first_scan most) cs

-- ---- most have no such line

-- A line of blanks alone, of one at least, ends here. Of the line so far it is said whether it is blank, and whether it has a
-- character.
abbrev pub has_blank_line : Bool → Bool → List ℕ → Bool
has_blank_line blank some [] = false
has_blank_line blank some (c ∷ cs) = if is_line_end c then (blank && some) || has_blank_line true false cs else has_blank_line (blank && is_blank_char c) true cs
