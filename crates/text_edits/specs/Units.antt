-- In what units the columns of a line are counted, and how many characters fit in so many units.
-- Source: Language Server Protocol 3.17, "Position" and "PositionEncodingKind": bytes of UTF-8, code units of UTF-16, or code
-- points. That a character isn't counted if only some of its units fit is this project's choice.
use Rattle.std.specs.Prelude.{ℕ, ◌+◌, ◌-◌, nat_lt, List, [], ◌∷◌, if◌then◌else◌}
use Rattle.std.specs.Char.{len_utf8}
use Rattle.text_edits.specs.declared.Encoding.{Encoding}
use Rattle.text_edits.specs.declared.Encoding.TheVariants.{Utf8, Utf16, Utf32}

-- how many units a character takes
abbrev pub units : Encoding → ℕ → ℕ
units Utf8 c = len_utf8 c
units Utf16 c = if nat_lt c 0x1_0000 then 1 else 2
units Utf32 c = 1

-- how many units these characters take
abbrev pub width : Encoding → List ℕ → ℕ
width encoding [] = 0
width encoding (c ∷ cs) = units encoding c + width encoding cs

-- as many of these characters, from the first on, as fit in so many units
abbrev pub fitting : Encoding → ℕ → List ℕ → List ℕ
fitting encoding n [] = []
fitting encoding n (c ∷ cs) = if nat_lt n (units encoding c) then [] else c ∷ fitting encoding (n - units encoding c) cs
