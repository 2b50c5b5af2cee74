-- Values that are written as block strings.
-- Source: GraphQL October 2021, section 2.9.4 (String Value). How they are laid out is this project's choice: as GraphQL.js 16
-- prints them.
use Rattle.std.specs.Prelude.{◌≡◌, ℕ, zero, suc, Bool, false, true, not, ◌&&◌, ◌||◌, ◌==◌, nat_lt, if◌then◌else◌, List, [], ◌∷◌, ◌++◌, length, replicate, codes}
use Rattle.std.specs.Str.{byte, chars, encode_utf8_all}
use Rattle.graphql_tokens.specs.tokens.Alike.{value_of_block}
use Rattle.graphql_tokens.specs.tokens.Blocks.{closes}
use Rattle.graphql_tokens.specs.tokens.BlockText.{is_blank_char}
use Rattle.graphql_layout.specs.declared.line_ends.LineBreak.{LineBreak}
use Rattle.graphql_layout.specs.declared.line_ends.LineEnd.TheVariants.{Feed}
use Rattle.graphql_layout.specs.texts.LineEnds.{line_end}
use Rattle.graphql_layout.specs.texts.Shortened.{is_mark, has, has_margin}

-- ---- how it is spelled

abbrev pub blanks : ℕ → List ℕ
blanks n = replicate n (byte " ")

abbrev pub quotes : ℕ → List ℕ
quotes n = replicate n (byte "\"")

-- a line feed, and so many blanks
abbrev pub feed : ℕ → LineBreak
feed indent = record { line_end = Feed; indent = indent }

-- the end of a line, and the indent of the line after it
abbrev pub line_break : LineBreak → List ℕ
line_break between = line_end between.line_end ++ blanks between.indent

-- what stands for a character that is no quote
abbrev pub placed : LineBreak → ℕ → List ℕ
placed between c = if c == byte "\n" then line_break between else c ∷ []

-- the characters, after so many quotes that stand as they are, with a backslash before each `"""` from left to right
abbrev pub body : LineBreak → ℕ → List ℕ → List ℕ
body between quotes [] = []
body between (suc n) (c ∷ cs) = c ∷ body between n cs
body between zero (c ∷ cs) = if closes (c ∷ cs) then byte "\\" ∷ c ∷ body between 2 cs else placed between c ++ body between 0 cs

abbrev pub break_if : Bool → LineBreak → List ℕ
break_if b between = if b then line_break between else []

-- what stands between the quotes: on a line below the first three, or right after them; and the others on a line of their own,
-- or right after it
abbrev pub content : Bool → Bool → LineBreak → List ℕ → List ℕ
content leads trails between cs = break_if leads between ++ (body between 0 cs ++ break_if trails between)

unfoldable pub block_of : Bool → Bool → LineBreak → List ℕ → List ℕ
block_of leads trails between cs = encode_utf8_all (codes "\"\"\"" ++ (content leads trails between cs ++ codes "\"\"\""))

-- ---- where its quotes stand

abbrev pub begins_blank : List ℕ → Bool
begins_blank [] = false
begins_blank (c ∷ cs) = is_blank_char c

-- whether the last character is a quote or a backslash, and where there is none, what is said here
abbrev pub ends_in_mark : Bool → List ℕ → Bool
ends_in_mark before [] = before
ends_in_mark before (c ∷ cs) = ends_in_mark (is_mark c) cs

-- of one line and more than 70 characters, or its last is a quote or a backslash
abbrev pub is_wide : List ℕ → Bool
is_wide cs = nat_lt 70 (length cs) || ends_in_mark false cs

abbrev pub leads : List ℕ → Bool
leads cs = has (byte "\n") cs || (is_wide cs && not (begins_blank cs))

abbrev pub trails : List ℕ → Bool
trails cs = has (byte "\n") cs || is_wide cs

-- the block string of a value, with this between its lines
unfoldable pub spelled : LineBreak → List ℕ → List ℕ
spelled between value = block_of (leads (chars value)) (trails (chars value)) between (chars value)

-- ---- which values it has

-- the first line isn't blank
abbrev pub begins_in_text : List ℕ → Bool
begins_in_text [] = false
begins_in_text (c ∷ cs) = if is_blank_char c then begins_in_text cs else not (c == byte "\n")

-- whether the line has a text after one more character, if it had one before or not
abbrev pub text_after : Bool → ℕ → Bool
text_after before c = not (c == byte "\n") && (before || not (is_blank_char c))

-- the last line isn't blank
abbrev pub ends_in_text : Bool → List ℕ → Bool
ends_in_text before [] = before
ends_in_text before (c ∷ cs) = ends_in_text (text_after before c) cs

-- It has no carriage return, which ends a line too. Its first and its last line aren't blank. If it has more lines than one, one
-- of them begins with a text.
abbrev pub may_be_block : List ℕ → Bool
may_be_block cs =
    not (has (byte "\r") cs) && (begins_in_text cs && (ends_in_text false cs && (not (has (byte "\n") cs) || has_margin true cs)))

-- ---- what it means

-- what is left of a block string without its quotes means the value
abbrev pub HasValue : List ℕ → List ℕ → Type 0
HasValue spelling value = value_of_block spelling ≡ chars value
