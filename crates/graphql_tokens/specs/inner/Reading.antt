-- The token list as a function, which a proof shows to be the one that `Cuts` relates to the text.
-- A function `past_..` gives what follows a spelling at the front, and None where there is none.
use Rattle.std.specs.Prelude.{ℕ, zero, suc, ◌-◌, Bool, true, false, if◌then◌else◌, ◌==◌, ◌||◌, List, [], ◌∷◌, ◌++◌, length, take, Option, Some, None, codes}
use Rattle.std.specs.Char.{is_ascii_digit}
use Rattle.std.specs.Str.{byte}
use Rattle.graphql_tokens.specs.tokens.Place.{is_line_end}
use Rattle.graphql_tokens.specs.tokens.Classes.{is_ignored, is_punct, is_name_start, is_name_char}
use Rattle.graphql_tokens.specs.tokens.Token.{Token}
use Rattle.graphql_tokens.specs.tokens.Cuts.{token, is_last}
use Rattle.graphql_tokens.specs.inner.ByteClasses.{past_class}
use Rattle.graphql_tokens.specs.inner.Numerals.{then_past}
use Rattle.graphql_tokens.specs.inner.Numbers.{past_number}
use Rattle.graphql_tokens.specs.inner.Quoted.{past_string, past_block}
use Rattle.graphql_tokens.specs.declared.lexer.TokenKind.{TokenKind}
use Rattle.graphql_tokens.specs.declared.lexer.TokenKind.TheVariants.{Punct, Name, Number, String, Block, Fault, End}

-- the text without the ignored text at its front, which may go on with a comment
abbrev pub skip_from : Bool → List ℕ → List ℕ
skip_from is_comment [] = []
skip_from true (c ∷ cs) = if is_line_end c then skip_from false cs else skip_from true cs
skip_from false (c ∷ cs) = if is_ignored c then skip_from false cs else (if c == byte "#" then skip_from true cs else c ∷ cs)

unfoldable pub skip : List ℕ → List ℕ
skip text = skip_from false text

-- ---- one token

abbrev pub past_char : ℕ → List ℕ → Option (List ℕ)
past_char d [] = None
past_char d (c ∷ cs) = if c == d then Some cs else None

-- the second and the third dot of `...`
abbrev pub past_dots : List ℕ → Option (List ℕ)
past_dots text = then_past (past_char (byte ".") text) (past_char (byte "."))

-- the rest of a line, and the character that ends it
abbrev pub past_line : List ℕ → List ℕ
past_line [] = []
past_line (c ∷ cs) = if is_line_end c then cs else past_line cs

-- the token, where there is one, and otherwise the fault, which takes nothing
abbrev pub found : TokenKind → List ℕ → Option (List ℕ) → TokenKind × List ℕ
found kind text None = (Fault, text)
found kind text (Some rest) = (kind, rest)

abbrev pub triple : List ℕ → Option (List ℕ) → TokenKind × List ℕ
triple one None = (String, one)
triple one (Some two) = found Block (codes "\"\"\"" ++ two) (past_block two)

abbrev pub double : List ℕ → Option (List ℕ) → TokenKind × List ℕ
double text None = found String (byte "\"" ∷ text) (past_string text)
double text (Some one) = triple one (past_char (byte "\"") one)

-- the same after a quote
abbrev pub quoted : List ℕ → TokenKind × List ℕ
quoted text = double text (past_char (byte "\"") text)

-- the kind of the token at the front, and what follows it
unfoldable pub next : List ℕ → TokenKind × List ℕ
next [] = (End, [])
next (c ∷ cs) =
    if is_punct c then (Punct, cs)
    else (if is_name_start c then (Name, past_class is_name_char cs)
    else (if c == byte "\"" then quoted cs
    else (if is_ascii_digit c || c == byte "-" then found Number (c ∷ cs) (past_number (c ∷ cs))
    else (if c == byte "." then found Punct (c ∷ cs) (past_dots cs)
    else (Fault, c ∷ cs)))))

-- ---- all tokens

-- the text as far as the rest
unfoldable pub before : List ℕ → List ℕ → List ℕ
before text rest = take (length text - length rest) text

-- at most this many tokens of the text that stands after the front
unfoldable pub tokens_from : ℕ → List ℕ → List ℕ → List Token
tokens_from zero front text = []
tokens_from (suc n) front text =
    let after = skip text in
    let here = front ++ before text after in
    let t = next after in
    let w = before after t.1 in
    token t.0 here w ∷ (if is_last t.0 then [] else tokens_from n (here ++ w) t.1)

unfoldable pub tokens : List ℕ → List ℕ → List Token
tokens front text = tokens_from (suc (length text)) front text
