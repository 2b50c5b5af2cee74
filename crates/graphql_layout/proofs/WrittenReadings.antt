-- What is written from a value has no line that is shorter than the indent, so by the specification it has the same value.
use Rattle.std.proofs.Common.{◌≡◌, ℕ, ◌≤◌, Bool, true, false, cond, inl, inr, List, [], ◌∷◌, refl, ap, ◌∙◌, length-append, arith}
use Rattle.std.proofs.lemmas.List.{length-replicate}
use Rattle.graphql_tokens.specs.tokens.BlockText.{unquoted, lines_of, is_blank, least, common_indent, from_text, to_text, block_value}
use Rattle.graphql_tokens.proofs.BlockIndents.{indents_blank}
use Rattle.graphql_tokens.proofs.BlockValue.{from_text-all, to_text-all}
use Rattle.graphql_layout.specs.declared.line_ends.LineBreak.{LineBreak}
use Rattle.graphql_layout.specs.texts.Blocks.{blanks, content}
use Rattle.graphql_layout.specs.texts.Specified.{specified_value}
use Rattle.graphql_layout.proofs.BlockLayouts.{closing, spread, shown, blank_blanks, common_spread}
use Rattle.graphql_layout.proofs.BlockMeanings.{EndsInText, ends_some, Flat, Kept, written_lines, kept_means}
use Rattle.graphql_layout.proofs.OneReadings.{IsWhole, AreWhole, same_values}

less_whole : (k n : ℕ) (line : List ℕ) → k ≤ n → IsWhole n line → IsWhole k line
less_whole k n line l (inl e) = inl e
less_whole k n line l (inr h) = inr (omega arith)

less_wholes : (k n : ℕ) (lines : List (List ℕ)) → k ≤ n → AreWhole n lines → AreWhole k lines
less_wholes k n [] l h = tt
less_wholes k n (line ∷ lines) l h = (less_whole k n line l h.0, less_wholes k n lines l h.1)

closing_whole : (b : Bool) (n : ℕ) → AreWhole n (closing b n)
closing_whole true n = (inr (omega (arith, length-replicate {A = ℕ} n 32)), tt)
closing_whole false n = tt

spread_whole : (b : Bool) (n : ℕ) (lines : List (List ℕ)) → AreWhole n (spread b n lines)
spread_whole b n [] = closing_whole b n
spread_whole b n (line ∷ lines) = (inr (omega (arith, length-append (blanks n) line, length-replicate {A = ℕ} n 32)), spread_whole b n lines)

closing_indent : (b : Bool) (n : ℕ) → common_indent (closing b n) ≤ n
closing_indent true n = omega (arith, ap least (indents_blank (blanks n) [] (blank_blanks n)))
closing_indent false n = omega arith

text_indent : (b : Bool) (n : ℕ) (lines : List (List ℕ)) → EndsInText lines → common_indent lines ≡ 0 → common_indent (spread b n lines) ≤ n
text_indent b n lines last e = omega (arith, common_spread b n lines (ends_some lines last))

-- the lines after the first
hung_indent : (b : Bool) (n : ℕ) (line : List ℕ) (lines : List (List ℕ)) → EndsInText (line ∷ lines) → Flat false line lines → common_indent (spread b n lines) ≤ n
hung_indent b n line [] last f = closing_indent b n
hung_indent b n line (next ∷ lines) last (inl e) = absurd (cc)
hung_indent b n line (next ∷ lines) last (inr e) = text_indent b n (next ∷ lines) last e

some_whole : (n : ℕ) (b : Bool) (lines : List (List ℕ)) → common_indent lines ≤ n → AreWhole n lines → AreWhole (common_indent lines) (to_text (cond b (from_text lines) lines))
some_whole n b lines l h = by b
  where
    all : AreWhole (common_indent lines) lines
    all = less_wholes (common_indent lines) n lines l h

    by : (b : Bool) → AreWhole (common_indent lines) (to_text (cond b (from_text lines) lines))
    by true = to_text-all (IsWhole (common_indent lines)) (from_text lines) (from_text-all (IsWhole (common_indent lines)) lines all)
    by false = to_text-all (IsWhole (common_indent lines)) lines all

written_same : (a b : Bool) (n : ℕ) (line : List ℕ) (lines : List (List ℕ)) → EndsInText (line ∷ lines) → Flat a line lines → (raw : List ℕ) → lines_of (unquoted raw) ≡ shown a b n (line ∷ lines) → specified_value raw ≡ block_value raw
written_same true b n line lines last f raw e =
    same_values raw [] (spread b n (line ∷ lines)) e (some_whole n (is_blank []) (spread b n (line ∷ lines)) (text_indent b n (line ∷ lines) last f) (spread_whole b n (line ∷ lines)))
written_same false b n line lines last f raw e =
    same_values raw line (spread b n lines) e (some_whole n (is_blank line) (spread b n lines) (hung_indent b n line lines last f) (spread_whole b n lines))

pub kept_specified : (a b : Bool) (n : LineBreak) (cs : List ℕ) (k : Kept cs) → Flat a k.line k.lines → specified_value (content a b n cs) ≡ cs
kept_specified a b n cs k f =
    written_same a b n.indent k.line k.lines k.last f (content a b n cs) (written_lines a b n cs k.line k.lines k.no_return k.is) ∙ kept_means a b n cs k f

pub nothing_specified : specified_value [] ≡ []
unfolding specified_value
nothing_specified = refl
