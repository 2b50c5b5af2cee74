-- What strings and block strings mean is made of characters, where their raw texts are.
use Rattle.std.proofs.Common.{◌≡◌, ℕ, zero, suc, Bool, true, false, ◌&&◌, ◌==◌, if◌then◌else◌, nat_lt, inl, inr, List, [], ◌∷◌, ◌++◌, map, length, drop, refl, ap, ◌∙◌, subst}
use Rattle.std.specs.Char.{IsScalar}
use Rattle.std.specs.List.{AllByRecursion, concat, list_all}
use Rattle.std.specs.Prelude.{slice_index}
use Rattle.std.specs.Str.{all_scalars, byte}
use Rattle.graphql_tokens.proofs.EscapeUnits.{pair_scalar}
use Rattle.graphql_tokens.specs.tokens.BlockText.{begins_quotes, unquoted, onto_line, lines_of, is_blank, dedented, common_indent, dedent, from_text, to_text, joined, block_value}
use Rattle.graphql_tokens.specs.tokens.Edition.{Current}
use Rattle.graphql_tokens.specs.tokens.Strings.{Escape, quote, backslash, slash, backspace, form_feed, line_feed, carriage_return, tab, UnitMeans, UnitsMean, StringMeans}

abbrev pub AreScalars : List ℕ → Type 0
AreScalars cs = AllByRecursion IsScalar cs

pub scalars_append : (xs ys : List ℕ) → AreScalars xs → AreScalars ys → AreScalars (xs ++ ys)
scalars_append [] ys h k = k
scalars_append (x ∷ xs) ys h k = (h.0, scalars_append xs ys h.1 k)

pub scalars_split : (xs ys : List ℕ) → AreScalars (xs ++ ys) → AreScalars xs × AreScalars ys
scalars_split [] ys h = (tt, h)
scalars_split (x ∷ xs) ys h = let more = scalars_split xs ys h.1 in ((h.0, more.0), more.1)

-- as a test
pub scalars_all : (cs : List ℕ) → AreScalars cs → all_scalars cs ≡ true
scalars_all [] h = refl
scalars_all (c ∷ cs) h = ap (λ (b : Bool). b && all_scalars cs) h.0 ∙ scalars_all cs h.1

-- ---- strings

escape_scalar : (letter c : ℕ) → Escape letter c → IsScalar c
escape_scalar l c quote = refl
escape_scalar l c backslash = refl
escape_scalar l c slash = refl
escape_scalar l c backspace = refl
escape_scalar l c form_feed = refl
escape_scalar l c line_feed = refl
escape_scalar l c carriage_return = refl
escape_scalar l c tab = refl

unit_scalar : (unit : List ℕ) (c : ℕ) → AreScalars unit → UnitMeans Current unit c → IsScalar c
unit_scalar unit c h (inl plain) = (subst AreScalars plain.0 h).0
unit_scalar unit c h (inr (inl escape)) = escape_scalar escape.0 c escape.2
unit_scalar unit c h (inr (inr (inl four))) = four.1
unit_scalar unit c h (inr (inr (inr (inl braced)))) = braced.5
unit_scalar unit c h (inr (inr (inr (inr pair)))) = pair_scalar pair.2 pair.3 c pair.7 pair.8 pair.9

units_scalars : (units : List (List ℕ)) (value : List ℕ) → AreScalars (concat units) → UnitsMean Current units value → AreScalars value
units_scalars [] [] h m = tt
units_scalars [] (c ∷ cs) h m = absurd m
units_scalars (u ∷ us) [] h m = absurd m
units_scalars (u ∷ us) (c ∷ cs) h m = let parts = scalars_split u (concat us) h in (unit_scalar u c parts.0 m.0, units_scalars us cs parts.1 m.1)

pub string_scalars : (content value : List ℕ) → AreScalars content → StringMeans Current content value → AreScalars value
string_scalars content value h m = units_scalars m.0 value (subst AreScalars m.1 h) m.2

-- ---- block strings

abbrev AreLines : List (List ℕ) → Type 0
AreLines lines = AllByRecursion AreScalars lines

unquoted_scalars : (cs : List ℕ) → AreScalars cs → AreScalars (unquoted cs)
unquoted_scalars [] h = tt
unquoted_scalars (c ∷ cs) h = go (begins_quotes (c ∷ cs)) (unquoted_scalars cs h.1)
  where
    go : (b : Bool) → AreScalars (unquoted cs) → AreScalars (if b then unquoted cs else c ∷ unquoted cs)
    go true more = more
    go false more = (h.0, more)

onto_scalars : (c : ℕ) (lines : List (List ℕ)) → IsScalar c → AreLines lines → AreLines (onto_line c lines)
onto_scalars c [] h k = ((h, tt), tt)
onto_scalars c (line ∷ lines) h k = ((h, k.0), k.1)

lines_scalars : (cs : List ℕ) → AreScalars cs → AreLines (lines_of cs)
lines_scalars [] h = (tt, tt)
lines_scalars (c ∷ cs) h = go (c == byte "\n") (c == byte "\r") (slice_index cs 0 == byte "\n") (lines_scalars cs h.1)
  where
    go : (feed return both : Bool) → AreLines (lines_of cs)
        → AreLines (if feed then [] ∷ lines_of cs else (if return then (if both then lines_of cs else [] ∷ lines_of cs) else onto_line c (lines_of cs)))
    go true return both more = (tt, more)
    go false true true more = more
    go false true false more = (tt, more)
    go false false both more = onto_scalars c (lines_of cs) h.0 more

drop_scalars : (n : ℕ) (cs : List ℕ) → AreScalars cs → AreScalars (drop n cs)
drop_scalars zero cs h = h
drop_scalars (suc n) [] h = tt
drop_scalars (suc n) (c ∷ cs) h = drop_scalars n cs h.1

dedented_scalars : (n : ℕ) (lines : List (List ℕ)) → AreLines lines → AreLines (map (dedented n) lines)
dedented_scalars n [] h = tt
dedented_scalars n (line ∷ lines) h = (go (nat_lt (length line) n), dedented_scalars n lines h.1)
  where
    go : (b : Bool) → AreScalars (if b then line else drop n line)
    go true = h.0
    go false = drop_scalars n line h.0

dedent_scalars : (lines : List (List ℕ)) → AreLines lines → AreLines (dedent lines)
dedent_scalars [] h = tt
dedent_scalars (first ∷ others) h = (h.0, dedented_scalars (common_indent others) others h.1)

from_scalars : (lines : List (List ℕ)) → AreLines lines → AreLines (from_text lines)
from_scalars [] h = tt
from_scalars (line ∷ lines) h = go (is_blank line) (from_scalars lines h.1)
  where
    go : (b : Bool) → AreLines (from_text lines) → AreLines (if b then from_text lines else line ∷ lines)
    go true more = more
    go false more = h

to_scalars : (lines : List (List ℕ)) → AreLines lines → AreLines (to_text lines)
to_scalars [] h = tt
to_scalars (line ∷ lines) h = go (list_all is_blank (line ∷ lines)) (to_scalars lines h.1)
  where
    go : (b : Bool) → AreLines (to_text lines) → AreLines (if b then [] else line ∷ to_text lines)
    go true more = tt
    go false more = (h.0, more)

joined_scalars : (lines : List (List ℕ)) → AreLines lines → AreScalars (joined lines)
joined_scalars [] h = tt
joined_scalars (line ∷ []) h = h.0
joined_scalars (line ∷ next ∷ lines) h = scalars_append line (10 ∷ joined (next ∷ lines)) h.0 (refl, joined_scalars (next ∷ lines) h.1)

pub block_scalars : (raw : List ℕ) → AreScalars raw → AreScalars (block_value raw)
unfolding block_value
block_scalars raw h =
    joined_scalars (to_text (from_text (dedent (lines_of (unquoted raw)))))
    (to_scalars (from_text (dedent (lines_of (unquoted raw))))
    (from_scalars (dedent (lines_of (unquoted raw))) (dedent_scalars (lines_of (unquoted raw)) (lines_scalars (unquoted raw) (unquoted_scalars raw h)))))
