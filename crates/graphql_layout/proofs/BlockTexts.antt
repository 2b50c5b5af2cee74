-- A block string that is written from a value is one, and what its bytes mean.
use Rattle.std.proofs.Common.{◌≡◌, ◌≢◌, ℕ, zero, suc, ◌-◌, Bool, true, false, cond, eqb, nat_lt, List, [], ◌∷◌, ◌++◌, length, take, drop, Some, refl, sym, ap, ap₂, ◌∙◌, subst, append_assoc, append-nil, length-append, arith}
use Rattle.std.proofs.Math.Seq.{take-append_seam}
use Rattle.std.proofs.lemmas.Bool.Decides.{nat_tests}
use Rattle.std.proofs.lemmas.Str.{chars-encodes, encodes-chars}
use Rattle.std.specs.Char.{IsScalar}
use Rattle.std.specs.List.{AllByRecursion, concat}
use Rattle.std.specs.Str.{chars, encode_utf8_all, IsUtf8}
use Rattle.graphql_tokens.specs.tokens.Alike.{inside, value_of_block}
use Rattle.graphql_tokens.specs.tokens.BlockText.{block_value}
use Rattle.graphql_tokens.specs.tokens.Blocks.{closes}
use Rattle.graphql_tokens.specs.tokens.Proper.{Spells}
use Rattle.graphql_tokens.specs.declared.lexer.TokenKind.TheVariants.{Block}
use Rattle.graphql_tokens.specs.inner.Quoted.{past_block_from, past_block}
use Rattle.graphql_tokens.proofs.BlockTokens.{block_is}
use Rattle.graphql_tokens.proofs.Propers.{text_scalars}
use Rattle.graphql_layout.specs.declared.line_ends.LineBreak.{LineBreak}
use Rattle.graphql_layout.specs.declared.line_ends.LineEnd.{LineEnd}
use Rattle.graphql_layout.specs.declared.line_ends.LineEnd.TheVariants.{Feed, ReturnAndFeed}
use Rattle.graphql_layout.specs.texts.Blocks.{feed, ends_in_mark, is_wide, leads, trails, blanks, line_break, placed, body, break_if, content, block_of, spelled, may_be_block, HasValue}
use Rattle.graphql_layout.specs.texts.LineEnds.{line_end}
use Rattle.graphql_layout.specs.texts.Specified.{specified_value, specified_value_of_block, HasSpecifiedValue}
use Rattle.graphql_layout.specs.texts.Shortened.{has, is_mark, is_open, is_hung, escaped, line_feed_if, compact}
use Rattle.graphql_layout.proofs.BlockBodies.{break_clear, break_passes, body_passes}
use Rattle.graphql_layout.proofs.BlockChoices.{kept_if, if_kept, flat_hung}
use Rattle.graphql_layout.proofs.BlockLayouts.{or_false}
use Rattle.graphql_layout.proofs.BlockMeanings.{Kept, Flat, flat, kept_means, means_kept, nothing_means}
use Rattle.graphql_layout.proofs.BlockPushes.{block_bytes}
use Rattle.graphql_layout.proofs.BlockValues.{value_keeps}
use Rattle.graphql_layout.proofs.Joined.{scalars_all}
use Rattle.graphql_layout.proofs.WrittenReadings.{kept_specified, nothing_specified}

-- ---- where the string ends

abbrev three : List ℕ
three = 34 ∷ 34 ∷ 34 ∷ []

-- the closing quotes are on a line of their own, or aren't read with the last character
abbrev pub Closes : Bool → List ℕ → Type 0
Closes trails cs = trails ≡ false → is_open 0 false cs ≡ false

back_passes : (b : Bool) (i : LineBreak) (cs : List ℕ) → Closes b cs → past_block_from 0 ((body i 0 cs ++ break_if b i) ++ three) ≡ Some []
back_passes true i cs h =
    ap (past_block_from 0) (append_assoc (body i 0 cs) (line_break i) three) ∙ body_passes i 0 false cs (line_break i ++ three) (λ o. break_clear i three) refl ∙ break_passes i three
back_passes false i cs h =
    let closed : is_open 0 false cs ≡ false = h refl in
    ap (λ (t : List ℕ). past_block_from 0 (t ++ three)) (append-nil (body i 0 cs)) ∙ body_passes i 0 false cs three (λ o. absurd (cc)) refl

content_passes : (a b : Bool) (i : LineBreak) (cs : List ℕ) → Closes b cs → past_block_from 0 (content a b i cs ++ three) ≡ Some []
content_passes true b i cs h =
    ap (past_block_from 0) (append_assoc (line_break i) (body i 0 cs ++ break_if b i) three) ∙ break_passes i ((body i 0 cs ++ break_if b i) ++ three) ∙ back_passes b i cs h
content_passes false b i cs h = back_passes b i cs h

-- what ends in neither a quote nor a backslash isn't open
no_mark_open : (k : ℕ) (before other : Bool) (cs : List ℕ) → (other ≡ true → before ≡ true) → ends_in_mark before cs ≡ false → is_open k other cs ≡ false
no_mark_open zero before other [] f h = by other f
  where
    by : (b : Bool) → (b ≡ true → before ≡ true) → b ≡ false
    by true g = let e = g refl in absurd (cc)
    by false g = refl
no_mark_open (suc k) before other [] f h = by other f
  where
    by : (b : Bool) → (b ≡ true → before ≡ true) → b ≡ false
    by true g = let e = g refl in absurd (cc)
    by false g = refl
no_mark_open (suc k) before other (c ∷ cs) f h = no_mark_open k (is_mark c) false cs (λ e. absurd (cc)) h
no_mark_open zero before other (c ∷ cs) f h = by (closes (c ∷ cs)) (no_mark_open 2 (is_mark c) false cs (λ e. absurd (cc)) h) (no_mark_open 0 (is_mark c) (is_mark c) cs (λ e. e) h)
  where
    by : (b : Bool) → is_open 2 false cs ≡ false → is_open 0 (is_mark c) cs ≡ false → cond b (is_open 2 false cs) (is_open 0 (is_mark c) cs) ≡ false
    by true p q = p
    by false p q = q

spelled_closes : (cs : List ℕ) → Closes (trails cs) cs
spelled_closes cs h = no_mark_open 0 false false cs (λ e. e) (or_false (nat_lt 70 (length cs)) (ends_in_mark false cs) (or_false (has 10 cs) (is_wide cs) h).1).1

compact_closes : (cs : List ℕ) → Closes (is_open 0 false cs) cs
compact_closes cs h = h

-- ---- characters

abbrev pub AreScalars : List ℕ → Type 0
AreScalars w = AllByRecursion IsScalar w

both_scalars : (v w : List ℕ) → AreScalars v → AreScalars w → AreScalars (v ++ w)
both_scalars [] w h k = k
both_scalars (c ∷ v) w h k = (h.0, both_scalars v w h.1 k)

blank_scalars : (n : ℕ) → AreScalars (blanks n)
blank_scalars zero = tt
blank_scalars (suc n) = (refl, blank_scalars n)

break_scalars : (i : LineBreak) → AreScalars (line_break i)
break_scalars i = by i.line_end
  where
    by : (e : LineEnd) → AreScalars (line_end e ++ blanks i.indent)
    by Feed = (refl, blank_scalars i.indent)
    by ReturnAndFeed = (refl, (refl, blank_scalars i.indent))

body_scalars : (i : LineBreak) (k : ℕ) (cs : List ℕ) → AreScalars cs → AreScalars (body i k cs)
body_scalars i zero [] h = tt
body_scalars i (suc k) [] h = tt
body_scalars i (suc k) (c ∷ cs) h = (h.0, body_scalars i k cs h.1)
body_scalars i zero (c ∷ cs) h = by (closes (c ∷ cs)) (eqb c 10) (body_scalars i 2 cs h.1) (body_scalars i 0 cs h.1)
  where
    by : (b d : Bool) → AreScalars (body i 2 cs) → AreScalars (body i 0 cs) → AreScalars (cond b (92 ∷ c ∷ body i 2 cs) (cond d (line_break i) (c ∷ []) ++ body i 0 cs))
    by true d r s = (refl, (h.0, r))
    by false true r s = both_scalars (line_break i) (body i 0 cs) (break_scalars i) s
    by false false r s = (h.0, s)

if_scalars : (b : Bool) (i : LineBreak) → AreScalars (break_if b i)
if_scalars true i = break_scalars i
if_scalars false i = tt

content_scalars : (a b : Bool) (i : LineBreak) (cs : List ℕ) → AreScalars cs → AreScalars (content a b i cs)
content_scalars a b i cs h = both_scalars (break_if a i) (body i 0 cs ++ break_if b i) (if_scalars a i) (both_scalars (body i 0 cs) (break_if b i) (body_scalars i 0 cs h) (if_scalars b i))

-- ---- the token, and its value

block_spells : (a b : Bool) (i : LineBreak) (cs : List ℕ) → AreScalars cs → Closes b cs → Spells Block (block_of a b i cs)
unfolding block_of past_block
block_spells a b i cs u h =
    let text = content a b i cs in
    let e = block_is (text ++ three) [] (content_passes a b i cs h) in
    let whole : three ++ (text ++ three) ≡ three ++ (concat e.units ++ three) = ap (λ (l : List ℕ). three ++ l) (e.whole ∙ append-nil (concat e.units ++ three)) in
    let quotes_are : AreScalars three = (refl, (refl, (refl, tt))) in
    (three ++ (text ++ three), both_scalars three (text ++ three) quotes_are (both_scalars text three (content_scalars a b i cs u) quotes_are), refl, (e.units, whole, e.are))

-- what is left of it without its quotes
content_left : (a b : Bool) (i : LineBreak) (cs : List ℕ) → AreScalars cs → chars (inside 3 (block_of a b i cs)) ≡ content a b i cs
content_left a b i cs u =
    let text = content a b i cs in
    let bytes = encode_utf8_all text in
    let all : List ℕ = (three ++ bytes) ++ three in
    let is : block_of a b i cs ≡ all = block_bytes a b i cs in
    let size : length all - 3 ≡ length (three ++ bytes) = omega (arith, length-append (three ++ bytes) three) in
    ap (λ (s : List ℕ). chars (inside 3 s)) is
    ∙ ap (λ (n : ℕ). chars (drop 3 (take n all))) size
    ∙ ap (λ (s : List ℕ). chars (drop 3 s)) (take-append_seam (three ++ bytes) three)
    ∙ chars-encodes text (scalars_all text (content_scalars a b i cs u))

-- this parser and the specification read these characters
abbrev pub Means : List ℕ → List ℕ → Type 0
Means spelling cs = (value_of_block spelling ≡ cs) × (specified_value_of_block spelling ≡ cs)

block_means : (a b : Bool) (i : LineBreak) (cs : List ℕ) → AreScalars cs → (k : Kept cs) → Flat a k.line k.lines → Means (block_of a b i cs) cs
block_means a b i cs u k f =
    let left = content_left a b i cs u in
    (ap block_value left ∙ kept_means a b i cs k f, ap specified_value left ∙ kept_specified a b i cs k f)

-- ---- as it is printed

pub spelled_is : (i : LineBreak) (value : List ℕ) → spelled i value ≡ block_of (leads (chars value)) (trails (chars value)) i (chars value)
unfolding spelled
spelled_is i value = refl

pub block_spelled : (i : LineBreak) (value : List ℕ) → IsUtf8 value → Spells Block (spelled i value)
unfolding spelled
block_spelled i value u = let cs = chars value in block_spells (leads cs) (trails cs) i cs (text_scalars value u) (spelled_closes cs)

kept_value_is : (i : LineBreak) (value : List ℕ) → IsUtf8 value → Kept (chars value) → Means (spelled i value) (chars value)
unfolding spelled
kept_value_is i value u k = let cs = chars value in block_means (leads cs) (trails cs) i cs (text_scalars value u) k (flat cs k)

pub value_kept : (value : List ℕ) → IsUtf8 value → may_be_block (chars value) ≡ true → (i : LineBreak) → HasValue (spelled i value) value
value_kept value u h i = (kept_value_is i value u (kept_if (chars value) h)).0

pub value_specified : (value : List ℕ) → IsUtf8 value → may_be_block (chars value) ≡ true → (i : LineBreak) → HasSpecifiedValue (spelled i value) value
value_specified value u h i = (kept_value_is i value u (kept_if (chars value) h)).1

pub kept_value : (value : List ℕ) → IsUtf8 value → (i : LineBreak) → value ≢ [] → HasValue (spelled i value) value → may_be_block (chars value) ≡ true
unfolding spelled
kept_value value u i some h =
    let cs = chars value in
    if_kept cs (means_kept i cs (λ e. some (sym (encodes-chars value u) ∙ ap encode_utf8_all e)) (sym (ap block_value (content_left (leads cs) (trails cs) i cs (text_scalars value u))) ∙ h))

-- the empty block string
none_means : (i : LineBreak) → Means (block_of false false i []) []
none_means i = let left = content_left false false i [] tt in (ap block_value left ∙ nothing_means, ap specified_value left ∙ nothing_specified)

nothing_left : (i : LineBreak) (cs : List ℕ) → cs ≡ [] → Means (block_of (leads cs) (trails cs) i cs) cs
nothing_left i cs e = subst (λ (l : List ℕ). Means (block_of (leads l) (trails l) i l) l) (sym e) (none_means i)

-- the value of a block string is kept
pub spelled_means : (i : LineBreak) (value raw : List ℕ) → IsUtf8 value → block_value raw ≡ chars value → Means (spelled i value) (chars value)
unfolding spelled
spelled_means i value raw u h = by (chars value) refl
  where
    some : (c : ℕ) (cs : List ℕ) → chars value ≡ c ∷ cs → chars value ≢ []
    some c cs e f = let g : c ∷ cs ≡ [] = sym e ∙ f in cc

    by : (cs : List ℕ) → chars value ≡ cs → Means (spelled i value) (chars value)
    by [] e = nothing_left i (chars value) e
    by (c ∷ cs) e = kept_value_is i value u (value_keeps raw (chars value) (some c cs e) h)

-- ---- in few characters

placed_flat : (c : ℕ) → placed (feed 0) c ≡ c ∷ []
placed_flat c = by (eqb c 10) refl
  where
    by : (b : Bool) → eqb c 10 ≡ b → cond b (line_break (feed 0)) (c ∷ []) ≡ c ∷ []
    by true e = let is : 10 ≡ c = grind (arith, nat_tests) in ap (λ (x : ℕ). x ∷ []) is
    by false e = refl

escaped_is : (k : ℕ) (cs : List ℕ) → body (feed 0) k cs ≡ escaped k cs
escaped_is zero [] = refl
escaped_is (suc k) [] = refl
escaped_is (suc k) (c ∷ cs) = ap (λ (l : List ℕ). c ∷ l) (escaped_is k cs)
escaped_is zero (c ∷ cs) =
    ap₂ (λ (x y : List ℕ). cond (closes (c ∷ cs)) (92 ∷ c ∷ x) y) (escaped_is 2 cs) (ap₂ (λ (x y : List ℕ). x ++ y) (placed_flat c) (escaped_is 0 cs))

pub compact_is : (cs : List ℕ) → compact cs ≡ block_of (is_hung cs) (is_open 0 false cs) (feed 0) cs
unfolding compact block_of
compact_is cs =
    ap (λ (l : List ℕ). encode_utf8_all (three ++ ((line_feed_if (is_hung cs) ++ (l ++ line_feed_if (is_open 0 false cs))) ++ three))) (sym (escaped_is 0 cs))

pub compact_spells : (cs : List ℕ) → AreScalars cs → Spells Block (compact cs)
compact_spells cs u = subst (Spells Block) (sym (compact_is cs)) (block_spells (is_hung cs) (is_open 0 false cs) (feed 0) cs u (compact_closes cs))

pub compact_means : (cs raw : List ℕ) → AreScalars cs → block_value raw ≡ cs → Means (compact cs) cs
compact_means [] raw u h = subst (λ (l : List ℕ). Means l []) (sym (compact_is [])) (none_means (feed 0))
compact_means (c ∷ cs) raw u h =
    let k = value_keeps raw (c ∷ cs) (λ e. absurd (cc)) h in
    subst (λ (l : List ℕ). Means l (c ∷ cs)) (sym (compact_is (c ∷ cs))) (block_means (is_hung (c ∷ cs)) (is_open 0 false (c ∷ cs)) (feed 0) (c ∷ cs) u k (flat_hung (c ∷ cs) k))
