-- A running place that passes one character.
use Rattle.std.proofs.Common.{◌≡◌, ◌≢◌, ℕ, ◌+◌, ◌≤◌, ◌<◌, ◌^◌, true, false, cond, ◌⊎◌, inl, inr, List, [], ◌∷◌, ◌++◌, length, take, drop, get_or, add-one, refl, sym, ap, ◌∙◌, arith, length-take}
use Rattle.std.specs.Char.{encode_utf8, len_utf8}
use Rattle.std.specs.Str.{chars, IsUtf8, IsCharBoundary}
use Rattle.std.proofs.Math.Seq.{drop-cons}
use Rattle.std.proofs.lemmas.Bool.{cases_lt}
use Rattle.std.proofs.lemmas.List.{length_push, drop_all}
use Rattle.std.proofs.lemmas.Str.{IsUtf8-take, IsUtf8-drop, chars-nil, chars_past_char, IsCharBoundary-start, len_utf8_ascii, encode_ascii, drop_past_char}
use Rattle.graphql_tokens.specs.tokens.Place.{place, place_after, is_line_feed, is_in_line}
use Rattle.graphql_tokens.specs.inner.TextWalk.{IsWalking, Passes}
use Rattle.graphql_tokens.specs.inner.Running.{ahead, IsRunning}
use Rattle.graphql_tokens.specs.declared.pos.text_walk.TextWalk.{TextWalk}
use Rattle.graphql_tokens.specs.declared.pos.running.RunningPlace.{RunningPlace}
use Rattle.graphql_tokens.proofs.Chars.{chars_past, boundary_past, ends_before, length-chars}
use Rattle.graphql_tokens.proofs.Places.{line_push, column_push, line_bound}

-- ---- walks

pub walks_at_start : (a : TextWalk) → a.offset ≡ 0 → IsUtf8 a.text.now → length a.text.now < 2 ^ 63 → IsWalking a
walks_at_start a o u b = record { boundary = rw o (IsCharBoundary-start a.text.now u); utf8 = u; bound = b }

pub walks_past : (old new : TextWalk) (c : ℕ) → IsWalking old → new.text.now ≡ old.text.now → Passes c old new → IsWalking new
walks_past old new c r same p = record {
  boundary = rw same (boundary_past old.text.now old.offset new.offset c r.utf8 r.boundary p.here p.after);
  utf8 = rw same r.utf8;
  bound = rw same r.bound;
}

-- no more characters than bytes were passed
pub count_bound : (a : TextWalk) → IsWalking a → length (chars (take a.offset a.text.now)) ≤ a.offset
count_bound a r =
    omega (arith, length-chars (take a.offset a.text.now) (IsUtf8-take a.text.now a.offset r.utf8 r.boundary), length-take a.offset a.text.now)

-- one character more was passed
pub count_past : (old new : TextWalk) (c : ℕ) → IsWalking old → new.text.now ≡ old.text.now → Passes c old new
    → length (chars (take new.offset new.text.now)) ≡ length (chars (take old.offset old.text.now)) + 1
count_past old new c r same p =
    let bs = old.text.now in
    ap (λ t. length (chars (take new.offset t))) same
    ∙ ap length (chars_past bs old.offset new.offset c r.utf8 r.boundary p.here p.after)
    ∙ length_push (chars (take old.offset bs)) c

-- an ASCII character
pub passes_ascii : (old new : TextWalk) → old.offset < length old.text.now → get_or old.text.now old.offset 0 < 128 → new.offset ≡ old.offset + 1
    → Passes (get_or old.text.now old.offset 0) old new
passes_ascii old new l h o =
    let bs = old.text.now in
    let i = old.offset in
    let x = get_or bs i 0 in
    let e : drop i bs ≡ encode_utf8 x ++ drop (i + 1) bs = rw (encode_ascii x h, add-one i) (drop-cons bs i 0 l) in
    record { here = e ∙ ap (λ k. encode_utf8 x ++ drop k bs) (sym o); after = o ∙ ap (λ k. i + k) (sym (len_utf8_ascii x h)) }

-- any character, by its encoding
pub passes_wide : (old new : TextWalk) (c : ℕ) (rest : List ℕ) → drop old.offset old.text.now ≡ encode_utf8 c ++ rest → new.offset ≡ old.offset + len_utf8 c → Passes c old new
passes_wide old new c rest e o =
    let rest_is : drop new.offset old.text.now ≡ rest = ap (λ k. drop k old.text.now) o ∙ drop_past_char old.text.now rest old.offset c e in
    record { here = e ∙ ap (λ x. encode_utf8 c ++ x) (sym rest_is); after = o }

-- ---- what is ahead

pub nothing_ahead : (a : RunningPlace) → length a.walk.text.now ≤ a.walk.offset → ahead a ≡ []
nothing_ahead a h = ap chars (drop_all a.walk.offset a.walk.text.now h) ∙ chars-nil

pub some_ahead : (a : RunningPlace) → ahead a ≢ [] → a.walk.offset < length a.walk.text.now
some_ahead a some = by (cases_lt a.walk.offset (length a.walk.text.now))
  where
    by : (a.walk.offset < length a.walk.text.now) ⊎ (length a.walk.text.now ≤ a.walk.offset) → a.walk.offset < length a.walk.text.now
    by (inl l) = l
    by (inr g) = absurd (some (nothing_ahead a g))

pub ahead_past : (old new : TextWalk) (c : ℕ) → IsWalking old → new.text.now ≡ old.text.now → Passes c old new
    → chars (drop old.offset old.text.now) ≡ c ∷ chars (drop new.offset new.text.now)
ahead_past old new c k same p =
    let bs = old.text.now in
    chars_past_char (drop old.offset bs) (drop new.offset bs) c (IsUtf8-drop bs old.offset k.utf8 k.boundary) p.here
    ∙ ap (λ t. c ∷ chars (drop new.offset t)) (sym same)

pub one_past : (old new : TextWalk) (c : ℕ) → IsWalking old → Passes c old new → (at : ℕ) → IsCharBoundary old.text.now at → old.offset < at → new.offset ≤ at
one_past old new c k p at b l = ends_before old.text.now old.offset new.offset at c k.utf8 k.boundary b l p.here p.after

-- ---- running places

pub runs_at_start : (a : RunningPlace) → IsWalking a.walk → a.walk.offset ≡ 0 → a.line ≡ 1 → a.origin ≡ 0 → IsRunning a
runs_at_start a r o l b =
    let none : chars (take a.walk.offset a.walk.text.now) ≡ [] = ap (λ k. chars (take k a.walk.text.now)) o ∙ chars-nil in
    record {
      reading = r;
      line = l ∙ sym (ap (λ x. (place_after x).line) none);
      column = omega (arith, b, o, ap (λ x. (place_after x).column) none);
    }

-- the line and the column after one character more
line_past : (old new : RunningPlace) (c : ℕ) → IsRunning old → new.walk.text.now ≡ old.walk.text.now → Passes c old.walk new.walk
    → (place new.walk.text.now new.walk.offset).line ≡ old.line + cond (is_line_feed c) 1 0
line_past old new c r same p =
    let bs = old.walk.text.now in
    let k = r.reading in
    let more : chars (take new.walk.offset new.walk.text.now) ≡ chars (take old.walk.offset bs) ++ c ∷ [] =
    ap (λ t. chars (take new.walk.offset t)) same ∙ chars_past bs old.walk.offset new.walk.offset c k.utf8 k.boundary p.here p.after in
    ap (λ x. (place_after x).line) more ∙ line_push (chars (take old.walk.offset bs)) c ∙ ap (λ n. n + cond (is_line_feed c) 1 0) (sym r.line)

column_past : (old new : RunningPlace) (c : ℕ) → IsRunning old → new.walk.text.now ≡ old.walk.text.now → Passes c old.walk new.walk
    → (place new.walk.text.now new.walk.offset).column ≡ cond (is_in_line c) ((place old.walk.text.now old.walk.offset).column + 1) 1
column_past old new c r same p =
    let bs = old.walk.text.now in
    let k = r.reading in
    let more : chars (take new.walk.offset new.walk.text.now) ≡ chars (take old.walk.offset bs) ++ c ∷ [] =
    ap (λ t. chars (take new.walk.offset t)) same ∙ chars_past bs old.walk.offset new.walk.offset c k.utf8 k.boundary p.here p.after in
    ap (λ x. (place_after x).column) more ∙ column_push (chars (take old.walk.offset bs)) c

-- a character within a line: the origin moves on by the bytes that it takes beside the first
pub runs_in_line : (old new : RunningPlace) (c : ℕ) → IsRunning old → IsWalking new.walk → new.walk.text.now ≡ old.walk.text.now → Passes c old.walk new.walk
    → is_in_line c ≡ true → is_line_feed c ≡ false → new.line ≡ old.line → new.origin + (old.walk.offset + 1) ≡ old.origin + new.walk.offset → IsRunning new
runs_in_line old new c r k same p i f l b =
    let x = line_past old new c r same p in
    let y = column_past old new c r same p in
    let line_stays : old.line + cond (is_line_feed c) 1 0 ≡ old.line + 0 = rw f refl in
    record {
      reading = k;
      line = l ∙ omega (arith, x, line_stays);
      column = omega (arith, y, ap (λ v. cond v ((place old.walk.text.now old.walk.offset).column + 1) 1) i, b, r.column);
    }

-- a character that ends a line, or begins its columns anew
pub runs_anew : (old new : RunningPlace) (c : ℕ) → IsRunning old → IsWalking new.walk → new.walk.text.now ≡ old.walk.text.now → Passes c old.walk new.walk
    → is_in_line c ≡ false → new.line ≡ old.line + cond (is_line_feed c) 1 0 → new.origin ≡ new.walk.offset → IsRunning new
runs_anew old new c r k same p i l b =
    let x = line_past old new c r same p in
    let y = column_past old new c r same p in
    record {
      reading = k;
      line = l ∙ sym x;
      column = omega (arith, y, ap (λ v. cond v ((place old.walk.text.now old.walk.offset).column + 1) 1) i, b);
    }

pub running_bound : (a : RunningPlace) → IsRunning a → a.line < 2 ^ 63 + 1
running_bound a r =
    let bs = a.walk.text.now in
    let k = r.reading in
    omega (arith, r.line, line_bound (chars (take a.walk.offset bs)), length-chars (take a.walk.offset bs) (IsUtf8-take bs a.walk.offset k.utf8 k.boundary), length-take a.walk.offset bs, k.bound)
