-- A running place that passes the rest of a line, or the byte order mark.
use Rattle.std.proofs.Common.{◌≡◌, ℕ, ◌+◌, ◌≤◌, ◌<◌, Bool, true, false, cond, not, List, [], ◌∷◌, ◌++◌, length, take, drop, get_or, refl, sym, ap, ◌∙◌, append_assoc, arith, one-add}
use Rattle.std.proofs.lemmas.Bool.Decides.{nat_tests}
use Rattle.std.proofs.lemmas.List.{append_cancel_right, take-append-drop, drop-drop}
use Rattle.std.proofs.lemmas.List.Sums.{sum_by-append}
use Rattle.std.proofs.lemmas.Str.{IsUtf8-drop, IsCharBoundary-before_ascii, IsCharBoundary-after_ascii, encodes-chars}
use Rattle.std.specs.Char.{encode_utf8}
use Rattle.std.specs.List.{count_by, prefix_len}
use Rattle.std.specs.Str.{chars, IsUtf8, IsCharBoundary, encode_utf8_all}
use Rattle.graphql_tokens.specs.tokens.Place.{place_after, is_in_line, is_line_end, is_line_feed}
use Rattle.graphql_tokens.specs.inner.ByteClasses.{begins_mark}
use Rattle.graphql_tokens.specs.inner.Reading.{skip, past_line}
use Rattle.graphql_tokens.specs.inner.TextWalk.{Passes}
use Rattle.graphql_tokens.specs.inner.Running.{ahead, IsRunning}
use Rattle.graphql_tokens.specs.inner.Lexing.{IsFirstByte}
use Rattle.graphql_tokens.specs.declared.pos.text_walk.TextWalk.{TextWalk}
use Rattle.graphql_tokens.specs.declared.pos.running.RunningPlace.{RunningPlace}
use Rattle.graphql_tokens.proofs.Ahead.{skip_wide}
use Rattle.graphql_tokens.proofs.BlockLines.{end_low, line_end_of}
use Rattle.graphql_tokens.proofs.Chars.{chars_split}
use Rattle.graphql_tokens.proofs.Places.{line_push, column_push}
use Rattle.graphql_tokens.proofs.Running.{walks_past, ahead_past, runs_in_line}
use Rattle.graphql_tokens.proofs.Runs.{no_feed}
use Rattle.graphql_tokens.proofs.Scan.{IsAlike, span_chars, ascii_char}

-- ---- the rest of a line, in characters

-- what follows it
line_is : (text : List ℕ) → past_line text ≡ drop 1 (drop (prefix_len is_in_line text) text)
line_is [] = refl
line_is (c ∷ cs) = by (is_line_end c) (line_is cs)
  where
    by : (b : Bool) → past_line cs ≡ drop 1 (drop (prefix_len is_in_line cs) cs) → cond b cs (past_line cs) ≡ drop 1 (drop (cond (not b) (1 + prefix_len is_in_line cs) 0) (c ∷ cs))
    by true h = refl
    by false h = rw (one-add (prefix_len is_in_line cs)) h

-- no line begins in it
no_feeds : (text : List ℕ) → count_by is_line_feed (take (prefix_len is_in_line text) text) ≡ 0
no_feeds [] = refl
no_feeds (c ∷ cs) = by (is_in_line c) refl (no_feeds cs)
  where
    by : (b : Bool) → is_in_line c ≡ b → count_by is_line_feed (take (prefix_len is_in_line cs) cs) ≡ 0 → count_by is_line_feed (take (cond b (1 + prefix_len is_in_line cs) 0) (c ∷ cs)) ≡ 0
    by true e h =
        let body = take (prefix_len is_in_line cs) cs in
        let first : count_by is_line_feed (c ∷ []) ≡ 0 = ap (λ b. 0 + cond b 1 0) (no_feed c e) in
        rw (one-add (prefix_len is_in_line cs)) (omega (arith, sum_by-append (λ x. cond (is_line_feed x) 1 0) (c ∷ []) body, first, h))
    by false e h = refl

-- ---- and in bytes

high_in_line : (c : ℕ) → 128 ≤ c → is_in_line c ≡ true
high_in_line c h = grind (arith, nat_tests)

in_line_alike : IsAlike is_in_line
in_line_alike c d h k = high_in_line c h ∙ sym (high_in_line d k)

-- the line that goes on at an offset, and ends at another
record Line (bs : List ℕ) (i end : ℕ) : Type 0 where
  ends : is_in_line (get_or bs end 0) ≡ false
  after : IsCharBoundary bs (end + 1)
  ahead_is : drop (prefix_len is_in_line (chars (drop i bs))) (chars (drop i bs)) ≡ get_or bs end 0 ∷ chars (drop (end + 1) bs)

line_at : (bs : List ℕ) (i end : ℕ) → IsUtf8 bs → IsCharBoundary bs i → end ≡ i + prefix_len is_in_line (drop i bs) → end < length bs → Line bs i end
line_at bs i end u b e l =
    let n = prefix_len is_in_line (drop i bs) in
    let ends = line_end_of bs i end e l in
    let low = end_low (get_or bs end 0) ends in
    let span : drop (prefix_len is_in_line (chars (drop i bs))) (chars (drop i bs)) ≡ chars (drop n (drop i bs)) = sym (span_chars is_in_line in_line_alike (drop i bs) (IsUtf8-drop bs i u b)) in
    let there : drop n (drop i bs) ≡ drop end bs = drop-drop n i bs ∙ ap (λ k. drop k bs) (sym e) in
    record {
      ends = ends;
      after = IsCharBoundary-after_ascii bs end u l low;
      ahead_is = span ∙ ap chars there ∙ ascii_char bs end u (IsCharBoundary-before_ascii bs end l low) l low;
    }

-- what stands before the next line
line_front : (bs : List ℕ) (i end : ℕ) → IsUtf8 bs → IsCharBoundary bs i → Line bs i end
    → chars (take (end + 1) bs) ≡ (chars (take i bs) ++ take (prefix_len is_in_line (chars (drop i bs))) (chars (drop i bs))) ++ get_or bs end 0 ∷ []
line_front bs i end u b line =
    let before = chars (take i bs) in
    let text = chars (drop i bs) in
    let body = take (prefix_len is_in_line text) text in
    let c = get_or bs end 0 in
    let rest = chars (drop (end + 1) bs) in
    let parts : text ≡ body ++ (c ∷ rest) = sym (take-append-drop (prefix_len is_in_line text) text) ∙ ap (λ x. body ++ x) line.ahead_is in
    let whole : chars (take (end + 1) bs) ++ rest ≡ before ++ (body ++ (c ∷ rest)) =
    sym (chars_split bs (end + 1) u line.after) ∙ chars_split bs i u b ∙ ap (λ x. before ++ x) parts in
    append_cancel_right (chars (take (end + 1) bs)) ((before ++ body) ++ c ∷ []) rest
    (whole ∙ sym (append_assoc before body (c ∷ rest)) ∙ sym (append_assoc (before ++ body) (c ∷ []) rest))

same_line : (before text : List ℕ) → (place_after (before ++ take (prefix_len is_in_line text) text)).line ≡ (place_after before).line
same_line before text = omega (arith, sum_by-append (λ x. cond (is_line_feed x) 1 0) before (take (prefix_len is_in_line text) text), no_feeds text)

-- the columns begin anew after it
pub runs_past_line : (old new : RunningPlace) (end : ℕ) → IsRunning old → new.walk.text.now ≡ old.walk.text.now → new.walk.offset ≡ end + 1
    → end ≡ old.walk.offset + prefix_len is_in_line (drop old.walk.offset old.walk.text.now) → end < length old.walk.text.now
    → new.line ≡ old.line + cond (is_line_feed (get_or old.walk.text.now end 0)) 1 0 → new.origin ≡ new.walk.offset → IsRunning new
runs_past_line old new end r same o e l line origin =
    let bs = old.walk.text.now in
    let k = r.reading in
    let text = chars (drop old.walk.offset bs) in
    let front = chars (take old.walk.offset bs) ++ take (prefix_len is_in_line text) text in
    let c = get_or bs end 0 in
    let at = line_at bs old.walk.offset end k.utf8 k.boundary e l in
    let is : chars (take new.walk.offset new.walk.text.now) ≡ front ++ c ∷ [] = ap (λ t. chars (take new.walk.offset t)) same ∙ ap (λ i. chars (take i bs)) o ∙ line_front bs old.walk.offset end k.utf8 k.boundary at in
    record {
      reading = record { boundary = rw (same, o) at.after; utf8 = rw same k.utf8; bound = rw same k.bound };
      line = omega (arith, line, r.line, ap (λ x. (place_after x).line) is, line_push front c, same_line (chars (take old.walk.offset bs)) text);
      column = omega (arith, origin, ap (λ x. (place_after x).column) is, column_push front c, ap (λ v. cond v ((place_after front).column + 1) 1) at.ends);
    }

pub ahead_past_line : (old new : RunningPlace) (end : ℕ) → IsRunning old → new.walk.text.now ≡ old.walk.text.now → new.walk.offset ≡ end + 1
    → end ≡ old.walk.offset + prefix_len is_in_line (drop old.walk.offset old.walk.text.now) → end < length old.walk.text.now → ahead new ≡ past_line (ahead old)
ahead_past_line old new end r same o e l =
    let bs = old.walk.text.now in
    let k = r.reading in
    let at = line_at bs old.walk.offset end k.utf8 k.boundary e l in
    ap (λ t. chars (drop new.walk.offset t)) same ∙ ap (λ i. chars (drop i bs)) o ∙ sym (line_is (ahead old) ∙ ap (drop 1) at.ahead_is)

-- ---- the byte order mark

mark_is : (xs : List ℕ) → begins_mark xs ≡ true → xs ≡ encode_utf8 0xFEFF ++ drop 3 xs
unfolding encode_utf8
mark_is [] h = absurd (cc)
mark_is (a ∷ []) h = absurd (grind (arith, nat_tests))
mark_is (a ∷ b ∷ []) h = absurd (grind (arith, nat_tests))
mark_is (a ∷ b ∷ c ∷ rest) h =
    let x : a ≡ 239 = grind (arith, nat_tests) in
    let y : b ≡ 187 = grind (arith, nat_tests) in
    let z : c ≡ 191 = grind (arith, nat_tests) in
    rw (x, y, z) refl

pub passes_mark : (old new : TextWalk) → begins_mark (drop old.offset old.text.now) ≡ true → new.offset ≡ old.offset + 3 → Passes 0xFEFF old new
passes_mark old new h o =
    let bs = old.text.now in
    record { here = mark_is (drop old.offset bs) h ∙ ap (λ x. encode_utf8 0xFEFF ++ x) (drop-drop 3 old.offset bs ∙ ap (λ k. drop k bs) (sym o)); after = o }

pub runs_past_mark : (old new : RunningPlace) → IsRunning old → new.walk.text.now ≡ old.walk.text.now → begins_mark (drop old.walk.offset old.walk.text.now) ≡ true
    → new.walk.offset ≡ old.walk.offset + 3 → new.line ≡ old.line → new.origin ≡ old.origin + 2 → IsRunning new × (ahead old ≡ 0xFEFF ∷ ahead new)
runs_past_mark old new r same h o l b =
    let p = passes_mark old.walk new.walk h o in
    (runs_in_line old new 0xFEFF r (walks_past old.walk new.walk 0xFEFF r.reading same p) same p refl refl l (omega arith), ahead_past old.walk new.walk 0xFEFF r.reading same p)

-- another character past ASCII isn't ignored
pub wide_kept : (b : ℕ) (a : RunningPlace) → IsRunning a → IsFirstByte b (ahead a) → 128 ≤ b → begins_mark (drop a.walk.offset a.walk.text.now) ≡ false → ahead a ≡ skip (ahead a)
unfolding encode_utf8
wide_kept b a r f h n = by (ahead a) refl f
  where
    bs : List ℕ
    bs = drop a.walk.offset a.walk.text.now

    by : (cs : List ℕ) → ahead a ≡ cs → IsFirstByte b cs → cs ≡ skip cs
    by [] e k = absurd k
    by (c ∷ cs) e k = skip_wide b c (c ∷ cs) cs k refl h (λ is. let f = marked is in cc)
      where
        marked : c ≡ 0xFEFF → true ≡ false
        marked is =
            let bytes : bs ≡ encode_utf8_all (0xFEFF ∷ cs) = sym (encodes-chars bs (IsUtf8-drop a.walk.text.now a.walk.offset r.reading.utf8 r.reading.boundary)) ∙ ap encode_utf8_all (e ∙ ap (λ d. d ∷ cs) is) in
            sym (ap begins_mark bytes) ∙ n
