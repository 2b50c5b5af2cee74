use Rattle.std.proofs.Common.{◌≡◌, ◌≤◌, ◌<◌, ◌+◌, ◌-◌, ◌++◌, ◌∷◌, ℕ, List, [], Some, None, take, drop, length, length-append, length-drop, length-take, sym, ap, ◌∙◌, refl, inl, inr, arith}
use Rattle.std.specs.Str.{chars}
use Rattle.std.specs.Prelude.{string_bytes, encode_utf8}
use Rattle.std.proofs.lemmas.List.{take_all, take_rest}
use Rattle.std.proofs.lemmas.Str.{IsUtf8-string_bytes, IsUtf8-nil, IsCharBoundary-start}
use Rattle.graphql_tokens.specs.tokens.Edition.{Current}
use Rattle.graphql_tokens.specs.tokens.Strings.{StringMeans}
use Rattle.graphql_tokens.specs.inner.Escapes.{escape_at}
use Rattle.graphql_tokens.proofs.Contents.{former_means, past_run, past_push, no_content, means_once, all_plain, nothing, escape_some, escape_wide}
use Rattle.graphql_tokens.proofs.text.string_value_in.Goals as goal

-- the character of an escape has no more bytes than the escape
char_fits : (c n : ℕ) (text : List ℕ) → Some (c, n) ≡ escape_at text → length (encode_utf8 c) ≤ 4 → (c < 128 → encode_utf8 c ≡ c ∷ []) → length (encode_utf8 c) ≤ n
char_fits c n text e few ascii =
    let some = escape_some text c n (sym e) in
    elim (escape_wide text c n (sym e)) [ inl low ↦ omega (arith, ap length (ascii low), some.0) | inr wide ↦ omega (arith, few, wide) ]

-- ---- a content without escapes

plain : (c : goal.In_ok-text_of) → StringMeans Current (chars c.args.content.now) (chars (string_bytes c.in_ok-text_of.field-0))
plain c =
    let bs = c.as_bytes-bytes.result.now in
    let m = all_plain bs c.past_plain-at.result c.as_bytes-bytes.ensures.utf8 (c.past_plain-at.ensures.value ∙ omega arith) (c.if-at-bytes.true) in
    rw (c.in_ok-text_of.ensures.text, ← c.as_bytes-bytes.ensures.value) m

pub returns-then-at-bytes-clause-some : goal.returns-then-at-bytes-clause-some
returns-then-at-bytes-clause-some c = plain c

pub returns-then-at-bytes-clause-only : goal.returns-then-at-bytes-clause-only
returns-then-at-bytes-clause-only c other m = means_once _ _ other (plain c) m

-- ---- the run at the front

pub range-requires-clause-end_boundary : goal.range-requires-clause-end_boundary
range-requires-clause-end_boundary c =
    let bs = c.as_bytes-bytes.result.now in
    let u = c.as_bytes-bytes.ensures.utf8 in
    let p = past_run bs [] _ 0 c.past_plain-at.result u IsUtf8-nil (IsCharBoundary-start bs u) nothing c.past_plain-at.ensures.value refl in
    rw (← c.as_bytes-bytes.ensures.value) p.boundary

pub loop-at-init : goal.loop-at-init
loop-at-init c =
    let bs = c.as_bytes-bytes.result.now in
    let u = c.as_bytes-bytes.ensures.utf8 in
    let n = c.past_plain-at.result in
    let run : c.range.result.now ≡ take (n - 0) (drop 0 bs) = c.range.ensures.value ∙ ap (λ x. take (n - 0) (drop 0 x)) (sym c.as_bytes-bytes.ensures.value) in
    let p = past_run bs [] c.range.result.now 0 n u IsUtf8-nil (IsCharBoundary-start bs u) nothing c.past_plain-at.ensures.value run in
    let is : string_bytes c.push_text.new.text ≡ c.range.result.now = c.in_ok-push_text.ensures.text ∙ ap (λ x. x ++ c.range.result.now) c.in_ok-value.ensures.text in
    let long : length c.range.result.now ≤ n = omega (arith, ap length run, length-take (n - 0) (drop 0 bs)) in
    let same = ap length c.as_bytes-bytes.ensures.value in
    let within = c.past_plain-at.ensures.within in
    let empty = ap length c.in_ok-value.ensures.text in
    let free = c.push_text.ensures.room (omega (arith, long, same, within, empty, c.in_ok-value.ensures.room)) in
    record {
      means = rw is p.means;
      boundary = p.boundary;
      fits = rw is long;
      within = within;
      room = omega (arith, same, c.in_ok-value.ensures.room, c.push_text.ensures.capacity);
      takes = rw free c.text_with_room.ensures.takes;
      stops = p.stops;
    }

-- ---- no escape

pub returns-in_default-clause-none : goal.returns-in_default-clause-none
returns-in_default-clause-none c content =
    let bs = c.as_bytes-bytes.result.now in
    let i = c.loop-at.at in
    let inv = c.loop-at.invariant in
    let none : escape_at (drop i bs) ≡ None = ap escape_at (sym (take_rest bs i)) ∙ sym c.in_default.ensures in
    let here : i < length bs = c.loop-at-test.true in
    no_content bs (string_bytes c.loop-at.value) i c.as_bytes-bytes.ensures.utf8 inv.boundary here inv.means (inv.stops here) none
    (rw c.as_bytes-bytes.ensures.value content)

-- ---- an escape, and the run after it

pub overflow_add-start : goal.overflow_add-start
overflow_add-start c =
    let e = past_push c.as_bytes-bytes.result.now (string_bytes c.loop-at.value) (string_bytes c.push_char.new.text) c.loop-at.at c.in-Some.c c.in-Some.len
    c.as_bytes-bytes.ensures.utf8 (IsUtf8-string_bytes c.loop-at.value) c.loop-at.invariant.boundary c.loop-at.invariant.means c.in-Some.ensures c.in_ok-push_char.ensures.text in
    let h = e.boundary.0 in
    omega (arith, c.as_bytes-bytes.ensures.len)

pub past_plain-at-requires-in-loop-at : goal.past_plain-at-requires-in-loop-at
past_plain-at-requires-in-loop-at c = let e = past_push c.as_bytes-bytes.result.now (string_bytes c.loop-at.value) (string_bytes c.push_char.new.text) c.loop-at.at c.in-Some.c c.in-Some.len
    c.as_bytes-bytes.ensures.utf8 (IsUtf8-string_bytes c.loop-at.value) c.loop-at.invariant.boundary c.loop-at.invariant.means c.in-Some.ensures c.in_ok-push_char.ensures.text in e.boundary.0

pub range-requires-in-loop-at-clause-start_boundary : goal.range-requires-in-loop-at-clause-start_boundary
range-requires-in-loop-at-clause-start_boundary c =
    let e = past_push c.as_bytes-bytes.result.now (string_bytes c.loop-at.value) (string_bytes c.push_char.new.text) c.loop-at.at c.in-Some.c c.in-Some.len
    c.as_bytes-bytes.ensures.utf8 (IsUtf8-string_bytes c.loop-at.value) c.loop-at.invariant.boundary c.loop-at.invariant.means c.in-Some.ensures c.in_ok-push_char.ensures.text in
    rw (← c.as_bytes-bytes.ensures.value) (λ _. e.boundary)

pub range-requires-in-loop-at-clause-end_boundary : goal.range-requires-in-loop-at-clause-end_boundary
range-requires-in-loop-at-clause-end_boundary c =
    let bs = c.as_bytes-bytes.result.now in
    let e = past_push c.as_bytes-bytes.result.now (string_bytes c.loop-at.value) (string_bytes c.push_char.new.text) c.loop-at.at c.in-Some.c c.in-Some.len
    c.as_bytes-bytes.ensures.utf8 (IsUtf8-string_bytes c.loop-at.value) c.loop-at.invariant.boundary c.loop-at.invariant.means c.in-Some.ensures c.in_ok-push_char.ensures.text in
    let p = past_run bs (string_bytes c.push_char.new.text) _ (c.loop-at.at + c.in-Some.len) c.past_plain-at-in-loop-at.result c.as_bytes-bytes.ensures.utf8 (IsUtf8-string_bytes c.push_char.new.text)
    e.boundary e.means c.past_plain-at-in-loop-at.ensures.value refl in
    rw (← c.as_bytes-bytes.ensures.value) p.boundary

pub loop-at-smaller : goal.loop-at-smaller
loop-at-smaller c =
    let some = escape_some _ c.in-Some.c c.in-Some.len (sym c.in-Some.ensures) in
    omega (arith, c.past_plain-at-in-loop-at.ensures.value, c.past_plain-at-in-loop-at.ensures.within, c.loop-at-test.true, some.0)

pub loop-at-preserved : goal.loop-at-preserved
loop-at-preserved c =
    let bs = c.as_bytes-bytes.result.now in
    let e = past_push c.as_bytes-bytes.result.now (string_bytes c.loop-at.value) (string_bytes c.push_char.new.text) c.loop-at.at c.in-Some.c c.in-Some.len
    c.as_bytes-bytes.ensures.utf8 (IsUtf8-string_bytes c.loop-at.value) c.loop-at.invariant.boundary c.loop-at.invariant.means c.in-Some.ensures c.in_ok-push_char.ensures.text in
    let i = c.loop-at.at + c.in-Some.len in
    let j = c.past_plain-at-in-loop-at.result in
    let run : c.range-in-loop-at.result.now ≡ take (j - i) (drop i bs) = c.range-in-loop-at.ensures.value ∙ ap (λ x. take (j - i) (drop i x)) (sym c.as_bytes-bytes.ensures.value) in
    let p = past_run bs (string_bytes c.push_char.new.text) c.range-in-loop-at.result.now i j c.as_bytes-bytes.ensures.utf8 (IsUtf8-string_bytes c.push_char.new.text)
    e.boundary e.means c.past_plain-at-in-loop-at.ensures.value run in
    let inv = c.loop-at.invariant in
    let ch = char_fits c.in-Some.c c.in-Some.len _ c.in-Some.ensures c.push_char.ensures.few c.push_char.ensures.ascii in
    let value = ap length c.in_ok-push_char.ensures.text ∙ length-append (string_bytes c.loop-at.value) (encode_utf8 c.in-Some.c) in
    let long : length c.range-in-loop-at.result.now ≤ j - i = omega (arith, ap length run, length-take (j - i) (drop i bs)) in
    let within = c.past_plain-at-in-loop-at.ensures.within in
    let from : i ≤ j = omega (arith, c.past_plain-at-in-loop-at.ensures.value) in
    let kept = c.push_char.ensures.room (omega (arith, ch, inv.fits, inv.room, from, within)) in
    let free = c.push_text-in-loop-at.ensures.room (omega (arith, ch, value, long, inv.fits, inv.room, from, within, c.push_char.ensures.capacity)) in
    record {
      means = rw c.in_ok-push_text-2.ensures.text p.means;
      boundary = p.boundary;
      fits = rw (ap length c.in_ok-push_text-2.ensures.text, length-append (string_bytes c.push_char.new.text) c.range-in-loop-at.result.now) (omega (arith, ch, value, long, inv.fits, from));
      within = within;
      room = omega (arith, inv.room, c.push_char.ensures.capacity, c.push_text-in-loop-at.ensures.capacity);
      takes = rw (free, kept) inv.takes;
      stops = p.stops;
    }

-- ---- what is taken

pub returns-in_default-clause-takes : goal.returns-in_default-clause-takes
returns-in_default-clause-takes c = c.loop-at.invariant.takes

pub returns-clause-takes : goal.returns-clause-takes
returns-clause-takes c = c.loop-at.invariant.takes

pub returns-in_err-push_char-clause-takes : goal.returns-in_err-push_char-clause-takes
returns-in_err-push_char-clause-takes c =
    let inv = c.loop-at.invariant in
    let ch = char_fits c.in-Some.c c.in-Some.len _ c.in-Some.ensures c.push_char.ensures.few c.push_char.ensures.ascii in
    let some = escape_some _ c.in-Some.c c.in-Some.len (sym c.in-Some.ensures) in
    rw (c.push_char.ensures.room (omega (arith, ch, inv.fits, inv.room, inv.within, some.1, length-drop c.loop-at.at c.as_bytes-bytes.result.now))) inv.takes

pub returns-in_err-push_text-2-clause-takes : goal.returns-in_err-push_text-2-clause-takes
returns-in_err-push_text-2-clause-takes c =
    let bs = c.as_bytes-bytes.result.now in
    let i = c.loop-at.at + c.in-Some.len in
    let j = c.past_plain-at-in-loop-at.result in
    let run : c.range-in-loop-at.result.now ≡ take (j - i) (drop i bs) = c.range-in-loop-at.ensures.value ∙ ap (λ x. take (j - i) (drop i x)) (sym c.as_bytes-bytes.ensures.value) in
    let inv = c.loop-at.invariant in
    let ch = char_fits c.in-Some.c c.in-Some.len _ c.in-Some.ensures c.push_char.ensures.few c.push_char.ensures.ascii in
    let value = ap length c.in_ok-push_char.ensures.text ∙ length-append (string_bytes c.loop-at.value) (encode_utf8 c.in-Some.c) in
    let long : length c.range-in-loop-at.result.now ≤ j - i = omega (arith, ap length run, length-take (j - i) (drop i bs)) in
    let within = c.past_plain-at-in-loop-at.ensures.within in
    let from : i ≤ j = omega (arith, c.past_plain-at-in-loop-at.ensures.value) in
    let kept = c.push_char.ensures.room (omega (arith, ch, inv.fits, inv.room, from, within)) in
    let free = c.push_text-in-loop-at.ensures.room (omega (arith, ch, value, long, inv.fits, inv.room, from, within, c.push_char.ensures.capacity)) in
    rw (free, kept) inv.takes

-- ---- the end

whole : (c : goal.After-loop-at) → StringMeans Current (chars c.args.content.now) (chars (string_bytes c.loop-at.value))
whole c =
    let bs = c.as_bytes-bytes.result.now in
    let inv = c.loop-at.invariant in
    let is : take c.loop-at.at bs ≡ c.args.content.now = take_all c.loop-at.at bs (omega arith) ∙ c.as_bytes-bytes.ensures.value in
    rw is at inv.means

pub returns-clause-some : goal.returns-clause-some
returns-clause-some c = whole c

pub returns-clause-only : goal.returns-clause-only
returns-clause-only c other m = means_once _ _ other (whole c) m

-- ---- the former edition

pub returns-then-at-bytes-clause-former : goal.returns-then-at-bytes-clause-former
returns-then-at-bytes-clause-former c value m = former_means _ value m

pub returns-in_err-text_of-clause-former : goal.returns-in_err-text_of-clause-former
returns-in_err-text_of-clause-former c value m = former_means _ value m

pub returns-in_err-value-clause-former : goal.returns-in_err-value-clause-former
returns-in_err-value-clause-former c value m = former_means _ value m

pub returns-in_err-push_text-clause-former : goal.returns-in_err-push_text-clause-former
returns-in_err-push_text-clause-former c value m = former_means _ value m

pub returns-in_default-clause-former : goal.returns-in_default-clause-former
returns-in_default-clause-former c value m = former_means _ value m

pub returns-in_err-push_char-clause-former : goal.returns-in_err-push_char-clause-former
returns-in_err-push_char-clause-former c value m = former_means _ value m

pub returns-in_err-push_text-2-clause-former : goal.returns-in_err-push_text-2-clause-former
returns-in_err-push_text-2-clause-former c value m = former_means _ value m

pub returns-clause-former : goal.returns-clause-former
returns-clause-former c value m = former_means _ value m
