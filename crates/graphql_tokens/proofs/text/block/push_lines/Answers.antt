use Rattle.std.proofs.Common.{◌≡◌, ◌≤◌, ◌<◌, ◌+◌, ◌-◌, ◌++◌, ◌∷◌, [], ℕ, List, Bool, true, false, cond, ltb, min, take, drop, append_assoc, length, length-append, length-take, sym, ap, ◌∙◌, refl, subst, arith}
use Rattle.std.specs.Prelude.{string_bytes}
use Rattle.std.specs.List.{prefix_len}
use Rattle.std.specs.Str.{IsCharBoundary}
use Rattle.std.proofs.lemmas.Bool.{lt-ltb}
use Rattle.std.proofs.lemmas.Bool.Decides.{nat_tests}
use Rattle.std.proofs.lemmas.List.{append-nil}
use Rattle.std.proofs.lemmas.Str.{IsCharBoundary-start}
use Rattle.graphql_tokens.specs.tokens.Place.{is_in_line}
use Rattle.graphql_tokens.specs.tokens.BlockText.{is_blank_char, unquoted, lines_of}
use Rattle.graphql_tokens.specs.inner.Blocks.{cleaned, written}
use Rattle.graphql_tokens.proofs.BlockLines.{blank_boundary, line_from_blanks, line_end_of, end_boundary}
use Rattle.graphql_tokens.proofs.BlockPlain.{Cut, cut}
use Rattle.graphql_tokens.proofs.BlockQuotes.{unquoted_fits}
use Rattle.graphql_tokens.proofs.BlockWritten.{written_end, written_step}
use Rattle.graphql_tokens.proofs.text.block.push_lines.Goals as goal

pub lines-init : goal.lines-init
lines-init c = record {
  within = omega arith;
  boundary = IsCharBoundary-start c.as_bytes-bytes.result.now c.as_bytes-bytes.ensures.utf8;
  room = omega (arith, c.requires.room, ap length c.as_bytes-bytes.ensures.value);
  free = refl;
  rest = refl;
}

-- What holds of a line, of which nothing is written yet.
record Line (bs : List ℕ) (at blanks end from here : ℕ) : Type 0 where
  is : end ≡ at + prefix_len is_in_line (drop at bs)
  goes : Cut bs at blanks end from here

line : (bs : List ℕ) (at blanks end from here : ℕ) → at ≤ length bs → blanks ≤ length bs → blanks ≡ at + prefix_len is_blank_char (drop at bs)
    → end ≡ blanks + prefix_len is_in_line (drop blanks bs) → from ≡ cond (ltb (end - at) here) at (min blanks (at + here)) → Line bs at blanks end from here
line bs at blanks end from here w v b e f =
    let is = line_from_blanks bs at blanks end b v e in
    record { is = is; goes = cut bs at blanks end from here b is w f }

-- the line goes on at a boundary
pub push_line-requires-clause-starts : goal.push_line-requires-clause-starts
push_line-requires-clause-starts c =
    let bs = c.as_bytes-bytes.ensures in
    let inv = c.lines.invariant in
    let b = c.past_blanks-blanks.ensures in
    let goes = (line _ _ _ _ _ _ inv.within b.within b.value c.past_line-end.ensures.value c.past_indent-from.ensures).goes in
    subst (λ (x : List ℕ). IsCharBoundary x c.past_indent-from.result) bs.value (blank_boundary _ c.lines.at c.past_indent-from.result bs.utf8 inv.boundary goes.forward (omega (arith, goes.among, b.value)))

pub push_line-requires-clause-ends : goal.push_line-requires-clause-ends
push_line-requires-clause-ends c =
    let inv = c.lines.invariant in
    let b = c.past_blanks-blanks.ensures in
    let is = (line _ _ _ _ _ _ inv.within b.within b.value c.past_line-end.ensures.value c.past_indent-from.ensures).is in
    let stops = line_end_of c.as_bytes-bytes.result.now c.lines.at c.past_line-end.result is in
    rw (← c.as_bytes-bytes.ensures.value) stops

-- the line fits
pub push_line-requires-clause-room : goal.push_line-requires-clause-room
push_line-requires-clause-room c =
    let inv = c.lines.invariant in
    let b = c.past_blanks-blanks.ensures in
    let goes = (line _ _ _ _ _ _ inv.within b.within b.value c.past_line-end.ensures.value c.past_indent-from.ensures).goes in
    omega (arith, inv.room, goes.forward, ap length c.as_bytes-bytes.ensures.value)

-- what a line adds, and whether a line feed goes with it
adds : (bs text value new : List ℕ) (at blanks end from here : ℕ) (more : Bool) → bs ≡ text → Cut bs at blanks end from here → ltb end (length bs) ≡ more
    → new ≡ value ++ (unquoted (take (end - from) (drop from text)) ++ cond (ltb end (length text)) (10 ∷ []) [])
    → new ≡ value ++ (cleaned here (take (end - at) (drop at bs)) ++ cond more (10 ∷ []) [])
adds bs text value new at blanks end from here more same goes t e =
    e ∙ ap (λ x. value ++ (unquoted (take (end - from) (drop from x)) ++ cond (ltb end (length x)) (10 ∷ []) [])) (sym same)
    ∙ ap (λ x. value ++ (unquoted x ++ cond (ltb end (length bs)) (10 ∷ []) [])) goes.line
    ∙ ap (λ b. value ++ (cleaned here (take (end - at) (drop at bs)) ++ cond b (10 ∷ []) [])) t

pub returns-then-end-bytes-clause-value : goal.returns-then-end-bytes-clause-value
returns-then-end-bytes-clause-value c =
    let bs = c.as_bytes-bytes.result.now in
    let same = c.as_bytes-bytes.ensures.value in
    let inv = c.lines.invariant in
    let b = c.past_blanks-blanks.ensures in
    let end = c.past_line-end.result in
    let l = line _ _ _ _ _ _ inv.within b.within b.value c.past_line-end.ensures.value c.past_indent-from.ensures in
    let last : ltb end (length bs) ≡ false = (let e = c.if-end-bytes.true in grind (arith, nat_tests)) in
    let added = adds bs _ (string_bytes c.lines.value) (string_bytes c.push_line.new.value) c.lines.at c.past_blanks-blanks.result end c.past_indent-from.result c.lines.here false same l.goes last c.in_ok-push_line.ensures.value in
    written_end bs _ (string_bytes c.lines.value) (string_bytes c.push_line.new.value) c.lines.here c.args.indent c.lines.at end l.is c.if-end-bytes.true inv.within inv.rest
    (added ∙ ap (λ x. string_bytes c.lines.value ++ x) (append-nil (cleaned c.lines.here (take (end - c.lines.at) (drop c.lines.at bs)))))
    ∙ ap (λ x. string_bytes c.args.value.now ++ written c.args.first_indent c.args.indent (lines_of x)) same

feed_fits : (b : Bool) → length {A = ℕ} (cond b (10 ∷ []) []) ≤ 1
feed_fits true = omega arith
feed_fits false = omega arith

pub lines-preserved : goal.lines-preserved
lines-preserved c =
    let bs = c.as_bytes-bytes.result.now in
    let same = c.as_bytes-bytes.ensures.value in
    let inv = c.lines.invariant in
    let b = c.past_blanks-blanks.ensures in
    let i = c.lines.at in
    let end = c.past_line-end.result in
    let value = string_bytes c.lines.value in
    let lt : end < length bs = (let w = c.past_line-end.ensures.within in let n = c.if-end-bytes.false in omega arith) in
    let l = line _ _ _ _ _ _ inv.within b.within b.value c.past_line-end.ensures.value c.past_indent-from.ensures in
    let text = cleaned c.lines.here (take (end - i) (drop i bs)) in
    let from = c.past_indent-from.result in
    let part : List ℕ = take (end - from) (drop from c.args.text.now) in
    let feed : List ℕ = cond (ltb end (length c.args.text.now)) (10 ∷ []) [] in
    let cut_fits : length part ≤ end - from = omega (arith, length-take (end - from) (drop from c.args.text.now)) in
    let added = adds bs _ value (string_bytes c.push_line.new.value) i c.past_blanks-blanks.result end c.past_indent-from.result c.lines.here true same l.goes (lt-ltb end (length bs) lt) c.in_ok-push_line.ensures.value in
    record {
      within = c.next_line-at.ensures.within;
      boundary = rw c.next_line-at.ensures.value (end_boundary bs end c.as_bytes-bytes.ensures.utf8 lt (line_end_of bs i end l.is lt));
      room = rw (ap length c.in_ok-push_line.ensures.value, length-append value (unquoted part ++ feed), length-append (unquoted part) feed)
          (omega (arith, inv.room, l.goes.forward, l.goes.within, unquoted_fits part, cut_fits, feed_fits (ltb end (length c.args.text.now)), c.next_line-at.ensures.after, c.next_line-at.ensures.within, c.push_line.ensures.capacity, ap length same));
      free = c.push_line.ensures.free ∙ inv.free;
      rest = written_step bs _ value (value ++ text) (string_bytes c.push_line.new.value) c.lines.here c.args.indent i end c.next_line-at.result l.is lt c.next_line-at.ensures.value inv.rest refl
          (added ∙ sym (append_assoc value text (10 ∷ [])));
    }

pub returns-then-end-bytes-clause-free : goal.returns-then-end-bytes-clause-free
returns-then-end-bytes-clause-free c = c.push_line.ensures.free ∙ c.lines.invariant.free

pub returns-in_err-push_line-clause-free : goal.returns-in_err-push_line-clause-free
returns-in_err-push_line-clause-free c = c.push_line.ensures.free ∙ c.lines.invariant.free
