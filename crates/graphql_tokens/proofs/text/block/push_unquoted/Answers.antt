use Rattle.std.proofs.Common.{◌≡◌, ◌≤◌, ◌<◌, ◌+◌, ◌-◌, ◌++◌, ℕ, List, take, drop, length, length-append, length-take, sym, ap, ◌∙◌, refl, arith}
use Rattle.std.specs.Prelude.{string_bytes}
use Rattle.std.proofs.lemmas.Str.{IsCharBoundary-start}
use Rattle.graphql_tokens.specs.tokens.BlockText.{unquoted}
use Rattle.graphql_tokens.proofs.BlockQuotes.{unquoted_quotes, quotes_boundary, after_slash, push_run, push_end}
use Rattle.graphql_tokens.proofs.text.block.push_unquoted.Goals as goal

pub loop-at-init : goal.loop-at-init
loop-at-init c = record {
  written = refl;
  boundary = IsCharBoundary-start c.as_bytes-bytes.result.now c.as_bytes-bytes.ensures.utf8;
  room = (let same = ap length c.as_bytes-bytes.ensures.value in omega (arith, same));
  capacity = omega arith;
  free = refl;
}

-- what is pushed has no more bytes than were passed, so that it fits
fits : (value range part : List ℕ) (n i j cap : ℕ) → range ≡ take (j - i) part → length value + (n - i) ≤ cap → i ≤ j → j ≤ n → length value + length range + (n - j) ≤ cap
fits value range part n i j cap is room le within = omega (arith, ap length is, length-take (j - i) part)

pub returns-then-end-bytes-clause-capacity : goal.returns-then-end-bytes-clause-capacity
returns-then-end-bytes-clause-capacity c = omega (arith, c.loop-at.invariant.capacity, c.push_text.ensures.capacity)

pub range-requires-clause-end_boundary : goal.range-requires-clause-end_boundary
range-requires-clause-end_boundary c =
    let b = quotes_boundary c.as_bytes-bytes.result.now c.next_quotes-end.result c.next_quotes-end.ensures.within c.next_quotes-end.ensures.here in
    rw (← c.as_bytes-bytes.ensures.value) b

pub returns-then-end-bytes-clause-value : goal.returns-then-end-bytes-clause-value
returns-then-end-bytes-clause-value c =
    let bs = c.as_bytes-bytes.result.now in
    let i = c.loop-at.at in
    let j = c.next_quotes-end.result in
    let run = c.range.ensures.value ∙ ap (λ x. take (j - i) (drop i x)) (sym c.as_bytes-bytes.ensures.value) in
    let pushed = push_run bs _ (string_bytes c.loop-at.value) (string_bytes c.push_text.new.text) c.range.result.now i j c.loop-at.invariant.written
    c.next_quotes-end.ensures.none c.next_quotes-end.ensures.from run c.in_ok-push_text.ensures.text in
    push_end bs _ (string_bytes c.push_text.new.text) j pushed (omega arith) ∙ ap (λ x. string_bytes c.args.value.now ++ unquoted x) c.as_bytes-bytes.ensures.value

pub loop-at-preserved : goal.loop-at-preserved
loop-at-preserved c =
    let bs = c.as_bytes-bytes.result.now in
    let i = c.loop-at.at in
    let j = c.next_quotes-end.result in
    let more = fits (string_bytes c.loop-at.value) c.range.result.now _ _ i j _ c.range.ensures.value c.loop-at.invariant.room c.next_quotes-end.ensures.from c.next_quotes-end.ensures.within in
    let l : j < length bs = (let w = c.next_quotes-end.ensures.within in let n = c.if-end-bytes.false in omega arith) in
    let here = c.next_quotes-end.ensures.here l in
    let run = c.range.ensures.value ∙ ap (λ x. take (j - i) (drop i x)) (sym c.as_bytes-bytes.ensures.value) in
    let pushed = push_run bs _ (string_bytes c.loop-at.value) (string_bytes c.push_text.new.text) c.range.result.now i j c.loop-at.invariant.written
    c.next_quotes-end.ensures.none c.next_quotes-end.ensures.from run c.in_ok-push_text.ensures.text in
    record {
      written = ap (λ x. string_bytes c.push_text.new.text ++ x) (sym (unquoted_quotes bs j here)) ∙ pushed;
      boundary = after_slash bs j c.as_bytes-bytes.ensures.utf8 l here;
      room = rw (ap length c.in_ok-push_text.ensures.text, length-append (string_bytes c.loop-at.value) c.range.result.now) (omega (arith, more, c.push_text.ensures.capacity));
      capacity = omega (arith, c.loop-at.invariant.capacity, c.push_text.ensures.capacity);
      free = c.push_text.ensures.room (omega (arith, more)) ∙ c.loop-at.invariant.free;
    }

pub returns-then-end-bytes-clause-free : goal.returns-then-end-bytes-clause-free
returns-then-end-bytes-clause-free c =
    let more = fits (string_bytes c.loop-at.value) c.range.result.now _ _ c.loop-at.at c.next_quotes-end.result _ c.range.ensures.value c.loop-at.invariant.room c.next_quotes-end.ensures.from c.next_quotes-end.ensures.within in
    c.push_text.ensures.room (omega (arith, more)) ∙ c.loop-at.invariant.free

pub returns-in_err-push_text-clause-free : goal.returns-in_err-push_text-clause-free
returns-in_err-push_text-clause-free c =
    let more = fits (string_bytes c.loop-at.value) c.range.result.now _ _ c.loop-at.at c.next_quotes-end.result _ c.range.ensures.value c.loop-at.invariant.room c.next_quotes-end.ensures.from c.next_quotes-end.ensures.within in
    c.push_text.ensures.room (omega (arith, more)) ∙ c.loop-at.invariant.free
