use Rattle.std.proofs.Common.{◌≡◌, ◌≢◌, ℕ, ◌≤◌, ◌<◌, ◌+◌, ◌-◌, [], false, take, drop, get_or, sym, ap, ◌∙◌, refl, inl, inr, arith}
use Rattle.std.proofs.lemmas.Str.{IsCharBoundary-start}
use Rattle.graphql_tokens.specs.tokens.Place.{is_in_line}
use Rattle.graphql_tokens.specs.tokens.BlockText.{lines_of, from_text}
use Rattle.graphql_tokens.specs.inner.Blocks.{end_len}
use Rattle.graphql_tokens.proofs.BlockLines.{blank_line, text_line, line_at_end, line_before, end_boundary, from_text_blank, from_text_here, before_next}
use Rattle.graphql_tokens.proofs.text.block.first_text.Goals as goal

below : {at end : ℕ} → at ≤ end → at ≢ end → at < end
below within other = omega arith

pub loop-start-init : goal.loop-start-init
loop-start-init c = record { within = omega arith; boundary = IsCharBoundary-start c.args.bytes.now c.requires; lines = refl; before = λ n. absurd (n refl) }

pub returns-then-text-bytes : goal.returns-then-text-bytes
returns-then-text-bytes c =
    let bs = c.args.bytes.now in
    let i = c.loop-start.start in
    let j = c.past_blanks-text.result in
    let inv = c.loop-start.invariant in
    let b = blank_line bs i j c.past_blanks-text.ensures.value inv.within c.past_blanks-text.ensures.within (inl (omega arith)) in
    inv.lines ∙ ap from_text (line_at_end bs i j b.0 c.if-text-bytes.true inv.within) ∙ from_text_blank (take (j - i) (drop i bs)) [] b.1

pub returns-then-has : goal.returns-then-has
returns-then-has c =
    let inv = c.loop-start.invariant in
    let short = below c.past_blanks-text.ensures.within c.if-text-bytes.false in
    let here = text_line _ _ _ c.past_blanks-text.ensures.value inv.within short (sym c.has.ensures ∙ c.if-has.true) in
    record {
      within = inv.within;
      boundary = inv.boundary;
      lines = inv.lines ∙ from_text_here _ here;
      here = here;
      before = inv.before;
    }

pub loop-start-preserved : goal.loop-start-preserved
loop-start-preserved c =
    let bs = c.args.bytes.now in
    let i = c.loop-start.start in
    let j = c.past_blanks-text.result in
    let inv = c.loop-start.invariant in
    let l = below c.past_blanks-text.ensures.within c.if-text-bytes.false in
    let stops : is_in_line (get_or bs j 0) ≡ false = sym c.has.ensures ∙ c.if-has.false in
    let b = blank_line bs i j c.past_blanks-text.ensures.value inv.within c.past_blanks-text.ensures.within (inr stops) in
    let next = c.next_line-start.ensures.value in
    record {
      within = c.next_line-start.ensures.within;
      boundary = rw next (end_boundary bs j c.requires l stops);
      lines = inv.lines ∙ ap from_text (line_before bs i j b.0 l) ∙ from_text_blank (take (j - i) (drop i bs)) (lines_of (drop (j + end_len (drop j bs)) bs)) b.1 ∙ ap (λ k. from_text (lines_of (drop k bs))) (sym next);
      before = λ _. before_next bs i j b.0 inv.within b.1 inv.before;
    }
