use Rattle.std.proofs.Common.{◌≡◌, ◌≤◌, ◌<◌, ◌-◌, ◌++◌, ◌∷◌, [], List, ℕ, cond, ltb, false, length, length-append, length-take, take, drop, sym, ap, ◌∙◌, subst, arith}
use Rattle.std.specs.Prelude.{OnOk, string_bytes}
use Rattle.std.proofs.lemmas.Bool.{lt-ltb}
use Rattle.std.proofs.lemmas.Bool.Decides.{nat_tests}
use Rattle.std.proofs.lemmas.List.{append-nil}
use Rattle.std.proofs.lemmas.Str.{IsCharBoundary-after_ascii}
use Rattle.graphql_tokens.specs.tokens.BlockText.{unquoted}
use Rattle.graphql_tokens.proofs.BlockQuotes.{unquoted_fits}
use Rattle.graphql_tokens.proofs.BlockPlain.{part_unquoted, plain_feed, with_feed}
use Rattle.graphql_tokens.proofs.text.block.push_line.Goals as goal

pub range-requires-clause-end_boundary : goal.range-requires-clause-end_boundary
range-requires-clause-end_boundary c =
    let lt : c.args.end < length c.args.text.now = (let l = c.if-end-bytes.true in omega (arith, ap length c.as_bytes-bytes.ensures.value)) in
    let feed = plain_feed c.args.text.now c.args.end (c.requires.plain c.if-is_plain.true) lt (c.requires.ends lt) in
    IsCharBoundary-after_ascii c.args.text.now c.args.end c.utf8.text lt (omega (arith, feed))

pub returns-then-end-bytes-clause-value : goal.returns-then-end-bytes-clause-value
returns-then-end-bytes-clause-value c =
    let bs = c.args.text.now in
    let from = c.args.from in
    let end = c.args.end in
    let plain = c.requires.plain c.if-is_plain.true in
    let lt : end < length bs = (let l = c.if-end-bytes.true in omega (arith, ap length c.as_bytes-bytes.ensures.value)) in
    let part = take (end - from) (drop from bs) in
    let is = c.range.ensures.value ∙ with_feed bs from end c.requires.order lt (plain_feed bs end plain lt (c.requires.ends lt))
    ∙ ap (λ x. x ++ 10 ∷ []) (sym (part_unquoted bs from (end - from) plain)) ∙ ap (λ b. unquoted part ++ cond b (10 ∷ []) []) (sym (lt-ltb end (length bs) lt)) in
    subst (λ (x : List ℕ). OnOk c.push_text.result (string_bytes c.push_text.new.text ≡ string_bytes c.args.value.now ++ x)) is c.push_text.ensures.text

pub returns-then-is_plain-clause-value : goal.returns-then-is_plain-clause-value
returns-then-is_plain-clause-value c =
    let bs = c.args.text.now in
    let from = c.args.from in
    let end = c.args.end in
    let last : ltb end (length bs) ≡ false = (let n = c.if-end-bytes.false in let same = ap length c.as_bytes-bytes.ensures.value in grind (arith, nat_tests)) in
    let part = take (end - from) (drop from bs) in
    let is = c.range-then-is_plain.ensures.value ∙ sym (part_unquoted bs from (end - from) (c.requires.plain c.if-is_plain.true))
    ∙ sym (append-nil (unquoted part)) ∙ ap (λ b. unquoted part ++ cond b (10 ∷ []) []) (sym last) in
    subst (λ (x : List ℕ). OnOk c.push_text-then-is_plain.result (string_bytes c.push_text-then-is_plain.new.text ≡ string_bytes c.args.value.now ++ x)) is c.push_text-then-is_plain.ensures.text

pub returns-then-end-bytes-2-clause-free : goal.returns-then-end-bytes-2-clause-free
returns-then-end-bytes-2-clause-free c =
    let lt : c.args.end < length c.args.text.now = (let l = c.if-end-bytes-2.true in omega (arith, ap length c.as_bytes-bytes.ensures.value)) in
    let part : List ℕ = c.range-2.result.now in
    let cut : length part ≤ c.args.end - c.args.from = omega (arith, ap length c.range-2.ensures.value, length-take (c.args.end - c.args.from) (drop c.args.from c.args.text.now)) in
    let more = ap length c.in_ok-push_unquoted.ensures.value ∙ length-append (string_bytes c.args.value.now) (unquoted part) in
    let feed = ap length (c.push_char.ensures.ascii (omega arith)) in
    c.push_char.ensures.room (omega (arith, c.requires.room, c.requires.order, lt, cut, unquoted_fits part, more, feed, c.push_unquoted.ensures.capacity)) ∙ c.push_unquoted.ensures.free
