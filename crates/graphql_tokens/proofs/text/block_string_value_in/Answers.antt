use Rattle.std.proofs.Common.{◌≡◌, ◌++◌, ℕ, List, [], cond, ltb, length, refl, sym, ap, ◌∙◌, subst}
use Rattle.std.specs.Prelude.{string_bytes}
use Rattle.std.proofs.lemmas.Result.{IfOk-weaker}
use Rattle.std.proofs.lemmas.Str.{IsUtf8-string_bytes}
use Rattle.std.specs.Str.{chars}
use Rattle.graphql_tokens.specs.tokens.BlockText.{block_value, common_indent, lines_of}
use Rattle.graphql_tokens.specs.inner.Blocks.{counted, written, IsPlainBetween}
use Rattle.graphql_tokens.proofs.BlockValue.{whole}
use Rattle.graphql_tokens.proofs.BlockAnswers.{none_value, some_value, code_value, plain_value, cut_later, cut_first}
use Rattle.graphql_tokens.proofs.BlockChars.{value_chars, no_bytes}
use Rattle.graphql_tokens.proofs.text.block_string_value_in.Goals as goal
use Rattle.graphql_tokens.proofs.text.block_string_value_in.Goals.{then-is_later, else-is_later}

pub returns-in_default-clause-value : goal.returns-in_default-clause-value
returns-in_default-clause-value c =
    let none : block_value c.as_bytes.result.now ≡ [] = none_value c.as_bytes.result.now c.in_default.ensures in
    value_chars c.args.raw.now (string_bytes c.empty_text.result) c.utf8.raw (IsUtf8-string_bytes c.empty_text.result)
    (c.empty_text.ensures ∙ sym none ∙ ap block_value c.as_bytes.ensures.value)

pub returns-then-is_plain-clause-value : goal.returns-then-is_plain-clause-value
returns-then-is_plain-clause-value c =
    let raw = c.args.raw.now in
    let text = c.range-text.result.now in
    let n = c.common_indent-indent.result in
    let v = code_value _ _ _ _ _ _ _ _ _ c.as_bytes.ensures.value c.in-Some.ensures c.range_from-text.ensures.value c.as_bytes-2.ensures.value c.last_text.ensures
    (c.range-text.ensures.value ∙ whole c.last_text.result c.range_from-text.result.now) c.as_bytes-3.ensures.value c.common_indent-indent.ensures in
    let k : c.as_bytes-4.result.now ≡ text = c.as_bytes-4.ensures.value in
    let plain : IsPlainBetween text 0 (length text) = subst (λ (x : List ℕ). IsPlainBetween x 0 (length x)) k (c.is_plain-is_plain.ensures c.if-is_plain.true) in
    let is = plain_value raw text c.in-Some.first n c.if-indent-eq0.true plain v in
    IfOk-weaker c.text_of.result (λ s. string_bytes s ≡ text) (λ s. chars (string_bytes s) ≡ block_value (chars raw))
    (λ s e. value_chars raw (string_bytes s) c.utf8.raw (IsUtf8-string_bytes s) (e ∙ sym is)) c.text_of.ensures.text

pub returns-clause-value : goal.returns-clause-value
returns-clause-value c =
    let raw = c.args.raw.now in
    let text = c.range-text.result.now in
    let n = c.common_indent-indent.result in
    let v = code_value _ _ _ _ _ _ _ _ _ c.as_bytes.ensures.value c.in-Some.ensures c.range_from-text.ensures.value c.as_bytes-2.ensures.value c.last_text.ensures
    (c.range-text.ensures.value ∙ whole c.last_text.result c.range_from-text.result.now) c.as_bytes-3.ensures.value c.common_indent-indent.ensures in
    let cut : c.if-is_later.first_indent ≡ cond (ltb 0 c.in-Some.first) n 0 = elim c.if-is_later.branch [ then-is_later w ↦ w.first_indent-is ∙ cut_later c.in-Some.first n w.if-is_later.true | else-is_later w ↦ w.first_indent-is ∙ cut_first c.in-Some.first n w.if-is_later.false ] in
    let new = string_bytes c.push_lines.new.value in
    let is : new ≡ written c.if-is_later.first_indent n (lines_of text) = c.in_ok-push_lines.ensures.value ∙ ap (λ x. x ++ written c.if-is_later.first_indent n (lines_of text)) c.in_ok-value-2.ensures.text in
    value_chars raw new c.utf8.raw (IsUtf8-string_bytes c.push_lines.new.value) (is ∙ ap (λ k. written k n (lines_of text)) cut ∙ sym v)

pub returns-then-is_plain-clause-empty : goal.returns-then-is_plain-clause-empty
returns-then-is_plain-clause-empty c = λ empty.
    absurd (some_value c.args.raw.now c.as_bytes.result.now c.in-Some.first c.as_bytes.ensures.value c.in-Some.ensures (no_bytes c.args.raw.now c.utf8.raw empty))

pub returns-in_err-value-2-clause-empty : goal.returns-in_err-value-2-clause-empty
returns-in_err-value-2-clause-empty c = λ empty.
    absurd (some_value c.args.raw.now c.as_bytes.result.now c.in-Some.first c.as_bytes.ensures.value c.in-Some.ensures (no_bytes c.args.raw.now c.utf8.raw empty))

pub returns-in_err-push_lines-clause-empty : goal.returns-in_err-push_lines-clause-empty
returns-in_err-push_lines-clause-empty c = λ empty.
    absurd (some_value c.args.raw.now c.as_bytes.result.now c.in-Some.first c.as_bytes.ensures.value c.in-Some.ensures (no_bytes c.args.raw.now c.utf8.raw empty))

pub returns-in-Some-one_line-clause-value : goal.returns-in-Some-one_line-clause-value
returns-in-Some-one_line-clause-value c =
    let raw = c.args.raw.now in
    let text = c.range-text.result.now in
    let line = c.in-Some-one_line.line.now in
    let v = code_value _ _ _ _ _ _ _ _ (common_indent (counted (ltb 0 c.in-Some.first) (lines_of text))) c.as_bytes.ensures.value c.in-Some.ensures c.range_from-text.ensures.value c.as_bytes-2.ensures.value c.last_text.ensures
    (c.range-text.ensures.value ∙ whole c.last_text.result c.range_from-text.result.now) refl refl in
    let new = string_bytes c.push_text.new.text in
    let is : new ≡ line = c.in_ok-push_text.ensures.text ∙ ap (λ x. x ++ line) c.in_ok-value.ensures.text in
    value_chars raw new c.utf8.raw (IsUtf8-string_bytes c.push_text.new.text) (is ∙ c.in-Some-one_line.ensures.line ∙ sym v)

pub returns-in_err-value-clause-empty : goal.returns-in_err-value-clause-empty
returns-in_err-value-clause-empty c = λ empty.
    absurd (some_value c.args.raw.now c.as_bytes.result.now c.in-Some.first c.as_bytes.ensures.value c.in-Some.ensures (no_bytes c.args.raw.now c.utf8.raw empty))

pub returns-in_err-push_text-clause-empty : goal.returns-in_err-push_text-clause-empty
returns-in_err-push_text-clause-empty c = λ empty.
    absurd (some_value c.args.raw.now c.as_bytes.result.now c.in-Some.first c.as_bytes.ensures.value c.in-Some.ensures (no_bytes c.args.raw.now c.utf8.raw empty))

pub push_lines-requires-clause-plain : goal.push_lines-requires-clause-plain
push_lines-requires-clause-plain c = λ is. subst (λ (x : List ℕ). IsPlainBetween x 0 (length x)) c.as_bytes-4.ensures.value (c.is_plain-is_plain.ensures is)
