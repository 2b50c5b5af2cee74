use Rattle.std.proofs.Common.{◌≡◌, ◌<◌, ◌+◌, ◌*◌, ◌∙◌, sym, ap, min, get_or, take}
use Rattle.std.specs.Char.{digit_value, is_ascii_hexdigit}
use Rattle.std.proofs.lemmas.List.Folds.{list_all_more}
use Rattle.graphql_tokens.specs.tokens.Strings.{hex_value}
use Rattle.graphql_tokens.proofs.Escapes.{hex_value_more, capped, hex_digit, both_true}
use Rattle.graphql_tokens.proofs.text.escape.hex_number.Goals as goal

pub loop-digit-preserved : goal.loop-digit-preserved
loop-digit-preserved c =
    let ds = c.args.digits.now in
    let i = c.loop-digit.digit-index in
    let d = get_or ds i 0 in
    let same : c.from.result ≡ d = c.from.ensures in
    let low : digit_value d < 16 = rw same at c.in_ok-value.ensures.value.0 in
    let is : c.in_ok-value.value ≡ digit_value d = c.in_ok-value.ensures.value.1 ∙ ap digit_value same in
    record {
      digits = list_all_more is_ascii_hexdigit ds i 0 c.loop-digit-test.true ∙ both_true _ _ c.loop-digit.invariant.digits (hex_digit d low);
      value = c.min-number.ensures
          ∙ ap (λ n. min (n * 16 + c.in_ok-value.value) 0x110000) c.loop-digit.invariant.value
          ∙ ap (λ n. min (min (hex_value (take i ds)) 0x110000 * 16 + n) 0x110000) is
          ∙ capped (hex_value (take i ds)) (digit_value d) 0x110000
          ∙ ap (λ n. min n 0x110000) (sym (hex_value_more ds i c.loop-digit-test.true));
    }
