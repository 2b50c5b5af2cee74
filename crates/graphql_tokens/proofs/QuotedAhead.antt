-- What the first byte of what is ahead says of the string there.
use Rattle.std.proofs.Common.{◌≡◌, ◌≢◌, ℕ, ◌-◌, ◌≤◌, ◌<◌, true, false, ◌&&◌, ltb, List, [], ◌∷◌, Some, None, length, take, drop, length-drop, refl, sym, ap, ◌∙◌, arith, inl, inr}
use Rattle.std.proofs.Math.Seq.{take-length}
use Rattle.std.proofs.lemmas.Bool.Decides.{nat_tests}
use Rattle.std.proofs.lemmas.Str.{IsUtf8-drop}
use Rattle.graphql_tokens.specs.tokens.Strings.{is_plain}
use Rattle.graphql_tokens.specs.inner.Escapes.{escape_at}
use Rattle.graphql_tokens.specs.inner.Quoted.{past_string, past_block}
use Rattle.graphql_tokens.specs.inner.Running.{ahead}
use Rattle.graphql_tokens.specs.inner.Lexing.{RunsOver, IsFirstByte}
use Rattle.graphql_tokens.specs.declared.pos.running.RunningPlace.{RunningPlace}
use Rattle.graphql_tokens.proofs.Ahead.{first_low, first_not}
use Rattle.graphql_tokens.proofs.BlockTokens.{block_other}
use Rattle.graphql_tokens.proofs.Contents.{escape_some}
use Rattle.graphql_tokens.proofs.StringTokens.{string_plain, string_quote, string_stuck, string_escape, escape_chars}

-- the rest of the bytes, as a slice, from the place on
pub escape_ahead : (bytes : List ℕ) (a : RunningPlace) (i : ℕ) → RunsOver bytes a → i ≡ a.walk.offset → escape_at (take (length bytes - i) (drop i bytes)) ≡ escape_at (ahead a)
escape_ahead bytes a i r is =
    let k = r.running.reading in
    let all : take (length bytes - i) (drop i bytes) ≡ drop i bytes = ap (λ n. take n (drop i bytes)) (sym (length-drop i bytes)) ∙ take-length (drop i bytes) in
    ap escape_at all ∙ ap (λ k. escape_at (drop k bytes)) is ∙ ap (λ t. escape_at (drop a.walk.offset t)) (sym r.same)
    ∙ escape_chars (drop a.walk.offset a.walk.text.now) (IsUtf8-drop a.walk.text.now a.walk.offset k.utf8 k.boundary)

plain_first : (b c : ℕ) (text rest : List ℕ) → IsFirstByte b text → text ≡ c ∷ rest → is_plain b ≡ true → is_plain c ≡ true
plain_first b c text rest f is p = by c (subst_first f)
  where
    subst_first : IsFirstByte b text → IsFirstByte b (c ∷ rest)
    subst_first g = rw is at g

    by : (d : ℕ) → IsFirstByte b (d ∷ rest) → is_plain d ≡ true
    by d (inl x) = ap is_plain x.1 ∙ p
    by d (inr x) = let wide : 128 ≤ d = x.2 in grind (arith, nat_tests)

pub plain_ahead : (b c : ℕ) (text rest : List ℕ) → IsFirstByte b text → text ≡ c ∷ rest → is_plain b ≡ true → past_string text ≡ past_string rest
plain_ahead b c text rest f is p = ap past_string is ∙ string_plain c rest (plain_first b c text rest f is p)

pub quote_ahead : (b c : ℕ) (text rest : List ℕ) → IsFirstByte b text → text ≡ c ∷ rest → b ≡ 34 → past_string text ≡ Some rest
quote_ahead b c text rest f is e = ap past_string is ∙ string_quote c rest (first_low b c text rest f is (omega arith) ∙ e)

-- a byte that isn't plain is ASCII
not_plain_low : (b : ℕ) → is_plain b ≡ false → b < 128
not_plain_low b p = grind (arith, nat_tests)

pub stuck_ahead : (b : ℕ) (text : List ℕ) → IsFirstByte b text → is_plain b ≡ false → b ≢ 34 → escape_at text ≡ None → past_string text ≡ None
stuck_ahead b [] f p q e = absurd f
stuck_ahead b (c ∷ cs) f p q e =
    string_stuck c cs (ap is_plain (first_low b c (c ∷ cs) cs f refl (not_plain_low b p)) ∙ p) (first_not b c 34 (c ∷ cs) cs f refl (omega arith) q) e

pub escaped_ahead : (b v n : ℕ) (text : List ℕ) → IsFirstByte b text → is_plain b ≡ false → b ≢ 34 → escape_at text ≡ Some (v, n) → past_string text ≡ past_string (drop n text)
escaped_ahead b v n [] f p q e = absurd f
escaped_ahead b v n (c ∷ cs) f p q e =
    string_escape c cs v n (ap is_plain (first_low b c (c ∷ cs) cs f refl (not_plain_low b p)) ∙ p) (first_not b c 34 (c ∷ cs) cs f refl (omega arith) q) e

-- what is left after an escape is shorter
pub escape_shortens : (text : List ℕ) (v n : ℕ) → escape_at text ≡ Some (v, n) → length (drop n text) < length text
escape_shortens text v n e = let s = escape_some text v n e in omega (arith, length-drop n text)

-- ---- plain ASCII characters

plain_ascii : (b : ℕ) → (is_plain b && ltb b 128) ≡ true → is_plain b ≡ true
plain_ascii b t = grind (arith, nat_tests)

not_quote : (b : ℕ) → (is_plain b && ltb b 128) ≡ true → b ≢ 34
not_quote b t = grind (arith, nat_tests)

not_slash : (b : ℕ) → (is_plain b && ltb b 128) ≡ true → b ≢ 92
not_slash b t = grind (arith, nat_tests)

pub ascii_in_string : (b c : ℕ) (text rest : List ℕ) → IsFirstByte b text → text ≡ c ∷ rest → (is_plain b && ltb b 128) ≡ true → past_string text ≡ past_string rest
ascii_in_string b c text rest f is t = plain_ahead b c text rest f is (plain_ascii b t)

pub ascii_in_block : (b c : ℕ) (text rest : List ℕ) → IsFirstByte b text → text ≡ c ∷ rest → (is_plain b && ltb b 128) ≡ true → past_block text ≡ past_block rest
ascii_in_block b c text rest f is t =
    ap past_block is ∙ block_other c rest (first_not b c 34 text rest f is (omega arith) (not_quote b t)) (first_not b c 92 text rest f is (omega arith) (not_slash b t))
