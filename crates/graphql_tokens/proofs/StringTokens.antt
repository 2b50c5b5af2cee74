-- `past_string` passes contents of strings with their closing quotes, and all of them.
use Rattle.std.proofs.Common.{◌≡◌, ℕ, zero, suc, ◌-◌, ◌≤◌, Bool, true, false, cond, eqb, List, [], ◌∷◌, ◌++◌, length, drop, Option, Some, None, refl, sym, ap, ◌∙◌, append_assoc, arith, inl, inr, subst, length-append}
use Rattle.std.proofs.Math.Seq.{drop-append_seam}
use Rattle.std.proofs.lemmas.Bool.Decides.{nat_tests}
use Rattle.std.proofs.lemmas.Str.{chars-append, chars-IsAscii, encodes-chars, encodes-append, encodes-IsAscii, IsUtf8-from_ascii}
use Rattle.std.specs.List.{concat}
use Rattle.std.specs.Str.{chars, IsUtf8, encode_utf8_all}
use Rattle.graphql_tokens.specs.tokens.Edition.{Current}
use Rattle.graphql_tokens.specs.tokens.Strings.{is_plain, UnitMeans, UnitsMean, IsContent}
use Rattle.graphql_tokens.specs.inner.Escapes.{escape_at}
use Rattle.graphql_tokens.specs.inner.Quoted.{past_unit, past_string_from, past_string}
use Rattle.graphql_tokens.proofs.Options.{some_same, counts_down}
use Rattle.graphql_tokens.proofs.EscapeUnits.{EscapeMeans, escape_reads, escape_found}
use Rattle.graphql_tokens.proofs.Contents.{escape_front, escape_some}
use Rattle.graphql_tokens.proofs.EscapeChars.{escape_ascii}

-- ---- steps

pub string_end : (text : List ℕ) → text ≡ [] → past_string text ≡ None
unfolding past_string
string_end text e = ap (past_string_from 0) e

pub string_plain : (c : ℕ) (cs : List ℕ) → is_plain c ≡ true → past_string (c ∷ cs) ≡ past_string cs
unfolding past_string
string_plain c cs p = ap (λ b. cond b (past_string_from 0 cs) (cond (eqb c 34) (Some cs) (past_unit (escape_at (c ∷ cs)) (λ n. past_string_from n cs)))) p

pub string_quote : (c : ℕ) (cs : List ℕ) → c ≡ 34 → past_string (c ∷ cs) ≡ Some cs
unfolding past_string
string_quote c cs e = ap (λ d. past_string_from 0 (d ∷ cs)) e

other_step : (c : ℕ) (cs : List ℕ) → is_plain c ≡ false → eqb c 34 ≡ false → past_string_from 0 (c ∷ cs) ≡ past_unit (escape_at (c ∷ cs)) (λ n. past_string_from n cs)
other_step c cs p q = rw (p, q) refl

pub string_stuck : (c : ℕ) (cs : List ℕ) → is_plain c ≡ false → eqb c 34 ≡ false → escape_at (c ∷ cs) ≡ None → past_string (c ∷ cs) ≡ None
unfolding past_string
string_stuck c cs p q e = other_step c cs p q ∙ ap (λ o. past_unit o (λ n. past_string_from n cs)) e

pub drop_pred : (n c : ℕ) (cs : List ℕ) → 1 ≤ n → drop (n - 1) cs ≡ drop n (c ∷ cs)
drop_pred zero c cs h = absurd (omega arith)
drop_pred (suc n) c cs h = let e : suc n - 1 ≡ n = omega arith in ap (λ k. drop k cs) e

pub string_escape : (c : ℕ) (cs : List ℕ) (v n : ℕ) → is_plain c ≡ false → eqb c 34 ≡ false → escape_at (c ∷ cs) ≡ Some (v, n) → past_string (c ∷ cs) ≡ past_string (drop n (c ∷ cs))
unfolding past_string
string_escape c cs v n p q e =
    other_step c cs p q ∙ ap (λ o. past_unit o (λ n. past_string_from n cs)) e ∙ counts_down past_string_from (λ n. refl) (λ n c cs. refl) (n - 1) cs
    ∙ ap (past_string_from 0) (drop_pred n c cs (escape_some (c ∷ cs) v n e).0)

-- ---- bytes and characters

-- an escape is read alike in a text's bytes and in its characters
pub escape_chars : (bs : List ℕ) → IsUtf8 bs → escape_at bs ≡ escape_at (chars bs)
escape_chars bs u = by (escape_at bs) refl (escape_at (chars bs)) refl
  where
    forth : (v n : ℕ) → escape_at bs ≡ Some (v, n) → escape_at (chars bs) ≡ Some (v, n)
    forth v n e =
        let f = escape_found bs v n e in
        let a = escape_ascii f.unit v f.means in
        let split : chars bs ≡ f.unit ++ chars f.rest =
        ap chars f.whole ∙ chars-append f.unit f.rest (IsUtf8-from_ascii f.unit a) ∙ ap (λ x. x ++ chars f.rest) (chars-IsAscii f.unit a) in
        ap escape_at split ∙ escape_reads f.unit (chars f.rest) v f.means ∙ ap (λ k. Some (v, k)) f.long

    back : (v n : ℕ) → escape_at (chars bs) ≡ Some (v, n) → escape_at bs ≡ Some (v, n)
    back v n e =
        let f = escape_found (chars bs) v n e in
        let a = escape_ascii f.unit v f.means in
        let split : bs ≡ f.unit ++ encode_utf8_all f.rest =
        sym (encodes-chars bs u) ∙ ap encode_utf8_all f.whole ∙ encodes-append f.unit f.rest ∙ ap (λ x. x ++ encode_utf8_all f.rest) (encodes-IsAscii f.unit a) in
        ap escape_at split ∙ escape_reads f.unit (encode_utf8_all f.rest) v f.means ∙ ap (λ k. Some (v, k)) f.long

    by : (o : Option (ℕ × ℕ)) → escape_at bs ≡ o → (p : Option (ℕ × ℕ)) → escape_at (chars bs) ≡ p → escape_at bs ≡ escape_at (chars bs)
    by (Some x) e p g = e ∙ sym (forth x.0 x.1 e)
    by None e (Some x) g = absurd (let h = back x.0 x.1 g in cc)
    by None e None g = e ∙ sym g

-- ---- what is passed is a content

pub record Closed (text rest : List ℕ) : Type 0 where
  pub content : List ℕ
  pub whole : text ≡ content ++ (34 ∷ rest)
  pub means : IsContent Current content

closed_unit : (unit text rest : List ℕ) (v : ℕ) → UnitMeans Current unit v → Closed text rest → Closed (unit ++ text) rest
closed_unit unit text rest v m k =
    let s = k.means.1 in
    record {
      content = unit ++ k.content;
      whole = ap (λ x. unit ++ x) k.whole ∙ sym (append_assoc unit k.content (34 ∷ rest));
      means = (v ∷ k.means.0, (unit ∷ s.0, ap (λ x. unit ++ x) s.1, (m, s.2)));
    }

closed_from : (n : ℕ) (text rest : List ℕ) → length text ≤ n → past_string text ≡ Some rest → Closed text rest
closed_from n [] rest h e = let none = string_end [] refl in absurd (cc)
closed_from zero (c ∷ cs) rest h e = absurd (omega arith)
closed_from (suc n) (c ∷ cs) rest h e = by (is_plain c) refl (eqb c 34) refl (λ t l f. closed_from n t rest l f)
  where
    escaped : (o : Option (ℕ × ℕ)) → escape_at (c ∷ cs) ≡ o → is_plain c ≡ false → eqb c 34 ≡ false → ((t : List ℕ) → length t ≤ n → past_string t ≡ Some rest → Closed t rest) → Closed (c ∷ cs) rest
    escaped None g p q ih = let none = string_stuck c cs p q g in absurd (cc)
    escaped (Some x) g p q ih =
        let f = escape_found (c ∷ cs) x.0 x.1 g in
        let some = escape_some (c ∷ cs) x.0 x.1 g in
        let after : drop x.1 (c ∷ cs) ≡ f.rest = ap (λ k. drop k (c ∷ cs)) (sym f.long) ∙ ap (drop (length f.unit)) f.whole ∙ drop-append_seam f.unit f.rest in
        let more : past_string f.rest ≡ Some rest = sym (string_escape c cs x.0 x.1 p q g ∙ ap past_string after) ∙ e in
        let short : length f.rest ≤ n = omega (arith, ap length f.whole, length-append f.unit f.rest, f.long, some.0) in
        subst (λ (t : List ℕ). Closed t rest) (sym f.whole) (closed_unit f.unit f.rest rest x.0 (inr f.means) (ih f.rest short more))

    by : (p : Bool) → is_plain c ≡ p → (q : Bool) → eqb c 34 ≡ q → ((t : List ℕ) → length t ≤ n → past_string t ≡ Some rest → Closed t rest) → Closed (c ∷ cs) rest
    by true p q g ih = closed_unit (c ∷ []) cs rest c (inl (refl, p)) (ih cs (omega arith) (sym (string_plain c cs p) ∙ e))
    by false p true g ih =
        let is : c ≡ 34 = grind (arith, nat_tests) in
        let same : cs ≡ rest = some_same cs rest (sym (string_quote c cs is) ∙ e) in
        record { content = []; whole = ap (λ d. d ∷ cs) is ∙ ap (λ r. 34 ∷ r) same; means = ([], ([], refl, tt)) }
    by false p false g ih = escaped (escape_at (c ∷ cs)) refl p g ih

pub string_is : (text rest : List ℕ) → past_string text ≡ Some rest → Closed text rest
string_is text rest e = closed_from (length text) text rest (omega arith) e

-- ---- and each content is passed

plain_step : (u rest : List ℕ) (c : ℕ) → u ≡ c ∷ [] → is_plain c ≡ true → past_string (u ++ rest) ≡ past_string rest
plain_step u rest c is p = ap (λ x. past_string (x ++ rest)) is ∙ string_plain c rest p

escape_step : (u rest : List ℕ) (c : ℕ) → EscapeMeans u c → past_string (u ++ rest) ≡ past_string rest
escape_step u rest c m =
    let h = escape_front u c m in
    let t = h.0 ++ rest in
    let whole : u ++ rest ≡ 92 ∷ t = ap (λ x. x ++ rest) h.1 in
    let r : escape_at (92 ∷ t) ≡ Some (c, length u) = ap escape_at (sym whole) ∙ escape_reads u rest c m in
    ap past_string whole ∙ string_escape 92 t c (length u) refl refl r
    ∙ ap (λ x. past_string (drop (length u) x)) (sym whole) ∙ ap past_string (drop-append_seam u rest)

unit_step : (u rest : List ℕ) (c : ℕ) → UnitMeans Current u c → past_string (u ++ rest) ≡ past_string rest
unit_step u rest c (inl w) = plain_step u rest c w.0 w.1
unit_step u rest c (inr w) = escape_step u rest c w

units_step : (units : List (List ℕ)) (value rest : List ℕ) → UnitsMean Current units value → past_string (concat units ++ (34 ∷ rest)) ≡ Some rest
units_step [] [] rest h = string_quote 34 rest refl
units_step [] (c ∷ cs) rest h = absurd h
units_step (u ∷ us) [] rest h = absurd h
units_step (u ∷ us) (c ∷ cs) rest h =
    ap past_string (append_assoc u (concat us) (34 ∷ rest)) ∙ unit_step u (concat us ++ (34 ∷ rest)) c h.0 ∙ units_step us cs rest h.1

pub string_only : (content rest : List ℕ) → IsContent Current content → past_string (content ++ (34 ∷ rest)) ≡ Some rest
string_only content rest m =
    let s = m.1 in
    ap (λ x. past_string (x ++ (34 ∷ rest))) s.1 ∙ units_step s.0 m.0 rest s.2

-- a content doesn't begin with a quote
pub content_head : (c : ℕ) (cs : List ℕ) → IsContent Current (c ∷ cs) → eqb c 34 ≡ false
content_head c cs m = by m.1.0 m.0 m.1.1 m.1.2
  where
    unit : (u us : List ℕ) (v : ℕ) → (c ∷ cs) ≡ u ++ us → UnitMeans Current u v → eqb c 34 ≡ false
    unit u us v e (inl w) =
        let same : (c ∷ cs) ≡ v ∷ us = e ∙ ap (λ x. x ++ us) w.0 in
        let is : c ≡ v = cc in
        let p : is_plain v ≡ true = w.1 in
        ap (λ d. eqb d 34) is ∙ grind (arith, nat_tests)
    unit u us v e (inr w) =
        let h = escape_front u v w in
        let same : (c ∷ cs) ≡ 92 ∷ (h.0 ++ us) = e ∙ ap (λ x. x ++ us) h.1 in
        let is : c ≡ 92 = cc in
        ap (λ d. eqb d 34) is

    by : (units : List (List ℕ)) (value : List ℕ) → (c ∷ cs) ≡ concat units → UnitsMean Current units value → eqb c 34 ≡ false
    by [] value e h = absurd (cc)
    by (u ∷ us) [] e h = absurd h
    by (u ∷ us) (v ∷ vs) e h = unit u (concat us) v e h.0
