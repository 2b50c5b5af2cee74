-- The steps of the loop that escapes a text.
use Rattle.std.proofs.Common.{◌≡◌, ℕ, zero, suc, ◌+◌, ◌≤◌, ◌<◌, ◌==◌, true, List, [], ◌∷◌, ◌++◌, length, take, drop, get_or, ap, sym, ◌∙◌, arith, append_assoc, length-append, take-append-drop}
use Rattle.std.proofs.lemmas.Bool.{or_parts, not-true, eqb-false, ltb-false}
use Rattle.std.proofs.lemmas.List.{drop_all, drop_more, take-append-le}
use Rattle.json.specs.Print.{escape, escape_byte}
use Rattle.json.specs.Run.{is_plain, is_stop}
use Rattle.json.specs.Written.{PlainBetween}
use Rattle.json.proofs.Printed.Strings.{escape_byte_plain, escape_at}

-- a part is written, and the rest is left
pub moved : (old new part rest left whole : List ℕ) → new ≡ old ++ part → left ≡ part ++ rest → old ++ left ≡ whole → new ++ rest ≡ whole
moved old new part rest left whole wrote split e = ap (λ l. l ++ rest) wrote ∙ append_assoc old part rest ∙ ap (λ l. old ++ l) (sym split) ∙ e

plain_byte : (x : ℕ) → is_plain x ≡ true → escape_byte x ≡ x ∷ []
plain_byte x e =
    let none = or_parts _ _ (not-true (is_stop x) e) in
    let tests = or_parts (x == 34) _ none.0 in
    escape_byte_plain x (eqb-false x 34 tests.0) (eqb-false x 92 tests.1) (ltb-false x 32 none.1)

-- plain bytes stand for themselves
pub plain_run : (text : List ℕ) (i n : ℕ) (close : List ℕ) → i + n ≤ length text → PlainBetween text i (i + n)
    → escape (drop i text) ++ close ≡ take n (drop i text) ++ (escape (drop (i + n) text) ++ close)
plain_run text i zero close fits plain = ap (λ k. escape (drop k text) ++ close) (omega arith)
plain_run text i (suc n) close fits plain =
    let next : i + 1 + n ≡ i + suc n = omega arith in
    let byte = plain_byte (get_or text i 0) (plain i (omega arith) (omega arith)) in
    let rest = plain_run text (i + 1) n close (omega arith) (λ k from to. plain k (omega arith) (omega arith)) in
    let first = drop_more text i 0 (omega arith) in
    escape_at text i close (omega arith)
    ∙ (λ k. byte k ++ rest k)
    ∙ (λ k. take (suc n) (sym first k) ++ (escape (drop (next k) text) ++ close))

-- and go with what comes before them and the byte after them
pub piece : (comma front text : List ℕ) (i n : ℕ) (close : List ℕ) → i + n < length text → PlainBetween text i (i + n)
    → comma ++ (front ++ (escape (drop i text) ++ close)) ≡ (comma ++ (front ++ (take n (drop i text) ++ escape_byte (get_or text (i + n) 0)))) ++ (escape (drop (i + n + 1) text) ++ close)
piece comma front text i n close fits plain =
    let run = take n (drop i text) in
    let byte = escape_byte (get_or text (i + n) 0) in
    let rest = escape (drop (i + n + 1) text) ++ close in
    ap (λ l. comma ++ (front ++ l)) (plain_run text i n close (omega arith) plain ∙ ap (λ l. run ++ l) (escape_at text (i + n) close fits) ∙ sym (append_assoc run byte rest))
    ∙ ap (λ l. comma ++ l) (sym (append_assoc front (run ++ byte) rest))
    ∙ sym (append_assoc comma (front ++ (run ++ byte)) rest)

-- or, where no byte comes after them, with the end
pub last_piece : (comma front text : List ℕ) (i n : ℕ) (close : List ℕ) → i + n ≡ length text → PlainBetween text i (i + n)
    → comma ++ (front ++ (escape (drop i text) ++ close)) ≡ comma ++ (front ++ (take n (drop i text) ++ close))
last_piece comma front text i n close end plain =
    ap (λ l. comma ++ (front ++ l)) (plain_run text i n close (omega arith) plain ∙ ap (λ l. take n (drop i text) ++ (escape l ++ close)) (drop_all (i + n) text (omega arith)))

-- what stood before stays
pub kept : (old now part new : List ℕ) → new ≡ now ++ part → take (length old) now ≡ old → take (length old) new ≡ old
kept old now part new wrote front =
    let n = length old in
    let within : n ≤ length now = omega (arith, ap length (take-append-drop n now), length-append (take n now) (drop n now), ap length front) in
    ap (take n) wrote ∙ take-append-le n now part within ∙ front
