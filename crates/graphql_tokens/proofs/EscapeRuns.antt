-- A running place that passes an escape: a run of ASCII characters within a line.
use Rattle.std.proofs.Common.{◌≡◌, ℕ, zero, suc, ◌+◌, ◌-◌, ◌≤◌, ◌<◌, List, ◌++◌, Some, length, take, drop, get_or, sym, ap, ◌∙◌, arith, add-zero, length-drop}
use Rattle.std.proofs.Math.Seq.{take-length}
use Rattle.std.proofs.lemmas.List.{get_or-drop}
use Rattle.std.proofs.lemmas.Str.{IsCharBoundary-after_ascii}
use Rattle.std.specs.Str.{chars, IsUtf8, IsCharBoundary}
use Rattle.graphql_tokens.specs.tokens.Place.{is_in_line}
use Rattle.graphql_tokens.specs.inner.Escapes.{escape_at}
use Rattle.graphql_tokens.specs.inner.Running.{ahead, IsRunning, IsRunOfAscii}
use Rattle.graphql_tokens.specs.inner.Lexing.{RunsOver}
use Rattle.graphql_tokens.specs.declared.pos.running.RunningPlace.{RunningPlace}
use Rattle.graphql_tokens.proofs.Contents.{escape_some}
use Rattle.graphql_tokens.proofs.EscapeChars.{escape_in_line, in_line_at}
use Rattle.graphql_tokens.proofs.EscapeUnits.{escape_found}
use Rattle.graphql_tokens.proofs.Scan.{ascii_char}

-- ---- in bytes

run_at : (bs : List ℕ) (i v n : ℕ) → escape_at (drop i bs) ≡ Some (v, n) → IsRunOfAscii bs i n
run_at bs i v n e k l =
    let f = escape_found (drop i bs) v n e in
    let same : get_or (f.unit ++ f.rest) k 0 ≡ get_or bs (i + k) 0 = ap (λ x. get_or x k 0) (sym f.whole) ∙ get_or-drop i bs k 0 in
    let there = in_line_at f.unit f.rest k (escape_in_line f.unit v f.means) (omega (arith, f.long)) in
    (omega (arith, same, there.0), ap is_in_line (sym same) ∙ there.1)

-- an escape that was found in the rest of the bytes
pub record Escaped (a : RunningPlace) (n : ℕ) : Type 0 where
  pub within : a.walk.offset + n ≤ length a.walk.text.now
  pub run : IsRunOfAscii a.walk.text.now a.walk.offset n

pub escaped : (bytes : List ℕ) (a : RunningPlace) (i v n : ℕ) → RunsOver bytes a → i ≡ a.walk.offset → Some (v, n) ≡ escape_at (take (length bytes - i) (drop i bytes)) → Escaped a n
escaped bytes a i v n r is e =
    let all : take (length bytes - i) (drop i bytes) ≡ drop i bytes = ap (λ m. take m (drop i bytes)) (sym (length-drop i bytes)) ∙ take-length (drop i bytes) in
    let bs = a.walk.text.now in
    let found : escape_at (drop a.walk.offset bs) ≡ Some (v, n) = ap (λ t. escape_at (drop a.walk.offset t)) r.same ∙ ap (λ k. escape_at (drop k bytes)) (sym is) ∙ ap escape_at (sym all) ∙ sym e in
    let some = escape_some (drop a.walk.offset bs) v n found in
    record { within = omega (arith, some.0, some.1, length-drop a.walk.offset bs); run = run_at bs a.walk.offset v n found }

-- ---- what is ahead after a run

run_chars : (n i : ℕ) (bs : List ℕ) → IsUtf8 bs → IsCharBoundary bs i → i + n ≤ length bs → IsRunOfAscii bs i n → chars (drop (i + n) bs) ≡ drop n (chars (drop i bs))
run_chars zero i bs u b w run = ap (λ k. chars (drop k bs)) (add-zero i)
run_chars (suc n) i bs u b w run =
    let first = run 0 (omega arith) in
    let here : get_or bs (i + 0) 0 ≡ get_or bs i 0 = ap (λ k. get_or bs k 0) (add-zero i) in
    let low : get_or bs i 0 < 128 = omega (arith, here, first.0) in
    let there : i + suc n ≡ i + 1 + n = omega arith in
    ap (λ k. chars (drop k bs)) there
    ∙ run_chars n (i + 1) bs u (IsCharBoundary-after_ascii bs i u (omega arith) low) (omega arith) (λ k h. let e : i + suc k ≡ i + 1 + k = omega arith in rw (← e) (run (suc k) (omega arith)))
    ∙ sym (ap (drop (suc n)) (ascii_char bs i u b (omega arith) low))

pub ahead_past_run : (old new : RunningPlace) (n : ℕ) → IsRunning old → new.walk.text.now ≡ old.walk.text.now → new.walk.offset ≡ old.walk.offset + n → old.walk.offset + n ≤ length old.walk.text.now
    → IsRunOfAscii old.walk.text.now old.walk.offset n → ahead new ≡ drop n (ahead old)
ahead_past_run old new n r same o w run =
    ap (λ t. chars (drop new.walk.offset t)) same ∙ ap (λ k. chars (drop k old.walk.text.now)) o ∙ run_chars n old.walk.offset old.walk.text.now r.reading.utf8 r.reading.boundary w run
