-- A place that passes a run of ASCII characters within a line.
use Rattle.std.proofs.Common.{◌≡◌, ℕ, zero, suc, ◌+◌, ◌≤◌, ◌<◌, Bool, true, false, cond, ◌&&◌, eqb, ltb, List, [], ◌∷◌, length, length-drop, drop, get_or, refl, sym, ap, ◌∙◌, arith, add-zero, one-add}
use Rattle.std.proofs.lemmas.Bool.Decides.{nat_tests}
use Rattle.std.proofs.lemmas.List.{drop-drop, get_or-drop}
use Rattle.std.proofs.lemmas.List.Sums.{prefix_len_passes}
use Rattle.std.proofs.lemmas.Str.{IsUtf8-drop}
use Rattle.std.specs.Char.{is_ascii_digit}
use Rattle.std.specs.List.{prefix_len}
use Rattle.std.specs.Str.{chars}
use Rattle.graphql_tokens.specs.tokens.BlockText.{is_blank_char}
use Rattle.graphql_tokens.specs.tokens.Classes.{is_ignored, is_name_char}
use Rattle.graphql_tokens.specs.tokens.Place.{is_in_line, is_line_end, is_line_feed}
use Rattle.graphql_tokens.specs.tokens.Strings.{is_plain}
use Rattle.graphql_tokens.specs.inner.ByteClasses.{IsWithinLines, past_class}
use Rattle.graphql_tokens.specs.inner.Quoted.{past_string, past_block}
use Rattle.graphql_tokens.proofs.BlockTokens.{block_other}
use Rattle.graphql_tokens.proofs.StringTokens.{string_plain}
use Rattle.graphql_tokens.specs.inner.Reading.{skip, past_line}
use Rattle.graphql_tokens.specs.inner.TextWalk.{IsWalking, Passes}
use Rattle.graphql_tokens.specs.inner.Running.{ahead, IsRunning, IsRunOfAscii}
use Rattle.graphql_tokens.specs.inner.Lexing.{RunsOver}
use Rattle.graphql_tokens.specs.declared.pos.text_walk.TextWalk.{TextWalk}
use Rattle.graphql_tokens.specs.declared.pos.running.RunningPlace.{RunningPlace}
use Rattle.graphql_tokens.proofs.Running.{walks_past, passes_ascii, runs_in_line}
use Rattle.graphql_tokens.proofs.Skips.{skip_goes}
use Rattle.graphql_tokens.proofs.Scan.{IsAlike, span_chars}

same_walk : (a b : TextWalk) → b.text.now ≡ a.text.now → b.offset ≡ a.offset → IsWalking a → IsWalking b
same_walk a b t o k = record {
  boundary = rw (t, o) k.boundary;
  utf8 = rw t k.utf8;
  bound = rw t k.bound;
}

pub no_feed : (c : ℕ) → is_in_line c ≡ true → is_line_feed c ≡ false
no_feed c h = grind (arith, nat_tests)

-- one character after another
pub runs_on : (n : ℕ) (old new : RunningPlace) → IsRunning old → new.walk.text.now ≡ old.walk.text.now → new.walk.offset ≡ old.walk.offset + n
    → new.line ≡ old.line → new.origin ≡ old.origin → old.walk.offset + n ≤ length old.walk.text.now → IsRunOfAscii old.walk.text.now old.walk.offset n → IsRunning new
runs_on zero old new r t o l b w a =
    let same_offset : new.walk.offset ≡ old.walk.offset = omega arith in
    record {
      reading = same_walk old.walk new.walk t same_offset r.reading;
      line = l ∙ rw (t, same_offset) r.line;
      column = rw (t, same_offset, b) r.column;
    }
runs_on (suc n) old new r t o l b w a =
    let bs = old.walk.text.now in
    let i = old.walk.offset in
    let first = a 0 (omega arith) in
    let here : get_or bs (i + 0) 0 ≡ get_or bs i 0 = ap (λ k. get_or bs k 0) (add-zero i) in
    let mid : RunningPlace = record { walk = record { text = old.walk.text; offset = i + 1 }; line = old.line; origin = old.origin } in
    let low : get_or bs i 0 < 128 = omega (arith, here, first.0) in
    let inside : is_in_line (get_or bs i 0) ≡ true = ap is_in_line (sym here) ∙ first.1 in
    let passes : Passes (get_or bs i 0) old.walk mid.walk = passes_ascii old.walk mid.walk (omega arith) low refl in
    let walks : IsWalking mid.walk = walks_past old.walk mid.walk (get_or bs i 0) r.reading refl passes in
    let running : IsRunning mid = runs_in_line old mid (get_or bs i 0) r walks refl passes inside (no_feed (get_or bs i 0) inside) refl (omega arith) in
    runs_on n mid new running t (omega arith) l b (omega arith) (λ k h. let e : i + suc k ≡ i + 1 + k = omega arith in rw (← e) (a (suc k) (omega arith)))

-- ---- bytes that pass a test

-- all characters past ASCII are outside
alike : (p : ℕ → Bool) → IsWithinLines p → IsAlike p
alike p inner c d h k = by (p c) refl (p d) refl
  where
    by : (t : Bool) → p c ≡ t → (u : Bool) → p d ≡ u → p c ≡ p d
    by true e u f = let low = inner c e in absurd (omega (arith, low.0))
    by false e true f = let low = inner d f in absurd (omega (arith, low.0))
    by false e false f = e ∙ sym f

pub run_of : (p : ℕ → Bool) → IsWithinLines p → (bs : List ℕ) (at n : ℕ) → n ≤ prefix_len p (drop at bs) → IsRunOfAscii bs at n
run_of p inner bs at n w k h =
    inner (get_or bs (at + k) 0) (ap p (sym (get_or-drop at bs k 0)) ∙ prefix_len_passes p (drop at bs) k 0 (omega arith))

-- where the run ends, said of the text that a place runs over
pub run_end : (p : ℕ → Bool) (bytes : List ℕ) (a : RunningPlace) (start end : ℕ) → RunsOver bytes a → start ≡ a.walk.offset → end ≡ start + prefix_len p (drop start bytes)
    → end ≡ a.walk.offset + prefix_len p (drop a.walk.offset a.walk.text.now)
run_end p bytes a start end r s e =
    e ∙ ap (λ k. k + prefix_len p (drop k bytes)) s ∙ ap (λ t. a.walk.offset + prefix_len p (drop a.walk.offset t)) (sym r.same)

past_is : (p : ℕ → Bool) (text : List ℕ) → past_class p text ≡ drop (prefix_len p text) text
past_is p [] = refl
past_is p (c ∷ cs) = by (p c) (past_is p cs)
  where
    by : (t : Bool) → past_class p cs ≡ drop (prefix_len p cs) cs → cond t (past_class p cs) (c ∷ cs) ≡ drop (cond t (1 + prefix_len p cs) 0) (c ∷ cs)
    by true e = rw (one-add (prefix_len p cs)) e
    by false e = refl

-- what is ahead after it
pub ahead_of_run : (p : ℕ → Bool) → IsWithinLines p → (old new : RunningPlace) (n : ℕ) → IsRunning old → new.walk.text.now ≡ old.walk.text.now → new.walk.offset ≡ old.walk.offset + n
    → n ≡ prefix_len p (drop old.walk.offset old.walk.text.now) → ahead new ≡ past_class p (ahead old)
ahead_of_run p inner old new n r t o e =
    let bs = old.walk.text.now in
    let i = old.walk.offset in
    ap (λ x. chars (drop new.walk.offset x)) t ∙ ap (λ k. chars (drop k bs)) o ∙ ap chars (sym (drop-drop n i bs)) ∙ ap (λ k. chars (drop k (drop i bs))) e
    ∙ span_chars p (alike p inner) (drop i bs) (IsUtf8-drop bs i r.reading.utf8 r.reading.boundary) ∙ sym (past_is p (ahead old))

-- ---- names

pub name_inner : IsWithinLines is_name_char
name_inner c h = (grind (arith, nat_tests), grind (arith, nat_tests))

-- a run of characters, of which each makes no difference to what is found after it
run_skipped : {X : Type 0} (p : ℕ → Bool) (f : List ℕ → X) → ((c : ℕ) (cs : List ℕ) → p c ≡ true → f (c ∷ cs) ≡ f cs) → (text : List ℕ) → f (past_class p text) ≡ f text
run_skipped p f skips [] = refl
run_skipped p f skips (c ∷ cs) = by (p c) refl (run_skipped p f skips cs)
  where
    by : (t : Bool) → p c ≡ t → f (past_class p cs) ≡ f cs → f (cond t (past_class p cs) (c ∷ cs)) ≡ f (c ∷ cs)
    by true e h = h ∙ sym (skips c cs e)
    by false e h = refl

-- ---- comments

abbrev pub is_within_line : ℕ → Bool
is_within_line c = is_in_line c && ltb c 128

pub line_run : (text : List ℕ) → past_line (past_class is_within_line text) ≡ past_line text
line_run = run_skipped is_within_line past_line (λ c cs t. ap (λ b. cond b cs (past_line cs)) (goes_on c t))
  where
    goes_on : (c : ℕ) → is_within_line c ≡ true → is_line_end c ≡ false
    goes_on c t = grind (arith, nat_tests)

-- ---- digits

pub digit_inner : IsWithinLines is_ascii_digit
digit_inner c h = (grind (arith, nat_tests), grind (arith, nat_tests))

-- ---- tabs and spaces

pub blank_run : (text : List ℕ) → skip (past_class is_blank_char text) ≡ skip text
blank_run = run_skipped is_blank_char skip (λ c cs t. skip_goes c cs (ignored c t))
  where
    ignored : (c : ℕ) → is_blank_char c ≡ true → is_ignored c ≡ true
    ignored c t = grind (arith, nat_tests)

-- ---- plain ASCII characters of strings

abbrev pub plain_ascii : ℕ → Bool
plain_ascii c = is_plain c && ltb c 128

pub plain_inner : IsWithinLines plain_ascii
plain_inner c h = (grind (arith, nat_tests), grind (arith, nat_tests))

pub string_run : (text : List ℕ) → past_string (past_class plain_ascii text) ≡ past_string text
string_run = run_skipped plain_ascii past_string (λ c cs t. string_plain c cs (plain_is c t))
  where
    plain_is : (c : ℕ) → plain_ascii c ≡ true → is_plain c ≡ true
    plain_is c t = grind (arith, nat_tests)

pub block_run : (text : List ℕ) → past_block (past_class plain_ascii text) ≡ past_block text
block_run = run_skipped plain_ascii past_block (λ c cs t. block_other c cs (no_quote c t) (no_slash c t))
  where
    no_quote : (c : ℕ) → plain_ascii c ≡ true → eqb c 34 ≡ false
    no_quote c t = grind (arith, nat_tests)

    no_slash : (c : ℕ) → plain_ascii c ≡ true → eqb c 92 ≡ false
    no_slash c t = grind (arith, nat_tests)

pub run_shorter : (p : ℕ → Bool) (text : List ℕ) → length (past_class p text) ≤ length text
run_shorter p text = omega (arith, ap length (past_is p text), length-drop (prefix_len p text) text)
