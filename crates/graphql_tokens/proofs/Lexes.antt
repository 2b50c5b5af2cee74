-- A lexer that passes one token.
use Rattle.std.proofs.Common.{◌≡◌, ◌≢◌, ℕ, ◌+◌, ◌-◌, ◌≤◌, ◌<◌, Bool, true, false, cond, IsTrue, ◌⊎◌, List, [], ◌∷◌, ◌++◌, length, take, drop, refl, sym, ap, ◌∙◌, append_assoc, arith, inl, inr, subst, length-take, length-append}
use Rattle.std.proofs.lemmas.Bool.{cases_lt}
use Rattle.std.proofs.lemmas.List.{append_cancel_right, take-append-drop, drop-drop}
use Rattle.std.specs.List.{slice_range}
use Rattle.std.specs.Str.{chars, IsUtf8, IsCharBoundary, encode_utf8_all}
use Rattle.std.proofs.lemmas.Str.{chars-append, chars-nil, encodes-chars, IsUtf8-take, IsUtf8-between}
use Rattle.graphql_tokens.specs.tokens.Edition.{Current}
use Rattle.graphql_tokens.specs.tokens.Place.{place}
use Rattle.graphql_tokens.specs.tokens.Token.{Token}
use Rattle.graphql_tokens.specs.tokens.Cuts.{token, is_last, EndsOnce}
use Rattle.graphql_tokens.specs.tokens.Proper.{AreProperButFaults}
use Rattle.graphql_tokens.specs.inner.Reading.{skip, next, before, tokens}
use Rattle.graphql_tokens.specs.inner.Running.{ahead}
use Rattle.graphql_tokens.specs.inner.Lexing.{RunsOver}
use Rattle.graphql_tokens.specs.inner.Lexer.{tokens_at}
use Rattle.graphql_tokens.specs.declared.pos.running.RunningPlace.{RunningPlace}
use Rattle.graphql_tokens.specs.declared.pos.Pos.{Pos}
use Rattle.graphql_tokens.specs.declared.lexer.TokenKind.{TokenKind}
use Rattle.graphql_tokens.proofs.Skips.{before_is}
use Rattle.graphql_tokens.proofs.Nexts.{IsNext, next_is, begins_goes_on, begins_some}
use Rattle.graphql_tokens.proofs.Lists.{tokens_step, tokens_cuts, cuts_ends, ends_drop}
use Rattle.graphql_tokens.proofs.Propers.{cuts_proper, proper_drop, text_scalars}

-- from a place to one further on, in bytes and in characters
between : (bs : List ℕ) (i j : ℕ) → i ≤ j → drop i bs ≡ slice_range bs i j ++ drop j bs
between bs i j h =
    let n : i + (j - i) ≡ j = omega arith in
    sym (take-append-drop (j - i) (drop i bs)) ∙ ap (λ x. slice_range bs i j ++ x) (drop-drop (j - i) i bs ∙ ap (λ k. drop k bs) n)

take_between : (bs : List ℕ) (i j : ℕ) → i ≤ j → take j bs ≡ take i bs ++ slice_range bs i j
take_between bs i j h =
    append_cancel_right (take j bs) (take i bs ++ slice_range bs i j) (drop j bs)
    (take-append-drop j bs ∙ sym (take-append-drop i bs) ∙ ap (λ x. take i bs ++ x) (between bs i j h) ∙ sym (append_assoc (take i bs) (slice_range bs i j) (drop j bs)))

chars_between : (bs : List ℕ) (i j : ℕ) → IsUtf8 bs → i ≤ j → IsCharBoundary bs i → IsCharBoundary bs j → chars (drop i bs) ≡ chars (slice_range bs i j) ++ chars (drop j bs)
chars_between bs i j u h b d = ap chars (between bs i j h) ∙ chars-append (slice_range bs i j) (drop j bs) (IsUtf8-between bs i j u h b d)

chars_until : (bs : List ℕ) (i j : ℕ) → IsUtf8 bs → i ≤ j → IsCharBoundary bs i → chars (take j bs) ≡ chars (take i bs) ++ chars (slice_range bs i j)
chars_until bs i j u h b = ap chars (take_between bs i j h) ∙ chars-append (take i bs) (slice_range bs i j) (IsUtf8-take bs i u b)

abbrev token_with : TokenKind → List ℕ → ℕ → Pos → Token
token_with kind spelling start pos = record { bare = record { kind = kind; spelling = spelling }; start = start; pos = pos }

-- From i to s is what is ignored, and from s to e the token that is next.
pub record Steps (bs : List ℕ) (i s e : ℕ) (kind : TokenKind) : Type 0 where
  pub utf8 : IsUtf8 bs
  pub from : IsCharBoundary bs i
  pub start : IsCharBoundary bs s
  pub end : IsCharBoundary bs e
  pub skips : i ≤ s
  pub goes : s ≤ e
  pub skipped : chars (drop s bs) ≡ skip (chars (drop i bs))
  pub is : next (chars (drop s bs)) ≡ (kind, chars (drop e bs))

pub lex_step : (bs : List ℕ) (i s e : ℕ) (kind : TokenKind) → Steps bs i s e kind
    → tokens_at bs i ≡ record { bare = record { kind = kind; spelling = slice_range bs s e }; start = s; pos = place bs s } ∷ cond (is_last kind) [] (tokens_at bs e)
lex_step bs i s e kind k =
    let text = chars (drop i bs) in
    let front = chars (take i bs) in
    let after = chars (drop s bs) in
    let rest = chars (drop e bs) in
    let gap = chars (slice_range bs i s) in
    let w = slice_range bs s e in
    let u = k.utf8 in
    -- the ignored text
    let gap_is : before text after ≡ gap = before_is text gap after (chars_between bs i s u k.skips k.from k.start) in
    let here_is : front ++ before text after ≡ chars (take s bs) = ap (λ x. front ++ x) gap_is ∙ sym (chars_until bs i s u k.skips k.from) in
    -- the token
    let word_is : before after rest ≡ chars w = before_is after (chars w) rest (chars_between bs s e u k.goes k.start k.end) in
    let end_is : chars (take s bs) ++ chars w ≡ chars (take e bs) = sym (chars_until bs s e u k.goes k.start) in
    -- the step
    let all : tokens front text ≡ token kind (front ++ before text after) (before after rest) ∷ cond (is_last kind) [] (tokens ((front ++ before text after) ++ before after rest) rest) =
    (let step = tokens_step front text in rw (← k.skipped, k.is) at step) in
    let spelled : encode_utf8_all (chars w) ≡ w = encodes-chars w (IsUtf8-between bs s e u k.goes k.start k.end) in
    let starts : length (encode_utf8_all (chars (take s bs))) ≡ s =
    ap length (encodes-chars (take s bs) (IsUtf8-take bs s u k.start)) ∙ (let l = length-take s bs in let m = k.start.0 in omega arith) in
    let token_is : token kind (chars (take s bs)) (chars w) ≡ record { bare = record { kind = kind; spelling = w }; start = s; pos = place bs s } =
    ap (λ x. token_with kind x (length (encode_utf8_all (chars (take s bs)))) (place bs s)) spelled ∙ ap (λ x. token_with kind w x (place bs s)) starts in
    all
    ∙ ap (λ x. token kind x (before after rest) ∷ cond (is_last kind) [] (tokens (x ++ before after rest) rest)) here_is
    ∙ ap (λ x. token kind (chars (take s bs)) x ∷ cond (is_last kind) [] (tokens (chars (take s bs) ++ x) rest)) word_is
    ∙ ap (λ x. token kind (chars (take s bs)) (chars w) ∷ cond (is_last kind) [] (tokens x rest)) end_is
    ∙ ap (λ x. x ∷ cond (is_last kind) [] (tokens_at bs e)) token_is

-- a token that is the last takes nothing, and any other takes characters
record Taken (after rest : List ℕ) (kind : TokenKind) : Type 0 where
  last : is_last kind ≡ true → rest ≡ after
  other : is_last kind ≡ false → length rest < length after

taken_by : (after rest : List ℕ) (kind : TokenKind) → IsNext after kind rest → Taken after rest kind
taken_by after rest kind (inl f) =
    let g = begins_goes_on Current kind f.word rest f.begins in
    record {
      last = λ l. absurd cc;
      other = λ l. omega (arith, ap length f.whole, length-append f.word rest, begins_some Current kind f.word rest f.begins);
    }
taken_by after rest kind (inr (inl e)) = record { last = λ l. e.2 ∙ sym e.0; other = λ l. let g = ap is_last e.1 in absurd cc }
taken_by after rest kind (inr (inr e)) = record { last = λ l. e.2; other = λ l. let g = ap is_last e.1 in absurd cc }

taken : (after rest : List ℕ) (kind : TokenKind) → next after ≡ (kind, rest) → Taken after rest kind
taken after rest kind e = subst (λ (t : TokenKind × List ℕ). Taken after t.1 t.0) e (taken_by after (next after).1 (next after).0 (next_is after))

-- `next` from its two parts, of which the second is known of tokens that aren't the last
pub next_from : (after rest : List ℕ) (kind : TokenKind) → (next after).0 ≡ kind → (is_last kind ≡ false → (next after).1 ≡ rest) → is_last kind ≡ false → next after ≡ (kind, rest)
next_from after rest kind e f l = ap (λ k. (k, (next after).1)) e ∙ ap (λ r. (kind, r)) (f l)

pub next_last : (after : List ℕ) (kind : TokenKind) → (next after).0 ≡ kind → is_last kind ≡ true → next after ≡ (kind, after)
next_last after kind e l =
    let t = taken_by after (next after).1 (next after).0 (next_is after) in
    ap (λ k. (k, (next after).1)) e ∙ ap (λ r. (kind, r)) (t.last (ap is_last e ∙ l))

pub lex_moves : (bs : List ℕ) (s e : ℕ) (kind : TokenKind) → next (chars (drop s bs)) ≡ (kind, chars (drop e bs)) → is_last kind ≡ false → s ≤ e → s < e
lex_moves bs s e kind is l h = by (cases_lt s e)
  where
    by : (s < e) ⊎ (e ≤ s) → s < e
    by (inl less) = less
    by (inr more) =
        let same : s ≡ e = omega arith in
        absurd (omega (arith, (taken (chars (drop s bs)) (chars (drop e bs)) kind is).other l, ap (λ k. length (chars (drop k bs))) same))

-- ---- a lexer's places, before the ignored text, before the token, and after it

pub record Passed (bs : List ℕ) (before start past : RunningPlace) (kind : TokenKind) (end : ℕ) : Type 0 where
  pub at_before : RunsOver bs before
  pub at_start : RunsOver bs start
  pub at_after : RunsOver bs past
  pub skips : before.walk.offset ≤ start.walk.offset
  pub goes : start.walk.offset ≤ past.walk.offset
  pub skipped : ahead start ≡ skip (ahead before)
  pub is : (next (ahead start)).0 ≡ kind
  pub rest : is_last kind ≡ false → (next (ahead start)).1 ≡ ahead past
  pub last_end : is_last kind ≡ true → end ≡ start.walk.offset
  pub other_end : is_last kind ≡ false → end ≡ past.walk.offset

ahead_is : (bs : List ℕ) (a : RunningPlace) → RunsOver bs a → ahead a ≡ chars (drop a.walk.offset bs)
ahead_is bs a r = ap (λ t. chars (drop a.walk.offset t)) r.same

boundary_is : (bs : List ℕ) (a : RunningPlace) → RunsOver bs a → IsCharBoundary bs a.walk.offset
boundary_is bs a r = subst (λ (t : List ℕ). IsCharBoundary t a.walk.offset) r.same r.running.reading.boundary

steps_of : (bs : List ℕ) (before start past : RunningPlace) (kind : TokenKind) (end : ℕ) → Passed bs before start past kind end
    → Steps bs before.walk.offset start.walk.offset end kind
steps_of bs before start past kind end p =
    let i = before.walk.offset in
    let s = start.walk.offset in
    let skipped : chars (drop s bs) ≡ skip (chars (drop i bs)) = sym (ahead_is bs start p.at_start) ∙ p.skipped ∙ ap skip (ahead_is bs before p.at_before) in
    let utf8 : IsUtf8 bs = subst IsUtf8 p.at_start.same p.at_start.running.reading.utf8 in
    let end_is = by (is_last kind) refl in
    record {
      utf8 = utf8;
      from = boundary_is bs before p.at_before;
      start = boundary_is bs start p.at_start;
      end = end_is.0;
      skips = p.skips;
      goes = end_is.1;
      skipped = skipped;
      is = end_is.2;
    }
  where
    by : (b : Bool) → is_last kind ≡ b → IsCharBoundary bs end × (start.walk.offset ≤ end) × (next (chars (drop start.walk.offset bs)) ≡ (kind, chars (drop end bs)))
    by true l =
        let e = p.last_end l in
        let n : next (ahead start) ≡ (kind, ahead start) = next_last (ahead start) kind p.is l in
        let here = ahead_is bs start p.at_start in
        rw e (boundary_is bs start p.at_start, omega arith, ap next (sym here) ∙ n ∙ ap (λ r. (kind, r)) here)
    by false l =
        let e = p.other_end l in
        let n : next (ahead start) ≡ (kind, ahead past) = next_from (ahead start) (ahead past) kind p.is p.rest l in
        rw e (boundary_is bs past p.at_after, p.goes, ap next (sym (ahead_is bs start p.at_start)) ∙ n ∙ ap (λ r. (kind, r)) (ahead_is bs past p.at_after))

pub pass_gives : (bs : List ℕ) (before start past : RunningPlace) (kind : TokenKind) (end : ℕ) → Passed bs before start past kind end
    → tokens_at bs before.walk.offset ≡ record { bare = record { kind = kind; spelling = slice_range bs start.walk.offset end }; start = start.walk.offset; pos = place bs start.walk.offset }
    ∷ cond (is_last kind) [] (tokens_at bs past.walk.offset)
pass_gives bs before start past kind end p =
    lex_step bs before.walk.offset start.walk.offset end kind (steps_of bs before start past kind end p)
    ∙ ap (λ x. record { bare = record { kind = kind; spelling = slice_range bs start.walk.offset end }; start = start.walk.offset; pos = place bs start.walk.offset } ∷ x) (by (is_last kind) refl)
  where
    by : (b : Bool) → is_last kind ≡ b → cond b [] (tokens_at bs end) ≡ cond b [] (tokens_at bs past.walk.offset)
    by true l = refl
    by false l = ap (tokens_at bs) (p.other_end l)

-- a token that isn't the last has bytes
pub pass_moves : (bs : List ℕ) (before start past : RunningPlace) (kind : TokenKind) (end : ℕ) → Passed bs before start past kind end → is_last kind ≡ false
    → before.walk.offset < past.walk.offset
pass_moves bs before start past kind end p l =
    let k = steps_of bs before start past kind end p in
    let e = p.other_end l in
    let m = lex_moves bs start.walk.offset end kind k.is l k.goes in
    omega (arith, p.skips)

-- tokens are left until the last was given
pub tokens_left : (bs : List ℕ) (i : ℕ) (is_ended : Bool) → (IsTrue is_ended → cond is_ended [] (tokens_at bs i) ≡ []) × (cond is_ended [] (tokens_at bs i) ≡ [] → IsTrue is_ended)
tokens_left bs i true = (λ _. refl, λ _. refl)
tokens_left bs i false = (λ h. absurd (cc), λ e. let s = tokens_step (chars (take i bs)) (chars (drop i bs)) in absurd cc)

-- all tokens of a text
pub at_start : (bs : List ℕ) (i : ℕ) → i ≡ 0 → tokens_at bs i ≡ tokens [] (chars bs)
at_start bs i e = ap (tokens_at bs) e ∙ ap (λ f. tokens f (chars bs)) chars-nil

-- what is left of them after the first n
pub left_ends : (bs : List ℕ) (n : ℕ) → drop n (tokens_at bs 0) ≢ [] → EndsOnce (drop n (tokens_at bs 0))
left_ends bs n some =
    ends_drop n (tokens_at bs 0) (subst EndsOnce (sym (at_start bs 0 refl)) (cuts_ends Current [] (chars bs) _ (tokens_cuts [] (chars bs)))) some

pub left_proper : (bs : List ℕ) (a : RunningPlace) (n : ℕ) → RunsOver bs a → AreProperButFaults (drop n (tokens_at bs 0))
left_proper bs a n r =
    let utf8 : IsUtf8 bs = subst IsUtf8 r.same r.running.reading.utf8 in
    let all = cuts_proper [] (chars bs) _ (text_scalars bs utf8) (tokens_cuts [] (chars bs)) in
    proper_drop n (tokens_at bs 0) (subst AreProperButFaults (sym (at_start bs 0 refl)) all)
