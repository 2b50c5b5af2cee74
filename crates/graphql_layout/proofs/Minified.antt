-- Tokens written one after another, with the least gaps, are the text minified.
use Rattle.std.proofs.Common.{◌≡◌, ◌≢◌, ℕ, Bool, true, false, if◌then◌else◌, inl, inr, List, [], ◌∷◌, ◌++◌, map, length, refl, sym, ap, ap₂, ◌∙◌, subst, arith, length-append, append-nil, codes}
use Rattle.std.proofs.lemmas.List.{append_cancel_right}
use Rattle.std.proofs.lemmas.Str.{encodes-chars, IsUtf8-append}
use Rattle.std.specs.Str.{chars, IsUtf8}
use Rattle.graphql_tokens.specs.tokens.Cuts.{IsCutInto, EndsOnce, HasNoFault}
use Rattle.graphql_tokens.specs.tokens.Proper.{AreProperButFaults}
use Rattle.graphql_tokens.specs.tokens.Token.{Bare, Token}
use Rattle.graphql_tokens.specs.tokens.Edition.{Current}
use Rattle.graphql_tokens.specs.tokens.Spelling.{IsSpelling}
use Rattle.graphql_tokens.specs.declared.lexer.TokenKind.{TokenKind}
use Rattle.graphql_tokens.specs.declared.lexer.TokenKind.TheVariants.{Fault, End}
use Rattle.graphql_tokens.proofs.Lists.{tokens_only}
use Rattle.graphql_layout.specs.declared.ending.Ending.{Ending}
use Rattle.graphql_layout.specs.declared.ending.Ending.TheVariants.{Open}
use Rattle.graphql_layout.specs.inner.Endings.{ending_of, stops_token, gap_before, joined}
use Rattle.graphql_layout.specs.inner.Written.{Allows}
use Rattle.graphql_layout.specs.texts.Minified.{MayTouch, IsLeastGap, IsTight, IsMinified}
use Rattle.graphql_layout.specs.texts.SameTokens.{bares, bare_end}
use Rattle.graphql_layout.specs.texts.Shortened.{shortened}
use Rattle.graphql_layout.proofs.Joined.{IsSpelled, ArePrintable, printable, joined_written}
use Rattle.graphql_layout.proofs.Remains.{Remains, none_remain}
use Rattle.graphql_layout.proofs.Room.{room}
use Rattle.graphql_layout.proofs.Shortenings.{short_printable, all_alike, all_specified, twice, joined_fits}

-- ---- which tokens may touch

open_gap : (spelling : List ℕ) → gap_before Open spelling ≡ []
open_gap [] = refl
open_gap (c ∷ cs) = refl

pub open_allows : (text : List ℕ) → Allows Open text
open_allows [] = tt
open_allows (c ∷ cs) = refl

spelled_utf8 : (b : Bare) (w : List ℕ) → IsSpelled b w → IsUtf8 b.spelling
spelled_utf8 b w s = (w, (s.scalars, sym s.bytes))

not_fault : (kind : TokenKind) (w : List ℕ) → IsSpelling Current kind w → kind ≢ Fault
not_fault kind w s e = subst (λ (k : TokenKind). IsSpelling Current k w) e s

pub whole_of : (ts : List Token) (bs : List Bare) → bares ts ≡ bs → ArePrintable bs → HasNoFault ts
whole_of ts [] e p = absurd p
whole_of [] (b ∷ bs) e p = absurd cc
whole_of (t ∷ ts) (b ∷ []) e p =
    let same : t.bare ≡ b = cc in
    let none : bares ts ≡ [] = cc in
    (λ f. absurd (let k : End ≡ Fault = ap (λ (x : Bare). x.kind) (sym p) ∙ ap (λ (x : Bare). x.kind) (sym same) ∙ f in cc), no_tokens ts none)
  where
    no_tokens : (us : List Token) → bares us ≡ [] → HasNoFault us
    no_tokens [] e = tt
    no_tokens (u ∷ us) e = absurd cc
whole_of (t ∷ ts) (b ∷ c ∷ bs) e p =
    let same : t.bare ≡ b = cc in
    let more : bares ts ≡ c ∷ bs = cc in
    (λ f. not_fault b.kind p.0.0 p.0.1.spelling (ap (λ (x : Bare). x.kind) (sym same) ∙ f), whole_of ts (c ∷ bs) more p.1)

two_joined : (a b : Bare) (stopped : Bool) → stops_token (ending_of a) b.spelling ≡ stopped → joined Open (a ∷ b ∷ bare_end ∷ []) ≡ a.spelling ++ ((if stopped then codes " " else []) ++ b.spelling)
two_joined a b stopped e =
    ap (λ (g : List ℕ). g ++ (a.spelling ++ joined (ending_of a) (b ∷ bare_end ∷ []))) (open_gap a.spelling)
    ∙ ap (λ (s : Bool). a.spelling ++ ((if s then codes " " else []) ++ (b.spelling ++ []))) e
    ∙ ap (λ (l : List ℕ). a.spelling ++ ((if stopped then codes " " else []) ++ l)) (append-nil b.spelling)

touch : (a b : Bare) (w v : List ℕ) → IsSpelled a w → IsSpelled b v → stops_token (ending_of a) b.spelling ≡ false → MayTouch a b
touch a b w v s t n =
    let r = (joined_written Open (a ∷ b ∷ bare_end ∷ []) ((w, s), ((v, t), refl))).written [] in
    (r.0, subst (λ (x : List ℕ). IsCutInto x r.0) (two_joined a b false n) r.1, r.2)

keep_apart : (a b : Bare) (w v : List ℕ) → IsSpelled a w → IsSpelled b v → stops_token (ending_of a) b.spelling ≡ true → ¬ (MayTouch a b)
keep_apart a b w v s t n h =
    let text = a.spelling ++ b.spelling in
    let utf8 : IsUtf8 text = IsUtf8-append a.spelling b.spelling (spelled_utf8 a w s) (spelled_utf8 b v t) in
    let whole = whole_of h.0 (a ∷ b ∷ bare_end ∷ []) h.2 ((w, s), ((v, t), refl)) in
    let fits = room Open [] (chars text) h.0 h.1 whole (open_allows (chars text)) in
    let is : length (joined Open (bares h.0)) ≡ length (a.spelling ++ (32 ∷ b.spelling)) = ap (λ (l : List Bare). length (joined Open l)) h.2 ∙ ap length (two_joined a b true n) in
    omega (arith, is, fits, ap length (encodes-chars text utf8), length-append a.spelling (32 ∷ b.spelling), length-append a.spelling b.spelling)

-- ---- the least gaps

least : (a b : Bare) (w v : List ℕ) → IsSpelled a w → IsSpelled b v → (stopped : Bool) → stops_token (ending_of a) b.spelling ≡ stopped → IsLeastGap a b (if stopped then codes " " else [])
least a b w v s t true e = inr (keep_apart a b w v s t e, refl)
least a b w v s t false e = inl (touch a b w v s t e, refl)

tight_after : (b : Bare) (bs : List Bare) → ArePrintable (b ∷ (bs ++ bare_end ∷ [])) → IsTight (b ∷ bs) (b.spelling ++ joined (ending_of b) (bs ++ bare_end ∷ []))
tight_after b [] p = append-nil b.spelling
tight_after b (c ∷ []) p = (
  gap_before (ending_of b) c.spelling,
  c.spelling ++ joined (ending_of c) (bare_end ∷ []),
  refl,
  least b c p.0.0 p.1.0.0 p.0.1 p.1.0.1 (stops_token (ending_of b) c.spelling) refl,
  tight_after c [] p.1,
)
tight_after b (c ∷ d ∷ bs) p = (
  gap_before (ending_of b) c.spelling,
  c.spelling ++ joined (ending_of c) (d ∷ (bs ++ bare_end ∷ [])),
  refl,
  least b c p.0.0 p.1.0.0 p.0.1 p.1.0.1 (stops_token (ending_of b) c.spelling) refl,
  tight_after c (d ∷ bs) p.1,
)

tight : (bs : List Bare) → ArePrintable (bs ++ bare_end ∷ []) → IsTight bs (joined Open (bs ++ bare_end ∷ []))
tight [] p = refl
tight (b ∷ bs) p = subst (IsTight (b ∷ bs)) (sym (ap (λ (g : List ℕ). g ++ (b.spelling ++ joined (ending_of b) (bs ++ bare_end ∷ []))) (open_gap b.spelling))) (tight_after b bs (spelled_first bs p))
  where
    spelled_first : (cs : List Bare) → ArePrintable (b ∷ cs ++ bare_end ∷ []) → ArePrintable (b ∷ (cs ++ bare_end ∷ []))
    spelled_first cs q = q

-- ---- the whole

record Split (bs : List Bare) : Type 0 where
  front : List Bare
  is : bs ≡ front ++ bare_end ∷ []

split_end : (bs : List Bare) → ArePrintable bs → Split bs
split_end [] p = absurd p
split_end (b ∷ []) p = record { front = []; is = ap (λ (e : Bare). e ∷ []) p }
split_end (b ∷ c ∷ bs) p = let s = split_end (c ∷ bs) p.1 in record { front = b ∷ s.front; is = ap (λ (l : List Bare). b ∷ l) s.is }

short_end : (front : List Bare) → map shortened (front ++ bare_end ∷ []) ≡ map shortened front ++ bare_end ∷ []
short_end [] = refl
short_end (b ∷ front) = ap (λ (l : List Bare). shortened b ∷ l) (short_end front)

pub minified : (text other : List ℕ) (ts : List Token) → IsUtf8 text → IsCutInto text ts → EndsOnce ts → AreProperButFaults ts → HasNoFault ts → other ≡ joined Open (map shortened (bares ts)) → IsMinified text other
minified text other ts u cut ends proper whole is =
    let p = printable ts ends whole proper in
    let q = short_printable (bares ts) p in
    let s = split_end (bares ts) p in
    let short : map shortened (bares ts) ≡ map shortened s.front ++ bare_end ∷ [] = ap (map shortened) s.is ∙ short_end s.front in
    let r = (joined_written Open (map shortened (bares ts)) q).written [] in
    let fits = room Open [] (chars text) ts cut whole (open_allows (chars text)) in
    record {
      tokens = s.front;
      of_text = (ts, cut, s.is);
      of_other = (r.0, subst (λ (x : List ℕ). IsCutInto x r.0) (sym is) r.1, r.2 ∙ short);
      alike = all_alike s.front (subst ArePrintable s.is p);
      as_specified = all_specified s.front (subst ArePrintable s.is p);
      tight = subst (IsTight (map shortened s.front)) (sym (is ∙ ap (joined Open) short)) (tight (map shortened s.front) (subst ArePrintable short q));
      no_longer = omega (arith, fits, joined_fits Open (bares ts) p, ap length is, ap length (encodes-chars text u));
    }

pub all_written : (text other : List ℕ) (all rest : List Token) (ending : Ending) → IsUtf8 text → IsCutInto text all → EndsOnce all → AreProperButFaults all → Remains all rest ending other → rest ≡ [] → IsMinified text other
all_written text other all rest ending u cut ends proper r is = let n = none_remain all rest ending other r is in minified text other all u cut ends proper n.1 n.0

-- ---- once more

one_gap : (a b : Bare) (g h : List ℕ) → IsLeastGap a b g → IsLeastGap a b h → g ≡ h
one_gap a b g h (inl x) (inl y) = x.1 ∙ sym y.1
one_gap a b g h (inl x) (inr y) = absurd (y.0 x.0)
one_gap a b g h (inr x) (inl y) = absurd (x.0 y.0)
one_gap a b g h (inr x) (inr y) = x.1 ∙ sym y.1

one_tight : (bs : List Bare) (x y : List ℕ) → IsTight bs x → IsTight bs y → x ≡ y
one_tight [] x y h k = h ∙ sym k
one_tight (b ∷ []) x y h k = h ∙ sym k
one_tight (a ∷ b ∷ bs) x y h k =
    h.2 ∙ ap₂ (λ (g r : List ℕ). a.spelling ++ (g ++ r)) (one_gap a b h.0 k.0 h.3 k.3) (one_tight (b ∷ bs) h.1 k.1 h.4 k.4) ∙ sym k.2

pub again : (text other more : List ℕ) → IsMinified text other → IsMinified other more → more ≡ other
again text other more m k =
    let one : k.of_text.0 ≡ m.of_other.0 = tokens_only [] (chars other) k.of_text.0 k.of_text.1 ∙ sym (tokens_only [] (chars other) m.of_other.0 m.of_other.1) in
    let same : k.tokens ≡ map shortened m.tokens = append_cancel_right k.tokens (map shortened m.tokens) (bare_end ∷ []) (sym k.of_text.2 ∙ ap bares one ∙ m.of_other.2) in
    let short : map shortened k.tokens ≡ map shortened m.tokens = ap (map shortened) same ∙ twice m.tokens m.alike in
    one_tight (map shortened m.tokens) more other (subst (λ (l : List Bare). IsTight l more) short k.tight) m.tight
