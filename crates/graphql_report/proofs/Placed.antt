-- Where each token of a text stands: its offset, its place and its characters.
use Rattle.std.proofs.Common.{◌≡◌, ℕ, Bool, true, false, ◌&&◌, List, [], ◌∷◌, ◌++◌, length, take, refl, sym, ap, ◌∙◌, subst, append_assoc, append-nil, inl, inr}
use Rattle.std.proofs.Math.Seq.{take-append_seam}
use Rattle.std.proofs.lemmas.Str.{encodes-append, encodes-chars, scalars-chars, chars-encodes, IsUtf8-append, IsCharBoundary-at_seam}
use Rattle.std.specs.List.{concat}
use lib.Utf8.{scalar}
use Rattle.std.specs.Str.{chars, all_scalars, encode_utf8_all, IsUtf8, IsCharBoundary}
use Rattle.graphql_tokens.specs.declared.lexer.TokenKind.{TokenKind}
use Rattle.graphql_tokens.specs.declared.lexer.TokenKind.TheVariants.{End, Fault}
use Rattle.graphql_tokens.specs.tokens.Cuts.{Cuts, IsCutInto, token}
use Rattle.graphql_tokens.specs.tokens.Edition.{Current}
use Rattle.graphql_tokens.specs.tokens.Place.{place_after}
use Rattle.graphql_tokens.specs.tokens.Token.{Token}
use Rattle.graphql_tokens.proofs.Lists.{Stands}

-- a token of these characters: those before it, those that spell it, and those after it
record IsAmong (text : List ℕ) (t : Token) : Type 0 where
  here : List ℕ
  word : List ℕ
  rest : List ℕ
  whole : text ≡ here ++ word ++ rest
  is : t ≡ token t.bare.kind here word

-- a token that has no characters, as an end or a fault
without-word : (here after : List ℕ) (t : Token) (kind : TokenKind) → t ≡ token kind here [] → IsAmong (here ++ after) t
without-word here after t kind is = record {
  here = here;
  word = [];
  rest = after;
  whole = ap (λ (l : List ℕ). l ++ after) (sym (append-nil here));
  is = is ∙ ap (λ k. token k here []) (sym (ap (λ (x : Token). x.bare.kind) is));
}

first-among : (here after : List ℕ) (t : Token) (ts : List Token) → Stands Current here after t ts → IsAmong (here ++ after) t
first-among here after t ts (inl b) = record {
  here = here;
  word = b.0.word;
  rest = b.0.rest;
  whole = ap (λ (l : List ℕ). here ++ l) b.0.whole ∙ sym (append_assoc here b.0.word b.0.rest);
  is = b.0.is ∙ ap (λ k. token k here b.0.word) (sym (ap (λ (x : Token). x.bare.kind) b.0.is));
}
first-among here after t ts (inr (inl b)) = without-word here after t End b.0.is
first-among here after t ts (inr (inr b)) = without-word here after t Fault b.0.is

no-others : (before : List Token) (t : Token) (after : List Token) → [] ≡ before ++ t ∷ after → ⊥
no-others [] t after e = cc
no-others (s ∷ before) t after e = cc

each-among : (front text : List ℕ) (ts : List Token) → Cuts Current front text ts → (before : List Token) (t : Token) (after : List Token) → ts ≡ before ++ t ∷ after → IsAmong (front ++ text) t
each-among front text [] c before t after e = absurd c
each-among front text (s ∷ ss) c before t after e =
    let here : List ℕ = front ++ concat c.0.pieces in
    let whole : front ++ text ≡ here ++ c.0.after = ap (λ (l : List ℕ). front ++ l) c.0.whole ∙ sym (append_assoc front (concat c.0.pieces) c.0.after) in
    subst (λ (l : List ℕ). IsAmong l t) (sym whole) (at here c.0.after c.1 (λ f r d b e. each-among f r ss d b t after e) before e)
  where
    later : (here rest : List ℕ) → Stands Current here rest s ss → ((f r : List ℕ) → Cuts Current f r ss → (b : List Token) → ss ≡ b ++ t ∷ after → IsAmong (f ++ r) t) → (b : List Token) → ss ≡ b ++ t ∷ after → IsAmong (here ++ rest) t
    later here rest (inl m) others b e =
        let joined : here ++ rest ≡ (here ++ m.0.word) ++ m.0.rest = ap (λ (l : List ℕ). here ++ l) m.0.whole ∙ sym (append_assoc here m.0.word m.0.rest) in
        subst (λ (l : List ℕ). IsAmong l t) (sym joined) (others (here ++ m.0.word) m.0.rest m.1 b e)
    later here rest (inr (inl m)) others b e = absurd (no-others b t after (sym m.1 ∙ e))
    later here rest (inr (inr m)) others b e = absurd (no-others b t after (sym m.1 ∙ e))

    at : (here rest : List ℕ) → Stands Current here rest s ss → ((f r : List ℕ) → Cuts Current f r ss → (b : List Token) → ss ≡ b ++ t ∷ after → IsAmong (f ++ r) t) → (b : List Token) → s ∷ ss ≡ b ++ t ∷ after → IsAmong (here ++ rest) t
    at here rest m others [] e = let same : s ≡ t = cc in subst (IsAmong (here ++ rest)) same (first-among here rest s ss m)
    at here rest m others (r ∷ b) e = later here rest m others b cc

-- ---- the same in bytes

-- a token of a text in UTF-8: the bytes before it, its spelling, and the bytes after it
pub record IsPlaced (text : List ℕ) (t : Token) : Type 0 where
  pub front : List ℕ
  pub back : List ℕ
  pub whole : text ≡ front ++ (t.bare.spelling ++ back)
  pub front_utf8 : IsUtf8 front
  pub spelling_utf8 : IsUtf8 t.bare.spelling
  pub back_utf8 : IsUtf8 back
  pub starts : t.start ≡ length front
  pub at : t.pos ≡ place_after (chars front)

both : (a b : Bool) → (a && b) ≡ true → (a ≡ true) × (b ≡ true)
both true b e = (refl, e)
both false b e = absurd cc

split-scalars : (xs ys : List ℕ) → all_scalars (xs ++ ys) ≡ true → (all_scalars xs ≡ true) × (all_scalars ys ≡ true)
split-scalars [] ys e = (refl, e)
split-scalars (x ∷ xs) ys e =
    let first = both (scalar x) (all_scalars (xs ++ ys)) e in
    let others = split-scalars xs ys first.1 in
    (ap (λ b. b && all_scalars xs) first.0 ∙ others.0, others.1)

of-among : (text : List ℕ) (t : Token) → IsUtf8 text → IsAmong (chars text) t → IsPlaced text t
of-among text t utf8 a = record {
  front = encode_utf8_all a.here;
  back = encode_utf8_all a.rest;
  whole = sym (encodes-chars text utf8) ∙ ap encode_utf8_all (a.whole ∙ append_assoc a.here a.word a.rest) ∙ encodes-append a.here (a.word ++ a.rest) ∙ ap (λ (l : List ℕ). encode_utf8_all a.here ++ l) (encodes-append a.word a.rest ∙ ap (λ (l : List ℕ). l ++ encode_utf8_all a.rest) (sym spelled));
  front_utf8 = (a.here, (here_scalars, refl));
  spelling_utf8 = subst IsUtf8 (sym spelled) (a.word, (parts.0, refl));
  back_utf8 = (a.rest, (parts.1, refl));
  starts = ap (λ (x : Token). x.start) a.is;
  at = ap (λ (x : Token). x.pos) a.is ∙ ap place_after (sym (chars-encodes a.here here_scalars));
}
  where
    scalars : all_scalars (a.here ++ (a.word ++ a.rest)) ≡ true
    scalars = subst (λ (l : List ℕ). all_scalars l ≡ true) (a.whole ∙ append_assoc a.here a.word a.rest) (scalars-chars text utf8)

    here_scalars : all_scalars a.here ≡ true
    here_scalars = (split-scalars a.here (a.word ++ a.rest) scalars).0

    parts : (all_scalars a.word ≡ true) × (all_scalars a.rest ≡ true)
    parts = split-scalars a.word a.rest (split-scalars a.here (a.word ++ a.rest) scalars).1

    spelled : t.bare.spelling ≡ encode_utf8_all a.word
    spelled = ap (λ (x : Token). x.bare.spelling) a.is

pub each-placed : (text : List ℕ) (before : List Token) (t : Token) (after : List Token) → IsUtf8 text → IsCutInto text (before ++ t ∷ after) → IsPlaced text t
each-placed text before t after utf8 cut = of-among text t utf8 (each-among [] (chars text) (before ++ t ∷ after) cut before t after refl)

-- it begins before a character, or at the end
pub placed-boundary : (text : List ℕ) (t : Token) → IsUtf8 text → IsPlaced text t → IsCharBoundary text t.start
placed-boundary text t utf8 p = subst (IsCharBoundary text) (sym p.starts) (IsCharBoundary-at_seam text p.front (t.bare.spelling ++ p.back) p.whole (IsUtf8-append t.bare.spelling p.back p.spelling_utf8 p.back_utf8))

pub placed-front : (text : List ℕ) (t : Token) (p : IsPlaced text t) → take t.start text ≡ p.front
placed-front text t p = ap (λ n. take n text) p.starts ∙ ap (take (length p.front)) p.whole ∙ take-append_seam p.front (t.bare.spelling ++ p.back)
