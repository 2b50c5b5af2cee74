-- Tokens that are written anew take no more bytes than the text that is cut into them: where they may not touch, something
-- stands between them there.
use Rattle.std.proofs.Common.{◌≡◌, ℕ, ◌+◌, ◌≤◌, Bool, true, false, if◌then◌else◌, ◌⊎◌, inl, inr, List, [], ◌∷◌, ◌++◌, length, refl, sym, ap, ◌∙◌, subst, arith, length-append, codes}
use Rattle.std.proofs.lemmas.Str.{encodes-append, length-le-encodes}
use Rattle.std.specs.List.{concat}
use Rattle.std.specs.Str.{encode_utf8_all}
use Rattle.graphql_tokens.specs.tokens.Cuts.{Cuts, HasNoFault}
use Rattle.graphql_tokens.specs.tokens.Edition.{Current}
use Rattle.graphql_tokens.specs.tokens.Token.{Bare, Token}
use Rattle.graphql_tokens.specs.declared.lexer.TokenKind.{TokenKind}
use Rattle.graphql_tokens.proofs.Lists.{Stands}
use Rattle.graphql_layout.specs.declared.ending.Ending.{Ending}
use Rattle.graphql_layout.specs.inner.Endings.{ending_by, stops_token, gap_before, joined}
use Rattle.graphql_layout.specs.inner.Written.{Allows}
use Rattle.graphql_layout.specs.texts.SameTokens.{bares, bare_end}
use Rattle.graphql_layout.proofs.Firsts.{begun, not_stopped, allows}

short : (stopped : Bool) → length (if stopped then codes " " else []) ≤ 1
short true = omega arith
short false = omega arith

none : (stopped : Bool) → stopped ≡ false → length (if stopped then codes " " else []) ≤ 0
none true e = absurd cc
none false e = omega arith

-- a blank is written only where a character was
gap_fits : (ending : Ending) (pieces text w rest : List ℕ) (kind : TokenKind) → text ≡ pieces ++ (w ++ rest) → Allows ending text → (stops_token ending (encode_utf8_all w) ≡ false) ⊎ (1 ≤ length pieces)
    → length (gap_before ending (encode_utf8_all w)) ≤ length pieces
gap_fits ending pieces text w rest kind is a (inl n) = omega (arith, none (stops_token ending (encode_utf8_all w)) n)
gap_fits ending pieces text w rest kind is a (inr k) = omega (arith, short (stops_token ending (encode_utf8_all w)))

touches : (ending : Ending) (pieces w rest text : List ℕ) → ((h : Allows ending (w ++ rest)) → stops_token ending (encode_utf8_all w) ≡ false) → text ≡ pieces ++ (w ++ rest) → Allows ending text
    → (stops_token ending (encode_utf8_all w) ≡ false) ⊎ (1 ≤ length pieces)
touches ending [] w rest text f is a = inl (f (subst (Allows ending) is a))
touches ending (c ∷ pieces) w rest text f is a = inr (omega arith)

one_token : (ending : Ending) (pieces text w rest : List ℕ) (kind : TokenKind) (bs : List Bare) → text ≡ pieces ++ (w ++ rest) → length (gap_before ending (encode_utf8_all w)) ≤ length pieces
    → length (joined (ending_by kind (encode_utf8_all w)) bs) ≤ length (encode_utf8_all rest)
    → length (joined ending (record { kind = kind; spelling = encode_utf8_all w } ∷ bs)) ≤ length (encode_utf8_all text)
one_token ending pieces text w rest kind bs is fits more =
    let gap = gap_before ending (encode_utf8_all w) in
    let word = encode_utf8_all w in
    let after = joined (ending_by kind word) bs in
    let whole : length (encode_utf8_all text) ≡ length (encode_utf8_all pieces) + (length word + length (encode_utf8_all rest)) =
    ap (λ (l : List ℕ). length (encode_utf8_all l)) is ∙ ap length (encodes-append pieces (w ++ rest) ∙ ap (λ (l : List ℕ). encode_utf8_all pieces ++ l) (encodes-append w rest))
    ∙ length-append (encode_utf8_all pieces) (word ++ encode_utf8_all rest) ∙ ap (λ (n : ℕ). length (encode_utf8_all pieces) + n) (length-append word (encode_utf8_all rest)) in
    omega (arith, whole, fits, more, length-le-encodes pieces, length-append gap (word ++ after), length-append word after)

pub room : (ending : Ending) (front text : List ℕ) (ts : List Token) → Cuts Current front text ts → HasNoFault ts → Allows ending text → length (joined ending (bares ts)) ≤ length (encode_utf8_all text)
room ending front text [] c n a = absurd c
room ending front text (t ∷ ts) c n a = go c.1 (λ e f r d m. room e f r ts d n.1 m)
  where
    pieces : List ℕ
    pieces = concat c.0.pieces

    go : Stands Current (front ++ pieces) c.0.after t ts
        → ((e : Ending) (f r : List ℕ) → Cuts Current f r ts → Allows e r → length (joined e (bares ts)) ≤ length (encode_utf8_all r))
        → length (joined ending (t.bare ∷ bares ts)) ≤ length (encode_utf8_all text)
    go (inl m) ih =
        let w = m.0.word in
        let is : text ≡ pieces ++ (w ++ m.0.rest) = c.0.whole ∙ ap (λ (l : List ℕ). pieces ++ l) m.0.whole in
        let b = begun m.0.kind w m.0.begins.spelled in
        let more = ih (ending_by m.0.kind (encode_utf8_all w)) ((front ++ pieces) ++ w) m.0.rest m.1 (allows m.0.kind w (encode_utf8_all w) m.0.rest m.0.begins.spelled refl m.0.begins.follows) in
        let fits = gap_fits ending pieces text w m.0.rest m.0.kind is a (touches ending pieces w m.0.rest text (λ h. not_stopped ending (encode_utf8_all w) w m.0.rest b refl h) is a) in
        let same : record { kind = m.0.kind; spelling = encode_utf8_all w } ≡ t.bare = ap (λ (u : Token). u.bare) (sym m.0.is) in
        subst (λ (x : Bare). length (joined ending (x ∷ bares ts)) ≤ length (encode_utf8_all text)) same (one_token ending pieces text w m.0.rest m.0.kind (bares ts) is fits more)
    go (inr (inl m)) ih =
        let same : bare_end ∷ [] ≡ t.bare ∷ bares ts = ap (λ (u : Token). u.bare ∷ []) (sym m.0.is) ∙ ap (λ (l : List Token). t.bare ∷ bares l) (sym m.1) in
        subst (λ (l : List Bare). length (joined ending l) ≤ length (encode_utf8_all text)) same (omega arith)
    go (inr (inr m)) ih = absurd (n.0 (ap (λ (u : Token). u.bare.kind) m.0.is))
