-- How a text is cut that begins with another, whose last character is a line feed: as that one, and then as the rest.
use Rattle.std.proofs.Common.{◌≡◌, ℕ, zero, suc, ◌≤◌, Bool, true, false, cond, inl, inr, List, [], ◌∷◌, ◌++◌, length, refl, sym, ap, ◌∙◌, subst, append_assoc, append-nil, length-append, arith}
use Rattle.std.proofs.lemmas.Bool.Decides.{nat_tests}
use Rattle.std.proofs.lemmas.List.Folds.{concat-append}
use Rattle.std.specs.List.{AllByRecursion, concat}
use Rattle.std.specs.Str.{encode_utf8_all}
use Rattle.graphql_tokens.specs.tokens.Classes.{is_name_char}
use Rattle.graphql_tokens.specs.tokens.Cuts.{is_last, Cuts}
use Rattle.graphql_tokens.specs.tokens.Edition.{Current}
use Rattle.graphql_tokens.specs.tokens.Ignored.{EndsLine, IsComment, IsPiece, AreIgnored}
use Rattle.graphql_tokens.specs.tokens.Numbers.{is_minus, is_sign, AllDigits, AreDigits, IsOptional, IsWhole, IsFraction, IsExponent, IsNumber}
use Rattle.graphql_tokens.specs.tokens.Place.{is_line_end, is_line_feed}
use Rattle.graphql_tokens.specs.tokens.Spelling.{Begins, IsSpelling, MayFollow}
use Rattle.graphql_tokens.specs.tokens.Token.{Bare, Token}
use Rattle.graphql_tokens.specs.inner.Reading.{skip, next, before, tokens_from, tokens}
use Rattle.graphql_tokens.specs.declared.lexer.TokenKind.{TokenKind}
use Rattle.graphql_tokens.specs.declared.lexer.TokenKind.TheVariants.{Punct, Name, Number, String, Block, Fault, End}
use Rattle.graphql_tokens.proofs.Lists.{Stands, tokens_only}
use Rattle.graphql_reading.specs.grammar.Fronts.{bares}
use Rattle.graphql_report.proofs.Lines.{line_feeds, line_feeds-append, IsLined, lined-after}

-- ---- no token ends in a line feed

none-cons : (c : ℕ) (cs : List ℕ) → is_line_feed c ≡ false → line_feeds cs ≡ 0 → line_feeds (c ∷ cs) ≡ 0
none-cons c cs e h = rw (e, h) refl

none-append : (xs ys : List ℕ) → line_feeds xs ≡ 0 → line_feeds ys ≡ 0 → line_feeds (xs ++ ys) ≡ 0
none-append xs ys h k = omega (arith, line_feeds-append xs ys, h, k)

names-none : (cs : List ℕ) → AllByRecursion (λ d. is_name_char d ≡ true) cs → line_feeds cs ≡ 0
names-none [] h = refl
names-none (c ∷ cs) h = none-cons c cs (let e = h.0 in grind (arith, nat_tests)) (names-none cs h.1)

digits-none : (cs : List ℕ) → AllDigits cs → line_feeds cs ≡ 0
digits-none [] h = refl
digits-none (c ∷ cs) h = none-cons c cs (let e = h.0 in grind (arith, nat_tests)) (digits-none cs h.1)

some-digits-none : (cs : List ℕ) → AreDigits cs → line_feeds cs ≡ 0
some-digits-none [] h = absurd h
some-digits-none (c ∷ cs) h = digits-none (c ∷ cs) h

minus-none : (w : List ℕ) → IsOptional is_minus w → line_feeds w ≡ 0
minus-none w (inl e) = ap line_feeds e
minus-none w (inr m) = ap line_feeds m.2 ∙ none-cons m.0 [] (let e = m.1 in grind (arith, nat_tests)) refl

sign-none : (w : List ℕ) → IsOptional is_sign w → line_feeds w ≡ 0
sign-none w (inl e) = ap line_feeds e
sign-none w (inr m) = ap line_feeds m.2 ∙ none-cons m.0 [] (let e = m.1 in grind (arith, nat_tests)) refl

whole-none : (w : List ℕ) → IsWhole w → line_feeds w ≡ 0
whole-none [] h = absurd h
whole-none (c ∷ cs) (inl z) = none-cons c cs (let e = z.0 in grind (arith, nat_tests)) (ap line_feeds z.1)
whole-none (c ∷ cs) (inr d) = digits-none (c ∷ cs) (d.1, d.2)

fraction-none : (w : List ℕ) → IsFraction w → line_feeds w ≡ 0
fraction-none [] h = refl
fraction-none (c ∷ cs) h = none-cons c cs (let e = h.0 in grind (arith, nat_tests)) (some-digits-none cs h.1)

exponent-none : (w : List ℕ) → IsExponent w → line_feeds w ≡ 0
exponent-none [] h = refl
exponent-none (c ∷ cs) h = none-cons c cs (let e = h.0 in grind (arith, nat_tests)) (ap line_feeds h.1.2 ∙ none-append h.1.0 h.1.1 (sign-none h.1.0 h.1.3) (some-digits-none h.1.1 h.1.4))

number-none : (w : List ℕ) → IsNumber w → line_feeds w ≡ 0
number-none w n =
    ap line_feeds n.4
    ∙ none-append n.0 (n.1 ++ (n.2 ++ n.3)) (minus-none n.0 n.5) (none-append n.1 (n.2 ++ n.3) (whole-none n.1 n.6) (none-append n.2 n.3 (fraction-none n.2 n.7) (exponent-none n.3 n.8)))

whole-some : (w rest : List ℕ) → IsWhole w → 1 ≤ length (w ++ rest)
whole-some [] rest h = absurd h
whole-some (c ∷ cs) rest h = omega arith

number-some : (w : List ℕ) → IsNumber w → 1 ≤ length w
number-some w n = let some = whole-some n.1 (n.2 ++ n.3) n.6 in omega (arith, ap length n.4, length-append n.0 (n.1 ++ (n.2 ++ n.3)), some)

-- the end of a word, in which no line feed stands
record EndsInLine (w : List ℕ) : Type 0 where
  front : List ℕ
  back : List ℕ
  joined : w ≡ front ++ back
  some : 1 ≤ length back
  none : line_feeds back ≡ 0

ends-in-line : (kind : TokenKind) (w : List ℕ) → IsSpelling Current kind w → EndsInLine w
ends-in-line Punct w (inl p) = record { front = []; back = p.0 ∷ []; joined = p.1; some = omega arith; none = none-cons p.0 [] (let e = p.2 in grind (arith, nat_tests)) refl }
ends-in-line Punct w (inr e) = record { front = []; back = 46 ∷ 46 ∷ 46 ∷ []; joined = e; some = omega arith; none = refl }
ends-in-line Name [] h = absurd h
ends-in-line Name (c ∷ cs) h = record { front = []; back = c ∷ cs; joined = refl; some = omega arith; none = none-cons c cs (let e = h.0 in grind (arith, nat_tests)) (names-none cs h.1) }
ends-in-line Number w h = record { front = []; back = w; joined = refl; some = number-some w h; none = number-none w h }
ends-in-line String w h = record { front = 34 ∷ h.0; back = 34 ∷ []; joined = h.1; some = omega arith; none = refl }
ends-in-line Block w h = record { front = 34 ∷ 34 ∷ 34 ∷ concat h.0; back = 34 ∷ 34 ∷ 34 ∷ []; joined = h.1; some = omega arith; none = refl }
ends-in-line Fault w h = absurd h
ends-in-line End w h = absurd h

not-lined : (w : List ℕ) → EndsInLine w → IsLined w → ⊥
not-lined w e l = let n = l.by e.front e.back e.joined e.some in omega (arith, n, e.none)

-- ---- what stands in a text stands there still where the text goes on

follows-more : (kind : TokenKind) (w rest s : List ℕ) → IsLined (w ++ rest) → Begins Current kind w rest → MayFollow kind w (rest ++ s)
follows-more kind w [] s l b = absurd (not-lined w (ends-in-line kind w b.spelled) (subst IsLined (append-nil w) l))
follows-more kind w (c ∷ rest) s l b = b.follows

begins-more : (kind : TokenKind) (w rest s : List ℕ) → IsLined (w ++ rest) → Begins Current kind w rest → Begins Current kind w (rest ++ s)
begins-more kind w rest s l b = record { spelled = b.spelled; follows = follows-more kind w rest s l b }

in-line-none : (w : List ℕ) → AllByRecursion (λ d. is_line_end d ≡ false) w → line_feeds w ≡ 0
in-line-none [] h = refl
in-line-none (c ∷ cs) h = none-cons c cs (let e = h.0 in grind (arith, nat_tests)) (in-line-none cs h.1)

comment-ends : (piece : List ℕ) → IsComment piece → EndsInLine piece
comment-ends [] h = absurd h
comment-ends (c ∷ body) h = record { front = []; back = c ∷ body; joined = refl; some = omega arith; none = none-cons c body (let e = h.0 in grind (arith, nat_tests)) (in-line-none body h.1) }

ends-more : (piece rest s : List ℕ) → IsComment piece → IsLined (piece ++ rest) → EndsLine rest → EndsLine (rest ++ s)
ends-more piece [] s k l e = absurd (not-lined piece (comment-ends piece k) (subst IsLined (append-nil piece) l))
ends-more piece (c ∷ rest) s k l e = e

piece-more : (piece rest s : List ℕ) → IsLined (piece ++ rest) → IsPiece piece rest → IsPiece piece (rest ++ s)
piece-more piece rest s l (inl p) = inl p
piece-more piece rest s l (inr p) = inr (p.0, ends-more piece rest s p.0 l p.1)

ignored-more : (pieces : List (List ℕ)) (after s : List ℕ) → IsLined (concat pieces ++ after) → AreIgnored pieces after → AreIgnored pieces (after ++ s)
ignored-more [] after s l h = tt
ignored-more (p ∷ ps) after s l h =
    let lined : IsLined (p ++ (concat ps ++ after)) = subst IsLined (append_assoc p (concat ps) after) l in
    (subst (IsPiece p) (append_assoc (concat ps) after s) (piece-more p (concat ps ++ after) s lined h.0), ignored-more ps after s (lined-after p (concat ps ++ after) lined) h.1)

pub ignored-append : (ps qs : List (List ℕ)) (after : List ℕ) → AreIgnored ps (concat qs ++ after) → AreIgnored qs after → AreIgnored (ps ++ qs) after
ignored-append [] qs after h k = k
ignored-append (p ∷ ps) qs after h k =
    let same : concat ps ++ (concat qs ++ after) ≡ concat (ps ++ qs) ++ after = sym (append_assoc (concat ps) (concat qs) after) ∙ ap (λ (l : List ℕ). l ++ after) (sym (concat-append ps qs)) in
    (subst (IsPiece p) same h.0, ignored-append ps qs after h.1 k)

-- ---- two texts, one after the other

nothing-left : (ts : List Token) (e : Token) → ts ++ e ∷ [] ≡ [] → ⊥
nothing-left [] e h = cc
nothing-left (t ∷ ts) e h = cc

-- the end of the first
join-end : (front a s : List ℕ) (vs : List Token) (e : Token) → IsLined a → Cuts Current front a (e ∷ []) → e.bare.kind ≡ End → Cuts Current (front ++ a) s vs → Cuts Current front (a ++ s) vs
join-end front a s [] e l c is d = absurd d
join-end front a s (v ∷ vs) e l c is d = go c.1
  where
    go : Stands Current (front ++ concat c.0.pieces) c.0.after e [] → Cuts Current front (a ++ s) (v ∷ vs)
    go (inl m) = absurd m.1
    go (inr (inl m)) =
        let ps = c.0.pieces in
        let qs = d.0.pieces in
        let whole : a ≡ concat ps = c.0.whole ∙ ap (λ (l : List ℕ). concat ps ++ l) m.0.ends ∙ append-nil (concat ps) in
        let rest : c.0.after ++ s ≡ concat qs ++ d.0.after = ap (λ (l : List ℕ). l ++ s) m.0.ends ∙ d.0.whole in
        let here : (front ++ a) ++ concat qs ≡ front ++ concat (ps ++ qs) =
        append_assoc front a (concat qs) ∙ ap (λ (l : List ℕ). front ++ (l ++ concat qs)) whole ∙ ap (λ (l : List ℕ). front ++ l) (sym (concat-append ps qs)) in (
          record {
            pieces = ps ++ qs;
            after = d.0.after;
            whole = ap (λ (l : List ℕ). l ++ s) whole ∙ ap (λ (l : List ℕ). concat ps ++ l) d.0.whole ∙ sym (append_assoc (concat ps) (concat qs) d.0.after) ∙ ap (λ (l : List ℕ). l ++ d.0.after) (sym (concat-append ps qs));
            ignored = ignored-append ps qs d.0.after (subst (AreIgnored ps) rest (ignored-more ps c.0.after s (subst IsLined c.0.whole l) c.0.ignored)) d.0.ignored;
          },
          subst (λ (f : List ℕ). Stands Current f d.0.after v vs) here d.1,
        )
    go (inr (inr m)) = absurd (let other : e.bare.kind ≡ Fault = ap (λ (t : Token). t.bare.kind) m.0.is in cc)

-- the first is cut into these tokens and an end, and what follows it into those
pub join : (front a s : List ℕ) (ts vs : List Token) (e : Token) → IsLined a → Cuts Current front a (ts ++ e ∷ []) → e.bare.kind ≡ End → Cuts Current (front ++ a) s vs → Cuts Current front (a ++ s) (ts ++ vs)
join front a s [] vs e l c is d = join-end front a s vs e l c is d
join front a s (t ∷ ts) vs e l c is d = (
  record {
    pieces = c.0.pieces;
    after = c.0.after ++ s;
    whole = ap (λ (l : List ℕ). l ++ s) c.0.whole ∙ append_assoc (concat c.0.pieces) c.0.after s;
    ignored = ignored-more c.0.pieces c.0.after s (subst IsLined c.0.whole l) c.0.ignored;
  },
  go c.1 (λ f r lined cut more. join f r s ts vs e lined cut is more),
)
  where
    go : Stands Current (front ++ concat c.0.pieces) c.0.after t (ts ++ e ∷ []) → ((f r : List ℕ) → IsLined r → Cuts Current f r (ts ++ e ∷ []) → Cuts Current (f ++ r) s vs → Cuts Current f (r ++ s) (ts ++ vs)) → Stands Current (front ++ concat c.0.pieces) (c.0.after ++ s) t (ts ++ vs)
    go (inl m) others =
        let here = front ++ concat c.0.pieces in
        let lined : IsLined (m.0.word ++ m.0.rest) = subst IsLined m.0.whole (lined-after (concat c.0.pieces) c.0.after (subst IsLined c.0.whole l)) in
        let place : front ++ a ≡ (here ++ m.0.word) ++ m.0.rest =
        ap (λ (l : List ℕ). front ++ l) c.0.whole ∙ sym (append_assoc front (concat c.0.pieces) c.0.after) ∙ ap (λ (l : List ℕ). here ++ l) m.0.whole ∙ sym (append_assoc here m.0.word m.0.rest) in
        inl (
          record {
            kind = m.0.kind;
            word = m.0.word;
            rest = m.0.rest ++ s;
            whole = ap (λ (l : List ℕ). l ++ s) m.0.whole ∙ append_assoc m.0.word m.0.rest s;
            begins = begins-more m.0.kind m.0.word m.0.rest s lined m.0.begins;
            is = m.0.is;
          },
          others (here ++ m.0.word) m.0.rest (lined-after m.0.word m.0.rest lined) m.1 (subst (λ (f : List ℕ). Cuts Current f s vs) place d),
        )
    go (inr (inl m)) others = absurd (nothing-left ts e m.1)
    go (inr (inr m)) others = absurd (nothing-left ts e m.1)

-- ---- places

bares-unless : (last : Bool) (n : ℕ) (f g text : List ℕ) → bares (tokens_from n f text) ≡ bares (tokens_from n g text) → bares (cond last [] (tokens_from n f text)) ≡ bares (cond last [] (tokens_from n g text))
bares-unless true n f g text h = refl
bares-unless false n f g text h = h

bares-from : (n : ℕ) (f g text : List ℕ) → bares (tokens_from n f text) ≡ bares (tokens_from n g text)
unfolding tokens_from
bares-from zero f g text = refl
bares-from (suc n) f g text =
    let after = skip text in
    let t = next after in
    let w = before after t.1 in
    let h = (f ++ before text after) ++ w in
    let k = (g ++ before text after) ++ w in
    ap (λ (l : List Bare). record { kind = t.0; spelling = encode_utf8_all w } ∷ l) (bares-unless (is_last t.0) n h k t.1 (bares-from n h k t.1))

same-bares : (f g text : List ℕ) → bares (tokens f text) ≡ bares (tokens g text)
unfolding tokens
same-bares f g text = bares-from (suc (length text)) f g text

-- what stands before a text makes no difference to its bare tokens
pub bares-of : (f g text : List ℕ) (ts us : List Token) → Cuts Current f text ts → Cuts Current g text us → bares ts ≡ bares us
bares-of f g text ts us c d = ap bares (tokens_only f text ts c) ∙ same-bares f g text ∙ ap bares (sym (tokens_only g text us d))
