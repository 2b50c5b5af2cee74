-- One token with what it means, read by a function that decides the meaning.
use Rattle.std.proofs.Common.{◌≡◌, Bool, true, false, cond, ℕ, IsTrue, Option, Some, None, List, [], ◌∷◌, ◌++◌, inl, inr, refl, sym, ap, ◌∙◌, subst}
use Rattle.graphql_tokens.specs.declared.lexer.TokenKind.TheVariants.{Block}
use Rattle.graphql_tokens.specs.tokens.Alike.{AreOneBlock, IsAlike, AreAlike}
use Rattle.graphql_tokens.specs.tokens.Token.{Bare, Token}
use Rattle.graphql_reading.specs.grammar.Tests.{Test}
use Rattle.graphql_reading.specs.grammar.Limits.{Limits}
use Rattle.graphql_reading.specs.grammar.Relations.{Mapped, mapped, meaning}
use Rattle.graphql_reading.specs.grammar.Fronts.{bares, without_place, without_places, syntax}
use Rattle.graphql_reading.specs.reading.Outcome.{meant, meaning_at, Refused}
use Rattle.graphql_reading.proofs.Theory.{Exact, IsStopped, IsInner, Begins, peek}
use Rattle.graphql_reading.proofs.TokenTests.{HasSample}
use Rattle.graphql_reading.proofs.ReadsExactly.{ReadsExactly, HasPhrase, BeginsWith}
use Rattle.graphql_reading.proofs.IgnoresPlaces.{IgnoresPlaces, Same, PassesNoBlock, no-bares, alike-one, head-is}

-- the value is the one meaning, where there is any
pub record Decides {A : Type 0} (value : Bare → Option A) (means : Bare → A → Type 0) : Type 0 where
  pub sound : (t : Bare) (a : A) → value t ≡ Some a → means t a
  pub complete : (t : Bare) (a : A) → means t a → value t ≡ Some a

-- ---- it is read exactly

-- a phrase in a list that begins with this token is this token
is-it : {A : Type 0} (test : Test) (means : Bare → A → Type 0) (t : Token) (x y z : List Token) (s : Token × A) → meaning test means x s → x ++ y ≡ t ∷ z → s.0 ≡ t
is-it test means t x y z s h eq = head-is s.0 t y z (ap (λ (k : List Token). k ++ y) (sym h.0) ∙ eq)

no-meaning : {A : Type 0} (test : Test) (value : Bare → Option A) (means : Bare → A → Type 0) (b : Limits) (f : Test) (t : Token) (ts : List Token) → Decides value means → value t.bare ≡ None → IsStopped (λ c. meaning test means) b f (t ∷ ts) syntax (t ∷ ts)
no-meaning test value means b f t ts decides none = record {
  before = [];
  split = refl;
  quiet = tt;
  alive = inl refl;
  dead = λ c x y z s h begins eq.
      let here = decides.complete s.0.bare s.1 h.2 in
      let same = ap (λ (t : Token). value t.bare) (is-it test means t x y z s h eq) in
      absurd cc;
}

no-token : {A : Type 0} (test : Test) (means : Bare → A → Type 0) (b : Limits) (f : Test) (t : Token) (ts : List Token) → test t.bare ≡ false → IsStopped (λ c. meaning test means) b f (t ∷ ts) syntax (t ∷ ts)
no-token test means b f t ts e = record {
  before = [];
  split = refl;
  quiet = tt;
  alive = inl refl;
  dead = λ c x y z s h begins eq.
      let passes : test s.0.bare ≡ true = h.1 in
      let same = ap (λ (t : Token). test t.bare) (is-it test means t x y z s h eq) in
      absurd cc;
}

meant-exact : {A : Type 0} (test : Test) (value : Bare → Option A) (means : Bare → A → Type 0) (b : Limits) (f : Test) (t : Token) (ts : List Token) → IsInner test → Decides value means → test t.bare ≡ true → (o : Option A) → value t.bare ≡ o → Exact (λ c. meaning test means) b f (t ∷ ts) (meant t ts o)
meant-exact test value means b f t ts inner decides e None none = no-meaning test value means b f t ts decides none
meant-exact {A} test value means b f t ts inner decides e (Some a) is = record {
  used = t ∷ [];
  split = refl;
  quiet = (inner t.bare e, tt);
  holds = λ c le. (refl, e, decides.sound t.bare a is);
  only = λ c x y z s h begins eq.
      let same = is-it test means t x y (peek ts ++ z) s h eq in
      let alike = one-value s same (decides.complete s.0.bare s.1 h.2) in
      (h.0 ∙ ap (λ (k : Token). k ∷ []) same, λ i. (same i, alike i));
}
  where
    one-value : (s : Token × A) → s.0 ≡ t → value s.0.bare ≡ Some s.1 → s.1 ≡ a
    one-value s same there = let alike = ap (λ (t : Token). value t.bare) same in cc

meaning-exact : {A : Type 0} (test : Test) (value : Bare → Option A) (means : Bare → A → Type 0) → IsInner test → Decides value means → (b : Limits) (f : Test) (ts : List Token) → Exact (λ c. meaning test means) b f ts (meaning_at test value ts)
meaning-exact test value means inner decides b f [] = record { before = []; split = refl; quiet = tt; alive = inl refl; dead = tt }
meaning-exact test value means inner decides b f (t ∷ ts) = go (test t.bare) refl
  where
    go : (w : Bool) → test t.bare ≡ w → Exact (λ c. meaning test means) b f (t ∷ ts) (cond w (meant t ts (value t.bare)) (Refused syntax (t ∷ ts)))
    go true e = meant-exact test value means b f t ts inner decides e (value t.bare) refl
    go false e = no-token test means b f t ts e

pub exact-meaning : {A : Type 0} {test : Test} {value : Bare → Option A} {means : Bare → A → Type 0} {b : Limits} {f : Test} → IsInner test → Decides value means → ReadsExactly (λ c. meaning test means) b f (meaning_at test value)
exact-meaning {test = test} {value = value} {means = means} {b = b} {f = f} inner decides = record { at = meaning-exact test value means inner decides b f }

-- ---- what it begins with, samples, places

pub begins-meaning : {A : Type 0} (test : Test) (means : Bare → A → Type 0) → BeginsWith (λ c. meaning test means) test
begins-meaning test means = record { by = λ c x y a h. subst (λ (l : List Token). Begins test (l ++ y)) (sym h.0) h.1 }

pub has-meaning : {A : Type 0} {test : Test} (means : Bare → A → Type 0) (s : HasSample test) (a : A) → means s.token.bare a → HasPhrase (λ c. meaning test means)
has-meaning means s a m = record { some = λ c. record { tail = s.token ∷ []; tree = (s.token, a); holds = (refl, s.passes, m); proper = (s.proper, tt) } }

pub ignores-meaning : {A : Type 0} (test : Test) → PassesNoBlock test → (means : Bare → A → Type 0) → IgnoresPlaces (λ c. meaning test means) (λ x. (without_place x.0, x.1))
ignores-meaning {A} test none means = record {
  by = λ c x y a m e. go y a m.1 m.2 (subst (λ (l : List Token). AreAlike (bares l) (bares y)) m.0 e);
  fixed = λ c x a m e. λ i. (head-is (without_place a.0) a.0 [] [] (subst (λ (l : List Token). without_places l ≡ l) m.0 e) i, a.1);
}
  where
    go : (y : List Token) (a : Token × A) → IsTrue (test a.0.bare) → means a.0.bare a.1 → AreAlike (a.0.bare ∷ []) (bares y) → Same (meaning test means) (λ x. (without_place x.0, x.1)) y a
    go [] a passes m e = absurd e
    go (s ∷ y) a passes m e =
        let same : a.0.bare ≡ s.bare = alike-one test none a.0.bare s.bare passes e.0 in
        record {
          tree = (s, a.1);
          holds = (ap (λ (l : List Token). s ∷ l) (no-bares y e.1), subst (λ (t : Bare). IsTrue (test t)) same passes, subst (λ (t : Bare). means t a.1) same m);
          same = ap (λ (t : Bare). (without_place (record a.0 { bare = t }), a.1)) (sym same);
        }

-- block strings, where what is made of one rests on its place and on what it means, and those of one value mean the same
pub ignores-block : {A B : Type 0} (test : Test) (means : Bare → A → Type 0) {k : Token × A → B} {g : B → B}
    → ((spelling : List ℕ) → IsTrue (test (record { kind = Block; spelling = spelling })))
    → ((a b : Bare) (x : A) → AreOneBlock a b → means a x → means b x)
    → ((x : Token × A) → g (k x) ≡ k (without_place x.0, x.1))
    → ((t u : Token) (x : A) → g (k (t, x)) ≡ g (k (u, x)))
    → IgnoresPlaces (λ c. mapped k (meaning test means)) g
ignores-block {A} {B} test means {k} {g} passes one placed rests = record {
  by = λ c x y b m e. go y b m (subst (λ (l : List Token). AreAlike (bares l) (bares y)) m.holds.0 e);
  fixed = λ c x b m e. ap g m.is ∙ placed m.value ∙ ap (λ (t : Token). k (t, m.value.1)) (head-is (without_place m.value.0) m.value.0 [] [] (subst (λ (l : List Token). without_places l ≡ l) m.holds.0 e)) ∙ sym m.is;
}
  where
    also : (a b : Bare) (x : A) → IsAlike a b → IsTrue (test a) → means a x → IsTrue (test b) × means b x
    also a b x (inl e) t m = (subst (λ (t : Bare). IsTrue (test t)) e t, subst (λ (t : Bare). means t x) e m)
    also a b x (inr e) t m = (subst (λ (t : Bare). IsTrue (test t)) (λ i. record { kind = sym e.other_block i; spelling = b.spelling }) (passes b.spelling), one a b x e m)

    go : {x : List Token} (y : List Token) (b : B) (m : Mapped k (meaning test means) x b) → AreAlike (m.value.0.bare ∷ []) (bares y) → Same (mapped k (meaning test means)) g y b
    go [] b m e = absurd e
    go (s ∷ y) b m e =
        let there = also m.value.0.bare s.bare m.value.1 e.0 m.holds.1 m.holds.2 in
        record {
          tree = k (s, m.value.1);
          holds = record { value = (s, m.value.1); holds = (ap (λ (l : List Token). s ∷ l) (no-bares y e.1), there.0, there.1); is = refl };
          same = rests s m.value.0 m.value.1 ∙ ap g (sym m.is);
        }
