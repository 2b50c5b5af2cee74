-- Readers taken apart: what is read one after the other, made from what their parts read.
use Rattle.std.proofs.Common.{◌≡◌, Bool, true, false, cond, Some, None, List, [], ◌∷◌, ◌++◌, refl, sym, ap, ◌∙◌, subst}
use Rattle.std.proofs.lemmas.List.{reverse-append, reverse-reverse}
use Rattle.std.specs.Prelude.{reverse, Result, Ok, Err, OnOk}
use Rattle.graphql_tokens.specs.tokens.Token.{Bare, Token}
use Rattle.graphql_reading.specs.grammar.Limits.{Limits}
use Rattle.graphql_reading.specs.grammar.Relations.{cons, separated_of}
use Rattle.graphql_reading.specs.grammar.Tests.{Test}
use Rattle.graphql_reading.specs.reading.Outcome.{Outcome, Reader, Read, Refused, Takes, ◌>>=◌, one_at, then_at, mapped_at, after_at, choose_at, none_at, opt_at, many_at, plus_at, separated_at}
use Rattle.graphql_reading.proofs.Loop.{many-plus, many-stops}
use Rattle.graphql_parser.specs.Checked.{ended}
use Rattle.graphql_report.specs.declared.phrases.Phrase.{Phrase}
use Rattle.graphql_report.specs.inner.Left.{in_sight, phrase_at, phrases_at, Becomes, TellsToken, Steps}

-- ---- outcomes without their trees

pub mapped-ended : {A B : Type 0} (f : A → B) (o : Outcome A) → ended (o >>= λ x rest. Read (f x) rest) ≡ ended o
mapped-ended f (Read a rest) = refl
mapped-ended f (Refused v rest) = refl

then-ended : {A B : Type 0} (q : Reader B) (o : Outcome A) → ended {Y = A × B} (o >>= λ a rest. q rest >>= λ b rest'. Read (a, b) rest') ≡ (ended o >>= λ _ rest. ended (q rest))
then-ended q (Read a rest) = mapped-ended (λ b. (a, b)) (q rest)
then-ended q (Refused v rest) = refl

-- ---- the token in sight

head-same : (b c : Bare) → b ∷ [] ≡ c ∷ [] → b ≡ c
head-same b c e = cc

-- what the token in sight decides
pub chosen : {A : Type 0} (test : Test) (r s : Reader A) (w : Bool) (b : Bare) (ts : List Token) → in_sight ts ≡ b ∷ [] → test b ≡ w → choose_at test r s ts ≡ cond w (r ts) (s ts)
chosen test r s w b [] e is = absurd cc
chosen test r s w b (t ∷ ts) e is = ap (λ (v : Bool). cond v (r (t ∷ ts)) (s (t ∷ ts))) (ap test (head-same t.bare b e) ∙ is)

many-none : {A : Type 0} (first : Test) (r : Reader A) (b : Bare) (ts : List Token) → in_sight ts ≡ b ∷ [] → first b ≡ false → many_at first r ts ≡ Read [] ts
many-none first r b [] e is = absurd cc
many-none first r b (t ∷ ts) e is = many-stops first r t ts (ap first (head-same t.bare b e) ∙ is)

-- ---- all that is read

unit-right : (o : Outcome (Unit {0})) → (o >>= λ _ rest. Read tt rest) ≡ o
unit-right (Read tree rest) = refl
unit-right (Refused v rest) = refl

bind-same : {A B : Type 0} (o : Outcome A) (f g : A → List Token → Outcome B) → ((a : A) (rest : List Token) → f a rest ≡ g a rest) → (o >>= f) ≡ (o >>= g)
bind-same (Read a rest) f g h = h a rest
bind-same (Refused v rest) f g h = refl

-- the reader reads these phrases
pub record Is (limits : Limits) {A : Type 0} (r : Reader A) (ps : List Phrase) : Type 0 where
  pub by : (ts : List Token) → ended (r ts) ≡ phrases_at limits ps ts

-- where this token is in sight
pub record IsAt (limits : Limits) (b : Bare) {A : Type 0} (r : Reader A) (ps : List Phrase) : Type 0 where
  pub by : (ts : List Token) → in_sight ts ≡ b ∷ [] → ended (r ts) ≡ phrases_at limits ps ts

-- what a phrase consists of where this token is in sight
pub record Consists (limits : Limits) (b : Bare) (p : Phrase) (ps : List Phrase) : Type 0 where
  pub by : (ts : List Token) → in_sight ts ≡ b ∷ [] → phrase_at limits p ts ≡ phrases_at limits ps ts

module _ (limits : Limits) where
  abbrev all : List Phrase → List Token → Outcome (Unit {0})
  all ps ts = phrases_at limits ps ts

  append-step : (ps qs : List Phrase) → ((ts : List Token) → all (ps ++ qs) ts ≡ (all ps ts >>= λ _ rest. all qs rest)) → (o : Outcome (Unit {0})) → (o >>= λ _ rest. all (ps ++ qs) rest) ≡ ((o >>= λ _ rest. all ps rest) >>= λ _ rest. all qs rest)
  append-step ps qs h (Read tree rest) = h rest
  append-step ps qs h (Refused v rest) = refl

  append-law : (ps qs : List Phrase) (ts : List Token) → all (ps ++ qs) ts ≡ (all ps ts >>= λ _ rest. all qs rest)
  append-law [] qs ts = refl
  append-law (p ∷ ps) qs ts = append-step ps qs (λ ts. append-law ps qs ts) (phrase_at limits p ts)

  -- ---- whatever is in sight

  pub phrase-is : {A : Type 0} (r : Reader A) (p : Phrase) → ((ts : List Token) → ended (r ts) ≡ phrase_at limits p ts) → Is limits r (p ∷ [])
  phrase-is r p e = record { by = λ ts. e ts ∙ sym (unit-right (phrase_at limits p ts)) }

  pub mapped-is : {A B : Type 0} (f : A → B) {r : Reader A} {ps : List Phrase} → Is limits r ps → Is limits (mapped_at f r) ps
  mapped-is f {r = r} h = record { by = λ ts. mapped-ended f (r ts) ∙ h.by ts }

  pub then-is : {A B : Type 0} {r : Reader A} {s : Reader B} {ps qs : List Phrase} → Is limits r ps → Is limits s qs → Is limits (then_at r s) (ps ++ qs)
  then-is {r = r} {s = s} {ps = ps} {qs = qs} h k = record {
    by = λ ts.
        then-ended s (r ts)
        ∙ ap (λ (o : Outcome (Unit {0})). o >>= λ _ rest. ended (s rest)) (h.by ts)
        ∙ bind-same (all ps ts) (λ _ rest. ended (s rest)) (λ _ rest. all qs rest) (λ _ rest. k.by rest)
        ∙ sym (append-law ps qs ts);
  }

  pub plus-is : {A : Type 0} (first : Test) {r : Reader A} {ps : List Phrase} (others : Phrase) → ((ts : List Token) → ended (many_at first r ts) ≡ phrase_at limits others ts) → Is limits r ps → Is limits (plus_at first r) (ps ++ others ∷ [])
  unfolding plus_at
  plus-is first {r = r} others e h = mapped-is cons (then-is h (phrase-is (many_at first r) others e))

  pub separated-is : {A : Type 0} (mark : Test) {r : Reader A} {ps : List Phrase} (before others : Phrase) → ((ts : List Token) → ended (opt_at mark (one_at mark) ts) ≡ phrase_at limits before ts) → ((ts : List Token) → ended (many_at mark (after_at mark r) ts) ≡ phrase_at limits others ts) → Is limits r ps → Is limits (separated_at mark r) (before ∷ (ps ++ others ∷ []))
  unfolding separated_at
  separated-is mark {r = r} before others e k h = mapped-is separated_of (then-is (phrase-is (opt_at mark (one_at mark)) before e) (then-is h (phrase-is (many_at mark (after_at mark r)) others k)))

  -- ---- where this token is in sight

  module _ (b : Bare) where
    pub at : {A : Type 0} {r : Reader A} {ps : List Phrase} → Is limits r ps → IsAt limits b r ps
    at h = record { by = λ ts _. h.by ts }

    pub mapped-at : {A B : Type 0} (f : A → B) {r : Reader A} {ps : List Phrase} → IsAt limits b r ps → IsAt limits b (mapped_at f r) ps
    mapped-at f {r = r} h = record { by = λ ts seen. mapped-ended f (r ts) ∙ h.by ts seen }

    -- by a test of the token
    pub choose-by : {A : Type 0} (test : Test) {r s : Reader A} {ps qs : List Phrase} → (test b ≡ true → IsAt limits b r ps) → (test b ≡ false → IsAt limits b s qs) → IsAt limits b (choose_at test r s) (cond (test b) ps qs)
    choose-by test {r = r} {s = s} {ps = ps} {qs = qs} h k = record { by = λ ts seen. go ts seen (test b) refl }
      where
        go : (ts : List Token) → in_sight ts ≡ b ∷ [] → (w : Bool) → test b ≡ w → ended (choose_at test r s ts) ≡ all (cond (test b) ps qs) ts
        go ts seen true is = ap ended (chosen test r s true b ts seen is) ∙ (h is).by ts seen ∙ ap (λ (w : Bool). all (cond w ps qs) ts) (sym is)
        go ts seen false is = ap ended (chosen test r s false b ts seen is) ∙ (k is).by ts seen ∙ ap (λ (w : Bool). all (cond w ps qs) ts) (sym is)

    pub choose-at : {A : Type 0} (test : Test) {r s : Reader A} {ps qs : List Phrase} → IsAt limits b r ps → IsAt limits b s qs → IsAt limits b (choose_at test r s) (cond (test b) ps qs)
    choose-at test h k = choose-by test (λ _. h) (λ _. k)

    pub none-at : {A : Type 0} (a : A) → IsAt limits b (none_at a) []
    none-at a = record { by = λ ts _. refl }

    pub opt-at : {A : Type 0} (first : Test) {r : Reader A} {ps : List Phrase} → Is limits r ps → IsAt limits b (opt_at first r) (cond (first b) ps [])
    unfolding opt_at
    opt-at {A} first {r = r} h = choose-at first {r = mapped_at Some r} {s = none_at None} (at (mapped-is Some h)) (none-at None)

    pub many-at : {A : Type 0} (first : Test) {r : Reader A} {ps : List Phrase} (others : Phrase) → ((ts : List Token) → ended (many_at first r ts) ≡ phrase_at limits others ts) → Takes r → Is limits r ps → IsAt limits b (many_at first r) (cond (first b) (ps ++ others ∷ []) [])
    many-at first {r = r} {ps = ps} others e takes h = record { by = λ ts seen. go ts seen (first b) refl }
      where
        more : (ts : List Token) → in_sight ts ≡ b ∷ [] → first b ≡ true → many_at first r ts ≡ plus_at first r ts
        more [] seen is = absurd cc
        more (t ∷ ts) seen is = many-plus first r takes t ts (ap first (head-same t.bare b seen) ∙ is)

        go : (ts : List Token) → in_sight ts ≡ b ∷ [] → (w : Bool) → first b ≡ w → ended (many_at first r ts) ≡ all (cond (first b) (ps ++ others ∷ []) []) ts
        go ts seen true is = ap ended (more ts seen is) ∙ (plus-is first others e h).by ts ∙ ap (λ (w : Bool). all (cond w (ps ++ others ∷ []) []) ts) (sym is)
        go ts seen false is = ap ended (many-none first r b ts seen is) ∙ ap (λ (w : Bool). all (cond w (ps ++ others ∷ []) []) ts) (sym is)

    -- ---- what is left

    pub becomes : (old new : List Phrase) (p : Phrase) (ps : List Phrase) → new ≡ old ++ reverse ps → Consists limits b p ps → Becomes limits b (old ++ p ∷ []) new
    becomes old new p ps is h = λ ts seen.
        let left : List Phrase = reverse old in
        ap (λ (l : List Phrase). all l ts) (reverse-append old (p ∷ []))
        ∙ ap (λ (o : Outcome (Unit {0})). o >>= λ _ rest. all left rest) (h.by ts seen)
        ∙ sym (append-law ps left ts)
        ∙ ap (λ (l : List Phrase). all l ts) (sym (ap reverse is ∙ reverse-append old (reverse ps) ∙ ap (λ (l : List Phrase). l ++ left) (reverse-reverse ps)))

    -- where these are put in its place
    pub put-so : {E : Type 0} (old new : List Phrase) (given p : Phrase) (ps : List Phrase) (result : Result (Unit {0}) E) → given ≡ p → OnOk result (new ≡ old ++ reverse ps) → Consists limits b p ps → OnOk result (Becomes limits b (old ++ given ∷ []) new)
    put-so old new given p ps (Ok done) same is h = subst (λ (p : Phrase). Becomes limits b (old ++ p ∷ []) new) (sym same) (becomes old new p ps is h)
    put-so old new given p ps (Err refused) same is h = tt

    -- where these or those are, by a test of the token
    pub either-so : {E : Type 0} (old new : List Phrase) (given p : Phrase) (w : Bool) (test : Bool) (ps qs : List Phrase) (result : Result (Unit {0}) E) → given ≡ p → OnOk result (new ≡ old ++ reverse (cond w ps qs)) → w ≡ test → Consists limits b p (cond test ps qs) → OnOk result (Becomes limits b (old ++ given ∷ []) new)
    either-so old new given p w test ps qs result same is by h = put-so old new given p (cond test ps qs) result same (on-ok result (λ e. e ∙ ap (λ (w : Bool). old ++ reverse (cond w ps qs)) by) is) h
      where
        on-ok : {E : Type 0} {P Q : Type 0} (result : Result (Unit {0}) E) → (P → Q) → OnOk result P → OnOk result Q
        on-ok (Ok done) f k = f k
        on-ok (Err refused) f k = tt

    -- ---- steps

    pub becomes-on : (old mid new : List Phrase) → Becomes limits b old mid → Becomes limits b mid new → Becomes limits b old new
    becomes-on old mid new h k = λ ts seen. h ts seen ∙ k ts seen

    -- the next phrase is a token, or isn't
    pub steps-so : (old left : List Phrase) (p : Phrase) (is : Bool) → Becomes limits b old (left ++ p ∷ []) → TellsToken limits p b is → Steps limits b old left is
    steps-so old left p true h tells = λ t ts here.
        h (t ∷ ts) (ap (λ (b : Bare). b ∷ []) here)
        ∙ ap (λ (l : List Phrase). all l (t ∷ ts)) (reverse-append left (p ∷ []))
        ∙ ap (λ (o : Outcome (Unit {0})). o >>= λ _ rest. all (reverse left) rest) (tells t ts here)
    steps-so old left p false h tells = λ t ts here.
        let told = tells t ts here in (
          told.0,
          h (t ∷ ts) (ap (λ (b : Bare). b ∷ []) here)
              ∙ ap (λ (l : List Phrase). all l (t ∷ ts)) (reverse-append left (p ∷ []))
              ∙ ap (λ (o : Outcome (Unit {0})). o >>= λ _ rest. all (reverse left) rest) told.1,
        )

-- the same at all limits
pub put-always : {E : Type 0} (b : Bare) (old new : List Phrase) (given p : Phrase) (ps : List Phrase) (result : Result (Unit {0}) E) → given ≡ p → OnOk result (new ≡ old ++ reverse ps) → ((limits : Limits) → Consists limits b p ps) → OnOk result ((limits : Limits) → Becomes limits b (old ++ given ∷ []) new)
put-always b old new given p ps (Ok done) same is h = λ limits. subst (λ (p : Phrase). Becomes limits b (old ++ p ∷ []) new) (sym same) (becomes limits b old new p ps is (h limits))
put-always b old new given p ps (Err refused) same is h = tt

pub either-always : {E : Type 0} (b : Bare) (old new : List Phrase) (given p : Phrase) (w : Bool) (test : Bool) (ps qs : List Phrase) (result : Result (Unit {0}) E) → given ≡ p → OnOk result (new ≡ old ++ reverse (cond w ps qs)) → w ≡ test → ((limits : Limits) → Consists limits b p (cond test ps qs)) → OnOk result ((limits : Limits) → Becomes limits b (old ++ given ∷ []) new)
either-always b old new given p w test ps qs (Ok done) same is by h = λ limits.
    subst (λ (p : Phrase). Becomes limits b (old ++ p ∷ []) new) (sym same) (becomes limits b old new p (cond test ps qs) (is ∙ ap (λ (w : Bool). old ++ reverse (cond w ps qs)) by) (h limits))
either-always b old new given p w test ps qs (Err refused) same is by h = tt
