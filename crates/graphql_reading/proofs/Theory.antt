-- What it means that a reader follows a grammar exactly, and that it does so where its parts do.
use Rattle.std.proofs.Common.{◌≡◌, ℕ, zero, suc, ◌<◌, ◌≤◌, Bool, true, false, cond, not, IsTrue, ◌⊎◌, inl, inr, List, [], ◌∷◌, ◌++◌, length, refl, sym, ap, ◌∙◌, subst, append_assoc, length-append, arith}
use Rattle.graphql_tokens.specs.tokens.Token.{Bare, Token}
use Rattle.graphql_tokens.specs.tokens.Cuts.{is_last}
use Rattle.graphql_tokens.specs.tokens.Proper.{AreProper, IsProper}
use Rattle.graphql_reading.specs.grammar.Tests.{Test}
use Rattle.graphql_reading.specs.grammar.Limits.{Limits}
use Rattle.graphql_reading.specs.grammar.Relations.{Rel, one, Then, ◌⨾◌, ◌∪◌, mapped, star, plus, cons}
use Rattle.graphql_reading.specs.grammar.Fronts.{Verdict, syntax, limit}
use Rattle.graphql_reading.specs.reading.Outcome.{Outcome, Read, Refused, Reader, ◌>>=◌, one_at, then_at, mapped_at, choose_at, none_at, deep_at, repeat_at, many_at, plus_at}
use Rattle.graphql_reading.proofs.Parts.{none, nested, below, Nesting, of_selections, of_values, of_types, left, leave}

infix 40 ◌⊑◌
abbrev pub ◌⊑◌ : Limits → Limits → Type 0
b ⊑ c = (b.selections ≤ c.selections) × (b.values ≤ c.values) × (b.types ≤ c.types)

infix 40 ◌⊏◌
abbrev pub ◌⊏◌ : Limits → Limits → Type 0
b ⊏ c = (b.selections < c.selections) × (b.values < c.values) × (b.types < c.types)

at-most : (b : Limits) → b ⊑ b
at-most b = omega arith

above : (b c : Limits) → b ⊏ c → b ⊑ c
above b c h = omega arith

abbrev pub Begins : Test → List Token → Type 0
Begins f [] = ⊥
Begins f (t ∷ ts) = IsTrue (f t.bare)

abbrev pub peek : List Token → List Token
peek [] = []
peek (t ∷ ts) = t ∷ []

-- some list begins with front, goes on with proper tokens, and is a phrase
pub record Extends {A : Type 0} (p : Rel A) (front : List Token) : Type 0 where
  pub tail : List Token
  pub tree : A
  pub holds : p (front ++ tail) tree
  pub proper : AreProper tail

pub proper-append : (u v : List Token) → AreProper u → AreProper v → AreProper (u ++ v)
proper-append [] v h k = k
proper-append (t ∷ u) v h k = (h.0, proper-append u v h.1 k)

-- no list that begins with front splits into a phrase and what may follow one
abbrev pub IsDead : {A : Type 0} → Rel A → Test → List Token → Type 0
IsDead {A} p f front = (x y z : List Token) (a : A) → p x a → Begins f y → x ++ y ≡ front ++ z → ⊥

abbrev pub Quiet : List Token → Type 0
Quiet [] = Unit {0}
Quiet (t ∷ ts) = (is_last t.bare.kind ≡ false) × Quiet ts

pub record IsRead {A : Type 0} (p : Limits → Rel A) (b : Limits) (f : Test) (ts : List Token) (a : A) (rest : List Token) : Type 0 where
  pub used : List Token
  pub split : ts ≡ used ++ rest
  pub quiet : Quiet used
  pub holds : (c : Limits) → b ⊑ c → p c used a
  pub only : (c : Limits) (x y z : List Token) (t : A) → p c x t → Begins f y → x ++ y ≡ (used ++ peek rest) ++ z → (x ≡ used) × (t ≡ a)

abbrev pub Dead : {A : Type 0} → (Limits → Rel A) → Limits → Test → Verdict → List Token → Type 0
Dead p b f syntax front = (c : Limits) → IsDead (p c) f front
Dead p b f limit front = IsDead (p b) f front × ((c : Limits) → b ⊏ c → Extends (p c) front)

abbrev pub IfHead : List Token → Type 0 → Type 0
IfHead [] fact = Unit {0}
IfHead (t ∷ ts) fact = fact

pub record IsStopped {A : Type 0} (p : Limits → Rel A) (b : Limits) (f : Test) (ts : List Token) (v : Verdict) (rest : List Token) : Type 0 where
  pub before : List Token
  pub split : ts ≡ before ++ rest
  pub quiet : Quiet before
  pub alive : (before ≡ []) ⊎ Extends (p b) before
  pub dead : IfHead rest (Dead p b f v (before ++ peek rest))

abbrev pub Exact : {A : Type 0} → (Limits → Rel A) → Limits → Test → List Token → Outcome A → Type 0
Exact p b f ts (Read a rest) = IsRead p b f ts a rest
Exact p b f ts (Refused v rest) = IsStopped p b f ts v rest

-- in a list a phrase and what may follow it begin so
abbrev pub Starts : {A : Type 0} → (Limits → Rel A) → Test → Test → Type 0
Starts {A} p f g = (c : Limits) (x y : List Token) (a : A) → p c x a → Begins f y → Begins g (x ++ y)

abbrev pub HasPhrases : {A : Type 0} → (Limits → Rel A) → Type 0
HasPhrases p = (c : Limits) → Extends (p c) []

-- ---- lists

cancel : (u x y : List Token) → u ++ x ≡ u ++ y → x ≡ y
cancel [] x y e = e
cancel (t ∷ u) x y e = cancel u x y cc

quiet-append : (u w : List Token) → Quiet u → Quiet w → Quiet (u ++ w)
quiet-append [] w h k = k
quiet-append (t ∷ u) w h k = (h.0, quiet-append u w h.1 k)

peek-front : (w rest z : List Token) → (z' : List Token) × ((w ++ peek rest) ++ z ≡ peek (w ++ rest) ++ z')
peek-front [] rest z = (z, refl)
peek-front (t ∷ w) rest z = ((w ++ peek rest) ++ z, refl)

-- ---- one after the other

Then-step : {A B : Type 0} (p : Limits → Rel A) (q : Limits → Rel B) (b : Limits) (f g : Test) (ts rest₁ : List Token) (a : A) (r : IsRead p b g ts a rest₁) → Starts q f g → (w rest z : List Token) → rest₁ ≡ w ++ rest → (c : Limits) (x y : List Token) (t : A) (s : B) (h : Then (p c) (q c) x t s) → Begins f y → x ++ y ≡ ((r.used ++ w) ++ peek rest) ++ z → (h.front ≡ r.used) × (t ≡ a) × (h.back ++ y ≡ (w ++ peek rest) ++ z)
Then-step p q b f g ts rest₁ a r starts w rest z e c x y t s h begins eq =
    let e₁ : h.front ++ (h.back ++ y) ≡ r.used ++ ((w ++ peek rest) ++ z) = sym (append_assoc h.front h.back y) ∙ ap (λ (k : List Token). k ++ y) (sym h.joined) ∙ eq ∙ simp append_assoc in
    let front = peek-front w rest z in
    let e₂ : h.front ++ (h.back ++ y) ≡ (r.used ++ peek rest₁) ++ front.0 = e₁ ∙ ap (λ (k : List Token). r.used ++ k) (front.1 ∙ ap (λ (k : List Token). peek k ++ front.0) (sym e)) ∙ sym (append_assoc r.used (peek rest₁) front.0) in
    let o = r.only c h.front (h.back ++ y) front.0 t h.first (starts c h.back y s h.second begins) e₂ in
    (o.0, o.1, cancel r.used (h.back ++ y) ((w ++ peek rest) ++ z) (ap (λ (k : List Token). k ++ (h.back ++ y)) (sym o.0) ∙ e₁))

starts-then : {A B : Type 0} (p : Rel A) (q : Rel B) (f g : Test) (front : List Token) → ((x y : List Token) (s : B) → q x s → Begins f y → Begins g (x ++ y)) → IsDead p g front → IsDead (p ⨾ q) f front
starts-then p q f g front starts dead x y z t h begins eq =
    dead h.front (h.back ++ y) z t.0 h.first (starts h.back y t.1 h.second begins) (sym (append_assoc h.front h.back y) ∙ ap (λ (k : List Token). k ++ y) (sym h.joined) ∙ eq)

Extends-then : {A B : Type 0} (p : Rel A) (q : Rel B) (front : List Token) → Extends p front → Extends q [] → Extends (p ⨾ q) front
Extends-then p q front m n = record {
  tail = m.tail ++ n.tail;
  tree = (m.tree, n.tree);
  holds = record { front = front ++ m.tail; back = n.tail; joined = sym (append_assoc front m.tail n.tail); first = m.holds; second = n.holds };
  proper = proper-append m.tail n.tail m.proper n.proper;
}

Extends-after : {A B : Type 0} (p : Rel A) (q : Rel B) (used front : List Token) (a : A) → p used a → Extends q front → Extends (p ⨾ q) (used ++ front)
Extends-after p q used front a first n = record {
  tail = n.tail;
  tree = (a, n.tree);
  holds = record { front = used; back = front ++ n.tail; joined = append_assoc used front n.tail; first = first; second = n.holds };
  proper = n.proper;
}

IfHead-map : {P Q : Type 0} (rest : List Token) → (P → Q) → IfHead rest P → IfHead rest Q
IfHead-map [] f h = tt
IfHead-map (t ∷ ts) f h = f h

pub Then-refused-first : {A B : Type 0} (p : Limits → Rel A) (q : Limits → Rel B) (b : Limits) (f g : Test) (ts : List Token) (v : Verdict) (rest : List Token) → Starts q f g → HasPhrases q → IsStopped p b g ts v rest → IsStopped (λ c. p c ⨾ q c) b f ts v rest
Then-refused-first p q b f g ts v rest starts has r = record {
  before = r.before;
  split = r.split;
  quiet = r.quiet;
  alive = elim r.alive [ inl e ↦ inl e | inr m ↦ inr (Extends-then (p b) (q b) r.before m (has b)) ];
  dead = IfHead-map rest (go v) r.dead;
}
  where
    go : (v : Verdict) → Dead p b g v (r.before ++ peek rest) → Dead (λ c. p c ⨾ q c) b f v (r.before ++ peek rest)
    go syntax d = λ c. starts-then (p c) (q c) f g (r.before ++ peek rest) (starts c) (d c)
    go limit d = (starts-then (p b) (q b) f g (r.before ++ peek rest) (starts b) d.0, λ c lt. Extends-then (p c) (q c) (r.before ++ peek rest) (d.1 c lt) (has c))

pub Then-refused-second : {A B : Type 0} (p : Limits → Rel A) (q : Limits → Rel B) (b : Limits) (f g : Test) (ts rest₁ : List Token) (a : A) (v : Verdict) (rest : List Token) → Starts q f g → HasPhrases q → IsRead p b g ts a rest₁ → IsStopped q b f rest₁ v rest → IsStopped (λ c. p c ⨾ q c) b f ts v rest
Then-refused-second {A} {B} p q b f g ts rest₁ a v rest starts has r k = record {
  before = r.used ++ k.before;
  split = r.split ∙ ap (λ (l : List Token). r.used ++ l) k.split ∙ sym (append_assoc r.used k.before rest);
  quiet = quiet-append r.used k.before r.quiet k.quiet;
  alive = inr (Extends-after (p b) (q b) r.used k.before a (r.holds b (at-most b)) (elim k.alive [ inl e ↦ subst (λ (l : List Token). Extends (q b) l) (sym e) (has b) | inr m ↦ m ]));
  dead = IfHead-map rest (go v) k.dead;
}
  where
    regroup : (r.used ++ k.before) ++ peek rest ≡ r.used ++ (k.before ++ peek rest)
    regroup = append_assoc r.used k.before (peek rest)

    one-dead : (c : Limits) → IsDead (q c) f (k.before ++ peek rest) → IsDead (p c ⨾ q c) f ((r.used ++ k.before) ++ peek rest)
    one-dead c d x y z t h begins eq =
        let s = Then-step p q b f g ts rest₁ a r starts k.before rest z k.split c x y t.0 t.1 h begins eq in
        d h.back y z t.1 h.second begins s.2

    go : (v : Verdict) → Dead q b f v (k.before ++ peek rest) → Dead (λ c. p c ⨾ q c) b f v ((r.used ++ k.before) ++ peek rest)
    go syntax d = λ c. one-dead c (d c)
    go limit d = (one-dead b d.0, λ c lt. subst (λ (l : List Token). Extends (p c ⨾ q c) l) (sym regroup) (Extends-after (p c) (q c) r.used (k.before ++ peek rest) a (r.holds c (above b c lt)) (d.1 c lt)))

Then-read : {A B : Type 0} (p : Limits → Rel A) (q : Limits → Rel B) (b : Limits) (f g : Test) (ts rest₁ : List Token) (a : A) (e : B) (rest : List Token) → Starts q f g → IsRead p b g ts a rest₁ → IsRead q b f rest₁ e rest → IsRead (λ c. p c ⨾ q c) b f ts (a, e) rest
Then-read p q b f g ts rest₁ a e rest starts r k = record {
  used = r.used ++ k.used;
  split = r.split ∙ ap (λ (l : List Token). r.used ++ l) k.split ∙ sym (append_assoc r.used k.used rest);
  quiet = quiet-append r.used k.used r.quiet k.quiet;
  holds = λ c le. record { front = r.used; back = k.used; joined = refl; first = r.holds c le; second = k.holds c le };
  only = λ c x y z t h begins eq.
      let s = Then-step p q b f g ts rest₁ a r starts k.used rest z k.split c x y t.0 t.1 h begins eq in
      let o = k.only c h.back y z t.1 h.second begins s.2 in
      (h.joined ∙ ap (λ (l : List Token). l ++ h.back) s.0 ∙ ap (λ (l : List Token). r.used ++ l) o.0, λ i. (s.1 i, o.1 i));
}

pub then-exact : {A B : Type 0} (p : Limits → Rel A) (q : Limits → Rel B) (b : Limits) (f g : Test) (r : Reader A) (s : Reader B) (ts : List Token) → Starts q f g → HasPhrases q → Exact p b g ts (r ts) → ((a : A) (rest : List Token) → IsRead p b g ts a rest → Exact q b f rest (s rest)) → Exact (λ c. p c ⨾ q c) b f ts (then_at r s ts)
then-exact {A} {B} p q b f g r s ts starts has first second = go (r ts) first
  where
    after : (a : A) (rest₁ : List Token) → IsRead p b g ts a rest₁ → (o : Outcome B) → Exact q b f rest₁ o → Exact (λ c. p c ⨾ q c) b f ts (o >>= λ e rest. Read (a, e) rest)
    after a rest₁ h (Read e rest) k = Then-read p q b f g ts rest₁ a e rest starts h k
    after a rest₁ h (Refused v rest) k = Then-refused-second p q b f g ts rest₁ a v rest starts has h k

    go : (o : Outcome A) → Exact p b g ts o → Exact (λ c. p c ⨾ q c) b f ts (o >>= λ a rest₁. s rest₁ >>= λ e rest. Read (a, e) rest)
    go (Read a rest₁) h = after a rest₁ h (s rest₁) (second a rest₁ h)
    go (Refused v rest) h = Then-refused-first p q b f g ts v rest starts has h

-- ---- one relation in place of another

IsRead-same : {A : Type 0} (p q : Limits → Rel A) (b : Limits) (f : Test) (ts : List Token) (a : A) (rest : List Token) → ((c : Limits) (x : List Token) (t : A) → p c x t → q c x t) → ((c : Limits) (x : List Token) (t : A) → q c x t → p c x t) → IsRead p b f ts a rest → IsRead q b f ts a rest
IsRead-same p q b f ts a rest to from r = record {
  used = r.used;
  split = r.split;
  quiet = r.quiet;
  holds = λ c le. to c r.used a (r.holds c le);
  only = λ c x y z t h. r.only c x y z t (from c x t h);
}

Extends-map : {A B : Type 0} (p : Rel A) (q : Rel B) (f : A → B) (front : List Token) → ((x : List Token) (t : A) → p x t → q x (f t)) → Extends p front → Extends q front
Extends-map p q f front to m = record { tail = m.tail; tree = f m.tree; holds = to (front ++ m.tail) m.tree m.holds; proper = m.proper }

-- refusals carry over along maps of phrases both ways
pub IsStopped-map : {A B : Type 0} (p : Limits → Rel A) (q : Limits → Rel B) (g : A → B) (b : Limits) (f : Test) (ts : List Token) (v : Verdict) (rest : List Token) → ((c : Limits) (x : List Token) (t : A) → p c x t → q c x (g t)) → ((c : Limits) (x : List Token) (t : B) → q c x t → (s : A) × p c x s) → IsStopped p b f ts v rest → IsStopped q b f ts v rest
IsStopped-map p q g b f ts v rest to from r = record {
  before = r.before;
  split = r.split;
  quiet = r.quiet;
  alive = elim r.alive [ inl e ↦ inl e | inr m ↦ inr (Extends-map (p b) (q b) g r.before (to b) m) ];
  dead = IfHead-map rest (go v) r.dead;
}
  where
    one-dead : (c : Limits) → IsDead (p c) f (r.before ++ peek rest) → IsDead (q c) f (r.before ++ peek rest)
    one-dead c d x y z t h begins eq = let s = from c x t h in d x y z s.0 s.1 begins eq

    go : (v : Verdict) → Dead p b f v (r.before ++ peek rest) → Dead q b f v (r.before ++ peek rest)
    go syntax d = λ c. one-dead c (d c)
    go limit d = (one-dead b d.0, λ c lt. Extends-map (p c) (q c) g (r.before ++ peek rest) (to c) (d.1 c lt))

pub same-exact : {A : Type 0} (p q : Limits → Rel A) (b : Limits) (f : Test) (ts : List Token) (o : Outcome A) → ((c : Limits) (x : List Token) (t : A) → p c x t → q c x t) → ((c : Limits) (x : List Token) (t : A) → q c x t → p c x t) → Exact p b f ts o → Exact q b f ts o
same-exact p q b f ts (Read a rest) to from r = IsRead-same p q b f ts a rest to from r
same-exact p q b f ts (Refused v rest) to from r = IsStopped-map p q (λ t. t) b f ts v rest to (λ c x t h. (t, from c x t h)) r

-- ---- mapped

pub mapped-exact : {A B : Type 0} (g : A → B) (p : Limits → Rel A) (b : Limits) (f : Test) (r : Reader A) (ts : List Token) → Exact p b f ts (r ts) → Exact (λ c. mapped g (p c)) b f ts (mapped_at g r ts)
mapped-exact {A} g p b f r ts h = go (r ts) h
  where
    go : (o : Outcome A) → Exact p b f ts o → Exact (λ c. mapped g (p c)) b f ts (o >>= λ a rest. Read (g a) rest)
    go (Read a rest) k = record {
      used = k.used;
      split = k.split;
      quiet = k.quiet;
      holds = λ c le. record { value = a; holds = k.holds c le; is = refl };
      only = λ c x y z t m begins eq. let o = k.only c x y z m.value m.holds begins eq in (o.0, m.is ∙ ap g o.1);
    }
    go (Refused v rest) k = IsStopped-map p (λ c. mapped g (p c)) g b f ts v rest (λ c x t h. record { value = t; holds = h; is = refl }) (λ c x t m. (m.value, m.holds)) k

-- ---- one token

clash : (b : Bool) → IsTrue b → b ≡ false → ⊥
clash true h e = absurd cc
clash false h e = absurd cc

head-is : (s t : Token) (y w : List Token) → s ∷ y ≡ t ∷ w → s ≡ t
head-is s t y w e = cc

pub one-refused : (test : Test) (b : Limits) (f : Test) (t : Token) (ts : List Token) → test t.bare ≡ false → IsStopped (λ c. one test) b f (t ∷ ts) syntax (t ∷ ts)
one-refused test b f t ts e = record {
  before = [];
  split = refl;
  quiet = tt;
  alive = inl refl;
  dead = λ c x y z s h begins eq.
      let same : s ≡ t = head-is s t y z (ap (λ (k : List Token). k ++ y) (sym h.0) ∙ eq) in
      clash (test s.bare) h.1 (ap (λ (t : Token). test t.bare) same ∙ e);
}

-- no token that passes is the last
abbrev pub IsInner : Test → Type 0
IsInner test = (t : Bare) → IsTrue (test t) → is_last t.kind ≡ false

pub one-exact : (test : Test) → IsInner test → (b : Limits) (f : Test) (ts : List Token) → Exact (λ c. one test) b f ts (one_at test ts)
one-exact test inner b f [] = record { before = []; split = refl; quiet = tt; alive = inl refl; dead = tt }
one-exact test inner b f (t ∷ ts) = go (test t.bare) refl
  where
    go : (w : Bool) → test t.bare ≡ w → Exact (λ c. one test) b f (t ∷ ts) (cond w (Read t ts) (Refused syntax (t ∷ ts)))
    go true e = record {
      used = t ∷ [];
      split = refl;
      quiet = (inner t.bare e, tt);
      holds = λ c le. (refl, e);
      only = λ c x y z s h begins eq.
          let same : s ≡ t = head-is s t y (peek ts ++ z) (ap (λ (k : List Token). k ++ y) (sym h.0) ∙ eq) in
          (h.0 ∙ ap (λ (k : Token). k ∷ []) same, same);
    }
    go false e = one-refused test b f t ts e

-- ---- by the next token

-- what a reader took or refused begins with the first token
head-front : (t : Token) (ts w rest z : List Token) → t ∷ ts ≡ w ++ rest → (z' : List Token) × ((w ++ peek rest) ++ z ≡ t ∷ z')
head-front t ts [] [] z e = absurd cc
head-front t ts [] (u ∷ rest) z e = (z, cc)
head-front t ts (u ∷ w) rest z e = ((w ++ peek rest) ++ z, cc)

abbrev pub outside : Test → Test
outside f t = not (f t)

-- in a list that begins with t a phrase begins so too
begins-at : (g : Test) (t : Token) (x y z ts w rest : List Token) → t ∷ ts ≡ w ++ rest → x ++ y ≡ (w ++ peek rest) ++ z → Begins g (x ++ y) → IsTrue (g t.bare)
begins-at g t x y z ts w rest split eq h =
    let e = head-front t ts w rest z split in
    subst (λ (l : List Token). Begins g l) (eq ∙ e.1) h

choose-left : {A : Type 0} (p q : Limits → Rel A) (b : Limits) (f first : Test) (t : Token) (ts : List Token) (o : Outcome A) → first t.bare ≡ true → Starts q f (outside first) → Exact p b f (t ∷ ts) o → Exact (λ c. p c ∪ q c) b f (t ∷ ts) o
choose-left {A} p q b f first t ts (Read a rest) e out r = record {
  used = r.used;
  split = r.split;
  quiet = r.quiet;
  holds = λ c le. inl (r.holds c le);
  only = λ c x y z s h begins eq. elim h [
    | inl k ↦ r.only c x y z s k begins eq
    | inr k ↦ absurd (not-clash (first t.bare) e (begins-at (outside first) t x y z ts r.used rest r.split eq (out c x y s k begins)))
  ];
}
  where
    not-clash : (w : Bool) → w ≡ true → IsTrue (not w) → ⊥
    not-clash true h k = absurd cc
    not-clash false h k = absurd cc
choose-left {A} p q b f first t ts (Refused v rest) e out r = record {
  before = r.before;
  split = r.split;
  quiet = r.quiet;
  alive = elim r.alive [ inl k ↦ inl k | inr m ↦ inr (Extends-map (p b) (λ x s. p b x s ⊎ q b x s) (λ s. s) r.before (λ x s h. inl h) m) ];
  dead = IfHead-map rest (go v) r.dead;
}
  where
    not-clash : (w : Bool) → w ≡ true → IsTrue (not w) → ⊥
    not-clash true h k = absurd cc
    not-clash false h k = absurd cc

    one-dead : (c : Limits) → IsDead (p c) f (r.before ++ peek rest) → IsDead (p c ∪ q c) f (r.before ++ peek rest)
    one-dead c d x y z s h begins eq = elim h [
      | inl k ↦ d x y z s k begins eq
      | inr k ↦ not-clash (first t.bare) e (begins-at (outside first) t x y z ts r.before rest r.split eq (out c x y s k begins))
    ]

    go : (v : Verdict) → Dead p b f v (r.before ++ peek rest) → Dead (λ c. p c ∪ q c) b f v (r.before ++ peek rest)
    go syntax d = λ c. one-dead c (d c)
    go limit d = (one-dead b d.0, λ c lt. Extends-map (p c) (p c ∪ q c) (λ s. s) (r.before ++ peek rest) (λ x s h. inl h) (d.1 c lt))

swap-sum : {P Q : Type 0} → P ⊎ Q → Q ⊎ P
swap-sum (inl h) = inr h
swap-sum (inr h) = inl h

pub choose-exact : {A : Type 0} (p q : Limits → Rel A) (b : Limits) (f first : Test) (r s : Reader A) (ts : List Token) → Starts p f first → Starts q f (outside first) → Exact p b f ts (r ts) → Exact q b f ts (s ts) → Exact (λ c. p c ∪ q c) b f ts (choose_at first r s ts)
choose-exact {A} p q b f first r s [] starts out h k = record { before = []; split = refl; quiet = tt; alive = inl refl; dead = tt }
choose-exact {A} p q b f first r s (t ∷ ts) starts out h k = go (first t.bare) refl
  where
    twice : (w : Bool) → IsTrue w → IsTrue (not (not w))
    twice true e = refl
    twice false e = absurd cc

    not-false : (w : Bool) → w ≡ false → not w ≡ true
    not-false true e = absurd cc
    not-false false e = refl

    twice-begins : (l : List Token) → Begins first l → Begins (outside (outside first)) l
    twice-begins [] e = e
    twice-begins (u ∷ us) e = twice (first u.bare) e

    go : (w : Bool) → first t.bare ≡ w → Exact (λ c. p c ∪ q c) b f (t ∷ ts) (cond w (r (t ∷ ts)) (s (t ∷ ts)))
    go true e = choose-left p q b f first t ts (r (t ∷ ts)) e out h
    go false e = same-exact (λ c. q c ∪ p c) (λ c. p c ∪ q c) b f (t ∷ ts) (s (t ∷ ts)) (λ c x u. swap-sum) (λ c x u. swap-sum) (choose-left q p b f (outside first) t ts (s (t ∷ ts)) (not-false (first t.bare) e) (λ c x y u m begins. twice-begins (x ++ y) (starts c x y u m begins)) k)

-- ---- nothing

pub none-exact : {A : Type 0} (a : A) (b : Limits) (f : Test) (ts : List Token) → Exact (λ c. none a) b f ts (none_at a ts)
none-exact a b f ts = record { used = []; split = refl; quiet = tt; holds = λ c le. (refl, refl); only = λ c x y z t h begins eq. h }

-- ---- one level deeper

abbrev pub deeper : Nesting → Limits → Limits
deeper k b = leave k b (suc (left k b))

itself : (k : Nesting) (c : Limits) → leave k c (left k c) ≡ c
itself of_selections c = refl
itself of_values c = refl
itself of_types c = refl

none-below : (k : Nesting) (b c : Limits) → deeper k b ⊑ leave k c 0 → ⊥
none-below of_selections b c h = omega (arith, h)
none-below of_values b c h = omega (arith, h)
none-below of_types b c h = omega (arith, h)

one-below : (k : Nesting) (b c : Limits) (n : ℕ) → deeper k b ⊑ leave k c (suc n) → b ⊑ leave k c n
one-below of_selections b c n h = omega (arith, h)
one-below of_values b c n h = omega (arith, h)
one-below of_types b c n h = omega (arith, h)

one-beyond : (k : Nesting) (b c : Limits) (n : ℕ) → deeper k b ⊏ leave k c (suc n) → b ⊏ leave k c n
one-beyond of_selections b c n h = omega (arith, h)
one-beyond of_values b c n h = omega (arith, h)
one-beyond of_types b c n h = omega (arith, h)

none-beyond : (k : Nesting) (b c : Limits) → b ⊏ leave k c 0 → ⊥
none-beyond of_selections b c h = omega (arith, h)
none-beyond of_values b c h = omega (arith, h)
none-beyond of_types b c h = omega (arith, h)

pub nested-exact : {A : Type 0} (k : Nesting) (p : Limits → Rel A) (b : Limits) (f : Test) (ts : List Token) (o : Outcome A) → Exact p b f ts o → Exact (nested k p) (deeper k b) f ts o
nested-exact {A} k p b f ts (Read a rest) r = record { used = r.used; split = r.split; quiet = r.quiet; holds = λ c le. holds c (left k c) (subst (λ (l : Limits). deeper k b ⊑ l) (sym (itself k c)) le); only = λ c x y z t h. only c (left k c) x y z t h }
  where
    holds : (c : Limits) (n : ℕ) → deeper k b ⊑ leave k c n → below k p c n r.used a
    holds c zero le = absurd (none-below k b c le)
    holds c (suc v) le = r.holds (leave k c v) (one-below k b c v le)

    only : (c : Limits) (n : ℕ) (x y z : List Token) (t : A) → below k p c n x t → Begins f y → x ++ y ≡ (r.used ++ peek rest) ++ z → (x ≡ r.used) × (t ≡ a)
    only c zero x y z t h = absurd h
    only c (suc v) x y z t h = r.only (leave k c v) x y z t h
nested-exact {A} k p b f ts (Refused v rest) r = record { before = r.before; split = r.split; quiet = r.quiet; alive = elim r.alive [ inl e ↦ inl e | inr m ↦ inr (alive k m) ]; dead = IfHead-map rest (go v) r.dead }
  where
    alive : (k : Nesting) → Extends (p b) r.before → Extends (nested k p (deeper k b)) r.before
    alive of_selections m = m
    alive of_values m = m
    alive of_types m = m

    dead-at : ((c : Limits) → IsDead (p c) f (r.before ++ peek rest)) → (c : Limits) (n : ℕ) → IsDead (below k p c n) f (r.before ++ peek rest)
    dead-at d c zero x y z t h = absurd h
    dead-at d c (suc v) x y z t h = d (leave k c v) x y z t h

    dead-here : (k : Nesting) → IsDead (p b) f (r.before ++ peek rest) → IsDead (nested k p (deeper k b)) f (r.before ++ peek rest)
    dead-here of_selections d = d
    dead-here of_values d = d
    dead-here of_types d = d

    deep-at : ((c : Limits) → b ⊏ c → Extends (p c) (r.before ++ peek rest)) → (c : Limits) (n : ℕ) → deeper k b ⊏ leave k c n → Extends (below k p c n) (r.before ++ peek rest)
    deep-at d c zero lt = absurd (none-beyond k (deeper k b) c lt)
    deep-at d c (suc v) lt = let m = d (leave k c v) (one-beyond k b c v lt) in record { tail = m.tail; tree = m.tree; holds = m.holds; proper = m.proper }

    go : (v : Verdict) → Dead p b f v (r.before ++ peek rest) → Dead (nested k p) (deeper k b) f v (r.before ++ peek rest)
    go syntax d = λ c. dead-at d c (left k c)
    go limit d = (dead-here k d.0, λ c lt. deep-at d.1 c (left k c) (subst (λ (l : Limits). deeper k b ⊏ l) (sym (itself k c)) lt))

pub deep-exact : {A : Type 0} (k : Nesting) (p : Limits → Rel A) (b : Limits) (test f : Test) (ts : List Token) → left k b ≡ 0 → ((c : Limits) (t : Token) → IsTrue (test t.bare) → Extends (p c) (t ∷ [])) → ((c : Limits) (x y : List Token) (a : A) → p c x a → Begins test (x ++ y)) → Exact (nested k p) b f ts (deep_at test ts)
deep-exact {A} k p b test f [] empty has leads = record { before = []; split = refl; quiet = tt; alive = inl refl; dead = tt }
deep-exact {A} k p b test f (t ∷ ts) empty has leads = go (test t.bare) refl
  where
    deep : IsTrue (test t.bare) → (c : Limits) (n : ℕ) → b ⊏ leave k c n → Extends (below k p c n) (t ∷ [])
    deep e c zero lt = absurd (none-beyond k b c lt)
    deep e c (suc v) lt = let m = has (leave k c v) t e in record { tail = m.tail; tree = m.tree; holds = m.holds; proper = m.proper }

    syntax-here : test t.bare ≡ false → (c : Limits) (n : ℕ) → IsDead (below k p c n) f (t ∷ [])
    syntax-here e c zero x y z a h begins eq = h
    syntax-here e c (suc v) x y z a h begins eq = clash (test t.bare) (subst (λ (l : List Token). Begins test l) eq (leads (leave k c v) x y a h)) e

    here : (n : ℕ) → n ≡ 0 → IsDead (below k p b n) f (t ∷ [])
    here zero e x y z a h begins eq = h
    here (suc n) e x y z a h begins eq = absurd (omega (arith, e))

    go : (w : Bool) → test t.bare ≡ w → Exact (nested k p) b f (t ∷ ts) (cond w (Refused limit (t ∷ ts)) (Refused syntax (t ∷ ts)))
    go true e = record { before = []; split = refl; quiet = tt; alive = inl refl; dead = (here (left k b) empty, λ c lt. deep e c (left k c) (subst (λ (l : Limits). b ⊏ l) (sym (itself k c)) lt)) }
    go false e = record { before = []; split = refl; quiet = tt; alive = inl refl; dead = λ c. syntax-here e c (left k c) }

-- ---- any number

-- each phrase begins so, whatever follows, so it isn't empty
abbrev pub Leads : {A : Type 0} → (Limits → Rel A) → Test → Type 0
Leads {A} p g = (c : Limits) (x y : List Token) (a : A) → p c x a → Begins g (x ++ y)

-- what passes f passes g
pub record IsSubset (f g : Test) : Type 0 where
  pub by : (t : Bare) → IsTrue (f t) → IsTrue (g t)

pub within-begins : (f g : Test) → IsSubset f g → (l : List Token) → Begins f l → Begins g l
within-begins f g h [] e = e
within-begins f g h (t ∷ l) e = h.by t.bare e

pub star-starts : {A : Type 0} (p : Limits → Rel A) (f first g : Test) → Leads p first → IsSubset first g → IsSubset f g → Starts (λ c. star (p c)) f g
star-starts p f first g leads in-first in-follow c x y [] h begins = within-begins f g in-follow (x ++ y) (subst (λ (l : List Token). Begins f (l ++ y)) (sym h) begins)
star-starts p f first g leads in-first in-follow c x y (a ∷ more) h begins =
    within-begins first g in-first (x ++ y) (subst (λ (l : List Token). Begins first l) (sym (append_assoc h.front h.back y) ∙ ap (λ (l : List Token). l ++ y) (sym h.joined)) (leads c h.front (h.back ++ y) a h.first))

pub star-has : {A : Type 0} (p : Limits → Rel A) → HasPhrases (λ c. star (p c))
star-has p c = record { tail = []; tree = []; holds = refl; proper = tt }

pub shrinks : {A : Type 0} (p : Limits → Rel A) (first : Test) (b : Limits) (g : Test) (ts : List Token) (a : A) (rest : List Token) → Leads p first → IsRead p b g ts a rest → length rest < length ts
shrinks p first b g ts a rest leads r = go r.used (leads b r.used [] a (r.holds b (at-most b))) r.split
  where
    go : (u : List Token) → Begins first (u ++ []) → ts ≡ u ++ rest → length rest < length ts
    go [] h e = absurd h
    go (t ∷ u) h e = rw (e, length-append u rest) (omega arith)

pub repeat-exact : {A : Type 0} (p : Limits → Rel A) (b : Limits) (f first g : Test) (r : Reader A) → Leads p first → IsSubset first g → IsSubset f g → IsSubset f (outside first) → ((ts : List Token) → Exact p b g ts (r ts)) → (n : ℕ) (ts : List Token) → length ts < n → Exact (λ c. star (p c)) b f ts (repeat_at n first r ts)
repeat-exact p b f first g r leads in-first in-follow apart exact zero ts lt = absurd (omega arith)
repeat-exact {A} p b f first g r leads in-first in-follow apart exact (suc n) ts lt =
    same-exact (λ c. mapped cons (p c ⨾ star (p c)) ∪ none []) (λ c. star (p c)) b f ts (repeat_at (suc n) first r ts) to from
    (choose-exact (λ c. mapped cons (p c ⨾ star (p c))) (λ c. none []) b f first (mapped_at cons (then_at r (repeat_at n first r))) (none_at []) ts
    (λ c x y t m begins. subst (λ (l : List Token). Begins first l) (sym (append_assoc m.holds.front m.holds.back y) ∙ ap (λ (l : List Token). l ++ y) (sym m.holds.joined)) (leads c m.holds.front (m.holds.back ++ y) m.value.0 m.holds.first))
    (λ c x y t m begins. within-begins f (outside first) apart (x ++ y) (subst (λ (l : List Token). Begins f (l ++ y)) (sym m.0) begins))
    (mapped-exact cons (λ c. p c ⨾ star (p c)) b f (then_at r (repeat_at n first r)) ts
    (then-exact p (λ c. star (p c)) b f g r (repeat_at n first r) ts (star-starts p f first g leads in-first in-follow) (star-has p) (exact ts)
    (λ a rest h. let less = shrinks p first b g ts a rest leads h in repeat-exact p b f first g r leads in-first in-follow apart exact n rest (omega (arith, less)))))
    (none-exact [] b f ts))
  where
    to : (c : Limits) (x : List Token) (t : List A) → (mapped cons (p c ⨾ star (p c)) ∪ none []) x t → star (p c) x t
    to c x t (inl m) = subst (λ (l : List A). star (p c) x l) (sym m.is) (record { front = m.holds.front; back = m.holds.back; joined = m.holds.joined; first = m.holds.first; second = m.holds.second })
    to c x t (inr m) = subst (λ (l : List A). star (p c) x l) (sym m.1) m.0

    from : (c : Limits) (x : List Token) (t : List A) → star (p c) x t → (mapped cons (p c ⨾ star (p c)) ∪ none []) x t
    from c x [] h = inr (h, refl)
    from c x (a ∷ more) h = inl (record { value = (a, more); holds = record { front = h.front; back = h.back; joined = h.joined; first = h.first; second = h.second }; is = refl })

pub many-exact : {A : Type 0} (p : Limits → Rel A) (b : Limits) (f first g : Test) (r : Reader A) → Leads p first → IsSubset first g → IsSubset f g → IsSubset f (outside first) → ((ts : List Token) → Exact p b g ts (r ts)) → (ts : List Token) → Exact (λ c. star (p c)) b f ts (many_at first r ts)
unfolding many_at
many-exact p b f first g r leads in-first in-follow apart exact ts = repeat-exact p b f first g r leads in-first in-follow apart exact (suc (length ts)) ts (omega arith)

-- ---- what phrases begin with

pub Leads-one : (test : Test) → Leads (λ c. one test) test
Leads-one test c x y a h = subst (λ (l : List Token). Begins test (l ++ y)) (sym h.0) h.1

pub Leads-then : {A B : Type 0} (p : Limits → Rel A) (q : Limits → Rel B) (g : Test) → Leads p g → Leads (λ c. p c ⨾ q c) g
Leads-then p q g leads c x y a h = subst (λ (l : List Token). Begins g l) (sym (append_assoc h.front h.back y) ∙ ap (λ (l : List Token). l ++ y) (sym h.joined)) (leads c h.front (h.back ++ y) a.0 h.first)

pub Leads-mapped : {A B : Type 0} (f : A → B) (p : Limits → Rel A) (g : Test) → Leads p g → Leads (λ c. mapped f (p c)) g
Leads-mapped f p g leads c x y a h = leads c x y h.value h.holds

pub Leads-within : {A : Type 0} (p : Limits → Rel A) (f g : Test) → IsSubset f g → Leads p f → Leads p g
Leads-within p f g h leads c x y a k = within-begins f g h (x ++ y) (leads c x y a k)

pub Leads-either : {A : Type 0} (p q : Limits → Rel A) (g : Test) → Leads p g → Leads q g → Leads (λ c. p c ∪ q c) g
Leads-either p q g h k c x y a (inl m) = h c x y a m
Leads-either p q g h k c x y a (inr m) = k c x y a m

pub Leads-nested : {A : Type 0} (k : Nesting) (p : Limits → Rel A) (g : Test) → Leads p g → Leads (nested k p) g
Leads-nested {A} k p g h c x y a m = go (left k c) m
  where
    go : (n : ℕ) → below k p c n x a → Begins g (x ++ y)
    go zero m = absurd m
    go (suc v) m = h (leave k c v) x y a m

pub leads-starts : {A : Type 0} (p : Limits → Rel A) (f g : Test) → Leads p g → Starts p f g
leads-starts p f g leads c x y a h begins = leads c x y a h

abbrev pub anything : Test
anything t = true

pub starts-anything : {A : Type 0} (p : Limits → Rel A) (f : Test) → Starts p f anything
starts-anything p f c [] (t ∷ y) a h begins = refl
starts-anything p f c [] [] a h begins = begins
starts-anything p f c (t ∷ x) y a h begins = refl

pub has-then : {A B : Type 0} (p : Limits → Rel A) (q : Limits → Rel B) → HasPhrases p → HasPhrases q → HasPhrases (λ c. p c ⨾ q c)
has-then p q h k c = Extends-then (p c) (q c) [] (h c) (k c)

pub has-one : (test : Test) (t : Token) → IsTrue (test t.bare) → IsProper t → HasPhrases (λ c. one test)
has-one test t e proper c = record { tail = t ∷ []; tree = t; holds = (refl, e); proper = (proper, tt) }

pub has-mapped : {A B : Type 0} (f : A → B) (p : Limits → Rel A) → HasPhrases p → HasPhrases (λ c. mapped f (p c))
has-mapped f p h c = let m = h c in record { tail = m.tail; tree = f m.tree; holds = record { value = m.tree; holds = m.holds; is = refl }; proper = m.proper }

pub has-left : {A : Type 0} (p q : Limits → Rel A) → HasPhrases p → HasPhrases (λ c. p c ∪ q c)
has-left p q h c = let m = h c in record { tail = m.tail; tree = m.tree; holds = inl m.holds; proper = m.proper }

pub plus-exact : {A : Type 0} (p : Limits → Rel A) (b : Limits) (f first g : Test) (r : Reader A) → Leads p first → IsSubset first g → IsSubset f g → IsSubset f (outside first) → ((ts : List Token) → Exact p b g ts (r ts)) → (ts : List Token) → Exact (λ c. plus (p c)) b f ts (plus_at first r ts)
unfolding plus_at
plus-exact p b f first g r leads in-first in-follow apart exact ts =
    mapped-exact cons (λ c. p c ⨾ star (p c)) b f (then_at r (many_at first r)) ts
    (then-exact p (λ c. star (p c)) b f g r (many_at first r) ts (star-starts p f first g leads in-first in-follow) (star-has p) (exact ts)
    (λ a rest h. many-exact p b f first g r leads in-first in-follow apart exact rest))
