-- The reader of a whole list answers what the grammar says.
use Rattle.std.proofs.Common.{◌≡◌, ℕ, zero, suc, ◌<◌, Bool, true, false, cond, IsTrue, ◌⊎◌, inl, inr, List, [], ◌∷◌, ◌++◌, length, take, drop, refl, sym, ap, ◌∙◌, subst, append_assoc, append-nil, length-append, take-append-drop, arith}
use Rattle.graphql_tokens.specs.tokens.Alike.{AreAlike}
use Rattle.graphql_tokens.specs.tokens.Token.{Bare, Token}
use Rattle.graphql_tokens.specs.tokens.Cuts.{is_last, EndsOnce}
use Rattle.graphql_tokens.specs.tokens.Proper.{IsProper, AreProper, AreProperButFaults}
use Rattle.graphql_tokens.specs.declared.lexer.TokenKind.{TokenKind}
use Rattle.graphql_tokens.specs.declared.lexer.TokenKind.TheVariants.{Fault, End}
use Rattle.graphql_reading.specs.grammar.Tests.{the_end}
use Rattle.graphql_reading.specs.grammar.Limits.{Limits}
use Rattle.graphql_reading.specs.grammar.Relations.{Rel, one, ◌⨾◌}
use Rattle.graphql_reading.specs.grammar.Fronts.{bares, without_place, without_places, Grammar, Completes, ViableUnlimited, Verdict, syntax, limit, IsVerdict, IsRefused, IsTheTree, whole}
use Rattle.graphql_reading.specs.reading.Outcome.{Outcome, Read, Refused, Reader, ◌>>=◌, one_at, whole_at}
use Rattle.graphql_reading.proofs.Theory.{Extends, proper-append, Exact, IsRead, IsStopped, IsDead, Dead, Quiet, Begins, peek, anything, one-refused, Then-refused-first, Then-refused-second, IsStopped-map, leads-starts, Leads-one}
use Rattle.graphql_reading.proofs.TokenTests.{the_end-is, ended, sample, end-sample}
use Rattle.graphql_reading.proofs.ReadsExactly.{ReadsExactly, HasPhrase, has-token, has-map, has-pair}
use Rattle.graphql_reading.proofs.IgnoresPlaces.{alike-same, IgnoresPlaces, ignores-one, ignores-mapped, ignores-then}

-- a refusal, told by the refused token and what stands after it; and no tree
pub record Refuses {A : Type 0} (g : Grammar A) (limits : Limits) (tokens : List Token) (v : Verdict) (t : Token) (after : List Token) : Type 0 where
  pub before : List Token
  pub split : tokens ≡ before ++ t ∷ after
  pub refusal : IsRefused g limits tokens (suc (length before)) v
  pub none : (tree : A) → g limits tokens tree → ⊥

pub record Accepts {A : Type 0} (g : Grammar A) (placeless : A → A) (limits : Limits) (tokens : List Token) (a : A) : Type 0 where
  pub tree : IsTheTree g placeless limits tokens a
  pub none : (k : ℕ) (v : Verdict) → IsRefused g limits tokens k v → ⊥

abbrev pub Says : {A : Type 0} → Grammar A → (A → A) → Limits → List Token → Outcome A → Type 0
Says g placeless limits ts (Read d rest) = (rest ≡ []) × Accepts g placeless limits ts d
Says g placeless limits ts (Refused v []) = ⊥
Says g placeless limits ts (Refused v (t ∷ after)) = Refuses g limits ts v t after

-- ---- the end

end-last : (t : Bare) → IsTrue (the_end t) → is_last t.kind ≡ true
end-last t e = ap (λ (t : Bare). is_last t.kind) (the_end-is t e)

end-fault : (t : Bare) → IsTrue (the_end t) → t.kind ≡ Fault → ⊥
end-fault t e h = clash (sym (ap (λ (t : Bare). t.kind) (the_end-is t e)) ∙ h)
  where
    clash : End ≡ Fault → ⊥
    clash e = cc

-- ---- lists

quiet-ends : (ts : List Token) → Quiet ts → EndsOnce ts → ⊥
quiet-ends [] q e = e
quiet-ends (t ∷ []) q e = absurd cc
quiet-ends (t ∷ u ∷ ts) q e = quiet-ends (u ∷ ts) q.1 e.1

quiet-last : (u : List Token) (e : Token) → is_last e.bare.kind ≡ true → Quiet (u ++ e ∷ []) → ⊥
quiet-last [] e c q = absurd cc
quiet-last (t ∷ u) e c q = quiet-last u e c q.1

last-ends : (u : List Token) (e : Token) (after : List Token) → is_last e.bare.kind ≡ true → EndsOnce (u ++ e ∷ after) → after ≡ []
last-ends [] e [] c h = refl
last-ends [] e (t ∷ after) c h = absurd cc
last-ends (t ∷ []) e after c h = last-ends [] e after c h.1
last-ends (t ∷ u ∷ us) e after c h = last-ends (u ∷ us) e after c h.1

not-fault : (k : TokenKind) → is_last k ≡ false → k ≡ Fault → ⊥
not-fault k e h = clash (sym (ap is_last h) ∙ e)
  where
    clash : is_last Fault ≡ false → ⊥
    clash e = cc

proper-here : (t : Token) → is_last t.bare.kind ≡ false → (t.bare.kind ≡ Fault) ⊎ IsProper t → IsProper t
proper-here t e (inl h) = absurd (not-fault t.bare.kind e h)
proper-here t e (inr h) = h

quiet-proper : (u w : List Token) → Quiet u → AreProperButFaults (u ++ w) → AreProper u
quiet-proper [] w q c = tt
quiet-proper (t ∷ u) w q c = (proper-here t q.0 c.0, quiet-proper u w q.1 c.1)

cut-after : (u w : List Token) → AreProperButFaults (u ++ w) → AreProperButFaults w
cut-after [] w c = c
cut-after (t ∷ u) w c = cut-after u w c.1

bares-append : (u v : List Token) → bares (u ++ v) ≡ bares u ++ bares v
bares-append [] v = refl
bares-append (t ∷ u) v = ap (λ (l : List Bare). t.bare ∷ l) (bares-append u v)

-- without places there are the same bare tokens, and no places to lose
bares-without : (u : List Token) → bares (without_places u) ≡ bares u
bares-without [] = refl
bares-without (t ∷ u) = ap (λ (l : List Bare). t.bare ∷ l) (bares-without u)

without-twice : (u : List Token) → without_places (without_places u) ≡ without_places u
without-twice [] = refl
without-twice (t ∷ u) = ap (λ (l : List Token). without_place t ∷ l) (without-twice u)

bares-take : (k : ℕ) (u : List Token) → bares (take k u) ≡ take k (bares u)
bares-take zero u = refl
bares-take (suc k) [] = refl
bares-take (suc k) (t ∷ u) = ap (λ (l : List Bare). t.bare ∷ l) (bares-take k u)

bares-length : (u : List Token) → length (bares u) ≡ length u
bares-length [] = refl
bares-length (t ∷ u) = ap suc (bares-length u)

take-before : (u : List Token) (t : Token) (w : List Token) → take (suc (length u)) (u ++ t ∷ w) ≡ u ++ t ∷ []
take-before [] t w = refl
take-before (s ∷ u) t w = ap (λ (l : List Token). s ∷ l) (take-before u t w)

-- the first tokens of what stands before
pub record Cut (u w : List Token) (j : ℕ) : Type 0 where
  pub rest : List Token
  pub joined : u ≡ take j (u ++ w) ++ rest
  pub proper : AreProper u → AreProper rest

cut : (u w : List Token) (j : ℕ) → j < suc (length u) → Cut u w j
cut u w zero lt = record { rest = u; joined = refl; proper = λ h. h }
cut [] w (suc j) lt = absurd (omega (arith, lt))
cut (t ∷ u) w (suc j) lt = let m = cut u w j (omega (arith, lt)) in record { rest = m.rest; joined = ap (λ (l : List Token). t ∷ l) m.joined; proper = λ h. m.proper h.1 }

proper-drop : (k : ℕ) (u : List Token) → AreProper u → AreProper (drop k u)
proper-drop zero u h = h
proper-drop (suc k) [] h = tt
proper-drop (suc k) (t ∷ u) h = proper-drop k u h.1

-- ---- fronts

pub viable-bare : {A : Type 0} {p : Rel A} (front other : List Token) → bares front ≡ bares other → Completes p front → Completes p other
viable-bare front other e m = record { begun = m.begun; after = m.after; tree = m.tree; alike = m.alike ∙ e; proper = m.proper; holds = m.holds }

-- and back: to a relation that ignores places, a front's own places do
pub viable-completes : {A : Type 0} {p : Limits → Rel A} {placeless : A → A} → IgnoresPlaces p placeless → (c : Limits) (front : List Token) → Completes (p c) front → Extends (p c) front
viable-completes {p = p} ignores c front m =
    let s = ignores.by c (m.begun ++ m.after) (front ++ m.after) m.tree m.holds (alike-same (bares (m.begun ++ m.after)) (bares (front ++ m.after)) (bares-append m.begun m.after ∙ ap (λ (l : List Bare). l ++ bares m.after) m.alike ∙ sym (bares-append front m.after))) in
    record { tail = m.after; tree = s.tree; holds = s.holds; proper = m.proper }

shorter : {A : Type 0} {p : Rel A} (u rest front : List Token) → u ≡ front ++ rest → AreProper rest → Extends p u → Completes p front
shorter {p = p} u rest front e h m = record { begun = front; after = rest ++ m.tail; tree = m.tree; alike = refl; proper = proper-append rest m.tail h m.proper; holds = subst (λ (l : List Token). p l m.tree) (ap (λ (l : List Token). l ++ m.tail) e ∙ append_assoc front rest m.tail) m.holds }

-- any token, which stands after a whole phrase
marker : Token
marker = sample (ended [])

dead-phrase : {A : Type 0} (p : Rel A) (front tail : List Token) (a : A) → IsDead p anything front → p (front ++ tail) a → ⊥
dead-phrase p front tail a dead h = dead (front ++ tail) (marker ∷ []) (tail ++ marker ∷ []) a h refl (append_assoc front tail (marker ∷ []))

dead-viable : {A : Type 0} (p : Limits → Rel A) (placeless : A → A) → IgnoresPlaces p placeless → (c : Limits) (front : List Token) → IsDead (p c) anything front → Completes (p c) front → ⊥
dead-viable p placeless ignores c front dead m =
    let n = viable-completes ignores c front m in
    dead-phrase (p c) front n.tail n.tree dead n.holds

-- ---- refusals

refused : {A : Type 0} (p : Limits → Rel A) (placeless : A → A) (b : Limits) (ts : List Token) (v : Verdict) (rest : List Token) → HasPhrase p → IgnoresPlaces p placeless → EndsOnce ts → AreProperButFaults ts → IsStopped p b anything ts v rest → Says p placeless b ts (Refused v rest)
refused {A} p placeless b ts v [] has ignores ends cuts r = quiet-ends ts (subst Quiet (sym (r.split ∙ append-nil r.before)) r.quiet) ends
refused {A} p placeless b ts v (t ∷ after) has ignores ends cuts r = record {
  before = r.before;
  split = r.split;
  refusal = record { there = rw (r.split, length-append r.before (t ∷ after)) (omega arith); viable_before = before; not_viable = λ m. dead-viable p placeless ignores b (r.before ++ t ∷ []) (dead-here v r.dead) (subst (Completes (p b)) first m); verdict_is = told v r.dead };
  none = λ a h. dead-phrase (p b) (r.before ++ t ∷ []) after a (dead-here v r.dead) (subst (λ (l : List Token). p b l a) (r.split ∙ sym (append_assoc r.before (t ∷ []) after)) h);
}
  where
    first : take (suc (length r.before)) ts ≡ r.before ++ t ∷ []
    first = ap (take (suc (length r.before))) r.split ∙ take-before r.before t after

    alive : Extends (p b) r.before
    alive = elim r.alive [ inl e ↦ subst (Extends (p b)) (sym e) (has.some b) | inr m ↦ m ]

    before : (j : ℕ) → j < suc (length r.before) → Completes (p b) (take j ts)
    before j lt =
        let m = cut r.before (t ∷ after) j lt in
        subst (λ (l : List Token). Completes (p b) (take j l)) (sym r.split) (shorter r.before m.rest (take j (r.before ++ t ∷ after)) m.joined (m.proper (quiet-proper r.before (t ∷ after) r.quiet (subst AreProperButFaults r.split cuts))) alive)

    dead-here : (v : Verdict) → Dead p b anything v (r.before ++ t ∷ []) → IsDead (p b) anything (r.before ++ t ∷ [])
    dead-here syntax d = d b
    dead-here limit d = d.0

    told : (v : Verdict) → Dead p b anything v (r.before ++ t ∷ []) → IsVerdict p (take (suc (length r.before)) ts) v
    told syntax d = λ m. dead-viable p placeless ignores m.holds.0 (r.before ++ t ∷ []) (d m.holds.0) (subst (Completes (p m.holds.0)) first (record { begun = m.begun; after = m.after; tree = m.tree; alike = m.alike; proper = m.proper; holds = m.holds.1 }))
    told limit d =
        let c : Limits = record { selections = suc b.selections; values = suc b.values; types = suc b.types } in
        let m = d.1 c (omega arith) in
        subst (ViableUnlimited p) (sym first) (record { begun = r.before ++ t ∷ []; after = m.tail; tree = m.tree; alike = refl; proper = m.proper; holds = (c, m.holds) })

-- ---- trees

accepts : {A : Type 0} (p : Limits → Rel A) (placeless : A → A) (b : Limits) (ts : List Token) (a : A) → IgnoresPlaces p placeless → AreProper ts → p b ts a → ((c : Limits) (other : A) → p c ts other → other ≡ a) → ((c : Limits) (other another : A) → p b (without_places ts) another → p c (without_places ts) other → other ≡ another) → Accepts p placeless b ts a
accepts p placeless b ts a ignores proper holds only only-bare = record {
  tree = record { within = holds; only = λ other h. only h.0 other h.1; within_placeless = bare-holds; only_placeless = λ other h. only-bare h.0 other (placeless a) bare-holds h.1 };
  none = λ k v r. r.not_viable (record { begun = take k ts; after = drop k ts; tree = a; alike = refl; proper = proper-drop k ts proper; holds = subst (λ (l : List Token). p b l a) (sym (take-append-drop k ts)) holds });
}
  where
    bare-holds : p b (without_places ts) (placeless a)
    bare-holds =
        let s = ignores.by b ts (without_places ts) a holds (alike-same (bares ts) (bares (without_places ts)) (sym (bares-without ts))) in
        subst (p b (without_places ts)) (sym (ignores.fixed b (without_places ts) s.tree s.holds (without-twice ts)) ∙ s.same) s.holds

-- ---- the answer

abbrev pair-up : {A : Type 0} → A → Token → List Token → Outcome (A × Token)
pair-up d e rest = Read (d, e) rest

abbrev first-of : {A : Type 0} → Outcome (A × Token) → Outcome A
first-of o = o >>= λ x rest. Read x.0 rest

abbrev after-body : {A : Type 0} → Outcome A → Outcome A
after-body o = first-of (o >>= λ d rest. one_at the_end rest >>= pair-up d)

pub has-whole : {A : Type 0} {p : Limits → Rel A} → HasPhrase p → HasPhrase (whole p)
has-whole has = has-map (has-pair has (has-token end-sample))

pub ignores-whole : {A : Type 0} {p : Limits → Rel A} {placeless : A → A} → IgnoresPlaces p placeless → IgnoresPlaces (whole p) placeless
ignores-whole h = ignores-mapped (λ a. refl) (ignores-then h (ignores-one the_end (λ spelling. refl)))

-- all trees of a list that ends are equal
pub one-tree : {A : Type 0} (p : Limits → Rel A) (b : Limits) (r : Reader A) → ReadsExactly p b the_end r → (ts : List Token) (c : Limits) (x y : A) → whole p b ts x → whole p c ts y → y ≡ x
one-tree {A} p b r exact ts c x y h k = go (r ts) (exact.at ts)
  where
    begins-the-end : (n : List Token) (e : Token) → one the_end n e → Begins the_end n
    begins-the-end n e m = subst (λ (l : List Token). Begins the_end l) (sym m.0) m.1

    go : (o : Outcome A) → Exact p b the_end ts o → y ≡ x
    go (Read a rest) m =
        let one-of : (c : Limits) (y : A) → whole p c ts y → y ≡ a = λ c y k. k.is ∙ (m.only c k.holds.front k.holds.back (tail-of rest) k.value.0 k.holds.first (begins-the-end k.holds.back k.value.1 k.holds.second) (sym k.holds.joined ∙ m.split ∙ regroup m.used rest)).1 in
        one-of c y k ∙ sym (one-of b x h)
      where
        tail-of : List Token → List Token
        tail-of [] = []
        tail-of (t ∷ ts) = ts

        regroup : (u rest : List Token) → u ++ rest ≡ (u ++ peek rest) ++ tail-of rest
        regroup u [] = sym (append-nil (u ++ []))
        regroup u (t ∷ rest) = sym (append_assoc u (t ∷ []) rest)
    go (Refused v []) m = absurd (quiet-last h.holds.front h.value.1 (end-last h.value.1.bare h.holds.second.1) (subst Quiet (sym (append-nil m.before) ∙ sym m.split ∙ h.holds.joined ∙ ap (λ (l : List Token). h.holds.front ++ l) h.holds.second.0) m.quiet))
    go (Refused v (t ∷ after)) m = absurd (dead-here v m.dead)
      where
        kill : IsDead (p b) the_end (m.before ++ t ∷ []) → ⊥
        kill d = d h.holds.front h.holds.back after h.value.0 h.holds.first (begins-the-end h.holds.back h.value.1 h.holds.second) (sym h.holds.joined ∙ m.split ∙ sym (append_assoc m.before (t ∷ []) after))

        dead-here : (v : Verdict) → Dead p b the_end v (m.before ++ t ∷ []) → ⊥
        dead-here syntax d = kill (d b)
        dead-here limit d = kill d.0

pub whole-answers : {A : Type 0} {p : Limits → Rel A} {placeless : A → A} {b : Limits} {r : Reader A} → HasPhrase p → IgnoresPlaces p placeless → ReadsExactly p b the_end r → (ts : List Token) → EndsOnce ts → AreProperButFaults ts → Says (whole p) placeless b ts (whole_at r ts)
whole-answers {A} {p} {placeless} {b} {r} has ignores exact ts ends cuts = go (r ts) (exact.at ts)
  where
    as-whole : (v : Verdict) (rest : List Token) → IsStopped (λ c. p c ⨾ one the_end) b anything ts v rest → Says (whole p) placeless b ts (Refused v rest)
    as-whole v rest r = refused (whole p) placeless b ts v rest (has-whole has) (ignores-whole ignores) ends cuts (IsStopped-map (λ c. p c ⨾ one the_end) (whole p) (λ x. x.0) b anything ts v rest (λ c x t h. record { value = t; holds = h; is = refl }) (λ c x t h. (h.value, h.holds)) r)

    at-end : (d : A) (e : Token) (after : List Token) → IsRead p b the_end ts d (e ∷ after) → (w : Bool) → the_end e.bare ≡ w → Says (whole p) placeless b ts (first-of (cond w (Read e after) (Refused syntax (e ∷ after)) >>= pair-up d))
    at-end d e after r true is-end =
        let nothing : after ≡ [] = last-ends r.used e after (end-last e.bare is-end) (subst EndsOnce r.split ends) in
        let joined : ts ≡ r.used ++ e ∷ [] = r.split ∙ ap (λ (l : List Token). r.used ++ e ∷ l) nothing in
        let holds : whole p b ts d = record { value = (d, e); holds = record { front = r.used; back = e ∷ []; joined = joined; first = r.holds b (omega arith); second = (refl, is-end) }; is = refl } in (
          nothing,
          accepts (whole p) placeless b ts d (ignores-whole ignores) (subst AreProper (sym joined) (proper-append r.used (e ∷ []) (quiet-proper r.used (e ∷ after) r.quiet (subst AreProperButFaults r.split cuts)) (end-proper e is-end (cut-after r.used (e ∷ after) (subst AreProperButFaults r.split cuts)).0, tt))) holds
              (λ c other h. one-tree p b _ exact ts c d other holds h)
              (λ c other another h k. one-tree p b _ exact (without_places ts) c another other h k),
        )
      where
        end-proper : (e : Token) → the_end e.bare ≡ true → (e.bare.kind ≡ Fault) ⊎ IsProper e → IsProper e
        end-proper e is-end (inl h) = absurd (end-fault e.bare is-end h)
        end-proper e is-end (inr h) = h
    at-end d e after r false isnt = as-whole syntax (e ∷ after) (Then-refused-second p (λ c. one the_end) b anything the_end ts (e ∷ after) d syntax (e ∷ after) (leads-starts (λ c. one the_end) anything the_end (Leads-one the_end)) (has-token end-sample).some r (one-refused the_end b anything e after isnt))

    go : (o : Outcome A) → Exact p b the_end ts o → Says (whole p) placeless b ts (after-body o)
    go (Refused v rest) r = as-whole v rest (Then-refused-first p (λ c. one the_end) b anything the_end ts v rest (leads-starts (λ c. one the_end) anything the_end (Leads-one the_end)) (has-token end-sample).some r)
    go (Read d []) r = absurd (quiet-ends ts (subst Quiet (sym (r.split ∙ append-nil r.used)) r.quiet) ends)
    go (Read d (e ∷ after)) r = at-end d e after r (the_end e.bare) refl

-- ---- what is said of lists by the grammar alone

-- a refusal is the only one
pub one-refusal : {A : Type 0} (g : Grammar A) (limits : Limits) (ts : List Token) (k j : ℕ) (v w : Verdict) → IsRefused g limits ts k v → IsRefused g limits ts j w → (k ≡ j) × (v ≡ w)
one-refusal {A} g limits ts k j v w r s = (same, one v w r.verdict_is (subst (λ (n : ℕ). IsVerdict g (take n ts) w) (sym same) s.verdict_is))
  where
    not-less : k < j → ⊥
    not-less lt = r.not_viable (s.viable_before k lt)

    not-more : j < k → ⊥
    not-more lt = s.not_viable (r.viable_before j lt)

    same : k ≡ j
    same = omega (arith, not-less, not-more)

    one : (v w : Verdict) → IsVerdict g (take k ts) v → IsVerdict g (take k ts) w → v ≡ w
    one syntax syntax h k = refl
    one limit limit h k = refl
    one syntax limit h k = absurd (h k)
    one limit syntax h k = absurd (k h)

-- it rests on the bare tokens
pub refusal-bare : {A : Type 0} (g : Grammar A) (limits : Limits) (ts us : List Token) (k : ℕ) (v : Verdict) → bares ts ≡ bares us → IsRefused g limits ts k v → IsRefused g limits us k v
refusal-bare {A} g limits ts us k v e r = record {
  there = rw (sym (bares-length us), sym (ap length e), bares-length ts) r.there;
  viable_before = λ j lt. viable-bare (take j ts) (take j us) (same j) (r.viable_before j lt);
  not_viable = λ m. r.not_viable (viable-bare (take k us) (take k ts) (sym (same k)) m);
  verdict_is = told v r.verdict_is;
}
  where
    same : (j : ℕ) → bares (take j ts) ≡ bares (take j us)
    same j = bares-take j ts ∙ ap (take j) e ∙ sym (bares-take j us)

    told : (v : Verdict) → IsVerdict g (take k ts) v → IsVerdict g (take k us) v
    told syntax h = λ m. h (viable-bare (take k us) (take k ts) (sym (same k)) m)
    told limit m = viable-bare (take k ts) (take k us) (same k) m

-- and trees, up to places, on tokens that are alike
pub trees-alike : {A : Type 0} {p : Limits → Rel A} {placeless : A → A} {b : Limits} {r : Reader A} → IgnoresPlaces p placeless → ReadsExactly p b the_end r → (ts us : List Token) (x y : A) → AreAlike (bares ts) (bares us) → whole p b ts x → whole p b us y → placeless x ≡ placeless y
trees-alike {p = p} {placeless = placeless} {b = b} {r = r} ignores exact ts us x y e h k =
    let s = (ignores-whole ignores).by b ts us x h e in
    sym s.same ∙ ap placeless (one-tree p b r exact us b y s.tree k s.holds)
