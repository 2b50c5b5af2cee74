-- The theory once more, over whole readers: records, so that what is meant is inferred.
use Rattle.std.proofs.Common.{◌≡◌, IsTrue, ◌↔◌, List, [], ◌∷◌, refl}
use Rattle.graphql_tokens.specs.tokens.Token.{Token}
use Rattle.graphql_reading.specs.grammar.Tests.{Test, punct, keyword, any_name, name_but}
use Rattle.graphql_reading.specs.grammar.Limits.{Limits}
use Rattle.graphql_reading.specs.grammar.Relations.{Rel, one, ◌⨾◌, ◌∪◌, mapped, star, plus}
use Rattle.graphql_reading.specs.reading.Outcome.{Reader, one_at, then_at, mapped_at, many_at, plus_at, choose_at, deep_at}
use Rattle.graphql_reading.proofs.Parts.{none, nested, Nesting, left}
use Rattle.graphql_reading.proofs.Theory.{Extends, Exact, HasPhrases, Leads, IsSubset, outside, anything, IsInner, then-exact, mapped-exact, one-exact, choose-exact, nested-exact, deeper, deep-exact, same-exact, many-exact, plus-exact, star-has, Leads-one, Leads-then, Leads-mapped, Leads-within, Leads-either, Leads-nested, leads-starts, starts-anything, has-then, has-one, has-mapped, has-left}
use Rattle.graphql_reading.proofs.TokenTests.{within-anything, punct-inner, keyword-inner, any_name-inner, name_but-inner, HasSample}
use Prim.Native.String.{String}

-- the reader follows the grammar exactly, where what follows begins with f
pub record ReadsExactly {A : Type 0} (p : Limits → Rel A) (b : Limits) (f : Test) (r : Reader A) : Type 0 where
  pub at : (ts : List Token) → Exact p b f ts (r ts)

-- at each budget there is a phrase
pub record HasPhrase {A : Type 0} (p : Limits → Rel A) : Type 0 where
  pub some : HasPhrases p

-- each phrase begins with a token that passes g
pub record BeginsWith {A : Type 0} (p : Limits → Rel A) (g : Test) : Type 0 where
  pub by : Leads p g

-- ---- readers

pub exact-one : {test : Test} {b : Limits} {f : Test} → IsInner test → ReadsExactly (λ c. one test) b f (one_at test)
exact-one {test} {b} {f} inner = record { at = one-exact test inner b f }

pub exact-punct : (word : String) {b : Limits} {f : Test} → ReadsExactly (λ c. one (punct word)) b f (one_at (punct word))
exact-punct word = exact-one (punct-inner word)

pub exact-keyword : (word : String) {b : Limits} {f : Test} → ReadsExactly (λ c. one (keyword word)) b f (one_at (keyword word))
exact-keyword word = exact-one (keyword-inner word)

pub exact-name : {b : Limits} {f : Test} → ReadsExactly (λ c. one any_name) b f (one_at any_name)
exact-name = exact-one any_name-inner

pub exact-name_but : (words : List String) {b : Limits} {f : Test} → ReadsExactly (λ c. one (name_but words)) b f (one_at (name_but words))
exact-name_but words = exact-one (name_but-inner words)

pub exact-mapped : {A B : Type 0} {g : A → B} {p : Limits → Rel A} {b : Limits} {f : Test} {r : Reader A} → ReadsExactly p b f r → ReadsExactly (λ c. mapped g (p c)) b f (mapped_at g r)
exact-mapped {g = g} {p = p} {b = b} {f = f} {r = r} h = record { at = λ ts. mapped-exact g p b f r ts (h.at ts) }

-- a part that doesn't look ahead, and another
pub exact-next : {A B : Type 0} {p : Limits → Rel A} {q : Limits → Rel B} {b : Limits} {f : Test} {r : Reader A} {s : Reader B} → HasPhrase q → ReadsExactly p b anything r → ReadsExactly q b f s → ReadsExactly (λ c. p c ⨾ q c) b f (then_at r s)
exact-next {p = p} {q = q} {b = b} {f = f} {r = r} {s = s} has h k = record { at = λ ts. then-exact p q b f anything r s ts (starts-anything q f) has.some (h.at ts) (λ a rest _. k.at rest) }

-- a part that looks ahead, and another that isn't empty
pub exact-then-some : {A B : Type 0} {p : Limits → Rel A} {q : Limits → Rel B} {b : Limits} {f g : Test} {r : Reader A} {s : Reader B} → BeginsWith q g → HasPhrase q → ReadsExactly p b g r → ReadsExactly q b f s → ReadsExactly (λ c. p c ⨾ q c) b f (then_at r s)
exact-then-some {p = p} {q = q} {b = b} {f = f} {g = g} {r = r} {s = s} leads has h k = record { at = λ ts. then-exact p q b f g r s ts (leads-starts q f g leads.by) has.some (h.at ts) (λ a rest _. k.at rest) }

pub exact-many : {A : Type 0} {p : Limits → Rel A} {b : Limits} {f first : Test} {r : Reader A} → BeginsWith p first → IsSubset f (outside first) → ReadsExactly p b anything r → ReadsExactly (λ c. star (p c)) b f (many_at first r)
exact-many {p = p} {b = b} {f = f} {first = first} {r = r} leads away h = record { at = many-exact p b f first anything r leads.by within-anything within-anything away h.at }

pub exact-plus : {A : Type 0} {p : Limits → Rel A} {b : Limits} {f first : Test} {r : Reader A} → BeginsWith p first → IsSubset f (outside first) → ReadsExactly p b anything r → ReadsExactly (λ c. plus (p c)) b f (plus_at first r)
exact-plus {p = p} {b = b} {f = f} {first = first} {r = r} leads away h = record { at = plus-exact p b f first anything r leads.by within-anything within-anything away h.at }

pub exact-choose : {A : Type 0} {p q : Limits → Rel A} {b : Limits} {f first : Test} {r s : Reader A} → BeginsWith p first → BeginsWith q (outside first) → ReadsExactly p b f r → ReadsExactly q b f s → ReadsExactly (λ c. p c ∪ q c) b f (choose_at first r s)
exact-choose {p = p} {q = q} {b = b} {f = f} {first = first} {r = r} {s = s} leads out h k = record { at = λ ts. choose-exact p q b f first r s ts (leads-starts p f first leads.by) (leads-starts q f (outside first) out.by) (h.at ts) (k.at ts) }

pub exact-nested : {A : Type 0} (k : Nesting) {p : Limits → Rel A} {b : Limits} {f : Test} {r : Reader A} → ReadsExactly p b f r → ReadsExactly (nested k p) (deeper k b) f r
exact-nested k {p = p} {b = b} {f = f} {r = r} h = record { at = λ ts. nested-exact k p b f ts (r ts) (h.at ts) }

pub exact-deep : {A : Type 0} (k : Nesting) {p : Limits → Rel A} {b : Limits} {test f : Test} → left k b ≡ 0 → ((c : Limits) (t : Token) → IsTrue (test t.bare) → Extends (p c) (t ∷ [])) → BeginsWith p test → ReadsExactly (nested k p) b f (deep_at test)
exact-deep k {p = p} {b = b} {test = test} {f = f} none has leads = record { at = λ ts. deep-exact k p b test f ts none has leads.by }

pub exact-same : {A : Type 0} {p q : Limits → Rel A} {b : Limits} {f : Test} {r : Reader A} → ((c : Limits) (x : List Token) (t : A) → p c x t ↔ q c x t) → ReadsExactly p b f r → ReadsExactly q b f r
exact-same {p = p} {q = q} {b = b} {f = f} {r = r} e h = record { at = λ ts. same-exact p q b f ts (r ts) (λ c x t. (e c x t).0) (λ c x t. (e c x t).1) (h.at ts) }

-- ---- what phrases begin with

pub begins-one : {test : Test} → BeginsWith (λ c. one test) test
begins-one {test} = record { by = Leads-one test }

pub begins-within : {A : Type 0} {p : Limits → Rel A} {f g : Test} → IsSubset f g → BeginsWith p f → BeginsWith p g
begins-within {p = p} {f = f} {g = g} h leads = record { by = Leads-within p f g h leads.by }

pub begins-same : {A : Type 0} {p q : Limits → Rel A} {g : Test} → ((c : Limits) (x : List Token) (t : A) → p c x t ↔ q c x t) → BeginsWith p g → BeginsWith q g
begins-same e leads = record { by = λ c x y a h. leads.by c x y a ((e c x a).1 h) }

pub begins-mapped : {A B : Type 0} {f : A → B} {p : Limits → Rel A} {g : Test} → BeginsWith p g → BeginsWith (λ c. mapped f (p c)) g
begins-mapped {f = f} {p = p} {g = g} h = record { by = Leads-mapped f p g h.by }

pub begins-then : {A B : Type 0} {p : Limits → Rel A} {q : Limits → Rel B} {g : Test} → BeginsWith p g → BeginsWith (λ c. p c ⨾ q c) g
begins-then {p = p} {q = q} {g = g} h = record { by = Leads-then p q g h.by }

pub begins-either : {A : Type 0} {p q : Limits → Rel A} {g : Test} → BeginsWith p g → BeginsWith q g → BeginsWith (λ c. p c ∪ q c) g
begins-either {p = p} {q = q} {g = g} h k = record { by = Leads-either p q g h.by k.by }

pub begins-nested : {A : Type 0} (k : Nesting) {p : Limits → Rel A} {g : Test} → BeginsWith p g → BeginsWith (nested k p) g
begins-nested k {p = p} {g = g} h = record { by = Leads-nested k p g h.by }

-- ---- phrases

pub has-token : {test : Test} → HasSample test → HasPhrase (λ c. one test)
has-token {test} s = record { some = has-one test s.token s.passes s.proper }

pub has-pair : {A B : Type 0} {p : Limits → Rel A} {q : Limits → Rel B} → HasPhrase p → HasPhrase q → HasPhrase (λ c. p c ⨾ q c)
has-pair {p = p} {q = q} h k = record { some = has-then p q h.some k.some }

pub has-map : {A B : Type 0} {f : A → B} {p : Limits → Rel A} → HasPhrase p → HasPhrase (λ c. mapped f (p c))
has-map {f = f} {p = p} h = record { some = has-mapped f p h.some }

pub has-star : {A : Type 0} {p : Limits → Rel A} → HasPhrase (λ c. star (p c))
has-star {p = p} = record { some = star-has p }

pub has-plus : {A : Type 0} {p : Limits → Rel A} → HasPhrase p → HasPhrase (λ c. plus (p c))
has-plus {p = p} h = has-map (has-pair h (has-star {p = p}))

pub has-first : {A : Type 0} {p q : Limits → Rel A} → HasPhrase p → HasPhrase (λ c. p c ∪ q c)
has-first {p = p} {q = q} h = record { some = has-left p q h.some }

-- a phrase that begins with one token can be completed after it
pub extends-one : {A B : Type 0} {f : Token × A → B} {q : Limits → Rel A} (test : Test) → HasPhrase q → (c : Limits) (t : Token) → IsTrue (test t.bare) → Extends (mapped f (one test ⨾ q c)) (t ∷ [])
extends-one {f = f} test has c t e =
    let m = has.some c in
    record { tail = m.tail; tree = f (t, m.tree); holds = record { value = (t, m.tree); holds = record { front = t ∷ []; back = m.tail; joined = refl; first = (refl, e); second = m.holds }; is = refl }; proper = m.proper }
