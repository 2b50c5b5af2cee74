-- Parts that may stand or not are read exactly: directives and a list after them, and one of the two at least where a part
-- is owed.
use Rattle.std.proofs.Common.{◌≡◌, ℕ, Bool, true, false, cond, ◌&&◌, ◌||◌, IsTrue, Option, Some, List, [], ◌∷◌, map, refl, sym, ap, ◌∙◌, not, codes}
use Rattle.std.specs.Str.{bytes_eq}
use Rattle.graphql_tokens.specs.tokens.Edition.{Current}
use Rattle.graphql_tokens.specs.tokens.Kinds.{is_punct}
use Rattle.graphql_tokens.specs.tokens.Token.{Token}
use Rattle.graphql_syntax.specs.trees.Parts.{Directives}
use Rattle.graphql_reading.specs.grammar.Fronts.{syntax}
use Rattle.graphql_reading.specs.grammar.Limits.{Limits}
use Rattle.graphql_reading.specs.grammar.Relations.{Rel, ◌⨾◌, mapped, plus, opt}
use Rattle.graphql_reading.specs.grammar.Tests.{Test, punct}
use Rattle.graphql_reading.specs.reading.Outcome.{Outcome, Read, Refused, Reader, ◌>>=◌, then_at, mapped_at, choose_at, opt_at, plus_at}
use Rattle.graphql_reading.proofs.Theory.{IsSubset, outside}
use Rattle.graphql_reading.proofs.TokenTests.{punctuator, itself, punct-within, within-first, within-second, within-then, within-both}
use Rattle.graphql_reading.proofs.ReadsExactly.{ReadsExactly, HasPhrase, BeginsWith, exact-mapped, exact-choose, exact-same, begins-mapped, begins-then, begins-within, begins-either, has-pair, has-map, has-plus, has-first}
use Rattle.graphql_reading.proofs.Extra.{FirstWithin, exact-seq, first-opt, first-then, first-mapped, exact-plus-ahead, exact-opt, has-opt}
use Rattle.graphql_reading.proofs.Optional.{exact-never, begins-never, or-never, exact-reader, opt-taken}
use Rattle.graphql_reading.proofs.IgnoresPlaces.{IgnoresPlaces, ignores-then, ignores-mapped, ignores-either, ignores-plus, ignores-opt, map-given}
use Rattle.graphql_reading.proofs.Loop.{many-plus, many-stops, many-nothing}
use Rattle.graphql_grammar.specs.grammar.Arguments.{a_directive}
use Rattle.graphql_grammar.specs.grammar.Placeless.{placeless_directives}
use Rattle.graphql_grammar.specs.reading.Arguments.{directive_at, directives_at}
use Rattle.graphql_grammar.proofs.ArgumentProductions.{exact-directive, begins-directive, has-directive, exact-directives, first-directives, has-directives, ignores-directive, ignores-directives, takes-directive}
use Rattle.graphql_schemas.specs.grammar.Types.{parts_of, parts, list_alone, some_parts}
use Rattle.graphql_schemas.specs.reading.Types.{owed_at, parts_at, some_parts_at}
use Prim.Native.String.{String}

-- ---- a part that is owed

turned-round : {A : Type 0} (w : Bool) (x y : A) → cond w x y ≡ cond (not w) y x
turned-round true x y = refl
turned-round false x y = refl

-- a part that is owed is read by the token in sight
pub exact-owed : {A : Type 0} {p : Limits → Rel A} {b : Limits} {f first : Test} {r : Reader A} → BeginsWith p first → ReadsExactly p b f r → ReadsExactly p b f (owed_at true first r)
exact-owed {A} {p} {b} {f} {first} {r} begins h = exact-reader same (exact-same (λ c. or-never (p c)) (exact-choose begins (begins-never {A = A}) h exact-never))
  where
    same : (ts : List Token) → choose_at first r (λ ts. Refused syntax ts) ts ≡ owed_at true first r ts
    same [] = refl
    same (t ∷ ts) = turned-round (first t.bare) (r (t ∷ ts)) (Refused syntax (t ∷ ts))

-- where nothing is owed the reader is as it was
pub exact-free : {A : Type 0} {p : Limits → Rel A} {b : Limits} {f : Test} {r : Reader A} (first : Test) → r [] ≡ Refused syntax [] → ReadsExactly p b f r → ReadsExactly p b f (owed_at false first r)
exact-free {A} {p} {b} {f} {r} first nothing h = exact-reader same h
  where
    same : (ts : List Token) → r ts ≡ owed_at false first r ts
    same [] = nothing
    same (t ∷ ts) = refl

-- ---- directives alone

-- what follows directives is neither another one nor arguments of the last
abbrev pub past-directives : Test
past-directives t = outside (punct "(") t && outside (punct "@") t

abbrev some-directives : Limits → Rel Directives
some-directives c = plus (a_directive Current false c.values)

pub no-directives : (limits : Limits) → directives_at false limits.values [] ≡ Refused syntax []
no-directives limits = many-nothing (punct "@") (directive_at false limits.values)

exact-plus-directives : {b : Limits} {f : Test} → IsSubset f past-directives → ReadsExactly some-directives b f (plus_at (punct "@") (directive_at false b.values))
exact-plus-directives away = exact-plus-ahead {g = outside (punct "(")} (begins-directive false) (punct-within "@" refl) (within-then away (within-first _ _)) (within-then away (within-second _ _)) (exact-directive false itself)

pub begins-some-directives : BeginsWith (λ c. plus (a_directive Current false c.values)) (punct "@")
begins-some-directives = begins-mapped (begins-then (begins-directive false))

pub exact-some-directives : {b : Limits} {f : Test} → IsSubset f past-directives → ReadsExactly (λ c. plus (a_directive Current false c.values)) b f (owed_at true (punct "@") (directives_at false b.values))
exact-some-directives {b} away = exact-reader same (exact-owed begins-some-directives (exact-plus-directives away))
  where
    same : (ts : List Token) → owed_at true (punct "@") (plus_at (punct "@") (directive_at false b.values)) ts ≡ owed_at true (punct "@") (directives_at false b.values) ts
    same [] = refl
    same (t ∷ ts) = go (punct "@" t.bare) refl
      where
        go : (w : Bool) → punct "@" t.bare ≡ w → cond (not w) (Refused syntax (t ∷ ts)) (plus_at (punct "@") (directive_at false b.values) (t ∷ ts)) ≡ cond (not w) (Refused syntax (t ∷ ts)) (directives_at false b.values (t ∷ ts))
        go true e = sym (many-plus (punct "@") (directive_at false b.values) (takes-directive false b.values) t ts e)
        go false e = refl

-- ---- directives, and a list

pub exact-parts : {A : Type 0} {p : Limits → Rel (List A)} {b : Limits} {f first : Test} {r : Reader (List A)} → BeginsWith p first → IsSubset first past-directives → IsSubset f past-directives → IsSubset f (outside first) → ReadsExactly p b f r → ReadsExactly (λ c. parts Current c (p c)) b f (parts_at b first r)
exact-parts {p = p} begins apart away none h =
    exact-mapped (exact-seq {g = past-directives} (first-opt begins apart away) (has-opt {p = p})
    (exact-directives false (within-first _ _) (within-second _ _))
    (exact-opt begins none h))

pub first-parts : {A : Type 0} {p : Limits → Rel (List A)} {f first g : Test} → BeginsWith p first → IsTrue (g (punctuator "@")) → IsSubset first g → IsSubset f g → FirstWithin (λ c. parts Current c (p c)) f g
first-parts {p = p} {g = g} begins at here h = first-mapped (first-then (first-directives false {g = g} at itself) (first-opt begins here h))

pub has-parts : {A : Type 0} {p : Limits → Rel (List A)} → HasPhrase (λ c. parts Current c (p c))
has-parts {p = p} = has-map (has-pair (has-directives false) (has-opt {p = p}))

abbrev pub placeless-parts : {A : Type 0} → (A → A) → Directives × List A → Directives × List A
placeless-parts f x = (placeless_directives x.0, map f x.1)

pub ignores-parts : {A : Type 0} {p : Limits → Rel (List A)} {f : A → A} → IgnoresPlaces p (map f) → IgnoresPlaces (λ c. parts Current c (p c)) (placeless-parts f)
ignores-parts {A} {f = f} h = ignores-mapped (λ x. ap (λ (l : List A). (placeless_directives x.0, l)) (map-given f x.1)) (ignores-then (ignores-directives false) (ignores-opt h))

-- ---- one of the two at least

-- read in the same way after the directives
abbrev list-after : {A : Type 0} → Directives → Outcome (Option (List A)) → Outcome (Directives × List A)
list-after ds o = (o >>= λ l rest. Read (ds, l) rest) >>= λ x rest. Read (parts_of x) rest

abbrev then-list : {A : Type 0} → Test → Reader (List A) → Outcome Directives → Outcome (Directives × List A)
then-list first r o = (o >>= λ ds rest. opt_at first r rest >>= λ l rest'. Read (ds, l) rest') >>= λ x rest. Read (parts_of x) rest

pub no-parts : {A : Type 0} (limits : Limits) (first : Test) (r : Reader (List A)) → parts_at limits first r [] ≡ Refused syntax []
no-parts limits first r = ap (then-list first r) (no-directives limits)

-- by the token in sight
abbrev directives-first_at : {A : Type 0} → ℕ → Test → Reader (List A) → Reader (Directives × List A)
directives-first_at values first r = mapped_at parts_of (then_at (plus_at (punct "@") (directive_at false values)) (opt_at first r))

abbrev by-first_at : {A : Type 0} → ℕ → Test → Reader (List A) → Reader (Directives × List A)
by-first_at values first r = choose_at (punct "@") (directives-first_at values first r) (owed_at true first (mapped_at list_alone r))

reads-by-first : {A : Type 0} (limits : Limits) (first : Test) (r : Reader (List A)) (ts : List Token) → by-first_at limits.values first r ts ≡ some_parts_at true limits first r ts
reads-by-first limits first r [] = refl
reads-by-first {A} limits first r (t ∷ ts) = go (punct "@" t.bare) refl
  where
    alone : (o : Outcome (List A)) → list-after [] (o >>= λ a rest. Read (Some a) rest) ≡ (o >>= λ a rest. Read (list_alone a) rest)
    alone (Read a rest) = refl
    alone (Refused v rest) = refl

    other : (w : Bool) → first t.bare ≡ w → punct "@" t.bare ≡ false → cond (not w) (Refused syntax (t ∷ ts)) (mapped_at list_alone r (t ∷ ts)) ≡ cond (not w) (Refused syntax (t ∷ ts)) (parts_at limits first r (t ∷ ts))
    other true here e = sym (ap (then-list first r) (many-stops (punct "@") (directive_at false limits.values) t ts e) ∙ ap (list-after []) (opt-taken first r t ts here) ∙ alone (r (t ∷ ts)))
    other false here e = refl

    go : (w : Bool) → punct "@" t.bare ≡ w → cond w (directives-first_at limits.values first r (t ∷ ts)) (cond (not (first t.bare)) (Refused syntax (t ∷ ts)) (mapped_at list_alone r (t ∷ ts))) ≡ cond (not (w || first t.bare)) (Refused syntax (t ∷ ts)) (parts_at limits first r (t ∷ ts))
    go true e = ap (then-list first r) (sym (many-plus (punct "@") (directive_at false limits.values) (takes-directive false limits.values) t ts e))
    go false e = other (first t.bare) refl e

begins-directives-first : {A : Type 0} {p : Limits → Rel (List A)} → BeginsWith (λ c. mapped parts_of (some-directives c ⨾ opt (p c))) (punct "@")
begins-directives-first {p = p} = begins-mapped {p = λ c. some-directives c ⨾ opt (p c)} (begins-then begins-some-directives)

begins-list-first : {A : Type 0} {p : Limits → Rel (List A)} {first : Test} → BeginsWith p first → BeginsWith (λ c. mapped list_alone (p c)) first
begins-list-first begins = begins-mapped begins

pub exact-some_parts : {A : Type 0} {p : Limits → Rel (List A)} {b : Limits} {f first : Test} {r : Reader (List A)} → BeginsWith p first → IsSubset first past-directives → IsSubset f past-directives → IsSubset f (outside first) → ReadsExactly p b f r → ReadsExactly (λ c. some_parts Current c (p c)) b f (some_parts_at true b first r)
exact-some_parts {p = p} {b = b} {first = first} {r = r} begins apart away none h =
    exact-reader (reads-by-first b first r)
    (exact-choose (begins-directives-first {p = p}) (begins-within (within-then apart (within-second _ _)) (begins-list-first begins))
    (exact-mapped (exact-seq {g = past-directives} (first-opt begins apart away) (has-opt {p = p}) (exact-plus-directives itself) (exact-opt begins none h)))
    (exact-owed (begins-list-first begins) (exact-mapped h)))

pub begins-some_parts : {A : Type 0} {p : Limits → Rel (List A)} {first g : Test} → BeginsWith p first → IsTrue (g (punctuator "@")) → IsSubset first g → BeginsWith (λ c. some_parts Current c (p c)) g
begins-some_parts {p = p} begins at here = begins-either (begins-within (punct-within "@" at) (begins-directives-first {p = p})) (begins-within here (begins-list-first begins))

pub has-some_parts : {A : Type 0} {p : Limits → Rel (List A)} → HasPhrase (λ c. some_parts Current c (p c))
has-some_parts {p = p} = has-first {q = λ c. mapped list_alone (p c)} (has-map {f = parts_of} (has-pair (has-plus (has-directive false)) (has-opt {p = p})))

pub ignores-some_parts : {A : Type 0} {p : Limits → Rel (List A)} {f : A → A} → IgnoresPlaces p (map f) → IgnoresPlaces (λ c. some_parts Current c (p c)) (placeless-parts f)
ignores-some_parts {A} {f = f} h =
    ignores-either (ignores-mapped (λ x. ap (λ (l : List A). (placeless_directives x.0, l)) (map-given f x.1)) (ignores-then (ignores-plus (ignores-directive false)) (ignores-opt h)))
    (ignores-mapped (λ x. refl) h)

-- ---- what follows a definition

-- it is no punctuator
abbrev pub no-punctuator : Test
no-punctuator t = not (is_punct t.kind)

pub past-punctuator : (word : String) {f : Test} → IsSubset f no-punctuator → IsSubset f (outside (punct word))
past-punctuator word h = record { by = λ t e. go (is_punct t.kind) (bytes_eq t.spelling (codes word)) (h.by t e) }
  where
    go : (w v : Bool) → IsTrue (not w) → IsTrue (not (w && v))
    go true v e = absurd cc
    go false v e = refl

pub past-parts : {f : Test} → IsSubset f no-punctuator → IsSubset f past-directives
past-parts h = within-both (past-punctuator "(" h) (past-punctuator "@" h)
