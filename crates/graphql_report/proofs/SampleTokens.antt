-- A sample stands wherever the tokens stand that it is a sample of: put in place of some of the tokens of a phrase, samples
-- make a phrase too, with some tree.
use Rattle.std.proofs.Common.{◌≡◌, true, false, not, IsTrue, Option, Some, None, List, [], ◌∷◌, ◌++◌, inl, inr, codes, refl, sym, ap, ◌∙◌, subst}
use Rattle.graphql_tokens.specs.tokens.Token.{Bare, Token}
use Rattle.graphql_tokens.specs.declared.lexer.TokenKind.{TokenKind}
use Rattle.graphql_tokens.specs.declared.lexer.TokenKind.TheVariants.{Punct, Name, Number, String as Quoted, Block, End}
use Rattle.graphql_reading.specs.grammar.Fronts.{Grammar, whole, bares}
use Rattle.graphql_reading.specs.grammar.Limits.{Limits}
use Rattle.graphql_reading.specs.grammar.Relations.{Rel, one, ◌⨾◌, ◌∪◌, mapped, never, between, after, opt, star, plus, separated}
use Rattle.graphql_reading.specs.grammar.Tests.{Test, is_among, punct, keyword, any_name, name_but, the_end}
use Rattle.graphql_reading.proofs.IgnoresPlaces.{head-is, tail-is}
use Rattle.graphql_reading.proofs.TokenTests.{word_of, punct-is, keyword-is, any_name-is, name_but-is, the_end-is}
use Rattle.graphql_schemas.specs.grammar.Directives.{IsLocation}
use Rattle.graphql_trees.specs.declared.service.DirectiveLocation.{DirectiveLocation}
use Rattle.graphql_report.specs.reports.Expected.{keyword_words}
use Prim.Native.String.{String}

-- ---- one token

abbrev pub some_number : Bare
some_number = record { kind = Number; spelling = codes "0" }

abbrev pub some_string : Bare
some_string = record { kind = Quoted; spelling = codes "\"\"" }

-- u is the token t, or a sample of the kind of t
pub data IsSampleOf (t u : Bare) : Type 0 where
  itself : t ≡ u → IsSampleOf t u
  a_number : t.kind ≡ Number → u ≡ some_number → IsSampleOf t u
  a_string : t.kind ≡ Quoted → u ≡ some_string → IsSampleOf t u
  a_block : t.kind ≡ Block → u ≡ some_string → IsSampleOf t u
  a_name : t.kind ≡ Name → is_among t.spelling keyword_words ≡ false → ((location : DirectiveLocation) → IsLocation t location → ⊥) → u ≡ word_of "a" → IsSampleOf t u
  a_location : t.kind ≡ Name → is_among t.spelling keyword_words ≡ false → (location : DirectiveLocation) → IsLocation t location → u ≡ word_of "FIELD" → IsSampleOf t u

-- where t passes the test, its samples do
pub record Keeps (test : Test) : Type 0 where
  pub by : (t u : Bare) → IsSampleOf t u → IsTrue (test t) → IsTrue (test u)

keeps-itself : (test : Test) (t u : Bare) → t ≡ u → IsTrue (test t) → IsTrue (test u)
keeps-itself test t u e h = subst (λ (t : Bare). IsTrue (test t)) e h

-- a test of names
keeps-names : (test : Test) → ((t : Bare) → IsTrue (test t) → t.kind ≡ Name) → ((t u : Bare) → is_among t.spelling keyword_words ≡ false → u ≡ word_of "a" → IsTrue (test t) → IsTrue (test u)) → ((t u : Bare) → is_among t.spelling keyword_words ≡ false → u ≡ word_of "FIELD" → IsTrue (test t) → IsTrue (test u)) → Keeps test
keeps-names test names by-a by-field = record { by = by }
  where
    by : (t u : Bare) → IsSampleOf t u → IsTrue (test t) → IsTrue (test u)
    by t u (itself e) h = keeps-itself test t u e h
    by t u (a_number kind e) h = absurd (let other = names t h in cc)
    by t u (a_string kind e) h = absurd (let other = names t h in cc)
    by t u (a_block kind e) h = absurd (let other = names t h in cc)
    by t u (a_name kind none elsewhere e) h = by-a t u none e h
    by t u (a_location kind none location is e) h = by-field t u none e h

-- a test that no number, string and name passes
keeps-others : (test : Test) (kind : TokenKind) → ((t : Bare) → IsTrue (test t) → t.kind ≡ kind) → (kind ≡ Number → ⊥) → (kind ≡ Quoted → ⊥) → (kind ≡ Block → ⊥) → (kind ≡ Name → ⊥) → Keeps test
keeps-others test kind kinds no-number no-string no-block no-name = record { by = by }
  where
    by : (t u : Bare) → IsSampleOf t u → IsTrue (test t) → IsTrue (test u)
    by t u (itself e) h = keeps-itself test t u e h
    by t u (a_number is e) h = absurd (no-number (sym (kinds t h) ∙ is))
    by t u (a_string is e) h = absurd (no-string (sym (kinds t h) ∙ is))
    by t u (a_block is e) h = absurd (no-block (sym (kinds t h) ∙ is))
    by t u (a_name is none elsewhere e) h = absurd (no-name (sym (kinds t h) ∙ is))
    by t u (a_location is none location there e) h = absurd (no-name (sym (kinds t h) ∙ is))

pub keeps-punct : (word : String) → Keeps (punct word)
keeps-punct word = keeps-others (punct word) Punct (λ t h. ap (λ (t : Bare). t.kind) (punct-is word t h)) (λ e. cc) (λ e. cc) (λ e. cc) (λ e. cc)

pub keeps-end : Keeps the_end
keeps-end = keeps-others the_end End (λ t h. ap (λ (t : Bare). t.kind) (the_end-is t h)) (λ e. cc) (λ e. cc) (λ e. cc) (λ e. cc)

-- a keyword of the list is no other name
pub keeps-keyword : (word : String) → is_among (codes word) keyword_words ≡ true → Keeps (keyword word)
keeps-keyword word there = keeps-names (keyword word) (λ t h. ap (λ (t : Bare). t.kind) (keyword-is word t h)) (λ t u none e h. absurd (no-other t none h)) (λ t u none e h. absurd (no-other t none h))
  where
    no-other : (t : Bare) → is_among t.spelling keyword_words ≡ false → IsTrue (keyword word t) → ⊥
    no-other t none h = let same : is_among t.spelling keyword_words ≡ is_among (codes word) keyword_words = ap (λ (t : Bare). is_among t.spelling keyword_words) (keyword-is word t h) in cc

pub keeps-name : Keeps any_name
keeps-name = keeps-names any_name (λ t h. ap (λ (t : Bare). t.kind) (any_name-is t h)) (λ t u none e h. keeps-itself any_name (word_of "a") u (sym e) refl) (λ t u none e h. keeps-itself any_name (word_of "FIELD") u (sym e) refl)

pub keeps-name_but : (words : List String) → is_among (codes "a") words ≡ false → is_among (codes "FIELD") words ≡ false → Keeps (name_but words)
keeps-name_but words no-a no-field = keeps-names (name_but words) (λ t h. ap (λ (t : Bare). t.kind) (name_but-is words t h)) (λ t u none e h. keeps-itself (name_but words) (word_of "a") u (sym e) (ap not no-a)) (λ t u none e h. keeps-itself (name_but words) (word_of "FIELD") u (sym e) (ap not no-field))

-- ---- lists of tokens

-- each is a token of the list, or a sample of its kind
abbrev pub AreSamplesOf : List Token → List Token → Type 0
AreSamplesOf [] [] = Unit {0}
AreSamplesOf [] (u ∷ us) = ⊥
AreSamplesOf (t ∷ ts) [] = ⊥
AreSamplesOf (t ∷ ts) (u ∷ us) = IsSampleOf t.bare u.bare × AreSamplesOf ts us

pub samples-themselves : (ts us : List Token) → bares ts ≡ bares us → AreSamplesOf ts us
samples-themselves [] [] e = tt
samples-themselves [] (u ∷ us) e = absurd cc
samples-themselves (t ∷ ts) [] e = absurd cc
samples-themselves (t ∷ ts) (u ∷ us) e = (itself (head-is t.bare u.bare (bares ts) (bares us) e), samples-themselves ts us (tail-is t.bare u.bare (bares ts) (bares us) e))

record Splits (ts ss us : List Token) : Type 0 where
  front : List Token
  back : List Token
  joined : us ≡ front ++ back
  first : AreSamplesOf ts front
  second : AreSamplesOf ss back

splits : (ts ss us : List Token) → AreSamplesOf (ts ++ ss) us → Splits ts ss us
splits [] ss us h = record { front = []; back = us; joined = refl; first = tt; second = h }
splits (t ∷ ts) ss [] h = absurd h
splits (t ∷ ts) ss (u ∷ us) h =
    let m = splits ts ss us h.1 in
    record { front = u ∷ m.front; back = m.back; joined = ap (λ (l : List Token). u ∷ l) m.joined; first = (h.0, m.first); second = m.second }

splits-at : (ts ps qs us : List Token) → ts ≡ ps ++ qs → AreSamplesOf ts us → Splits ps qs us
splits-at ts ps qs us e h = splits ps qs us (subst (λ (l : List Token). AreSamplesOf l us) e h)

none-is : (us : List Token) → AreSamplesOf [] us → us ≡ []
none-is [] h = refl
none-is (u ∷ us) h = absurd h

pub record One (t : Token) (us : List Token) : Type 0 where
  pub sample : Token
  pub is : us ≡ sample ∷ []
  pub by : IsSampleOf t.bare sample.bare

pub one-is : (t : Token) (us : List Token) → AreSamplesOf (t ∷ []) us → One t us
one-is t [] h = absurd h
one-is t (u ∷ us) h = record { sample = u; is = ap (λ (l : List Token). u ∷ l) (none-is us h.1); by = h.0 }

-- ---- phrases

-- with samples in place of some tokens of a phrase it is a phrase
pub record AllowsSamples {A : Type 0} (p : Rel A) : Type 0 where
  pub by : (x y : List Token) (a : A) → p x a → AreSamplesOf x y → (b : A) × p y b

pub allows-one : {test : Test} → Keeps test → AllowsSamples (one test)
allows-one {test} keeps = record {
  by = λ x y t h samples.
      let m = one-is t y (subst (λ (l : List Token). AreSamplesOf l y) h.0 samples) in
      (m.sample, (m.is, keeps.by t.bare m.sample.bare m.by h.1));
}

pub allows-never : {A : Type 0} → AllowsSamples (never {A = A})
allows-never = record { by = λ x y a h samples. absurd h }

pub allows-then : {A B : Type 0} {p : Rel A} {q : Rel B} → AllowsSamples p → AllowsSamples q → AllowsSamples (p ⨾ q)
allows-then h k = record {
  by = λ x y a m samples.
      let s = splits-at x m.front m.back y m.joined samples in
      let i = h.by m.front s.front a.0 m.first s.first in
      let j = k.by m.back s.back a.1 m.second s.second in
      ((i.0, j.0), record { front = s.front; back = s.back; joined = s.joined; first = i.1; second = j.1 });
}

pub allows-mapped : {A B : Type 0} {p : Rel A} (f : A → B) → AllowsSamples p → AllowsSamples (mapped f p)
allows-mapped f h = record {
  by = λ x y b m samples.
      let i = h.by x y m.value m.holds samples in
      (f i.0, record { value = i.0; holds = i.1; is = refl });
}

pub allows-either : {A : Type 0} {p q : Rel A} → AllowsSamples p → AllowsSamples q → AllowsSamples (p ∪ q)
allows-either {A} {p} {q} h k = record { by = by }
  where
    by : (x y : List Token) (a : A) → (p ∪ q) x a → AreSamplesOf x y → (b : A) × (p ∪ q) y b
    by x y a (inl m) samples = let i = h.by x y a m samples in (i.0, inl i.1)
    by x y a (inr m) samples = let i = k.by x y a m samples in (i.0, inr i.1)

pub allows-star : {A : Type 0} {p : Rel A} → AllowsSamples p → AllowsSamples (star p)
allows-star {A} {p} h = record { by = by }
  where
    by : (x y : List Token) (a : List A) → star p x a → AreSamplesOf x y → (b : List A) × star p y b
    by x y [] m samples = ([], none-is y (subst (λ (l : List Token). AreSamplesOf l y) m samples))
    by x y (a ∷ more) m samples =
        let s = splits-at x m.front m.back y m.joined samples in
        let i = h.by m.front s.front a m.first s.first in
        let j = by m.back s.back more m.second s.second in
        (i.0 ∷ j.0, record { front = s.front; back = s.back; joined = s.joined; first = i.1; second = j.1 })

pub allows-opt : {A : Type 0} {p : Rel A} → AllowsSamples p → AllowsSamples (opt p)
allows-opt {A} {p} h = record { by = by }
  where
    by : (x y : List Token) (a : Option A) → opt p x a → AreSamplesOf x y → (b : Option A) × opt p y b
    by x y None m samples = (None, none-is y (subst (λ (l : List Token). AreSamplesOf l y) m samples))
    by x y (Some a) m samples = let i = h.by x y a m samples in (Some i.0, i.1)

pub allows-plus : {A : Type 0} {p : Rel A} → AllowsSamples p → AllowsSamples (plus p)
allows-plus h = allows-mapped _ (allows-then h (allows-star h))

pub allows-punct : (word : String) → AllowsSamples (one (punct word))
allows-punct word = allows-one (keeps-punct word)

pub allows-keyword : (word : String) → is_among (codes word) keyword_words ≡ true → AllowsSamples (one (keyword word))
allows-keyword word there = allows-one (keeps-keyword word there)

pub allows-name : AllowsSamples (one any_name)
allows-name = allows-one keeps-name

pub allows-after : {A : Type 0} {mark : Test} {p : Rel A} → Keeps mark → AllowsSamples p → AllowsSamples (after mark p)
allows-after keeps h = allows-mapped _ (allows-then (allows-one keeps) h)

pub allows-between : {A : Type 0} {p : Rel A} (opening closing : String) → AllowsSamples p → AllowsSamples (between (punct opening) p (punct closing))
allows-between opening closing h = allows-mapped _ (allows-then (allows-punct opening) (allows-then h (allows-punct closing)))

pub allows-separated : {A : Type 0} {p : Rel A} (word : String) → AllowsSamples p → AllowsSamples (separated (punct word) p)
allows-separated word h = allows-mapped _ (allows-then (allows-opt (allows-punct word)) (allows-then h (allows-star (allows-after (keeps-punct word) h))))

-- ---- lists, put together, and whole texts

pub samples-append : (ts ss us vs : List Token) → AreSamplesOf ts us → AreSamplesOf ss vs → AreSamplesOf (ts ++ ss) (us ++ vs)
samples-append [] ss [] vs h k = k
samples-append [] ss (u ∷ us) vs h k = absurd h
samples-append (t ∷ ts) ss [] vs h k = absurd h
samples-append (t ∷ ts) ss (u ∷ us) vs h k = (h.0, samples-append ts ss us vs h.1 k)

-- a sample in place of the last token of a front
pub samples-last : (front begun : List Token) (t u : Token) → bares begun ≡ bares (front ++ t ∷ []) → IsSampleOf t.bare u.bare → AreSamplesOf begun (front ++ u ∷ [])
samples-last [] [] t u e sample = absurd cc
samples-last [] (b ∷ begun) t u e sample = (subst (λ (b : Bare). IsSampleOf b u.bare) (sym (head-is b.bare t.bare (bares begun) [] e)) sample, samples-themselves begun [] (tail-is b.bare t.bare (bares begun) [] e))
samples-last (s ∷ front) [] t u e sample = absurd cc
samples-last (s ∷ front) (b ∷ begun) t u e sample = (itself (head-is b.bare s.bare (bares begun) (bares (front ++ t ∷ [])) e), samples-last front begun t u (tail-is b.bare s.bare (bares begun) (bares (front ++ t ∷ [])) e) sample)

pub allows-whole : {A : Type 0} (p : Grammar A) (limits : Limits) → AllowsSamples (p limits) → AllowsSamples (whole p limits)
allows-whole p limits h = allows-mapped _ (allows-then h (allows-one keeps-end))
