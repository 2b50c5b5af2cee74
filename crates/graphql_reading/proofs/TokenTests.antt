-- What a token is that passes a test, and tokens that pass it.
use Rattle.std.proofs.Common.{◌≡◌, ℕ, Bool, true, false, not, ◌&&◌, ◌||◌, IsTrue, ◌⊎◌, inl, inr, List, [], ◌∷◌, codes, nat_lt, ◌++◌, refl, sym, ap, ap₂, subst, eq-eqb, arith}
use Rattle.std.proofs.lemmas.Bool.Decides.{nat_tests}
use Rattle.std.specs.Char.{IsScalar}
use Rattle.std.specs.List.{AllByRecursion}
use lib.Utf8.{encode}
use Rattle.std.specs.Str.{bytes_eq, encode_utf8_all}
use Rattle.std.specs.Cmp.Lexicographic.{same_text}
use Rattle.graphql_tokens.specs.tokens.Token.{Bare, Token}
use Rattle.graphql_tokens.specs.tokens.Cuts.{is_last}
use Rattle.graphql_tokens.specs.tokens.Proper.{IsProper, Spells}
use Rattle.graphql_tokens.specs.tokens.Spelling.{IsPunct, IsName}
use Rattle.graphql_tokens.specs.declared.lexer.TokenKind.{TokenKind}
use Rattle.graphql_tokens.specs.declared.lexer.TokenKind.TheVariants.{Punct, Name, End}
use Rattle.graphql_reading.specs.grammar.Tests.{Test, is_among, punct, keyword, any_name, name_but, the_end}
use Rattle.graphql_tokens.specs.tokens.Kinds.{is_punct, is_name, is_end}
use Rattle.graphql_reading.specs.grammar.Places.{nowhere}
use Rattle.graphql_reading.proofs.Theory.{IsSubset, anything, IsInner}
use Prim.Native.String.{String}

-- ---- kinds

is-punct : (k : TokenKind) → IsTrue (is_punct k) → k ≡ Punct
is-punct Punct e = refl
is-punct k e = absurd cc

is-name : (k : TokenKind) → IsTrue (is_name k) → k ≡ Name
is-name Name e = refl
is-name k e = absurd cc

is-end : (k : TokenKind) → IsTrue (is_end k) → k ≡ End
is-end End e = refl
is-end k e = absurd cc

first-part : (w v : Bool) → IsTrue (w && v) → IsTrue w
first-part true v e = refl
first-part false v e = absurd cc

second-part : (w v : Bool) → IsTrue (w && v) → IsTrue v
second-part true v e = e
second-part false v e = absurd cc

-- ---- what passes

abbrev pub punctuator : String → Bare
punctuator word = record { kind = Punct; spelling = codes word }

abbrev pub word_of : String → Bare
word_of word = record { kind = Name; spelling = codes word }

abbrev pub named : List ℕ → Bare
named spelling = record { kind = Name; spelling = spelling }

abbrev pub ended : List ℕ → Bare
ended spelling = record { kind = End; spelling = spelling }

pub punct-is : (word : String) (t : Bare) → IsTrue (punct word t) → t ≡ punctuator word
punct-is word t e =
    let kind : t.kind ≡ Punct = is-punct t.kind (first-part (is_punct t.kind) (bytes_eq t.spelling (codes word)) e) in
    let text : t.spelling ≡ codes word = same_text t.spelling (codes word) (sym (second-part (is_punct t.kind) (bytes_eq t.spelling (codes word)) e)) in
    λ i. record { kind = kind i; spelling = text i }

pub keyword-is : (word : String) (t : Bare) → IsTrue (keyword word t) → t ≡ word_of word
keyword-is word t e =
    let kind : t.kind ≡ Name = is-name t.kind (first-part (is_name t.kind) (bytes_eq t.spelling (codes word)) e) in
    let text : t.spelling ≡ codes word = same_text t.spelling (codes word) (sym (second-part (is_name t.kind) (bytes_eq t.spelling (codes word)) e)) in
    λ i. record { kind = kind i; spelling = text i }

pub any_name-is : (t : Bare) → IsTrue (any_name t) → t ≡ named t.spelling
any_name-is t e = let kind = is-name t.kind e in λ i. record { kind = kind i; spelling = t.spelling }

pub the_end-is : (t : Bare) → IsTrue (the_end t) → t ≡ ended t.spelling
the_end-is t e = let kind = is-end t.kind e in λ i. record { kind = kind i; spelling = t.spelling }

pub name_but-is : (words : List String) (t : Bare) → IsTrue (name_but words t) → t ≡ named t.spelling
name_but-is words t e = any_name-is t (first-part (is_name t.kind) (not (is_among t.spelling words)) e)

-- it is none of the words
pub name_but-not : (words : List String) (t : Bare) → IsTrue (name_but words t) → IsTrue (not (is_among t.spelling words))
name_but-not words t e = second-part (is_name t.kind) (not (is_among t.spelling words)) e

-- ---- one test within another

pub itself : {f : Test} → IsSubset f f
itself = record { by = λ t e. e }

pub within-anything : {f : Test} → IsSubset f anything
within-anything = record { by = λ t e. refl }

pub punct-within : (word : String) {g : Test} → IsTrue (g (punctuator word)) → IsSubset (punct word) g
punct-within word {g} h = record { by = λ t e. subst (λ (t : Bare). IsTrue (g t)) (sym (punct-is word t e)) h }

pub keyword-within : (word : String) {g : Test} → IsTrue (g (word_of word)) → IsSubset (keyword word) g
keyword-within word {g} h = record { by = λ t e. subst (λ (t : Bare). IsTrue (g t)) (sym (keyword-is word t e)) h }

pub any_name-within : {g : Test} → ((spelling : List ℕ) → IsTrue (g (named spelling))) → IsSubset any_name g
any_name-within {g} h = record { by = λ t e. subst (λ (t : Bare). IsTrue (g t)) (sym (any_name-is t e)) (h t.spelling) }

pub name_but-within : (words : List String) {g : Test} → ((spelling : List ℕ) → IsTrue (not (is_among spelling words)) → IsTrue (g (named spelling))) → IsSubset (name_but words) g
name_but-within words {g} h = record { by = λ t e. subst (λ (t : Bare). IsTrue (g t)) (sym (name_but-is words t e)) (h t.spelling (name_but-not words t e)) }

pub the_end-within : {g : Test} → ((spelling : List ℕ) → IsTrue (g (ended spelling))) → IsSubset the_end g
the_end-within {g} h = record { by = λ t e. subst (λ (t : Bare). IsTrue (g t)) (sym (the_end-is t e)) (h t.spelling) }

-- both of two tests, and either of two

both-pass : (w v : Bool) → IsTrue w → IsTrue v → IsTrue (w && v)
both-pass true v e h = h
both-pass false v e h = absurd cc

one-passes : (w v : Bool) → IsTrue (w || v) → IsTrue w ⊎ IsTrue v
one-passes true v e = inl refl
one-passes false v e = inr e

pub within-then : {f g h : Test} → IsSubset f g → IsSubset g h → IsSubset f h
within-then m n = record { by = λ t e. n.by t (m.by t e) }

pub within-both : {f g h : Test} → IsSubset f g → IsSubset f h → IsSubset f (λ t. g t && h t)
within-both {f} {g} {h} m n = record { by = λ t e. both-pass (g t) (h t) (m.by t e) (n.by t e) }

pub within-first : (g h : Test) → IsSubset (λ t. g t && h t) g
within-first g h = record { by = λ t e. first-part (g t) (h t) e }

pub within-second : (g h : Test) → IsSubset (λ t. g t && h t) h
within-second g h = record { by = λ t e. second-part (g t) (h t) e }

pub within-either : {f g h : Test} → IsSubset f h → IsSubset g h → IsSubset (λ t. f t || g t) h
within-either {f} {g} {h} m n = record { by = λ t e. elim (one-passes (f t) (g t) e) [ inl k ↦ m.by t k | inr k ↦ n.by t k ] }

-- ---- tests that no last token passes

pub punct-inner : (word : String) → IsInner (punct word)
punct-inner word t e = ap (λ (t : Bare). is_last t.kind) (punct-is word t e)

pub keyword-inner : (word : String) → IsInner (keyword word)
keyword-inner word t e = ap (λ (t : Bare). is_last t.kind) (keyword-is word t e)

pub any_name-inner : IsInner any_name
any_name-inner t e = ap (λ (t : Bare). is_last t.kind) (any_name-is t e)

pub name_but-inner : (words : List String) → IsInner (name_but words)
name_but-inner words t e = ap (λ (t : Bare). is_last t.kind) (name_but-is words t e)

-- ---- samples

equal-text : (w : List ℕ) → IsTrue (bytes_eq w w)
equal-text [] = refl
equal-text (c ∷ cs) = rw (eq-eqb c c refl) (equal-text cs)

abbrev pub sample : Bare → Token
sample t = record { bare = t; start = 0; pos = nowhere }

-- a proper token that passes the test
pub record HasSample (test : Test) : Type 0 where
  pub token : Token
  pub passes : IsTrue (test token.bare)
  pub proper : IsProper token

abbrev pub are-ascii : List ℕ → Bool
are-ascii [] = true
are-ascii (c ∷ cs) = nat_lt c 128 && are-ascii cs

ascii-scalar : (c : ℕ) → nat_lt c 128 ≡ true → IsScalar c
ascii-scalar c h = rw (h2 c h) refl
  where
    h2 : (c : ℕ) → nat_lt c 128 ≡ true → nat_lt c 55296 ≡ true
    h2 c h = grind (arith, nat_tests)

pub ascii-scalars : (w : List ℕ) → are-ascii w ≡ true → AllByRecursion IsScalar w
ascii-scalars [] e = tt
ascii-scalars (c ∷ cs) e = (ascii-scalar c (first-part (nat_lt c 128) (are-ascii cs) e), ascii-scalars cs (second-part (nat_lt c 128) (are-ascii cs) e))

ascii-byte : (c : ℕ) → nat_lt c 128 ≡ true → encode c ≡ c ∷ []
unfolding encode
ascii-byte c h = rw h refl

pub ascii-bytes : (w : List ℕ) → are-ascii w ≡ true → encode_utf8_all w ≡ w
ascii-bytes [] e = refl
ascii-bytes (c ∷ cs) e = ap₂ (λ (u v : List ℕ). u ++ v) (ascii-byte c (first-part (nat_lt c 128) (are-ascii cs) e)) (ascii-bytes cs (second-part (nat_lt c 128) (are-ascii cs) e))

-- characters below 128 are their own bytes
pub punct-spells : (w : List ℕ) → are-ascii w ≡ true → IsPunct w → Spells Punct w
punct-spells w e spelled = (w, ascii-scalars w e, sym (ascii-bytes w e), spelled)

pub name-spells : (w : List ℕ) → are-ascii w ≡ true → IsName w → Spells Name w
name-spells w e spelled = (w, ascii-scalars w e, sym (ascii-bytes w e), spelled)

pub punct-sample : (word : String) → are-ascii (codes word) ≡ true → IsPunct (codes word) → HasSample (punct word)
punct-sample word e spelled = record { token = sample (punctuator word); passes = equal-text (codes word); proper = punct-spells (codes word) e spelled }

pub keyword-sample : (word : String) → are-ascii (codes word) ≡ true → IsName (codes word) → HasSample (keyword word)
keyword-sample word e spelled = record { token = sample (word_of word); passes = equal-text (codes word); proper = name-spells (codes word) e spelled }

pub name-sample : HasSample any_name
name-sample = record { token = sample (word_of "a"); passes = refl; proper = name-spells (codes "a") refl (refl, tt) }

pub end-sample : HasSample the_end
end-sample = record { token = sample (ended []); passes = refl; proper = refl }
