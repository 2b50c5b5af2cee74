-- Each token that can stand after a front is called by one of the names that are expected.
use Rattle.std.proofs.Common.{◌≡◌, ℕ, Bool, true, false, cond, ◌&&◌, ◌||◌, ◌==◌, IsTrue, ◌⊎◌, inl, inr, IfOk, Result, Ok, Err, Option, Some, None, List, [], ◌∷◌, ◌++◌, length, map, codes, eqb, refl, sym, ap, ◌∙◌, subst, eqb-true, arith}
use Rattle.std.proofs.lemmas.List.Elements.{Contains-append_left, Contains-append_right}
use Rattle.std.specs.Char.{char_set_contains}
use Rattle.std.specs.Cmp.Lexicographic.{same_text}
use Rattle.std.specs.List.{AllByRecursion, Contains}
use Rattle.std.specs.Str.{IsUtf8, encode_utf8_all, bytes_eq}
use lib.Utf8.{encode}
use Rattle.graphql_tokens.specs.tokens.Proper.{Spells, IsProperBare}
use Rattle.graphql_tokens.specs.tokens.Spelling.{IsPunct}
use Rattle.graphql_tokens.specs.tokens.Token.{Bare, Token}
use Rattle.graphql_tokens.specs.declared.lexer.TokenKind.{TokenKind}
use Rattle.graphql_tokens.specs.declared.lexer.TokenKind.TheVariants.{Punct, Name, Number, String as Quoted, Block, Fault, End}
use Rattle.graphql_reading.specs.grammar.Limits.{Limits}
use Rattle.graphql_reading.specs.grammar.Tests.{is_among}
use Rattle.graphql_reading.proofs.TokenTests.{name-spells}
use Rattle.graphql_trees.specs.declared.service.DirectiveLocation.{DirectiveLocation}
use Rattle.graphql_schemas.specs.grammar.Directives.{IsLocation}
use Rattle.graphql_schemas.specs.reading.Directives.{location_named}
use Rattle.graphql_schemas.proofs.LocationProductions.{location-decides}
use Rattle.graphql_report.specs.declared.fronts.Language.{Language}
use Rattle.graphql_report.specs.reports.Expected.{TellsFrontOf, with_sample, Samples, quoted, in_quotes, name_text, number_name, string_name, literals, punctuators, keyword_words, location_name, keywords, name_name, value_name, AreTaken, value_names, AreExpected}
use Rattle.graphql_report.specs.inner.Called.{CanStand, begins_value, Calls, NamesAll}
use Rattle.graphql_report.proofs.Buffers.{line-feed-utf8, pushed-line-feed}
use Rattle.std.proofs.lemmas.Str.{IsUtf8-append}
use Rattle.graphql_report.proofs.SampleTokens.{IsSampleOf, itself, a_number, a_string, a_block, a_name, a_location}
use Rattle.graphql_report.proofs.SampleTexts.{IsFrontText, sample-stands}
use Prim.Native.String.{String}

-- ---- what the tables have

-- one of the samples
abbrev Among : Samples → List ℕ × List ℕ → Type 0
Among [] s = ⊥
Among (x ∷ samples) s = (x ≡ s) ⊎ Among samples s

among-left : (xs ys : Samples) (s : List ℕ × List ℕ) → Among xs s → Among (xs ++ ys) s
among-left [] ys s h = absurd h
among-left (x ∷ xs) ys s (inl e) = inl e
among-left (x ∷ xs) ys s (inr h) = inr (among-left xs ys s h)

among-right : (xs ys : Samples) (s : List ℕ × List ℕ) → Among ys s → Among (xs ++ ys) s
among-right [] ys s h = h
among-right (x ∷ xs) ys s h = inr (among-right xs ys s h)

-- a word of a list is a sample, called by itself in quotes
among-words : (words : List String) (spelling : List ℕ) → is_among spelling words ≡ true → Among (map in_quotes words) (spelling, quoted spelling)
among-words [] spelling e = absurd cc
among-words (word ∷ words) spelling e = go (among-words words spelling) (bytes_eq spelling (codes word)) refl e
  where
    go : (is_among spelling words ≡ true → Among (map in_quotes words) (spelling, quoted spelling)) → (w : Bool) → bytes_eq spelling (codes word) ≡ w → (w || is_among spelling words) ≡ true → Among (map in_quotes (word ∷ words)) (spelling, quoted spelling)
    go more true here e = inl (ap (λ (l : List ℕ). (l, quoted l)) (sym (same_text spelling (codes word) (sym here))))
    go more false here e = inr (more e)

-- what holds of each character of a set holds of one that is in it
in-set : (P : ℕ → Type 0) (set : List ℕ) → AllByRecursion P set → (c : ℕ) → char_set_contains set c ≡ true → P c
in-set P [] all c e = absurd cc
in-set P (d ∷ set) all c e = go (in-set P set all.1 c) (eqb d c) refl e
  where
    go : (char_set_contains set c ≡ true → P c) → (w : Bool) → eqb d c ≡ w → (w || char_set_contains set c) ≡ true → P c
    go more true here e = subst P (eqb-true d c here) all.0
    go more false here e = more e

-- the text of a sample, and what it is called: its text in quotes
abbrev by_text : List ℕ → List ℕ × List ℕ
by_text text = (text, quoted text)

abbrev IsSampled : List ℕ → Type 0
IsSampled text = Among literals (by_text text) ⊎ Among punctuators (by_text text)

-- each punctuator of one character is in a table
each-sampled : AllByRecursion (λ c. IsSampled (encode_utf8_all (c ∷ []))) (codes "!$&():=@[]{|}")
unfolding encode
each-sampled = (
  inr (inl refl),
  (
    inr (inr (inl refl)),
    (
      inr (inr (inr (inl refl))),
      (
        inr (inr (inr (inr (inl refl)))),
        (
          inr (inr (inr (inr (inr (inl refl))))),
          (
            inr (inr (inr (inr (inr (inr (inr (inl refl))))))),
            (
              inr (inr (inr (inr (inr (inr (inr (inr (inl refl)))))))),
              (
                inr (inr (inr (inr (inr (inr (inr (inr (inr (inl refl))))))))),
                (
                  inl (inr (inr (inl refl))),
                  (
                    inr (inr (inr (inr (inr (inr (inr (inr (inr (inr (inl refl)))))))))),
                    (
                      inl (inr (inr (inr (inl refl)))),
                      (
                        inr (inr (inr (inr (inr (inr (inr (inr (inr (inr (inr (inl refl))))))))))),
                        (
                          inr (inr (inr (inr (inr (inr (inr (inr (inr (inr (inr (inr (inl refl)))))))))))),
                          tt,
                        ),
                      ),
                    ),
                  ),
                ),
              ),
            ),
          ),
        ),
      ),
    ),
  ),
)

dots-sampled : IsSampled (encode_utf8_all (codes "..."))
unfolding encode
dots-sampled = inr (inr (inr (inr (inr (inr (inl refl))))))

punct-sampled : (w : List ℕ) → IsPunct w → IsSampled (encode_utf8_all w)
punct-sampled w (inl p) = subst (λ (l : List ℕ). IsSampled (encode_utf8_all l)) (sym p.1) (in-set (λ c. IsSampled (encode_utf8_all (c ∷ []))) (codes "!$&():=@[]{|}") each-sampled p.0 p.2)
punct-sampled w (inr e) = subst (λ (l : List ℕ). IsSampled (encode_utf8_all l)) (sym e) dots-sampled

-- ---- the samples that are taken are named

contains-here : (name : List ℕ) (names : List (List ℕ)) → Contains (name ∷ names) name
contains-here name names = (0, omega arith, refl)

contains-later : (name other : List ℕ) (names : List (List ℕ)) → Contains names name → Contains (other ∷ names) name
contains-later name other names h = Contains-append_right (other ∷ []) names name h

told : (language : Language) (limits : Limits) (text : List ℕ) (answer : Bool) → TellsFrontOf language limits text answer → IsFrontText language limits text → IsTrue answer
told language limits text answer tells front = (tells front.0 front.1).1 front.2

taken-named : (language : Language) (limits : Limits) (line : List ℕ) (samples : Samples) (names : List (List ℕ)) (s : List ℕ × List ℕ) → AreTaken language limits line samples names → Among samples s → IsFrontText language limits (with_sample line s.0) → Contains names s.1
taken-named language limits line [] names s taken among stands = absurd among
taken-named language limits line (x ∷ samples) names s taken (inl e) stands =
    let answer : IsTrue taken.0 = told language limits (with_sample line x.0) taken.0 taken.2 (subst (λ (s : List ℕ × List ℕ). IsFrontText language limits (with_sample line s.0)) (sym e) stands) in
    let is : names ≡ x.1 ∷ taken.1 = taken.3 ∙ ap (λ (b : Bool). cond b (x.1 ∷ taken.1) taken.1) answer in
    subst (λ (l : List (List ℕ)). Contains l s.1) (sym is) (subst (λ (s : List ℕ × List ℕ). Contains (x.1 ∷ taken.1) s.1) e (contains-here x.1 taken.1))
taken-named language limits line (x ∷ samples) names s taken (inr among) stands = go (taken-named language limits line samples taken.1 s taken.4 among stands) taken.0 refl
  where
    go : Contains taken.1 s.1 → (b : Bool) → taken.0 ≡ b → Contains names s.1
    go rest true e = subst (λ (l : List (List ℕ)). Contains l s.1) (sym (taken.3 ∙ ap (λ (b : Bool). cond b (x.1 ∷ taken.1) taken.1) e)) (contains-later s.1 x.1 taken.1 rest)
    go rest false e = subst (λ (l : List (List ℕ)). Contains l s.1) (sym (taken.3 ∙ ap (λ (b : Bool). cond b (x.1 ∷ taken.1) taken.1) e)) rest

-- ---- all that is expected

record Facts (language : Language) (limits : Limits) (front : List ℕ) (names : List (List ℕ)) (t : Token) : Type 0 where
  utf8 : IsUtf8 front
  expected : AreExpected language limits front names
  stands : CanStand language limits (front ++ 10 ∷ []) t

abbrev IsNamed : List (List ℕ) → Bare → Type 0
IsNamed names t = (name : List ℕ) × Contains names name × Calls t name

-- a sample of the token can stand
sample-of : {language : Language} {limits : Limits} {front : List ℕ} {names : List (List ℕ)} {t : Token} → Facts language limits front names t → (kind : TokenKind) (bytes : List ℕ) → Spells kind bytes → IsSampleOf t.bare (record { kind = kind; spelling = bytes }) → IsFrontText language limits (with_sample (front ++ 10 ∷ []) bytes)
sample-of {language} {limits} {front} {names} {t} h kind bytes spells sample = sample-stands language limits (front ++ 10 ∷ []) t (IsUtf8-append front (10 ∷ []) h.utf8 line-feed-utf8) (pushed-line-feed front (front ++ 10 ∷ []) h.utf8 refl) h.stands kind bytes spells sample

of-values : {language : Language} {limits : Limits} {front : List ℕ} {names : List (List ℕ)} (h : AreExpected language limits front names) (name : List ℕ) → Contains (value_names h.has_name h.of_literals) name → Contains names name
of-values h name c =
    let values = value_names h.has_name h.of_literals in
    let with-punctuators = Contains-append_left values h.of_punctuators name c in
    let with-keywords = Contains-append_left (values ++ h.of_punctuators) h.of_keywords name with-punctuators in
    subst (λ (l : List (List ℕ)). Contains l name) (sym h.are_names) (Contains-append_left (values ++ h.of_punctuators ++ h.of_keywords) _ name with-keywords)

of-punctuators : {language : Language} {limits : Limits} {front : List ℕ} {names : List (List ℕ)} (h : AreExpected language limits front names) (name : List ℕ) → Contains h.of_punctuators name → Contains names name
of-punctuators h name c =
    let values = value_names h.has_name h.of_literals in
    let with-keywords = Contains-append_left (values ++ h.of_punctuators) h.of_keywords name (Contains-append_right values h.of_punctuators name c) in
    subst (λ (l : List (List ℕ)). Contains l name) (sym h.are_names) (Contains-append_left (values ++ h.of_punctuators ++ h.of_keywords) _ name with-keywords)

of-keywords : {language : Language} {limits : Limits} {front : List ℕ} {names : List (List ℕ)} (h : AreExpected language limits front names) (name : List ℕ) → Contains h.of_keywords name → Contains names name
of-keywords h name c =
    let values = value_names h.has_name h.of_literals in
    subst (λ (l : List (List ℕ)). Contains l name) (sym h.are_names) (Contains-append_left (values ++ h.of_punctuators ++ h.of_keywords) _ name (Contains-append_right (values ++ h.of_punctuators) h.of_keywords name c))

-- a literal has its name, or all are a value
literal-value : (has_name : Bool) (names : List (List ℕ)) (name : List ℕ) → Contains names name → Contains (value_names has_name names) name ⊎ Contains (value_names has_name names) value_name
literal-value has_name names name c = go (has_name && (length names == length literals))
  where
    go : (all : Bool) → Contains (cond all (value_name ∷ []) (cond has_name (name_name ∷ []) [] ++ names)) name ⊎ Contains (cond all (value_name ∷ []) (cond has_name (name_name ∷ []) [] ++ names)) value_name
    go true = inr (contains-here value_name [])
    go false = inl (Contains-append_right (cond has_name (name_name ∷ []) []) names name c)

name-value : (names : List (List ℕ)) → Contains (value_names true names) name_name ⊎ Contains (value_names true names) value_name
name-value names = go (true && (length names == length literals))
  where
    go : (all : Bool) → Contains (cond all (value_name ∷ []) (name_name ∷ [] ++ names)) name_name ⊎ Contains (cond all (value_name ∷ []) (name_name ∷ [] ++ names)) value_name
    go true = inr (contains-here value_name [])
    go false = inl (contains-here name_name names)

-- a token with a literal as its sample
literal-named : {language : Language} {limits : Limits} {front : List ℕ} {names : List (List ℕ)} (h : AreExpected language limits front names) (t : Bare) (s : List ℕ × List ℕ) → Among literals s → IsFrontText language limits (with_sample (front ++ 10 ∷ []) s.0) → Calls t s.1 → IsTrue (begins_value t) → IsNamed names t
literal-named {language} {limits} {front} {names} h t s among stands calls begins = go (literal-value h.has_name h.of_literals s.1 (taken-named language limits (front ++ 10 ∷ []) literals h.of_literals s h.are_literals among stands))
  where
    go : Contains (value_names h.has_name h.of_literals) s.1 ⊎ Contains (value_names h.has_name h.of_literals) value_name → IsNamed names t
    go (inl c) = (s.1, of-values h s.1 c, calls)
    go (inr c) = (value_name, of-values h value_name c, inr (refl, begins))

-- ---- by kinds

pub number-spells : Spells Number (codes "0")
unfolding encode
number-spells = (codes "0", (refl, tt), refl, ([], codes "0", [], [], refl, inl refl, inl (refl, refl), tt, tt))

pub string-spells : Spells Quoted (codes "\"\"")
unfolding encode
string-spells = (codes "\"\"", (refl, (refl, tt)), refl, ([], refl, ([], ([], refl, tt))))

pub a-spells : Spells Name (codes "a")
a-spells = name-spells (codes "a") refl (refl, tt)

pub field-spells : Spells Name (codes "FIELD")
field-spells = name-spells (codes "FIELD") refl (refl, (refl, (refl, (refl, (refl, tt)))))

-- a bracket or a brace begins a value
begins-value : (spelling : List ℕ) → Among literals (by_text spelling) → IsTrue (begins_value (record { kind = Punct; spelling = spelling }))
begins-value spelling (inl e) = absurd (let other : number_name ≡ quoted (codes "0") = ap (λ (s : List ℕ × List ℕ). s.1) e ∙ ap (λ (s : List ℕ × List ℕ). quoted s.0) (sym e) in cc)
begins-value spelling (inr (inl e)) = absurd (let other : string_name ≡ quoted (codes "\"\"") = ap (λ (s : List ℕ × List ℕ). s.1) e ∙ ap (λ (s : List ℕ × List ℕ). quoted s.0) (sym e) in cc)
begins-value spelling (inr (inr (inl e))) = subst (λ (l : List ℕ). IsTrue (begins_value (record { kind = Punct; spelling = l }))) (ap (λ (s : List ℕ × List ℕ). s.0) e) refl
begins-value spelling (inr (inr (inr (inl e)))) = subst (λ (l : List ℕ). IsTrue (begins_value (record { kind = Punct; spelling = l }))) (ap (λ (s : List ℕ × List ℕ). s.0) e) refl
begins-value spelling (inr (inr (inr (inr h)))) = absurd h

punct-named : {language : Language} {limits : Limits} {front : List ℕ} {names : List (List ℕ)} {t : Token} → Facts language limits front names t → (spelling : List ℕ) → t.bare ≡ record { kind = Punct; spelling = spelling } → Spells Punct spelling → IsNamed names (record { kind = Punct; spelling = spelling })
punct-named {language} {limits} {front} {names} {t} h spelling is spells = go (subst IsSampled (sym spells.2) (punct-sampled spells.0 spells.3))
  where
    stands : IsFrontText language limits (with_sample (front ++ 10 ∷ []) spelling)
    stands = sample-of h Punct spelling spells (itself is)

    go : IsSampled spelling → IsNamed names (record { kind = Punct; spelling = spelling })
    go (inl among) = literal-named h.expected (record { kind = Punct; spelling = spelling }) (by_text spelling) among stands (inl refl) (begins-value spelling among)
    go (inr among) = (quoted spelling, of-punctuators h.expected (quoted spelling) (taken-named language limits (front ++ 10 ∷ []) punctuators h.expected.of_punctuators (by_text spelling) h.expected.are_punctuators among stands), inl refl)

-- where a plain name can't stand, a name is a keyword or a location
keyword-named : {language : Language} {limits : Limits} {front : List ℕ} {names : List (List ℕ)} {t : Token} (h : Facts language limits front names t) → (spelling : List ℕ) → t.bare ≡ record { kind = Name; spelling = spelling } → Spells Name spelling → h.expected.has_name ≡ false → IsNamed names (record { kind = Name; spelling = spelling })
keyword-named {language} {limits} {front} {names} {t} h spelling is spells no-name = by-word (is_among spelling keyword_words) refl
  where
    kind : t.bare.kind ≡ Name
    kind = ap (λ (t : Bare). t.kind) is

    no-keyword : is_among spelling keyword_words ≡ false → is_among t.bare.spelling keyword_words ≡ false
    no-keyword none = ap (λ (t : Bare). is_among t.spelling keyword_words) is ∙ none

    taken : (s : List ℕ × List ℕ) → Among keywords s → IsFrontText language limits (with_sample (front ++ 10 ∷ []) s.0) → Contains names s.1
    taken s among stands = of-keywords h.expected s.1 (taken-named language limits (front ++ 10 ∷ []) keywords h.expected.of_keywords s (h.expected.are_keywords no-name) among stands)

    by-location : is_among spelling keyword_words ≡ false → (o : Option DirectiveLocation) → location_named spelling ≡ o → IsNamed names (record { kind = Name; spelling = spelling })
    by-location none (Some location) e =
        let there : IsLocation (record { kind = Name; spelling = spelling }) location = location-decides.sound (record { kind = Name; spelling = spelling }) location e in
        let stands = sample-of h Name (codes "FIELD") field-spells (a_location kind (no-keyword none) location (ap (λ (t : Bare). t.spelling) is ∙ there) refl) in
        (location_name, taken (codes "FIELD", location_name) (among-right (map in_quotes keyword_words) ((codes "FIELD", location_name) ∷ []) (codes "FIELD", location_name) (inl refl)) stands, inl (inr (inr (refl, (location, there)))))
    by-location none None e =
        let elsewhere : (location : DirectiveLocation) → IsLocation t.bare location → ⊥ = λ location there. (let found : location_named t.bare.spelling ≡ Some location = location-decides.complete t.bare location there in let lost : location_named t.bare.spelling ≡ None = ap (λ (t : Bare). location_named t.spelling) is ∙ e in cc) in
        let stands = sample-of h Name (codes "a") a-spells (a_name kind (no-keyword none) elsewhere refl) in
        let answer : IsTrue h.expected.has_name = told language limits (with_sample (front ++ 10 ∷ []) name_text) h.expected.has_name h.expected.tells_name stands in
        absurd cc

    by-word : (b : Bool) → is_among spelling keyword_words ≡ b → IsNamed names (record { kind = Name; spelling = spelling })
    by-word true e = (quoted spelling, taken (by_text spelling) (among-left (map in_quotes keyword_words) ((codes "FIELD", location_name) ∷ []) (by_text spelling) (among-words keyword_words spelling e)) (sample-of h Name spelling spells (itself is)), inl (inr (inl refl)))
    by-word false e = by-location e (location_named spelling) refl

name-named : {language : Language} {limits : Limits} {front : List ℕ} {names : List (List ℕ)} {t : Token} → Facts language limits front names t → (spelling : List ℕ) → t.bare ≡ record { kind = Name; spelling = spelling } → Spells Name spelling → IsNamed names (record { kind = Name; spelling = spelling })
name-named {language} {limits} {front} {names} {t} h spelling is spells = go h.expected.has_name refl
  where
    this-value : Contains (value_names true h.expected.of_literals) name_name ⊎ Contains (value_names true h.expected.of_literals) value_name → h.expected.has_name ≡ true → IsNamed names (record { kind = Name; spelling = spelling })
    this-value (inl c) e = (name_name, of-values h.expected name_name (subst (λ (b : Bool). Contains (value_names b h.expected.of_literals) name_name) (sym e) c), inl (inl refl))
    this-value (inr c) e = (value_name, of-values h.expected value_name (subst (λ (b : Bool). Contains (value_names b h.expected.of_literals) value_name) (sym e) c), inr (refl, refl))

    go : (b : Bool) → h.expected.has_name ≡ b → IsNamed names (record { kind = Name; spelling = spelling })
    go true e = this-value (name-value h.expected.of_literals) e
    go false e = keyword-named h spelling is spells e

named : {language : Language} {limits : Limits} {front : List ℕ} {names : List (List ℕ)} {t : Token} → Facts language limits front names t → (kind : TokenKind) (spelling : List ℕ) → t.bare ≡ record { kind = kind; spelling = spelling } → IsProperBare kind spelling → (kind ≡ End → ⊥) → IsNamed names (record { kind = kind; spelling = spelling })
named h Punct spelling is proper inner = punct-named h spelling is proper
named h Name spelling is proper inner = name-named h spelling is proper
named h Number spelling is proper inner = literal-named h.expected (record { kind = Number; spelling = spelling }) (codes "0", number_name) (inl refl) (sample-of h Number (codes "0") number-spells (a_number (ap (λ (t : Bare). t.kind) is) refl)) (inl refl) refl
named h Quoted spelling is proper inner = literal-named h.expected (record { kind = Quoted; spelling = spelling }) (codes "\"\"", string_name) (inr (inl refl)) (sample-of h Quoted (codes "\"\"") string-spells (a_string (ap (λ (t : Bare). t.kind) is) refl)) (inl refl) refl
named h Block spelling is proper inner = literal-named h.expected (record { kind = Block; spelling = spelling }) (codes "\"\"", string_name) (inr (inl refl)) (sample-of h Quoted (codes "\"\"") string-spells (a_block (ap (λ (t : Bare). t.kind) is) refl)) (inl refl) refl
named h Fault spelling is proper inner = absurd proper
named h End spelling is proper inner = absurd (inner refl)

names-all : (language : Language) (limits : Limits) (front : List ℕ) (names : List (List ℕ)) → IsUtf8 front → AreExpected language limits front names → NamesAll language limits front names
names-all language limits front names utf8 expected = λ t can. named (record { utf8 = utf8; expected = expected; stands = can }) t.bare.kind t.bare.spelling refl can.proper can.inner

pub result-names-all : {A E : Type 0} (view : A → List (List ℕ)) (language : Language) (limits : Limits) (front : List ℕ) (result : Result A E) → IsUtf8 front → IfOk result (λ names. AreExpected language limits front (view names)) → IfOk result (λ names. NamesAll language limits front (view names))
result-names-all view language limits front (Err refused) utf8 h = tt
result-names-all view language limits front (Ok names) utf8 h = names-all language limits front (view names) utf8 h
