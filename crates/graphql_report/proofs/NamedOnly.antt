-- Each name that is expected is what some token is called that can stand, or the end.
use Rattle.std.proofs.Common.{◌≡◌, ℕ, Bool, true, false, cond, ◌&&◌, ◌==◌, IsTrue, ◌⊎◌, inl, inr, IfOk, Result, Ok, Err, zero, suc, ◌<◌, slice_index_or, List, [], ◌∷◌, ◌++◌, length, map, codes, refl, sym, subst, arith}
use Rattle.std.proofs.lemmas.List.Elements.{Contains-append_cases}
use Rattle.std.proofs.lemmas.Str.{IsUtf8-append}
use Rattle.std.specs.List.{AllByRecursion, Contains}
use Rattle.std.specs.Str.{chars, IsUtf8}
use Rattle.graphql_tokens.specs.tokens.Classes.{is_punct, is_name_start, is_name_char}
use Rattle.graphql_tokens.specs.tokens.Cuts.{IsCutInto}
use Rattle.graphql_tokens.specs.tokens.Proper.{Spells}
use Rattle.graphql_tokens.specs.tokens.Spelling.{IsName}
use Rattle.graphql_tokens.specs.tokens.Token.{Bare, Token}
use Rattle.graphql_tokens.specs.declared.lexer.TokenKind.{TokenKind}
use Rattle.graphql_tokens.specs.declared.lexer.TokenKind.TheVariants.{Punct, Name, Number, String as Quoted, End}
use Rattle.graphql_reading.specs.grammar.Limits.{Limits}
use Rattle.graphql_reading.proofs.TokenTests.{are-ascii, punct-spells, name-spells}
use Rattle.graphql_trees.specs.declared.service.DirectiveLocation.TheVariants as locations
use Rattle.graphql_report.specs.declared.fronts.Language.{Language}
use Rattle.graphql_report.specs.fronts.Front.{LastIsLineFeed}
use Rattle.graphql_report.specs.reports.Expected.{TellsFrontOf, HasTreeOf, with_sample, Samples, in_quotes, name_text, literals, punctuators, keyword_words, location_name, keywords, name_name, value_name, end_name, AreTaken, value_names, AreExpected}
use Rattle.graphql_report.specs.inner.Called.{CanStand, Calls, NamesOnly}
use Rattle.graphql_report.proofs.Buffers.{line-feed-utf8, pushed-line-feed}
use Rattle.graphql_report.proofs.Named.{number-spells, string-spells, a-spells, field-spells}
use Rattle.graphql_report.proofs.SampleParts.{and-first}
use Rattle.graphql_report.proofs.SampleTexts.{text-stands}
use Prim.Native.String.{String}

-- ---- each sample is a token that is called so

abbrev IsCalled : List ℕ × List ℕ → Type 0
IsCalled s = (kind : TokenKind) × Spells kind s.0 × Calls (record { kind = kind; spelling = s.0 }) s.1

called-append : (xs ys : Samples) → AllByRecursion IsCalled xs → AllByRecursion IsCalled ys → AllByRecursion IsCalled (xs ++ ys)
called-append [] ys h k = k
called-append (x ∷ xs) ys h k = (h.0, called-append xs ys h.1 k)

punct-called : (c : ℕ) → are-ascii (c ∷ []) ≡ true → is_punct c ≡ true → IsCalled (c ∷ [], 34 ∷ c ∷ 34 ∷ [])
punct-called c ascii e = (Punct, punct-spells (c ∷ []) ascii (inl (c, refl, e)), inl refl)

dots-called : IsCalled (in_quotes "...")
dots-called = (Punct, punct-spells (codes "...") refl (inr refl), inl refl)

abbrev are-name-chars : List ℕ → Bool
are-name-chars [] = true
are-name-chars (c ∷ cs) = is_name_char c && are-name-chars cs

abbrev is-name-text : List ℕ → Bool
is-name-text [] = false
is-name-text (c ∷ cs) = is_name_start c && are-name-chars cs

and-then : (v w : Bool) → (v && w) ≡ true → w ≡ true
and-then true w h = h
and-then false w h = absurd cc

name-chars : (cs : List ℕ) → are-name-chars cs ≡ true → AllByRecursion (λ d. is_name_char d ≡ true) cs
name-chars [] e = tt
name-chars (c ∷ cs) e = (and-first (is_name_char c) (are-name-chars cs) e, name-chars cs (and-then (is_name_char c) (are-name-chars cs) e))

is-name : (w : List ℕ) → is-name-text w ≡ true → IsName w
is-name [] e = absurd cc
is-name (c ∷ cs) e = (and-first (is_name_start c) (are-name-chars cs) e, name-chars cs (and-then (is_name_start c) (are-name-chars cs) e))

abbrev are-names : List String → Bool
are-names [] = true
are-names (word ∷ words) = (are-ascii (codes word) && is-name-text (codes word)) && are-names words

words-called : (words : List String) → are-names words ≡ true → AllByRecursion IsCalled (map in_quotes words)
words-called [] e = tt
words-called (word ∷ words) e =
    let here = and-first (are-ascii (codes word) && is-name-text (codes word)) (are-names words) e in
    let ascii = and-first (are-ascii (codes word)) (is-name-text (codes word)) here in
    let named = is-name (codes word) (and-then (are-ascii (codes word)) (is-name-text (codes word)) here) in
    ((Name, name-spells (codes word) ascii named, inl (inr (inl refl))), words-called words (and-then (are-ascii (codes word) && is-name-text (codes word)) (are-names words) e))

literals-called : AllByRecursion IsCalled literals
literals-called = ((Number, number-spells, inl refl), ((Quoted, string-spells, inl refl), (punct-called 91 refl refl, (punct-called 123 refl refl, tt))))

punctuators-called : AllByRecursion IsCalled punctuators
punctuators-called = (
  punct-called 33 refl refl,
  (
    punct-called 36 refl refl,
    (
      punct-called 38 refl refl,
      (
        punct-called 40 refl refl,
        (
          punct-called 41 refl refl,
          (
            dots-called,
            (punct-called 58 refl refl, (punct-called 61 refl refl, (punct-called 64 refl refl, (punct-called 93 refl refl, (punct-called 124 refl refl, (punct-called 125 refl refl, tt)))))),
          ),
        ),
      ),
    ),
  ),
)

keywords-called : AllByRecursion IsCalled keywords
keywords-called = called-append (map in_quotes keyword_words) ((codes "FIELD", location_name) ∷ []) (words-called keyword_words refl) ((Name, field-spells, inl (inr (inr (refl, (locations.Field, refl))))), tt)

-- ---- what is taken can stand

none-in : {A : Type 0} {x : A} → Contains [] x → ⊥
none-in h = let low = h.1 in omega arith

only-one : {A : Type 0} {x y : A} → Contains (x ∷ []) y → x ≡ y
only-one {x = x} {y = y} (k, low, is) = first k low is
  where
    first : (k : ℕ) → k < 1 → slice_index_or (x ∷ []) k y ≡ y → x ≡ y
    first zero low is = is
    first (suc k) low is = absurd (omega arith)

record Facts (language : Language) (limits : Limits) (line : List ℕ) : Type 0 where
  utf8 : IsUtf8 line
  lined : LastIsLineFeed (chars line)
  tokens : List Token
  last : Token
  cut : IsCutInto line (tokens ++ last ∷ [])
  ends : last.bare.kind ≡ End

abbrev IsOfToken : Language → Limits → List ℕ → List ℕ → Type 0
IsOfToken language limits line name = (t : Token) × CanStand language limits line t × Calls t.bare name

text-of-token : {language : Language} {limits : Limits} {line : List ℕ} → Facts language limits line → (kind : TokenKind) (bytes name : List ℕ) → Spells kind bytes → Calls (record { kind = kind; spelling = bytes }) name → (answer : Bool) → TellsFrontOf language limits (with_sample line bytes) answer → IsTrue answer → IsOfToken language limits line name
text-of-token {language} {limits} {line} h kind bytes name spells calls answer tells is =
    let m = text-stands language limits line h.tokens h.last h.utf8 h.lined h.cut h.ends kind bytes spells answer tells is in
    (m.token, m.stands, subst (λ (b : Bare). Calls b name) m.is calls)

taken-of-token : {language : Language} {limits : Limits} {line : List ℕ} → Facts language limits line → (samples : Samples) (names : List (List ℕ)) (name : List ℕ) → AllByRecursion IsCalled samples → AreTaken language limits line samples names → Contains names name → IsOfToken language limits line name
taken-of-token h [] names name called taken c = absurd (none-in (subst (λ (l : List (List ℕ)). Contains l name) taken c))
taken-of-token {language} {limits} {line} h (s ∷ samples) names name called taken c = go (taken-of-token h samples taken.1 name called.1 taken.4) taken.0 refl (subst (λ (l : List (List ℕ)). Contains l name) taken.3 c)
  where
    this : IsTrue taken.0 → s.1 ≡ name → IsOfToken language limits line name
    this is e = text-of-token h called.0.0 s.0 name called.0.1 (subst (λ (name : List ℕ). Calls (record { kind = called.0.0; spelling = s.0 }) name) e called.0.2) taken.0 taken.2 is

    either : (Contains taken.1 name → IsOfToken language limits line name) → IsTrue taken.0 → Contains (s.1 ∷ []) name ⊎ Contains taken.1 name → IsOfToken language limits line name
    either later is (inl c) = this is (only-one c)
    either later is (inr c) = later c

    go : (Contains taken.1 name → IsOfToken language limits line name) → (b : Bool) → taken.0 ≡ b → Contains (cond taken.0 (s.1 ∷ taken.1) taken.1) name → IsOfToken language limits line name
    go later true e c = either later e (Contains-append_cases (s.1 ∷ []) taken.1 name (subst (λ (b : Bool). Contains (cond b (s.1 ∷ taken.1) taken.1) name) e c))
    go later false e c = later (subst (λ (b : Bool). Contains (cond b (s.1 ∷ taken.1) taken.1) name) e c)

-- ---- all names

name-of-token : {language : Language} {limits : Limits} {front : List ℕ} {names : List (List ℕ)} → Facts language limits (front ++ 10 ∷ []) → (h : AreExpected language limits front names) → h.has_name ≡ true → (name : List ℕ) → Calls (record { kind = Name; spelling = name_text }) name → IsOfToken language limits (front ++ 10 ∷ []) name
name-of-token facts h is name calls = text-of-token facts Name name_text name a-spells calls h.has_name h.tells_name is

value-of-token : {language : Language} {limits : Limits} {front : List ℕ} {names : List (List ℕ)} → Facts language limits (front ++ 10 ∷ []) → (h : AreExpected language limits front names) → (name : List ℕ) → Contains (value_names h.has_name h.of_literals) name → IsOfToken language limits (front ++ 10 ∷ []) name
value-of-token {language} {limits} {front} {names} facts h name c = go (h.has_name && (length h.of_literals == length literals)) refl c
  where
    in-literals : Contains h.of_literals name → IsOfToken language limits (front ++ 10 ∷ []) name
    in-literals c = taken-of-token facts literals h.of_literals name literals-called h.are_literals c

    by-name : (b : Bool) → h.has_name ≡ b → Contains (cond b (name_name ∷ []) []) name → IsOfToken language limits (front ++ 10 ∷ []) name
    by-name true e c = name-of-token facts h e name (inl (inl (sym (only-one c))))
    by-name false e c = absurd (none-in c)

    either : Contains (cond h.has_name (name_name ∷ []) []) name ⊎ Contains h.of_literals name → IsOfToken language limits (front ++ 10 ∷ []) name
    either (inl c) = by-name h.has_name refl c
    either (inr c) = in-literals c

    go : (b : Bool) → (h.has_name && (length h.of_literals == length literals)) ≡ b → Contains (cond b (value_name ∷ []) (cond h.has_name (name_name ∷ []) [] ++ h.of_literals)) name → IsOfToken language limits (front ++ 10 ∷ []) name
    go true e c = name-of-token facts h (and-first h.has_name (length h.of_literals == length literals) e) name (inr (sym (only-one c), refl))
    go false e c = either (Contains-append_cases (cond h.has_name (name_name ∷ []) []) h.of_literals name c)

keyword-of-token : {language : Language} {limits : Limits} {front : List ℕ} {names : List (List ℕ)} → Facts language limits (front ++ 10 ∷ []) → (h : AreExpected language limits front names) → (name : List ℕ) → Contains h.of_keywords name → IsOfToken language limits (front ++ 10 ∷ []) name
keyword-of-token {language} {limits} {front} {names} facts h name c = go h.has_name refl
  where
    go : (b : Bool) → h.has_name ≡ b → IsOfToken language limits (front ++ 10 ∷ []) name
    go true e = absurd (none-in (subst (λ (l : List (List ℕ)). Contains l name) (h.none_beside_a_name e) c))
    go false e = taken-of-token facts keywords h.of_keywords name keywords-called (h.are_keywords e) c

abbrev IsOfEnd : Language → Limits → List ℕ → List ℕ → Type 0
IsOfEnd language limits front name = (name ≡ end_name) × ((whole : List Token) → IsCutInto (front ++ 10 ∷ []) whole → HasTreeOf language limits whole)

the-end : {language : Language} {limits : Limits} {front : List ℕ} {names : List (List ℕ)} (h : AreExpected language limits front names) (name : List ℕ) (b : Bool) → h.is_whole ≡ b → Contains (cond b (end_name ∷ []) []) name → IsOfEnd language limits front name
the-end h name true e c = (sym (only-one c), λ whole cut. (h.tells_whole whole cut).0 e)
the-end h name false e c = absurd (none-in c)

by-part : {language : Language} {limits : Limits} {front : List ℕ} {names : List (List ℕ)} → Facts language limits (front ++ 10 ∷ []) → (h : AreExpected language limits front names) → (name : List ℕ) → Contains (value_names h.has_name h.of_literals ++ h.of_punctuators ++ h.of_keywords ++ cond h.is_whole (end_name ∷ []) []) name → IsOfToken language limits (front ++ 10 ∷ []) name ⊎ IsOfEnd language limits front name
by-part {language} {limits} {front} {names} facts h name c = first (Contains-append_cases (values ++ h.of_punctuators ++ h.of_keywords) (cond h.is_whole (end_name ∷ []) []) name c)
  where
    values : List (List ℕ)
    values = value_names h.has_name h.of_literals

    third : Contains values name ⊎ Contains h.of_punctuators name → IsOfToken language limits (front ++ 10 ∷ []) name
    third (inl c) = value-of-token facts h name c
    third (inr c) = taken-of-token facts punctuators h.of_punctuators name punctuators-called h.are_punctuators c

    second : Contains (values ++ h.of_punctuators) name ⊎ Contains h.of_keywords name → IsOfToken language limits (front ++ 10 ∷ []) name
    second (inl c) = third (Contains-append_cases values h.of_punctuators name c)
    second (inr c) = keyword-of-token facts h name c

    first : Contains (values ++ h.of_punctuators ++ h.of_keywords) name ⊎ Contains (cond h.is_whole (end_name ∷ []) []) name → IsOfToken language limits (front ++ 10 ∷ []) name ⊎ IsOfEnd language limits front name
    first (inl c) = inl (second (Contains-append_cases (values ++ h.of_punctuators) h.of_keywords name c))
    first (inr c) = inr (the-end h name h.is_whole refl c)

names-only : (language : Language) (limits : Limits) (front : List ℕ) (names : List (List ℕ)) → IsUtf8 front → AreExpected language limits front names → NamesOnly language limits front names
names-only language limits front names utf8 h = λ tokens last cut ends name c.
    let facts : Facts language limits (front ++ 10 ∷ []) = record { utf8 = IsUtf8-append front (10 ∷ []) utf8 line-feed-utf8; lined = pushed-line-feed front (front ++ 10 ∷ []) utf8 refl; tokens = tokens; last = last; cut = cut; ends = ends } in
    by-part facts h name (subst (λ (l : List (List ℕ)). Contains l name) h.are_names c)

pub result-names-only : {A E : Type 0} (view : A → List (List ℕ)) (language : Language) (limits : Limits) (front : List ℕ) (result : Result A E) → IsUtf8 front → IfOk result (λ names. AreExpected language limits front (view names)) → IfOk result (λ names. NamesOnly language limits front (view names))
result-names-only view language limits front (Err refused) utf8 h = tt
result-names-only view language limits front (Ok names) utf8 h = names-only language limits front (view names) utf8 h
