-- No parser reads a text further than that of the language whose documents its first token begins, and none further than
-- another where it begins none.
use Rattle.std.proofs.Common.{◌≡◌, ℕ, zero, suc, Bool, true, false, IsTrue, Option, Some, None, List, [], ◌∷◌, ◌++◌, take, refl, subst}
use Rattle.graphql_tokens.specs.tokens.Cuts.{IsCutInto}
use Rattle.graphql_tokens.specs.tokens.Token.{Bare, Token}
use Rattle.graphql_reading.specs.grammar.Fronts.{Grammar, whole, bares, ViableUnlimited}
use Rattle.graphql_reading.specs.grammar.Limits.{Limits}
use Rattle.graphql_reading.specs.grammar.Relations.{◌⨾◌, one, plus, star}
use Rattle.graphql_reading.specs.grammar.Tests.{Test, the_end}
use Rattle.graphql_reading.proofs.ReadsExactly.{BeginsWith, HasPhrase, begins-within, begins-mapped, begins-then, has-map, has-pair, has-token}
use Rattle.graphql_reading.proofs.Theory.{Begins, IsSubset}
use Rattle.graphql_reading.proofs.TokenTests.{punct-within, keyword-within, within-either, end-sample}
use Rattle.graphql_requests.specs.reading.Request.{definition_first as request_first}
use Rattle.graphql_requests.proofs.RequestProductions as of_requests
use Rattle.graphql_schemas.specs.reading.SchemaFile.{definition_first as schema_first}
use Rattle.graphql_schemas.proofs.BodyProductions.{bodies-within}
use Rattle.graphql_schemas.proofs.DescriptionProductions.{text-within}
use Rattle.graphql_schemas.proofs.SchemaFileProductions as of_schemas
use Rattle.graphql_report.specs.declared.fronts.Language.{Language}
use Rattle.graphql_report.specs.declared.fronts.Language.TheVariants.{Requests, Schemas}
use Rattle.graphql_texts.specs.checked.Language.{BeginsDocument, IsFurthest}
use Rattle.graphql_texts.specs.inner.Begun.{language_begun}

-- ---- the first token of a document

-- it is this language
is_this : Language → Option Language → Bool
is_this Requests (Some Requests) = true
is_this Schemas (Some Schemas) = true
is_this language other = false

this-is : (language : Language) (found : Option Language) → IsTrue (is_this language found) → found ≡ Some language
unfolding is_this
this-is Requests (Some Requests) e = refl
this-is Requests (Some Schemas) e = absurd cc
this-is Requests None e = absurd cc
this-is Schemas (Some Requests) e = absurd cc
this-is Schemas (Some Schemas) e = refl
this-is Schemas None e = absurd cc

-- the token begins documents of this language
begins : Language → Test
begins language t = is_this language (language_begun t.kind t.spelling)

requests-within : IsSubset request_first (begins Requests)
unfolding is_this begins
requests-within = within-either (within-either (within-either (within-either (punct-within "{" refl) (keyword-within "query" refl)) (keyword-within "mutation" refl)) (keyword-within "subscription" refl)) (keyword-within "fragment" refl)

schemas-within : IsSubset schema_first (begins Schemas)
unfolding is_this begins
schemas-within = within-either (within-either (within-either (within-either (text-within (λ spelling. refl) (λ spelling. refl)) (keyword-within "extend" refl)) (keyword-within "schema" refl)) (keyword-within "directive" refl)) (bodies-within refl refl refl refl refl refl)

begins-whole : {D : Type 0} {p : Grammar D} {first test : Test} → IsSubset first test → BeginsWith p first → BeginsWith (whole (λ c. plus (p c))) test
begins-whole {p = p} within h = begins-mapped {p = λ c. plus (p c) ⨾ one the_end} (begins-then {p = λ c. plus (p c)} (begins-mapped {p = λ c. p c ⨾ star (p c)} (begins-then {p = p} (begins-within within h))))

has-whole : {D : Type 0} {p : Grammar D} → HasPhrase (λ c. plus (p c)) → HasPhrase (whole (λ c. plus (p c)))
has-whole {p = p} h = has-map {p = λ c. plus (p c) ⨾ one the_end} (has-pair h (has-token end-sample))

-- ---- fronts

first-of : {A : Type 0} {g : Grammar A} {test : Test} → BeginsWith g test → (t : Token) (front : List Token) → ViableUnlimited g (t ∷ front) → IsTrue (test t.bare)
first-of {A} {g} {test} begin t front m = go m.begun m.alike (begin.by m.holds.0 (m.begun ++ m.after) [] m.tree m.holds.1)
  where
    go : (begun : List Token) → bares begun ≡ t.bare ∷ bares front → Begins test ((begun ++ m.after) ++ []) → IsTrue (test t.bare)
    go [] e b = absurd cc
    go (u ∷ us) e b = let same : u.bare ≡ t.bare = cc in subst (λ (x : Bare). IsTrue (test x)) same b

empty-front : {A : Type 0} {g : Grammar A} → HasPhrase g → Limits → ViableUnlimited g []
empty-front has limits = let m = has.some limits in record { begun = []; after = m.tail; tree = m.tree; alike = refl; proper = m.proper; holds = (limits, m.holds) }

first-begins : (language : Language) (t : Token) (front : List Token) → BeginsDocument language (t ∷ front) → language_begun t.bare.kind t.bare.spelling ≡ Some language
unfolding begins
first-begins Requests t front m = this-is Requests _ (first-of {test = begins Requests} (begins-whole requests-within of_requests.begins-definition) t front m)
first-begins Schemas t front m = this-is Schemas _ (first-of {test = begins Schemas} (begins-whole schemas-within of_schemas.begins-definition) t front m)

limits-of : (language : Language) (front : List Token) → BeginsDocument language front → Limits
limits-of Requests front m = m.holds.0
limits-of Schemas front m = m.holds.0

none-read : (language : Language) → Limits → BeginsDocument language []
none-read Requests limits = empty-front (has-whole of_requests.has-definitions) limits
none-read Schemas limits = empty-front (has-whole of_schemas.has-definitions) limits

-- the text begins with this token, and where it begins documents of a language, that is this one
pub furthest : (language : Language) (text : List ℕ) (first : Token) (rest : List Token)
    → ((tokens : List Token) → IsCutInto text tokens → tokens ≡ first ∷ rest)
    → ((other : Language) → language_begun first.bare.kind first.bare.spelling ≡ Some other → other ≡ language)
    → IsFurthest language text
furthest language text first rest only begun tokens cut other zero m = none-read language (limits-of other [] m)
furthest language text first rest only begun tokens cut other (suc n) m =
    let here : BeginsDocument other (first ∷ take n rest) = subst (λ (l : List Token). BeginsDocument other (take (suc n) l)) (only tokens cut) m in
    subst (λ (o : Language). BeginsDocument o (take (suc n) tokens)) (begun other (first-begins other first (take n rest) here)) m
