-- Values are read exactly, at every budget; and their places don't matter.
use Rattle.std.proofs.Common.{◌≡◌, ℕ, zero, suc, Bool, true, false, not, ◌||◌, IsTrue, List, [], ◌∷◌, map, codes, ◌↔◌, inl, inr, refl, sym, ap, subst}
use Rattle.std.specs.Str.{bytes_eq}
use Rattle.graphql_tokens.specs.tokens.Edition.{Current}
use Rattle.graphql_tokens.specs.tokens.Token.{Token}
use Rattle.graphql_syntax.specs.trees.ValueTree.{Tree, list, object, trees_of, fields_of}
use Rattle.graphql_reading.specs.grammar.Fronts.{without_place}
use Rattle.graphql_reading.specs.grammar.Limits.{Limits}
use Rattle.graphql_grammar.specs.grammar.Merged.{merged}
use Rattle.graphql_grammar.specs.grammar.Placeless.{bare_node}
use Rattle.graphql_reading.specs.grammar.Places.{at}
use Rattle.graphql_reading.specs.grammar.Relations.{Rel, one, ◌∪◌, mapped}
use Rattle.graphql_reading.specs.grammar.Tests.{Test, is_among, punct, keyword, any_name, name_but, any_number, any_string, any_block}
use Rattle.graphql_grammar.specs.grammar.Values.{Value, true_of, enumeration_of, StringStands, BlockStands, a_word, a_number, a_string, a_block, dollar, a_variable, a_list, a_field, an_object, a_simple_value, value}
use Rattle.graphql_reading.specs.reading.Outcome.{Reader}
use Rattle.graphql_grammar.specs.reading.Values.{word_at, number_at, string_at, block_at, variable_at, simple_at, simple_first, value_first, list_at, field_at, object_at, by_first, value_at}
use Rattle.graphql_reading.proofs.Parts.{nested, below, of_values}
use Rattle.graphql_reading.proofs.Theory.{Extends, IsSubset, outside, anything}
use Rattle.graphql_reading.proofs.TokenTests.{punctuator, named, punct-within, keyword-within, any_name-within, name_but-within, keyword-sample, name-sample}
use Rattle.graphql_grammar.proofs.ValueTests.{number, quoted, block, any_number-within, any_string-within, any_block-within, dollar-within, any_number-inner, any_string-inner, any_block-inner, dollar-inner}
use Rattle.graphql_reading.proofs.PunctSamples.{has-close_list, has-close_object, has-colon}
use Rattle.graphql_reading.proofs.ReadsExactly.{ReadsExactly, HasPhrase, BeginsWith, exact-one, exact-punct, exact-keyword, exact-name, exact-name_but, exact-mapped, exact-next, exact-then-some, exact-many, exact-choose, exact-nested, exact-deep, exact-same, begins-one, begins-within, begins-same, begins-mapped, begins-then, begins-either, begins-nested, has-token, has-pair, has-map, has-star, has-first, extends-one}
use Rattle.graphql_reading.proofs.Meaning.{exact-meaning, begins-meaning, ignores-meaning, ignores-block}
use Rattle.graphql_grammar.proofs.StringMeanings.{string-decides, block-decides, block-stands}
use Rattle.graphql_reading.proofs.IgnoresPlaces.{IgnoresPlaces, ignores-one, ignores-then, ignores-mapped, ignores-either, ignores-star}
use Rattle.graphql_reading.proofs.Loop.{Takes, takes-one}
use Prim.Native.String.{String}

-- ---- names, and the words among them

abbrev words : List String
words = "true" ∷ "false" ∷ "null" ∷ []

-- the name of an enum is none of the three words
abbrev IsOther : List ℕ → Type 0
IsOther spelling = IsTrue (outside (keyword "true") (named spelling)) × IsTrue (outside (keyword "false") (named spelling)) × IsTrue (outside (keyword "null") (named spelling))

is-other : (spelling : List ℕ) → IsTrue (not (is_among spelling words)) → IsOther spelling
is-other spelling = go (bytes_eq spelling (codes "true")) (bytes_eq spelling (codes "false")) (bytes_eq spelling (codes "null"))
  where
    go : (u v w : Bool) → IsTrue (not (u || (v || (w || false)))) → IsTrue (not u) × IsTrue (not v) × IsTrue (not w)
    go true v w e = absurd cc
    go false true w e = absurd cc
    go false false true e = absurd cc
    go false false false e = (refl, refl, refl)

begins-word : BeginsWith (λ c. a_word) any_name
begins-word =
    begins-either (begins-mapped (begins-within (keyword-within "true" refl) begins-one))
    (begins-either (begins-mapped (begins-within (keyword-within "false" refl) begins-one))
    (begins-either (begins-mapped (begins-within (keyword-within "null" refl) begins-one))
    (begins-mapped (begins-within (name_but-within words (λ spelling h. refl)) begins-one))))

begins-enumeration : {g : Test} → ((spelling : List ℕ) → IsTrue (not (is_among spelling words)) → IsTrue (g (named spelling))) → BeginsWith (λ c. mapped enumeration_of (one (name_but words))) g
begins-enumeration h = begins-mapped (begins-within (name_but-within words h) begins-one)

exact-word : {b : Limits} {f : Test} → ReadsExactly (λ c. a_word) b f word_at
exact-word =
    exact-choose (begins-mapped begins-one)
    (begins-either (begins-mapped (begins-within (keyword-within "false" refl) begins-one)) (begins-either (begins-mapped (begins-within (keyword-within "null" refl) begins-one)) (begins-enumeration (λ spelling h. (is-other spelling h).0))))
    (exact-mapped (exact-keyword "true"))
    (exact-choose (begins-mapped begins-one)
    (begins-either (begins-mapped (begins-within (keyword-within "null" refl) begins-one)) (begins-enumeration (λ spelling h. (is-other spelling h).1)))
    (exact-mapped (exact-keyword "false"))
    (exact-choose (begins-mapped begins-one)
    (begins-enumeration (λ spelling h. (is-other spelling h).2))
    (exact-mapped (exact-keyword "null"))
    (exact-mapped (exact-name_but words))))

has-word : HasPhrase (λ c. a_word)
has-word = has-first {p = λ c. mapped true_of (one (keyword "true"))} (has-map (has-token (keyword-sample "true" refl (refl, (refl, (refl, (refl, tt)))))))

ignores-word : IgnoresPlaces (λ c. a_word) bare_node
ignores-word =
    ignores-either (ignores-mapped (λ t. refl) (ignores-one (keyword "true") (λ spelling. refl)))
    (ignores-either (ignores-mapped (λ t. refl) (ignores-one (keyword "false") (λ spelling. refl)))
    (ignores-either (ignores-mapped (λ t. refl) (ignores-one (keyword "null") (λ spelling. refl)))
    (ignores-mapped (λ t. refl) (ignores-one (name_but words) (λ spelling. refl)))))

-- ---- numbers, strings and variables

begins-number : {g : Test} → ((spelling : List ℕ) → IsTrue (g (number spelling))) → BeginsWith (λ c. a_number) g
begins-number h = begins-mapped (begins-within (any_number-within h) begins-one)

begins-string : {g : Test} → ((spelling : List ℕ) → IsTrue (g (quoted spelling))) → BeginsWith (λ c. a_string Current) g
begins-string h = begins-mapped (begins-within (any_string-within h) (begins-meaning any_string (StringStands Current)))

begins-block : {g : Test} → ((spelling : List ℕ) → IsTrue (g (block spelling))) → BeginsWith (λ c. a_block) g
begins-block h = begins-mapped (begins-within (any_block-within h) (begins-meaning any_block BlockStands))

begins-variable : (vars : Bool) {g : Test} → (vars ≡ true → IsTrue (g (punctuator "$"))) → BeginsWith (λ c. a_variable vars) g
begins-variable vars h = begins-mapped (begins-then (begins-within (dollar-within vars h) begins-one))

exact-number : {b : Limits} {f : Test} → ReadsExactly (λ c. a_number) b f number_at
exact-number = exact-mapped (exact-one any_number-inner)

exact-string : {b : Limits} {f : Test} → ReadsExactly (λ c. a_string Current) b f string_at
exact-string = exact-mapped (exact-meaning any_string-inner string-decides)

exact-block : {b : Limits} {f : Test} → ReadsExactly (λ c. a_block) b f block_at
exact-block = exact-mapped (exact-meaning any_block-inner block-decides)

exact-variable : (vars : Bool) {b : Limits} {f : Test} → ReadsExactly (λ c. a_variable vars) b f (variable_at vars)
exact-variable vars = exact-mapped (exact-next (has-token name-sample) (exact-one (dollar-inner vars)) exact-name)

-- ---- what is neither a list nor an object

begins-simple : (vars : Bool) → BeginsWith (λ c. a_simple_value Current vars) (simple_first vars)
begins-simple vars =
    begins-either (begins-within (any_name-within (λ spelling. refl)) begins-word)
    (begins-either (begins-number (λ spelling. refl))
    (begins-either (begins-string (λ spelling. refl))
    (begins-either (begins-block (λ spelling. refl)) (begins-variable vars (λ allowed. allowed)))))

exact-simple : (vars : Bool) {b : Limits} {f : Test} → ReadsExactly (λ c. a_simple_value Current vars) b f (simple_at vars)
exact-simple vars =
    exact-choose begins-word
    (begins-either (begins-number (λ spelling. refl)) (begins-either (begins-string (λ spelling. refl)) (begins-either (begins-block (λ spelling. refl)) (begins-variable vars (λ allowed. refl)))))
    exact-word
    (exact-choose {first = any_number} (begins-number (λ spelling. refl))
    (begins-either (begins-string (λ spelling. refl)) (begins-either (begins-block (λ spelling. refl)) (begins-variable vars (λ allowed. refl))))
    exact-number
    (exact-choose {first = any_string} (begins-string (λ spelling. refl))
    (begins-either (begins-block (λ spelling. refl)) (begins-variable vars (λ allowed. refl)))
    exact-string
    (exact-choose {first = any_block} (begins-block (λ spelling. refl)) (begins-variable vars (λ allowed. refl)) exact-block (exact-variable vars))))

has-simple : (vars : Bool) → HasPhrase (λ c. a_simple_value Current vars)
has-simple vars = has-first {p = λ c. a_word} has-word

ignores-simple : (vars : Bool) → IgnoresPlaces (λ c. a_simple_value Current vars) bare_node
ignores-simple vars =
    ignores-either ignores-word
    (ignores-either (ignores-mapped (λ t. refl) (ignores-one any_number (λ spelling. refl)))
    (ignores-either (ignores-mapped (λ x. refl) (ignores-meaning any_string (λ spelling. refl) (StringStands Current)))
    (ignores-either (ignores-block any_block BlockStands (λ spelling. refl) block-stands (λ x. refl) (λ t u bytes. refl))
    (ignores-mapped (λ x. refl) (ignores-then (ignores-one (dollar vars) (λ spelling. refl)) (ignores-one any_name (λ spelling. refl)))))))

-- ---- lists and objects

begins-list : {v : Limits → Rel Value} → BeginsWith (λ c. a_list (v c)) (punct "[")
begins-list = begins-mapped (begins-then begins-one)

exact-list : (vars : Bool) {v : Limits → Rel Value} {b : Limits} {f : Test} {r : Reader Value} → BeginsWith v (value_first vars) → ReadsExactly v b anything r → ReadsExactly (λ c. a_list (v c)) b f (list_at vars r)
exact-list vars {v = v} leads h =
    exact-mapped (exact-next (has-pair (has-star {p = v}) has-close_list) (exact-punct "[")
    (exact-then-some begins-one has-close_list (exact-many leads (punct-within "]" refl) h)
    (exact-punct "]")))

nodes-same : (l : List Value) → map (λ v. v.node) (map bare_node l) ≡ map (λ v. v.node) l
nodes-same [] = refl
nodes-same (v ∷ l) = ap (λ (more : List Tree). v.node ∷ more) (nodes-same l)

ignores-list : {v : Limits → Rel Value} → IgnoresPlaces v bare_node → IgnoresPlaces (λ c. a_list (v c)) bare_node
ignores-list h =
    ignores-mapped (λ x. ap (λ (l : List Tree). at {A = Tree} (without_place x.0) (list (trees_of l))) (sym (nodes-same x.1.0)))
    (ignores-then (ignores-one (punct "[") (λ spelling. refl)) (ignores-then (ignores-star h) (ignores-one (punct "]") (λ spelling. refl))))

pub begins-field : {v : Limits → Rel Value} → BeginsWith (λ c. a_field (v c)) any_name
begins-field = begins-mapped (begins-then begins-one)

pub exact-field : {v : Limits → Rel Value} {b : Limits} {f : Test} {r : Reader Value} → HasPhrase v → ReadsExactly v b f r → ReadsExactly (λ c. a_field (v c)) b f (field_at r)
exact-field has h = exact-mapped (exact-next (has-pair has-colon has) exact-name (exact-next has (exact-punct ":") h))

-- a name and a tree of a value hold no places
abbrev pub as-is : {A : Type 0} → A → A
as-is a = a

map-as-is : {A : Type 0} (l : List A) → map as-is l ≡ l
map-as-is [] = refl
map-as-is (a ∷ l) = ap (λ (more : List _). a ∷ more) (map-as-is l)

pub ignores-field : {v : Limits → Rel Value} → IgnoresPlaces v bare_node → IgnoresPlaces (λ c. a_field (v c)) as-is
ignores-field h = ignores-mapped (λ x. refl) (ignores-then (ignores-one any_name (λ spelling. refl)) (ignores-then (ignores-one (punct ":") (λ spelling. refl)) h))

begins-object : {v : Limits → Rel Value} → BeginsWith (λ c. an_object (v c)) (punct "{")
begins-object = begins-mapped (begins-then begins-one)

exact-object : {v : Limits → Rel Value} {b : Limits} {f : Test} {r : Reader Value} → HasPhrase v → ReadsExactly v b anything r → ReadsExactly (λ c. an_object (v c)) b f (object_at r)
exact-object {v} has h =
    exact-mapped (exact-next (has-pair (has-star {p = λ c. a_field (v c)}) has-close_object) (exact-punct "{")
    (exact-then-some begins-one has-close_object (exact-many (begins-field {v = v}) (punct-within "}" refl) (exact-field has h))
    (exact-punct "}")))

ignores-object : {v : Limits → Rel Value} → IgnoresPlaces v bare_node → IgnoresPlaces (λ c. an_object (v c)) bare_node
ignores-object h =
    ignores-mapped (λ x. ap (λ (l : List (List ℕ × Tree)). at {A = Tree} (without_place x.0) (object (fields_of (merged l)))) (sym (map-as-is x.1.0)))
    (ignores-then (ignores-one (punct "{") (λ spelling. refl)) (ignores-then (ignores-star (ignores-field h)) (ignores-one (punct "}") (λ spelling. refl))))

-- ---- values

abbrev values : Bool → Limits → Rel Value
values vars c = value Current vars c.values

abbrev lists : Bool → Limits → Rel Value
lists vars c = a_list (value Current vars c.values)

abbrev objects : Bool → Limits → Rel Value
objects vars c = an_object (value Current vars c.values)

-- any value, by what lists and objects are
abbrev by-first : Bool → (Limits → Rel Value) → (Limits → Rel Value) → Limits → Rel Value
by-first vars l o c = a_simple_value Current vars ∪ l c ∪ o c

is-value : (vars : Bool) (c : Limits) (x : List Token) (t : Value) → by-first vars (nested of_values (lists vars)) (nested of_values (objects vars)) c x t ↔ values vars c x t
is-value vars c x t = go c.values
  where
    go : (n : ℕ) → (a_simple_value Current vars ∪ below of_values (lists vars) c n ∪ below of_values (objects vars) c n) x t ↔ value Current vars n x t
    go zero = (λ h. elim h [ inl k ↦ k | inr k ↦ elim k [ inl m ↦ absurd m | inr m ↦ absurd m ] ], λ h. inl h)
    go (suc n) = (λ h. h, λ h. h)

-- a value begins as what is simple does, or with one of the two brackets
within-simple : (vars : Bool) → IsSubset (simple_first vars) (value_first vars)
within-simple vars = record { by = λ t e. first-of-three (simple_first vars t) (punct "[" t) (punct "{" t) e }
  where
    first-of-three : (u v w : Bool) → IsTrue u → IsTrue (u || v || w)
    first-of-three true v w e = refl
    first-of-three false v w e = absurd cc

list-begins : (vars : Bool) → IsTrue (value_first vars (punctuator "["))
list-begins vars = refl

object-begins : (vars : Bool) → IsTrue (value_first vars (punctuator "{"))
object-begins vars = refl

begins-by-first : (vars : Bool) {l o : Limits → Rel Value} → BeginsWith l (punct "[") → BeginsWith o (punct "{") → BeginsWith (by-first vars l o) (value_first vars)
begins-by-first vars leads-list leads-object =
    begins-either (begins-within (within-simple vars) (begins-simple vars))
    (begins-either (begins-within (punct-within "[" (list-begins vars)) leads-list) (begins-within (punct-within "{" (object-begins vars)) leads-object))

exact-by-first : (vars : Bool) {l o : Limits → Rel Value} {b : Limits} {f : Test} {r s : Reader Value} → BeginsWith l (punct "[") → BeginsWith o (punct "{") → ReadsExactly l b f r → ReadsExactly o b f s → ReadsExactly (by-first vars l o) b f (by_first vars r s)
exact-by-first vars leads-list leads-object l o =
    exact-choose (begins-simple vars)
    (begins-either (begins-within (punct-within "[" refl) leads-list) (begins-within (punct-within "{" refl) leads-object))
    (exact-simple vars)
    (exact-choose leads-list (begins-within (punct-within "{" refl) leads-object) l o)

begins-lists : (vars : Bool) → BeginsWith (nested of_values (lists vars)) (punct "[")
begins-lists vars = begins-nested of_values (begins-list {v = values vars})

begins-objects : (vars : Bool) → BeginsWith (nested of_values (objects vars)) (punct "{")
begins-objects vars = begins-nested of_values (begins-object {v = values vars})

pub begins-value : (vars : Bool) → BeginsWith (λ c. value Current vars c.values) (value_first vars)
begins-value vars = begins-same (is-value vars) (begins-by-first vars (begins-lists vars) (begins-objects vars))

pub has-value : (vars : Bool) → HasPhrase (λ c. value Current vars c.values)
has-value vars = record { some = λ c. some c c.values }
  where
    some : (c : Limits) (n : ℕ) → Extends (value Current vars n) []
    some c zero = (has-simple vars).some c
    some c (suc n) = (has-first {p = λ c. a_simple_value Current vars} {q = λ c. a_list (value Current vars n) ∪ an_object (value Current vars n)} (has-simple vars)).some c

exact-either : (vars : Bool) {b : Limits} {f : Test} {r s : Reader Value} → ReadsExactly (nested of_values (lists vars)) b f r → ReadsExactly (nested of_values (objects vars)) b f s → ReadsExactly (values vars) b f (by_first vars r s)
exact-either vars l o = exact-same (is-value vars) (exact-by-first vars (begins-lists vars) (begins-objects vars) l o)

exact-within : (vars : Bool) (n : ℕ) (b : Limits) {f : Test} → b.values ≡ n → ReadsExactly (values vars) b f (value_at vars n)
unfolding value_at
exact-within vars zero b e =
    exact-either vars
    (exact-deep of_values e (extends-one (punct "[") (has-pair (has-star {p = values vars}) has-close_list)) (begins-list {v = values vars}))
    (exact-deep of_values e (extends-one (punct "{") (has-pair (has-star {p = λ c. a_field (value Current vars c.values)}) has-close_object)) (begins-object {v = values vars}))
exact-within vars (suc n) b {f} e =
    let inner : Limits = record b { values = n } in
    subst (λ (k : ℕ). ReadsExactly (values vars) (record b { values = k }) f (value_at vars (suc n))) (sym e)
    (exact-either vars {b = record b { values = suc n }}
    (exact-nested of_values {b = inner} (exact-list vars (begins-value vars) (exact-within vars n inner refl)))
    (exact-nested of_values {b = inner} (exact-object (has-value vars) (exact-within vars n inner refl))))

-- Nothing is looked ahead at: a value is one token, ends with a closing bracket, or is a variable.
pub exact-value : (vars : Bool) {b : Limits} {f : Test} → ReadsExactly (λ c. value Current vars c.values) b f (value_at vars b.values)
exact-value vars {b} = exact-within vars b.values b refl

-- ---- places

ignores-within : (vars : Bool) (n : ℕ) → IgnoresPlaces (λ c. value Current vars n) bare_node
ignores-within vars zero = ignores-simple vars
ignores-within vars (suc n) = ignores-either (ignores-simple vars) (ignores-either (ignores-list (ignores-within vars n)) (ignores-object (ignores-within vars n)))

pub ignores-value : (vars : Bool) → IgnoresPlaces (λ c. value Current vars c.values) bare_node
ignores-value vars = record { by = λ c. (ignores-within vars c.values).by c; fixed = λ c. (ignores-within vars c.values).fixed c }

-- ---- a token at least

abbrev budget : ℕ → Limits
budget values = record { selections = 0; values = values; types = 0 }

pub takes-value : (vars : Bool) (values : ℕ) → Takes (value_at vars values)
takes-value vars values = takes-one {b = budget values} {f = anything} (exact-value vars) (begins-value vars)

pub takes-field : (vars : Bool) (values : ℕ) → Takes (field_at (value_at vars values))
takes-field vars values = takes-one {b = budget values} {f = anything} (exact-field (has-value vars) (exact-value vars)) (begins-field {v = λ c. value Current vars c.values})
