-- Interfaces of types, types of unions and values of enums are read exactly, at every budget; and their places don't
-- matter.
use Rattle.std.proofs.Common.{ℕ, false, not, ◌||◌, IsTrue, List, [], ◌∷◌, codes, map, refl}
use Rattle.graphql_tokens.specs.tokens.Edition.{Current}
use Rattle.graphql_grammar.specs.grammar.Arguments.{directives}
use Rattle.graphql_grammar.specs.grammar.Placeless.{unplaced, bare_node}
use Rattle.graphql_reading.specs.grammar.Limits.{Limits}
use Rattle.graphql_reading.specs.grammar.Relations.{one, ◌⨾◌}
use Rattle.graphql_reading.specs.grammar.Tests.{Test, is_among, punct, keyword, any_name}
use Rattle.graphql_reading.proofs.Theory.{IsSubset, outside}
use Rattle.graphql_reading.proofs.TokenTests.{any_name-within, punct-inner, keyword-inner, keyword-sample, punctuator, named, word_of, sample, punct-within, name_but-within, within-either, HasSample, name-spells, name-sample}
use Rattle.graphql_reading.proofs.PunctSamples.{has-close_object}
use Rattle.graphql_reading.proofs.ReadsExactly.{ReadsExactly, HasPhrase, BeginsWith, exact-name, exact-name_but, exact-mapped, exact-next, exact-then-some, begins-one, begins-within, begins-mapped, begins-then, has-token, has-pair, has-map, has-plus}
use Rattle.graphql_reading.proofs.Marks.{exact-after, begins-after, has-after, ignores-after, exact-separated, has-separated, ignores-separated, exact-between, begins-between, ignores-between}
use Rattle.graphql_reading.proofs.Extra.{exact-plus-ahead, begins-opt}
use Rattle.graphql_reading.proofs.IgnoresPlaces.{IgnoresPlaces, ignores-one, ignores-then, ignores-mapped, ignores-plus}
use Rattle.graphql_reading.proofs.Loop.{Takes, takes-one}
use Rattle.graphql_grammar.proofs.ArgumentProductions.{exact-directives, has-directives, ignores-directives}
use Rattle.graphql_grammar.proofs.ValueTests.{quoted, block}
use Rattle.graphql_schemas.specs.grammar.Members.{a_name, implements, members, enum_name, enum_value_of, an_enum_value, enum_values}
use Rattle.graphql_schemas.specs.grammar.Placeless.{placeless_names, placeless_enum_value}
use Rattle.graphql_schemas.specs.reading.Members.{name_at, implements_at, members_at, enum_value_first, enum_value_at, enum_values_at}
use Rattle.graphql_schemas.proofs.DescriptionProductions.{text-within, begins-description, exact-maybe_description, has-maybe_description, ignores-maybe_description, described-nowhere}
use Prim.Native.String.{String}

-- ---- names

pub exact-placed_name : {b : Limits} {f : Test} → ReadsExactly (λ c. a_name) b f name_at
exact-placed_name = exact-mapped exact-name

pub begins-placed_name : BeginsWith (λ c. a_name) any_name
begins-placed_name = begins-mapped begins-one

pub has-placed_name : HasPhrase (λ c. a_name)
has-placed_name = has-map (has-token name-sample)

pub ignores-placed_name : IgnoresPlaces (λ c. a_name) bare_node
ignores-placed_name = ignores-mapped (λ t. refl) (ignores-one any_name (λ spelling. refl))

-- ---- interfaces and types of unions

-- no name is a mark
name-no-mark : (mark : String) → IsSubset any_name (outside (punct mark))
name-no-mark mark = any_name-within (λ spelling. refl)

implements-sample : HasSample (keyword "implements")
implements-sample = keyword-sample "implements" refl (refl, (refl, (refl, (refl, (refl, (refl, (refl, (refl, (refl, (refl, tt))))))))))

-- a `&` goes on with another name
pub exact-implements : {b : Limits} {f : Test} → IsSubset f (outside (punct "&")) → ReadsExactly (λ c. implements) b f implements_at
exact-implements away = exact-after (keyword-inner "implements") (has-separated (punct "&") has-placed_name) (exact-separated "&" begins-placed_name (name-no-mark "&") away has-placed_name exact-placed_name)

pub begins-implements : BeginsWith (λ c. implements) (keyword "implements")
begins-implements = begins-after

pub has-implements : HasPhrase (λ c. implements)
has-implements = has-after (keyword "implements") (has-token implements-sample) (has-separated (punct "&") has-placed_name)

pub ignores-implements : IgnoresPlaces (λ c. implements) placeless_names
ignores-implements = ignores-after (keyword "implements") (λ spelling. refl) (ignores-separated (punct "&") (λ spelling. refl) ignores-placed_name)

-- a `|` goes on with another name
pub exact-members : {b : Limits} {f : Test} → IsSubset f (outside (punct "|")) → ReadsExactly (λ c. members) b f members_at
exact-members away = exact-after (punct-inner "=") (has-separated (punct "|") has-placed_name) (exact-separated "|" begins-placed_name (name-no-mark "|") away has-placed_name exact-placed_name)

pub begins-members : BeginsWith (λ c. members) (punct "=")
begins-members = begins-after

pub ignores-members : IgnoresPlaces (λ c. members) placeless_names
ignores-members = ignores-after (punct "=") (λ spelling. refl) (ignores-separated (punct "|") (λ spelling. refl) ignores-placed_name)

-- ---- values of an enum

-- no value of an enum has one of these names
abbrev words : List String
words = "true" ∷ "false" ∷ "null" ∷ []

enum-name-sample : HasSample enum_name
enum-name-sample = record { token = sample (word_of "a"); passes = refl; proper = name-spells (codes "a") refl (refl, tt) }

enum-name-within : {g : Test} → ((spelling : List ℕ) → IsTrue (not (is_among spelling words)) → IsTrue (g (named spelling))) → IsSubset enum_name g
enum-name-within h = name_but-within words h

-- a description may stand before the name
enum-value-first-within : {g : Test} → ((spelling : List ℕ) → IsTrue (g (quoted spelling))) → ((spelling : List ℕ) → IsTrue (g (block spelling))) → ((spelling : List ℕ) → IsTrue (not (is_among spelling words)) → IsTrue (g (named spelling))) → IsSubset enum_value_first g
enum-value-first-within string here name = within-either (text-within string here) (enum-name-within name)

-- after a value: another one, or the bracket that closes the list
abbrev pub after_enum_value : Test
after_enum_value t = enum_value_first t || punct "}" t

enum-value-goes-on : IsSubset enum_value_first after_enum_value
enum-value-goes-on = enum-value-first-within (λ spelling. refl) (λ spelling. refl) (λ spelling h. rw h refl)

enum-values-outside : (word : String) → IsTrue (outside (punct word) (punctuator "}")) → IsSubset after_enum_value (outside (punct word))
enum-values-outside word brace = within-either (enum-value-first-within (λ spelling. refl) (λ spelling. refl) (λ spelling h. refl)) (punct-within "}" brace)

-- `@` and `(` belong to the directives
pub exact-enum_value : {b : Limits} {f : Test} → IsSubset f (outside (punct "(")) → IsSubset f (outside (punct "@")) → ReadsExactly (an_enum_value Current) b f (enum_value_at b)
exact-enum_value away last =
    exact-mapped (exact-then-some {g = enum_name} (begins-then begins-one) (has-pair (has-token enum-name-sample) (has-directives false)) (exact-maybe_description (enum-name-within (λ spelling h. refl)))
    (exact-next (has-directives false) (exact-name_but words)
    (exact-directives false away last)))

pub begins-enum_value : BeginsWith (an_enum_value Current) enum_value_first
begins-enum_value =
    begins-mapped (begins-opt {q = λ c. one enum_name ⨾ directives Current false c.values} (begins-within (text-within (λ spelling. refl) (λ spelling. refl)) begins-description)
    (begins-then (begins-within (enum-name-within (λ spelling h. h)) begins-one)))

pub has-enum_value : HasPhrase (an_enum_value Current)
has-enum_value = has-map (has-pair has-maybe_description (has-pair (has-token enum-name-sample) (has-directives false)))

pub ignores-enum_value : IgnoresPlaces (an_enum_value Current) (unplaced placeless_enum_value)
ignores-enum_value =
    ignores-mapped {k = enum_value_of} (λ x. described-nowhere placeless_enum_value x.0 x.1.0 (enum_value_of x).node)
    (ignores-then ignores-maybe_description (ignores-then (ignores-one enum_name (λ spelling. refl)) (ignores-directives false)))

-- another one or the bracket follows
exact-next-enum_value : {b : Limits} → ReadsExactly (an_enum_value Current) b after_enum_value (enum_value_at b)
exact-next-enum_value = exact-enum_value (enum-values-outside "(" refl) (enum-values-outside "@" refl)

pub takes-enum_value : (limits : Limits) → Takes (enum_value_at limits)
takes-enum_value limits = takes-one {b = limits} exact-next-enum_value begins-enum_value

pub exact-enum_values : {b : Limits} {f : Test} → ReadsExactly (enum_values Current) b f (enum_values_at b)
exact-enum_values = exact-between "{" "}" has-close_object (has-plus has-enum_value) (exact-plus-ahead {g = after_enum_value} begins-enum_value enum-value-goes-on (punct-within "}" refl) (punct-within "}" refl) exact-next-enum_value)

pub begins-enum_values : BeginsWith (enum_values Current) (punct "{")
begins-enum_values = begins-between (punct "}")

pub ignores-enum_values : IgnoresPlaces (enum_values Current) (map (unplaced placeless_enum_value))
ignores-enum_values = ignores-between (punct "{") (punct "}") (λ spelling. refl) (λ spelling. refl) (ignores-plus ignores-enum_value)
