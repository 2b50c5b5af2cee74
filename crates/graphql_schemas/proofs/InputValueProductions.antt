-- Input values are read exactly, at every budget; and their places don't matter.
use Rattle.std.proofs.Common.{ℕ, false, ◌||◌, IsTrue, Option, List, option_map, refl}
use Rattle.graphql_tokens.specs.tokens.Edition.{Current}
use Rattle.graphql_syntax.specs.trees.Parts.{Directives}
use Rattle.graphql_trees.specs.trees.Schema.{InputValues}
use Rattle.graphql_grammar.specs.grammar.Arguments.{directives, a_default}
use Rattle.graphql_grammar.specs.grammar.Placeless.{unplaced}
use Rattle.graphql_grammar.specs.grammar.Types.{type_reference}
use Rattle.graphql_grammar.specs.grammar.Values.{Value}
use Rattle.graphql_reading.specs.grammar.Limits.{Limits}
use Rattle.graphql_reading.specs.grammar.Relations.{Rel, ◌⨾◌, plus, opt, between}
use Rattle.graphql_reading.specs.grammar.Tests.{Test, punct, any_name}
use Rattle.graphql_reading.specs.reading.Outcome.{opt_at, plus_at}
use Rattle.graphql_reading.proofs.Theory.{IsSubset, outside}
use Rattle.graphql_reading.proofs.TokenTests.{punctuator, named, itself, punct-within, any_name-within, within-either, name-sample}
use Rattle.graphql_reading.proofs.PunctSamples.{has-close, has-close_object, has-colon}
use Rattle.graphql_reading.proofs.ReadsExactly.{ReadsExactly, HasPhrase, BeginsWith, exact-punct, exact-name, exact-mapped, exact-next, exact-then-some, begins-one, begins-within, begins-mapped, begins-then, has-token, has-pair, has-map, has-plus}
use Rattle.graphql_reading.proofs.Extra.{exact-seq, first-opt, first-then, exact-plus-ahead, exact-opt, has-opt, begins-opt}
use Rattle.graphql_reading.proofs.IgnoresPlaces.{IgnoresPlaces, ignores-one, ignores-then, ignores-mapped, ignores-plus, ignores-opt}
use Rattle.graphql_reading.proofs.Marks.{exact-between, begins-between, ignores-between}
use Rattle.graphql_reading.proofs.Loop.{Takes, takes-one}
use Rattle.graphql_grammar.proofs.TypeProductions.{exact-type, has-type, ignores-type}
use Rattle.graphql_grammar.proofs.ArgumentProductions.{exact-directives, first-directives, has-directives, ignores-directives, exact-default, begins-default, ignores-default}
use Rattle.graphql_grammar.proofs.ValueTests.{quoted, block}
use Rattle.graphql_schemas.specs.grammar.Descriptions.{a_description}
use Rattle.graphql_schemas.specs.grammar.InputValues.{input_value_of, an_input_value, arguments_definition, input_fields}
use Rattle.graphql_schemas.specs.grammar.Placeless.{placeless_input_value, placeless_input_values}
use Rattle.graphql_schemas.specs.reading.Descriptions.{is_text}
use Rattle.graphql_schemas.specs.reading.InputValues.{member_first, input_value_at, arguments_definition_at, input_fields_at}
use Rattle.graphql_schemas.proofs.DescriptionProductions.{text-within, name-no-text, begins-description, exact-maybe_description, has-maybe_description, ignores-maybe_description, described-nowhere}
use Prim.Native.String.{String}

-- ---- what members begin with

-- a description may stand before a name
text-in-members : IsSubset is_text member_first
text-in-members = text-within (λ spelling. refl) (λ spelling. refl)

name-in-members : IsSubset any_name member_first
name-in-members = any_name-within (λ spelling. refl)

-- a description, where there is one, and what begins with a name
pub begins-member : {B : Type 0} {q : Limits → Rel B} → BeginsWith q any_name → BeginsWith (λ c. opt (a_description Current) ⨾ q c) member_first
begins-member {q = q} led = begins-opt {q = q} (begins-within text-in-members begins-description) (begins-within name-in-members led)

-- after a member: another one, or the bracket that closes the list
abbrev pub after_member : Test
after_member t = member_first t || punct ")" t || punct "}" t

members-within : {g : Test} → ((spelling : List ℕ) → IsTrue (g (quoted spelling))) → ((spelling : List ℕ) → IsTrue (g (block spelling))) → ((spelling : List ℕ) → IsTrue (g (named spelling))) → IsTrue (g (punctuator ")")) → IsTrue (g (punctuator "}")) → IsSubset after_member g
members-within string here name paren brace = within-either (within-either (within-either (text-within string here) (any_name-within name)) (punct-within ")" paren)) (punct-within "}" brace)

pub member-goes-on : IsSubset member_first after_member
member-goes-on = within-either (text-within (λ spelling. refl) (λ spelling. refl)) (any_name-within (λ spelling. refl))

-- what follows a member is no other punctuator
pub members-outside : (word : String) → IsTrue (outside (punct word) (punctuator ")")) → IsTrue (outside (punct word) (punctuator "}")) → IsSubset after_member (outside (punct word))
members-outside word paren brace = members-within (λ spelling. refl) (λ spelling. refl) (λ spelling. refl) paren brace

-- ---- input values

abbrev default-and-directives : Limits → Rel (Option Value × Directives)
default-and-directives c = opt (a_default Current c.values) ⨾ directives Current false c.values

has-default-and-directives : HasPhrase default-and-directives
has-default-and-directives = has-pair (has-opt {p = λ c. a_default Current c.values}) (has-directives false)

-- `!` belongs to the type, `=` to the input value, `@` and `(` to its directives
pub exact-input_value : {b : Limits} {f : Test} → IsSubset f (outside (punct "!")) → IsSubset f (outside (punct "(")) → IsSubset f (outside (punct "@")) → IsSubset f (outside (punct "=")) → ReadsExactly (an_input_value Current) b f (input_value_at b)
exact-input_value marked away last none =
    exact-mapped (exact-then-some {g = any_name} (begins-then begins-one) (has-pair (has-token name-sample) (has-pair has-colon has-typed)) (exact-maybe_description name-no-text)
    (exact-next (has-pair has-colon has-typed) exact-name
    (exact-next has-typed (exact-punct ":")
    (exact-seq {g = outside (punct "!")} (first-then (first-opt begins-default (punct-within "=" refl) itself) (first-directives false refl marked)) has-default-and-directives (exact-type itself)
    (exact-seq {g = outside (punct "=")} (first-directives false refl none) (has-directives false) (exact-opt begins-default itself exact-default)
    (exact-directives false away last))))))
  where
    has-typed : HasPhrase (λ c. type_reference c.types ⨾ default-and-directives c)
    has-typed = has-pair has-type has-default-and-directives

pub begins-input_value : BeginsWith (an_input_value Current) member_first
begins-input_value = begins-mapped (begins-member (begins-then begins-one))

pub has-input_value : HasPhrase (an_input_value Current)
has-input_value = has-map (has-pair has-maybe_description (has-pair (has-token name-sample) (has-pair has-colon (has-pair has-type has-default-and-directives))))

pub ignores-input_value : IgnoresPlaces (an_input_value Current) (unplaced placeless_input_value)
ignores-input_value =
    ignores-mapped {k = input_value_of} (λ x. described-nowhere placeless_input_value x.0 x.1.0 (input_value_of x).node)
    (ignores-then ignores-maybe_description (ignores-then (ignores-one any_name (λ spelling. refl)) (ignores-then (ignores-one (punct ":") (λ spelling. refl)) (ignores-then ignores-type (ignores-then (ignores-opt ignores-default) (ignores-directives false))))))

-- another one or a bracket follows
exact-next-input_value : {b : Limits} → ReadsExactly (an_input_value Current) b after_member (input_value_at b)
exact-next-input_value = exact-input_value (members-outside "!" refl refl) (members-outside "(" refl refl) (members-outside "@" refl refl) (members-outside "=" refl refl)

pub takes-input_value : (limits : Limits) → Takes (input_value_at limits)
takes-input_value limits = takes-one {b = limits} exact-next-input_value begins-input_value

abbrev input-values : Limits → Rel InputValues
input-values c = plus (an_input_value Current c)

exact-input_values : {b : Limits} {f : Test} → IsSubset f after_member → IsSubset f (outside member_first) → ReadsExactly input-values b f (plus_at member_first (input_value_at b))
exact-input_values h away = exact-plus-ahead {g = after_member} begins-input_value member-goes-on h away exact-next-input_value

-- ---- in brackets

pub begins-input_values : (opening closing : String) → BeginsWith (λ c. between (punct opening) (input-values c) (punct closing)) (punct opening)
begins-input_values opening closing = begins-between (punct closing)

pub ignores-input_values : (opening closing : String) → IgnoresPlaces (λ c. between (punct opening) (input-values c) (punct closing)) placeless_input_values
ignores-input_values opening closing = ignores-between (punct opening) (punct closing) (λ spelling. refl) (λ spelling. refl) (ignores-plus ignores-input_value)

-- ---- definitions of arguments

pub exact-arguments_definition : {b : Limits} {f : Test} → ReadsExactly (arguments_definition Current) b f (arguments_definition_at b)
exact-arguments_definition = exact-between "(" ")" has-close (has-plus has-input_value) (exact-input_values (punct-within ")" refl) (punct-within ")" refl))

-- where there are any

pub exact-maybe_arguments_definition : {b : Limits} {f : Test} → IsSubset f (outside (punct "(")) → ReadsExactly (λ c. opt (arguments_definition Current c)) b f (opt_at (punct "(") (arguments_definition_at b))
exact-maybe_arguments_definition away = exact-opt (begins-input_values "(" ")") away exact-arguments_definition

pub has-maybe_arguments_definition : HasPhrase (λ c. opt (arguments_definition Current c))
has-maybe_arguments_definition = has-opt {p = arguments_definition Current}

pub ignores-maybe_arguments_definition : IgnoresPlaces (λ c. opt (arguments_definition Current c)) (option_map placeless_input_values)
ignores-maybe_arguments_definition = ignores-opt (ignores-input_values "(" ")")

-- ---- fields of input objects

pub exact-input_fields : {b : Limits} {f : Test} → ReadsExactly (input_fields Current) b f (input_fields_at b)
exact-input_fields = exact-between "{" "}" has-close_object (has-plus has-input_value) (exact-input_values (punct-within "}" refl) (punct-within "}" refl))
