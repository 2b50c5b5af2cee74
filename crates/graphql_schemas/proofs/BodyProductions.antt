-- What definitions and extensions of types say is read exactly, by the keyword in sight; and its places don't matter.
use Rattle.std.proofs.Common.{Bool, false, true, IsTrue, List, refl}
use Rattle.graphql_tokens.specs.tokens.Edition.{Current}
use Rattle.graphql_trees.specs.trees.Schema.{Fields, TypeKind, object, interface, union, enumeration, input_object}
use Rattle.graphql_reading.specs.grammar.Fronts.{without_place}
use Rattle.graphql_reading.specs.grammar.Limits.{Limits}
use Rattle.graphql_reading.specs.grammar.Relations.{Rel, ◌∪◌, mapped, plus}
use Rattle.graphql_reading.specs.grammar.Tests.{Test, punct, keyword, any_name}
use Rattle.graphql_reading.specs.reading.Outcome.{Reader}
use Rattle.graphql_reading.proofs.Theory.{IsSubset, outside}
use Rattle.graphql_reading.proofs.TokenTests.{word_of, punct-within, keyword-within, within-either, name-sample}
use Rattle.graphql_reading.proofs.ReadsExactly.{ReadsExactly, HasPhrase, BeginsWith, exact-keyword, exact-name, exact-mapped, exact-next, exact-choose, begins-one, begins-within, begins-mapped, begins-then, begins-either, has-token, has-pair, has-map, has-plus}
use Rattle.graphql_reading.proofs.IgnoresPlaces.{IgnoresPlaces, ignores-one, ignores-then, ignores-mapped, ignores-either, ignores-plus}
use Rattle.graphql_grammar.specs.grammar.Arguments.{a_directive, directives}
use Rattle.graphql_grammar.specs.grammar.Placeless.{bare_node, placeless_directives}
use Rattle.graphql_grammar.proofs.ArgumentProductions.{has-directive, exact-directives, has-directives, ignores-directive, ignores-directives}
use Rattle.graphql_schemas.specs.grammar.InputValues.{input_fields}
use Rattle.graphql_schemas.specs.grammar.Members.{members, enum_values}
use Rattle.graphql_schemas.specs.grammar.Placeless.{placeless_kind}
use Rattle.graphql_schemas.specs.grammar.Types.{parts, some_parts, field_parts, some_field_parts, Rest, Body, body_of, a_body, scalar_rest, fields_rest, list_rest, body, extended_body}
use Rattle.graphql_schemas.specs.reading.InputValues.{input_fields_at}
use Rattle.graphql_schemas.specs.reading.Members.{members_at, enum_values_at}
use Rattle.graphql_schemas.specs.reading.Types.{part_first, field_part_first, scalar_rest_at, list_rest_at, fields_rest_at, union_rest_at, enum_rest_at, input_rest_at, a_body_at, body_at, body_first}
use Rattle.graphql_schemas.proofs.FieldPartProductions.{exact-field_parts, has-field_parts, ignores-field_parts, no-field_parts, exact-some_field_parts, has-some_field_parts, ignores-some_field_parts}
use Rattle.graphql_schemas.proofs.InputValueProductions.{exact-input_fields, begins-input_values, ignores-input_values}
use Rattle.graphql_schemas.proofs.MemberProductions.{exact-members, begins-members, ignores-members, exact-enum_values, begins-enum_values, ignores-enum_values}
use Rattle.graphql_schemas.proofs.PartProductions.{past-directives, exact-free, no-directives, exact-some-directives, exact-parts, has-parts, ignores-parts, no-parts, exact-some_parts, has-some_parts, ignores-some_parts, no-punctuator, past-punctuator, past-parts}
use Prim.Native.String.{String}

-- ---- a keyword, a name and the rest

pub exact-a_body : (word : String) {rest : Limits → Rel Rest} {b : Limits} {f : Test} {r : Reader Rest} → HasPhrase rest → ReadsExactly rest b f r → ReadsExactly (λ c. a_body word (rest c)) b f (a_body_at word r)
exact-a_body word has h = exact-mapped (exact-next (has-pair (has-token name-sample) has) (exact-keyword word) (exact-next has exact-name h))

pub begins-a_body : (word : String) {rest : Limits → Rel Rest} → BeginsWith (λ c. a_body word (rest c)) (keyword word)
begins-a_body word = begins-mapped (begins-then begins-one)

abbrev pub placeless-rest : Rest → Rest
placeless-rest x = (placeless_directives x.0, placeless_kind x.1)

abbrev pub placeless-body : Body → Body
placeless-body x = (without_place x.0, (bare_node x.1.0, placeless-rest x.1.1))

pub ignores-a_body : (word : String) {rest : Limits → Rel Rest} → IgnoresPlaces rest placeless-rest → IgnoresPlaces (λ c. a_body word (rest c)) placeless-body
ignores-a_body word h = ignores-mapped {k = body_of} (λ x. refl) (ignores-then (ignores-one (keyword word) (λ spelling. refl)) (ignores-then (ignores-one any_name (λ spelling. refl)) h))

-- a rest that has a phrase and is read exactly
record IsReadRest (rest : Limits → Rel Rest) (b : Limits) (f : Test) (r : Reader Rest) : Type 0 where
  has : HasPhrase rest
  exact : ReadsExactly rest b f r

begins-word : (word : String) {rest : Limits → Rel Rest} {g : Test} → IsTrue (g (word_of word)) → BeginsWith (λ c. a_body word (rest c)) g
begins-word word {rest} h = begins-within (keyword-within word h) (begins-a_body word {rest = rest})

-- ---- the six kinds, whatever their rests say

abbrev last-two : (Limits → Rel Rest) → (Limits → Rel Rest) → Limits → Rel Body
last-two e n c = a_body "enum" (e c) ∪ a_body "input" (n c)

abbrev last-three : (Limits → Rel Rest) → (Limits → Rel Rest) → (Limits → Rel Rest) → Limits → Rel Body
last-three u e n c = a_body "union" (u c) ∪ last-two e n c

abbrev last-four : (Limits → Rel Rest) → (Limits → Rel Rest) → (Limits → Rel Rest) → (Limits → Rel Rest) → Limits → Rel Body
last-four i u e n c = a_body "interface" (i c) ∪ last-three u e n c

abbrev last-five : (Limits → Rel Rest) → (Limits → Rel Rest) → (Limits → Rel Rest) → (Limits → Rel Rest) → (Limits → Rel Rest) → Limits → Rel Body
last-five o i u e n c = a_body "type" (o c) ∪ last-four i u e n c

abbrev bodies : (Limits → Rel Rest) → (Limits → Rel Rest) → (Limits → Rel Rest) → (Limits → Rel Rest) → (Limits → Rel Rest) → (Limits → Rel Rest) → Limits → Rel Body
bodies s o i u e n c = a_body "scalar" (s c) ∪ last-five o i u e n c

begins-two : {e n : Limits → Rel Rest} {g : Test} → IsTrue (g (word_of "enum")) → IsTrue (g (word_of "input")) → BeginsWith (last-two e n) g
begins-two {e} {n} an-enum an-input = begins-either (begins-word "enum" {rest = e} an-enum) (begins-word "input" {rest = n} an-input)

begins-three : {u e n : Limits → Rel Rest} {g : Test} → IsTrue (g (word_of "union")) → IsTrue (g (word_of "enum")) → IsTrue (g (word_of "input")) → BeginsWith (last-three u e n) g
begins-three {u} {e} {n} a-union an-enum an-input = begins-either (begins-word "union" {rest = u} a-union) (begins-two {e = e} {n = n} an-enum an-input)

begins-four : {i u e n : Limits → Rel Rest} {g : Test} → IsTrue (g (word_of "interface")) → IsTrue (g (word_of "union")) → IsTrue (g (word_of "enum")) → IsTrue (g (word_of "input")) → BeginsWith (last-four i u e n) g
begins-four {i} {u} {e} {n} an-interface a-union an-enum an-input = begins-either (begins-word "interface" {rest = i} an-interface) (begins-three {u = u} {e = e} {n = n} a-union an-enum an-input)

begins-five : {o i u e n : Limits → Rel Rest} {g : Test} → IsTrue (g (word_of "type")) → IsTrue (g (word_of "interface")) → IsTrue (g (word_of "union")) → IsTrue (g (word_of "enum")) → IsTrue (g (word_of "input")) → BeginsWith (last-five o i u e n) g
begins-five {o} {i} {u} {e} {n} a-type an-interface a-union an-enum an-input = begins-either (begins-word "type" {rest = o} a-type) (begins-four {i = i} {u = u} {e = e} {n = n} an-interface a-union an-enum an-input)

begins-bodies : {s o i u e n : Limits → Rel Rest} → BeginsWith (bodies s o i u e n) body_first
begins-bodies {s} {o} {i} {u} {e} {n} = begins-either (begins-word "scalar" {rest = s} refl) (begins-five {o = o} {i = i} {u = u} {e = e} {n = n} refl refl refl refl refl)

-- by the keyword in sight
exact-bodies : {s o i u e n : Limits → Rel Rest} {b : Limits} {f : Test} (extend : Bool) → IsReadRest s b f (scalar_rest_at extend b) → IsReadRest o b f (fields_rest_at object extend b) → IsReadRest i b f (fields_rest_at interface extend b) → IsReadRest u b f (union_rest_at extend b) → IsReadRest e b f (enum_rest_at extend b) → IsReadRest n b f (input_rest_at extend b) → ReadsExactly (bodies s o i u e n) b f (body_at extend b)
exact-bodies {s} {o} {i} {u} {e} {n} extend scalar an-object an-interface a-union an-enum an-input =
    exact-choose (begins-a_body "scalar" {rest = s}) (begins-five {o = o} {i = i} {u = u} {e = e} {n = n} refl refl refl refl refl) (exact-a_body "scalar" scalar.has scalar.exact)
    (exact-choose (begins-a_body "type" {rest = o}) (begins-four {i = i} {u = u} {e = e} {n = n} refl refl refl refl) (exact-a_body "type" an-object.has an-object.exact)
    (exact-choose (begins-a_body "interface" {rest = i}) (begins-three {u = u} {e = e} {n = n} refl refl refl) (exact-a_body "interface" an-interface.has an-interface.exact)
    (exact-choose (begins-a_body "union" {rest = u}) (begins-two {e = e} {n = n} refl refl) (exact-a_body "union" a-union.has a-union.exact)
    (exact-choose (begins-a_body "enum" {rest = e}) (begins-word "input" {rest = n} refl) (exact-a_body "enum" an-enum.has an-enum.exact)
    (exact-a_body "input" an-input.has an-input.exact)))))

ignores-bodies : {s o i u e n : Limits → Rel Rest} → IgnoresPlaces s placeless-rest → IgnoresPlaces o placeless-rest → IgnoresPlaces i placeless-rest → IgnoresPlaces u placeless-rest → IgnoresPlaces e placeless-rest → IgnoresPlaces n placeless-rest → IgnoresPlaces (bodies s o i u e n) placeless-body
ignores-bodies scalar an-object an-interface a-union an-enum an-input =
    ignores-either (ignores-a_body "scalar" scalar)
    (ignores-either (ignores-a_body "type" an-object)
    (ignores-either (ignores-a_body "interface" an-interface)
    (ignores-either (ignores-a_body "union" a-union)
    (ignores-either (ignores-a_body "enum" an-enum)
    (ignores-a_body "input" an-input)))))

-- ---- lists

-- a list that may follow directives is read exactly
record IsReadList {A : Type 0} (p : Limits → Rel (List A)) (b : Limits) (f first : Test) (r : Reader (List A)) : Type 0 where
  begins : BeginsWith p first
  apart : IsSubset first past-directives
  away : IsSubset f past-directives
  none : IsSubset f (outside first)
  exact : ReadsExactly p b f r

read-members : {b : Limits} {f : Test} → IsSubset f no-punctuator → IsReadList (λ c. members) b f (punct "=") members_at
read-members ends = record { begins = begins-members; apart = punct-within "=" refl; away = past-parts ends; none = past-punctuator "=" ends; exact = exact-members (past-punctuator "|" ends) }

read-enum_values : {b : Limits} {f : Test} → IsSubset f no-punctuator → IsReadList (enum_values Current) b f (punct "{") (enum_values_at b)
read-enum_values ends = record { begins = begins-enum_values; apart = punct-within "{" refl; away = past-parts ends; none = past-punctuator "{" ends; exact = exact-enum_values }

read-input_fields : {b : Limits} {f : Test} → IsSubset f no-punctuator → IsReadList (input_fields Current) b f (punct "{") (input_fields_at b)
read-input_fields ends = record { begins = begins-input_values "{" "}"; apart = punct-within "{" refl; away = past-parts ends; none = past-punctuator "{" ends; exact = exact-input_fields }

-- ---- definitions

free-fields : {b : Limits} {f : Test} (kind : Fields → TypeKind) → IsSubset f no-punctuator → IsSubset f (outside (keyword "implements")) → IsReadRest (λ c. mapped (fields_rest kind) (field_parts Current c)) b f (fields_rest_at kind false b)
free-fields {b} kind ends apart = record { has = has-map has-field_parts; exact = exact-mapped (exact-free field_part_first (no-field_parts b) (exact-field_parts ends apart)) }

free-list : {A : Type 0} {p : Limits → Rel (List A)} {b : Limits} {f first : Test} {r : Reader (List A)} (kind : List A → TypeKind) → IsReadList p b f first r → IsReadRest (λ c. mapped (list_rest kind) (parts Current c (p c))) b f (list_rest_at kind false b first r)
free-list {p = p} {b = b} {first = first} {r = r} kind h = record { has = has-map (has-parts {p = p}); exact = exact-mapped (exact-free (part_first first) (no-parts b first r) (exact-parts h.begins h.apart h.away h.none h.exact)) }

pub exact-body : {b : Limits} {f : Test} → IsSubset f no-punctuator → IsSubset f (outside (keyword "implements")) → ReadsExactly (body Current) b f (body_at false b)
exact-body {b} {f} ends apart =
    exact-bodies false scalar (free-fields object ends apart) (free-fields interface ends apart)
    (free-list union (read-members ends)) (free-list enumeration (read-enum_values ends)) (free-list input_object (read-input_fields ends))
  where
    scalar : IsReadRest (λ c. mapped scalar_rest (directives Current false c.values)) b f (scalar_rest_at false b)
    scalar = record { has = has-map (has-directives false); exact = exact-mapped (exact-free (punct "@") (no-directives b) (exact-directives false (past-punctuator "(" ends) (past-punctuator "@" ends))) }

pub begins-body : BeginsWith (body Current) body_first
begins-body = begins-bodies

pub ignores-body : IgnoresPlaces (body Current) placeless-body
ignores-body =
    ignores-bodies (ignores-mapped (λ x. refl) (ignores-directives false))
    (ignores-mapped {k = fields_rest object} (λ x. refl) ignores-field_parts)
    (ignores-mapped {k = fields_rest interface} (λ x. refl) ignores-field_parts)
    (ignores-mapped {k = list_rest union} (λ x. refl) (ignores-parts ignores-members))
    (ignores-mapped {k = list_rest enumeration} (λ x. refl) (ignores-parts ignores-enum_values))
    (ignores-mapped {k = list_rest input_object} (λ x. refl) (ignores-parts (ignores-input_values "{" "}")))

-- ---- extensions

owed-fields : {b : Limits} {f : Test} (kind : Fields → TypeKind) → IsSubset f no-punctuator → IsSubset f (outside (keyword "implements")) → IsReadRest (λ c. mapped (fields_rest kind) (some_field_parts Current c)) b f (fields_rest_at kind true b)
owed-fields kind ends apart = record { has = has-map has-some_field_parts; exact = exact-mapped (exact-some_field_parts ends apart) }

owed-list : {A : Type 0} {p : Limits → Rel (List A)} {b : Limits} {f first : Test} {r : Reader (List A)} (kind : List A → TypeKind) → IsReadList p b f first r → IsReadRest (λ c. mapped (list_rest kind) (some_parts Current c (p c))) b f (list_rest_at kind true b first r)
owed-list {p = p} kind h = record { has = has-map (has-some_parts {p = p}); exact = exact-mapped (exact-some_parts h.begins h.apart h.away h.none h.exact) }

pub exact-extended_body : {b : Limits} {f : Test} → IsSubset f no-punctuator → IsSubset f (outside (keyword "implements")) → ReadsExactly (extended_body Current) b f (body_at true b)
exact-extended_body {b} {f} ends apart =
    exact-bodies true scalar (owed-fields object ends apart) (owed-fields interface ends apart)
    (owed-list union (read-members ends)) (owed-list enumeration (read-enum_values ends)) (owed-list input_object (read-input_fields ends))
  where
    scalar : IsReadRest (λ c. mapped scalar_rest (plus (a_directive Current false c.values))) b f (scalar_rest_at true b)
    scalar = record { has = has-map (has-plus (has-directive false)); exact = exact-mapped (exact-some-directives (past-parts ends)) }

pub begins-extended_body : BeginsWith (extended_body Current) body_first
begins-extended_body = begins-bodies

pub ignores-extended_body : IgnoresPlaces (extended_body Current) placeless-body
ignores-extended_body =
    ignores-bodies (ignores-mapped (λ x. refl) (ignores-plus (ignores-directive false)))
    (ignores-mapped {k = fields_rest object} (λ x. refl) ignores-some_field_parts)
    (ignores-mapped {k = fields_rest interface} (λ x. refl) ignores-some_field_parts)
    (ignores-mapped {k = list_rest union} (λ x. refl) (ignores-some_parts ignores-members))
    (ignores-mapped {k = list_rest enumeration} (λ x. refl) (ignores-some_parts ignores-enum_values))
    (ignores-mapped {k = list_rest input_object} (λ x. refl) (ignores-some_parts (ignores-input_values "{" "}")))

-- ---- what a body begins with

pub bodies-within : {g : Test} → IsTrue (g (word_of "scalar")) → IsTrue (g (word_of "type")) → IsTrue (g (word_of "interface")) → IsTrue (g (word_of "union")) → IsTrue (g (word_of "enum")) → IsTrue (g (word_of "input")) → IsSubset body_first g
bodies-within a-scalar a-type an-interface a-union an-enum an-input =
    within-either (within-either (within-either (within-either (within-either (keyword-within "scalar" a-scalar) (keyword-within "type" a-type)) (keyword-within "interface" an-interface)) (keyword-within "union" a-union)) (keyword-within "enum" an-enum)) (keyword-within "input" an-input)
