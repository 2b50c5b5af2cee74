-- Types are read exactly, at every budget; and their places don't matter.
use Rattle.std.proofs.Common.{◌≡◌, ℕ, zero, suc, Option, Some, None, List, [], ◌↔◌, inl, inr, refl, sym, ap, subst, option_map}
use Rattle.graphql_tokens.specs.declared.pos.Positioned.{Positioned}
use Rattle.graphql_tokens.specs.tokens.Token.{Token}
use Rattle.graphql_syntax.specs.trees.TypeTree.{TypeTree, named, list}
use Rattle.graphql_reading.specs.grammar.Fronts.{without_place}
use Rattle.graphql_reading.specs.grammar.Limits.{Limits}
use Rattle.graphql_grammar.specs.grammar.Placeless.{bare_node}
use Rattle.graphql_reading.specs.grammar.Places.{at}
use Rattle.graphql_reading.specs.grammar.Relations.{Rel, one, ◌⨾◌, ◌∪◌, opt}
use Rattle.graphql_reading.specs.grammar.Tests.{Test, punct, any_name}
use Rattle.graphql_grammar.specs.grammar.Types.{nullable, a_named_type, a_list_type, type_reference}
use Rattle.graphql_reading.specs.reading.Outcome.{Reader, choose_at}
use Rattle.graphql_grammar.specs.reading.Types.{mark_at, named_type_at, list_type_at, type_at}
use Rattle.graphql_reading.proofs.Parts.{nested, below, of_types}
use Rattle.graphql_reading.proofs.Theory.{Extends, IsSubset, outside}
use Rattle.graphql_reading.proofs.TokenTests.{punct-within, name-sample}
use Rattle.graphql_reading.proofs.PunctSamples.{has-close_list}
use Rattle.graphql_reading.proofs.ReadsExactly.{ReadsExactly, HasPhrase, BeginsWith, exact-punct, exact-name, exact-mapped, exact-next, exact-then-some, exact-choose, exact-nested, exact-deep, exact-same, begins-one, begins-within, begins-mapped, begins-then, begins-nested, has-token, has-pair, has-map, has-first, extends-one}
use Rattle.graphql_reading.proofs.Extra.{exact-opt, has-opt}
use Rattle.graphql_reading.proofs.IgnoresPlaces.{IgnoresPlaces, ignores-one, ignores-then, ignores-mapped, ignores-either, ignores-opt}

-- ---- names and lists

-- no type follows a type, so `!` belongs to the one before it
exact-mark : {b : Limits} {f : Test} → IsSubset f (outside (punct "!")) → ReadsExactly (λ c. opt (one (punct "!"))) b f mark_at
exact-mark away = exact-opt begins-one away (exact-punct "!")

exact-named_type : {b : Limits} {f : Test} → IsSubset f (outside (punct "!")) → ReadsExactly (λ c. a_named_type) b f named_type_at
exact-named_type away = exact-mapped (exact-next has-opt exact-name (exact-mark away))

has-tokens-after : HasPhrase (λ c. one (punct "]") ⨾ opt (one (punct "!")))
has-tokens-after = has-pair has-close_list (has-opt {p = λ c. one (punct "!")})

exact-list_type : {item : Limits → Rel (Positioned TypeTree)} {b : Limits} {f : Test} {r : Reader (Positioned TypeTree)} → IsSubset f (outside (punct "!")) → HasPhrase item → ReadsExactly item b (punct "]") r → ReadsExactly (λ c. a_list_type (item c)) b f (list_type_at r)
exact-list_type away has h =
    exact-mapped (exact-next (has-pair has has-tokens-after) (exact-punct "[")
    (exact-then-some (begins-then begins-one) has-tokens-after h
    (exact-next has-opt (exact-punct "]") (exact-mark away))))

begins-named_type : BeginsWith (λ c. a_named_type) any_name
begins-named_type = begins-mapped (begins-then begins-one)

begins-list_type : {item : Limits → Rel (Positioned TypeTree)} → BeginsWith (λ c. a_list_type (item c)) (punct "[")
begins-list_type = begins-mapped (begins-then begins-one)

-- ---- types

abbrev types : Limits → Rel (Positioned TypeTree)
types c = type_reference c.types

abbrev lists : Limits → Rel (Positioned TypeTree)
lists c = a_list_type (type_reference c.types)

abbrev by-first : Limits → Rel (Positioned TypeTree)
by-first c = a_named_type ∪ nested of_types lists c

is-type : (c : Limits) (x : List Token) (t : Positioned TypeTree) → by-first c x t ↔ types c x t
is-type c x t = go c.types
  where
    go : (n : ℕ) → (a_named_type ∪ below of_types lists c n) x t ↔ type_reference n x t
    go zero = (λ h. elim h [ inl k ↦ k | inr k ↦ absurd k ], λ h. inl h)
    go (suc n) = (λ h. h, λ h. h)

begins-lists : BeginsWith (nested of_types lists) (punct "[")
begins-lists = begins-nested of_types (begins-list_type {item = types})

has-named_type : HasPhrase (λ c. a_named_type)
has-named_type = has-map (has-pair (has-token name-sample) (has-opt {p = λ c. one (punct "!")}))

pub has-type : HasPhrase (λ c. type_reference c.types)
has-type = record { some = λ c. some c c.types }
  where
    some : (c : Limits) (n : ℕ) → Extends (type_reference n) []
    some c zero = has-named_type.some c
    some c (suc n) = (has-first {p = λ c. a_named_type} {q = λ c. a_list_type (type_reference n)} has-named_type).some c

exact-by-first : {b : Limits} {f : Test} {r : Reader (Positioned TypeTree)} → IsSubset f (outside (punct "!")) → ReadsExactly (nested of_types lists) b f r → ReadsExactly types b f (choose_at any_name named_type_at r)
exact-by-first away h = exact-same is-type (exact-choose begins-named_type (begins-within (punct-within "[" refl) begins-lists) (exact-named_type away) h)

exact-within : (n : ℕ) (b : Limits) {f : Test} → b.types ≡ n → IsSubset f (outside (punct "!")) → ReadsExactly types b f (type_at n)
unfolding type_at
exact-within zero b e away = exact-by-first away (exact-deep of_types e (extends-one (punct "[") (has-pair has-type has-tokens-after)) (begins-list_type {item = types}))
exact-within (suc n) b {f} e away =
    let inner : Limits = record b { types = n } in
    subst (λ (k : ℕ). ReadsExactly types (record b { types = k }) f (type_at (suc n))) (sym e)
    (exact-by-first {b = record b { types = suc n }} away (exact-nested of_types {b = inner} (exact-list_type away has-type (exact-within n inner refl (punct-within "]" refl)))))

pub exact-type : {b : Limits} {f : Test} → IsSubset f (outside (punct "!")) → ReadsExactly (λ c. type_reference c.types) b f (type_at b.types)
exact-type {b} away = exact-within b.types b refl away

-- ---- places

nullable-same : (mark : Option Token) → nullable (option_map without_place mark) ≡ nullable mark
nullable-same None = refl
nullable-same (Some t) = refl

ignores-named_type : IgnoresPlaces (λ c. a_named_type) bare_node
ignores-named_type =
    ignores-mapped (λ x. ap (λ w. at {A = TypeTree} (without_place x.0) (named x.0.bare.spelling w)) (sym (nullable-same x.1)))
    (ignores-then (ignores-one any_name (λ spelling. refl)) (ignores-opt (ignores-one (punct "!") (λ spelling. refl))))

ignores-list_type : {item : Limits → Rel (Positioned TypeTree)} → IgnoresPlaces item bare_node → IgnoresPlaces (λ c. a_list_type (item c)) bare_node
ignores-list_type h =
    ignores-mapped (λ x. ap (λ w. at {A = TypeTree} (without_place x.0) (list x.1.0.node w)) (sym (nullable-same x.1.1.1)))
    (ignores-then (ignores-one (punct "[") (λ spelling. refl)) (ignores-then h (ignores-then (ignores-one (punct "]") (λ spelling. refl)) (ignores-opt (ignores-one (punct "!") (λ spelling. refl))))))

ignores-within : (n : ℕ) → IgnoresPlaces (λ c. type_reference n) bare_node
ignores-within zero = ignores-named_type
ignores-within (suc n) = ignores-either ignores-named_type (ignores-list_type (ignores-within n))

pub ignores-type : IgnoresPlaces (λ c. type_reference c.types) bare_node
ignores-type = record { by = λ c. (ignores-within c.types).by c; fixed = λ c. (ignores-within c.types).fixed c }
