-- Arguments, directives and default values are read exactly, at every budget; and their places don't matter.
use Rattle.std.proofs.Common.{ℕ, Bool, false, IsTrue, map, option_map, refl, ap}
use Rattle.graphql_tokens.specs.tokens.Edition.{Current}
use Rattle.graphql_syntax.specs.trees.Parts.{Argument, Directive, Directives}
use Rattle.graphql_syntax.specs.trees.Parts as trees
use Rattle.graphql_grammar.specs.grammar.Arguments.{an_argument, arguments, a_directive, directives, a_default}
use Rattle.graphql_reading.specs.grammar.Fronts.{without_place}
use Rattle.graphql_reading.specs.grammar.Limits.{Limits}
use Rattle.graphql_grammar.specs.grammar.Placeless.{unplaced, bare_node, placeless_argument, placeless_directive, placeless_directives}
use Rattle.graphql_reading.specs.grammar.Places.{at, name_of}
use Rattle.graphql_reading.specs.grammar.Relations.{opt}
use Rattle.graphql_reading.specs.grammar.Tests.{Test, punct, any_name}
use Rattle.graphql_grammar.specs.reading.Arguments.{argument_at, arguments_at, maybe_arguments_at, directive_at, directives_at, default_at}
use Rattle.graphql_reading.proofs.Theory.{IsSubset, outside, anything}
use Rattle.graphql_reading.proofs.TokenTests.{punctuator, itself, punct-within, punct-inner, name-sample}
use Rattle.graphql_reading.proofs.PunctSamples.{has-close, has-colon, has-at}
use Rattle.graphql_reading.proofs.ReadsExactly.{ReadsExactly, HasPhrase, BeginsWith, exact-punct, exact-name, exact-mapped, exact-next, exact-plus, begins-one, begins-mapped, begins-then, has-token, has-pair, has-map, has-star, has-plus}
use Rattle.graphql_reading.proofs.Extra.{FirstWithin, first-star, first-opt, exact-many-ahead, exact-opt, has-opt}
use Rattle.graphql_reading.proofs.IgnoresPlaces.{IgnoresPlaces, ignores-one, ignores-then, ignores-mapped, ignores-star, ignores-plus, ignores-opt, map-given}
use Rattle.graphql_reading.proofs.Marks.{exact-after, begins-after, ignores-after, exact-between, begins-between, ignores-between}
use Rattle.graphql_reading.proofs.Loop.{Takes, takes-one}
use Rattle.graphql_grammar.proofs.ValueProductions.{exact-value, has-value, ignores-value}

abbrev pub budget : ℕ → ℕ → Limits
budget values types = record { selections = 0; values = values; types = types }

-- ---- arguments

pub exact-argument : (vars : Bool) {b : Limits} {f : Test} → ReadsExactly (λ c. an_argument Current vars c.values) b f (argument_at vars b.values)
exact-argument vars = exact-mapped (exact-next (has-pair has-colon (has-value vars)) exact-name (exact-next (has-value vars) (exact-punct ":") (exact-value vars)))

pub begins-argument : (vars : Bool) → BeginsWith (λ c. an_argument Current vars c.values) any_name
begins-argument vars = begins-mapped (begins-then begins-one)

pub has-argument : (vars : Bool) → HasPhrase (λ c. an_argument Current vars c.values)
has-argument vars = has-map (has-pair (has-token name-sample) (has-pair has-colon (has-value vars)))

pub ignores-argument : (vars : Bool) → IgnoresPlaces (λ c. an_argument Current vars c.values) placeless_argument
ignores-argument vars = ignores-mapped (λ x. refl) (ignores-then (ignores-one any_name (λ spelling. refl)) (ignores-then (ignores-one (punct ":") (λ spelling. refl)) (ignores-value vars)))

pub exact-arguments : (vars : Bool) {b : Limits} {f : Test} → ReadsExactly (λ c. arguments Current vars c.values) b f (arguments_at vars b.values)
exact-arguments vars = exact-between "(" ")" has-close (has-plus (has-argument vars)) (exact-plus (begins-argument vars) (punct-within ")" refl) (exact-argument vars))

pub begins-arguments : (vars : Bool) → BeginsWith (λ c. arguments Current vars c.values) (punct "(")
begins-arguments vars = begins-between (punct ")")

pub ignores-arguments : (vars : Bool) → IgnoresPlaces (λ c. arguments Current vars c.values) (map placeless_argument)
ignores-arguments vars = ignores-between (punct "(") (punct ")") (λ spelling. refl) (λ spelling. refl) (ignores-plus (ignores-argument vars))

-- ---- arguments, where there are any

pub exact-maybe_arguments : (vars : Bool) {b : Limits} {f : Test} → IsSubset f (outside (punct "(")) → ReadsExactly (λ c. opt (arguments Current vars c.values)) b f (maybe_arguments_at vars b.values)
exact-maybe_arguments vars away = exact-opt (begins-arguments vars) away (exact-arguments vars)

pub first-maybe_arguments : (vars : Bool) {f g : Test} → IsTrue (g (punctuator "(")) → IsSubset f g → FirstWithin (λ c. opt (arguments Current vars c.values)) f g
first-maybe_arguments vars here h = first-opt (begins-arguments vars) (punct-within "(" here) h

pub has-maybe_arguments : (vars : Bool) → HasPhrase (λ c. opt (arguments Current vars c.values))
has-maybe_arguments vars = has-opt {p = λ c. arguments Current vars c.values}

pub ignores-maybe_arguments : (vars : Bool) → IgnoresPlaces (λ c. opt (arguments Current vars c.values)) (option_map (map placeless_argument))
ignores-maybe_arguments vars = ignores-opt (ignores-arguments vars)

-- ---- directives

-- a `(` after the name belongs to the directive
pub exact-directive : (vars : Bool) {b : Limits} {f : Test} → IsSubset f (outside (punct "(")) → ReadsExactly (λ c. a_directive Current vars c.values) b f (directive_at vars b.values)
exact-directive vars away = exact-mapped (exact-next (has-pair (has-token name-sample) (has-maybe_arguments vars)) (exact-punct "@") (exact-next (has-maybe_arguments vars) exact-name (exact-maybe_arguments vars away)))

pub begins-directive : (vars : Bool) → BeginsWith (λ c. a_directive Current vars c.values) (punct "@")
begins-directive vars = begins-mapped (begins-then begins-one)

pub has-directive : (vars : Bool) → HasPhrase (λ c. a_directive Current vars c.values)
has-directive vars = has-map (has-pair has-at (has-pair (has-token name-sample) (has-maybe_arguments vars)))

pub ignores-directive : (vars : Bool) → IgnoresPlaces (λ c. a_directive Current vars c.values) (unplaced placeless_directive)
ignores-directive vars =
    ignores-mapped (λ x. ap (λ (l : trees.Arguments). at {A = Directive} (without_place x.0) (record { name = name_of (without_place x.1.0); arguments = l })) (map-given placeless_argument x.1.1))
    (ignores-then (ignores-one (punct "@") (λ spelling. refl)) (ignores-then (ignores-one any_name (λ spelling. refl)) (ignores-maybe_arguments vars)))

pub exact-directives : (vars : Bool) {b : Limits} {f : Test} → IsSubset f (outside (punct "(")) → IsSubset f (outside (punct "@")) → ReadsExactly (λ c. directives Current vars c.values) b f (directives_at vars b.values)
exact-directives vars away last = exact-many-ahead {g = outside (punct "(")} (begins-directive vars) (punct-within "@" refl) away last (exact-directive vars itself)

pub first-directives : (vars : Bool) {f g : Test} → IsTrue (g (punctuator "@")) → IsSubset f g → FirstWithin (λ c. directives Current vars c.values) f g
first-directives vars here h = first-star (begins-directive vars) (punct-within "@" here) h

pub has-directives : (vars : Bool) → HasPhrase (λ c. directives Current vars c.values)
has-directives vars = has-star {p = λ c. a_directive Current vars c.values}

pub ignores-directives : (vars : Bool) → IgnoresPlaces (λ c. directives Current vars c.values) placeless_directives
ignores-directives vars = ignores-star (ignores-directive vars)

-- ---- defaults

pub exact-default : {b : Limits} {f : Test} → ReadsExactly (λ c. a_default Current c.values) b f (default_at b.values)
exact-default = exact-after (punct-inner "=") (has-value false) (exact-value false)

pub begins-default : BeginsWith (λ c. a_default Current c.values) (punct "=")
begins-default = begins-after

pub ignores-default : IgnoresPlaces (λ c. a_default Current c.values) bare_node
ignores-default = ignores-after (punct "=") (λ spelling. refl) (ignores-value false)

pub takes-argument : (vars : Bool) (values : ℕ) → Takes (argument_at vars values)
takes-argument vars values = takes-one {b = budget values 0} {f = anything} (exact-argument vars) (begins-argument vars)

pub takes-directive : (vars : Bool) (values : ℕ) → Takes (directive_at vars values)
takes-directive vars values = takes-one {b = budget values 0} {f = outside (punct "(")} (exact-directive vars itself) (begins-directive vars)
