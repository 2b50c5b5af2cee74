-- What definitions of directives say after their descriptions is read exactly; and its places don't matter.
use Rattle.std.proofs.Common.{Option, List, map, option_map, refl}
use Rattle.graphql_tokens.specs.declared.pos.Positioned.{Positioned}
use Rattle.graphql_tokens.specs.tokens.Edition.{Current}
use Rattle.graphql_tokens.specs.tokens.Token.{Token}
use Rattle.graphql_trees.specs.declared.service.DirectiveLocation.{DirectiveLocation}
use Rattle.graphql_trees.specs.trees.Schema.{InputValues}
use Rattle.graphql_reading.specs.grammar.Fronts.{without_place}
use Rattle.graphql_reading.specs.grammar.Limits.{Limits}
use Rattle.graphql_reading.specs.grammar.Relations.{Rel, one, ◌⨾◌, opt, after, separated}
use Rattle.graphql_reading.specs.grammar.Tests.{Test, punct, keyword, any_name}
use Rattle.graphql_reading.specs.reading.Outcome.{one_at, then_at, opt_at, after_at, separated_at}
use Rattle.graphql_reading.proofs.Theory.{IsSubset, outside}
use Rattle.graphql_reading.proofs.TokenTests.{itself, keyword-within, any_name-within, keyword-inner, HasSample, keyword-sample, name-sample}
use Rattle.graphql_reading.proofs.PunctSamples.{has-at}
use Rattle.graphql_reading.proofs.ReadsExactly.{ReadsExactly, HasPhrase, BeginsWith, exact-punct, exact-keyword, exact-name, exact-next, exact-then-some, begins-one, begins-within, begins-then, has-token, has-pair}
use Rattle.graphql_reading.proofs.Extra.{exact-opt, has-opt, begins-opt}
use Rattle.graphql_reading.proofs.IgnoresPlaces.{IgnoresPlaces, ignores-one, ignores-then, ignores-opt}
use Rattle.graphql_reading.proofs.Marks.{exact-after, begins-after, has-after, ignores-after, exact-separated, has-separated, ignores-separated}
use Rattle.graphql_grammar.specs.grammar.Placeless.{bare_node}
use Rattle.graphql_schemas.specs.grammar.Directives.{a_location}
use Rattle.graphql_schemas.specs.grammar.InputValues.{arguments_definition}
use Rattle.graphql_schemas.specs.grammar.Placeless.{placeless_input_values}
use Rattle.graphql_schemas.specs.reading.Directives.{location_at, directive_rest_at}
use Rattle.graphql_schemas.proofs.InputValueProductions.{exact-maybe_arguments_definition, has-maybe_arguments_definition, ignores-maybe_arguments_definition}
use Rattle.graphql_schemas.proofs.LocationProductions.{exact-location, begins-location, has-location, ignores-location}
use Rattle.graphql_schemas.proofs.PartProductions.{no-punctuator, past-punctuator}

-- ---- locations

abbrev locations : Limits → Rel (List (Positioned DirectiveLocation))
locations c = after (keyword "on") (separated (punct "|") a_location)

on-sample : HasSample (keyword "on")
on-sample = keyword-sample "on" refl (refl, (refl, tt))

-- another location belongs to them
exact-locations : {b : Limits} {f : Test} → IsSubset f (outside (punct "|")) → ReadsExactly locations b f (after_at (keyword "on") (separated_at (punct "|") location_at))
exact-locations away =
    exact-after (keyword-inner "on") (has-separated (punct "|") has-location)
    (exact-separated "|" begins-location (any_name-within (λ spelling. refl)) away has-location exact-location)

begins-locations : BeginsWith locations (keyword "on")
begins-locations = begins-after

has-locations : HasPhrase locations
has-locations = has-after (keyword "on") (has-token on-sample) (has-separated (punct "|") has-location)

ignores-locations : IgnoresPlaces locations (map bare_node)
ignores-locations = ignores-after (keyword "on") (λ spelling. refl) (ignores-separated (punct "|") (λ spelling. refl) ignores-location)

-- ---- 'repeatable', where it stands, and locations

abbrev repeatable : Limits → Rel (Option Token)
repeatable c = opt (one (keyword "repeatable"))

abbrev repeatable-and-locations : Limits → Rel (Option Token × List (Positioned DirectiveLocation))
repeatable-and-locations c = repeatable c ⨾ locations c

exact-repeatable-and-locations : {b : Limits} {f : Test} → IsSubset f (outside (punct "|")) → ReadsExactly repeatable-and-locations b f (then_at (opt_at (keyword "repeatable") (one_at (keyword "repeatable"))) (after_at (keyword "on") (separated_at (punct "|") location_at)))
exact-repeatable-and-locations away = exact-then-some begins-locations has-locations (exact-opt begins-one (keyword-within "on" refl) (exact-keyword "repeatable")) (exact-locations away)

begins-repeatable-and-locations : {g : Test} → IsSubset (keyword "repeatable") g → IsSubset (keyword "on") g → BeginsWith repeatable-and-locations g
begins-repeatable-and-locations word on = begins-opt {q = locations} (begins-within word begins-one) (begins-within on begins-locations)

has-repeatable-and-locations : HasPhrase repeatable-and-locations
has-repeatable-and-locations = has-pair (has-opt {p = λ c. one (keyword "repeatable")}) has-locations

-- ---- the whole

abbrev pub DirectiveRest : Type 0
DirectiveRest = Token × (Token × (Token × (Option InputValues × (Option Token × List (Positioned DirectiveLocation)))))

abbrev pub placeless-directive-rest : DirectiveRest → DirectiveRest
placeless-directive-rest x = (without_place x.0, (without_place x.1.0, (without_place x.1.1.0, (option_map placeless_input_values x.1.1.1.0, (option_map without_place x.1.1.1.1.0, map bare_node x.1.1.1.1.1)))))

abbrev maybe-arguments : Limits → Rel (Option InputValues)
maybe-arguments c = opt (arguments_definition Current c)

-- what a definition says after its description
abbrev pub directive-rest : Limits → Rel DirectiveRest
directive-rest c = one (keyword "directive") ⨾ one (punct "@") ⨾ one any_name ⨾ opt (arguments_definition Current c) ⨾ opt (one (keyword "repeatable")) ⨾ after (keyword "on") (separated (punct "|") a_location)

has-after-name : HasPhrase (λ c. maybe-arguments c ⨾ repeatable-and-locations c)
has-after-name = has-pair has-maybe_arguments_definition has-repeatable-and-locations

pub exact-directive-rest : {b : Limits} {f : Test} → IsSubset f no-punctuator → ReadsExactly directive-rest b f (directive_rest_at b)
exact-directive-rest ends =
    exact-next (has-pair has-at (has-pair (has-token name-sample) has-after-name)) (exact-keyword "directive")
    (exact-next (has-pair (has-token name-sample) has-after-name) (exact-punct "@")
    (exact-next has-after-name exact-name
    (exact-then-some {g = outside (punct "(")} (begins-repeatable-and-locations (keyword-within "repeatable" refl) (keyword-within "on" refl)) has-repeatable-and-locations (exact-maybe_arguments_definition itself)
    (exact-repeatable-and-locations (past-punctuator "|" ends)))))

pub begins-directive-rest : BeginsWith directive-rest (keyword "directive")
begins-directive-rest = begins-then begins-one

pub ignores-directive-rest : IgnoresPlaces directive-rest placeless-directive-rest
ignores-directive-rest = ignores-then (ignores-one (keyword "directive") (λ spelling. refl)) (ignores-then (ignores-one (punct "@") (λ spelling. refl)) (ignores-then (ignores-one any_name (λ spelling. refl)) (ignores-then ignores-maybe_arguments_definition (ignores-then (ignores-opt (ignores-one (keyword "repeatable") (λ spelling. refl))) ignores-locations))))
