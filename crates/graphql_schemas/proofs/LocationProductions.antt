-- Places where a directive may stand are read exactly; and where their words stand doesn't matter.
use Rattle.std.proofs.Common.{◌≡◌, ℕ, Bool, true, false, cond, Some, List, [], ◌∷◌, codes, refl, sym, ap, ◌∙◌, subst}
use Rattle.std.specs.Str.{bytes_eq}
use Rattle.std.specs.Cmp.Lexicographic.{same_text}
use Rattle.graphql_trees.specs.declared.service.DirectiveLocation.{DirectiveLocation}
use Rattle.graphql_trees.specs.declared.service.DirectiveLocation.TheVariants as locations
use Rattle.graphql_reading.specs.grammar.Limits.{Limits}
use Rattle.graphql_reading.specs.grammar.Tests.{Test, any_name}
use Rattle.graphql_reading.proofs.Meaning.{Decides, exact-meaning, begins-meaning, has-meaning, ignores-meaning}
use Rattle.graphql_reading.proofs.TokenTests.{any_name-inner, sample, word_of, HasSample, name-spells}
use Rattle.graphql_reading.proofs.ReadsExactly.{ReadsExactly, HasPhrase, BeginsWith, exact-mapped, begins-mapped, has-map}
use Rattle.graphql_reading.proofs.IgnoresPlaces.{IgnoresPlaces, ignores-mapped}
use Rattle.graphql_grammar.specs.grammar.Placeless.{bare_node}
use Rattle.graphql_trees.specs.calls.Locations.{location_word}
use Rattle.graphql_schemas.specs.grammar.Directives.{IsLocation, a_location}
use Rattle.graphql_schemas.specs.reading.Directives.{all_locations, location_among, location_named, location_at}

-- ---- the location of a word

among-sound : (spelling : List ℕ) (ls : List DirectiveLocation) (l : DirectiveLocation) → location_among spelling ls ≡ Some l → spelling ≡ codes (location_word l)
among-sound spelling [] l e = absurd cc
among-sound spelling (this ∷ others) l e = go (among-sound spelling others l) (bytes_eq spelling (codes (location_word this))) refl e
  where
    go : (location_among spelling others ≡ Some l → spelling ≡ codes (location_word l)) → (w : Bool) → bytes_eq spelling (codes (location_word this)) ≡ w → cond w (Some this) (location_among spelling others) ≡ Some l → spelling ≡ codes (location_word l)
    go later true here is = let same : this ≡ l = cc in subst (λ (l : DirectiveLocation). spelling ≡ codes (location_word l)) same (same_text spelling (codes (location_word this)) (sym here))
    go later false here is = later is

each-named : (l : DirectiveLocation) → location_named (codes (location_word l)) ≡ Some l
each-named locations.Query = refl
each-named locations.Mutation = refl
each-named locations.Subscription = refl
each-named locations.Field = refl
each-named locations.FragmentDefinition = refl
each-named locations.FragmentSpread = refl
each-named locations.InlineFragment = refl
each-named locations.Schema = refl
each-named locations.Scalar = refl
each-named locations.Object = refl
each-named locations.FieldDefinition = refl
each-named locations.ArgumentDefinition = refl
each-named locations.Interface = refl
each-named locations.Union = refl
each-named locations.Enum = refl
each-named locations.EnumValue = refl
each-named locations.InputObject = refl
each-named locations.InputFieldDefinition = refl
each-named locations.VariableDefinition = refl

pub location-decides : Decides (λ t. location_named t.spelling) IsLocation
location-decides = record { sound = λ t l e. among-sound t.spelling all_locations l e; complete = λ t l e. ap location_named e ∙ each-named l }

-- ---- one location

pub exact-location : {b : Limits} {f : Test} → ReadsExactly (λ c. a_location) b f location_at
exact-location = exact-mapped (exact-meaning any_name-inner location-decides)

pub begins-location : BeginsWith (λ c. a_location) any_name
begins-location = begins-mapped (begins-meaning any_name IsLocation)

abbrev field-sample : HasSample any_name
field-sample = record { token = sample (word_of "FIELD"); passes = refl; proper = name-spells (codes "FIELD") refl (refl, (refl, (refl, (refl, (refl, tt))))) }

pub has-location : HasPhrase (λ c. a_location)
has-location = has-map (has-meaning IsLocation field-sample locations.Field refl)

pub ignores-location : IgnoresPlaces (λ c. a_location) bare_node
ignores-location = ignores-mapped (λ x. refl) (ignores-meaning any_name (λ spelling. refl) IsLocation)
