-- Descriptions are read exactly; and their places don't matter, nor those of what they describe.
use Rattle.std.proofs.Common.{◌≡◌, ℕ, IsTrue, Some, None, List, refl}
use Rattle.graphql_tokens.specs.tokens.Edition.{Current}
use Rattle.graphql_tokens.specs.tokens.Token.{Token}
use Rattle.graphql_trees.specs.trees.Schema.{Description}
use Rattle.graphql_grammar.specs.grammar.Placeless.{unplaced, bare_node}
use Rattle.graphql_grammar.specs.grammar.Values.{StringStands, BlockStands}
use Rattle.graphql_reading.specs.grammar.Fronts.{without_place}
use Rattle.graphql_reading.specs.grammar.Limits.{Limits}
use Rattle.graphql_reading.specs.grammar.Relations.{opt}
use Rattle.graphql_reading.specs.grammar.Tests.{Test, any_name, any_string, any_block}
use Rattle.graphql_reading.proofs.Theory.{IsSubset, outside}
use Rattle.graphql_reading.proofs.TokenTests.{any_name-within, within-either}
use Rattle.graphql_reading.proofs.ReadsExactly.{ReadsExactly, HasPhrase, BeginsWith, exact-mapped, exact-choose, begins-within, begins-mapped, begins-either}
use Rattle.graphql_reading.proofs.Meaning.{exact-meaning, begins-meaning, ignores-meaning, ignores-block}
use Rattle.graphql_reading.proofs.Extra.{exact-opt, has-opt}
use Rattle.graphql_reading.proofs.IgnoresPlaces.{IgnoresPlaces, ignores-mapped, ignores-either, ignores-opt}
use Rattle.graphql_grammar.proofs.StringMeanings.{string-decides, block-decides, block-stands}
use Rattle.graphql_grammar.proofs.ValueTests.{quoted, block, any_string-within, any_block-within, any_string-inner, any_block-inner}
use Rattle.graphql_schemas.specs.grammar.Descriptions.{text_of, a_description, described}
use Rattle.graphql_schemas.specs.grammar.Placeless.{placeless_description}
use Rattle.graphql_schemas.specs.reading.Descriptions.{is_text, description_at, maybe_description_at}

-- ---- what descriptions begin with

pub text-within : {g : Test} → ((spelling : List ℕ) → IsTrue (g (quoted spelling))) → ((spelling : List ℕ) → IsTrue (g (block spelling))) → IsSubset is_text g
text-within a-string a-block = within-either (any_string-within a-string) (any_block-within a-block)

-- no name begins a description
pub name-no-text : IsSubset any_name (outside is_text)
name-no-text = any_name-within (λ spelling. refl)

-- ---- descriptions

pub exact-description : {b : Limits} {f : Test} → ReadsExactly (λ c. a_description Current) b f description_at
exact-description =
    exact-choose (begins-mapped (begins-meaning any_string (StringStands Current)))
    (begins-mapped (begins-within (any_block-within (λ spelling. refl)) (begins-meaning any_block BlockStands)))
    (exact-mapped (exact-meaning any_string-inner string-decides))
    (exact-mapped (exact-meaning any_block-inner block-decides))

pub begins-description : BeginsWith (λ c. a_description Current) is_text
begins-description =
    begins-either (begins-mapped (begins-within (any_string-within (λ spelling. refl)) (begins-meaning any_string (StringStands Current))))
    (begins-mapped (begins-within (any_block-within (λ spelling. refl)) (begins-meaning any_block BlockStands)))

pub ignores-description : IgnoresPlaces (λ c. a_description Current) bare_node
ignores-description =
    ignores-either (ignores-mapped {k = text_of} (λ x. refl) (ignores-meaning any_string (λ spelling. refl) (StringStands Current)))
    (ignores-block any_block BlockStands {k = text_of} (λ spelling. refl) block-stands (λ x. refl) (λ t u bytes. refl))

-- ---- descriptions, where there are any

-- what follows is neither a string nor a block string
pub exact-maybe_description : {b : Limits} {f : Test} → IsSubset f (outside is_text) → ReadsExactly (λ c. opt (a_description Current)) b f maybe_description_at
exact-maybe_description away = exact-opt begins-description away exact-description

pub has-maybe_description : HasPhrase (λ c. opt (a_description Current))
has-maybe_description = has-opt {p = λ c. a_description Current}

pub ignores-maybe_description : IgnoresPlaces (λ c. opt (a_description Current)) placeless_description
ignores-maybe_description = ignores-opt ignores-description

-- ---- what they describe

-- what is described stands nowhere where nothing has a place
pub described-nowhere : {A : Type 0} (f : A → A) (description : Description) (first : Token) (node : A) → unplaced f (described description first node) ≡ described (placeless_description description) (without_place first) (f node)
described-nowhere f None first node = refl
described-nowhere f (Some text) first node = refl
