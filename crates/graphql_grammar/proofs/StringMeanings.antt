-- What strings and block strings stand for is what the readers make of them.
use Rattle.std.proofs.Common.{◌≡◌, ℕ, Option, Some, None, List, refl, sym, ap, ◌∙◌, option_map}
use Rattle.std.specs.Str.{chars, encode_utf8_all}
use Rattle.graphql_tokens.specs.inner.Contents.{content_value}
use Rattle.graphql_tokens.specs.tokens.Edition.{Current}
use Rattle.graphql_tokens.specs.tokens.Token.{Bare}
use Rattle.graphql_tokens.proofs.Meanings.{content_means, means_content}
use Rattle.graphql_tokens.specs.tokens.Alike.{inside, AreOneBlock}
use Rattle.graphql_grammar.specs.grammar.Values.{StringStands, BlockStands}
use Rattle.graphql_grammar.specs.reading.Values.{string_text, block_text}
use Rattle.graphql_reading.proofs.Meaning.{Decides}

-- the characters between the quotes
abbrev content : Bare → List ℕ
content t = chars (inside 1 t.spelling)

string-sound : (t : Bare) (bytes : List ℕ) → string_text t ≡ Some bytes → StringStands Current t bytes
string-sound t bytes = go (content_value (content t)) refl
  where
    go : (value : Option (List ℕ)) → content_value (content t) ≡ value → option_map encode_utf8_all value ≡ Some bytes → StringStands Current t bytes
    go None is e = absurd cc
    go (Some value) is e = (value, content_means (content t) value is, sym cc)

string-complete : (t : Bare) (bytes : List ℕ) → StringStands Current t bytes → string_text t ≡ Some bytes
string-complete t bytes h = ap (option_map encode_utf8_all) (means_content (content t) h.0 h.1) ∙ ap Some (sym h.2)

pub string-decides : Decides string_text (StringStands Current)
string-decides = record { sound = string-sound; complete = string-complete }

pub block-decides : Decides block_text BlockStands
block-decides = record { sound = λ t bytes e. sym cc; complete = λ t bytes e. ap Some (sym e) }

-- block strings of one value stand for the same
pub block-stands : (t u : Bare) (bytes : List ℕ) → AreOneBlock t u → BlockStands t bytes → BlockStands u bytes
block-stands t u bytes e h = h ∙ ap encode_utf8_all e.value
