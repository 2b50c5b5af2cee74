-- Reading values from lists of tokens.
use Rattle.std.specs.Prelude.{ℕ, zero, suc, Bool, ◌||◌, Option, Some, option_map, List, [], ◌∷◌}
use Rattle.std.specs.Str.{chars, encode_utf8_all}
use Rattle.graphql_tokens.specs.inner.Contents.{content_value}
use Rattle.graphql_tokens.specs.tokens.Token.{Bare}
use Rattle.graphql_syntax.specs.trees.ValueTree.{Tree}
use Rattle.graphql_reading.specs.grammar.Tests.{Test, punct, keyword, any_name, name_but, any_number, any_string, any_block}
use Rattle.graphql_tokens.specs.tokens.Alike.{inside, value_of_block}
use Rattle.graphql_grammar.specs.grammar.Values.{Value, true_of, false_of, null_of, enumeration_of, number_of, string_of, dollar, variable_of, list_of, object_field_of, object_of}
use Rattle.graphql_reading.specs.reading.Outcome.{Reader, one_at, meaning_at, then_at, mapped_at, choose_at, many_at, deep_at}

-- ---- what stands alone

-- any name: one of the three words, or of an enum
abbrev pub word_at : Reader Value
word_at =
    choose_at (keyword "true") (mapped_at true_of (one_at (keyword "true")))
    (choose_at (keyword "false") (mapped_at false_of (one_at (keyword "false")))
    (choose_at (keyword "null") (mapped_at null_of (one_at (keyword "null")))
    (mapped_at enumeration_of (one_at (name_but ("true" ∷ "false" ∷ "null" ∷ []))))))

abbrev pub number_at : Reader Value
number_at = mapped_at number_of (one_at any_number)

-- the bytes of what a string stands for
abbrev pub string_text : Bare → Option (List ℕ)
string_text t = option_map encode_utf8_all (content_value (chars (inside 1 t.spelling)))

abbrev pub block_text : Bare → Option (List ℕ)
block_text t = Some (encode_utf8_all (value_of_block t.spelling))

-- what a string, or a block string, stands for
abbrev pub string_value_at : Reader (List ℕ)
string_value_at = mapped_at (λ x. x.1) (meaning_at any_string string_text)

abbrev pub block_value_at : Reader (List ℕ)
block_value_at = mapped_at (λ x. x.1) (meaning_at any_block block_text)

abbrev pub string_at : Reader Value
string_at = mapped_at string_of (meaning_at any_string string_text)

abbrev pub block_at : Reader Value
block_at = mapped_at string_of (meaning_at any_block block_text)

abbrev pub variable_at : Bool → Reader Value
variable_at vars = mapped_at variable_of (then_at (one_at (dollar vars)) (one_at any_name))

abbrev pub simple_at : Bool → Reader Value
simple_at vars =
    choose_at any_name word_at (choose_at any_number number_at (choose_at any_string string_at (choose_at any_block block_at (variable_at vars))))

-- what a value begins with that is neither a list nor an object
abbrev pub simple_first : Bool → Test
simple_first vars t = any_name t || any_number t || any_string t || any_block t || dollar vars t

-- ---- lists and objects

-- what a value begins with
abbrev pub value_first : Bool → Test
value_first vars t = simple_first vars t || punct "[" t || punct "{" t

abbrev pub list_at : Bool → Reader Value → Reader Value
list_at vars value = mapped_at list_of (then_at (one_at (punct "[")) (then_at (many_at (value_first vars) value) (one_at (punct "]"))))

abbrev pub field_at : Reader Value → Reader (List ℕ × Tree)
field_at value = mapped_at object_field_of (then_at (one_at any_name) (then_at (one_at (punct ":")) value))

abbrev pub object_at : Reader Value → Reader Value
object_at value = mapped_at object_of (then_at (one_at (punct "{")) (then_at (many_at any_name (field_at value)) (one_at (punct "}"))))

-- ---- values

abbrev pub by_first : Bool → Reader Value → Reader Value → Reader Value
by_first vars lists objects = choose_at (simple_first vars) (simple_at vars) (choose_at (punct "[") lists objects)

unfoldable pub value_at : Bool → ℕ → Reader Value
value_at vars zero ts = by_first vars (deep_at (punct "[")) (deep_at (punct "{")) ts
value_at vars (suc b) ts = by_first vars (list_at vars (value_at vars b)) (object_at (value_at vars b)) ts
