-- Reading descriptions from lists of tokens.
use Rattle.std.specs.Prelude.{◌||◌}
use Rattle.graphql_trees.specs.trees.Schema.{Description}
use Rattle.graphql_grammar.specs.reading.Values.{string_text, block_text}
use Rattle.graphql_reading.specs.grammar.Tests.{Test, any_string, any_block}
use Rattle.graphql_reading.specs.reading.Outcome.{Reader, meaning_at, mapped_at, choose_at, opt_at}
use Rattle.graphql_schemas.specs.grammar.Descriptions.{Text, text_of}

-- what a description begins with
abbrev pub is_text : Test
is_text t = any_string t || any_block t

abbrev pub description_at : Reader Text
description_at = choose_at any_string (mapped_at text_of (meaning_at any_string string_text)) (mapped_at text_of (meaning_at any_block block_text))

abbrev pub maybe_description_at : Reader Description
maybe_description_at = opt_at is_text description_at
