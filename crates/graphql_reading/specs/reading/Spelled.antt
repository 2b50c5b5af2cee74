-- Tests of a token by bytes that the code hands in.
use Rattle.std.specs.Prelude.{◌≡◌, ℕ, ◌&&◌, List, ◌++◌, replicate}
use Rattle.std.specs.Str.{bytes_eq}
use Rattle.graphql_reading.specs.grammar.Tests.{Test}
use Rattle.graphql_tokens.specs.tokens.Kinds.{is_punct, is_name}

-- `punct` of the text that has these bytes
abbrev pub punct_of : List ℕ → Test
punct_of bytes t = is_punct t.kind && bytes_eq t.spelling bytes

-- `keyword` of the text that has these bytes
abbrev pub keyword_of : List ℕ → Test
keyword_of bytes t = is_name t.kind && bytes_eq t.spelling bytes

-- so many quotes, a text, and so many quotes
abbrev pub IsQuoted : ℕ → List ℕ → Type 0
IsQuoted quotes text = (content : List ℕ) × (text ≡ replicate quotes 34 ++ (content ++ replicate quotes 34))
