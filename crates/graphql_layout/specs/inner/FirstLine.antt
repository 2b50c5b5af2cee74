-- The first line of a text, and its first `#`.
-- Source: this project's choice.
use Rattle.std.specs.Prelude.{◌≡◌, ℕ, false, Some, List, ◌++◌, ◌+◌, length, take, drop}
use Rattle.std.specs.List.{AllByRecursion}
use Rattle.std.specs.Str.{byte, chars, IsUtf8, IsCharBoundary}
use Rattle.std.specs.Str.Pattern.{FindsChar}
use Rattle.graphql_tokens.specs.tokens.Ignored.{EndsLine}
use Rattle.graphql_tokens.specs.tokens.Place.{is_line_end}

-- the text is its first line, without its end, and what comes after
pub record IsFirstLine (text first rest : List ℕ) : Type 0 where
  pub whole : chars text ≡ chars first ++ chars rest
  pub in_line : AllByRecursion (λ c. is_line_end c ≡ false) (chars first)
  pub ends : EndsLine (chars rest)
  pub utf8 : IsUtf8 first
  pub rest_utf8 : IsUtf8 rest
  pub long : length text ≡ length first + length rest

-- the text from its first `#` on, and what comes before it
pub record IsFirstHash (text before from : List ℕ) : Type 0 where
  pub start : ℕ
  pub end : ℕ
  pub found : FindsChar (byte "#") text (Some (start, end))
  pub boundary : IsCharBoundary text start
  pub front : before ≡ take start text
  pub back : from ≡ drop start text
