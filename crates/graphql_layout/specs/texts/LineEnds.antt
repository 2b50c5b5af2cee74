-- How lines end.
-- Source: GraphQL October 2021, section 2.1.3 (Line Terminators), of whose kinds a lone carriage return isn't written.
use Rattle.std.specs.Prelude.{ℕ, ◌==◌, if◌then◌else◌, List, drop, codes}
use Rattle.std.specs.List.{prefix_len, starts_with}
use Rattle.graphql_tokens.specs.tokens.Place.{is_in_line}
use Rattle.graphql_layout.specs.declared.line_ends.LineEnd.{LineEnd}
use Rattle.graphql_layout.specs.declared.line_ends.LineEnd.TheVariants.{Feed, ReturnAndFeed}

-- what ends a line
abbrev pub line_end : LineEnd → List ℕ
line_end Feed = codes "\n"
line_end ReturnAndFeed = codes "\r\n"

-- how the first line of a text ends, if that is in a carriage return and a line feed, and else in a line feed
abbrev pub first_line_end : List ℕ → LineEnd
first_line_end text = if starts_with ◌==◌ (drop (prefix_len is_in_line text) text) (codes "\r\n") then ReturnAndFeed else Feed
