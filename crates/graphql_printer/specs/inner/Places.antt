-- Which of two places is smaller.
-- Source: this project's choice, as in JSON.
use Rattle.std.specs.Prelude.{Bool, ◌||◌, ◌&&◌, ◌==◌, nat_lt}
use Rattle.graphql_tokens.specs.declared.pos.Pos.{Pos}

-- on an earlier line, or further left on the same line
abbrev pub stands_before : Pos → Pos → Bool
stands_before a b = nat_lt a.line b.line || ((a.line == b.line) && nat_lt a.column b.column)
