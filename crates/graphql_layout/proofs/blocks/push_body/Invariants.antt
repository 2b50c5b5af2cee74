use Rattle.std.proofs.Common.{◌≡◌, ◌++◌, false, length, string_bytes}
use denote.Text.{Utf8}
use denote.Shadow.{shadow}
use Rattle.std.specs.Str.{chars, encode_utf8_all}
use Rattle.graphql_layout.specs.texts.Blocks.{body}
use Rattle.graphql_layout.specs.texts.Shortened.{is_open}
use Rattle.graphql_layout.proofs.blocks.push_body.Given as goal

abbrev pub invariant-loop-at : goal.invariant-loop-at
invariant-loop-at l =
    shadow (Utf8 l.rest)
    × (string_bytes l.out ++ encode_utf8_all (body l.fn.line_break 0 (chars l.rest)) ≡ string_bytes l.fn.out ++ encode_utf8_all (body l.fn.line_break 0 (chars l.fn.value)))
    × (is_open 0 l.is_open (chars l.rest) ≡ is_open 0 false (chars l.fn.value))

abbrev pub decreases-loop-at : goal.decreases-loop-at
decreases-loop-at l = length l.rest
