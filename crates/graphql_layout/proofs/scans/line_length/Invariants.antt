use Rattle.std.proofs.Common.{◌≡◌, ◌+◌, ◌-◌, ◌≤◌, length, drop}
use Rattle.std.specs.List.{prefix_len}
use Rattle.graphql_tokens.specs.tokens.Place.{is_in_line}
use Rattle.graphql_layout.proofs.scans.line_length.Given as goal

abbrev pub invariant-chunks : goal.invariant-chunks
invariant-chunks l = (l.at + prefix_len is_in_line (drop l.at l.bytes) ≡ prefix_len is_in_line l.bytes) × (l.at ≤ length l.bytes)

abbrev pub decreases-chunks : goal.decreases-chunks
decreases-chunks l = length l.bytes - l.at
