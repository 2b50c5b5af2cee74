use Rattle.std.proofs.Common.{◌≡◌, ◌+◌, ◌-◌, ◌≤◌, length, drop}
use Rattle.std.specs.List.{prefix_len}
use Rattle.graphql_layout.specs.inner.Standing.{is_blank_byte}
use Rattle.graphql_layout.proofs.scans.long_blanks_of.Given as goal

abbrev pub invariant-chunks : goal.invariant-chunks
invariant-chunks l = (l.at + prefix_len is_blank_byte (drop l.at l.bytes) ≡ prefix_len is_blank_byte l.bytes) × (l.at ≤ length l.bytes)

abbrev pub decreases-chunks : goal.decreases-chunks
decreases-chunks l = length l.bytes - l.at

abbrev pub invariant-last : goal.invariant-last
invariant-last l = (l.at + prefix_len is_blank_byte (drop l.at l.bytes) ≡ prefix_len is_blank_byte l.bytes) × (l.at ≤ length l.bytes)

abbrev pub decreases-last : goal.decreases-last
decreases-last l = length l.bytes - l.at
