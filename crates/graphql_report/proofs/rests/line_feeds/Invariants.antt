use Rattle.std.proofs.Common.{◌≡◌, ◌≤◌, take}
use Rattle.std.specs.List.{count_by}
use Rattle.graphql_tokens.specs.tokens.Place.{is_line_feed}
use Rattle.graphql_report.proofs.rests.line_feeds.Given as goal

abbrev pub invariant-loop-byte : goal.invariant-loop-byte
invariant-loop-byte l = record { count : l.feeds ≡ count_by is_line_feed (take l.byte-index l.byte-items); few : l.feeds ≤ l.byte-index }
