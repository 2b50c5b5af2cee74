use Rattle.std.proofs.Common.{ℕ, ◌<◌, get_or, take}
use Rattle.std.specs.Str.{chars}
use Rattle.graphql_tokens.specs.tokens.Edition.{Current}
use Rattle.graphql_tokens.specs.tokens.Strings.{IsContent}
use Rattle.graphql_report.proofs.faults.after_escape.Given as goal

abbrev pub invariant-loop-length : goal.invariant-loop-length
invariant-loop-length l = (k : ℕ) → k < l.length-index → IsContent Current (take (get_or l.length-items k 0) (chars l.text)) → ⊥
