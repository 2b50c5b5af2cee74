-- Copies of texts that need no escape.
use Rattle.std.proofs.Common.{ℕ, ◌+◌, ◌-◌, ◌≤◌, List, length, arith}
use Rattle.json.specs.Written.{PlainBetween}
use Rattle.graphql_json.proofs.Stops.{joined}

-- where the first and the last bytes are plain, and both together are all, each byte is
pub plain_ends : (text : List ℕ) (n : ℕ) → n ≤ length text → length text ≤ n + n
    → PlainBetween text 0 n → PlainBetween text (length text - n) (length text - n + n) → PlainBetween text 0 (length text)
plain_ends text n fits covers first last k after before = joined text 0 (length text - n) n (length text - n + n) (omega arith) first last k after (omega arith)
