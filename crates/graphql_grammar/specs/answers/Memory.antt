-- How much memory reading a text takes at most (this project's choice).
use Rattle.std.specs.Prelude.{ℕ, ◌+◌, ◌*◌}

-- the bytes of the longest message, `syntax error at L:C`: two numbers of twenty digits at most, and what is around them
abbrev pub message_bytes : ℕ
message_bytes = 57

-- the bytes that so many tokens take at most, in a text of so many bytes: those of what they make, and those of a message. The last
-- token, of which nothing is made, counts as one too
unfoldable pub most_taken_by : ℕ → ℕ → ℕ
most_taken_by tokens n = 1104 * tokens + n + message_bytes

-- the same, for any text of so many bytes: each token but the last has a byte at least
unfoldable pub most_taken : ℕ → ℕ
most_taken n = 1105 * n + 1161
