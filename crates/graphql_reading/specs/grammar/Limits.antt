-- How deep a document may nest.
-- Source: this project's choice, with the Rust crate's 64 as the default.
use Rattle.std.specs.Prelude.{ℕ, ◌≤◌}

-- a budget for each of the three things that nest: selection sets, values and types
pub record Limits : Type 0 where
  pub selections : ℕ
  pub values : ℕ
  pub types : ℕ

-- the limits where the caller chooses none
unfoldable pub default_limits : Limits
default_limits = record { selections = 64; values = 64; types = 64 }

-- limits that a caller can choose
abbrev pub IsAllowed : Limits → Type 0
IsAllowed limits = (limits.selections ≤ 256) × (limits.values ≤ 256) × (limits.types ≤ 256)
