-- Readers that ask for no memory, one after the other.
use Rattle.std.proofs.Common.{◌≡◌, ℕ, ◌∙◌, refl, arith}
use Rattle.graphql_reading.specs.reading.Ahead.{Ahead}
use Rattle.graphql_reading.specs.reading.Funds.{Spares}
use Rattle.graphql_parser.specs.Checked.{Calm}

pub calm : (a : Ahead) → Calm a a
calm a = (refl, (omega arith, omega arith))

pub calm-on : (a b c : Ahead) → Calm a b → Calm b c → Calm a c
calm-on a b c h k = (k.0 ∙ h.0, (omega (arith, h.1, k.1), omega (arith, h.1, k.1)))

pub spares-calm : (n : ℕ) (a b : Ahead) → b.memory ≡ a.memory → Spares n a b → Calm a b
spares-calm n a b e h = (e, (omega (arith, h), omega (arith, h)))
