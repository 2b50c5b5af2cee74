-- Numbers and texts as std writes them.
use Rattle.std.proofs.Common.{◌≡◌, ℕ, ◌/◌, ◌%◌, ◌^◌, ◌<◌, [], ◌∷◌, ◌++◌, length, ap, sym, arith}
use Rattle.std.specs.Int.{w64, to_le_bytes, bytes_low_first}
use Rattle.graphql_packed.specs.packed.Bytes.{Bytes, number_bytes, text_bytes}

pub number_is : (n : ℕ) → n < 2 ^ 64 → number_bytes n ≡ to_le_bytes w64 n
unfolding number_bytes
number_is n fits = let top : n / 256 ^ 7 ≡ n / 256 ^ 7 % 256 = omega arith in ap (λ t. bytes_low_first 0 7 n ++ t ∷ []) top

pub text_is : (text : Bytes) → length text < 2 ^ 64 → to_le_bytes w64 (length text) ++ text ≡ text_bytes text
text_is text fits = ap (λ n. n ++ text) (sym (number_is (length text) fits))
