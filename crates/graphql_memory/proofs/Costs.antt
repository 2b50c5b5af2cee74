-- What a list that grows costs.
use Rattle.std.proofs.Common.{◌≡◌, ◌≤◌, ◌<◌, ◌+◌, ◌*◌, ◌-◌, ℕ, arith, ap, cond, ltb}
use Rattle.std.proofs.Math.Nat.{mul-le-mul_left}
use Rattle.std.proofs.lemmas.Bool.{le-ltb, lt-ltb}
use Rattle.smallvec.specs.SmallVec.{SmallVec}
use Rattle.graphql_memory.specs.Memory.{small_places}

-- a full list that grows takes what its items and one more have paid at most
pub dear : (size cap growth len : ℕ) → len ≡ cap → cap + growth ≤ 4 * (cap + 1) → size * growth ≤ 4 * size * (len + 1) - size * cap
dear size cap growth len e most =
    let h : size * (cap + growth) ≤ size * (4 * (cap + 1)) = mul-le-mul_left size most in
    rw e (omega (arith, h))

-- a list that grew, and then took an item, has paid for it
pub grown : (left after size old new len : ℕ) → old ≤ new → after + size * (new - old) ≡ left → new ≤ 4 * (len + 1) → left + (4 * size * (len + 1) - size * new) ≤ after + (4 * size * len - size * old) + 4 * size
grown left after size old new len le took most =
    let h : size * new ≤ size * (4 * (len + 1)) = mul-le-mul_left size most in
    let k : size * new ≡ size * (old + (new - old)) = ap (λ n. size * n) (omega (arith, le)) in
    omega (arith, h, k, took)

-- a small list with more room than it has in place has a block of that room
pub spilled : {X : Type 0} (inline : ℕ) (list : SmallVec X) → inline < list.capacity → small_places inline list ≡ list.capacity
unfolding small_places
spilled inline list h = ap (λ b. cond b list.capacity 0) (lt-ltb inline list.capacity h)

-- the places of a small list's block, by its capacity
pub same_places : {X : Type 0} (inline : ℕ) (old new : SmallVec X) → new.capacity ≡ old.capacity → small_places inline new ≡ small_places inline old
unfolding small_places
same_places inline old new e = ap (λ c. cond (ltb inline c) c 0) e

-- a full small list that grows takes what its items and one more have paid at most
pub dear_small : (size places room len : ℕ) → places ≤ room → room ≤ 4 * (len + 1) → size * (room - places) ≤ 4 * size * (len + 1) - size * places
dear_small size places room len le most =
    let h : size * room ≤ size * (4 * (len + 1)) = mul-le-mul_left size most in
    let k : size * room ≡ size * (places + (room - places)) = ap (λ n. size * n) (omega (arith, le)) in
    omega (arith, h, k)

-- one with no more has none
pub in_place : {X : Type 0} (inline : ℕ) (list : SmallVec X) → list.capacity ≤ inline → small_places inline list ≡ 0
unfolding small_places
in_place inline list h = ap (λ b. cond b list.capacity 0) (le-ltb inline list.capacity h)
