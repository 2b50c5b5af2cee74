-- What a call of a `Memory` takes, what it means that it was refused, what a value and a pair of a map take, and what the items of a list have paid.
use Rattle.std.specs.Prelude.{◌≡◌, ◌≢◌, ◌≤◌, ◌<◌, ◌⊎◌, ℕ, ◌+◌, ◌-◌, ◌*◌, ◌^◌, if◌then◌else◌, nat_lt, Vec, vec_len, vec_capacity}
use Rattle.std.specs.declared.alloc.Global.{Global}
use Rattle.smallvec.specs.SmallVec.{SmallVec, small_vec_len}
use prog.Memory.{size, capped}
use denote.RattleType.{RattleType}
use denote.Param.{layout}
use Rattle.graphql_memory.specs.declared.Memory.{Memory}
use Rattle.graphql_memory.specs.Refusals.{HeapRefused}

-- the heap refused a request, or one was for more than was left
unfoldable pub Refused : Memory → Type 0
Refused m = (m.refusals ≢ 0) ⊎ (m.left < m.lacking)

-- no more than so many bytes were asked for, whether they were had or not, and what is left doesn't grow
abbrev pub Takes : ℕ → Memory → Memory → Type 0
Takes n old new = (old.left + new.lacking ≤ new.left + old.lacking + n) × (new.left ≤ old.left)

-- so many bytes were taken, and no request was refused
abbrev pub Took : ℕ → Memory → Memory → Type 0
Took n old new = (new.left + n ≡ old.left) × (new.lacking ≡ old.lacking) × (new.refusals ≡ old.refusals)

-- a request for so many bytes was refused: by the heap, and they are taken off all the same; or it was for more than was
-- left, of which nothing is taken off, and only where it was for more bytes than can be counted is the heap said to have
-- refused it too
abbrev pub Denied : ℕ → Memory → Memory → Type 0
Denied n old new =
    (HeapRefused old new × (new.left + n ≤ old.left))
    ⊎ (new.left ≡ old.left)
    × ((old.left < n) × (new.lacking ≡ n) × (new.refusals ≡ old.refusals) ⊎ (2 ^ 64 ≤ n) × (new.lacking + 1 ≡ 2 ^ 64))

-- the heap is said to have refused a request only if it was for so many bytes at least, which are taken off, or for more than
-- can be counted
abbrev pub Blames : ℕ → Memory → Memory → Type 0
Blames n old new = HeapRefused old new → (new.left + n ≤ old.left) ⊎ (new.lacking + 1 ≡ 2 ^ 64)

-- the bytes of a value of a type
abbrev pub bytes : RattleType → ℕ
bytes R = capped (size (layout R))

-- what is counted for a pair of a map: the key, the value, and two words
abbrev pub pair_bytes : RattleType → RattleType → ℕ
pair_bytes K V = bytes K + bytes V + 16

-- what an item of a list pays when it is put in: four places, since a list that grows has room for four times as many items
-- as it holds at most
abbrev pub price : RattleType → ℕ
price R = 4 * bytes R

-- what the items of a list have paid beyond the places that it has
abbrev pub credit : {X : Type 0} → RattleType → Vec X Global → ℕ
credit R list = price R * vec_len list - bytes R * vec_capacity list

-- the places of a small list's block, if it has one: more than the so many that it has without
unfoldable pub small_places : {X : Type 0} → ℕ → SmallVec X → ℕ
small_places inline list = if nat_lt inline list.capacity then list.capacity else 0

-- what the items of a small list have paid beyond the places of its block
abbrev pub small_credit : {X : Type 0} → ℕ → RattleType → SmallVec X → ℕ
small_credit inline R list = price R * small_vec_len list - bytes R * small_places inline list
