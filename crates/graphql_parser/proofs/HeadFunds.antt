-- What heads take, one more and all of them.
use Rattle.std.proofs.Common.{◌≡◌, ◌≢◌, ◌≤◌, ◌<◌, ◌+◌, ℕ, zero, suc, List, [], ◌∷◌, ◌++◌, length, take, get_or, add-one, refl, ap, ◌∙◌, arith}
use Rattle.std.proofs.Math.Seq.{take-suc}
use Rattle.graphql_memory.specs.declared.Memory.{Memory}
use Rattle.graphql_memory.specs.Memory.{Takes}
use Rattle.graphql_parser.specs.HeadFunds.{name_bytes, heads_bytes, heads_owed}
use Rattle.graphql_parser.specs.declared.check.definitions.Head.{Head}

pub heads-push : (hs : List Head) (h : Head) → heads_bytes (hs ++ h ∷ []) ≡ heads_bytes hs + (72 + name_bytes h)
heads-push [] h = omega arith
heads-push (g ∷ hs) h = omega (arith, heads-push hs h)

pub heads-some : (n : ℕ) (hs : List Head) → heads_bytes (take n hs) ≤ heads_bytes hs
heads-some zero hs = omega arith
heads-some (suc n) [] = omega arith
heads-some (suc n) (h ∷ hs) = omega (arith, heads-some n hs)

-- those before a place and the one there
pub heads-judged : (start now new : Memory) (i : ℕ) (hs : List Head) (d : Head) → i < length hs → Takes (heads_bytes (take i hs)) start now → Takes (72 + name_bytes (get_or hs i d)) now new → Takes (heads_bytes (take (i + 1) hs)) start new
heads-judged start now new i hs d lt h k =
    let more : heads_bytes (take (i + 1) hs) ≡ heads_bytes (take i hs) + (72 + name_bytes (get_or hs i d)) = ap heads_bytes (ap (λ n. take n hs) (add-one i) ∙ take-suc hs i d lt) ∙ heads-push (take i hs) (get_or hs i d) in
    (omega (arith, more, h, k), omega (arith, h, k))

-- of several heads all are owed
pub owed-some : (hs : List Head) → heads_owed hs ≤ heads_bytes hs
owed-some [] = omega arith
owed-some (h ∷ []) = omega arith
owed-some (g ∷ h ∷ hs) = omega arith

pub owed-many : (hs : List Head) → length hs ≢ 1 → heads_owed hs ≡ heads_bytes hs
owed-many [] many = refl
owed-many (h ∷ []) many = absurd (many refl)
owed-many (g ∷ h ∷ hs) many = refl

pub owed-one : (none hs : List Head) (h : Head) → none ≡ [] → hs ≡ none ++ h ∷ [] → heads_owed hs ≡ 0
owed-one none hs h e is = ap heads_owed (is ∙ ap (λ (l : List Head). l ++ h ∷ []) e)
