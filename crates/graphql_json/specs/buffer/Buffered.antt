-- What is seen of a buffer of bytes, and what a call that writes into it adds.
use Rattle.std.specs.Prelude.{◌≡◌, ℕ, List, ◌++◌, refl, Result, MatchResult}
use Rattle.std.specs.Coded.{Coded, code_by, coded×, coded_list, coded_ℕ}

-- the bytes that are written, and how many more fit in the room that is made
pub record Buffered : Type 0 where
  pub items : List ℕ
  pub ready : ℕ

-- it is stored as the pair of its fields
abbrev pub buffered_code : Coded Buffered
buffered_code = code_by (List ℕ × ℕ) (coded× (coded_list coded_ℕ) coded_ℕ) (λ b. (b.items, b.ready)) (λ p. record { items = p.0; ready = p.1 }) (λ _. refl)

-- all bytes are added, or none where memory is refused
abbrev pub Appends : {T E : Type 0} → Result T E → List ℕ → List ℕ → List ℕ → Type 0
Appends result old new added = MatchResult result (λ _. new ≡ old ++ added) (λ _. new ≡ old)
