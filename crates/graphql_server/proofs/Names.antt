-- The names of a path, cut at its first dot.
use Rattle.std.proofs.Common.{◌≡◌, ◌≢◌, ℕ, suc, ◌<◌, ◌==◌, false, List, [], ◌∷◌, ◌++◌, length, get_or, refl, ap, arith}
use Rattle.std.proofs.lemmas.Bool.{ne_eqb}
use Rattle.graphql_server.specs.Members.{names, onto_first_name}

pub names-first : (name rest : List ℕ) → ((i : ℕ) → i < length name → get_or name i 0 ≢ 46) → names (name ++ (46 ∷ rest)) ≡ name ∷ names rest
names-first [] rest free = refl
names-first (c ∷ cs) rest free =
    let other : (c == 46) ≡ false = ne_eqb c 46 (free 0 (omega arith)) in
    rw other (ap (onto_first_name c) (names-first cs rest (λ i l. free (suc i) (omega arith))))

pub names-one : (name : List ℕ) → ((i : ℕ) → i < length name → get_or name i 0 ≢ 46) → names name ≡ name ∷ []
names-one [] free = refl
names-one (c ∷ cs) free =
    let other : (c == 46) ≡ false = ne_eqb c 46 (free 0 (omega arith)) in
    rw other (ap (onto_first_name c) (names-one cs (λ i l. free (suc i) (omega arith))))
