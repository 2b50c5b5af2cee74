-- What is done under names one after another, one more at a time.
use Rattle.std.proofs.Common.{◌≡◌, ℕ, suc, ◌+◌, ◌<◌, List, [], ◌∷◌, ◌++◌, map, take, length, get_or, string_bytes, refl, sym, ap, ◌∙◌, subst, arith}
use Rattle.std.proofs.Math.Seq.{take-suc}
use Rattle.std.proofs.lemmas.List.{map-append}
use Rattle.std.specs.declared.alloc.Global.{Global}
use Rattle.std.specs.declared.string.String.{String}
use Rattle.graphql_commands.specs.checked.Files.{AreSteps}

pub one-more : {T : Type 0} (step : T → List ℕ → T → Type 0) (here : T) (names : List (List ℕ)) (there : T) (name : List ℕ) (next : T)
    → AreSteps step here names there
    → step there name next
    → AreSteps step here (names ++ name ∷ []) next
one-more {T} step here [] there name next e taken = (next, subst (λ (t : T). step t name next) (sym e) taken, refl)
one-more step here (x ∷ names) there name next h taken = (h.0, h.1, one-more step h.0 names there name next h.2 taken)

-- one more of the names of a list of files
pub next-name : {T : Type 0} (step : T → List ℕ → T → Type 0) (here : T) (files : List (String Global)) (i : ℕ) (there : T) (d : String Global) (name : List ℕ) (next : T)
    → i < length files
    → name ≡ string_bytes (get_or files i d)
    → AreSteps step here (map string_bytes (take i files)) there
    → step there name next
    → AreSteps step here (map string_bytes (take (i + 1) files)) next
next-name {T} step here files i there d name next inside same h taken =
    let up : i + 1 ≡ suc i = omega arith in
    let more : map string_bytes (take (i + 1) files) ≡ map string_bytes (take i files) ++ name ∷ [] =
    ap (λ n. map string_bytes (take n files)) up
    ∙ ap (map string_bytes) (take-suc files i d inside)
    ∙ map-append string_bytes (take i files) (get_or files i d ∷ [])
    ∙ ap (λ (n : List ℕ). map string_bytes (take i files) ++ n ∷ []) (sym same) in
    subst (λ (l : List (List ℕ)). AreSteps step here l next) (sym more) (one-more step here (map string_bytes (take i files)) there name next h taken)
