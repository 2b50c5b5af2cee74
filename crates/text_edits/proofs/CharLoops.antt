-- What is left of a text's characters, in a loop over them.
use Rattle.std.proofs.Common.{◌≡◌, ℕ, ◌+◌, ◌<◌, List, [], ◌∷◌, ◌++◌, length, drop, get_or, sym, ap, ◌∙◌, arith}
use Rattle.std.proofs.lemmas.List.{at_drop_more, length_push, drop_all}

pub next_left : (cs yielded : List ℕ) (c : ℕ) → (length yielded < length cs) × (c ≡ get_or cs (length yielded) c) → drop (length yielded) cs ≡ c ∷ drop (length (yielded ++ c ∷ [])) cs
next_left cs yielded c h =
    at_drop_more (λ (l : List ℕ). l) cs (length yielded) c h.0
    ∙ ap (λ (x : ℕ). x ∷ drop (length yielded + 1) cs) (sym h.1)
    ∙ ap (λ (n : ℕ). c ∷ drop n cs) (sym (length_push yielded c))

pub none_left : (cs yielded : List ℕ) → length yielded ≡ length cs → drop (length yielded) cs ≡ []
none_left cs yielded e = drop_all (length yielded) cs (omega arith)
