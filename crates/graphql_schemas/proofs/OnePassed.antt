-- A loop over a list has passed one item more.
use Rattle.std.proofs.Common.{◌≡◌, List, [], ◌∷◌, ◌++◌, ap, sym, ◌∙◌, append_assoc}

pub one-passed : {A : Type 0} (front : List A) {items rest others : List A} {item : A} → items ≡ front ++ rest → rest ≡ item ∷ others → items ≡ (front ++ item ∷ []) ++ others
one-passed {A} front {others = others} {item = item} split next = split ∙ ap (λ (l : List A). front ++ l) next ∙ sym (append_assoc front (item ∷ []) others)
