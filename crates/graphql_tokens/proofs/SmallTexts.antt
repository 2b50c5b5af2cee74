-- A text that is copied along with what follows it.
use Rattle.std.proofs.Common.{◌≡◌, ◌∙◌, ◌≤◌, ◌-◌, ℕ, List, length, take, drop, ap, sym}
use Rattle.std.proofs.Math.Seq.{take-length}
use Rattle.std.proofs.lemmas.List.{take-take, length-drop}
use Rattle.graphql_tokens.specs.tokens.Within.{StandsAt}

-- the front of a copy of `room` bytes of the whole is the text that stands there
pub copied_front : (text whole bytes : List ℕ) (start room : ℕ) → StandsAt text whole start → length text ≤ room
    → bytes ≡ take room (take (length whole - start) (drop start whole)) → take (length text) bytes ≡ text
copied_front text whole bytes start room stands fits copy =
    ap (take (length text)) (copy ∙ ap (take room) (all whole start)) ∙ take-take (length text) room (drop start whole) fits ∙ stands.1
  where
    all : (xs : List ℕ) (at : ℕ) → take (length xs - at) (drop at xs) ≡ drop at xs
    all xs at = ap (λ k. take k (drop at xs)) (sym (length-drop at xs)) ∙ take-length (drop at xs)
