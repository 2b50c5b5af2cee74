-- Bytes determine what they are the bytes of, and where they end.
use Rattle.std.proofs.Common.{◌≡◌, ℕ, ◌/◌, ◌%◌, ◌^◌, Bool, true, false, eqb, Option, Some, None, option_map, List, [], ◌∷◌, ◌++◌, length, map, refl, ap, ap₂, sym, ◌∙◌, append_assoc, append-nil, arith}
use Rattle.std.proofs.lemmas.Bool.{eqb-false}
use Rattle.std.proofs.lemmas.List.{map-id}
use Rattle.std.proofs.lemmas.Iterator.Adapters.{option_map_id}
use Rattle.std.specs.Int.{bytes_low_first}
use Rattle.graphql_parser.specs.types.Pos.{Pos}
use Rattle.graphql_parser.specs.types.Positioned.{Positioned}
use Rattle.graphql_parser.specs.trees.Parts.{placed}
use Rattle.graphql_packed.specs.packed.Bytes.{Bytes, number_bytes, choice, flag, text_bytes, place_bytes, node_bytes, word_bytes, optional_bytes, each_bytes, list_bytes}

-- Where the bytes of two parts begin one list, f gives the same of both, and what comes after them is the same.
pub record Determines {A B : Type 0} (bytes : A → Bytes) (f : A → B) : Type 0 where
  pub by : (a b : A) (r s : Bytes) → bytes a ++ r ≡ bytes b ++ s → (f a ≡ f b) × (r ≡ s)

abbrev pub first : Bytes → ℕ
first [] = 0
first (number ∷ bytes) = number

-- what begins differently isn't one list
pub apart : {P : Type 0} (xs ys : Bytes) → eqb (first xs) (first ys) ≡ false → xs ≡ ys → P
apart xs ys differ e = absurd (eqb-false (first xs) (first ys) differ (ap first e))

-- brackets to the right
pub regrouped : (a b r c d s : Bytes) → (a ++ b) ++ r ≡ (c ++ d) ++ s → a ++ (b ++ r) ≡ c ++ (d ++ s)
regrouped a b r c d s e = sym (append_assoc a b r) ∙ e ∙ append_assoc c d s

-- the first of two parts
pub first_by : {A B : Type 0} {bytes : A → Bytes} {f : A → B} → Determines bytes f → (a b : A) (x y r s : Bytes) → (bytes a ++ x) ++ r ≡ (bytes b ++ y) ++ s → (f a ≡ f b) × (x ++ r ≡ y ++ s)
first_by {bytes = bytes} known a b x y r s e = known.by a b (x ++ r) (y ++ s) (regrouped (bytes a) x r (bytes b) y s e)

-- the bytes of one part, alone
pub only_by : {A B : Type 0} {bytes : A → Bytes} {f : A → B} → Determines bytes f → (whole : Bytes) (a b : A) (more : Bytes) → whole ≡ bytes a → whole ≡ bytes b ++ more → (f b ≡ f a) × (more ≡ [])
only_by {bytes = bytes} known whole a b more is begins = known.by b a more [] (sym begins ∙ is ∙ sym (append-nil (bytes a)))

-- ---- parts of parts

-- bytes after bytes
pub both_determine : {X A B : Type 0} {p q : X → Bytes} {f : X → A} {g : X → B} → Determines p f → Determines q g → Determines {B = A × B} (λ x. p x ++ q x) (λ x. (f x, g x))
both_determine {q = q} before then_ = record {
  by = λ a b r s e.
      let one = first_by before a b (q a) (q b) r s e in
      let two = then_.by a b r s one.1 in
      (ap₂ (λ x y. (x, y)) one.0 two.0, two.1);
}

-- the bytes of a part alone
pub of_part : {X Y A : Type 0} {p : Y → Bytes} {f : Y → A} (part : X → Y) → Determines p f → Determines (λ x. p (part x)) (λ x. f (part x))
of_part part known = record { by = λ a b r s e. known.by (part a) (part b) r s e }

-- what is made of what is determined
pub made_of : {X A B : Type 0} {p : X → Bytes} {f : X → A} (make : A → B) → Determines p f → Determines p (λ x. make (f x))
made_of make known = record { by = λ a b r s e. let same = known.by a b r s e in (ap make same.0, same.1) }

-- ---- numbers, choices and texts

seven : (a b : ℕ) → bytes_low_first 0 7 a ≡ bytes_low_first 0 7 b → a / 256 ^ 7 ≡ b / 256 ^ 7 → a ≡ b
seven a b e h =
    let b0 : a % 256 ≡ b % 256 = cc in
    let b1 : a / 256 ^ 1 % 256 ≡ b / 256 ^ 1 % 256 = cc in
    let b2 : a / 256 ^ 2 % 256 ≡ b / 256 ^ 2 % 256 = cc in
    let b3 : a / 256 ^ 3 % 256 ≡ b / 256 ^ 3 % 256 = cc in
    let b4 : a / 256 ^ 4 % 256 ≡ b / 256 ^ 4 % 256 = cc in
    let b5 : a / 256 ^ 5 % 256 ≡ b / 256 ^ 5 % 256 = cc in
    let b6 : a / 256 ^ 6 % 256 ≡ b / 256 ^ 6 % 256 = cc in
    omega arith

pub number_determined : Determines number_bytes (λ n. n)
unfolding number_bytes
number_determined = record {
  by = λ a b r s e.
      let lows : bytes_low_first 0 7 a ≡ bytes_low_first 0 7 b = cc in
      let top : a / 256 ^ 7 ≡ b / 256 ^ 7 = cc in
      let rest : r ≡ s = cc in
      (seven a b lows top, rest);
}

pub choice_determined : Determines choice (λ n. n)
choice_determined = record { by = λ a b r s e. (cc, cc) }

flags_same : (a b : Bool) (r s : Bytes) → flag a ++ r ≡ flag b ++ s → (a ≡ b) × (r ≡ s)
flags_same false false r s e = (refl, cc)
flags_same true true r s e = (refl, cc)
flags_same _ _ r s e = absurd cc

pub flag_determined : Determines flag (λ b. b)
flag_determined = record { by = flags_same }

-- lists that begin one list, and are as long as each other
fronts_same : {A : Type 0} (xs ys r s : List A) → length xs ≡ length ys → xs ++ r ≡ ys ++ s → (xs ≡ ys) × (r ≡ s)
fronts_same [] [] r s n e = (refl, e)
fronts_same (x ∷ xs) (y ∷ ys) r s n e =
    let front : x ≡ y = cc in
    let more : xs ++ r ≡ ys ++ s = cc in
    let same = fronts_same xs ys r s (cc) more in
    (ap₂ (λ z zs. z ∷ zs) front same.0, same.1)
fronts_same _ _ r s n e = absurd cc

pub text_determined : Determines text_bytes (λ text. text)
text_determined = record {
  by = λ a b r s e.
      let count = first_by number_determined (length a) (length b) a b r s e in
      fronts_same a b r s count.0 count.1;
}

-- ---- places and nodes

pub place_determined : Determines place_bytes (λ pos. pos)
place_determined = made_of (λ (x : ℕ × ℕ). record { line = x.0; column = x.1 }) (both_determine (of_part (λ (pos : Pos). pos.line) number_determined) (of_part (λ (pos : Pos). pos.column) number_determined))

pub node_determined : {A B : Type 0} {bytes : A → Bytes} {f : A → B} → Determines bytes f → Determines (node_bytes bytes) (placed f)
node_determined {A} {B} {f = f} known = made_of {B = Positioned B} (λ (x : Pos × B). record { pos = x.0; node = x.1 }) (both_determine (of_part (λ (part : Positioned A). part.pos) place_determined) (of_part (λ (part : Positioned A). part.node) known))

pub word_determined : Determines word_bytes (λ word. word)
word_determined = node_determined text_determined

-- ---- parts that may be missing, and lists

optional_same : {A B : Type 0} {bytes : A → Bytes} {f : A → B} → Determines bytes f → (a b : Option A) (r s : Bytes) → optional_bytes bytes a ++ r ≡ optional_bytes bytes b ++ s → (option_map f a ≡ option_map f b) × (r ≡ s)
optional_same known None None r s e = (refl, cc)
optional_same {bytes = bytes} {f = f} known (Some a) (Some b) r s e =
    let same = known.by a b r s (cc) in
    (ap Some same.0, same.1)
optional_same known _ _ r s e = absurd cc

pub optional_determined : {A B : Type 0} {bytes : A → Bytes} {f : A → B} → Determines bytes f → Determines (optional_bytes bytes) (option_map f)
optional_determined known = record { by = optional_same known }

each_same : {A B : Type 0} {bytes : A → Bytes} {f : A → B} → Determines bytes f → (xs ys : List A) (r s : Bytes) → length xs ≡ length ys → each_bytes bytes xs ++ r ≡ each_bytes bytes ys ++ s → (map f xs ≡ map f ys) × (r ≡ s)
each_same known [] [] r s n e = (refl, e)
each_same {bytes = bytes} {f = f} known (x ∷ xs) (y ∷ ys) r s n e =
    let first = first_by known x y (each_bytes bytes xs) (each_bytes bytes ys) r s e in
    let others = each_same known xs ys r s (cc) first.1 in
    (ap₂ (λ z zs. z ∷ zs) first.0 others.0, others.1)
each_same known _ _ r s n e = absurd cc

pub list_determined : {A B : Type 0} {bytes : A → Bytes} {f : A → B} → Determines bytes f → Determines (list_bytes bytes) (map f)
list_determined {bytes = bytes} known = record {
  by = λ a b r s e.
      let count = first_by number_determined (length a) (length b) (each_bytes bytes a) (each_bytes bytes b) r s e in
      each_same known a b r s count.0 count.1;
}

-- ---- what is determined whole

pub whole_option : {A : Type 0} {bytes : A → Bytes} → Determines bytes (λ a. a) → Determines (optional_bytes bytes) (λ part. part)
whole_option known = record {
  by = λ a b r s e.
      let same = (optional_determined known).by a b r s e in
      (sym (option_map_id a) ∙ same.0 ∙ option_map_id b, same.1);
}

pub whole_list : {A : Type 0} {bytes : A → Bytes} → Determines bytes (λ a. a) → Determines (list_bytes bytes) (λ items. items)
whole_list known = record {
  by = λ a b r s e.
      let same = (list_determined known).by a b r s e in
      (sym (map-id a) ∙ same.0 ∙ map-id b, same.1);
}
