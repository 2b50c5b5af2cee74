-- The texts of the parts of a value, one after another, and the writing of them; and how large a value is, by which it ends.
use Rattle.std.proofs.Common.{◌≡◌, ℕ, suc, ◌+◌, List, [], ◌∷◌, ◌++◌, codes, flat_map, append_assoc, append-nil, refl, sym, ap, ◌∙◌}
use Rattle.std.proofs.Output.{has_written_styled_of_eq, has_written_styled_append}
use Rattle.std.specs.Fmt.{HasWrittenStyled, IsFlush}
use Rattle.std.specs.declared.fmt.Formatter.{Formatter}
use Rattle.graphql_syntax.specs.trees.ValueTree.{Tree, variable, null, number, string, boolean, enumeration, list, object, Trees, no_trees, more_trees, Fields, no_fields, field}
use Rattle.graphql_syntax.specs.trees.ValueText.{listed}

-- ---- joined texts, from the front

-- the first after `before`, and each other after `, `
abbrev pub after : List ℕ → List (List ℕ) → List ℕ
after before [] = []
after before (text ∷ texts) = before ++ (text ++ after (codes ", ") texts)

others-after : (texts : List (List ℕ)) → flat_map (λ text. codes ", " ++ text) texts ≡ after (codes ", ") texts
others-after [] = refl
others-after (text ∷ texts) = ap (λ rest. (codes ", " ++ text) ++ rest) (others-after texts)

listed-after : (texts : List (List ℕ)) → listed texts ≡ after [] texts
listed-after [] = refl
listed-after (text ∷ texts) = ap (λ rest. text ++ rest) (others-after texts)

-- one text more
after-more : (done before text : List ℕ) (texts : List (List ℕ)) (all : List ℕ) → done ++ after before (text ∷ texts) ≡ all → (done ++ (before ++ text)) ++ after (codes ", ") texts ≡ all
after-more done before text texts all e =
    append_assoc done (before ++ text) (after (codes ", ") texts) ∙ ap (λ rest. done ++ rest) (append_assoc before text (after (codes ", ") texts)) ∙ e

-- ---- a bracket and joined texts, as they are written

module _ {W : Type 0} (took : W → List ℕ → W → Type 0) (bracket : List ℕ) (texts : List (List ℕ)) where
  -- g is f after writing the bracket and the texts that come before those left, the next of which stands after `before`
  abbrev pub HasWrittenTexts : Formatter W → List ℕ → List (List ℕ) → Formatter W → Type 0
  HasWrittenTexts f before left g =
      IsFlush f → (done : List ℕ) × HasWrittenStyled took f done g × (done ++ after before left ≡ bracket ++ after [] texts)

  -- and one text more
  pub has_written_text : (f g h i : Formatter W) (before text : List ℕ) (left others : List (List ℕ)) → left ≡ text ∷ others → HasWrittenTexts f before left g →
      (IsFlush g → HasWrittenStyled took g before h) → (IsFlush h → HasWrittenStyled took h text i) → HasWrittenTexts f (codes ", ") others i
  has_written_text f g h i before text left others steps so_far first more flush =
      let so = so_far flush in
      let comma = first so.1.flush in (
        so.0 ++ (before ++ text),
        has_written_styled_append _ _ _ _ _ _ so.1 (has_written_styled_append _ _ _ _ _ _ comma (more comma.flush)),
        after-more so.0 before text others _ (ap (λ ts. so.0 ++ after before ts) (sym steps) ∙ so.2),
      )

  -- and the other bracket, when none is left
  pub has_written_all : (f g h : Formatter W) (before other : List ℕ) (left : List (List ℕ)) → left ≡ [] →
      HasWrittenTexts f before left g → (IsFlush g → HasWrittenStyled took g other h) → IsFlush f → HasWrittenStyled took f (bracket ++ (listed texts ++ other)) h
  has_written_all f g h before other left none so_far close flush =
      let so = so_far flush in
      let all = sym (append-nil so.0) ∙ ap (λ ts. so.0 ++ after before ts) (sym none) ∙ so.2 ∙ ap (λ ts. bracket ++ ts) (sym (listed-after texts)) in
      has_written_styled_of_eq _ _ _ _ _ (ap (λ (done : List ℕ). done ++ other) all ∙ append_assoc bracket (listed texts) other)
      (has_written_styled_append _ _ _ _ _ _ so.1 (close so.1.flush))

-- ---- sizes

abbrev mutual
  pub size : Tree → ℕ
  size (variable n) = 1
  size null = 1
  size (number n) = 1
  size (string s) = 1
  size (boolean b) = 1
  size (enumeration n) = 1
  size (list ts) = suc (size_of_items ts)
  size (object fs) = suc (size_of_fields fs)

  pub size_of_items : Trees → ℕ
  size_of_items no_trees = 0
  size_of_items (more_trees t ts) = suc (size t + size_of_items ts)

  pub size_of_fields : Fields → ℕ
  size_of_fields no_fields = 0
  size_of_fields (field n t fs) = suc (size t + size_of_fields fs)
