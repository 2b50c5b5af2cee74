-- The trees of selections that the code makes and changes.
use Rattle.std.proofs.Common.{◌≡◌, ℕ, zero, suc, List, [], ◌∷◌, length, sym, ap, ◌∙◌, slice_set, slice_index_or, arith}
use Rattle.graphql_tokens.specs.declared.pos.Positioned.{Positioned}
use Rattle.graphql_trees.specs.declared.executable.Field.{Field, out-Field, roll-Field, fold-roll-Field, fold_out-Field}
use Rattle.graphql_trees.specs.declared.executable.InlineFragment.{InlineFragment, out-InlineFragment, roll-InlineFragment, fold-roll-InlineFragment, fold_out-InlineFragment}
use Rattle.graphql_trees.specs.declared.executable.FragmentSpread.{FragmentSpread}
use Rattle.graphql_trees.specs.declared.executable.Selection.{Selection, fold-roll-Selection}
use Rattle.graphql_trees.specs.declared.executable.Selection.TheOpen.{Selection-F}
use Rattle.graphql_trees.specs.declared.executable.Selection.TheVariants as selections
use Rattle.graphql_trees.specs.declared.executable.Selection.TheViews.{rolls-Field, rolls-FragmentSpread, rolls-InlineFragment}
use Rattle.graphql_trees.specs.declared.executable.SelectionSet.{SelectionSet}
use Rattle.graphql_trees.specs.trees.Request as request
use Rattle.graphql_syntax.specs.trees.Parts.{placed}
use Rattle.graphql_trees.specs.trees.RequestViews.{selection_step, field_step, inline_fragment_step, selection_set_step, selection_tree, field_tree, fragment_spread_tree, inline_fragment_tree, selection_set_tree, selection_trees}
use Rattle.graphql_requests.specs.grammar.Selections.{Set}
use Rattle.graphql_requests.specs.reading.SelectionSteps.{with_set, fill_last}

-- ---- what a selection stands for, by its case

pub of-field : (f : Positioned Field) → selection_tree (selections.Field f) ≡ request.of_field (placed field_tree f)
of-field f = ap selection_tree (sym (rolls-Field f)) ∙ fold-roll-Selection request.Selection request.Field request.InlineFragment request.SelectionSet selection_step field_step inline_fragment_step selection_set_step (Selection-F.Field f)

of-spread : (s : Positioned FragmentSpread) → selection_tree (selections.FragmentSpread s) ≡ request.fragment_spread (placed fragment_spread_tree s)
of-spread s = ap selection_tree (sym (rolls-FragmentSpread s)) ∙ fold-roll-Selection request.Selection request.Field request.InlineFragment request.SelectionSet selection_step field_step inline_fragment_step selection_set_step (Selection-F.FragmentSpread s)

pub of-inline : (i : Positioned InlineFragment) → selection_tree (selections.InlineFragment i) ≡ request.of_inline_fragment (placed inline_fragment_tree i)
of-inline i = ap selection_tree (sym (rolls-InlineFragment i)) ∙ fold-roll-Selection request.Selection request.Field request.InlineFragment request.SelectionSet selection_step field_step inline_fragment_step selection_set_step (Selection-F.InlineFragment i)

-- ---- what it stands for with another set

pub field-with : (f : Positioned Field) (set : Positioned SelectionSet) → selection_tree (selections.Field (record f { node = roll-Field (record (out-Field f.node) { selection_set = set }) })) ≡ with_set (placed selection_set_tree set) (selection_tree (selections.Field f))
field-with f set =
    let g : request.Field → request.Selection = λ n. request.of_field (record { pos = f.pos; node = n }) in
    of-field _ ∙ ap g (fold-roll-Field request.Selection request.Field request.InlineFragment request.SelectionSet selection_step field_step inline_fragment_step selection_set_step _)
    ∙ sym (ap (with_set (placed selection_set_tree set)) (of-field f ∙ ap g (fold_out-Field request.Selection request.Field request.InlineFragment request.SelectionSet selection_step field_step inline_fragment_step selection_set_step f.node)))

-- a spread has none
pub spread-with : (s : Positioned FragmentSpread) (set : Set) → selection_tree (selections.FragmentSpread s) ≡ with_set set (selection_tree (selections.FragmentSpread s))
spread-with s set = of-spread s ∙ sym (ap (with_set set) (of-spread s))

pub inline-with : (i : Positioned InlineFragment) (set : Positioned SelectionSet) → selection_tree (selections.InlineFragment (record i { node = roll-InlineFragment (record (out-InlineFragment i.node) { selection_set = set }) })) ≡ with_set (placed selection_set_tree set) (selection_tree (selections.InlineFragment i))
inline-with i set =
    let g : request.InlineFragment → request.Selection = λ n. request.of_inline_fragment (record { pos = i.pos; node = n }) in
    of-inline _ ∙ ap g (fold-roll-InlineFragment request.Selection request.Field request.InlineFragment request.SelectionSet selection_step field_step inline_fragment_step selection_set_step _)
    ∙ sym (ap (with_set (placed selection_set_tree set)) (of-inline i ∙ ap g (fold_out-InlineFragment request.Selection request.Field request.InlineFragment request.SelectionSet selection_step field_step inline_fragment_step selection_set_step i.node)))

-- ---- the last of a list, with another set

pub last-with : (xs : List (Positioned Selection)) (n : ℕ) (last : Positioned Selection) (node : Selection) (set : Set) → suc n ≡ length xs → last ≡ slice_index_or xs n last → selection_tree node ≡ with_set set (selection_tree last.node) → selection_trees (slice_set xs n (record { pos = last.pos; node = node })) ≡ fill_last (selection_trees xs) set
last-with [] n last node set size is e = absurd (omega (arith, size))
last-with (x ∷ []) zero last node set size is e =
    let same : last ≡ x = is in
    ap (λ (t : request.Selection). record { pos = last.pos; node = t } ∷ []) e
    ∙ ap (λ (p : Positioned Selection). placed (with_set set) (placed selection_tree p) ∷ []) same
last-with (x ∷ []) (suc n) last node set size is e = absurd (omega (arith, size))
last-with (x ∷ y ∷ ys) zero last node set size is e = absurd (omega (arith, size))
last-with (x ∷ y ∷ ys) (suc n) last node set size is e = ap (λ (l : List (Positioned request.Selection)). placed selection_tree x ∷ l) (last-with (y ∷ ys) n last node set (omega (arith, size)) is e)
