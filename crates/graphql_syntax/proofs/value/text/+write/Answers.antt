use Rattle.std.proofs.Common.{ℕ, true, List, ◌++◌, codes, refl, sym, ap, ◌∙◌, arith, rules}
use Rattle.std.proofs.Output.{has_written_styled_of_eq, has_written_styled_append}
use Rattle.graphql_syntax.specs.calls.Views.{view_tree, list_items, object_fields}
use Rattle.graphql_syntax.specs.trees.ValueTree.{trees_of, fields_of}
use Rattle.graphql_syntax.specs.trees.ValueText.{value_text, item_texts, field_texts}
use Rattle.graphql_syntax.proofs.ValueTexts.{has_written_text, has_written_all, size_of_items, size_of_fields}
use Rattle.graphql_syntax.proofs.value.text.+write.Goals as goal

pub write_list-loop-item-preserved : goal.write_list-loop-item-preserved
write_list-loop-item-preserved g t c = (
  search rules,
  omega (arith, ap (λ ts. size_of_items (trees_of ts)) c.in-Some.ensures.steps, c.loop-item.invariant.1),
  has_written_text _ (codes "[") (item_texts (trees_of (list_items c.args.items.now))) _ _ _ _ _ _ _ _ (ap (λ ts. item_texts (trees_of ts)) c.in-Some.ensures.steps) c.loop-item.invariant.2 (λ flush. c.in_ok-write_str-2.ensures.styled flush (refl {a = true})) (λ flush. c.in_ok-write_view.ensures flush (refl {a = true})),
)

pub write_list-returns : goal.write_list-returns
write_list-returns g t c flush ok =
    has_written_all _ (codes "[") (item_texts (trees_of (list_items c.args.items.now))) _ _ _ _ (codes "]") _ (ap (λ ts. item_texts (trees_of ts)) c.in-None.ensures.steps.0)
    c.loop-item.invariant.2 (λ flush. c.write_str-2.ensures.styled flush ok) flush

pub write_object-loop-name-preserved : goal.write_object-loop-name-preserved
write_object-loop-name-preserved g t c = (
  search rules,
  omega (arith, ap (λ fs. size_of_fields (fields_of fs)) c.in-Some.ensures.steps, c.loop-name.invariant.1),
  has_written_text _ (codes "{") (field_texts (fields_of (object_fields c.args.fields.now))) _ _ _ _ _ _ _ _ (ap (λ fs. field_texts (fields_of fs)) c.in-Some.ensures.steps) c.loop-name.invariant.2 (λ flush. c.in_ok-write_str-2.ensures.styled flush (refl {a = true})) (λ flush.
      let name = c.in_ok-write_str-3.ensures.styled flush (refl {a = true}) in
      let colon = c.in_ok-write_str-4.ensures.styled name.flush (refl {a = true}) in
      let value = c.in_ok-write_view.ensures colon.flush (refl {a = true}) in
      has_written_styled_append _ _ _ _ _ _ (has_written_styled_of_eq _ _ _ _ _ c.as_str.ensures name) (has_written_styled_append _ _ _ _ _ _ colon value)),
)

pub write_object-returns : goal.write_object-returns
write_object-returns g t c flush ok =
    has_written_all _ (codes "{") (field_texts (fields_of (object_fields c.args.fields.now))) _ _ _ _ (codes "}") _ (ap (λ fs. field_texts (fields_of fs)) c.in-None.ensures.steps.0)
    c.loop-name.invariant.2 (λ flush. c.write_str-2.ensures.styled flush ok) flush

pub write_view-returns-in_ok-write_str-in-Variable :
    goal.write_view-returns-in_ok-write_str-in-Variable
write_view-returns-in_ok-write_str-in-Variable g t c flush ok =
    let sign = c.in_ok-write_str-in-Variable.ensures.styled flush (refl {a = true}) in
    let name = c.write_str-in-Variable.ensures.styled sign.flush ok in
    has_written_styled_of_eq _ _ _ _ _ (ap (λ (n : List ℕ). codes "$" ++ n) c.as_str.ensures ∙ ap (λ v. value_text (view_tree v)) (sym c.in-Variable.is))
    (has_written_styled_append _ _ _ _ _ _ sign name)
