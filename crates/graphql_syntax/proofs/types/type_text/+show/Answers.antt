use Rattle.std.proofs.Common.{rules, ◌≡◌, ◌++◌, true, false, refl, sym, ap, ◌∙◌, codes}
use Rattle.std.proofs.Output.{has_written_styled_of_eq, has_written_styled_append}
use Rattle.graphql_syntax.specs.trees.TypeTree.{base_text, type_text, type_tree, mark}
use Rattle.graphql_syntax.proofs.TypeTexts.{text_of_base, has_written_plain}
use Rattle.graphql_syntax.proofs.types.type_text.+show.Goals as goal

pub BaseTypeDisplay::fmt-returns-in_ok-fmt-in-List-clause-styled :
    goal.BaseTypeDisplay::fmt-returns-in_ok-fmt-in-List-clause-styled
BaseTypeDisplay::fmt-returns-in_ok-fmt-in-List-clause-styled g t c flush ok =
    let open_bracket = c.in_ok-write_str-in-List.ensures.styled flush (refl {a = true}) in
    let item = c.in_ok-fmt-in-List.ensures.styled open_bracket.flush (refl {a = true}) in
    let close_bracket = c.write_str-in-List-2.ensures.styled item.flush ok in
    has_written_styled_of_eq _ _ _ _ _ (ap (λ t. codes "[" ++ (type_text (type_tree t) ++ codes "]")) c.deref.ensures ∙ sym (ap base_text c.in-List.is))
    (has_written_styled_append _ _ _ _ _ _ open_bracket (has_written_styled_append _ _ _ _ _ _ item close_bracket))

pub TypeDisplay::fmt-returns-in_ok-write_str-clause-styled :
    goal.TypeDisplay::fmt-returns-in_ok-write_str-clause-styled
TypeDisplay::fmt-returns-in_ok-write_str-clause-styled g t c flush ok =
    let self = c.args.self.now in
    let first = c.in_ok-fmt.ensures.styled flush (refl {a = true}) in
    let is_false : self.nullable ≡ false = search rules in
    has_written_styled_of_eq _ _ _ _ _ (sym (text_of_base self.base self.nullable ∙ ap (λ q. base_text self.base ++ mark q) is_false))
    (has_written_styled_append _ _ _ _ _ _ first (c.in_ok-write_str.ensures.styled first.flush (refl {a = true})))

-- with no options it writes the same
pub TypeDisplay::fmt-returns-in_ok-write_str-clause-writes :
    goal.TypeDisplay::fmt-returns-in_ok-write_str-clause-writes
TypeDisplay::fmt-returns-in_ok-write_str-clause-writes g t c plain ok =
    has_written_plain plain (TypeDisplay::fmt-returns-in_ok-write_str-clause-styled g t c plain.flush ok)
