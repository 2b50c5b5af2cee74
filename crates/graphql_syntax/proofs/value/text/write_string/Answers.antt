use Rattle.std.proofs.Common.{ℕ, true, List, [], ◌∷◌, ◌++◌, flat_map, encode_utf8_all, map-id, refl, sym, ap, ◌∙◌}
use Rattle.std.proofs.Output.{has_written_styled_of_eq, has_written_styled_append}
use Rattle.std.proofs.lemmas.Iterator.{YieldsList-from_chars}
use Rattle.std.proofs.lemmas.Iterator.Consumers.{YieldsList-end}
use Rattle.std.proofs.lemmas.List.{flat_map_more}
use Rattle.std.proofs.lemmas.Str.{encodes-append}
use Rattle.graphql_syntax.specs.trees.ValueText.{unit_for}
use Rattle.graphql_syntax.proofs.value.text.write_string.Goals as goal

pub loop-c-preserved : goal.loop-c-preserved
loop-c-preserved g c = λ flush.
    let so_far = c.loop-c.invariant flush in
    let unit = c.in_ok-write_unit.ensures so_far.flush (refl {a = true}) in
    has_written_styled_of_eq _ _ _ _ _ (ap (λ (x : List ℕ). 34 ∷ x) (sym (encodes-append (flat_map unit_for c.loop-c.yielded) (unit_for c.in-Some.c)) ∙ ap encode_utf8_all (flat_map_more unit_for [] c.loop-c.yielded c.in-Some.c)))
    (has_written_styled_append _ _ _ _ _ _ so_far unit)

pub returns : goal.returns
returns g c flush ok =
    let end = YieldsList-end (YieldsList-from_chars c.args.text.now c.utf8.text cc) c.loop-c.yielded _ c.loop-c.yielded_by _ _ c.in-None.is c.next.ensures.steps in
    let so_far = c.loop-c.invariant flush in
    let quote = c.write_str-2.ensures.styled so_far.flush ok in
    has_written_styled_of_eq _ _ _ _ _ (ap (λ cs. 34 ∷ (encode_utf8_all (flat_map unit_for cs) ++ 34 ∷ [])) (sym (map-id c.loop-c.yielded) ∙ end.0))
    (has_written_styled_append _ _ _ _ _ _ so_far quote)
