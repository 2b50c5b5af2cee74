use Rattle.std.proofs.Common.{ℕ, List, [], ◌∷◌, ◌++◌, flat_map, encode_utf8_all, map-id, sym, ap, ◌∙◌}
use lib.Utf8.{encode}
use Rattle.std.proofs.lemmas.Iterator.{YieldsList-from_chars}
use Rattle.std.proofs.lemmas.Iterator.Consumers.{YieldsList-end}
use Rattle.std.proofs.lemmas.List.{flat_map_more}
use Rattle.std.proofs.lemmas.Str.{encodes-append}
use Rattle.graphql_printer.specs.inner.Strings.{unit_for}
use Rattle.graphql_printer.proofs.strings.quoted_text.Goals as goal

pub loop-c-preserved : goal.loop-c-preserved
loop-c-preserved c =
    let units = encode_utf8_all (flat_map unit_for c.loop-c.yielded) in
    c.in_ok-push_unit.ensures
    ∙ ap (λ l. l ++ encode_utf8_all (unit_for c.in-Some.c)) c.loop-c.invariant
    ∙ ap (λ (x : List ℕ). 34 ∷ x) (sym (encodes-append (flat_map unit_for c.loop-c.yielded) (unit_for c.in-Some.c)) ∙ ap encode_utf8_all (flat_map_more unit_for [] c.loop-c.yielded c.in-Some.c))

pub returns : goal.returns
unfolding encode
returns c =
    let end = YieldsList-end (YieldsList-from_chars c.args.text.now c.utf8.text cc) c.loop-c.yielded _ c.loop-c.yielded_by _ _ c.in-None.is c.next.ensures.steps in
    c.in_ok-push-2.ensures.bytes
    ∙ ap (λ (l : List ℕ). l ++ 34 ∷ []) c.loop-c.invariant
    ∙ ap (λ cs. 34 ∷ (encode_utf8_all (flat_map unit_for cs) ++ 34 ∷ [])) (sym (map-id c.loop-c.yielded) ∙ end.0)
