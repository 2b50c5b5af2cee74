use Rattle.std.proofs.Common.{arith, ◌≡◌, ℕ, List, rules, map, option_map, ◌∷◌, ◌++◌, [], refl, sym, ap, ◌∙◌}
use Rattle.std.proofs.lemmas.List.{map_push}
use Rattle.std.proofs.lemmas.Result.{err_from_is_err_and}
use Rattle.graphql_tokens.specs.tokens.Seen.{seen}
use Rattle.graphql_syntax.specs.trees.ValueTree.{object, fields_of}
use Rattle.graphql_grammar.specs.reading.OpenValues.{object_waits, object_rest, Field, node_at, field_tree, opened, object_tree}
use Rattle.graphql_grammar.specs.reading.Values.{simple_at}
use denote.Param.{param}
use Rattle.graphql_syntax.specs.inner.Rows.{merging}
use Rattle.graphql_reading.proofs.Funds.{each-more}
use Rattle.graphql_reading.proofs.Loops.{given-stays, on-stays}
use Rattle.graphql_grammar.proofs.ValueContents.{Wants, wants-field, ends-object, stops-name, stops-colon, meets-inside, stops-inside, stops-alone, falls, adds, meets-made, meets-stays}
use Rattle.graphql_grammar.proofs.Fields.{merged-map}
use Rattle.graphql_grammar.proofs.value.contents.read_fields.Given.{Over}
use Rattle.graphql_grammar.proofs.value.contents.read_fields.Goals as goal
use Rattle.graphql_grammar.proofs.value.contents.read_fields.Goals.{After-enter}

-- where no brace closes, a name and a colon stand before the value that is wanted
wanted : (g : Over) (c : goal.After-enter g) → Wants (object_rest g.V.Literal.VARIABLES c.args.left) g.V.Literal.VARIABLES c.args.left (object_waits (map (field_tree g.V.Literal.tree) c.loop-parser.fields.items) c.in_ok-name.name) c.loop-parser.parser c.expect_punct.new.self (map (field_tree g.V.Literal.tree) c.loop-parser.fields.items)
wanted g c = wants-field g.V.Literal.VARIABLES c.args.left (map (field_tree g.V.Literal.tree) c.loop-parser.fields.items) c.loop-parser.parser c.take_punct.new.self c.expect_name.new.self c.name.new.self c.expect_punct.new.self (seen c.in_ok-token.token) (seen c.in_ok-expect_punct.field-0) c.in_ok-name.name c.loop-parser-test.ensures.gives c.in_ok-token.ensures.name c.in_ok-name.ensures.name c.name.ensures.stays c.in_ok-expect_punct.ensures.gives

pub returns-in_err-token-clause-gives : goal.returns-in_err-token-clause-gives
returns-in_err-token-clause-gives g c =
    let p = err_from_is_err_and c.from_residual.result c.from_residual.ensures.1 in
    rw (p.1, p.2) (stops-name seen g.V.Literal.VARIABLES c.args.left c.args.parser.now c.loop-parser.parser c.take_punct.new.self (map (field_tree g.V.Literal.tree) c.args.fields.items) (map (field_tree g.V.Literal.tree) c.loop-parser.fields.items) c.loop-parser.invariant.0 c.loop-parser-test.ensures.gives _ c.expect_name.new.self c.in_err-token.ensures.name)

pub returns-in_err-expect_punct-clause-gives : goal.returns-in_err-expect_punct-clause-gives
returns-in_err-expect_punct-clause-gives g c =
    let p = err_from_is_err_and c.from_residual-in_err-expect_punct.result c.from_residual-in_err-expect_punct.ensures.1 in
    rw (p.1, p.2) (stops-colon seen g.V.Literal.VARIABLES c.args.left c.args.parser.now c.loop-parser.parser c.take_punct.new.self (map (field_tree g.V.Literal.tree) c.args.fields.items) (map (field_tree g.V.Literal.tree) c.loop-parser.fields.items) c.loop-parser.invariant.0 c.loop-parser-test.ensures.gives _ c.expect_name.new.self c.name.new.self c.expect_punct.new.self (seen c.in_ok-token.token) c.in_ok-token.ensures.name c.name.ensures.stays c.in_err-expect_punct.ensures.gives)

pub returns-in_err-inner-clause-gives : goal.returns-in_err-inner-clause-gives
returns-in_err-inner-clause-gives g c =
    let p = err_from_is_err_and c.from_residual-in_err-inner.result c.from_residual-in_err-inner.ensures.1 in
    rw (p.1, p.2) (stops-inside c.loop-parser.invariant.0 (wanted g (goal.at.returns-in_err-inner-clause-gives g c).After-enter) (option_map (opened g.V.Literal.tree)) _ c.enter.new.parser c.in_err-inner.ensures.gives)

pub returns-in-Some-clause-gives : goal.returns-in-Some-clause-gives
returns-in-Some-clause-gives g c =
    let found = rw c.in-Some.is at c.in_ok-inner.ensures.gives in
    meets-inside c.loop-parser.invariant.0 (wanted g (goal.at.returns-in-Some-clause-gives g c).After-enter) (opened g.V.Literal.tree c.in-Some.inner) c.enter.new.parser found.0 found.1

pub returns-in_err-value-clause-gives : goal.returns-in_err-value-clause-gives
returns-in_err-value-clause-gives g c =
    let p = err_from_is_err_and c.from_residual-in_err-value.result c.from_residual-in_err-value.ensures.1 in
    let none = rw c.in_default.is at c.in_ok-inner.ensures.gives in
    rw (p.1, p.2) (stops-alone c.loop-parser.invariant.0 (wanted g (goal.at.returns-in_err-value-clause-gives g c).After-enter) record { none = none.0; on = none.1 } g.V.Literal.tree _ c.read_simple.new.parser c.in_err-value.ensures.gives)

pub loop-parser-preserved : goal.loop-parser-preserved
loop-parser-preserved g c =
    let tree = g.V.Literal.tree in
    let held = c.loop-parser.fields.items in
    let none = rw c.in_default.is at c.in_ok-inner.ensures.gives in
    let moved = given-stays tree _ c.enter.new.parser c.read_simple.new.parser c.push.new.self (node_at (simple_at g.V.Literal.VARIABLES)) c.in_ok-value.ensures.gives c.push.ensures.stays in
    let pair : List ℕ × g.row.V.Denot = (c.in_ok-name.name, c.in_ok-value.value) in
    let items : c.push.new.list.items ≡ held ++ pair ∷ [] = search rules in
    let spared = rw c.in_default.is at c.in_ok-inner.ensures.pays in
    let more = each-more (merging (param 1 g.row.V)) _ _ c.in_ok-push.ensures.len in (
      adds c.loop-parser.invariant.0 (wanted g (goal.at.loop-parser-preserved g c).After-enter) {alone = c.enter.new.parser} record { none = none.0; on = none.1 } (tree c.in_ok-value.value) (field_tree tree pair) c.push.new.self (map (field_tree tree) c.push.new.list.items) moved.0 moved.1 refl (ap (map (field_tree tree)) items ∙ map_push (field_tree tree) held pair),
      (omega (arith, spared, more, c.in_ok-token.ensures.pays, c.in_ok-expect_punct.ensures.pays, c.in_ok-value.ensures.pays, c.in_ok-push.ensures.pays, g.met.V.Literal.field_fits), omega (arith, spared, c.in_ok-token.ensures.pays, c.in_ok-expect_punct.ensures.pays, c.in_ok-value.ensures.pays)),
    )

pub loop-parser-smaller : goal.loop-parser-smaller
loop-parser-smaller g c =
    let none = rw c.in_default.is at c.in_ok-inner.ensures.gives in
    let moved = given-stays g.V.Literal.tree _ c.enter.new.parser c.read_simple.new.parser c.push.new.self (node_at (simple_at g.V.Literal.VARIABLES)) c.in_ok-value.ensures.gives c.push.ensures.stays in
    falls c.loop-parser.invariant.0 (wanted g (goal.at.loop-parser-smaller g c).After-enter) {alone = c.enter.new.parser} record { none = none.0; on = none.1 } (g.V.Literal.tree c.in_ok-value.value) c.push.new.self moved.0

pub returns-clause-gives : goal.returns-clause-gives
returns-clause-gives g c =
    let tree = g.V.Literal.tree in
    let held = c.loop-parser.fields.items in
    let made : tree c.object.result ≡ object_tree (map (field_tree tree) held) =
    c.object.ensures
    ∙ ap (λ (l : List (List ℕ × g.row.V.Denot)). object (fields_of (map (field_tree tree) l))) c.in_ok-merge.ensures.merged
    ∙ ap (λ (l : List Field). object (fields_of l)) (sym (merged-map tree held)) in
    let ends = ends-object g.V.Literal.VARIABLES c.args.left c.args.parser.now c.loop-parser.parser c.take_punct.new.self (map (field_tree tree) c.args.fields.items) (map (field_tree tree) held) c.loop-parser.invariant.0 c.loop-parser-test.ensures.gives in
    meets-made made (meets-stays g.V.Literal.VARIABLES c.args.left _ c.args.parser.now c.take_punct.new.self c.merge.new.parser _ ends.0 c.merge.ensures.stays, on-stays c.args.parser.now c.take_punct.new.self c.merge.new.parser ends.1 c.merge.ensures.stays)

pub returns-in_err-push-clause-pays : goal.returns-in_err-push-clause-pays
returns-in_err-push-clause-pays g c =
    let p = err_from_is_err_and c.from_residual-in_err-push.result c.from_residual-in_err-push.ensures.1 in
    let spared = rw c.in_default.is at c.in_ok-inner.ensures.pays in
    rw p.1 (omega (arith, spared, c.in_ok-token.ensures.pays, c.in_ok-expect_punct.ensures.pays, c.in_ok-value.ensures.pays, c.push.ensures.takes, g.met.V.Literal.field_fits), omega (arith, spared, c.in_ok-token.ensures.pays, c.in_ok-expect_punct.ensures.pays, c.in_ok-value.ensures.pays))
