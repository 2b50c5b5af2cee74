use Rattle.std.proofs.Common.{arith, map, option_map, refl, ap, ◌∙◌}
use Rattle.std.proofs.lemmas.List.{map_push}
use Rattle.std.proofs.lemmas.Result.{err_from_is_err_and}
use Rattle.graphql_syntax.specs.trees.ValueTree.{Tree}
use Rattle.graphql_grammar.specs.reading.OpenValues.{list_waits, list_rest, node_at, opened}
use Rattle.graphql_grammar.specs.reading.Values.{simple_at}
use Rattle.graphql_reading.proofs.Loops.{given-stays}
use Rattle.graphql_grammar.proofs.ValueContents.{Wants, wants-item, ends-list, meets-inside, stops-inside, stops-alone, falls, adds, meets-made}
use Rattle.graphql_grammar.proofs.value.contents.read_items.Given.{Over}
use Rattle.graphql_grammar.proofs.value.contents.read_items.Goals as goal
use Rattle.graphql_grammar.proofs.value.contents.read_items.Goals.{After-enter}

-- where no bracket closes, an item is wanted
wanted : (g : Over) (c : goal.After-enter g) → Wants (list_rest g.V.Literal.VARIABLES c.args.left) g.V.Literal.VARIABLES c.args.left (list_waits (map g.V.Literal.tree c.loop-parser.items.items)) c.loop-parser.parser c.take_punct.new.self (map g.V.Literal.tree c.loop-parser.items.items)
wanted g c = wants-item g.V.Literal.VARIABLES c.args.left (map g.V.Literal.tree c.loop-parser.items.items) c.loop-parser.parser c.take_punct.new.self c.loop-parser-test.ensures.gives

pub returns-in_err-inner-clause-gives : goal.returns-in_err-inner-clause-gives
returns-in_err-inner-clause-gives g c =
    let p = err_from_is_err_and c.from_residual.result c.from_residual.ensures.1 in
    rw (p.1, p.2) (stops-inside c.loop-parser.invariant.0 (wanted g (goal.at.returns-in_err-inner-clause-gives g c).After-enter) (option_map (opened g.V.Literal.tree)) _ c.enter.new.parser c.in_err-inner.ensures.gives)

pub returns-in-Some-clause-gives : goal.returns-in-Some-clause-gives
returns-in-Some-clause-gives g c =
    let found = rw c.in-Some.is at c.in_ok-inner.ensures.gives in
    meets-inside c.loop-parser.invariant.0 (wanted g (goal.at.returns-in-Some-clause-gives g c).After-enter) (opened g.V.Literal.tree c.in-Some.inner) c.enter.new.parser found.0 found.1

pub returns-in_err-item-clause-gives : goal.returns-in_err-item-clause-gives
returns-in_err-item-clause-gives g c =
    let p = err_from_is_err_and c.from_residual-in_err-item.result c.from_residual-in_err-item.ensures.1 in
    let none = rw c.in_default.is at c.in_ok-inner.ensures.gives in
    rw (p.1, p.2) (stops-alone c.loop-parser.invariant.0 (wanted g (goal.at.returns-in_err-item-clause-gives g c).After-enter) record { none = none.0; on = none.1 } g.V.Literal.tree _ c.read_simple.new.parser c.in_err-item.ensures.gives)

pub loop-parser-preserved : goal.loop-parser-preserved
loop-parser-preserved g c =
    let tree = g.V.Literal.tree in
    let held = c.loop-parser.items.items in
    let none = rw c.in_default.is at c.in_ok-inner.ensures.gives in
    let moved = given-stays tree _ c.enter.new.parser c.read_simple.new.parser c.push.new.self (node_at (simple_at g.V.Literal.VARIABLES)) c.in_ok-item.ensures.gives c.push.ensures.stays in
    let t : Tree = tree c.in_ok-item.item in
    let spared = rw c.in_default.is at c.in_ok-inner.ensures.pays in (
      adds c.loop-parser.invariant.0 (wanted g (goal.at.loop-parser-preserved g c).After-enter) {alone = c.enter.new.parser} record { none = none.0; on = none.1 } t t c.push.new.self (map tree c.push.new.list.items) moved.0 moved.1 refl (ap (map tree) c.in_ok-push.ensures.items ∙ map_push tree held c.in_ok-item.item),
      (omega (arith, spared, c.in_ok-item.ensures.pays, c.in_ok-push.ensures.pays, g.met.V.Literal.value_fits), omega (arith, spared, c.in_ok-item.ensures.pays)),
    )

pub loop-parser-smaller : goal.loop-parser-smaller
loop-parser-smaller g c =
    let none = rw c.in_default.is at c.in_ok-inner.ensures.gives in
    let moved = given-stays g.V.Literal.tree _ c.enter.new.parser c.read_simple.new.parser c.push.new.self (node_at (simple_at g.V.Literal.VARIABLES)) c.in_ok-item.ensures.gives c.push.ensures.stays in
    falls c.loop-parser.invariant.0 (wanted g (goal.at.loop-parser-smaller g c).After-enter) {alone = c.enter.new.parser} record { none = none.0; on = none.1 } (g.V.Literal.tree c.in_ok-item.item) c.push.new.self moved.0

pub returns-clause-gives : goal.returns-clause-gives
returns-clause-gives g c = meets-made c.list.ensures (ends-list g.V.Literal.VARIABLES c.args.left c.args.parser.now c.loop-parser.parser c.take_punct.new.self (map g.V.Literal.tree c.args.items.items) (map g.V.Literal.tree c.loop-parser.items.items) c.loop-parser.invariant.0 c.loop-parser-test.ensures.gives)
