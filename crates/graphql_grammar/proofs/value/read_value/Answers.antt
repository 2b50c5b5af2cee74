use Rattle.std.proofs.Common.{arith, ◌≡◌, ◌+◌, ◌-◌, length, Ok, Err, option_map, ap, sym, ◌∙◌}
use Rattle.std.proofs.lemmas.Result.{err_from_is_err_and}
use Rattle.graphql_tokens.specs.declared.pos.Positioned.{Positioned}
use Rattle.graphql_tokens.specs.tokens.Token.{Token}
use Rattle.graphql_syntax.specs.trees.Parts.{placed}
use Rattle.graphql_reading.specs.declared.parser.Refusal.{Refusal}
use Rattle.graphql_reading.specs.reading.Ahead.{Ahead, tokens}
use Rattle.graphql_reading.specs.reading.Given.{Gives}
use Rattle.graphql_reading.specs.reading.Outcome.{Read}
use Rattle.graphql_reading.proofs.Loops.{go-on}
use denote.RattleType.{RattleType}
use denote.Param.{param}
use Rattle.graphql_memory.proofs.Costs.{same_places}
use Rattle.graphql_grammar.specs.reading.OpenFunds.{Stops, open_credit, frame_credit, frames_credit}
use Rattle.graphql_grammar.proofs.OpenFrames.{frames-push, stops-in}
use Rattle.graphql_grammar.specs.reading.OpenValues.{opened, met, open_rest, Meets}
use Rattle.graphql_grammar.specs.reading.Values.{value_at}
use Rattle.graphql_grammar.proofs.ValueLoop.{value-stops, value-simple, kept-first, room, kept-stays, kept-popped, kept-entered, kept-closed, kept-stops, none-around, placed-stops, value-stands}
use Rattle.graphql_grammar.proofs.value.read_value.Given.{Over}
use Rattle.graphql_grammar.proofs.value.read_value.Goals as goal
use Rattle.graphql_grammar.proofs.value.read_value.Goals.{After-len, In-Closed, in-List+in_ok-stop-in-List, in-Object+in_ok-stop-in-Object}

pub returns-in_err-first-clause-gives : goal.returns-in_err-first-clause-gives
returns-in_err-first-clause-gives g c =
    let tree = g.V.Literal.tree in
    let vars = g.V.Literal.VARIABLES in
    let stops = rw c.values-limit.ensures at c.in_err-first.ensures.gives in
    let p = err_from_is_err_and c.from_residual.result c.from_residual.ensures.1 in
    rw (p.1, p.2) (placed-stops tree vars c.args.limits.values c.args.parser.now c.enter.new.parser _ (value-stops tree (option_map (opened tree)) vars c.args.limits.values c.args.parser.now c.enter.new.parser _ stops))

pub returns-in_err-read_simple-clause-gives : goal.returns-in_err-read_simple-clause-gives
returns-in_err-read_simple-clause-gives g c =
    let tree = g.V.Literal.tree in
    let vars = g.V.Literal.VARIABLES in
    let none = rw (c.values-limit.ensures, c.in_default.is) at c.in_ok-first.ensures.gives in
    let p = err_from_is_err_and c.from_residual-in_err-read_simple.result c.from_residual-in_err-read_simple.ensures.1 in
    rw (p.1, p.2) (placed-stops tree vars c.args.limits.values c.args.parser.now c.read_simple.new.parser _ (value-simple tree vars c.args.limits.values (Err _) c.args.parser.now c.enter.new.parser c.read_simple.new.parser none.0 none.1 c.in_err-read_simple.ensures.gives))

pub returns-in_default-clause-gives : goal.returns-in_default-clause-gives
returns-in_default-clause-gives g c =
    let tree = g.V.Literal.tree in
    let vars = g.V.Literal.VARIABLES in
    let none = rw (c.values-limit.ensures, c.in_default.is) at c.in_ok-first.ensures.gives in
    let place = ap (λ (p : Positioned g.row.V.Denot). p.pos) c.new.ensures ∙ ap (λ (t : Token). t.pos) c.hand.ensures.token in
    let reads = value-simple tree vars c.args.limits.values (Ok c.in_ok-read_simple.field-0) c.args.parser.now c.enter.new.parser c.read_simple.new.parser none.0 none.1 c.in_ok-read_simple.ensures.gives in
    let node = ap (λ (p : Positioned g.row.V.Denot). Read (tree p.node) (tokens c.read_simple.new.parser)) (sym c.new.ensures) in
    (value-stands tree vars c.args.limits.values c.args.parser.now c.read_simple.new.parser c.new.result place (reads.0 ∙ node), reads.1)

pub loop-innermost-init : goal.loop-innermost-init
loop-innermost-init g c =
    let found = rw (c.values-limit.ensures, c.in-Some.is) at c.in_ok-first.ensures.gives in
    let paid = rw c.in-Some.is at c.in_ok-first.ensures.pays in
    let none = ap (frames_credit (param 0 g.row.V)) c.empty_small_list-outer.ensures.items in (
      kept-first g.V.Literal.tree g.V.Literal.VARIABLES c.args.limits.values c.args.parser.now c.enter.new.parser c.empty_small_list-outer.result.items c.in-Some.first found.0 found.1 c.empty_small_list-outer.ensures.items,
      (omega (arith, paid, none), omega (arith, paid)),
    )

-- so many levels are left, and so many lists and objects are around
levels : (g : Over) (c : goal.After-len g) → c.values-limit.result - c.len.result - 1 + length c.loop-innermost.outer.items + 1 ≡ c.args.limits.values
levels g c = room c.loop-innermost.invariant.0 c.values-limit.result c.len.result c.values-limit.ensures c.len.ensures.value

-- what is refused inside refuses the value
refused-inside : (g : Over) (c : goal.After-len g) (e : Refusal) (new : Ahead) → Meets g.V.Literal.VARIABLES (c.values-limit.result - c.len.result - 1) (met g.V.Literal.tree) (Err e) c.loop-innermost.parser new (open_rest g.V.Literal.VARIABLES (c.values-limit.result - c.len.result - 1) (opened g.V.Literal.tree c.loop-innermost.innermost)) → Gives (placed g.V.Literal.tree) (Err e) c.args.parser.now new (value_at g.V.Literal.VARIABLES c.args.limits.values)
refused-inside g c e new meets =
    let tree = g.V.Literal.tree in
    let k = c.loop-innermost.invariant.0 in
    placed-stops tree g.V.Literal.VARIABLES c.args.limits.values c.args.parser.now new e
    (kept-stops k _ (met tree) e new (levels g c) meets)

pub returns-in_err-stop-in-List-clause-gives : goal.returns-in_err-stop-in-List-clause-gives
returns-in_err-stop-in-List-clause-gives g c =
    let p = err_from_is_err_and c.from_residual-in_err-stop-in-List.result c.from_residual-in_err-stop-in-List.ensures.1 in
    rw (p.1, p.2) (refused-inside g (goal.at.returns-in_err-stop-in-List-clause-gives g c).After-len _ c.read_items.new.parser (rw c.in-List.is c.in_err-stop-in-List.ensures.gives))

pub returns-in_err-stop-in-Object-clause-gives : goal.returns-in_err-stop-in-Object-clause-gives
returns-in_err-stop-in-Object-clause-gives g c =
    let p = err_from_is_err_and c.from_residual-in_err-stop-in-Object.result c.from_residual-in_err-stop-in-Object.ensures.1 in
    rw (p.1, p.2) (refused-inside g (goal.at.returns-in_err-stop-in-Object-clause-gives g c).After-len _ c.read_fields.new.parser (rw c.in-Object.is c.in_err-stop-in-Object.ensures.gives))

-- a list or an object that is closed, whichever it is
closed : (g : Over) (c : In-Closed g) → Meets g.V.Literal.VARIABLES (c.values-limit.result - c.len.result - 1) (met g.V.Literal.tree) (Ok c.match-innermost.stop) c.loop-innermost.parser c.match-innermost.parser (open_rest g.V.Literal.VARIABLES (c.values-limit.result - c.len.result - 1) (opened g.V.Literal.tree c.loop-innermost.innermost))
closed g c = elim c.match-innermost.branch [
  | in-List+in_ok-stop-in-List w ↦ rw (w.in-List.is, w.parser-is, w.stop-is) w.in_ok-stop-in-List.ensures.gives
  | in-Object+in_ok-stop-in-Object w ↦ rw (w.in-Object.is, w.parser-is, w.stop-is) w.in_ok-stop-in-Object.ensures.gives
]

pub returns-in-None-clause-gives : goal.returns-in-None-clause-gives
returns-in-None-clause-gives g c =
    let tree = g.V.Literal.tree in
    let k = c.loop-innermost.invariant.0 in
    let left = c.values-limit.result - c.len.result - 1 in
    let closed = rw c.in-Closed.is at (closed g (goal.at.returns-in-None-clause-gives g c).In-Closed) in
    let none = none-around c.loop-innermost.outer.items c.in-None.ensures.variant.1 in
    let place = ap (λ (p : Positioned g.row.V.Denot). p.pos) c.new-in-None.ensures ∙ ap (λ (t : Token). t.pos) c.hand.ensures.token in
    let node = ap (λ (p : Positioned g.row.V.Denot). Read (tree p.node) (tokens c.match-innermost.parser)) (sym c.new-in-None.ensures) in (
      value-stands tree g.V.Literal.VARIABLES c.args.limits.values c.args.parser.now c.match-innermost.parser c.new-in-None.result place (kept-closed k left (tree c.in-Closed.node) c.match-innermost.parser (levels g (goal.at.returns-in-None-clause-gives g c).After-len) none closed.0 ∙ node),
      go-on c.args.parser.now c.loop-innermost.parser c.match-innermost.parser k.on closed.1,
    )

pub loop-innermost-preserved-in_ok-push_small-in-Entered : goal.loop-innermost-preserved-in_ok-push_small-in-Entered
loop-innermost-preserved-in_ok-push_small-in-Entered g c =
    let tree = g.V.Literal.tree in
    let k = c.loop-innermost.invariant.0 in
    let left = c.values-limit.result - c.len.result - 1 in
    let meets : Meets g.V.Literal.VARIABLES left (met tree) (Ok c.match-innermost.stop) c.loop-innermost.parser c.match-innermost.parser (open_rest g.V.Literal.VARIABLES left (opened tree c.loop-innermost.innermost)) = elim c.match-innermost.branch [
      | in-List+in_ok-stop-in-List w ↦ rw (w.in-List.is, w.parser-is, w.stop-is) w.in_ok-stop-in-List.ensures.gives
      | in-Object+in_ok-stop-in-Object w ↦ rw (w.in-Object.is, w.parser-is, w.stop-is) w.in_ok-stop-in-Object.ensures.gives
    ] in
    let entered = rw c.in-Entered.is at meets in
    let R : RattleType = param 0 g.row.V in
    let paid : Stops R (open_credit R c.loop-innermost.innermost) (Ok c.match-innermost.stop) c.loop-innermost.parser c.match-innermost.parser = elim c.match-innermost.branch [
      | in-List+in_ok-stop-in-List w ↦ rw (w.parser-is, w.stop-is) (stops-in R c.loop-innermost.innermost _ (Ok w.in_ok-stop-in-List.stop) c.loop-innermost.parser w.read_items.new.parser w.in-List.is w.in_ok-stop-in-List.ensures.pays)
      | in-Object+in_ok-stop-in-Object w ↦ rw (w.parser-is, w.stop-is) (stops-in R c.loop-innermost.innermost _ (Ok w.in_ok-stop-in-Object.stop) c.loop-innermost.parser w.read_fields.new.parser w.in-Object.is w.in_ok-stop-in-Object.ensures.pays)
    ] in
    let stop = rw c.in-Entered.is at paid in
    let held : frames_credit R c.push_small.new.list.items ≡ frames_credit R c.loop-innermost.outer.items + frame_credit R c.in-Entered.frame = ap (frames_credit R) c.in_ok-push_small-in-Entered.ensures.items ∙ frames-push R _ _ in (
      kept-stays (kept-entered k left c.match-innermost.parser c.in-Entered.frame c.push_small.new.list.items c.in-Entered.inner (levels g (goal.at.loop-innermost-preserved-in_ok-push_small-in-Entered g c).After-len) c.in_ok-push_small-in-Entered.ensures.items entered.0 entered.1) c.push_small.new.self c.push_small.ensures.stays,
      (omega (arith, stop, held, c.in_ok-push_small-in-Entered.ensures.pays), omega (arith, stop)),
    )

pub loop-innermost-preserved : goal.loop-innermost-preserved
loop-innermost-preserved g c =
    let k = c.loop-innermost.invariant.0 in
    let left = c.values-limit.result - c.len.result - 1 in
    let closed = rw c.in-Closed.is at (closed g (goal.at.loop-innermost-preserved g c).In-Closed) in
    let R : RattleType = param 0 g.row.V in
    let paid : Stops R (open_credit R c.loop-innermost.innermost) (Ok c.match-innermost.stop) c.loop-innermost.parser c.match-innermost.parser = elim c.match-innermost.branch [
      | in-List+in_ok-stop-in-List w ↦ rw (w.parser-is, w.stop-is) (stops-in R c.loop-innermost.innermost _ (Ok w.in_ok-stop-in-List.stop) c.loop-innermost.parser w.read_items.new.parser w.in-List.is w.in_ok-stop-in-List.ensures.pays)
      | in-Object+in_ok-stop-in-Object w ↦ rw (w.parser-is, w.stop-is) (stops-in R c.loop-innermost.innermost _ (Ok w.in_ok-stop-in-Object.stop) c.loop-innermost.parser w.read_fields.new.parser w.in-Object.is w.in_ok-stop-in-Object.ensures.pays)
    ] in
    let stop = rw c.in-Closed.is at paid in
    let held : frames_credit R c.loop-innermost.outer.items ≡ frames_credit R c.pop.new.self.items + frame_credit R c.in-Some-pop.frame = ap (frames_credit R) c.in-Some-pop.ensures.items ∙ frames-push R _ _ in
    let fewer = c.in-Some-pop.ensures.len in
    let places = same_places 2 c.loop-innermost.outer c.pop.new.self c.in-Some-pop.ensures.capacity in (
      kept-stays (kept-popped k left (g.V.Literal.tree c.in-Closed.node) c.match-innermost.parser c.in-Some-pop.frame c.pop.new.self.items c.in_ok-innermost-in-Some-pop.innermost (levels g (goal.at.loop-innermost-preserved g c).After-len) c.in-Some-pop.ensures.items c.in_ok-innermost-in-Some-pop.ensures.filled closed.0 closed.1) c.fill.new.parser c.fill.ensures.stays,
      (rw places (omega (arith, stop, held, fewer, c.in_ok-innermost-in-Some-pop.ensures.pays)), omega (arith, stop)),
    )

pub returns-in-None-clause-pays : goal.returns-in-None-clause-pays
returns-in-None-clause-pays g c =
    let R : RattleType = param 0 g.row.V in
    let paid : Stops R (open_credit R c.loop-innermost.innermost) (Ok c.match-innermost.stop) c.loop-innermost.parser c.match-innermost.parser = elim c.match-innermost.branch [
      | in-List+in_ok-stop-in-List w ↦ rw (w.parser-is, w.stop-is) (stops-in R c.loop-innermost.innermost _ (Ok w.in_ok-stop-in-List.stop) c.loop-innermost.parser w.read_items.new.parser w.in-List.is w.in_ok-stop-in-List.ensures.pays)
      | in-Object+in_ok-stop-in-Object w ↦ rw (w.parser-is, w.stop-is) (stops-in R c.loop-innermost.innermost _ (Ok w.in_ok-stop-in-Object.stop) c.loop-innermost.parser w.read_fields.new.parser w.in-Object.is w.in_ok-stop-in-Object.ensures.pays)
    ] in
    let stop = rw c.in-Closed.is at paid in
    (omega (arith, stop), omega (arith, stop))

pub returns-in_err-innermost-in-Some-pop-clause-pays : goal.returns-in_err-innermost-in-Some-pop-clause-pays
returns-in_err-innermost-in-Some-pop-clause-pays g c =
    let p = err_from_is_err_and c.from_residual-in_err-innermost-in-Some-pop.result c.from_residual-in_err-innermost-in-Some-pop.ensures.1 in
    let R : RattleType = param 0 g.row.V in
    let paid : Stops R (open_credit R c.loop-innermost.innermost) (Ok c.match-innermost.stop) c.loop-innermost.parser c.match-innermost.parser = elim c.match-innermost.branch [
      | in-List+in_ok-stop-in-List w ↦ rw (w.parser-is, w.stop-is) (stops-in R c.loop-innermost.innermost _ (Ok w.in_ok-stop-in-List.stop) c.loop-innermost.parser w.read_items.new.parser w.in-List.is w.in_ok-stop-in-List.ensures.pays)
      | in-Object+in_ok-stop-in-Object w ↦ rw (w.parser-is, w.stop-is) (stops-in R c.loop-innermost.innermost _ (Ok w.in_ok-stop-in-Object.stop) c.loop-innermost.parser w.read_fields.new.parser w.in-Object.is w.in_ok-stop-in-Object.ensures.pays)
    ] in
    let stop = rw c.in-Closed.is at paid in
    let held : frames_credit R c.loop-innermost.outer.items ≡ frames_credit R c.pop.new.self.items + frame_credit R c.in-Some-pop.frame = ap (frames_credit R) c.in-Some-pop.ensures.items ∙ frames-push R _ _ in
    rw p.1 (omega (arith, stop, held, c.in_err-innermost-in-Some-pop.ensures.takes), omega (arith, stop))
