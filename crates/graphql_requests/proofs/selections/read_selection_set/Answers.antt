use Rattle.std.proofs.Common.{◌≡◌, ℕ, ◌+◌, ◌-◌, ◌*◌, List, length, reverse, sym, ap, ap₂, ◌∙◌, arith, Vec, vec_len, vec_capacity, Global}
use Rattle.graphql_memory.proofs.Costs.{same_places}
use Rattle.graphql_requests.specs.reading.SelectionFunds.{selection_row, selections_credit}
use Rattle.graphql_memory.specs.Memory.{bytes, price}
use Rattle.std.proofs.lemmas.List.{length-map}
use Rattle.std.proofs.lemmas.Result.{err_from_is_err_and}
use Rattle.graphql_tokens.specs.tokens.Seen.{seen}
use Rattle.graphql_tokens.specs.tokens.Token.{Token}
use Rattle.graphql_requests.specs.reading.Selections.{selection_set_at}
use Rattle.graphql_syntax.specs.trees.Parts.{placed}
use Rattle.graphql_trees.specs.trees.RequestViews.{selection_tree, selection_trees, selection_set_tree}
use Rattle.graphql_reading.specs.reading.Ahead.{tokens}
use Rattle.graphql_requests.proofs.HeadTakes.{head-nests, onto-takes}
use Rattle.graphql_reading.proofs.Loops.{given-stays}
use Rattle.graphql_requests.proofs.OpenParts.{may-enter, entered, left, none-around, opens, enters, reads, again, ends, leaves, reads-not, wanted-stays, after-stays}
use Rattle.graphql_requests.proofs.OpenSets.{opens-not}
use Rattle.graphql_requests.proofs.selections.read_selection_set.Goals as goal

pub returns-in_err-brace-clause-gives : goal.returns-in_err-brace-clause-gives
returns-in_err-brace-clause-gives c =
    let p = err_from_is_err_and c.from_residual.result c.from_residual.ensures.1 in
    rw (p.1, p.2) (opens-not c.args.limits.values c.args.limits.selections c.args.parser.now c.expect_punct.new.self _ c.in_err-brace.ensures.gives)

pub loop-outer-init : goal.loop-outer-init
loop-outer-init c =
    let none = ap length c.empty_small_list-outer.ensures.items in
    record {
      nested = omega (arith, none);
      paid = (omega (arith, c.in_ok-brace.ensures.pays, ap length c.empty_list-items.ensures.items, c.empty_list-items.result.ok, c.empty_list-items.ensures.free, c.empty_small_list-outer.ensures.free), omega (arith, c.in_ok-brace.ensures.pays));
      wanted = opens (seen c.in_ok-brace.brace) c.in_ok-brace.ensures.gives (ap selection_trees c.empty_list-items.ensures.items) (ap reverse c.empty_small_list-outer.ensures.items) (omega (arith, none));
    }

pub returns-in_err-place-clause-gives : goal.returns-in_err-place-clause-gives
returns-in_err-place-clause-gives c =
    let p = err_from_is_err_and c.from_residual-in_err-place.result c.from_residual-in_err-place.ensures.1 in
    let may = may-enter c.loop-outer.outer.items c.len.ensures.value c.selections.ensures in
    rw (p.1, p.2) (reads-not c.read_head.new.parser _ may c.in_err-place.ensures.gives c.loop-outer.invariant.wanted)

pub loop-outer-smaller-in-Some : goal.loop-outer-smaller-in-Some
loop-outer-smaller-in-Some c =
    let shorter = onto-takes c.args.limits.values _ _ (tokens c.loop-outer.parser) _ (tokens c.read_head.new.parser) c.in_ok-place.ensures.gives.0 in
    let same = ap (λ (l : List Token). length l) c.push_small.ensures.stays.1 in
    omega (arith, shorter, same)

pub loop-outer-preserved-in-Some : goal.loop-outer-preserved-in-Some
loop-outer-preserved-in-Some c =
    let may = may-enter c.loop-outer.outer.items c.len.ensures.value c.selections.ensures in
    let head = rw c.in-Some.is at c.in_ok-place.ensures.gives in
    let nests = sym may ∙ head-nests c.args.limits.values _ (selection_trees c.loop-outer.items.items) _ _ (tokens c.loop-outer.parser) _ head.0 in
    let e = entered c.loop-outer.outer.items c.push_small.new.list.items c.loop-outer.own nests c.in_ok-push_small.ensures.items in
    record {
      nested = e.2;
      paid = (let more = rw c.in-Some.is at c.in_ok-place.ensures.pays in (omega (arith, c.loop-outer.invariant.paid, more, c.in_ok-push_small.ensures.pays), omega (arith, c.loop-outer.invariant.paid, more)));
      wanted = wanted-stays {now = c.read_head.new.parser} c.push_small.new.self c.push_small.ensures.stays (enters (selection_trees c.read_head.new.items.items) may head e.0 e.1
          (omega (arith, c.len-in-Some.ensures, c.read_head.new.items.ok.0, length-map c.read_head.new.items.items (placed selection_tree)))
          c.loop-outer.invariant.wanted);
    }

pub loop-nests-init : goal.loop-nests-init
loop-nests-init c =
    let may = may-enter c.loop-outer.outer.items c.len.ensures.value c.selections.ensures in
    record {
      nested = c.loop-outer.invariant.nested;
      paid = (let more = rw c.in_default.is at c.in_ok-place.ensures.pays in (omega (arith, c.loop-outer.invariant.paid, more), omega (arith, c.loop-outer.invariant.paid, more)));
      behind = reads (selection_trees c.read_head.new.items.items) may (rw c.in_default.is at c.in_ok-place.ensures.gives) c.loop-outer.invariant.wanted;
    }

pub loop-outer-smaller : goal.loop-outer-smaller
loop-outer-smaller c =
    let shorter = onto-takes c.args.limits.values _ _ (tokens c.loop-outer.parser) _ (tokens c.read_head.new.parser) c.in_ok-place.ensures.gives.0 in
    omega (arith, shorter, c.loop-nests.invariant.behind.kept.less)

pub loop-outer-preserved : goal.loop-outer-preserved
loop-outer-preserved c = record {
  nested = c.loop-nests.invariant.nested;
  paid = c.loop-nests.invariant.paid;
  wanted = again (sym c.is_at_punct.ensures ∙ c.loop-nests-test.false) c.loop-nests.invariant.behind;
}

pub returns-in-None-clause-gives : goal.returns-in-None-clause-gives
returns-in-None-clause-gives c =
    given-stays (placed selection_set_tree) c.in_ok-set.set c.args.parser.now c.advance.new.self c.close.new.parser (selection_set_at c.args.limits.values c.args.limits.selections)
    (ends c.advance.new.self (sym c.is_at_punct.ensures ∙ c.loop-nests-test.true) c.advance.ensures.left (c.advance.ensures.source, omega (arith, c.advance.ensures.taken)) (none-around c.loop-nests.outer.items c.in-None.ensures.variant.1) c.in_ok-set.ensures.set c.loop-nests.invariant.behind) c.close.ensures.stays

-- the credit of a list is by its length and its capacity
credit_of : {X : Type 0} (old new : Vec X Global) → vec_len new ≡ vec_len old → vec_capacity new ≡ vec_capacity old → selections_credit new ≡ selections_credit old
credit_of old new e f = ap₂ (λ (n k : ℕ). price selection_row * n - bytes selection_row * k + bytes selection_row * n) e f

pub loop-nests-preserved : goal.loop-nests-preserved
loop-nests-preserved c =
    let places = same_places 8 c.loop-nests.outer c.pop.new.self c.in-Some-pop.ensures.capacity in
    let l = left c.loop-nests.outer.items c.pop.new.self.items c.in-Some-pop.around c.loop-nests.invariant.nested c.in-Some-pop.ensures.items in
    record {
      nested = l.1;
      paid = rw (places, credit_of c.close.new.items c.fill_last.new.items c.fill_last.ensures.len c.fill_last.ensures.capacity) (omega (arith, c.loop-nests.invariant.paid, c.advance.ensures.pays, c.close.ensures.takes, c.in_ok-set.ensures.len, c.in_ok-set.ensures.fewer, c.in_ok-set.ensures.credit, c.in-Some-pop.ensures.len), omega (arith, c.loop-nests.invariant.paid, c.advance.ensures.pays, c.close.ensures.takes));
      behind = after-stays {now = c.advance.new.self} c.close.new.parser c.close.ensures.stays (leaves c.in-Some-pop.around c.advance.new.self (sym c.is_at_punct.ensures ∙ c.loop-nests-test.true) c.advance.ensures.left (c.advance.ensures.source, omega (arith, c.advance.ensures.taken)) l.0 c.in_ok-set.ensures.set c.in_ok-set.ensures.rest c.fill_last.ensures.trees c.loop-nests.invariant.behind);
    }
