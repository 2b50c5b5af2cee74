use Rattle.std.proofs.Common.{◌≡◌, List, length, ap, arith, map, Err, sym, subst, ◌∙◌}
use Rattle.std.proofs.lemmas.Result.{err_from_is_err_and}
use Rattle.graphql_parser.specs.HeadFunds.{heads_bytes}
use Rattle.graphql_parser.proofs.HeadFunds.{heads-push, owed-one}
use Rattle.graphql_parser.proofs.OneDefinition.{no-second}
use Rattle.graphql_tokens.specs.tokens.Token.{Token}
use Rattle.graphql_parser.specs.RequestHeads.{head_of, head_tree, in_heads}
use Rattle.graphql_parser.proofs.RequestHeads.{takes-head, definitions-are}
use Rattle.graphql_reading.proofs.Loops.{stops, goes, ends, shorter, there, given-stays}
use Rattle.graphql_reading.specs.reading.Ahead.{tokens}
use Rattle.graphql_reading.specs.reading.Outcome.{Read, mapped_at, plus_at}
use Rattle.graphql_requests.specs.reading.Request.{definition_first, definition_at, definitions_at}
use Rattle.graphql_parser.proofs.check.definitions.read_heads.Goals as goal

pub returns-in_err-head-clause-gives : goal.returns-in_err-head-clause-gives
returns-in_err-head-clause-gives c =
    let p = err_from_is_err_and c.from_residual.result c.from_residual.ensures.1 in
    let reader = mapped_at head_of (definition_at c.args.limits) in
    rw (p.1, p.2) (there in_heads (Err c.in_err-head.field-0.0) c.args.parser.now c.read_head.new.parser (plus_at definition_first reader) (mapped_at (map head_of) (definitions_at c.args.limits)) (definitions-are c.args.limits (tokens c.args.parser.now))
    (stops head_tree in_heads definition_first reader c.args.parser.now c.loop-heads.parser c.read_head.new.parser _ _ c.loop-heads.invariant.0 c.in_err-head.ensures.gives))

pub returns-then-not-is_next-clause-gives : goal.returns-then-not-is_next-clause-gives
returns-then-not-is_next-clause-gives c =
    let m = ends head_tree definition_first (mapped_at head_of (definition_at c.args.limits)) c.args.parser.now c.loop-heads.parser c.push_small.new.self _ _ _ c.loop-heads.invariant.0 (given-stays head_tree _ c.loop-heads.parser c.read_head.new.parser c.push_small.new.self (mapped_at head_of (definition_at c.args.limits)) c.in_ok-head.ensures.gives c.push_small.ensures.stays) (sym c.is_next.ensures ∙ c.if-not-is_next.true) c.in_ok-push_small.ensures.items in
    (sym (definitions-are c.args.limits (tokens c.args.parser.now)) ∙ m.0, m.1)

pub loop-heads-smaller : goal.loop-heads-smaller
loop-heads-smaller c = shorter head_tree (mapped_at head_of (definition_at c.args.limits)) c.loop-heads.parser c.push_small.new.self _ (takes-head c.args.limits) (given-stays head_tree _ c.loop-heads.parser c.read_head.new.parser c.push_small.new.self (mapped_at head_of (definition_at c.args.limits)) c.in_ok-head.ensures.gives c.push_small.ensures.stays)

pub loop-heads-preserved : goal.loop-heads-preserved
loop-heads-preserved c =
    let reader = mapped_at head_of (definition_at c.args.limits) in
    let given = given-stays head_tree _ c.loop-heads.parser c.read_head.new.parser c.push_small.new.self reader c.in_ok-head.ensures.gives c.push_small.ensures.stays in
    let another = sym c.is_next.ensures ∙ c.if-not-is_next.false in
    let read = λ (before : tokens c.loop-heads.parser ≡ tokens c.args.parser.now).
    subst (λ (ts : List Token). reader ts ≡ Read (head_tree c.in_ok-head.head) (tokens c.push_small.new.self)) before given.0 in (
      goes head_tree definition_first reader c.args.parser.now c.loop-heads.parser c.push_small.new.self _ _ _ (takes-head c.args.limits) c.loop-heads.invariant.0 given another c.in_ok-push_small.ensures.items,
      λ alone. absurd (no-second c.args.limits (tokens c.args.parser.now) (head_tree c.in_ok-head.head) c.push_small.new.self.hand c.push_small.new.self.after alone (read (c.loop-heads.invariant.1 alone).3) another),
      (omega (arith, ap heads_bytes c.in_ok-push_small.ensures.items, heads-push c.loop-heads.heads.items c.in_ok-head.head, c.in_ok-head.ensures.pays, c.in_ok-push_small.ensures.pays), omega (arith, c.in_ok-head.ensures.pays)),
    )

pub returns-then-not-is_next-clause-pays : goal.returns-then-not-is_next-clause-pays
returns-then-not-is_next-clause-pays c =
    let more = ap heads_bytes c.in_ok-push_small.ensures.items in
    let pushed = heads-push c.loop-heads.heads.items c.in_ok-head.head in
    (omega (arith, more, pushed, c.in_ok-head.ensures.pays, c.in_ok-push_small.ensures.pays), omega (arith, c.in_ok-head.ensures.pays))

pub returns-in_err-head-clause-alone : goal.returns-in_err-head-clause-alone
returns-in_err-head-clause-alone c alone =
    let p = err_from_is_err_and c.from_residual.result c.from_residual.ensures.1 in
    rw p.1 (c.read_head.ensures.calm.0 ∙ (c.loop-heads.invariant.1 alone).2, tt)

pub returns-in_err-push_small-clause-alone : goal.returns-in_err-push_small-clause-alone
returns-in_err-push_small-clause-alone c alone =
    let before = c.loop-heads.invariant.1 alone in
    absurd (c.in_err-push_small.ensures.room (omega (arith, ap length before.0, before.1))).1

pub returns-then-not-is_next-clause-alone : goal.returns-then-not-is_next-clause-alone
returns-then-not-is_next-clause-alone c alone =
    let before = c.loop-heads.invariant.1 alone in
    let room = c.push_small.ensures.room (omega (arith, ap length before.0, before.1)) in
    (room.0 ∙ c.read_head.ensures.calm.0 ∙ before.2, owed-one c.loop-heads.heads.items _ c.in_ok-head.head before.0 c.in_ok-push_small.ensures.items)
