use Rattle.std.proofs.Common.{Bool, eqb, ◌&&◌, length, string_bytes, sym, ap, ◌∙◌, arith}
use Rattle.graphql_layout.proofs.Marks.{cut_at, found_boundary, rest_plain, turned, ended, ends_open}
use Rattle.graphql_layout.proofs.blocks.push_body.Goals as goal

pub split_at-requires : goal.split_at-requires
split_at-requires c = found_boundary c.loop-at.rest.now c.as_bytes.result.now c.in-Some.at c.loop-at.invariant.0 c.as_bytes.ensures.value c.in-Some.ensures

pub push_mark-requires : goal.push_mark-requires
push_mark-requires c =
    (cut_at c.loop-at.rest.now c.as_bytes.result.now c.split_at.result.0.now c.split_at.result.1.now c.in-Some.at c.loop-at.invariant.0 c.as_bytes.ensures.value c.in-Some.ensures c.split_at.ensures.front c.split_at.ensures.back).begins

pub loop-at-smaller : goal.loop-at-smaller
loop-at-smaller c =
    let cut = cut_at c.loop-at.rest.now c.as_bytes.result.now c.split_at.result.0.now c.split_at.result.1.now c.in-Some.at c.loop-at.invariant.0 c.as_bytes.ensures.value c.in-Some.ensures c.split_at.ensures.front c.split_at.ensures.back in
    let m = c.in_ok-after.ensures in
    omega (arith, cut.shorter, m.shorter)

pub loop-at-preserved : goal.loop-at-preserved
loop-at-preserved c =
    let cut = cut_at c.loop-at.rest.now c.as_bytes.result.now c.split_at.result.0.now c.split_at.result.1.now c.in-Some.at c.loop-at.invariant.0 c.as_bytes.ensures.value c.in-Some.ensures c.split_at.ensures.front c.split_at.ensures.back in
    let m = c.in_ok-after.ensures in
    let s =
    turned c.args.line_break c.loop-at.rest.now c.split_at.result.0.now c.split_at.result.1.now c.in_ok-after.after.now c.loop-at.is_open c.in_ok-after.opens (string_bytes c.args.out.now) (string_bytes c.loop-at.out) (string_bytes c.push_str.new.self)
    (string_bytes c.push_mark.new.out) c.args.value.now cut (c.loop-at.invariant.1, c.loop-at.invariant.2) c.in_ok-push_str.ensures.bytes m in
    (m.utf8, s.0, s.1)

pub returns-then-is_open-clause-written : goal.returns-then-is_open-clause-written
returns-then-is_open-clause-written c =
    ended c.args.line_break c.loop-at.rest.now c.loop-at.is_open (string_bytes c.args.out.now) (string_bytes c.loop-at.out) (string_bytes c.push_str-2.new.self) c.args.value.now c.loop-at.invariant.0
    (rest_plain c.loop-at.rest.now c.as_bytes.result.now c.loop-at.invariant.0 c.as_bytes.ensures.value c.in_default.ensures) (c.loop-at.invariant.1, c.loop-at.invariant.2) c.in_ok-push_str-2.ensures.bytes

pub returns-then-is_open-clause-ends : goal.returns-then-is_open-clause-ends
returns-then-is_open-clause-ends c =
    ends_open c.args.line_break c.loop-at.rest.now c.loop-at.is_open c.is_empty.result (string_bytes c.args.out.now) (string_bytes c.loop-at.out) c.args.value.now c.loop-at.invariant.0
    (rest_plain c.loop-at.rest.now c.as_bytes.result.now c.loop-at.invariant.0 c.as_bytes.ensures.value c.in_default.ensures) (c.loop-at.invariant.1, c.loop-at.invariant.2)
    (c.is_empty.ensures ∙ ap (λ (b : Bool). b && eqb (length c.loop-at.rest.now) 0) (sym c.if-is_open.true))

pub returns-else-is_open-clause-written : goal.returns-else-is_open-clause-written
returns-else-is_open-clause-written c =
    ended c.args.line_break c.loop-at.rest.now c.loop-at.is_open (string_bytes c.args.out.now) (string_bytes c.loop-at.out) (string_bytes c.push_str-2.new.self) c.args.value.now c.loop-at.invariant.0
    (rest_plain c.loop-at.rest.now c.as_bytes.result.now c.loop-at.invariant.0 c.as_bytes.ensures.value c.in_default.ensures) (c.loop-at.invariant.1, c.loop-at.invariant.2) c.in_ok-push_str-2.ensures.bytes

pub returns-else-is_open-clause-ends : goal.returns-else-is_open-clause-ends
returns-else-is_open-clause-ends c =
    ends_open c.args.line_break c.loop-at.rest.now c.loop-at.is_open c.loop-at.is_open (string_bytes c.args.out.now) (string_bytes c.loop-at.out) c.args.value.now c.loop-at.invariant.0
    (rest_plain c.loop-at.rest.now c.as_bytes.result.now c.loop-at.invariant.0 c.as_bytes.ensures.value c.in_default.ensures) (c.loop-at.invariant.1, c.loop-at.invariant.2)
    (c.if-is_open.false ∙ ap (λ (b : Bool). b && eqb (length c.loop-at.rest.now) 0) (sym c.if-is_open.false))
