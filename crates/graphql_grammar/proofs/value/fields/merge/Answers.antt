use Rattle.std.proofs.Common.{◌≡◌, ◌+◌, ◌*◌, ℕ, vec_len, length, [], arith, inl, inr, ap, ap₂, sym, ◌∙◌}
use Rattle.graphql_memory.specs.Memory.{Takes, bytes}
use Rattle.graphql_syntax.specs.inner.Rows.{field_row, merging}
use Rattle.graphql_grammar.specs.contracts.value.fields.merge.{V-row}
use Rattle.graphql_grammar.specs.reading.Fields.{are_distinct, put_all, places}
use Rattle.graphql_grammar.proofs.Fields.{merged-distinct, merged-by-putting}
use Rattle.graphql_reading.proofs.Loops.{still}
use Rattle.graphql_grammar.proofs.FieldPlaces.{put-next, all-put}
use Rattle.graphql_grammar.proofs.value.fields.merge.Goals as goal

pub returns-then-are_distinct-clause-merged : goal.returns-then-are_distinct-clause-merged
returns-then-are_distinct-clause-merged g c = sym (merged-distinct c.args.fields.items (ap are_distinct (sym c.deref.ensures.value) ∙ sym c.are_distinct.ensures ∙ c.if-are_distinct.true))

pub loop-field-init : goal.loop-field-init
loop-field-init g c =
    let gives = c.into_iter-field-iterator.ensures.into_iter_gives in
    let fields : c.into_iter-field-iterator.result.a.rest.items ≡ c.args.fields.items = ap (λ z. z.a.rest.items) gives ∙ ap (λ x. x.rest.items) c.zip-field-items.ensures.first ∙ c.into_iter.ensures.rest in
    let found : c.into_iter-field-iterator.result.b.rest.items ≡ c.in_ok-places.places.items = ap (λ z. z.b.rest.items) gives ∙ c.zip-field-items.ensures.second.0 in
    let R = V-row g.row.V in
    let n : ℕ = vec_len c.args.fields in
    let two : length c.deref-2.result.now ≡ n = omega (arith, ap length c.deref-2.ensures.value, c.args.fields.ok) in
    let three : length c.deref-3.result.now ≡ n = omega (arith, ap length c.deref-3.ensures.value, c.args.fields.ok) in
    let placed : Takes (40 * n) c.args.parser.now.memory c.places_of.new.parser.memory = rw two at c.places_of.ensures.takes in
    let listed : Takes (bytes (field_row R) * n) c.places_of.new.parser.memory c.list_for.new.self.memory = rw three at c.list_for.ensures.takes in
    let together : merging R * n ≡ 40 * n + bytes (field_row R) * n = omega arith in (
      ap₂ put_all c.in_ok-merged.ensures.items fields,
      found ∙ c.in_ok-places.ensures.places ∙ ap (places []) c.deref-2.ensures.value ∙ sym (ap₂ places c.in_ok-merged.ensures.items fields),
      still c.args.parser.now c.places_of.new.parser c.list_for.new.self c.places_of.ensures.stays c.list_for.ensures.stays,
      omega (arith, ap length c.in_ok-merged.ensures.items, c.in_ok-merged.merged.ok, ap length fields, c.in_ok-merged.ensures.room, ap length c.deref-3.ensures.value),
      (omega (arith, placed, listed, together, c.in_ok-merged.ensures.room), omega (arith, placed, listed)),
    )

pub put_at-requires-clause-place : goal.put_at-requires-clause-place
put_at-requires-clause-place g c =
    let steps = c.in-Some.ensures.steps in
    (put-next c.loop-field.merged.items c.loop-field.field-iterator.a.rest.items _ c.in-Some.field c.in-Some.place c.loop-field.field-iterator.b.rest.items _ c.loop-field.invariant.1 steps.0.0 steps.1.0).0

pub loop-field-preserved : goal.loop-field-preserved
loop-field-preserved g c =
    let steps = c.in-Some.ensures.steps in
    let now = c.in_ok-put_at.ensures.put in (
      ap (λ l. put_all l c.next.new.self.a.rest.items) now ∙ sym (ap (put_all c.loop-field.merged.items) steps.0.0) ∙ c.loop-field.invariant.0,
      (put-next c.loop-field.merged.items c.loop-field.field-iterator.a.rest.items _ c.in-Some.field c.in-Some.place c.loop-field.field-iterator.b.rest.items _ c.loop-field.invariant.1 steps.0.0 steps.1.0).1
          ∙ sym (ap (λ l. places l c.next.new.self.a.rest.items) now),
      still c.args.parser.now c.loop-field.parser c.put_at.new.parser c.loop-field.invariant.2 c.put_at.ensures.stays,
      omega (arith, c.loop-field.invariant.3, ap length steps.0.0, c.put_at.ensures.len, c.put_at.ensures.capacity),
      rw c.put_at.ensures.free c.loop-field.invariant.4,
    )

pub returns-clause-merged : goal.returns-clause-merged
returns-clause-merged g c = all-put c.loop-field.merged.items c.loop-field.field-iterator.a.rest.items c.loop-field.field-iterator.b.rest.items _ (c.loop-field.invariant.0 ∙ merged-by-putting c.args.fields.items) c.loop-field.invariant.1
    (elim c.in-None.ensures.steps [ inl w ↦ inl (omega (arith, w.1, c.loop-field.field-iterator.a.rest.ok)) | inr w ↦ inr (omega (arith, w.1, c.loop-field.field-iterator.b.rest.ok)) ])

pub put_at-requires-clause-room : goal.put_at-requires-clause-room
put_at-requires-clause-room g c =
    let steps = c.in-Some.ensures.steps in
    omega (arith, c.loop-field.invariant.3, ap length steps.0.0)

pub returns-in_err-put_at-clause-takes : goal.returns-in_err-put_at-clause-takes
returns-in_err-put_at-clause-takes g c = rw c.put_at.ensures.free c.loop-field.invariant.4

pub returns-clause-takes : goal.returns-clause-takes
returns-clause-takes g c = c.loop-field.invariant.4
