use Rattle.std.proofs.Common.{arith, ◌+◌, ◌*◌, ℕ, List, Some, cond, is_some, is_eq, length, Option, if◌then◌else◌, Bor, BTreeMap, refl, sym, ap, ◌∙◌, subst}
use Rattle.std.specs.Cmp.Lexicographic.{slice_cmp}
use Rattle.std.specs.Option.{option_copied}
use Rattle.std.specs.Ordering.{nat_cmp}
use Rattle.graphql_memory.specs.Memory.{Takes}
use Rattle.graphql_reading.specs.reading.Ahead.{Stays}
use Rattle.graphql_reading.proofs.Loops.{still}
use Rattle.graphql_grammar.specs.reading.Fields.{found_at}
use Rattle.graphql_grammar.proofs.FieldPlaces.{IsFound, known-one-more, new-one-more}
use Rattle.graphql_grammar.proofs.value.fields.places_of.Goals as goal
use Rattle.graphql_grammar.proofs.value.fields.places_of.Goals.{in-Some, in-None+in_ok-insert_ordered-in-None}

pub loop-name-preserved : goal.loop-name-preserved
loop-name-preserved g c =
    let i = c.loop-name.name-index in
    let fields = c.args.fields.now in
    let found = c.loop-name.found.items in
    let known = c.loop-name.known in
    let field = c.loop-name-item.result in
    let place = c.match-get.place in
    let kept : IsFound fields known found i = (c.loop-name.invariant.0, c.loop-name.invariant.1, c.loop-name.invariant.2) in
    let now : IsFound fields c.match-get.known c.push.new.list.items (i + 1) =
    elim c.match-get.branch [
      | in-Some w ↦ subst (λ (m : BTreeMap (Bor (List ℕ)) ℕ). IsFound fields m c.push.new.list.items (i + 1)) (sym w.known-is)
          (known-one-more fields known found c.push.new.list.items i place field c.loop-name-test.true c.loop-name-item.is kept c.in_ok-push.ensures.items
          (sym c.get.ensures.value ∙ ap option_copied w.in-Some.is ∙ ap Some (sym w.place-is)))
      | in-None+in_ok-insert_ordered-in-None w ↦
          let absent = sym c.get.ensures.value ∙ ap option_copied w.in-None.is in
          let held = w.in_ok-insert_ordered-in-None.ensures in
          subst (λ (m : BTreeMap (Bor (List ℕ)) ℕ). IsFound fields m c.push.new.list.items (i + 1)) (sym w.known-is)
          (new-one-more fields known found c.push.new.list.items i place field c.loop-name-test.true c.loop-name-item.is kept c.in_ok-push.ensures.items
          w.insert_ordered.new.map absent (w.place-is ∙ w.len-next.ensures.len)
          (held.len ∙ ap (λ (o : Option ℕ). length known.entries + (if is_some o then 0 else 1)) (held.old ∙ absent))
          (λ name. held.updates.0 (record { ref_ptr = (0, 0); now = name }) ∙ ap (λ (n : ℕ). cond (is_eq (slice_cmp nat_cmp field.0 name)) (Some n) (found_at known name)) (sym w.place-is)))
    ] in
    let asked : Stays c.args.parser.now c.match-get.parser = elim c.match-get.branch [
      | in-Some w ↦ rw w.parser-is c.loop-name.invariant.4
      | in-None+in_ok-insert_ordered-in-None w ↦ rw w.parser-is (still c.args.parser.now c.loop-name.parser w.insert_ordered.new.self c.loop-name.invariant.4 w.insert_ordered.ensures.stays)
    ] in
    let free = c.push.ensures.room (omega (arith, c.loop-name.invariant.5, c.loop-name.invariant.6, c.loop-name-test.true)) in
    let taken : Takes (8 * length fields + 32 * (i + 1)) c.args.parser.now.memory c.match-get.parser.memory = elim c.match-get.branch [
      | in-Some w ↦ rw w.parser-is (omega (arith, c.loop-name.invariant.7), c.loop-name.invariant.7.1)
      | in-None+in_ok-insert_ordered-in-None w ↦
          let inserted : Takes 32 c.loop-name.parser.memory w.insert_ordered.new.self.memory = w.insert_ordered.ensures.takes in
          rw w.parser-is (omega (arith, c.loop-name.invariant.7, inserted), omega (arith, c.loop-name.invariant.7, inserted))
    ] in
    (now.0, now.1, now.2, refl, still c.args.parser.now c.match-get.parser c.push.new.self asked c.push.ensures.stays, omega (arith, c.in_ok-push.ensures.len, c.loop-name.invariant.5), free.1 ∙ c.loop-name.invariant.6, rw free.0 taken)
