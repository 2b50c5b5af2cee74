use Rattle.std.proofs.Common.{◌≡◌, [], ◌∷◌, Option, None, sym, subst}
use Rattle.std.specs.Prelude.{codes}
use Rattle.json.specs.Json.{Json}
use Rattle.json.specs.Value.{value_view}
use Rattle.text_edits.specs.declared.Range.{Range}
use Rattle.graphql_server.specs.Members.{HasEnd, HasText, HasRange, IsLeftOut}
use Rattle.graphql_server.proofs.params.change_of.Goals as goal
use Rattle.graphql_server.proofs.params.change_of.Goals.{in-None, in-Some}

pub returns : goal.returns
returns c =
    let json = value_view c.args.item.value.now in
    let text = c.text-text.ensures.read c.in_ok-check.ensures in
    elim c.match-optional.branch [
      | in-None w ↦
          let none : c.optional.new.self.fault ≡ None = cc (w.reading-is, text.0) in
          let from : value_view c.of-reading.result.member.value.now ≡ json = cc (c.of-reading.ensures) in
          let same : value_view c.match-optional.reading.member.value.now ≡ json = cc in
          let left = w.in-None.ensures.read none in
          record {
            range = subst (λ (r : Option Range). HasRange json r) (sym w.range-is) (subst (λ (j : Json). IsLeftOut j (codes "range" ∷ [])) from left.1);
            text = subst (λ (j : Json). HasText j (codes "text" ∷ []) c.text-text.result.now) same text.1;
          }
      | in-Some w ↦
          let none : w.position-in-Some.new.self.fault ≡ None = cc (w.reading-is, text.0) in
          let last = w.position-in-Some.ensures.read none in
          let first = w.position.ensures.read last.0 in
          let at_first : value_view c.optional.new.self.member.value.now ≡ json = cc (c.optional.ensures.same, c.of-reading.ensures) in
          let at_last : value_view w.position.new.self.member.value.now ≡ json = cc in
          let same : value_view c.match-optional.reading.member.value.now ≡ json = cc in
          let start = subst (λ (j : Json). HasEnd j (codes "start") w.position.result) at_first (first.1, first.2) in
          let end = subst (λ (j : Json). HasEnd j (codes "end") w.position-in-Some.result) at_last (last.1, last.2) in
          record {
            range = subst (λ (r : Option Range). HasRange json r) (sym w.range-is) (start, end);
            text = subst (λ (j : Json). HasText j (codes "text" ∷ []) c.text-text.result.now) same text.1;
          }
    ]
