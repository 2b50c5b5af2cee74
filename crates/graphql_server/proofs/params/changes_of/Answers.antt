use Rattle.std.proofs.Common.{◌≡◌, ℕ, ◌+◌, List, [], ◌∷◌, ◌++◌, take, Option, Some, MatchOption, option_and_then, length, take_all, refl, sym, ap, subst, ◌∙◌, arith}
use Rattle.std.proofs.lemmas.Grind.{common_steps}
use Rattle.std.proofs.lemmas.List.{take_more}
use Rattle.std.specs.Prelude.{codes}
use Rattle.json.specs.Json.{Items}
use Rattle.json.specs.Find.{as_array}
use Rattle.json.specs.Value.{value_view, items_view}
use Rattle.json.specs.declared.value.Value.{Value}
use Rattle.graphql_server.specs.declared.texts.Change.{Change}
use Rattle.graphql_server.specs.Members.{value_at, IsChangeIn, AreItems}
use Rattle.graphql_server.proofs.Items.{items-append}
use Rattle.graphql_server.proofs.params.changes_of.Goals as goal

items_same : {A : Type 0} (values others : List (Value A)) (changes more : List Change) → values ≡ others → changes ≡ more → AreItems (items_view values) changes → AreItems (items_view others) more
items_same values others changes more e f all = rw (← e, ← f) all

whole_list : {X : Type 0} (xs : List X) (n : ℕ) → n ≡ length xs → take n xs ≡ xs
whole_list xs n e = take_all n xs (omega arith)

pub loop-index-preserved : goal.loop-index-preserved
loop-index-preserved c =
    let xs = c.in_ok-items.items.now in
    let i = c.loop-index.index in
    let value = c.index-items-index.result in
    let change = c.in_ok-change.change in
    let front : take i xs ++ value ∷ [] ≡ take (i + 1) xs = sym (take_more xs i value (omega arith) ∙ ap (λ y. take i xs ++ y ∷ []) (sym c.index-items-index.is)) in
    let pushed : c.push.new.self.items ≡ c.loop-index.changes.items ++ change ∷ [] = grind (arith, common_steps) in
    let is : IsChangeIn (value_view value) change = rw (← c.item.ensures) c.in_ok-change.ensures in
    items_same _ _ _ _ front (sym pushed) (items-append (take i xs) value c.loop-index.changes.items change c.loop-index.invariant is)

pub returns : goal.returns
returns c =
    let xs = c.in_ok-items.items.now in
    let e : option_and_then as_array (value_at (codes "params" ∷ codes "contentChanges" ∷ []) (value_view c.args.message.value.now)) ≡ Some (items_view xs) = ap (option_and_then as_array) c.in_ok-list.ensures.found ∙ ap as_array c.in_ok-items.ensures in
    let all : take c.loop-index.index xs ≡ xs = whole_list xs c.loop-index.index (omega arith) in
    let told : AreItems (items_view xs) c.loop-index.changes.items = items_same (take c.loop-index.index xs) xs c.loop-index.changes.items c.loop-index.changes.items all refl c.loop-index.invariant in
    subst (λ (o : Option Items). MatchOption o ⊥ (λ items. AreItems items c.loop-index.changes.items)) (sym e) told
