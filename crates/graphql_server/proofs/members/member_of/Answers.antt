use Rattle.std.proofs.Common.{◌≡◌, ℕ, ◌+◌, [], ◌∷◌, ◌++◌, List, length, take, Bool, true, false, cond, Option, None, Some, Result, IfOk, IfErr, Bor, option_map, take_all, sym, ap, ◌∙◌, arith}
use Rattle.std.specs.Option.{ok_or}
use Rattle.std.specs.Str.{bytes_eq}
use Rattle.std.proofs.lemmas.List.{take_more}
use Rattle.json.specs.Json.{Json, object}
use Rattle.json.specs.Find.{get, get_member}
use Rattle.json.specs.Value.{value_view, members_view}
use Rattle.json.specs.declared.value.Value.{Value}
use Rattle.json.proofs.Trees.{get_member-push, view-Object}
use Rattle.graphql_server.specs.declared.members.Wrong.{Wrong}
use Rattle.graphql_server.specs.declared.members.Wrong.TheVariants.{Missing}
use Rattle.graphql_server.proofs.members.member_of.Goals as goal
use Rattle.graphql_server.proofs.members.member_of.Goals.{then-eq+else-is_some, else-eq}

found_part : {A : Type 0} (o : Option (Bor (Value A))) (r : Result (Bor (Value A)) Wrong) (json : Option Json) → r ≡ ok_or o Missing → option_map (λ v. value_view v.now) o ≡ json → IfOk r (λ member. json ≡ Some (value_view member.now))
found_part None r json e h = rw e tt
found_part (Some v) r json e h = rw e (sym h)

missing_part : {A : Type 0} (o : Option (Bor (Value A))) (r : Result (Bor (Value A)) Wrong) (json : Option Json) → r ≡ ok_or o Missing → option_map (λ v. value_view v.now) o ≡ json → IfErr r (λ wrong. wrong ≡ Missing → json ≡ None)
missing_part None r json e h = rw e (λ w. sym h)
missing_part (Some v) r json e h = rw e tt

whole_list : {X : Type 0} (xs : List X) (n : ℕ) → n ≡ length xs → take n xs ≡ xs
whole_list xs n e = take_all n xs (omega arith)

pub loop-member-preserved : goal.loop-member-preserved
loop-member-preserved c =
    let xs = c.deref-member-items.result.now in
    let i = c.loop-member.member-index in
    let m = c.member-item.result in
    let name = c.args.name.now in
    let front : take (i + 1) xs ≡ take i xs ++ m ∷ [] = take_more xs i m (omega arith) ∙ ap (λ y. take i xs ++ y ∷ []) (sym c.member-item.is) in
    let step = ap (λ ys. get_member name (members_view ys)) front ∙ get_member-push name (take i xs) m in
    let pick = λ (b : Bool). cond b (Some (value_view m.1)) (get_member name (members_view (take i xs))) in
    elim c.if-eq.branch [
      | then-eq+else-is_some w ↦
          let same : bytes_eq m.0.now name ≡ true = grind arith in
          ap (option_map (λ v. value_view v.now)) w.found-is ∙ sym (step ∙ ap pick same)
      | else-eq w ↦
          let other : bytes_eq m.0.now name ≡ false = grind arith in
          ap (option_map (λ v. value_view v.now)) w.found-is ∙ c.loop-member.invariant ∙ sym (step ∙ ap pick other)
    ]

pub returns-clause-found : goal.returns-clause-found
returns-clause-found c =
    let xs = c.deref-member-items.result.now in
    let all : take c.loop-member.member-index xs ≡ xs = whole_list xs c.loop-member.member-index (omega arith) in
    let view : value_view c.args.value.now ≡ object (members_view c.in-Object.members.items) = ap value_view c.in-Object.is ∙ view-Object c.in-Object.members in
    let whole = c.loop-member.invariant ∙ ap (λ ys. get_member c.args.name.now (members_view ys)) (all ∙ c.deref-member-items.ensures.value) ∙ sym (ap (get c.args.name.now) view) in
    found_part c.loop-member.found c.ok_or.result _ c.ok_or.ensures.value whole

pub returns-clause-missing : goal.returns-clause-missing
returns-clause-missing c =
    let xs = c.deref-member-items.result.now in
    let all : take c.loop-member.member-index xs ≡ xs = whole_list xs c.loop-member.member-index (omega arith) in
    let view : value_view c.args.value.now ≡ object (members_view c.in-Object.members.items) = ap value_view c.in-Object.is ∙ view-Object c.in-Object.members in
    let whole = c.loop-member.invariant ∙ ap (λ ys. get_member c.args.name.now (members_view ys)) (all ∙ c.deref-member-items.ensures.value) ∙ sym (ap (get c.args.name.now) view) in
    missing_part c.loop-member.found c.ok_or.result _ c.ok_or.ensures.value whole
