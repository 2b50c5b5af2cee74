-- What is read to the end of all that is open, and what a step does to it.
use Rattle.std.proofs.Common.{◌≡◌, ℕ, suc, pred, ◌<◌, ◌≤◌, Bool, true, false, Option, Some, None, List, [], ◌∷◌, ◌++◌, length, refl, ap, ap₂, ◌∙◌, subst, arith}
use Rattle.graphql_tokens.specs.tokens.Token.{Token}
use Rattle.graphql_syntax.specs.trees.ValueTree.{Tree}
use Rattle.graphql_reading.specs.grammar.Tests.{Test, punct, any_name}
use Rattle.graphql_reading.specs.reading.Outcome.{Outcome, Read, Refused, ◌>>=◌, one_at, take_at, many_at, with_front}
use Rattle.graphql_grammar.specs.grammar.Values.{Value}
use Rattle.graphql_grammar.specs.reading.OpenValues.{node_of, node_at, Opened, in_list, in_object, Waiting, list_waits, object_waits, list_rest, object_rest, open_rest, list_tree, object_tree, add, filled, enter_at, key_at}
use Rattle.graphql_grammar.specs.reading.Values.{simple_at, value_first, value_at, field_at}
use Rattle.graphql_grammar.proofs.ValueFrames.{value-law, begun, entered, list-law, object-law, after-item, after-key, taken, not-taken, takes-key, takes-node}
use Rattle.graphql_parser.specs.Levels.{opens, is_none, end_at, Met, closes, passes, enters, after_enter, after_end, step_at}
use Rattle.graphql_parser.proofs.Rests.{ended}

abbrev pub is_object : Opened → Bool
is_object (in_list front) = false
is_object (in_object front) = true

pub object-opens : (object : Bool) → is_object (opens object) ≡ object
object-opens true = refl
object-opens false = refl

-- To the end of all that is open, the innermost first, inside which so many levels are left.
abbrev pub rests : Bool → ℕ → List Bool → List Token → Outcome (Unit {0})
rests vars b [] ts = Read tt ts
rests vars b (object ∷ outer) ts = ended (open_rest vars b (opens object) ts) >>= λ _ rest. rests vars (suc b) outer rest

-- and from a step on
abbrev pub went : Bool → ℕ → Bool → List Bool → Met → List Token → Outcome (Unit {0})
went vars b object outer closes ts = rests vars (suc b) outer ts
went vars b object outer passes ts = rests vars b (object ∷ outer) ts
went vars b object outer (enters o) ts = rests vars (pred b) (is_object o ∷ object ∷ outer) ts

-- ---- what was read of a list or an object doesn't matter

closing : {A : Type 0} (test : Test) (tree : List A → Tree) (front : List A) (o : Outcome (List A)) → ended (with_front front o >>= λ items rest. one_at test rest >>= λ _ rest'. Read (tree items) rest') ≡ ended (with_front [] o >>= λ items rest. one_at test rest >>= λ _ rest'. Read (tree items) rest')
closing {A} test tree front (Read items rest) = go (one_at test rest)
  where
    go : (c : Outcome Token) → ended (c >>= λ _ rest'. Read (tree (front ++ items)) rest') ≡ ended (c >>= λ _ rest'. Read (tree items) rest')
    go (Read t rest') = refl
    go (Refused v rest') = refl
closing test tree front (Refused v rest) = refl

pub front-none : (vars : Bool) (b : ℕ) (o : Opened) (ts : List Token) → ended (open_rest vars b o ts) ≡ ended (open_rest vars b (opens (is_object o)) ts)
unfolding list_rest object_rest
front-none vars b (in_list front) ts = closing (punct "]") list_tree front (many_at (value_first vars) (node_at (value_at vars b)) ts)
front-none vars b (in_object front) ts = closing (punct "}") object_tree front (many_at any_name (field_at (value_at vars b)) ts)

-- ---- a step

abbrev waits_object : Waiting → Bool
waits_object (list_waits front) = false
waits_object (object_waits front name) = true

add-object : (w : Waiting) (t : Tree) → is_object (add w t) ≡ waits_object w
add-object (list_waits front) t = refl
add-object (object_waits front name) t = refl

module _ (vars : Bool) (b : ℕ) (object : Bool) (outer : List Bool) where
  abbrev outside : Outcome (Unit {0}) → Outcome (Unit {0})
  outside o = o >>= λ _ rest. rests vars (suc b) outer rest

  -- with one value more it is as before
  added : (w : Waiting) → waits_object w ≡ object → (t : Tree) (rest : List Token) → outside (ended (open_rest vars b (add w t) rest)) ≡ rests vars b (object ∷ outer) rest
  added w is t rest = ap outside (front-none vars b (add w t) rest ∙ ap (λ (k : Bool). ended (open_rest vars b (opens k) rest)) (add-object w t ∙ is))

  value-step : (w : Waiting) → waits_object w ≡ object → (ts : List Token) → outside (ended (filled vars b w (node_at (value_at vars b) ts))) ≡ ((enter_at b ts >>= after_enter vars) >>= went vars b object outer)
  value-step w is ts = ap (λ (o : Outcome Tree). outside (ended (filled vars b w o))) (value-law vars b ts) ∙ go (enter_at b ts) refl
    where
      simple : (o : Outcome Value) → outside (ended (filled vars b w (o >>= λ v rest. Read (node_of v) rest))) ≡ ((o >>= λ _ rest. Read passes rest) >>= went vars b object outer)
      simple (Read v rest) = added w is (node_of v) rest
      simple (Refused v rest) = refl

      inner : (o : Outcome Tree) → outside (ended (filled vars b w o)) ≡ (ended o >>= λ _ rest. rests vars b (object ∷ outer) rest)
      inner (Read t rest) = added w is t rest
      inner (Refused v rest) = refl

      go : (o : Outcome (Option Opened)) → enter_at b ts ≡ o → outside (ended (filled vars b w (o >>= begun vars b))) ≡ ((o >>= after_enter vars) >>= went vars b object outer)
      go (Read None rest) e = simple (simple_at vars rest)
      go (Read (Some o) rest) e =
          let room : 0 < b = (entered b ts o rest e).0 in
          let same : b ≡ suc (pred b) = omega (arith, room) in
          inner (open_rest vars (pred b) o rest)
          ∙ ap₂ (λ (n : ℕ) (p : Outcome (Unit {0})). p >>= λ _ rest'. rests vars n (object ∷ outer) rest') same (front-none vars (pred b) o rest)
      go (Refused v rest) e = refl

pub step-law : (vars : Bool) (b : ℕ) (object : Bool) (outer : List Bool) (ts : List Token) → rests vars b (object ∷ outer) ts ≡ (step_at vars b object ts >>= went vars b object outer)
step-law vars b false outer ts = ap (λ (o : Outcome Tree). ended o >>= λ _ rest. rests vars (suc b) outer rest) (list-law vars b [] ts) ∙ go (take_at (punct "]") ts)
  where
    go : (o : Outcome Bool) → (ended (o >>= after-item vars b []) >>= λ _ rest. rests vars (suc b) outer rest) ≡ ((o >>= after_end vars b) >>= went vars b false outer)
    go (Read true rest) = refl
    go (Read false rest) = value-step vars b false outer (list_waits []) refl rest
    go (Refused v rest) = refl
step-law vars b true outer ts = ap (λ (o : Outcome Tree). ended o >>= λ _ rest. rests vars (suc b) outer rest) (object-law vars b [] ts) ∙ go (key_at ts)
  where
    go : (o : Outcome (Option (List ℕ))) → (ended (o >>= after-key vars b []) >>= λ _ rest. rests vars (suc b) outer rest) ≡ (((o >>= λ k rest. Read (is_none k) rest) >>= after_end vars b) >>= went vars b true outer)
    go (Read None rest) = refl
    go (Read (Some name) rest) = value-step vars b true outer (object_waits [] name) refl rest
    go (Refused v rest) = refl

-- ---- a step takes a token

ends-shorter : (object : Bool) (ts rest : List Token) (w : Bool) → end_at object ts ≡ Read w rest → (length rest ≤ length ts) × (w ≡ true → length rest < length ts)
ends-shorter false ts rest true e = let less = taken (punct "]") ts rest e in (omega (arith, less), λ _. less)
ends-shorter false ts rest false e = (not-taken (punct "]") ts rest e, λ h. absurd cc)
ends-shorter true ts rest w e = go (key_at ts) refl e
  where
    go : (o : Outcome (Option (List ℕ))) → key_at ts ≡ o → (o >>= λ k rest. Read (is_none k) rest) ≡ Read w rest → (length rest ≤ length ts) × (w ≡ true → length rest < length ts)
    go (Read k rest') is e =
        let same : rest' ≡ rest = cc in
        let less : length rest < length ts = subst (λ (l : List Token). length l < length ts) same (takes-key ts k rest' is) in
        (omega (arith, less), λ _. less)
    go (Refused v rest') is e = absurd cc

passes-shorter : (vars : Bool) (b : ℕ) (ts : List Token) (m : Met) (rest : List Token) → (enter_at b ts >>= after_enter vars) ≡ Read m rest → length rest < length ts
passes-shorter vars b ts m rest e = go (enter_at b ts) refl e
  where
    simple : (mid : List Token) (o : Outcome Value) → enter_at b ts ≡ Read None mid → simple_at vars mid ≡ o → (o >>= λ _ rest'. Read passes rest') ≡ Read m rest → length rest < length ts
    simple mid (Read v rest') is read e =
        let same : rest' ≡ rest = cc in
        let node : node_at (value_at vars b) ts ≡ Read (node_of v) rest' = value-law vars b ts ∙ ap (λ (o : Outcome (Option Opened)). o >>= begun vars b) is ∙ ap (λ (o : Outcome Value). o >>= λ v rest''. Read (node_of v) rest'') read in
        subst (λ (l : List Token). length l < length ts) same (takes-node vars b ts (node_of v) rest' node)
    simple mid (Refused v rest') is read e = absurd cc

    go : (o : Outcome (Option Opened)) → enter_at b ts ≡ o → (o >>= after_enter vars) ≡ Read m rest → length rest < length ts
    go (Read None mid) is e = simple mid (simple_at vars mid) is refl e
    go (Read (Some o) mid) is e =
        let same : mid ≡ rest = cc in
        subst (λ (l : List Token). length l < length ts) same (entered b ts o mid is).1
    go (Refused v mid) is e = absurd cc

pub step-shorter : (vars : Bool) (b : ℕ) (object : Bool) (ts : List Token) (m : Met) (rest : List Token) → step_at vars b object ts ≡ Read m rest → length rest < length ts
step-shorter vars b object ts m rest e = go (end_at object ts) refl e
  where
    go : (o : Outcome Bool) → end_at object ts ≡ o → (o >>= after_end vars b) ≡ Read m rest → length rest < length ts
    go (Read true mid) is e =
        let same : mid ≡ rest = cc in
        subst (λ (l : List Token). length l < length ts) same ((ends-shorter object ts mid true is).1 refl)
    go (Read false mid) is e =
        let less = passes-shorter vars b mid m rest e in
        let most = (ends-shorter object ts mid false is).0 in
        omega (arith, less, most)
    go (Refused v mid) is e = absurd cc

-- where one begins, a level is left for it
pub step-room : (vars : Bool) (b : ℕ) (object : Bool) (ts : List Token) (o : Opened) (rest : List Token) → step_at vars b object ts ≡ Read (enters o) rest → 0 < b
step-room vars b object ts o rest e = at-end (end_at object ts) e
  where
    simple : (p : Outcome Value) → (p >>= λ _ rest'. Read passes rest') ≡ Read (enters o) rest → 0 < b
    simple (Read v rest') e = absurd cc
    simple (Refused v rest') e = absurd cc

    at-enter : (mid : List Token) (p : Outcome (Option Opened)) → enter_at b mid ≡ p → (p >>= after_enter vars) ≡ Read (enters o) rest → 0 < b
    at-enter mid (Read None rest') is e = simple (simple_at vars rest') e
    at-enter mid (Read (Some q) rest') is e = (entered b mid q rest' is).0
    at-enter mid (Refused v rest') is e = absurd cc

    at-end : (p : Outcome Bool) → (p >>= after_end vars b) ≡ Read (enters o) rest → 0 < b
    at-end (Read true mid) e = absurd cc
    at-end (Read false mid) e = at-enter mid (enter_at b mid) refl e
    at-end (Refused v mid) e = absurd cc
