-- What a loop keeps that reads one or more, and makes something of them all without keeping them.
use Rattle.std.proofs.Common.{◌≡◌, suc, ◌≤◌, true, false, List, [], ◌∷◌, ◌++◌, length, sym, ap, ◌∙◌, arith}
use Rattle.graphql_grammar.proofs.Made.{is-made, unmade}
use Rattle.graphql_reading.specs.declared.parser.Refusal.{Refusal}
use Rattle.graphql_reading.specs.declared.parser.Refusal.TheVariants.{Memory, Syntax, Limit}
use Rattle.graphql_reading.specs.grammar.Fronts.{Verdict, syntax, limit}
use Rattle.graphql_reading.specs.grammar.Tests.{Test}
use Rattle.graphql_reading.specs.reading.Ahead.{Ahead, tokens}
use Rattle.graphql_reading.specs.reading.Given.{GoesOn, Refuses}
use Rattle.graphql_reading.specs.reading.Outcome.{Outcome, Read, Refused, Reader, Takes, ◌>>=◌, mapped_at, plus_at}
use Rattle.graphql_reading.proofs.Loop.{loop-goes, loop-ends, loop-stops}
use Rattle.graphql_reading.proofs.Loops.{Kept, begins, go-on}

-- All that is read is these items and what the tokens ahead give, and the sum is made of these items.
pub record KeptSum {Y Z : Type 0} (of : List Y → Z) (first : Test) (r : Reader Y) (initial now : Ahead) (sum : Z) : Type 0 where
  pub items : List Y
  pub kept : Kept first r initial now items
  pub is : sum ≡ of items

pub sum-begins : {Y Z : Type 0} (of : List Y → Z) (first : Test) (r : Reader Y) (initial : Ahead) (sum : Z) → sum ≡ of [] → KeptSum of first r initial initial sum
sum-begins of first r initial sum is = record { items = []; kept = begins first r initial; is = is }

module _ {Y X Z : Type 0} (item : Y → X) (of : List Y → Z) (first : Test) (r : Reader Y) {initial now : Ahead} {sum : Z} (kept : KeptSum of first r initial now sum) (next : Ahead) where
  pub sum-stops : (e : Refusal) → Refuses e now next (mapped_at item r) → GoesOn now next → Refuses e initial next (mapped_at of (plus_at first r)) × GoesOn initial next
  sum-stops e h on = (by e h, go-on initial now next kept.kept.on on)
    where
      refused : (v : Verdict) → mapped_at item r (tokens now) ≡ Refused v (tokens next) → mapped_at of (plus_at first r) (tokens initial) ≡ Refused v (tokens next)
      refused v h = ap (λ (o : Outcome (List Y)). o >>= λ a rest. Read (of a) rest) (loop-stops first r _ kept.items (tokens now) v (tokens next) kept.kept.told (unmade item (r (tokens now)) v (tokens next) h))

      by : (e : Refusal) → Refuses e now next (mapped_at item r) → Refuses e initial next (mapped_at of (plus_at first r))
      by Memory h = h
      by Syntax h = refused syntax h
      by Limit h = refused limit h

  module _ (x : X) (more : Z) (read : mapped_at item r (tokens now) ≡ Read x (tokens next)) (on : GoesOn now next) (adds : (front : List Y) (t : Y) → sum ≡ of front → x ≡ item t → more ≡ of (front ++ t ∷ [])) where
    pub sum-goes : Takes r → first next.hand.bare ≡ true → KeptSum of first r initial next more
    sum-goes takes at =
        let m = is-made item (r (tokens now)) x (tokens next) read in
        record {
          items = kept.items ++ m.tree ∷ [];
          kept = record {
            told = loop-goes first r takes _ kept.items (tokens now) m.tree next.hand next.after kept.kept.told m.is at;
            on = go-on initial now next kept.kept.on on;
          };
          is = adds kept.items m.tree kept.is m.made;
        }

    pub sum-ends : first next.hand.bare ≡ false → (mapped_at of (plus_at first r) (tokens initial) ≡ Read more (tokens next)) × GoesOn initial next
    sum-ends at =
        let m = is-made item (r (tokens now)) x (tokens next) read in (
          ap (λ (o : Outcome (List Y)). o >>= λ a rest. Read (of a) rest) (loop-ends first r _ kept.items (tokens now) m.tree next.hand next.after kept.kept.told m.is at)
              ∙ ap (λ (z : Z). Read z (tokens next)) (sym (adds kept.items m.tree kept.is m.made)),
          go-on initial now next kept.kept.on on,
        )

-- fewer tokens are ahead
pub sum-shorter : {Y X : Type 0} (item : Y → X) (r : Reader Y) (now next : Ahead) (x : X) → Takes r → mapped_at item r (tokens now) ≡ Read x (tokens next) → suc (length next.after) ≤ length now.after
sum-shorter item r now next x takes h =
    let m = is-made item (r (tokens now)) x (tokens next) h in
    let less = takes (tokens now) m.tree (tokens next) m.is in
    omega (arith, less)
