-- What the loop over levels keeps, and each way on.
use Rattle.std.proofs.Common.{◌≡◌, ℕ, suc, pred, ◌+◌, ◌<◌, ◌≤◌, Bool, List, [], ◌∷◌, ◌++◌, reverse, length, refl, sym, ap, ◌∙◌, arith, length-append}
use Rattle.std.proofs.lemmas.List.{reverse-append}
use Rattle.graphql_reading.specs.declared.parser.Refusal.{Refusal}
use Rattle.graphql_reading.specs.declared.parser.Refusal.TheVariants.{Memory, Syntax, Limit}
use Rattle.graphql_reading.specs.grammar.Fronts.{Verdict, syntax, limit}
use Rattle.graphql_reading.specs.reading.Ahead.{Ahead, tokens}
use Rattle.graphql_reading.specs.reading.Given.{GoesOn, Refuses}
use Rattle.graphql_reading.specs.reading.Outcome.{Outcome, Read, Refused, Reader, ◌>>=◌}
use Rattle.graphql_reading.proofs.Loops.{go-on, stays}
use Rattle.graphql_grammar.specs.reading.OpenValues.{open_rest}
use Rattle.graphql_parser.specs.Levels.{opens, Met, closes, passes, enters, step_at}
use Rattle.graphql_parser.proofs.Rests.{ended, ended-refused}
use Rattle.graphql_parser.proofs.Levels.{object-opens, rests, went, step-law, step-shorter}

-- All that is read is, but for its tree, what is read to the end of all that is open; the levels that are open and
-- those that are left are the limit; and the parser has gone on.
pub record Kept {Y : Type 0} (vars : Bool) (most : ℕ) (whole : Reader Y) (initial now : Ahead) (objects : List Bool) : Type 0 where
  pub left : ℕ
  pub told : ended (whole (tokens initial)) ≡ rests vars left (reverse objects) (tokens now)
  pub shared : left + length objects ≡ most
  pub on : GoesOn initial now

pub kept-first : (vars : Bool) (most : ℕ) (initial : Ahead) (first : Bool) (objects : List Bool) → 0 < most → objects ≡ first ∷ [] → Kept vars most (open_rest vars (pred most) (opens first)) initial initial objects
kept-first vars most initial first objects some is = record {
  left = pred most;
  told = go (open_rest vars (pred most) (opens first) (tokens initial)) ∙ ap (λ (l : List Bool). rests vars (pred most) (reverse l) (tokens initial)) (sym is);
  shared = let size : length objects ≡ 1 = ap length is in omega (arith, some, size);
  on = stays initial;
}
  where
    go : {A : Type 0} (o : Outcome A) → ended o ≡ (ended o >>= λ _ rest. Read tt rest)
    go (Read t rest) = refl
    go (Refused v rest) = refl

-- the innermost, and those around it
reversed : (outer : List Bool) (object : Bool) → reverse (outer ++ object ∷ []) ≡ object ∷ reverse outer
reversed outer object = reverse-append outer (object ∷ [])

module _ {Y : Type 0} {vars : Bool} {most : ℕ} {whole : Reader Y} {initial now : Ahead} {objects : List Bool} (kept : Kept vars most whole initial now objects) (object : Bool) (outer : List Bool) (innermost : objects ≡ outer ++ object ∷ []) where
  size : length objects ≡ suc (length outer)
  size = ap length innermost ∙ length-append outer (object ∷ []) ∙ omega arith

  pub room : length outer < most
  room = let n = size in omega (arith, n, kept.shared)

  inside : ended (whole (tokens initial)) ≡ (step_at vars kept.left object (tokens now) >>= went vars kept.left object (reverse outer))
  inside = kept.told ∙ ap (λ (l : List Bool). rests vars kept.left l (tokens now)) (ap reverse innermost ∙ reversed outer object) ∙ step-law vars kept.left object (reverse outer) (tokens now)

  module _ (left : ℕ) (shared : left + length outer + 1 ≡ most) (next : Ahead) where
    left-is : left ≡ kept.left
    left-is = let n = size in omega (arith, shared, n, kept.shared)

    after : (m : Met) → step_at vars left object (tokens now) ≡ Read m (tokens next) → ended (whole (tokens initial)) ≡ went vars left object (reverse outer) m (tokens next)
    after m h = inside ∙ ap (λ (n : ℕ). step_at vars n object (tokens now) >>= went vars n object (reverse outer)) (sym left-is) ∙ ap (λ (o : Outcome Met). o >>= went vars left object (reverse outer)) h

    pub kept-closed : step_at vars left object (tokens now) ≡ Read closes (tokens next) → GoesOn now next → Kept vars most whole initial next outer
    kept-closed h on = record {
      left = suc left;
      told = after closes h;
      shared = omega (arith, shared);
      on = go-on initial now next kept.on on;
    }

    pub kept-passed : (objects' : List Bool) → objects' ≡ outer ++ object ∷ [] → step_at vars left object (tokens now) ≡ Read passes (tokens next) → GoesOn now next → Kept vars most whole initial next objects'
    kept-passed objects' is h on = record {
      left = left;
      told = after passes h ∙ ap (λ (l : List Bool). rests vars left l (tokens next)) (sym (ap reverse is ∙ reversed outer object));
      shared = let n : length objects' ≡ suc (length outer) = ap length is ∙ length-append outer (object ∷ []) ∙ omega arith in omega (arith, shared, n);
      on = go-on initial now next kept.on on;
    }

    pub kept-entered : (inner : Bool) (objects' objects'' : List Bool) → 0 < left → objects' ≡ outer ++ object ∷ [] → objects'' ≡ objects' ++ inner ∷ [] → step_at vars left object (tokens now) ≡ Read (enters (opens inner)) (tokens next) → GoesOn now next → Kept vars most whole initial next objects''
    kept-entered inner objects' objects'' some is is' h on =
        let turned : reverse objects'' ≡ inner ∷ object ∷ reverse outer = ap reverse is' ∙ reversed objects' inner ∙ ap (λ (l : List Bool). inner ∷ l) (ap reverse is ∙ reversed outer object) in
        let n : length objects' ≡ suc (length outer) = ap length is ∙ length-append outer (object ∷ []) ∙ omega arith in
        let n' : length objects'' ≡ suc (length objects') = ap length is' ∙ length-append objects' (inner ∷ []) ∙ omega arith in
        record {
          left = pred left;
          told =
              after (enters (opens inner)) h
              ∙ ap (λ (k : Bool). rests vars (pred left) (k ∷ object ∷ reverse outer) (tokens next)) (object-opens inner)
              ∙ ap (λ (l : List Bool). rests vars (pred left) l (tokens next)) (sym turned);
          shared = omega (arith, shared, n, n', some);
          on = go-on initial now next kept.on on;
        }

    pub kept-stops : (e : Refusal) → Refuses e now next (step_at vars left object) → GoesOn now next → Refuses e initial next whole × GoesOn initial next
    kept-stops e h on = (by e h, go-on initial now next kept.on on)
      where
        refused : (v : Verdict) → step_at vars left object (tokens now) ≡ Refused v (tokens next) → whole (tokens initial) ≡ Refused v (tokens next)
        refused v h = ended-refused _ v (tokens next) (inside ∙ ap (λ (n : ℕ). step_at vars n object (tokens now) >>= went vars n object (reverse outer)) (sym left-is) ∙ ap (λ (o : Outcome Met). o >>= went vars left object (reverse outer)) h)

        by : (e : Refusal) → Refuses e now next (step_at vars left object) → Refuses e initial next whole
        by Memory h = h
        by Syntax h = refused syntax h
        by Limit h = refused limit h

-- fewer tokens are ahead
pub shorter : (vars : Bool) (left : ℕ) (object : Bool) (now next : Ahead) (m : Met) → step_at vars left object (tokens now) ≡ Read m (tokens next) → suc (length next.after) ≤ length now.after
shorter vars left object now next m h = let less = step-shorter vars left object (tokens now) m (tokens next) h in omega (arith, less)
