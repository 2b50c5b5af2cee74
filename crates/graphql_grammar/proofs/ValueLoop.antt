-- What the loop over frames keeps, and each way on.
use Rattle.std.proofs.Common.{◌≡◌, ℕ, suc, pred, ◌+◌, ◌-◌, ◌<◌, Bool, true, false, refl, map, length, List, Option, Some, None, Result, Ok, Err, [], ◌∷◌, ◌++◌, sym, ap, ◌∙◌, subst, arith, length-append}
use Rattle.std.proofs.lemmas.List.{map_push}
use Rattle.graphql_tokens.specs.declared.pos.Pos.{Pos}
use Rattle.graphql_tokens.specs.declared.pos.Positioned.{Positioned}
use Rattle.graphql_tokens.specs.tokens.Token.{Token}
use Rattle.graphql_syntax.specs.trees.Parts.{placed}
use Rattle.graphql_syntax.specs.trees.ValueTree.{Tree}
use Rattle.graphql_reading.specs.declared.parser.Refusal.{Refusal}
use Rattle.graphql_reading.specs.declared.parser.Refusal.TheVariants.{Memory, Syntax, Limit}
use Rattle.graphql_grammar.specs.declared.value.frames.Open.{Open}
use Rattle.graphql_grammar.specs.declared.value.frames.Frame.{Frame}
use Rattle.graphql_reading.specs.grammar.Fronts.{Verdict, syntax, limit}
use Rattle.graphql_reading.specs.grammar.Places.{at}
use Rattle.graphql_reading.specs.reading.Ahead.{Ahead, Stays, tokens}
use Rattle.graphql_grammar.specs.reading.OpenValues.{node_of, node_at, Opened, opened, Waiting, waiting, open_rest, add, resume, closes, enters, goes_on, enter_at, Met, MeetsAt, Meets}
use Rattle.graphql_reading.specs.reading.Given.{Gives, GoesOn, Refuses}
use Rattle.graphql_reading.specs.reading.Outcome.{Outcome, Read, Refused, Reader, ◌>>=◌}
use Rattle.graphql_grammar.specs.reading.Values.{simple_at, value_at}
use Rattle.graphql_reading.proofs.Loops.{go-on, ahead-stays, on-stays}
use Rattle.graphql_grammar.proofs.Made.{refuses-made}
use Rattle.graphql_grammar.proofs.ValueFrames.{value-law, begun, entered, resume-refused, resume-push}
use Rattle.graphql_grammar.proofs.ValuePlaces.{value-placed}

abbrev stack : {V : Type 0} → (V → Tree) → List (Frame V) → List Waiting
stack tree fs = map (waiting tree) fs

-- The frames, the outermost first, and the innermost list or object make of the tokens ahead what is
-- read in all; with the innermost they are at most so many; and the parser has gone on.
pub record Kept {V : Type 0} (tree : V → Tree) (vars : Bool) (most : ℕ) (whole : Reader Tree) (initial now : Ahead) (fs : List (Frame V)) (o : Open V) : Type 0 where
  pub left : ℕ
  pub told : whole (tokens initial) ≡ resume vars (suc left) (stack tree fs) (open_rest vars left (opened tree o) (tokens now))
  pub shared : suc left + length fs ≡ most
  pub on : GoesOn initial now

-- a list or an object begins, and none is around it
pub kept-first : {V : Type 0} (tree : V → Tree) (vars : Bool) (most : ℕ) (old mid : Ahead) (fs : List (Frame V)) (o : Open V) → enter_at most (tokens old) ≡ Read (Some (opened tree o)) (tokens mid) → GoesOn old mid → fs ≡ [] → Kept tree vars most (node_at (value_at vars most)) old mid fs o
kept-first tree vars most old mid fs o h on none = record {
  left = pred most;
  told =
      value-law vars most (tokens old)
      ∙ ap (λ (r : Outcome (Option Opened)). r >>= begun vars most) h
      ∙ ap (λ (l : List (Frame _)). resume vars (suc (pred most)) (stack tree l) (open_rest vars (pred most) (opened tree o) (tokens mid))) (sym none);
  shared =
      let some : 0 < most = (entered most (tokens old) (opened tree o) (tokens mid) h).0 in
      let size : length fs ≡ 0 = ap length none in
      omega (arith, some, size);
  on = on;
}

module _ {V : Type 0} {tree : V → Tree} {vars : Bool} {most : ℕ} {whole : Reader Tree} {initial now : Ahead} {fs : List (Frame V)} {o : Open V} (k : Kept tree vars most whole initial now fs o) where
  -- the budget after the frames
  left-is : (left : ℕ) → left + length fs + 1 ≡ most → left ≡ k.left
  left-is left h = omega (arith, h, k.shared)

  -- so many levels may open inside the innermost
  pub room : (levels len : ℕ) → levels ≡ most → len ≡ length fs → levels - len - 1 + length fs + 1 ≡ most
  room levels len same size = omega (arith, same, size, k.shared)

  -- memory was asked for
  pub kept-stays : (new : Ahead) → Stays now new → Kept tree vars most whole initial new fs o
  kept-stays new s = record {
    left = k.left;
    told = k.told ∙ ap (λ (l : List Token). resume vars (suc k.left) (stack tree fs) (open_rest vars k.left (opened tree o) l)) (sym (ahead-stays now new s));
    shared = k.shared;
    on = on-stays initial now new k.on s;
  }

  -- what is met
  goes : (left : ℕ) (met : Met) (next : Ahead) → left + length fs + 1 ≡ most → MeetsAt vars left met now next (open_rest vars left (opened tree o)) → whole (tokens initial) ≡ resume vars (suc k.left) (stack tree fs) (goes_on vars k.left met (tokens next))
  goes left met next shared m =
      k.told
      ∙ ap (resume vars (suc k.left) (stack tree fs)) (subst (λ (n : ℕ). open_rest vars n (opened tree o) (tokens now) ≡ goes_on vars n met (tokens next)) (left-is left shared) m.told)

  -- it is closed, and there is another around it,
  pub kept-popped : (left : ℕ) (t : Tree) (next : Ahead) (f : Frame V) (less : List (Frame V)) (p : Open V) → left + length fs + 1 ≡ most → fs ≡ less ++ f ∷ [] → opened tree p ≡ add (waiting tree f) t → MeetsAt vars left (closes t) now next (open_rest vars left (opened tree o)) → GoesOn now next → Kept tree vars most whole initial next less p
  kept-popped left t next f less p shared popped added m on =
      let stacked : stack tree fs ≡ stack tree less ++ waiting tree f ∷ [] = ap (stack tree) popped ∙ map_push (waiting tree) less f in
      let size : length fs ≡ suc (length less) = ap length popped ∙ length-append less (f ∷ []) ∙ omega arith in
      record {
        left = suc k.left;
        told =
            goes left (closes t) next shared m
            ∙ ap (λ (l : List Waiting). resume vars (suc k.left) l (Read t (tokens next))) stacked
            ∙ resume-push vars (suc k.left) (stack tree less) (waiting tree f) (Read t (tokens next))
            ∙ ap (λ (q : Opened). resume vars (suc (suc k.left)) (stack tree less) (open_rest vars (suc k.left) q (tokens next))) (sym added);
        shared = omega (arith, k.shared, size);
        on = go-on initial now next k.on on;
      }

  -- or one begins inside it.
  pub kept-entered : (left : ℕ) (next : Ahead) (f : Frame V) (more : List (Frame V)) (p : Open V) → left + length fs + 1 ≡ most → more ≡ fs ++ f ∷ [] → MeetsAt vars left (enters (waiting tree f) (opened tree p)) now next (open_rest vars left (opened tree o)) → GoesOn now next → Kept tree vars most whole initial next more p
  kept-entered left next f more p shared pushed m on =
      let same : left ≡ k.left = left-is left shared in
      let room : 0 < left = m.room in
      let inner : k.left ≡ suc (pred k.left) = omega (arith, same, room) in
      let stacked : stack tree more ≡ stack tree fs ++ waiting tree f ∷ [] = ap (stack tree) pushed ∙ map_push (waiting tree) fs f in
      let size : length more ≡ suc (length fs) = ap length pushed ∙ length-append fs (f ∷ []) ∙ omega arith in
      let rest : Outcome Tree = open_rest vars (pred k.left) (opened tree p) (tokens next) in
      record {
        left = pred k.left;
        told =
            goes left (enters (waiting tree f) (opened tree p)) next shared m
            ∙ sym (resume-push vars k.left (stack tree fs) (waiting tree f) rest)
            ∙ ap (λ (l : List Waiting). resume vars k.left l rest) (sym stacked)
            ∙ ap (λ (n : ℕ). resume vars n (stack tree more) rest) inner;
        shared = omega (arith, k.shared, size, inner);
        on = go-on initial now next k.on on;
      }

  -- it is closed, and none is around it.
  pub kept-closed : (left : ℕ) (t : Tree) (next : Ahead) → left + length fs + 1 ≡ most → fs ≡ [] → MeetsAt vars left (closes t) now next (open_rest vars left (opened tree o)) → whole (tokens initial) ≡ Read t (tokens next)
  kept-closed left t next shared none m = goes left (closes t) next shared m ∙ ap (λ (l : List (Frame V)). resume vars (suc k.left) (stack tree l) (Read t (tokens next))) none

  -- what is refused inside is refused in all
  pub kept-stops : {X : Type 0} (left : ℕ) (view : X → Met) (e : Refusal) (next : Ahead) → left + length fs + 1 ≡ most → Meets vars left view (Err e) now next (open_rest vars left (opened tree o)) → Gives tree (Err e) initial next whole
  kept-stops left view e next shared meets = (by e meets.0, go-on initial now next k.on meets.1)
    where
      refused : (v : Verdict) → open_rest vars left (opened tree o) (tokens now) ≡ Refused v (tokens next) → whole (tokens initial) ≡ Refused v (tokens next)
      refused v h =
          k.told
          ∙ ap (resume vars (suc k.left) (stack tree fs)) (subst (λ (n : ℕ). open_rest vars n (opened tree o) (tokens now) ≡ Refused v (tokens next)) (left-is left shared) h)
          ∙ resume-refused vars (suc k.left) (stack tree fs) v (tokens next)

      by : (e : Refusal) → Refuses e now next (open_rest vars left (opened tree o)) → Refuses e initial next whole
      by Memory h = h
      by Syntax h = refused syntax h
      by Limit h = refused limit h

pub none-around : {A : Type 0} (outer : List A) → (0 < length outer → false ≡ true) → outer ≡ []
none-around [] h = refl
none-around (x ∷ xs) h = absurd (let some = h (omega arith) in cc)

-- ---- a value from its beginning

-- one reader in place of another, which begins where it has come to
goes-as : {X Y : Type 0} (view : X → Y) (result : Result X Refusal) (old mid new : Ahead) (p q : Reader Y) → p (tokens old) ≡ q (tokens mid) → GoesOn old mid → Gives view result mid new q → Gives view result old new p
goes-as view (Ok x) old mid new p q same on gives = (same ∙ gives.0, go-on old mid new on gives.1)
goes-as view (Err Memory) old mid new p q same on gives = (gives.0, go-on old mid new on gives.1)
goes-as view (Err Syntax) old mid new p q same on gives = (same ∙ gives.0, go-on old mid new on gives.1)
goes-as view (Err Limit) old mid new p q same on gives = (same ∙ gives.0, go-on old mid new on gives.1)

pub value-stops : {V X : Type 0} (tree : V → Tree) (part : X → Option Opened) (vars : Bool) (b : ℕ) (old new : Ahead) (e : Refusal) → Gives part (Err e) old new (enter_at b) → Gives tree (Err e) old new (node_at (value_at vars b))
value-stops tree part vars b old new e gives = (by e gives.0, gives.1)
  where
    refused : (v : Verdict) → enter_at b (tokens old) ≡ Refused v (tokens new) → node_at (value_at vars b) (tokens old) ≡ Refused v (tokens new)
    refused v h = value-law vars b (tokens old) ∙ ap (λ (o : Outcome (Option Opened)). o >>= begun vars b) h

    by : (e : Refusal) → Refuses e old new (enter_at b) → Refuses e old new (node_at (value_at vars b))
    by Memory h = h
    by Syntax h = refused syntax h
    by Limit h = refused limit h

pub value-simple : {V : Type 0} (tree : V → Tree) (vars : Bool) (b : ℕ) (result : Result V Refusal) (old mid new : Ahead) → enter_at b (tokens old) ≡ Read None (tokens mid) → GoesOn old mid → Gives tree result mid new (node_at (simple_at vars)) → Gives tree result old new (node_at (value_at vars b))
value-simple tree vars b result old mid new h = goes-as tree result old mid new (node_at (value_at vars b)) (node_at (simple_at vars)) (value-law vars b (tokens old) ∙ ap (λ (o : Outcome (Option Opened)). o >>= begun vars b) h)

-- ---- a value with its place

pub placed-stops : {V : Type 0} (tree : V → Tree) (vars : Bool) (b : ℕ) (old new : Ahead) (e : Refusal) → Gives tree (Err e) old new (node_at (value_at vars b)) → Gives (placed tree) (Err e) old new (value_at vars b)
placed-stops tree vars b old new e h = (refuses-made node_of (value_at vars b) e old new h.0, h.1)

pub value-stands : {V : Type 0} (tree : V → Tree) (vars : Bool) (b : ℕ) (old new : Ahead) (p : Positioned V) → p.pos ≡ old.hand.pos → node_at (value_at vars b) (tokens old) ≡ Read (tree p.node) (tokens new) → value_at vars b (tokens old) ≡ Read (placed tree p) (tokens new)
value-stands tree vars b old new p e h =
    value-placed vars b old.hand old.after
    ∙ ap (λ (o : Outcome Tree). o >>= λ n rest. Read (at old.hand n) rest) h
    ∙ ap (λ (place : Pos). Read (record { pos = place; node = tree p.node }) (tokens new)) (sym e)
