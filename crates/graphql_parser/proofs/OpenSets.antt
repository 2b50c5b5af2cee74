-- What the loop over open sets keeps, of which only the number is kept, and each way on.
use Rattle.std.proofs.Common.{◌≡◌, ℕ, zero, suc, pred, ◌+◌, ◌<◌, ◌≤◌, Bool, true, false, ◌||◌, nat_lt, Some, None, is_some, List, [], ◌∷◌, ◌++◌, length, refl, sym, ap, ◌∙◌, arith}
use Rattle.std.proofs.lemmas.Bool.Decides.{nat_tests}
use Rattle.graphql_tokens.specs.declared.pos.Pos.{Pos}
use Rattle.graphql_tokens.specs.declared.pos.Positioned.{Positioned}
use Rattle.graphql_tokens.specs.tokens.Token.{Token}
use Rattle.graphql_syntax.specs.trees.Parts.{placed}
use Rattle.graphql_trees.specs.trees.Request.{Selection}
use Rattle.graphql_reading.specs.declared.parser.Refusal.{Refusal}
use Rattle.graphql_reading.specs.grammar.Places.{nowhere}
use Rattle.graphql_reading.specs.grammar.Tests.{punct}
use Rattle.graphql_reading.specs.reading.Ahead.{Ahead, tokens}
use Rattle.graphql_reading.specs.reading.Given.{GoesOn, Refuses}
use Rattle.graphql_reading.specs.reading.Outcome.{Outcome, Read, Refused, ◌>>=◌, one_at, many_at, with_front}
use Rattle.graphql_reading.proofs.Loop.{rest-more, rest-stops}
use Rattle.graphql_reading.proofs.Loops.{go-on}
use Rattle.graphql_requests.specs.grammar.Selections.{Set}
use Rattle.graphql_requests.specs.reading.Selections.{selection_first, selection_set_at}
use Rattle.graphql_requests.specs.reading.SelectionSteps.{Heading, with_set, may_nest, head_at, item_at, Opened, closed, close_at, after_rest, more, begun, wanted_rest, headed}
use Rattle.graphql_requests.proofs.Heads.{set-law, item-law}
use Rattle.graphql_requests.proofs.HeadTakes.{head-nests, item-takes, onto-takes}
use Rattle.graphql_parser.specs.Checked.{rest_of}
use Rattle.graphql_parser.specs.Heads.{entered_at}
use Rattle.graphql_parser.specs.OpenSets.{fresh, outs, sets}
use Rattle.graphql_parser.proofs.Parts.{stops-as}
use Rattle.graphql_parser.proofs.Rests.{ended, ended-read}

-- from a head on, whose set follows or doesn't
abbrev pub headed-on : ℕ → ℕ → ℕ → Bool → List Token → Outcome (Unit {0})
headed-on values b n true ts = sets values (pred b) (suc n) true ts
headed-on values b n false ts = sets values b n false ts

-- ---- what was read of a set doesn't matter

after-any : (values b : ℕ) (o : Opened) (ts : List Token) → ended (after_rest values b o ts) ≡ ended (after_rest values b fresh ts)
unfolding after_rest
after-any values b o ts = go (many_at selection_first (item_at values b) ts)
  where
    closes : (front items : List (Positioned Selection)) (c : Outcome Token) → ended (c >>= λ _ rest. Read (closed (record { place = o.place; items = front })) rest) ≡ ended (c >>= λ _ rest. Read (closed (record { place = nowhere; items = items })) rest)
    closes front items (Read t rest) = refl
    closes front items (Refused v rest) = refl

    go : (read : Outcome (List (Positioned Selection))) → ended (with_front o.items read >>= close_at o.place) ≡ ended (with_front [] read >>= close_at nowhere)
    go (Read items rest) = closes (o.items ++ items) items (one_at (punct "}") rest)
    go (Refused v rest) = refl

pub wanted-any : (values b : ℕ) (o : Opened) (ts : List Token) → ended (wanted_rest values b o ts) ≡ ended (wanted_rest values b fresh ts)
wanted-any values b o ts = go (item_at values b ts)
  where
    go : (read : Outcome (Positioned Selection)) → ended (read >>= λ x rest. after_rest values b (more o x) rest) ≡ ended (read >>= λ x rest. after_rest values b (more fresh x) rest)
    go (Read x rest) = after-any values b (more o x) rest ∙ sym (after-any values b (more fresh x) rest)
    go (Refused v rest) = refl

-- ---- a head

-- a set follows only where one may stand
nests : (values b : ℕ) (x : Positioned Selection) (place : Pos) (ts rest : List Token) → head_at values (may_nest b) ts ≡ Read (x, Some place) rest → may_nest b ≡ true
nests values b x place ts rest e = head-nests values (may_nest b) [] (x ∷ []) place ts rest (rw e refl)

module _ (values : ℕ) where
  abbrev next : ℕ → Positioned Selection → List Token → Outcome Set
  next b x rest = after_rest values b (more fresh x) rest

  abbrev outside : ℕ → ℕ → Outcome (Unit {0}) → Outcome (Unit {0})
  outside b n o = o >>= λ _ rest. outs values b n rest

  -- the selection has its set
  with-own : (b n : ℕ) (x : Positioned Selection) (own : Outcome Set) → outside (suc b) n (ended ((own >>= λ set rest. Read (placed (with_set set) x) rest) >>= next (suc b))) ≡ (ended own >>= λ _ rest. outs values b (suc n) rest)
  with-own b n x (Read set rest) = ap (outside (suc b) n) (after-any values (suc b) (more fresh (placed (with_set set) x)) rest)
  with-own b n x (Refused v rest) = refl

  pub head-law : (b n : ℕ) (ts : List Token) → sets values b n true ts ≡ (entered_at (head_at values (may_nest b)) ts >>= headed-on values b n)
  head-law b n ts = ap (λ (o : Outcome (Positioned Selection)). outside b n (ended (o >>= next b))) (item-law values b ts) ∙ go b (head_at values (may_nest b) ts) (λ x place rest e. nests values b x place ts rest e)
    where
      go : (b : ℕ) (o : Outcome Heading) → ((x : Positioned Selection) (place : Pos) (rest : List Token) → o ≡ Read (x, Some place) rest → may_nest b ≡ true) → outside b n (ended ((o >>= headed values b) >>= next b)) ≡ ((o >>= λ x rest. Read (is_some x.1) rest) >>= headed-on values b n)
      go b (Read (x, None) rest) may = ap (outside b n) (after-any values b (more fresh x) rest)
      go zero (Read (x, Some place) rest) may = absurd (let no : may_nest zero ≡ true = may x place rest refl in cc)
      go (suc b) (Read (x, Some place) rest) may =
          with-own b n x (wanted_rest values b (begun place) rest)
          ∙ ap (λ (o : Outcome (Unit {0})). o >>= λ _ rest'. outs values b (suc n) rest') (wanted-any values b (begun place) rest)
      go b (Refused v rest) may = refl

  -- ---- after a selection

  pub more-law : (b n : ℕ) (t : Token) (ts : List Token) → selection_first t.bare ≡ true → sets values b n false (t ∷ ts) ≡ sets values b n true (t ∷ ts)
  unfolding after_rest
  more-law b n t ts e = ap (λ (o : Outcome Set). outside b n (ended o)) (rest-more selection_first (item_at values b) (close_at nowhere) (item-takes values b) [] t ts e)

  pub end-law : (b n : ℕ) (t : Token) (ts : List Token) → selection_first t.bare ≡ false → sets values b n false (t ∷ ts) ≡ (one_at (punct "}") (t ∷ ts) >>= λ _ rest. outs values b n rest)
  unfolding after_rest
  end-law b n t ts e = ap (λ (o : Outcome Set). outside b n (ended o)) (rest-stops selection_first (item_at values b) (close_at nowhere) [] t ts e) ∙ go (one_at (punct "}") (t ∷ ts))
    where
      go : (o : Outcome Token) → outside b n (ended (o >>= λ _ rest. Read (closed fresh) rest)) ≡ (o >>= λ _ rest. outs values b n rest)
      go (Read c rest) = refl
      go (Refused v rest) = refl

-- ---- what is kept

-- All that is read is, but for its tree, what is read to the end of all that is open; those around and those that may
-- still open are the limit; and the parser has gone on.
pub record Kept (values selections : ℕ) (start now : Ahead) (outer : ℕ) (wanted : Bool) : Type 0 where
  pub left : ℕ
  pub told : ended (selection_set_at values selections (tokens start)) ≡ sets values left outer wanted (tokens now)
  pub shared : left + outer ≡ selections
  pub on : GoesOn start now

-- before the first selection
pub kept-first : (values selections : ℕ) (start now : Ahead) (t : Token) → one_at (punct "{") (tokens start) ≡ Read t (tokens now) → GoesOn start now → Kept values selections start now 0 true
kept-first values selections start now t h on = record {
  left = selections;
  told =
      ap ended (set-law values selections (tokens start) ∙ ap (λ (o : Outcome Token). o >>= λ t rest. wanted_rest values selections (begun t.pos) rest) h)
      ∙ wanted-any values selections (begun t.pos) (tokens now)
      ∙ go (ended (wanted_rest values selections fresh (tokens now)));
  shared = omega arith;
  on = on;
}
  where
    go : (o : Outcome (Unit {0})) → o ≡ (o >>= λ _ rest. Read tt rest)
    go (Read tt rest) = refl
    go (Refused v rest) = refl

pub opens-not : (values selections : ℕ) (start new : Ahead) (e : Refusal) → Refuses e start new (one_at (punct "{")) → GoesOn start new → Refuses e start new (selection_set_at values selections) × GoesOn start new
opens-not values selections start new e h on =
    stops-as e start start new (selection_set_at values selections) (one_at (punct "{"))
    (λ v k. ap ended (set-law values selections (tokens start) ∙ ap (λ (o : Outcome Token). o >>= λ t rest. wanted_rest values selections (begun t.pos) rest) k))
    (refl, omega arith) h on

pub nests-is : (left outer selections : ℕ) → left + outer ≡ selections → nat_lt outer selections ≡ may_nest left
nests-is zero outer selections e = grind (arith, nat_tests)
nests-is (suc left) outer selections e = grind (arith, nat_tests)

-- ---- the ways on

neither : (v w : Bool) → (v || w) ≡ false → (v ≡ false) × (w ≡ false)
neither true w e = absurd cc
neither false w e = (refl, e)

module _ {values selections outer : ℕ} {start now : Ahead} where
  -- a selection is next where one has to follow, and where one begins
  pub goes-on : {wanted : Bool} → Kept values selections start now outer wanted → (wanted || selection_first now.hand.bare) ≡ true → Kept values selections start now outer true
  goes-on {wanted = true} kept next = kept
  goes-on {wanted = false} kept next = record {
    left = kept.left;
    told = kept.told ∙ more-law values kept.left outer now.hand now.after next;
    shared = kept.shared;
    on = kept.on;
  }

  module _ (kept : Kept values selections start now outer true) (may : Bool) (is-may : may ≡ nat_lt outer selections) (after : Ahead) where
    head : ended (selection_set_at values selections (tokens start)) ≡ (entered_at (head_at values may) (tokens now) >>= headed-on values kept.left outer)
    head =
        kept.told ∙ head-law values kept.left outer (tokens now)
        ∙ ap (λ (b : Bool). entered_at (head_at values b) (tokens now) >>= headed-on values kept.left outer) (sym (is-may ∙ nests-is kept.left outer selections kept.shared))

    pub head-not : (e : Refusal) → Refuses e now after (entered_at (head_at values may)) → GoesOn now after → Refuses e start after (selection_set_at values selections) × GoesOn start after
    head-not e h on = stops-as e start now after (selection_set_at values selections) (entered_at (head_at values may)) (λ v k. head ∙ ap (λ (o : Outcome Bool). o >>= headed-on values kept.left outer) k) kept.on h on

    module _ (entered : Bool) (h : entered_at (head_at values may) (tokens now) ≡ Read entered (tokens after)) where
      after-head : ended (selection_set_at values selections (tokens start)) ≡ headed-on values kept.left outer entered (tokens after)
      after-head = head ∙ ap (λ (o : Outcome Bool). o >>= headed-on values kept.left outer) h

      pub passes : GoesOn now after → entered ≡ false → Kept values selections start after outer entered
      passes on is = record {
        left = kept.left;
        told =
            after-head
            ∙ ap (λ (w : Bool). headed-on values kept.left outer w (tokens after)) is
            ∙ ap (λ (w : Bool). sets values kept.left outer w (tokens after)) (sym is);
        shared = kept.shared;
        on = go-on start now after kept.on on;
      }

      -- a set follows only where one may stand
      room : entered ≡ true → outer < selections
      room is = go (head_at values may (tokens now)) refl h
        where
          is-less : may ≡ true → outer < selections
          is-less m = let less : nat_lt outer selections ≡ true = sym is-may ∙ m in grind (arith, nat_tests)

          go : (o : Outcome Heading) → head_at values may (tokens now) ≡ o → (o >>= λ x rest. Read (is_some x.1) rest) ≡ Read entered (tokens after) → outer < selections
          go (Read (x, None) rest) e k = absurd cc
          go (Read (x, Some place) rest) e k = is-less (head-nests values may [] (x ∷ []) place (tokens now) rest (rw e refl))
          go (Refused v rest) e k = absurd cc

      pub enters : (next : ℕ) → next ≡ outer + 1 → GoesOn now after → entered ≡ true → Kept values selections start after next entered
      enters next more on is =
          let less = room is in
          let one : suc outer ≡ next = omega (arith, more) in
          record {
            left = pred kept.left;
            told =
                after-head
                ∙ ap (λ (w : Bool). headed-on values kept.left outer w (tokens after)) is
                ∙ ap (λ (n : ℕ). sets values (pred kept.left) n true (tokens after)) one
                ∙ ap (λ (w : Bool). sets values (pred kept.left) next w (tokens after)) (sym is);
            shared = omega (arith, less, kept.shared, more);
            on = go-on start now after kept.on on;
          }

      pub head-shorter : suc (length after.after) ≤ length now.after
      head-shorter = go (head_at values may (tokens now)) refl h
        where
          go : (o : Outcome Heading) → head_at values may (tokens now) ≡ o → (o >>= λ x rest. Read (is_some x.1) rest) ≡ Read entered (tokens after) → suc (length after.after) ≤ length now.after
          go (Read x rest) e k =
              let same : rest ≡ tokens after = cc in
              let less = onto-takes values may [] (tokens now) (x.0 ∷ [], x.1) rest (rw e refl) in
              let size : length rest ≡ length (tokens after) = ap length same in
              omega (arith, less, size)
          go (Refused v rest) e k = absurd cc

  module _ {wanted : Bool} (kept : Kept values selections start now outer wanted) (next : (wanted || selection_first now.hand.bare) ≡ false) (after : Ahead) where
    is : wanted ≡ false
    is = (neither wanted (selection_first now.hand.bare) next).0

    end : ended (selection_set_at values selections (tokens start)) ≡ (one_at (punct "}") (tokens now) >>= λ _ rest. outs values kept.left outer rest)
    end = kept.told ∙ ap (λ (w : Bool). sets values kept.left outer w (tokens now)) is ∙ end-law values kept.left outer now.hand now.after (neither wanted (selection_first now.hand.bare) next).1

    pub end-not : (e : Refusal) → Refuses e now after (one_at (punct "}")) → GoesOn now after → Refuses e start after (selection_set_at values selections) × GoesOn start after
    end-not e h on = stops-as e start now after (selection_set_at values selections) (one_at (punct "}")) (λ v k. end ∙ ap (λ (o : Outcome Token). o >>= λ _ rest. outs values kept.left outer rest) k) kept.on h on

    module _ (t : Token) (h : one_at (punct "}") (tokens now) ≡ Read t (tokens after)) (on : GoesOn now after) where
      after-end : ended (selection_set_at values selections (tokens start)) ≡ outs values kept.left outer (tokens after)
      after-end = end ∙ ap (λ (o : Outcome Token). o >>= λ _ rest. outs values kept.left outer rest) h

      pub ends : outer ≡ 0 → (rest_of (selection_set_at values selections (tokens start)) ≡ Some (tokens after)) × GoesOn start after
      ends alone = (ended-read _ (tokens after) (after-end ∙ ap (λ (n : ℕ). outs values kept.left n (tokens after)) alone), go-on start now after kept.on on)

      pub leaves : (around : ℕ) → outer ≡ suc around → Kept values selections start after around wanted
      leaves around more = record {
        left = suc kept.left;
        told =
            after-end
            ∙ ap (λ (n : ℕ). outs values kept.left n (tokens after)) more
            ∙ ap (λ (w : Bool). sets values (suc kept.left) around w (tokens after)) (sym is);
        shared = omega (arith, kept.shared, more);
        on = go-on start now after kept.on on;
      }
