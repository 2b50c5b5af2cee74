-- What a loop keeps that reads one or more and makes no tree.
use Rattle.std.proofs.Common.{◌≡◌, suc, ◌≤◌, true, false, [], ◌∷◌, length, refl, sym, ap, ◌∙◌, Result, Ok, Err, Some, arith}
use Rattle.graphql_reading.specs.declared.parser.Refusal.{Refusal}
use Rattle.graphql_reading.specs.declared.parser.Refusal.TheVariants.{Memory, Syntax, Limit}
use Rattle.graphql_reading.specs.grammar.Tests.{Test}
use Rattle.graphql_reading.specs.grammar.Fronts.{Verdict, syntax, limit}
use Rattle.graphql_reading.specs.reading.Ahead.{Ahead, tokens}
use Rattle.graphql_reading.specs.reading.Given.{GoesOn, Refuses}
use Rattle.graphql_reading.specs.reading.Outcome.{Refused, Reader, Takes, plus_at}
use Rattle.graphql_reading.proofs.Loop.{loop-goes, loop-ends, loop-stops, loop-starts}
use Rattle.graphql_reading.proofs.Loops.{go-on, stays}
use Rattle.graphql_parser.specs.Checked.{rest_of, Checks}
use Rattle.graphql_parser.proofs.Rests.{ended, is-read, ended-read, ended-refused, front-ended}

-- All that is read is what the tokens ahead give, but for its tree; and the parser has gone on.
pub record Kept {Y : Type 0} (r : Reader Y) (initial now : Ahead) : Type 0 where
  pub told : ended (r (tokens initial)) ≡ ended (r (tokens now))
  pub on : GoesOn initial now

pub begins : {Y : Type 0} (r : Reader Y) (initial : Ahead) → Kept r initial initial
begins r initial = record { told = refl; on = stays initial }

module _ {Y : Type 0} (first : Test) (r : Reader Y) {initial now : Ahead} (kept : Kept (plus_at first r) initial now) (next : Ahead) where
  pub stops : (e : Refusal) → Refuses e now next r → GoesOn now next → Refuses e initial next (plus_at first r) × GoesOn initial next
  stops e h on = (by e h, go-on initial now next kept.on on)
    where
      refused : (v : Verdict) → r (tokens now) ≡ Refused v (tokens next) → plus_at first r (tokens initial) ≡ Refused v (tokens next)
      refused v h =
          let now-refused = loop-stops first r (plus_at first r (tokens now)) [] (tokens now) v (tokens next) (loop-starts _) h in
          ended-refused _ v (tokens next) (kept.told ∙ ap ended now-refused)

      by : (e : Refusal) → Refuses e now next r → Refuses e initial next (plus_at first r)
      by Memory h = h
      by Syntax h = refused syntax h
      by Limit h = refused limit h

  pub goes : Takes r → rest_of (r (tokens now)) ≡ Some (tokens next) → GoesOn now next → first next.hand.bare ≡ true → Kept (plus_at first r) initial next
  goes takes h on at =
      let read = is-read (r (tokens now)) (tokens next) h in
      record {
        told = kept.told ∙ ap ended (loop-goes first r takes (plus_at first r (tokens now)) [] (tokens now) read.tree next.hand next.after (loop-starts _) read.is at) ∙ front-ended (read.tree ∷ []) (plus_at first r (tokens next));
        on = go-on initial now next kept.on on;
      }

  pub ends : rest_of (r (tokens now)) ≡ Some (tokens next) → GoesOn now next → first next.hand.bare ≡ false → (rest_of (plus_at first r (tokens initial)) ≡ Some (tokens next)) × GoesOn initial next
  ends h on at =
      let read = is-read (r (tokens now)) (tokens next) h in (
        ended-read _ (tokens next) (kept.told ∙ ap ended (loop-ends first r (plus_at first r (tokens now)) [] (tokens now) read.tree next.hand next.after (loop-starts _) read.is at)),
        go-on initial now next kept.on on,
      )

pub shorter : {Y : Type 0} (r : Reader Y) (now next : Ahead) → Takes r → rest_of (r (tokens now)) ≡ Some (tokens next) → suc (length next.after) ≤ length now.after
shorter r now next takes h =
    let read = is-read (r (tokens now)) (tokens next) h in
    let less = takes (tokens now) read.tree (tokens next) read.is in
    omega (arith, less)

-- ---- any number

pub there : {X Y : Type 0} (result : Result X Refusal) (old new : Ahead) (r : Reader Y) (s : Reader Y) → r (tokens old) ≡ s (tokens old) → Checks result old new r → Checks result old new s
there (Ok x) old new r s e h = (ap rest_of (sym e) ∙ h.0, h.1)
there (Err Memory) old new r s e h = h
there (Err Syntax) old new r s e h = (sym e ∙ h.0, h.1)
there (Err Limit) old new r s e h = (sym e ∙ h.0, h.1)
