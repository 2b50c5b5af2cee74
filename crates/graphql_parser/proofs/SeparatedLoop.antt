-- What a loop keeps that reads phrases with a mark between each two of them, and makes no tree.
use Rattle.std.proofs.Common.{◌≡◌, suc, ◌≤◌, Bool, true, false, Ok, Some, List, [], ◌∷◌, ◌++◌, length, map, refl, ap}
use Rattle.graphql_reading.specs.declared.parser.Refusal.{Refusal}
use Rattle.graphql_reading.specs.grammar.Tests.{Test}
use Rattle.graphql_reading.specs.reading.Ahead.{Ahead, tokens}
use Rattle.graphql_reading.specs.reading.Given.{Gives, GoesOn, Refuses}
use Rattle.graphql_reading.specs.reading.Outcome.{Reader, Takes, take_at, separated_at}
use Rattle.graphql_reading.proofs.SeparatedLoop.{KeptMembers, begins-members, stops-members, goes-members, ends-members, shorter-members}
use Rattle.graphql_parser.specs.Checked.{rest_of}
use Rattle.graphql_parser.proofs.Rests.{is-read}

abbrev pub itself : {Y : Type 0} → Y → Y
itself y = y

-- All that is read is some phrases, and what the tokens ahead give.
pub record KeptSome {Y : Type 0} (mark : Test) (r : Reader Y) (initial now : Ahead) : Type 0 where
  pub items : List Y
  pub kept : KeptMembers mark r initial now (map itself items)

pub begins-some : {Y : Type 0} (mark : Test) (r : Reader Y) (initial now : Ahead) (taken : Bool) → Gives (λ taken. taken) (Ok taken) initial now (take_at mark) → KeptSome mark r initial now
begins-some mark r initial now taken h = record { items = []; kept = begins-members mark r initial now taken h }

module _ {Y : Type 0} (mark : Test) (r : Reader Y) {initial now : Ahead} (kept : KeptSome mark r initial now) (next : Ahead) where
  pub stops-some : (e : Refusal) → Refuses e now next r → GoesOn now next → Refuses e initial next (separated_at mark r) × GoesOn initial next
  stops-some e h on = stops-members itself (map itself) mark r initial now next (map itself kept.items) e kept.kept (h, on)

  module _ (again : Ahead) (taken : Bool) (h : rest_of (r (tokens now)) ≡ Some (tokens next)) (on : GoesOn now next) (marked : Gives (λ taken. taken) (Ok taken) next again (take_at mark)) where
    pub goes-some : Takes r → taken ≡ true → KeptSome mark r initial again
    goes-some takes is-taken =
        let read = is-read (r (tokens now)) (tokens next) h in
        record {
          items = kept.items ++ read.tree ∷ [];
          kept = goes-members itself mark r initial now next again kept.items (kept.items ++ read.tree ∷ []) read.tree taken takes kept.kept (read.is, on) marked is-taken refl;
        }

    pub ends-some : taken ≡ false → (rest_of (separated_at mark r (tokens initial)) ≡ Some (tokens again)) × GoesOn initial again
    ends-some is-left =
        let read = is-read (r (tokens now)) (tokens next) h in
        let all = ends-members itself mark r initial now next again kept.items (kept.items ++ read.tree ∷ []) read.tree taken kept.kept (read.is, on) marked is-left refl in
        (ap rest_of all.0, all.1)

    pub shorter-some : Takes r → taken ≡ true → suc (length again.after) ≤ length now.after
    shorter-some takes is-taken =
        let read = is-read (r (tokens now)) (tokens next) h in
        shorter-members itself mark r now next again read.tree taken takes (read.is, on) marked is-taken
