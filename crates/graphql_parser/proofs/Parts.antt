-- What a reader of the code gives, from what one of its parts gives.
use Rattle.std.proofs.Common.{◌≡◌, Some, Result, Ok, Err, ap, ◌∙◌}
use Rattle.graphql_reading.specs.declared.parser.Refusal.{Refusal}
use Rattle.graphql_reading.specs.declared.parser.Refusal.TheVariants.{Memory, Syntax, Limit}
use Rattle.graphql_reading.specs.grammar.Fronts.{Verdict, syntax, limit}
use Rattle.graphql_reading.specs.reading.Ahead.{Ahead, tokens}
use Rattle.graphql_reading.specs.reading.Given.{GoesOn, Refuses}
use Rattle.graphql_reading.specs.reading.Outcome.{Outcome, Read, Refused, Reader}
use Rattle.graphql_reading.proofs.Loops.{go-on}
use Rattle.graphql_parser.specs.Checked.{rest_of, Checks}
use Rattle.graphql_parser.proofs.Rests.{ended, ended-read, ended-refused}

-- where a reader reads what another does from where it has come to, but for the tree, what is checked by the one is by the other
pub goes-as : {X Y Z : Type 0} (result : Result X Refusal) (old mid new : Ahead) (p : Reader Y) (q : Reader Z) → ended (p (tokens old)) ≡ ended (q (tokens mid)) → GoesOn old mid → Checks result mid new q → Checks result old new p
goes-as {X} {Y} {Z} result old mid new p q same on checks = go result checks
  where
    refused : (v : Verdict) → q (tokens mid) ≡ Refused v (tokens new) → p (tokens old) ≡ Refused v (tokens new)
    refused v h = ended-refused _ v (tokens new) (same ∙ ap ended h)

    read : (o : Outcome Z) → rest_of o ≡ Some (tokens new) → ended o ≡ Read tt (tokens new)
    read (Read t rest) h = cc
    read (Refused v rest) h = absurd cc

    go : (result : Result X Refusal) → Checks result mid new q → Checks result old new p
    go (Ok x) h = (ended-read _ (tokens new) (same ∙ read (q (tokens mid)) h.0), go-on old mid new on h.1)
    go (Err Memory) h = (h.0, go-on old mid new on h.1)
    go (Err Syntax) h = (refused syntax h.0, go-on old mid new on h.1)
    go (Err Limit) h = (refused limit h.0, go-on old mid new on h.1)

-- where a reader is refused that comes next, the whole is
pub stops-as : {Y Z : Type 0} (e : Refusal) (old mid new : Ahead) (p : Reader Y) (q : Reader Z) → ((v : Verdict) → q (tokens mid) ≡ Refused v (tokens new) → ended (p (tokens old)) ≡ Refused v (tokens new)) → GoesOn old mid → Refuses e mid new q → GoesOn mid new → Refuses e old new p × GoesOn old new
stops-as {Y} {Z} e old mid new p q same on h on' = (go e h, go-on old mid new on on')
  where
    go : (e : Refusal) → Refuses e mid new q → Refuses e old new p
    go Memory h = h
    go Syntax h = ended-refused _ syntax (tokens new) (same syntax h)
    go Limit h = ended-refused _ limit (tokens new) (same limit h)
