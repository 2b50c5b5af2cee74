-- A value from its beginning.
use Rattle.std.proofs.Common.{◌≡◌, ℕ, pred, Bool, List, Option, Some, None, Result, refl, sym, ap, ◌∙◌}
use Rattle.graphql_tokens.specs.tokens.Token.{Token}
use Rattle.graphql_reading.specs.declared.parser.Refusal.{Refusal}
use Rattle.graphql_reading.specs.declared.parser.Refusal.TheVariants.{Memory, Syntax, Limit}
use Rattle.graphql_reading.specs.grammar.Fronts.{syntax, limit}
use Rattle.graphql_reading.specs.reading.Ahead.{Ahead, tokens}
use Rattle.graphql_reading.specs.reading.Given.{GoesOn, Refuses}
use Rattle.graphql_reading.specs.reading.Outcome.{Outcome, Read, Refused, ◌>>=◌}
use Rattle.graphql_grammar.specs.reading.OpenValues.{Opened, node_of, enter_at, open_rest}
use Rattle.graphql_grammar.specs.reading.Values.{simple_at, value_at}
use Rattle.graphql_grammar.proofs.ValueFrames.{value-law, begun}
use Rattle.graphql_parser.specs.Checked.{Checks}
use Rattle.graphql_parser.proofs.Parts.{goes-as}
use Rattle.graphql_parser.proofs.Rests.{ended, ended-refused}

ended-mapped : {A B : Type 0} (f : A → B) (o : Outcome A) → ended o ≡ ended (o >>= λ a rest. Read (f a) rest)
ended-mapped f (Read a rest) = refl
ended-mapped f (Refused v rest) = refl

begins : (vars : Bool) (b : ℕ) (ts : List Token) (o : Outcome (Option Opened)) → enter_at b ts ≡ o → ended (value_at vars b ts) ≡ ended (o >>= begun vars b)
begins vars b ts o is = ended-mapped node_of (value_at vars b ts) ∙ ap ended (value-law vars b ts) ∙ ap (λ (p : Outcome (Option Opened)). ended (p >>= begun vars b)) is

pub value-stops : (vars : Bool) (b : ℕ) (old new : Ahead) (e : Refusal) → Refuses e old new (enter_at b) → Refuses e old new (value_at vars b)
value-stops vars b old new Memory h = h
value-stops vars b old new Syntax h = ended-refused _ syntax (tokens new) (begins vars b (tokens old) _ h)
value-stops vars b old new Limit h = ended-refused _ limit (tokens new) (begins vars b (tokens old) _ h)

pub value-simple : {X : Type 0} (result : Result X Refusal) (vars : Bool) (b : ℕ) (old mid new : Ahead) → enter_at b (tokens old) ≡ Read None (tokens mid) → GoesOn old mid → Checks result mid new (simple_at vars) → Checks result old new (value_at vars b)
value-simple result vars b old mid new h = goes-as result old mid new (value_at vars b) (simple_at vars) (begins vars b (tokens old) _ h ∙ sym (ended-mapped node_of (simple_at vars (tokens mid))))

pub value-enters : {X : Type 0} (result : Result X Refusal) (vars : Bool) (b : ℕ) (old mid new : Ahead) (o : Opened) → enter_at b (tokens old) ≡ Read (Some o) (tokens mid) → GoesOn old mid → Checks result mid new (open_rest vars (pred b) o) → Checks result old new (value_at vars b)
value-enters result vars b old mid new o h = goes-as result old mid new (value_at vars b) (open_rest vars (pred b) o) (begins vars b (tokens old) _ h)
