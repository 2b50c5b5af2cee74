-- What may stand in selection sets that are open, up to the ends of all of them, of which only the number is kept.
use Rattle.std.specs.Prelude.{ℕ, zero, suc, Bool, true, false, List}
use Rattle.graphql_tokens.specs.tokens.Token.{Token}
use Rattle.graphql_reading.specs.grammar.Places.{nowhere}
use Rattle.graphql_reading.specs.reading.Outcome.{Outcome, Read, ◌>>=◌}
use Rattle.graphql_requests.specs.reading.SelectionSteps.{Opened, after_rest, begun, wanted_rest}
use Rattle.graphql_parser.specs.Checked.{ended}

-- a set of which nothing is known
abbrev pub fresh : Opened
fresh = begun nowhere

-- To the end of so many sets around one in which sets may nest b deep, after a selection in each,
abbrev pub outs : ℕ → ℕ → ℕ → List Token → Outcome (Unit {0})
outs values b zero ts = Read tt ts
outs values b (suc n) ts = ended (after_rest values (suc b) fresh ts) >>= λ _ rest. outs values (suc b) n rest

-- and from inside that one, where a selection has to follow or may.
abbrev pub sets : ℕ → ℕ → ℕ → Bool → List Token → Outcome (Unit {0})
sets values b n true ts = ended (wanted_rest values b fresh ts) >>= λ _ rest. outs values b n rest
sets values b n false ts = ended (after_rest values b fresh ts) >>= λ _ rest. outs values b n rest
