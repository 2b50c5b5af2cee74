-- Where the first definition stands alone, no second one is read.
use Rattle.std.proofs.Common.{◌≡◌, Bool, true, false, not, List, ◌∷◌, refl, arith, subst}
use Rattle.graphql_tokens.specs.tokens.Token.{Token}
use Rattle.graphql_reading.specs.grammar.Limits.{Limits}
use Rattle.graphql_reading.specs.grammar.Tests.{the_end}
use Rattle.graphql_reading.specs.reading.Outcome.{Outcome, Read, mapped_at}
use Rattle.graphql_reading.proofs.Theory.{Exact, IsRead, outside, anything}
use Rattle.graphql_reading.proofs.TokenTests.{the_end-within}
use Rattle.graphql_grammar.proofs.Made.{is-made}
use Rattle.graphql_requests.specs.grammar.Request.{Definition, a_definition}
use Rattle.graphql_requests.specs.reading.Request.{definition_first, definition_at}
use Rattle.graphql_requests.proofs.RequestProductions.{exact-definition}
use Rattle.graphql_tokens.specs.tokens.Edition.{Current}
use Rattle.graphql_parser.specs.OneDefinition.{FirstStandsAlone}
use Rattle.graphql_parser.specs.RequestHeads.{head_of}

clash : (w : Bool) → w ≡ true → not w ≡ true → ⊥
clash true e h = absurd cc
clash false e h = absurd cc

pub no-second : (limits : Limits) (ts : List Token) (h : Definition) (t : Token) (after : List Token) → FirstStandsAlone limits ts → mapped_at head_of (definition_at limits) ts ≡ Read h (t ∷ after) → definition_first t.bare ≡ true → ⊥
no-second limits ts h t after alone is first =
    let made = is-made head_of (definition_at limits ts) h (t ∷ after) is in
    let read : IsRead (a_definition Current) limits anything ts made.tree (t ∷ after) = subst (λ (o : Outcome Definition). Exact (a_definition Current) limits anything ts o) made.is ((exact-definition {b = limits} {f = anything}).at ts) in
    let ends : the_end t.bare ≡ true = alone read.used after made.tree t read.split (read.holds limits (omega arith)) in
    clash (definition_first t.bare) first ((the_end-within {g = outside definition_first} (λ w. refl)).by t.bare ends)
