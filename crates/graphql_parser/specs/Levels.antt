-- Reading what stands in a list or an object, step by step, where nothing is kept but which it is.
use Rattle.std.specs.Prelude.{ℕ, Bool, true, false, Option, Some, None, List, []}
use Rattle.graphql_parser.specs.declared.check.value.Step.{Step}
use Rattle.graphql_parser.specs.declared.check.value.Step.TheVariants as steps
use Rattle.graphql_tokens.specs.tokens.Token.{Token}
use Rattle.graphql_reading.specs.grammar.Tests.{punct}
use Rattle.graphql_reading.specs.reading.Outcome.{Outcome, Reader, Read, ◌>>=◌, take_at, mapped_at}
use Rattle.graphql_grammar.specs.reading.OpenValues.{Opened, in_list, in_object, enter_at, key_at}
use Rattle.graphql_grammar.specs.reading.Values.{simple_at}

-- an object, or a list, of which nothing is read yet
abbrev pub opens : Bool → Opened
opens true = in_object []
opens false = in_list []

abbrev pub is_none : {A : Type 0} → Option A → Bool
is_none None = true
is_none (Some a) = false

-- whether it ends; or else what stands before the next value in it is read
abbrev pub end_at : Bool → Reader Bool
end_at true = mapped_at is_none key_at
end_at false = take_at (punct "]")

-- its end, a value in it, or what begins in it
pub data Met : Type 0 where
  closes : Met
  passes : Met
  enters : Opened → Met

abbrev pub met : Step → Met
met steps.Closed = closes
met steps.Passed = passes
met (steps.Entered object) = enters (opens object)

abbrev pub after_enter : Bool → Option Opened → List Token → Outcome Met
after_enter vars None ts = simple_at vars ts >>= λ _ rest. Read passes rest
after_enter vars (Some o) ts = Read (enters o) ts

abbrev pub after_end : Bool → ℕ → Bool → List Token → Outcome Met
after_end vars left true ts = Read closes ts
after_end vars left false ts = enter_at left ts >>= after_enter vars

abbrev pub step_at : Bool → ℕ → Bool → Reader Met
step_at vars left object ts = end_at object ts >>= after_end vars left
