-- The number of a status that is told.
use Rattle.std.proofs.Common.{◌≡◌, ◌⊎◌, ℕ, Result, Err, inl, inr, ap, ◌∙◌}
use Rattle.graphql_grammar.specs.declared.error.Error.{Error}
use Rattle.graphql_grammar.specs.declared.error.Error.TheVariants.{OutOfMemory}
use Rattle.graphql_parser_c.specs.Handing.{SaysNothing}
use Rattle.graphql_parser_c.specs.Statuses.{number_of, status_of}

-- where the status says something of the text, it is that of the answer
pub number_told : {D : Type 0} (answer told : Result D Error) (number : ℕ) → (told ≡ answer) ⊎ (told ≡ Err OutOfMemory) → number ≡ number_of (status_of told) → ¬ SaysNothing number → number ≡ number_of (status_of answer)
number_told answer told number (inl e) of_told says = of_told ∙ ap (λ a. number_of (status_of a)) e
number_told answer told number (inr e) of_told says = absurd (says (inl (of_told ∙ ap (λ a. number_of (status_of a)) e)))
