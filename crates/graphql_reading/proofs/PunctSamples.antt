-- Phrases of one punctuator.
use Rattle.std.proofs.Common.{refl, inl}
use Rattle.graphql_reading.specs.grammar.Relations.{one}
use Rattle.graphql_reading.specs.grammar.Tests.{punct}
use Rattle.graphql_reading.proofs.TokenTests.{punct-sample}
use Rattle.graphql_reading.proofs.ReadsExactly.{HasPhrase, has-token}

pub has-close : HasPhrase (λ c. one (punct ")"))
has-close = has-token (punct-sample ")" refl (inl (41, refl, refl)))

pub has-close_list : HasPhrase (λ c. one (punct "]"))
has-close_list = has-token (punct-sample "]" refl (inl (93, refl, refl)))

pub has-open_object : HasPhrase (λ c. one (punct "{"))
has-open_object = has-token (punct-sample "{" refl (inl (123, refl, refl)))

pub has-close_object : HasPhrase (λ c. one (punct "}"))
has-close_object = has-token (punct-sample "}" refl (inl (125, refl, refl)))

pub has-colon : HasPhrase (λ c. one (punct ":"))
has-colon = has-token (punct-sample ":" refl (inl (58, refl, refl)))

pub has-at : HasPhrase (λ c. one (punct "@"))
has-at = has-token (punct-sample "@" refl (inl (64, refl, refl)))

pub has-dollar : HasPhrase (λ c. one (punct "$"))
has-dollar = has-token (punct-sample "$" refl (inl (36, refl, refl)))
