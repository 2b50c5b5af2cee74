use Rattle.std.proofs.Common.{string_bytes, subst, Option, MatchOption, String, Global}
use Rattle.std.proofs.lemmas.Str.{IsUtf8-string_bytes}
use Rattle.graphql_layout.specs.texts.Minified.{IsMinified}
use Rattle.graphql_layout.specs.texts.SameTokens.{HasFault}
use Rattle.graphql_printer.proofs.Meaning.{alike}
use Rattle.graphql_texts.proofs.SameMeaning.{no_fault_in, means_the_same}
use Rattle.graphql_texts.proofs.rewriting.minified.Goals as goal

pub unreachable-requires : goal.unreachable-requires
unreachable-requires c =
    let source = c.args.source.now in
    let text = source.text.now in
    no_fault_in source.language source.limits text c.requires (subst (λ (r : Option (String Global)). MatchOption r (HasFault text) (λ s. IsMinified text (string_bytes s))) c.in-None.is c.in_ok-text.ensures.minified)

pub returns-clause-meaning : goal.returns-clause-meaning
returns-clause-meaning c =
    let source = c.args.source.now in
    let text = source.text.now in
    let given : IsMinified text (string_bytes c.in-Some.text) = subst (λ (r : Option (String Global)). MatchOption r (HasFault text) (λ s. IsMinified text (string_bytes s))) c.in-Some.is c.in_ok-text.ensures.minified in
    means_the_same source.language source.limits text (string_bytes c.in-Some.text) (IsUtf8-string_bytes c.in-Some.text) c.requires (alike text (string_bytes c.in-Some.text) given)
