use Rattle.std.proofs.Common.{string_bytes, subst, Option, MatchOption, String, Global}
use Rattle.std.proofs.lemmas.Str.{IsUtf8-string_bytes}
use Rattle.graphql_layout.specs.texts.LaidOut.{IsLaidOut}
use Rattle.graphql_layout.specs.texts.SameTokens.{HasFault}
use Rattle.graphql_texts.proofs.LineFeeds.{laid_out_then}
use Rattle.graphql_texts.proofs.SameMeaning.{no_fault_in, means_the_same}
use Rattle.graphql_texts.proofs.rewriting.laid_out.Goals as goal

pub unreachable-requires : goal.unreachable-requires
unreachable-requires c =
    let source = c.args.source.now in
    let text = source.text.now in
    no_fault_in source.language source.limits text c.requires (subst (λ (r : Option (String Global)). MatchOption r (HasFault text) (λ s. IsLaidOut text (string_bytes s))) c.in-None.is c.in_ok-text.ensures)

-- the text with the end of its last line is laid out
pub returns-clause-laid_out : goal.returns-clause-laid_out
returns-clause-laid_out c =
    let text = c.args.source.now.text.now in
    let formatted : IsLaidOut text (string_bytes c.in-Some.text) = subst (λ (r : Option (String Global)). MatchOption r (HasFault text) (λ s. IsLaidOut text (string_bytes s))) c.in-Some.is c.in_ok-text.ensures in
    laid_out_then c.of.result text (string_bytes c.in-Some.text) (string_bytes c.push.new.text) (IsUtf8-string_bytes c.in-Some.text) c.in_ok-push-in-Some.ensures.ok formatted

pub returns-clause-meaning : goal.returns-clause-meaning
returns-clause-meaning c =
    let source = c.args.source.now in
    let text = source.text.now in
    means_the_same source.language source.limits text (string_bytes c.push.new.text) (IsUtf8-string_bytes c.push.new.text) c.requires (returns-clause-laid_out c).tokens
