use Rattle.std.proofs.Common.{sym, ◌∙◌, subst}
use Rattle.graphql_tokens.specs.tokens.Cuts.{EndsOnce}
use Rattle.graphql_tokens.specs.tokens.Seen.{seen}
use Rattle.graphql_tokens.specs.tokens.Token.{left}
use Rattle.graphql_commands.specs.checked.Files.{AreTheEnd}
use Rattle.graphql_commands.proofs.Blank.{is-end, end-alone}
use Rattle.graphql_commands.proofs.check.is_blank.Goals as goal

pub returns-in-Some : goal.returns-in-Some
returns-in-Some c = λ is tokens cut.
    let first = c.in-Some.ensures.steps.0 in
    subst AreTheEnd (sym (c.new-tokens.ensures.only tokens cut ∙ first))
    (end-alone (seen c.in-Some.first) (left c.next.new.self) (is-end c.in-Some.first.kind (sym c.is_end.ensures ∙ is)) (subst EndsOnce first c.new-tokens.ensures.ends))
