use Rattle.std.proofs.Common.{◌+◌, ◌≤◌, ◌∙◌, List, [], length, refl, sym, subst}
use Rattle.std.specs.Str.{chars}
use Rattle.graphql_tokens.specs.tokens.Cuts.{IsCutInto}
use Rattle.graphql_tokens.specs.tokens.Proper.{AreProperButFaults}
use Rattle.graphql_tokens.specs.tokens.Token.{Token}
use Rattle.graphql_tokens.proofs.Lists.{tokens_cuts, tokens_only, cuts_ends, tokens_short, cuts_later}
use Rattle.graphql_tokens.proofs.Propers.{cuts_proper, text_scalars}
use Rattle.graphql_tokens.proofs.Lexes.{at_start}
use Rattle.graphql_tokens.proofs.lexer.Tokens.new.Goals as goal

pub returns-clause-cut : goal.returns-clause-cut
returns-clause-cut c =
    subst (IsCutInto c.args.text.now) (sym (at_start c.args.text.now 0 refl)) (tokens_cuts [] (chars c.args.text.now))

pub returns-clause-only : goal.returns-clause-only
returns-clause-only c ts h = tokens_only [] (chars c.args.text.now) ts h ∙ sym (at_start c.args.text.now 0 refl)

pub returns-clause-former : goal.returns-clause-former
returns-clause-former c ts n h =
    tokens_only [] (chars c.args.text.now) ts (cuts_later [] (chars c.args.text.now) ts n h) ∙ sym (at_start c.args.text.now 0 refl)

pub returns-clause-ends : goal.returns-clause-ends
returns-clause-ends c = cuts_ends _ _ _ _ (tokens_cuts _ _)

pub returns-clause-proper : goal.returns-clause-proper
returns-clause-proper c =
    subst AreProperButFaults (sym (at_start c.args.text.now 0 refl))
    (cuts_proper [] (chars c.args.text.now) _ (text_scalars c.args.text.now c.utf8.text) (tokens_cuts [] (chars c.args.text.now)))

pub returns-clause-short : goal.returns-clause-short
returns-clause-short c =
    let IsShort : List Token → Type 0 = λ ts. length ts ≤ length (chars c.args.text.now) + 1 in
    subst IsShort (sym (at_start c.args.text.now 0 refl)) (tokens_short [] (chars c.args.text.now))
