use Rattle.std.proofs.Common.{Option, None, refl, sym, subst}
use Rattle.std.specs.Prelude.{IfOk}
use Rattle.std.specs.String.{string_bytes}
use Rattle.graphql_tokens.specs.declared.pos.Pos.{Pos}
use Rattle.graphql_tokens.specs.tokens.Seen.{seen}
use Rattle.graphql_report.specs.inner.Called.{texts}
use Rattle.graphql_report.specs.inner.Told.{AddsHintFor}
use Rattle.graphql_report.specs.reports.Hints.{IsHintFor, unclosed_hint, word_of}
use Rattle.graphql_report.proofs.findings.push_more.Goals as goal

pub returns-in-Some : goal.returns-in-Some
returns-in-Some c = (unclosed_hint c.in-Some.place, c.in_ok-push_unclosed.ensures, subst (λ (u : Option Pos). IsHintFor u c.args.language (seen c.args.token.now).bare (texts c.args.expected.now) (unclosed_hint c.in-Some.place) None) (sym c.in-Some.is) (refl, refl))

pub returns : goal.returns
returns c = subst (λ (u : Option Pos). IfOk c.push_hint.result (λ given. AddsHintFor u c.args.language (seen c.args.token.now).bare (texts c.args.expected.now) (string_bytes c.args.out.now) (string_bytes c.push_hint.new.out) (word_of given))) (sym c.in_default.is) c.push_hint.ensures
