use Rattle.std.proofs.Common.{ℕ, List, ◌++◌, sym, ap, ◌∙◌, append_assoc}
use Rattle.std.specs.Prelude.{codes}
use Rattle.std.specs.String.{string_bytes}
use Rattle.graphql_tokens.specs.declared.lexer.TokenKind.{TokenKind}
use Rattle.graphql_report.specs.reports.Words.{cut, found_as}
use Rattle.graphql_report.proofs.words.push_found.Goals as goal

pub returns-in_ok-push_cut-in-String : goal.returns-in_ok-push_cut-in-String
returns-in_ok-push_cut-in-String c =
    c.in_ok-push_cut-in-String.ensures ∙ ap (λ (l : List ℕ). l ++ cut c.args.token.now.text.now) c.in_ok-push_str-in-String.ensures.bytes ∙ append_assoc (string_bytes c.args.out.now) (codes "the string ") (cut c.args.token.now.text.now)
    ∙ ap (λ (k : TokenKind). string_bytes c.args.out.now ++ found_as k c.args.token.now.text.now) (sym c.in-String.is)

pub returns-in_ok-push_cut-in-Number : goal.returns-in_ok-push_cut-in-Number
returns-in_ok-push_cut-in-Number c =
    c.in_ok-push_cut-in-Number.ensures ∙ ap (λ (l : List ℕ). l ++ cut c.args.token.now.text.now) c.in_ok-push_str-in-Number.ensures.bytes ∙ append_assoc (string_bytes c.args.out.now) (codes "the number ") (cut c.args.token.now.text.now)
    ∙ ap (λ (k : TokenKind). string_bytes c.args.out.now ++ found_as k c.args.token.now.text.now) (sym c.in-Number.is)
