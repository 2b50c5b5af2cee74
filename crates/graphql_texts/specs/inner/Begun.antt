-- The language whose documents begin with a token.
-- Source: this project's choice.
use Rattle.std.specs.Prelude.{ℕ, List, Option, Some, None, codes, bytes_eq, if◌then◌else◌}
use Rattle.graphql_tokens.specs.declared.lexer.TokenKind.{TokenKind}
use Rattle.graphql_tokens.specs.declared.lexer.TokenKind.TheVariants.{Punct, Name, String, Block}
use Rattle.graphql_report.specs.declared.fronts.Language.{Language}
use Rattle.graphql_report.specs.declared.fronts.Language.TheVariants.{Requests, Schemas}
use Rattle.graphql_texts.specs.checked.Language.{language_of_keyword}

-- the one that a token of this kind and this spelling begins, if it begins one
abbrev pub language_begun : TokenKind → List ℕ → Option Language
language_begun Name spelling = language_of_keyword spelling
language_begun Punct spelling = if bytes_eq spelling (codes "{") then Some Requests else None
language_begun String spelling = Some Schemas
language_begun Block spelling = Some Schemas
language_begun other spelling = None
