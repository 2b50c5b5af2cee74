-- Tests of a token's kind, one for each kind that a parser asks for. They are this project's own.
use Rattle.std.specs.Prelude.{Bool, true, false}
use Rattle.graphql_tokens.specs.declared.lexer.TokenKind.{TokenKind}
use Rattle.graphql_tokens.specs.declared.lexer.TokenKind.TheVariants as kinds

abbrev pub is_punct : TokenKind → Bool
is_punct kinds.Punct = true
is_punct other = false

abbrev pub is_name : TokenKind → Bool
is_name kinds.Name = true
is_name other = false

abbrev pub is_number : TokenKind → Bool
is_number kinds.Number = true
is_number other = false

abbrev pub is_string : TokenKind → Bool
is_string kinds.String = true
is_string other = false

abbrev pub is_block : TokenKind → Bool
is_block kinds.Block = true
is_block other = false

abbrev pub is_end : TokenKind → Bool
is_end kinds.End = true
is_end other = false
