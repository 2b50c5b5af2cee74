-- The control characters in the strings of a printed text.
-- Source: this project's choice: those are escaped that GraphQL.js 16 escapes, and a description that has any but tabs and line
-- feeds is no block string.
use Rattle.std.specs.Prelude.{◌≡◌, ℕ, Bool, true, not, ◌||◌, ◌==◌, List}
use Rattle.std.specs.Char.{is_control}
use Rattle.std.specs.List.{AllByRecursion, list_all}
use Rattle.std.specs.Str.{byte, chars}
use Rattle.graphql_tokens.specs.declared.lexer.TokenKind.{TokenKind}
use Rattle.graphql_tokens.specs.declared.lexer.TokenKind.TheVariants.{String, Block}
use Rattle.graphql_tokens.specs.tokens.Alike.{value_of_block}
use Rattle.graphql_tokens.specs.tokens.Cuts.{IsCutInto}
use Rattle.graphql_tokens.specs.tokens.Token.{Bare, Token}
use Rattle.graphql_reading.specs.grammar.Limits.{Limits}
use Rattle.graphql_grammar.specs.answers.Language.{Language}
use Rattle.graphql_printer.specs.Printed.{IsDocumentButForPlaces}

-- a control character is one of U+0000 to U+001F and U+007F to U+009F
abbrev pub is_no_control : ℕ → Bool
is_no_control c = not (is_control c)

-- no control character but a tab or a line feed
abbrev pub is_clear : ℕ → Bool
is_clear c = is_no_control c || (c == byte "\t" || c == byte "\n")

abbrev pub are_clear : List ℕ → Bool
are_clear cs = list_all is_clear cs

-- A string has no control character in it, only escapes. The value of a block string has none but tabs and line feeds. Other tokens
-- are made of letters, digits and signs.
abbrev pub IsClearAs : TokenKind → List ℕ → Type 0
IsClearAs String spelling = list_all is_no_control (chars spelling) ≡ true
IsClearAs Block spelling = are_clear (value_of_block spelling) ≡ true
IsClearAs other spelling = Unit {0}

abbrev pub IsClear : Bare → Type 0
IsClear b = IsClearAs b.kind b.spelling

-- whatever text the document is of but for places, within whatever limits, the tokens of the printed text are clear
abbrev pub HasClearTokens : {D Document : Type 0} → Language D Document → Document → List ℕ → Type 0
HasClearTokens language document printed =
    (limits : Limits) (text : List ℕ) → IsDocumentButForPlaces language limits text document → (tokens : List Token) → IsCutInto printed tokens → AllByRecursion (λ t. IsClear t.bare) tokens
