-- Which character may follow a token, by how the token ends; and tokens written one after another by it.
-- Source: this project's choice.
use Rattle.std.specs.Prelude.{ℕ, Bool, false, ◌==◌, if◌then◌else◌, List, [], ◌∷◌, ◌++◌, length, codes}
use Rattle.std.specs.Str.{byte}
use Rattle.graphql_tokens.specs.tokens.Classes.{is_name_char}
use Rattle.graphql_tokens.specs.tokens.Numbers.{forbids_number}
use Rattle.graphql_tokens.specs.tokens.Token.{Bare}
use Rattle.graphql_tokens.specs.declared.lexer.TokenKind.{TokenKind}
use Rattle.graphql_tokens.specs.declared.lexer.TokenKind.TheVariants as kinds
use Rattle.graphql_layout.specs.declared.ending.Ending.{Ending}
use Rattle.graphql_layout.specs.declared.ending.Ending.TheVariants.{Open, Name, Number, EmptyString}

-- a string of so many bytes, with its quotes
abbrev pub string_ending : ℕ → Ending
string_ending n = if n == 2 then EmptyString else Open

abbrev pub ending_by : TokenKind → List ℕ → Ending
ending_by kinds.Name spelling = Name
ending_by kinds.Number spelling = Number
ending_by kinds.String spelling = string_ending (length spelling)
ending_by other spelling = Open

abbrev pub ending_of : Bare → Ending
ending_of b = ending_by b.kind b.spelling

-- this character may not follow
abbrev pub stops : Ending → ℕ → Bool
stops Open c = false
stops Name c = is_name_char c
stops Number c = forbids_number c
stops EmptyString c = c == byte "\""

-- what is spelled so may not follow
abbrev pub stops_token : Ending → List ℕ → Bool
stops_token ending [] = false
stops_token ending (c ∷ cs) = stops ending c

-- what is written before it
abbrev pub gap_before : Ending → List ℕ → List ℕ
gap_before ending spelling = if stops_token ending spelling then codes " " else []

-- these tokens, one after another, after what ends so
abbrev pub joined : Ending → List Bare → List ℕ
joined ending [] = []
joined ending (b ∷ bs) = gap_before ending b.spelling ++ (b.spelling ++ joined (ending_of b) bs)
