-- What a block string means by the specification, which leaves nothing of a line that is shorter than the common indent. This parser
-- leaves such a line as it is: `dedented` of `graphql_tokens`.
-- Source: GraphQL October 2021, section 2.9.4 (String Value), `BlockStringValue`.
use Rattle.std.specs.Prelude.{◌≡◌, ℕ, List, [], ◌∷◌, drop, map}
use Rattle.std.specs.Str.{chars}
use Rattle.graphql_tokens.specs.declared.lexer.TokenKind.TheVariants.{Block}
use Rattle.graphql_tokens.specs.tokens.Alike.{inside}
use Rattle.graphql_tokens.specs.tokens.BlockText.{unquoted, lines_of, common_indent, from_text, to_text, joined}
use Rattle.graphql_tokens.specs.tokens.Token.{Bare}

-- each line after the first loses as many characters as their common indent has, or all that it has
abbrev pub cut : List (List ℕ) → List (List ℕ)
cut [] = []
cut (first ∷ others) = first ∷ map (drop (common_indent others)) others

unfoldable pub specified_value : List ℕ → List ℕ
specified_value raw = joined (to_text (from_text (cut (lines_of (unquoted raw)))))

-- the characters of the value that the specification gives a block string with this spelling
abbrev pub specified_value_of_block : List ℕ → List ℕ
specified_value_of_block spelling = specified_value (chars (inside 3 spelling))

-- by the specification the block string has the value
abbrev pub HasSpecifiedValue : List ℕ → List ℕ → Type 0
HasSpecifiedValue spelling value = specified_value_of_block spelling ≡ chars value

-- if the first is a block string, the other has its value by the specification
abbrev pub IsAlikeAsSpecified : Bare → Bare → Type 0
IsAlikeAsSpecified a b = a.kind ≡ Block → specified_value_of_block a.spelling ≡ specified_value_of_block b.spelling

-- as many tokens in both lists, each so beside the other at its position
abbrev pub AreAlikeAsSpecified : List Bare → List Bare → Type 0
AreAlikeAsSpecified [] [] = Unit {0}
AreAlikeAsSpecified [] (b ∷ bs) = ⊥
AreAlikeAsSpecified (a ∷ more) [] = ⊥
AreAlikeAsSpecified (a ∷ more) (b ∷ bs) = IsAlikeAsSpecified a b × AreAlikeAsSpecified more bs
