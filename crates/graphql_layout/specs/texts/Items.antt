-- The comments and tokens of a text, in their order.
-- Source: GraphQL October 2021, section 2.1 (Source Text), with sections 2.1.4 (Comments) and 2.1.6 (Lexical Tokens). That a text
-- is one list of both is this project's choice.
use Rattle.std.specs.Prelude.{◌≡◌, ℕ, true, List, [], ◌∷◌, ◌++◌, codes}
use Rattle.std.specs.List.{AllByRecursion}
use Rattle.std.specs.Str.{encode_utf8_all}
use Rattle.graphql_tokens.specs.tokens.Classes.{is_ignored}
use Rattle.graphql_tokens.specs.tokens.Edition.{Current}
use Rattle.graphql_tokens.specs.tokens.Ignored.{IsComment, EndsLine}
use Rattle.graphql_tokens.specs.tokens.Spelling.{Begins}
use Rattle.graphql_tokens.specs.tokens.Token.{Bare}

-- a comment, by its characters, or a bare token
pub data Item : Type 0 where
  comment : List ℕ → Item
  word : Bare → Item

abbrev pub IsBlankText : List ℕ → Type 0
IsBlankText text = AllByRecursion (λ c. is_ignored c ≡ true) text

-- A comment stands after ignored characters, and a rest after it.
pub record CommentStands (text comment : List ℕ) (after : List ℕ → Type 0) : Type 0 where
  pub gap : List ℕ
  pub rest : List ℕ
  pub whole : text ≡ gap ++ (comment ++ rest)
  pub blank : IsBlankText gap
  pub is : IsComment comment
  pub ends : EndsLine rest
  pub more : after rest

-- A token stands after ignored characters, and a rest after it.
pub record WordStands (text : List ℕ) (b : Bare) (after : List ℕ → Type 0) : Type 0 where
  pub gap : List ℕ
  pub spelling : List ℕ
  pub rest : List ℕ
  pub whole : text ≡ gap ++ (spelling ++ rest)
  pub blank : IsBlankText gap
  pub begins : Begins Current b.kind spelling rest
  pub bytes : b.spelling ≡ encode_utf8_all spelling
  pub more : after rest

-- these characters are these comments and tokens, with ignored characters between them
abbrev pub IsItems : List ℕ → List Item → Type 0
IsItems text [] = IsBlankText text
IsItems text (comment c ∷ items) = CommentStands text c (λ rest. IsItems rest items)
IsItems text (word b ∷ items) = WordStands text b (λ rest. IsItems rest items)

-- the tokens among them
abbrev pub words : List Item → List Bare
words [] = []
words (comment c ∷ items) = words items
words (word b ∷ items) = b ∷ words items

-- a text between two quotes
abbrev pub in_quotes : List ℕ → List ℕ
in_quotes content = codes "\"" ++ (content ++ codes "\"")
