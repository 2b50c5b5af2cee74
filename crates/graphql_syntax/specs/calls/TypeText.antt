-- The type of a type text: the proper type that the text shows.
-- Source: this project's choice; GraphQL October 2021 has no such call. How a type is written is its section 2.11
-- (Type References), and which names are names of GraphQL its section 2.1.9 (Names).
use Rattle.std.specs.Prelude.{◌≡◌, ℕ, List, ◌++◌, IsTrue, codes}
use Rattle.graphql_tokens.specs.tokens.Spelling.{IsName}
use Rattle.graphql_syntax.specs.trees.TypeTree.{TypeTree, named, list, type_text}

-- a text begins, or ends, with another
abbrev pub BeginsWith : List ℕ → List ℕ → Type 0
BeginsWith start text = (rest : List ℕ) × (text ≡ start ++ rest)

abbrev pub EndsWith : List ℕ → List ℕ → Type 0
EndsWith end text = (front : List ℕ) × (text ≡ front ++ end)

-- no name in it begins with `[`, and no name of a nullable type ends with `!`
abbrev pub IsProper : TypeTree → Type 0
IsProper (named name nullable) = ¬ BeginsWith (codes "[") name × (IsTrue nullable → ¬ EndsWith (codes "!") name)
IsProper (list item nullable) = IsProper item

-- the text is that of the type, which is proper
abbrev pub IsTypeOf : List ℕ → TypeTree → Type 0
IsTypeOf text t = IsProper t × (type_text t ≡ text)

-- the name in it is a name of GraphQL, whose characters are ASCII and so its bytes
abbrev pub HasGraphqlName : TypeTree → Type 0
HasGraphqlName (named name nullable) = IsName name
HasGraphqlName (list item nullable) = HasGraphqlName item
