-- What the text of a file is read as: as an option or the file's name says, else by its own words.
-- Source: this project's choice; the keywords are those of GraphQL October 2021, sections 2.3, 2.8 and 3.
use Rattle.std.specs.Prelude.{◌≡◌, ℕ, Bool, ◌||◌, List, [], ◌∷◌, take, Option, Some, None, IfSome, codes, nat_eq, bytes_eq, if◌then◌else◌}
use Rattle.std.specs.List.{ends_with, list_any}
use Rattle.graphql_parser.specs.tokens.Cuts.{IsCutInto}
use Rattle.graphql_parser.specs.tokens.Edition.{Current}
use Rattle.graphql_parser.specs.tokens.Token.{Token}
use Rattle.graphql_parser.specs.notation.Fronts.{ViableUnlimited}
use Rattle.graphql_parser.specs.answers.Language.{grammar}
use Rattle.graphql_parser.specs.requests.Requests.{requests}
use Rattle.graphql_parser.specs.schemas.Schemas.{schemas}
use Rattle.graphql_report.specs.declared.fronts.Language.{Language}
use Rattle.graphql_report.specs.declared.fronts.Language.TheVariants.{Requests, Schemas}

-- a file of this name is a schema file: one that is named *.graphqls, *.gqls or *.sdl
abbrev pub is_schema_file : List ℕ → Bool
is_schema_file name = ends_with nat_eq name (codes ".graphqls") || ends_with nat_eq name (codes ".gqls") || ends_with nat_eq name (codes ".sdl")

-- the language that the option says, else the file's name; None if neither says one
abbrev pub language_said : Option Language → List ℕ → Option Language
language_said (Some language) name = Some language
language_said None name = if is_schema_file name then Some Schemas else None

-- the text of a file of this name is read as this: as the language that is said, if one is
abbrev pub IsReadAs : Option Language → List ℕ → Language → Type 0
IsReadAs option name language = IfSome (language_said option name) (λ said. language ≡ said)

-- ---- if neither says one

-- the word is one of these
abbrev pub is_one_of : List ℕ → List (List ℕ) → Bool
is_one_of word words = list_any (λ other. bytes_eq other word) words

-- the language of whose definitions this word is a keyword
abbrev pub language_of_keyword : List ℕ → Option Language
language_of_keyword word =
    if is_one_of word (codes "query" ∷ codes "mutation" ∷ codes "subscription" ∷ codes "fragment" ∷ []) then Some Requests
    else (if is_one_of word (codes "schema" ∷ codes "extend" ∷ codes "scalar" ∷ codes "type" ∷ codes "interface" ∷ codes "union" ∷ codes "enum" ∷ codes "input" ∷ codes "directive" ∷ []) then Some Schemas else None)

-- some document of this language, at whatever limits, begins with these tokens
abbrev pub BeginsDocument : Language → List Token → Type 0
BeginsDocument Requests front = ViableUnlimited (grammar requests Current) front
BeginsDocument Schemas front = ViableUnlimited (grammar schemas Current) front

-- no parser reads the text further than that of this language
abbrev pub IsFurthest : Language → List ℕ → Type 0
IsFurthest language text = (tokens : List Token) → IsCutInto text tokens → (other : Language) (count : ℕ) → BeginsDocument other (take count tokens) → BeginsDocument language (take count tokens)
