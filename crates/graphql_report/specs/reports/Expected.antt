-- Which samples can stand after a front, and what of them a report tells.
-- Source: this project's choice.
use Rattle.std.specs.Prelude.{◌≡◌, ◌↔◌, ℕ, Bool, true, false, cond, ◌&&◌, ◌==◌, IsTrue, List, [], ◌∷◌, ◌++◌, length, map, codes}
use Rattle.graphql_tokens.specs.tokens.Cuts.{IsCutInto}
use Rattle.graphql_tokens.specs.tokens.Edition.{Current}
use Rattle.graphql_tokens.specs.tokens.Token.{Token}
use Rattle.graphql_reading.specs.grammar.Limits.{Limits}
use Rattle.graphql_grammar.specs.answers.Language.{Language as Described, grammar}
use Rattle.graphql_requests.specs.grammar.Requests.{requests}
use Rattle.graphql_schemas.specs.grammar.Schemas.{schemas}
use Rattle.graphql_report.specs.declared.fronts.Language.{Language}
use Rattle.graphql_report.specs.declared.fronts.Language.TheVariants.{Requests, Schemas}
use Prim.Native.String.{String}
use Rattle.graphql_report.specs.fronts.Front.{IsFrontOf}

-- the answer is true exactly where the tokens of the text are a viable front
abbrev pub TellsFrontOf : Language → Limits → List ℕ → Bool → Type 0
TellsFrontOf language limits text answer = (tokens : List Token) → IsCutInto text tokens → IsTrue answer ↔ IsFrontOf language limits tokens

-- the tokens have a tree within the limits, which may break a rule
abbrev pub HasTree : {D Document : Type 0} → Described D Document → Limits → List Token → Type 0
HasTree {D} language limits tokens = (definitions : List D) × grammar language Current limits tokens definitions

-- the same of what the text is read as
abbrev pub HasTreeOf : Language → Limits → List Token → Type 0
HasTreeOf Requests limits tokens = HasTree requests limits tokens
HasTreeOf Schemas limits tokens = HasTree schemas limits tokens

-- the answer is true exactly where the tokens of the text have a tree
abbrev pub TellsTreeOf : Language → Limits → List ℕ → Bool → Type 0
TellsTreeOf language limits text answer = (tokens : List Token) → IsCutInto text tokens → IsTrue answer ↔ HasTreeOf language limits tokens

-- a front, with a sample after it, and a line feed
abbrev pub with_sample : List ℕ → List ℕ → List ℕ
with_sample front sample = front ++ sample ++ 10 ∷ []

-- ---- the tables

-- The samples of a table, each with the text of a token and what it is called.
abbrev pub Samples : Type 0
Samples = List (List ℕ × List ℕ)

-- a text in quotes
abbrev pub quoted : List ℕ → List ℕ
quoted text = 34 ∷ text ++ 34 ∷ []

-- a sample that is called by its text in quotes
abbrev pub in_quotes : String → List ℕ × List ℕ
in_quotes word = (codes word, quoted (codes word))

-- a name that is no keyword
abbrev pub name_text : List ℕ
name_text = codes "a"

abbrev pub number_name : List ℕ
number_name = codes "a number"

abbrev pub string_name : List ℕ
string_name = codes "a string"

-- what a value may begin with that is neither a variable nor a name
abbrev pub literals : Samples
literals = (codes "0", number_name) ∷ (codes "\"\"", string_name) ∷ in_quotes "[" ∷ in_quotes "{" ∷ []

-- the other punctuators
abbrev pub punctuators : Samples
punctuators = map in_quotes ("!" ∷ "$" ∷ "&" ∷ "(" ∷ ")" ∷ "..." ∷ ":" ∷ "=" ∷ "@" ∷ "]" ∷ "|" ∷ "}" ∷ [])

-- the keywords of both languages
abbrev pub keyword_words : List String
keyword_words =
    "directive" ∷ "enum" ∷ "extend" ∷ "fragment" ∷ "implements" ∷ "input" ∷ "interface" ∷ "mutation" ∷ "on" ∷ "query" ∷ "repeatable"
    ∷ "scalar" ∷ "schema" ∷ "subscription" ∷ "type" ∷ "union" ∷ []

-- what each location of a directive is called
abbrev pub location_name : List ℕ
location_name = codes "a location such as \"FIELD\" or \"OBJECT\""

-- a sample of each keyword, and of the locations
abbrev pub keywords : Samples
keywords = map in_quotes keyword_words ++ (codes "FIELD", location_name) ∷ []

abbrev pub name_name : List ℕ
name_name = codes "a name"

-- what a name and all literals are called together
abbrev pub value_name : List ℕ
value_name = codes "a value"

abbrev pub end_name : List ℕ
end_name = codes "the end of the text"

-- ---- what is taken of them

-- the names of those samples with which the front is viable, in their order
abbrev pub AreTaken : Language → Limits → List ℕ → Samples → List (List ℕ) → Type 0
AreTaken language limits front [] names = names ≡ []
AreTaken language limits front (s ∷ samples) names =
    (answer : Bool) × (rest : List (List ℕ))
    × TellsFrontOf language limits (with_sample front s.0) answer
    × (names ≡ cond answer (s.1 ∷ rest) rest)
    × AreTaken language limits front samples rest

-- a name, and the literals that are taken; a value, where it is a name and all literals
abbrev pub value_names : Bool → List (List ℕ) → List (List ℕ)
value_names has_name names = cond (has_name && (length names == length literals)) (value_name ∷ []) (cond has_name (name_name ∷ []) [] ++ names)

-- What is expected after a front: of each table the samples that can stand on the line after it, but keywords only where
-- a name can't; and the end of the text, where the front has a tree, as it has with the line feed.
pub record AreExpected (language : Language) (limits : Limits) (front : List ℕ) (names : List (List ℕ)) : Type 0 where
  pub has_name : Bool
  pub tells_name : TellsFrontOf language limits (with_sample (front ++ 10 ∷ []) name_text) has_name
  pub of_literals : List (List ℕ)
  pub are_literals : AreTaken language limits (front ++ 10 ∷ []) literals of_literals
  pub of_punctuators : List (List ℕ)
  pub are_punctuators : AreTaken language limits (front ++ 10 ∷ []) punctuators of_punctuators
  pub of_keywords : List (List ℕ)
  pub none_beside_a_name : has_name ≡ true → of_keywords ≡ []
  pub are_keywords : has_name ≡ false → AreTaken language limits (front ++ 10 ∷ []) keywords of_keywords
  pub is_whole : Bool
  pub tells_whole : TellsTreeOf language limits (front ++ 10 ∷ []) is_whole
  pub are_names : names ≡ value_names has_name of_literals ++ of_punctuators ++ of_keywords ++ cond is_whole (end_name ∷ []) []
