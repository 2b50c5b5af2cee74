-- Where the tokens stand that an error about definitions names, as byte offsets, and what is said of the second of them.
-- Source: this project's choice.
use Rattle.std.specs.Prelude.{◌≡◌, ◌≢◌, ◌⊎◌, ℕ, List, [], ◌∷◌, ◌++◌, length, None, IsSomeAnd, codes}
use Rattle.graphql_tokens.specs.declared.pos.Pos.{Pos}
use Rattle.graphql_tokens.specs.tokens.Cuts.{IsCutInto}
use Rattle.graphql_tokens.specs.tokens.Token.{Token}
use Rattle.graphql_grammar.specs.declared.error.Error.{Error}
use Rattle.graphql_grammar.specs.declared.error.Error.TheVariants.{Syntax, MultipleRoots, MultipleOperations, OperationDuplicated, FragmentDuplicated}
use Rattle.graphql_grammar.specs.errors.Errors.{error_places}
use Rattle.graphql_report.specs.declared.definitions.ErrorOffsets.{ErrorOffsets}

-- ---- tokens

-- the token is one of those into which the text is cut
pub record IsTokenOf (text : List ℕ) (token : Token) : Type 0 where
  pub before : List Token
  pub after : List Token
  pub cut : IsCutInto text (before ++ token ∷ after)

-- no token of the text has this place
abbrev pub HasNoTokenAt : List ℕ → Pos → Type 0
HasNoTokenAt text place = (token : Token) → IsTokenOf text token → token.pos ≢ place

-- a token of the text that has this place begins at the offset; or the offset is the length of the text, which has no such token
abbrev pub IsOffsetOf : List ℕ → Pos → ℕ → Type 0
IsOffsetOf text place offset = ((token : Token) × IsTokenOf text token × (token.pos ≡ place) × (offset ≡ token.start)) ⊎ (HasNoTokenAt text place × (offset ≡ length text))

-- ---- errors

-- what a report says after the message of an error about definitions, before the line of its first place; mostly nothing
abbrev pub first_remark : Error → List ℕ
first_remark (MultipleOperations anonymous operation) = codes ", and this one has no name"
first_remark other = []

-- what a report says of the second place of an error about definitions; nothing of another error
abbrev pub second_remark : Error → List ℕ
second_remark (MultipleRoots root schema pos) = codes "the schema begins here"
second_remark (MultipleOperations anonymous operation) = codes "another operation is here"
second_remark (OperationDuplicated operation first second) = codes "it is first defined here"
second_remark (FragmentDuplicated fragment first second) = codes "it is first defined here"
second_remark other = []

-- the first offset is that of the first place, and the second that of the second, with this remark; where there is no place, the
-- first is the length of the text
abbrev pub AreOffsetsOf : List ℕ → List Pos → List ℕ → ErrorOffsets → Type 0
AreOffsetsOf text [] remark offsets = (offsets.first ≡ length text) × (offsets.second ≡ None)
AreOffsetsOf text (place ∷ []) remark offsets = IsOffsetOf text place offsets.first × (offsets.second ≡ None)
AreOffsetsOf text (place ∷ second ∷ more) remark offsets = IsOffsetOf text place offsets.first × IsSomeAnd offsets.second (λ other. IsOffsetOf text second other.offset × (other.place ≡ second) × (other.remark.now ≡ remark))

-- the places that an error about definitions names, the more important first
abbrev pub definition_places : Error → List Pos
definition_places (Syntax message start end) = []
definition_places error = error_places error

-- the offsets of these places
abbrev pub AreErrorOffsets : List ℕ → Error → ErrorOffsets → Type 0
AreErrorOffsets text error offsets = AreOffsetsOf text (definition_places error) (second_remark error) offsets
