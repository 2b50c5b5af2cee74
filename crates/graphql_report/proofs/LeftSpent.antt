-- Where no token is left, each phrase is read, or refused there.
use Rattle.std.proofs.Common.{◌≡◌, ℕ, zero, suc, Bool, List, [], ◌∷◌, refl}
use Rattle.graphql_reading.specs.grammar.Limits.{Limits}
use Rattle.graphql_reading.specs.reading.Outcome.{Outcome, Read, Refused, ◌>>=◌, opt_at, many_at, plus_at, separated_at}
use Rattle.graphql_grammar.specs.reading.Types.{type_at}
use Rattle.graphql_grammar.specs.reading.Values.{value_at}
use Rattle.graphql_requests.specs.reading.Selections.{selection_set_at}
use Rattle.graphql_requests.specs.reading.SelectionSteps.{item_at}
use Rattle.graphql_schemas.specs.declared.types.Word.TheVariants as kinds
use Rattle.graphql_parser.specs.Checked.{ended}
use Rattle.graphql_report.specs.declared.phrases.Phrase.{Phrase}
use Rattle.graphql_report.specs.declared.phrases.Phrase.TheVariants as phrases
use Rattle.graphql_report.specs.inner.Left.{phrase_at, phrases_at}

-- no token is left
abbrev pub IsSpent : Outcome (Unit {0}) → Type 0
IsSpent (Read tree rest) = rest ≡ []
IsSpent (Refused v rest) = rest ≡ []

type-spent : (levels : ℕ) → IsSpent (ended (type_at levels []))
unfolding type_at
type-spent zero = refl
type-spent (suc levels) = refl

value-spent : (variables : Bool) (levels : ℕ) → IsSpent (ended (value_at variables levels []))
unfolding value_at
value-spent variables zero = refl
value-spent variables (suc levels) = refl

set-spent : (values levels : ℕ) → IsSpent (ended (selection_set_at values levels []))
unfolding selection_set_at
set-spent values zero = refl
set-spent values (suc levels) = refl

phrase-spent : (limits : Limits) (p : Phrase) → IsSpent (phrase_at limits p [])
unfolding opt_at many_at plus_at separated_at type_at value_at selection_set_at item_at
phrase-spent limits (phrases.Mark mark) = refl
phrase-spent limits (phrases.Keyword word) = refl
phrase-spent limits phrases.Name = refl
phrase-spent limits phrases.FragmentName = refl
phrase-spent limits phrases.EnumName = refl
phrase-spent limits phrases.Location = refl
phrase-spent limits phrases.Text = refl
phrase-spent limits phrases.OperationType = refl
phrase-spent limits (phrases.Dollar variables) = refl
phrase-spent limits phrases.Literal = refl
phrase-spent limits phrases.End = refl
phrase-spent limits phrases.TooDeep = refl
phrase-spent limits phrases.Never = refl
phrase-spent limits (phrases.MaybeMark mark) = refl
phrase-spent limits phrases.MaybeRepeatable = refl
phrase-spent limits phrases.MaybeName = refl
phrase-spent limits (phrases.Value variables zero) = refl
phrase-spent limits (phrases.Value variables (suc levels)) = refl
phrase-spent limits (phrases.OwnValue variables) = value-spent variables limits.values
phrase-spent limits (phrases.Simple variables) = refl
phrase-spent limits (phrases.Unnamed variables) = refl
phrase-spent limits (phrases.Bracketed variables zero) = refl
phrase-spent limits (phrases.Bracketed variables (suc levels)) = refl
phrase-spent limits (phrases.Values variables zero) = refl
phrase-spent limits (phrases.Values variables (suc levels)) = refl
phrase-spent limits (phrases.ObjectFields variables zero) = refl
phrase-spent limits (phrases.ObjectFields variables (suc levels)) = refl
phrase-spent limits (phrases.Arguments variables) = refl
phrase-spent limits (phrases.MaybeArguments variables) = refl
phrase-spent limits (phrases.Directives variables) = refl
phrase-spent limits phrases.MaybeDefault = refl
phrase-spent limits (phrases.Type zero) = refl
phrase-spent limits (phrases.Type (suc levels)) = refl
phrase-spent limits phrases.OwnType = type-spent limits.types
phrase-spent limits phrases.MaybeVariables = refl
phrase-spent limits phrases.VariableDefinition = refl
phrase-spent limits phrases.VariableDefinitions = refl
phrase-spent limits phrases.AfterType = refl
phrase-spent limits (phrases.Set zero) = refl
phrase-spent limits (phrases.Set (suc levels)) = refl
phrase-spent limits phrases.OwnSet = set-spent limits.values limits.selections
phrase-spent limits (phrases.Selections zero) = refl
phrase-spent limits (phrases.Selections (suc levels)) = refl
phrase-spent limits (phrases.Selection zero) = refl
phrase-spent limits (phrases.Selection (suc levels)) = refl
phrase-spent limits phrases.MaybeAliased = refl
phrase-spent limits (phrases.MaybeSet zero) = refl
phrase-spent limits (phrases.MaybeSet (suc levels)) = refl
phrase-spent limits (phrases.AfterDots zero) = refl
phrase-spent limits (phrases.AfterDots (suc levels)) = refl
phrase-spent limits (phrases.Inline zero) = refl
phrase-spent limits (phrases.Inline (suc levels)) = refl
phrase-spent limits phrases.MaybeCondition = refl
phrase-spent limits phrases.RequestDefinition = refl
phrase-spent limits phrases.WordedDefinition = refl
phrase-spent limits phrases.RequestDefinitions = refl
phrase-spent limits phrases.SchemaDefinition = refl
phrase-spent limits phrases.SchemaDefinitions = refl
phrase-spent limits phrases.Extended = refl
phrase-spent limits phrases.RootParts = refl
phrase-spent limits phrases.Undescribed = refl
phrase-spent limits phrases.NoSchema = refl
phrase-spent limits (phrases.TypeBody extend) = refl
phrase-spent limits (phrases.Rest extend kinds.Scalar) = refl
phrase-spent limits (phrases.Rest extend kinds.Type) = refl
phrase-spent limits (phrases.Rest extend kinds.Interface) = refl
phrase-spent limits (phrases.Rest extend kinds.Union) = refl
phrase-spent limits (phrases.Rest extend kinds.Enum) = refl
phrase-spent limits (phrases.Rest extend kinds.Input) = refl
phrase-spent limits phrases.MaybeImplements = refl
phrase-spent limits (phrases.Names mark) = refl
phrase-spent limits phrases.MaybeFields = refl
phrase-spent limits phrases.FieldDefinition = refl
phrase-spent limits phrases.FieldDefinitions = refl
phrase-spent limits phrases.MaybeMembers = refl
phrase-spent limits phrases.MaybeEnumValues = refl
phrase-spent limits phrases.EnumValueDefinition = refl
phrase-spent limits phrases.EnumValueDefinitions = refl
phrase-spent limits phrases.MaybeInputFields = refl
phrase-spent limits phrases.InputValueDefinition = refl
phrase-spent limits phrases.InputValueDefinitions = refl
phrase-spent limits phrases.MaybeArgumentsDefinition = refl
phrase-spent limits phrases.MaybeRoots = refl
phrase-spent limits phrases.Root = refl
phrase-spent limits phrases.Roots = refl
phrase-spent limits phrases.MaybeDescription = refl
phrase-spent limits phrases.Locations = refl

then-spent : (limits : Limits) (ps : List Phrase) → IsSpent (phrases_at limits ps []) → (o : Outcome (Unit {0})) → IsSpent o → IsSpent (o >>= λ _ rest. phrases_at limits ps rest)
then-spent limits ps all (Read tree []) h = all
then-spent limits ps all (Read tree (t ∷ rest)) h = absurd cc
then-spent limits ps all (Refused v rest) h = h

pub phrases-spent : (limits : Limits) (ps : List Phrase) → IsSpent (phrases_at limits ps [])
phrases-spent limits [] = refl
phrases-spent limits (p ∷ ps) = then-spent limits ps (phrases-spent limits ps) (phrase_at limits p []) (phrase-spent limits p)
