-- What is known of the heads of requests.
use Rattle.std.proofs.Common.{◌≡◌, cond, Option, Some, None, option_map, List, [], ◌∷◌, map, refl, ap, ◌∙◌}
use Rattle.std.specs.Str.{bytes_eq}
use Rattle.graphql_tokens.specs.declared.pos.Pos.{Pos}
use Rattle.graphql_tokens.specs.tokens.Cuts.{EndsOnce}
use Rattle.graphql_tokens.specs.tokens.Token.{Token}
use Rattle.graphql_syntax.specs.trees.Parts.{Name}
use Rattle.graphql_parser.specs.Checking.{checked}
use Rattle.graphql_parser.specs.RequestHeads.{head_of}
use Rattle.graphql_parser.proofs.Checking.{checks-read}
use Rattle.graphql_parser.proofs.Documents.{LooksAtHeads}
use Rattle.graphql_parser.proofs.Mapped.{takes-mapped, plus-mapped}
use Rattle.graphql_grammar.specs.answers.Breaches.{or_else}
use Rattle.graphql_grammar.specs.declared.error.Error.TheVariants.{MultipleOperations, OperationDuplicated, FragmentDuplicated}
use Rattle.graphql_grammar.specs.reading.ReadBy.{IsReadBy}
use Rattle.graphql_grammar.proofs.Languages.{IsRead, is-read-by}
use Rattle.graphql_reading.specs.grammar.Limits.{Limits}
use Rattle.graphql_reading.specs.reading.Outcome.{Takes, mapped_at, plus_at}
use Rattle.graphql_requests.specs.grammar.Request.{Definition, operation, fragment}
use Rattle.graphql_requests.specs.grammar.Requests.{requests}
use Rattle.graphql_requests.specs.grammar.Rules.{breach_of, missing_operation, first_operation, first_anonymous, first_operation_named, first_fragment_named}
use Rattle.graphql_requests.specs.reading.Request.{definition_first, definition_at, definitions_at}
use Rattle.graphql_requests.proofs.RequestProductions.{takes-definition, requests-are-read}

-- ---- reading

pub takes-head : (limits : Limits) → Takes (mapped_at head_of (definition_at limits))
takes-head limits = takes-mapped head_of (definition_at limits) (takes-definition limits)

pub definitions-are : (limits : Limits) (ts : List Token) → plus_at definition_first (mapped_at head_of (definition_at limits)) ts ≡ mapped_at (map head_of) (definitions_at limits) ts
definitions-are limits ts = plus-mapped head_of definition_first (definition_at limits) ts

pub checks-are-read : IsRead (checked requests) definitions_at
checks-are-read = checks-read requests definitions_at requests-are-read

pub checks-read-by : IsReadBy (checked requests) definitions_at
checks-read-by = is-read-by (checked requests) definitions_at checks-are-read

-- a list that ends has a token
pub ends-some : (ts : List Token) → EndsOnce ts → ts ≡ [] → ⊥
ends-some [] ends e = ends
ends-some (t ∷ ts) ends e = absurd cc

-- ---- the rules look at heads alone

first-of : (ds : List Definition) → first_operation (map head_of ds) ≡ first_operation ds
first-of [] = refl
first-of (operation name o ∷ ds) = refl
first-of (fragment name f ∷ ds) = first-of ds

anonymous-of : (ds : List Definition) → first_anonymous (map head_of ds) ≡ first_anonymous ds
anonymous-of [] = refl
anonymous-of (operation None o ∷ ds) = refl
anonymous-of (operation (Some name) o ∷ ds) = anonymous-of ds
anonymous-of (fragment name f ∷ ds) = anonymous-of ds

operation-of : (name : Name) (ds : List Definition) → first_operation_named name (map head_of ds) ≡ first_operation_named name ds
operation-of name [] = refl
operation-of name (operation None o ∷ ds) = operation-of name ds
operation-of name (operation (Some other) o ∷ ds) = ap (cond (bytes_eq name other) (Some o.pos)) (operation-of name ds)
operation-of name (fragment other f ∷ ds) = operation-of name ds

fragment-of : (name : Name) (ds : List Definition) → first_fragment_named name (map head_of ds) ≡ first_fragment_named name ds
fragment-of name [] = refl
fragment-of name (operation other o ∷ ds) = fragment-of name ds
fragment-of name (fragment other f ∷ ds) = ap (cond (bytes_eq name other) (Some f.pos)) (fragment-of name ds)

same-breach : (before : List Definition) (d : Definition) → breach_of (map head_of before) (head_of d) ≡ breach_of before d
same-breach before (operation None o) = ap (option_map (λ first. MultipleOperations o.pos first)) (first-of before)
same-breach before (operation (Some name) o) =
    ap (λ (x : Option Pos). or_else (option_map (λ anonymous. MultipleOperations anonymous o.pos) x) (option_map (λ first. OperationDuplicated name first o.pos) (first_operation_named name (map head_of before)))) (anonymous-of before)
    ∙ ap (λ (x : Option Pos). or_else (option_map (λ anonymous. MultipleOperations anonymous o.pos) (first_anonymous before)) (option_map (λ first. OperationDuplicated name first o.pos) x)) (operation-of name before)
same-breach before (fragment name f) = ap (option_map (λ first. FragmentDuplicated name first f.pos)) (fragment-of name before)

pub looks-at-heads : LooksAtHeads (checked requests) head_of
looks-at-heads = record { breach = same-breach; lack = λ ds. ap missing_operation (first-of ds); makes = λ ds document h. tt }
