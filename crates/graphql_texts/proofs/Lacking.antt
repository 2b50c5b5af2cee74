-- A request that lacks an operation alone is good where requests may hold fragments alone: no definition breaks a rule by that.
use Rattle.std.proofs.Common.{◌≡◌, true, ◌⊎◌, inl, inr, Option, Some, None, Result, Err, List, refl, ap, ◌∙◌}
use Rattle.std.specs.Prelude.{option_map}
use Rattle.graphql_parser.specs.Checking.{checked}
use Rattle.graphql_parser.specs.answers.Answers.{Answers, FirstBreach, Lacks}
use Rattle.graphql_parser.specs.answers.Breaches.{or_else}
use Rattle.graphql_parser.specs.notation.Limits.{Limits}
use Rattle.graphql_parser.specs.requests.Request.{Definition, operation, fragment}
use Rattle.graphql_parser.specs.requests.Requests.{requests}
use Rattle.graphql_parser.specs.requests.Rules.{breach_of, first_operation, first_anonymous, first_operation_named, first_fragment_named}
use Rattle.graphql_parser.specs.tokens.Token.{Token}
use Rattle.graphql_parser.specs.types.Error.{Error}
use Rattle.graphql_parser.specs.types.Error.TheVariants.{MultipleOperations, OperationDuplicated, FragmentDuplicated, MissingOperation}
use Rattle.graphql_parser.specs.types.Pos.{Pos}
use Rattle.graphql_texts.specs.checked.Good.{HasDocument}

same-some : (one other : Error) → Some one ≡ Some other → one ≡ other
same-some one other e = cc

mapped-other : (r : Option Pos) (f : Pos → Error) → ((p : Pos) → f p ≡ MissingOperation → ⊥) → option_map f r ≡ Some MissingOperation → ⊥
mapped-other None f other e = cc
mapped-other (Some p) f other e = other p (same-some (f p) MissingOperation e)

either : (a b : Option Error) → or_else a b ≡ Some MissingOperation → (a ≡ Some MissingOperation) ⊎ (b ≡ Some MissingOperation)
either None b e = inr e
either (Some x) b e = inl e

never : (before : List Definition) (d : Definition) → breach_of before d ≡ Some MissingOperation → ⊥
never before (operation None o) e = mapped-other (first_operation before) (λ first. MultipleOperations o.pos first) (λ p same. cc) e
never before (operation (Some name) o) e =
    elim (either (option_map (λ anonymous. MultipleOperations anonymous o.pos) (first_anonymous before)) (option_map (λ first. OperationDuplicated name first o.pos) (first_operation_named name before)) e) [
      | inl one ↦ mapped-other (first_anonymous before) (λ anonymous. MultipleOperations anonymous o.pos) (λ p same. cc) one
      | inr other ↦ mapped-other (first_operation_named name before) (λ first. OperationDuplicated name first o.pos) (λ p same. cc) other
    ]
never before (fragment name f) e = mapped-other (first_fragment_named name before) (λ first. FragmentDuplicated name first f.pos) (λ p same. cc) e

pub lacking : (limits : Limits) (tokens : List Token) → Answers (checked requests) limits tokens (Err MissingOperation) → HasDocument true requests limits tokens
lacking limits tokens means = by means.broken
  where
    by : FirstBreach (checked requests) means.definitions MissingOperation ⊎ Lacks (checked requests) means.definitions MissingOperation → HasDocument true requests limits tokens
    by (inl broken) = absurd (never broken.before broken.broken broken.is)
    by (inr lacks) = record { definitions = means.definitions; tree = means.tree; unbroken = lacks.unbroken; complete = inr (refl, lacks.is) }

pub lacks-told : (result : Result (Unit {0}) Error) (error : Error) → result ≡ Err error → error ≡ MissingOperation → result ≡ Err MissingOperation
lacks-told result error is same = is ∙ ap Err same
