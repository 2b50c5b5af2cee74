-- What a request breaks or lacks doesn't depend on its places.
use Rattle.std.proofs.Common.{◌≡◌, Bool, true, false, cond, Option, Some, None, option_map, List, [], ◌∷◌, map, refl, sym, ap, ◌∙◌}
use Rattle.std.specs.Str.{bytes_eq}
use Rattle.graphql_tokens.specs.declared.pos.Pos.{Pos}
use Rattle.graphql_syntax.specs.trees.Parts.{Name}
use Rattle.graphql_grammar.specs.declared.error.Error.{Error}
use Rattle.graphql_grammar.specs.declared.error.Error.TheVariants.{MultipleOperations, OperationDuplicated, FragmentDuplicated}
use Rattle.graphql_grammar.specs.errors.Errors.{placeless_error}
use Rattle.graphql_grammar.proofs.Alike.{JudgesAlike, either}
use Rattle.graphql_reading.specs.grammar.Places.{nowhere}
use Rattle.graphql_requests.specs.grammar.Placeless.{placeless_definition}
use Rattle.graphql_requests.specs.grammar.Request.{Definition, operation, fragment}
use Rattle.graphql_requests.specs.grammar.Requests.{requests}
use Rattle.graphql_requests.specs.grammar.Rules.{first_operation, first_anonymous, first_operation_named, first_fragment_named, breach_of, missing_operation}

-- ---- the first of its kind

abbrev away : Option Pos → Option Pos
away = option_map (λ place. nowhere)

first-away : (ds : List Definition) → first_operation (map placeless_definition ds) ≡ away (first_operation ds)
first-away [] = refl
first-away (operation name o ∷ ds) = refl
first-away (fragment name f ∷ ds) = first-away ds

anonymous-away : (ds : List Definition) → first_anonymous (map placeless_definition ds) ≡ away (first_anonymous ds)
anonymous-away [] = refl
anonymous-away (operation None o ∷ ds) = refl
anonymous-away (operation (Some name) o ∷ ds) = anonymous-away ds
anonymous-away (fragment name f ∷ ds) = anonymous-away ds

chosen : (is : Bool) (place : Pos) (x y : Option Pos) → x ≡ away y → cond is (Some nowhere) x ≡ away (cond is (Some place) y)
chosen true place x y h = refl
chosen false place x y h = h

operation-away : (name : Name) (ds : List Definition) → first_operation_named name (map placeless_definition ds) ≡ away (first_operation_named name ds)
operation-away name [] = refl
operation-away name (operation None o ∷ ds) = operation-away name ds
operation-away name (operation (Some other) o ∷ ds) = chosen (bytes_eq name other) o.pos (first_operation_named name (map placeless_definition ds)) (first_operation_named name ds) (operation-away name ds)
operation-away name (fragment other f ∷ ds) = operation-away name ds

fragment-away : (name : Name) (ds : List Definition) → first_fragment_named name (map placeless_definition ds) ≡ away (first_fragment_named name ds)
fragment-away name [] = refl
fragment-away name (operation other o ∷ ds) = fragment-away name ds
fragment-away name (fragment other f ∷ ds) = chosen (bytes_eq name other) f.pos (first_fragment_named name (map placeless_definition ds)) (first_fragment_named name ds) (fragment-away name ds)

-- ---- the errors

-- an error that is made of a place, which is there or isn't
told-away : (make made : Pos → Error) → ((place other : Pos) → placeless_error (make place) ≡ placeless_error (made other)) → (x y : Option Pos) → y ≡ away x → option_map placeless_error (option_map make x) ≡ option_map placeless_error (option_map made y)
told-away make made h None y e = ap (λ (z : Option Pos). option_map placeless_error (option_map made z)) (sym e)
told-away make made h (Some place) y e = ap Some (h place nowhere) ∙ ap (λ (z : Option Pos). option_map placeless_error (option_map made z)) (sym e)

breach-away : (before : List Definition) (d : Definition) → option_map placeless_error (breach_of before d) ≡ option_map placeless_error (breach_of (map placeless_definition before) (placeless_definition d))
breach-away before (operation None o) =
    told-away (λ first. MultipleOperations o.pos first) (λ first. MultipleOperations nowhere first) (λ place other. refl) (first_operation before) (first_operation (map placeless_definition before)) (first-away before)
breach-away before (operation (Some name) o) =
    either
    (option_map (λ anonymous. MultipleOperations anonymous o.pos) (first_anonymous before))
    (option_map (λ first. OperationDuplicated name first o.pos) (first_operation_named name before))
    (option_map (λ anonymous. MultipleOperations anonymous nowhere) (first_anonymous (map placeless_definition before)))
    (option_map (λ first. OperationDuplicated name first nowhere) (first_operation_named name (map placeless_definition before)))
    (told-away (λ anonymous. MultipleOperations anonymous o.pos) (λ anonymous. MultipleOperations anonymous nowhere) (λ place other. refl) (first_anonymous before) (first_anonymous (map placeless_definition before)) (anonymous-away before))
    (told-away (λ first. OperationDuplicated name first o.pos) (λ first. OperationDuplicated name first nowhere) (λ place other. refl) (first_operation_named name before) (first_operation_named name (map placeless_definition before)) (operation-away name before))
breach-away before (fragment name f) =
    told-away (λ first. FragmentDuplicated name first f.pos) (λ first. FragmentDuplicated name first nowhere) (λ place other. refl) (first_fragment_named name before) (first_fragment_named name (map placeless_definition before)) (fragment-away name before)

missing-away : (x y : Option Pos) → y ≡ away x → option_map placeless_error (missing_operation x) ≡ option_map placeless_error (missing_operation y)
missing-away None y e = ap (λ (z : Option Pos). option_map placeless_error (missing_operation z)) (sym e)
missing-away (Some place) y e = ap (λ (z : Option Pos). option_map placeless_error (missing_operation z)) (sym e)

pub requests-judge-alike : JudgesAlike requests
requests-judge-alike = record {
  one = placeless_definition;
  each = λ ds. refl;
  breach = breach-away;
  lack = λ ds. missing-away (first_operation ds) (first_operation (map placeless_definition ds)) (first-away ds);
}
