-- An operation that begins with its keyword is read as the code reads it.
use Rattle.std.proofs.Common.{◌≡◌, Bool, true, false, cond, Option, Some, None, List, [], ◌∷◌, refl, ap, ◌∙◌}
use Rattle.graphql_tokens.specs.declared.pos.Positioned.{Positioned}
use Rattle.graphql_syntax.specs.declared.types.OperationType.{OperationType}
use Rattle.graphql_tokens.specs.tokens.Token.{Token}
use Rattle.graphql_syntax.specs.trees.Parts.{Name, Directives}
use Rattle.graphql_trees.specs.trees.Request.{VariableDefinition}
use Rattle.graphql_reading.specs.grammar.Relations.{given}
use Rattle.graphql_reading.specs.grammar.Fronts.{syntax}
use Rattle.graphql_reading.specs.grammar.Limits.{Limits}
use Rattle.graphql_requests.specs.grammar.Request.{Definition, operation_of, name_in}
use Rattle.graphql_requests.specs.grammar.Selections.{Set}
use Rattle.graphql_reading.specs.grammar.Tests.{punct, any_name}
use Rattle.graphql_grammar.specs.reading.Arguments.{directives_at}
use Rattle.graphql_requests.specs.reading.Variables.{variable_definitions_at}
use Rattle.graphql_requests.specs.reading.Definitions.{maybe_name_at, given_variables_at, worded, worded_at}
use Rattle.graphql_reading.specs.reading.Outcome.{Outcome, Read, Refused, ◌>>=◌, one_at, then_at, opt_at}
use Rattle.graphql_grammar.specs.reading.Operations.{operation_type_at}
use Rattle.graphql_requests.specs.reading.Request.{own_set_at, full_operation_at}

abbrev pair-up : {A B : Type 0} → A → B → List Token → Outcome (A × B)
pair-up a b rest = Read (a, b) rest

abbrev operation-read : (Token × OperationType) × (Option Token × (Option (List (Positioned VariableDefinition)) × (Directives × Set))) → List Token → Outcome Definition
operation-read x rest = Read (operation_of x) rest

-- ---- a name, if there is one

name-law : (ts : List Token) → (opt_at any_name (one_at any_name) ts >>= λ o rest. Read (name_in o) rest) ≡ maybe_name_at ts
unfolding opt_at
name-law [] = refl
name-law (t ∷ ts) = go (any_name t.bare)
  where
    go : (w : Bool) → (cond w (cond w (Read t ts) (Refused syntax (t ∷ ts)) >>= λ a rest. Read (Some a) rest) (Read None (t ∷ ts)) >>= λ o rest. Read (name_in o) rest) ≡ cond w (cond w (Read t ts) (Refused syntax (t ∷ ts)) >>= λ t rest. Read (Some t.bare.spelling) rest) (Read None (t ∷ ts))
    go true = refl
    go false = refl

-- ---- the whole

abbrev worded-read : (Token × OperationType) × (Option Name × (List (Positioned VariableDefinition) × (Directives × Set))) → List Token → Outcome Definition
worded-read x rest = Read (worded x) rest

abbrev body-at : Limits → List Token → Outcome (Directives × Set)
body-at limits = then_at (directives_at true limits.values) (own_set_at limits)

pub operation-law : (limits : Limits) (ts : List Token) → full_operation_at limits ts ≡ worded_at limits ts
operation-law limits ts = first (operation_type_at ts)
  where
    fourth : (k : Token × OperationType) (n : Option Token) (v : Option (List (Positioned VariableDefinition))) (o : Outcome (Directives × Set)) → ((((o >>= pair-up v) >>= pair-up n) >>= pair-up k) >>= operation-read) ≡ ((((o >>= pair-up (given v)) >>= pair-up (name_in n)) >>= pair-up k) >>= worded-read)
    fourth k n v (Read d rest) = refl
    fourth k n v (Refused w rest) = refl

    third : (k : Token × OperationType) (n : Option Token) (o : Outcome (Option (List (Positioned VariableDefinition)))) → ((((o >>= λ v rest. body-at limits rest >>= pair-up v) >>= pair-up n) >>= pair-up k) >>= operation-read) ≡ (((((o >>= λ v rest. Read (given v) rest) >>= λ v rest. body-at limits rest >>= pair-up v) >>= pair-up (name_in n)) >>= pair-up k) >>= worded-read)
    third k n (Read v rest) = fourth k n v (body-at limits rest)
    third k n (Refused w rest) = refl

    second : (k : Token × OperationType) (o : Outcome (Option Token)) → (((o >>= λ n rest. then_at (opt_at (punct "(") (variable_definitions_at limits.values limits.types)) (body-at limits) rest >>= pair-up n) >>= pair-up k) >>= operation-read) ≡ ((((o >>= λ n rest. Read (name_in n) rest) >>= λ n rest. then_at (given_variables_at limits) (body-at limits) rest >>= pair-up n) >>= pair-up k) >>= worded-read)
    second k (Read n rest) = third k n (opt_at (punct "(") (variable_definitions_at limits.values limits.types) rest)
    second k (Refused w rest) = refl

    first : (o : Outcome (Token × OperationType)) → ((o >>= λ k rest. then_at (opt_at any_name (one_at any_name)) (then_at (opt_at (punct "(") (variable_definitions_at limits.values limits.types)) (body-at limits)) rest >>= pair-up k) >>= operation-read) ≡ ((o >>= λ k rest. then_at maybe_name_at (then_at (given_variables_at limits) (body-at limits)) rest >>= pair-up k) >>= worded-read)
    first (Read k rest) =
        second k (opt_at any_name (one_at any_name) rest)
        ∙ ap (λ (o : Outcome (Option Name)). ((o >>= λ n rest. then_at (given_variables_at limits) (body-at limits) rest >>= pair-up n) >>= pair-up k) >>= worded-read) (name-law rest)
    first (Refused w rest) = refl
