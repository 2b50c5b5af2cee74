-- What is kept of heads that break no rule.
use Rattle.std.specs.Prelude.{◌≡◌, ℕ, Option, Some, Result, Ok, Err, List, [], ◌∷◌, ◌++◌}
use Rattle.std.specs.BTreeMap.{BTreeMap, get_by}
use Rattle.std.specs.Borrow.{Bor}
use Rattle.std.specs.Cmp.Lexicographic.{slice_cmp}
use Rattle.std.specs.Ordering.{nat_cmp}
use Rattle.graphql_tokens.specs.declared.pos.Pos.{Pos}
use Rattle.graphql_syntax.specs.trees.Parts.{Name}
use Rattle.graphql_parser.specs.Checking.{checked}
use Rattle.graphql_parser.specs.declared.check.rules.Sorted.{Sorted}
use Rattle.graphql_grammar.specs.answers.Answers.{AreUnbroken}
use Rattle.graphql_grammar.specs.declared.error.Error.{Error}
use Rattle.graphql_grammar.specs.declared.error.Error.TheVariants.{Syntax, RecursionLimitExceeded, OutOfMemory}
use Rattle.graphql_requests.specs.grammar.Request.{Definition}
use Rattle.graphql_requests.specs.grammar.Requests.{requests}
use Rattle.graphql_requests.specs.grammar.Rules.{breach_of, first_operation, first_anonymous, first_operation_named, first_fragment_named}

-- where the name was put
abbrev pub place_in : BTreeMap (Bor (List ℕ)) Pos → Name → Option Pos
place_in places name = get_by (λ key. slice_cmp nat_cmp name key.now) places

-- these heads break no rule, and this is what is kept of them
pub record IsSorted (ds : List Definition) (s : Sorted) : Type 0 where
  pub unbroken : AreUnbroken (checked requests) ds
  pub first : first_operation ds ≡ s.first
  pub anonymous : first_anonymous ds ≡ s.anonymous
  pub operations : (name : Name) → first_operation_named name ds ≡ place_in s.operations name
  pub fragments : (name : Name) → first_fragment_named name ds ≡ place_in s.fragments name

-- the error that one head is after others, or that memory ran out
abbrev pub Tells : Option Error → Error → Type 0
Tells breach (Syntax message start end) = ⊥
Tells breach RecursionLimitExceeded = ⊥
Tells breach OutOfMemory = Unit {0}
Tells breach error = breach ≡ Some error

-- with one head more they are sorted still, or it breaks a rule
abbrev pub IsAdded : List Definition → Definition → Result Unit Error → Sorted → Type 0
IsAdded ds d (Ok done) new = IsSorted (ds ++ d ∷ []) new
IsAdded ds d (Err error) new = Tells (breach_of ds d) error
