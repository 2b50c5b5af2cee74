use Rattle.std.proofs.Common.{◌≡◌, Bool, ◌&&◌, ◌↔◌, IsTrue, sym, ap, ◌∙◌}
use Rattle.std.specs.Bool.{beq}
use Rattle.graphql_syntax.specs.trees.TypeTree.{TypeTree, type_tree}
use Rattle.graphql_syntax.specs.trees.TypeEquality.{same_type}
use Rattle.graphql_syntax.specs.inner.TypeLaws.{same_type-true, same_type-is}
use Rattle.graphql_syntax.proofs.TypeTexts.{same_type_of_bases}
use Rattle.graphql_syntax.proofs.types.equality.+same.Goals as goal

decides : (s t : TypeTree) (r : Bool) → r ≡ same_type s t → IsTrue r ↔ (s ≡ t)
decides s t r is = (λ e. same_type-true s t (sym is ∙ e), λ e. is ∙ (same_type-is s t).1 e)

pub TypePartialEq::eq-returns-then-eq-clause-value : goal.TypePartialEq::eq-returns-then-eq-clause-value
TypePartialEq::eq-returns-then-eq-clause-value t c =
    let a = c.args.self.now in
    let b = c.args.other.now in
    sym (same_type_of_bases a.base b.base a.nullable b.nullable ∙ ap (λ x. x && beq a.nullable b.nullable) (sym c.eq.ensures.value ∙ c.if-eq.true))

pub TypePartialEq::eq-returns-then-eq-clause-same : goal.TypePartialEq::eq-returns-then-eq-clause-same
TypePartialEq::eq-returns-then-eq-clause-same t c =
    decides (type_tree c.args.self.now) (type_tree c.args.other.now) (beq c.args.self.now.nullable c.args.other.now.nullable) (TypePartialEq::eq-returns-then-eq-clause-value t c)

pub TypePartialEq::eq-returns-else-eq-clause-value : goal.TypePartialEq::eq-returns-else-eq-clause-value
TypePartialEq::eq-returns-else-eq-clause-value t c =
    let a = c.args.self.now in
    let b = c.args.other.now in
    c.if-eq.false ∙ sym (same_type_of_bases a.base b.base a.nullable b.nullable ∙ ap (λ x. x && beq a.nullable b.nullable) (sym c.eq.ensures.value ∙ c.if-eq.false))

pub TypePartialEq::eq-returns-else-eq-clause-same : goal.TypePartialEq::eq-returns-else-eq-clause-same
TypePartialEq::eq-returns-else-eq-clause-same t c =
    decides (type_tree c.args.self.now) (type_tree c.args.other.now) c.eq.result (TypePartialEq::eq-returns-else-eq-clause-value t c)
