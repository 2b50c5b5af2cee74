-- The tree of a value without variables holds none.
use Rattle.std.proofs.Common.{◌≡◌, ℕ, Bool, false, ◌||◌, List, [], ◌∷◌, map, refl, ap, ◌∙◌, subst, Result, Ok, Err, IfOk}
use Rattle.std.specs.declared.alloc.AllocError.{AllocError}
use Rattle.graphql_tokens.specs.declared.pos.Positioned.{Positioned}
use Rattle.graphql_syntax.specs.declared.value.ConstValue.{ConstValue}
use Rattle.graphql_syntax.specs.declared.value.ConstValue.TheFolds.{fold-roll-ConstValue, ind-ConstValue, map-ConstValue}
use Rattle.graphql_syntax.specs.declared.value.ConstValue.TheOpen.{ConstValue-F}
use Rattle.graphql_syntax.specs.declared.value.Value.{Value}
use Rattle.graphql_syntax.specs.calls.Constants.{arguments_have_variable}
use Rattle.graphql_syntax.specs.trees.PartViews.{const_arguments_tree}
use Rattle.graphql_syntax.specs.trees.ValueTree.{Tree, has_variable, trees_have_variable, fields_have_variable, trees_of, fields_of}
use Rattle.graphql_syntax.specs.trees.ValueViews.{const_step, const_tree, value_tree, field_by}

abbrev IsConstant : ConstValue → Type 0
IsConstant v = has_variable (const_tree v) ≡ false

abbrev Constant : Type 0
Constant = (v : ConstValue) × IsConstant v

neither : (a b : Bool) → a ≡ false → b ≡ false → (a || b) ≡ false
neither a b p q = cc

constant_items : (vs : List Constant) → trees_have_variable (trees_of (map const_tree (map (λ v. v.0) vs))) ≡ false
constant_items [] = refl
constant_items (v ∷ vs) = neither (has_variable (const_tree v.0)) (trees_have_variable (trees_of (map const_tree (map (λ v. v.0) vs)))) v.1 (constant_items vs)

constant_fields : (fs : List (List ℕ × Constant)) → fields_have_variable (fields_of (map (field_by const_tree) (map (λ f. (f.0, f.1.0)) fs))) ≡ false
constant_fields [] = refl
constant_fields (f ∷ fs) = neither (has_variable (const_tree f.1.0)) (fields_have_variable (fields_of (map (field_by const_tree) (map (λ f. (f.0, f.1.0)) fs)))) f.1.1 (constant_fields fs)

-- one level, where the levels below are constant
constant_level : (y : ConstValue-F Constant) → has_variable (const_step (map-ConstValue ConstValue Tree const_tree (map-ConstValue Constant ConstValue (λ v. v.0) y))) ≡ false
constant_level ConstValue-F.Null = refl
constant_level (ConstValue-F.Number n) = refl
constant_level (ConstValue-F.String s) = refl
constant_level (ConstValue-F.Boolean b) = refl
constant_level (ConstValue-F.Enum n) = refl
constant_level (ConstValue-F.List vs) = constant_items vs.items
constant_level (ConstValue-F.Object fs) = constant_fields fs.items

pub constant : (v : ConstValue) → has_variable (const_tree v) ≡ false
constant = ind-ConstValue IsConstant (λ x y is.
    ap has_variable (fold-roll-ConstValue Tree const_step x) ∙
    subst (λ z. has_variable (const_step (map-ConstValue ConstValue Tree const_tree z)) ≡ false) is (constant_level y))

-- what has the tree of a value without variables holds none
pub still_constant : (v : ConstValue) (result : Result Value AllocError) → IfOk result (λ value. value_tree value ≡ const_tree v) →
    IfOk result (λ value. has_variable (value_tree value) ≡ false)
still_constant v (Ok value) same = ap has_variable same ∙ constant v
still_constant v (Err e) same = tt

pub constant_arguments : (as₀ : List (Positioned (List ℕ) × Positioned ConstValue)) → arguments_have_variable (const_arguments_tree as₀) ≡ false
constant_arguments [] = refl
constant_arguments (a ∷ as₀) = neither (has_variable (const_tree a.1.node)) (arguments_have_variable (const_arguments_tree as₀)) (constant a.1.node) (constant_arguments as₀)
