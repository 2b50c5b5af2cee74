-- Roots by their kinds: with one root more they are still so, or it repeats a kind.
use Rattle.std.proofs.Common.{◌≡◌, Bool, true, false, cond, is_some, Option, Some, None, option_map, Result, Ok, Err, List, [], ◌∷◌, ◌++◌, refl, sym, ap, ◌∙◌, subst, append_assoc}
use Rattle.graphql_tokens.specs.declared.pos.Pos.{Pos}
use Rattle.graphql_tokens.specs.declared.pos.Positioned.{Positioned}
use Rattle.graphql_syntax.specs.declared.types.OperationType.{OperationType}
use Rattle.graphql_syntax.specs.declared.types.OperationType.TheVariants.{Query, Mutation, Subscription}
use Rattle.graphql_syntax.specs.trees.Parts.{Name}
use Rattle.graphql_grammar.specs.answers.Breaches.{or_else}
use Rattle.graphql_grammar.specs.declared.error.Error.{Error}
use Rattle.graphql_grammar.proofs.Breaches.{or-none}
use Rattle.std.proofs.lemmas.List.{map-append}
use Rattle.graphql_schemas.specs.declared.rules.Roots as code
use Rattle.graphql_schemas.specs.declared.schema.Root.{Root as CodeRoot}
use Rattle.graphql_schemas.specs.grammar.Documents.{root_name}
use Rattle.graphql_schemas.specs.grammar.Rules.{same_kind, first_of_kind, first_repeated}
use Rattle.graphql_schemas.specs.grammar.Schema.{Root}
use Rattle.graphql_schemas.specs.reading.Views.{root_tree, root_trees}
use Rattle.graphql_schemas.specs.reading.Finished.{Holds, IsPlaced, IsAdded, AreSorted}

same-itself : (kind : OperationType) → same_kind kind kind ≡ true
same-itself Query = refl
same-itself Mutation = refl
same-itself Subscription = refl

either-or : {A : Type 0} (b : Bool) (a : A) (o p q : Option A) → o ≡ or_else p q → cond b (Some a) o ≡ or_else (cond b (Some a) p) q
either-or true a o p q e = refl
either-or false a o p q e = e

none-mapped : {A B : Type 0} (f : A → B) (o : Option A) → option_map f o ≡ None → o ≡ None
none-mapped f None e = refl
none-mapped f (Some a) e = absurd cc

some-mapped : {A B : Type 0} (f : A → B) (o : Option A) → is_some (option_map f o) ≡ is_some o
some-mapped f None = refl
some-mapped f (Some a) = refl

-- the first of a kind, with one root more at the end
one-more : (kind : OperationType) (before : List Root) (root : Root) → first_of_kind kind (before ++ root ∷ []) ≡ or_else (first_of_kind kind before) (cond (same_kind kind root.kind) (Some root) None)
one-more kind [] root = refl
one-more kind (other ∷ before) root = either-or (same_kind kind other.kind) other _ _ _ (one-more kind before root)

abbrev name-of : Root → Positioned Name
name-of root = root.name

-- a root of another kind makes no difference,
stays : (kind : OperationType) (before : List Root) (root : Root) → same_kind kind root.kind ≡ false → root_name kind (before ++ root ∷ []) ≡ root_name kind before
stays kind before root e = ap (option_map name-of) (one-more kind before root ∙ ap (λ (b : Bool). or_else (first_of_kind kind before) (cond b (Some root) None)) e ∙ or-none (first_of_kind kind before))

-- and one of this kind is the first, where there was none
fills : (kind : OperationType) (before : List Root) (root : Root) → same_kind kind root.kind ≡ true → first_of_kind kind before ≡ None → root_name kind (before ++ root ∷ []) ≡ Some root.name
fills kind before root e none =
    let first : first_of_kind kind (before ++ root ∷ []) ≡ Some root = one-more kind before root ∙ ap (λ (o : Option Root). or_else o (cond (same_kind kind root.kind) (Some root) None)) none ∙ ap (λ (b : Bool). cond b (Some root) None) e in
    ap (option_map name-of) first

pub added : (kind : OperationType) (before : List Root) (root : Root) (schema : Pos) (result : Result Unit Error) (old found : Option (Positioned Name)) (new : code.Roots) → root.kind ≡ kind → old ≡ root_name kind before → IsPlaced old root schema result found → (found ≡ root_name kind (before ++ root ∷ []) → ((other : OperationType) → same_kind other kind ≡ false → root_name other (before ++ root ∷ []) ≡ root_name other before) → Holds (before ++ root ∷ []) new) → IsAdded before root schema result new
added kind before root schema (Ok done) old found new is held placed make =
    let none : first_of_kind kind before ≡ None = none-mapped name-of (first_of_kind kind before) (sym held ∙ placed.0) in
    let here : is_some (first_of_kind root.kind before) ≡ false = ap (λ (k : OperationType). is_some (first_of_kind k before)) is ∙ ap is_some none in (
      λ rest. rw here refl,
      make (placed.1 ∙ sym (fills kind before root (ap (same_kind kind) is ∙ same-itself kind) none)) (λ other differs. stays other before root (ap (same_kind other) is ∙ differs)),
    )
added kind before root schema (Err error) old found new is held placed make =
    let here : is_some (first_of_kind root.kind before) ≡ true = ap (λ (k : OperationType). is_some (first_of_kind k before)) is ∙ sym (some-mapped name-of (first_of_kind kind before)) ∙ ap is_some (sym held) ∙ placed.0 in
    (λ rest. rw here refl, placed.1)

-- ---- all roots, one after another

-- those at the front repeat no kind, and stand under their kinds
pub record Kept (front : List Root) (roots : code.Roots) : Type 0 where
  pub goes : (rest : List Root) → first_repeated [] (front ++ rest) ≡ first_repeated front rest
  pub holds : Holds front roots

pub kept-more : (front : List Root) (root : Root) (schema : Pos) (old new : code.Roots) → Kept front old → IsAdded front root schema (Ok tt) new → Kept (front ++ root ∷ []) new
kept-more front root schema old new kept h = record { goes = λ rest. ap (first_repeated []) (append_assoc front (root ∷ []) rest) ∙ kept.goes (root ∷ rest) ∙ h.0 rest; holds = h.1 }

pub kept-stops : (front rest : List Root) (root : Root) (schema : Pos) (old new : code.Roots) (error : Error) → Kept front old → IsAdded front root schema (Err error) new → AreSorted (front ++ root ∷ rest) schema (Err error)
kept-stops front rest root schema old new error kept h = (root, kept.goes (root ∷ rest) ∙ h.0 rest, h.1)

-- the same of the roots of the code
abbrev pub AreKept : List CodeRoot → code.Roots → Type 0
AreKept roots sorted = Kept (root_trees roots) sorted

pub are-kept-more : (front : List CodeRoot) (root : CodeRoot) (schema : Pos) (old new : code.Roots) → AreKept front old → IsAdded (root_trees front) (root_tree root) schema (Ok tt) new → AreKept (front ++ root ∷ []) new
are-kept-more front root schema old new kept h =
    subst (λ (roots : List Root). Kept roots new) (sym (map-append root_tree front (root ∷ []))) (kept-more (root_trees front) (root_tree root) schema old new kept h)

pub sorted-stops : (items front others : List CodeRoot) (root : CodeRoot) (schema : Pos) (old new : code.Roots) (error : Error) → items ≡ front ++ root ∷ others → AreKept front old → IsAdded (root_trees front) (root_tree root) schema (Err error) new → AreSorted (root_trees items) schema (Err error)
sorted-stops items front others root schema old new error split kept h =
    subst (λ (roots : List Root). AreSorted roots schema (Err error)) (sym (ap root_trees split ∙ map-append root_tree front (root ∷ others))) (kept-stops (root_trees front) (root_trees others) (root_tree root) schema old new error kept h)
