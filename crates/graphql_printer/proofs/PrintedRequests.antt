-- What is printed of sets, and of fragments from an index on.
use Rattle.std.proofs.Common.{◌≡◌, ◌+◌, ◌==◌, ℕ, List, [], ◌∷◌, ◌++◌, Some, drop, length, true, false, refl, ap, sym, ◌∙◌, subst, arith, if◌then◌else◌}
use Rattle.std.specs.List.{slice_get}
use Rattle.std.specs.Vec.{vec_len}
use Rattle.std.proofs.lemmas.List.{drop_more, length-map}
use Rattle.std.proofs.lemmas.Option.{slice_get_within, get_or_from_slice_get}
use Rattle.graphql_tokens.specs.declared.pos.Pos.{Pos}
use Rattle.graphql_tokens.specs.declared.pos.Positioned.{Positioned}
use Rattle.graphql_tokens.specs.tokens.Token.{Bare}
use Rattle.graphql_syntax.specs.trees.Parts.{placed}
use Rattle.graphql_trees.proofs.Requests.{set_tree_out}
use Rattle.graphql_trees.specs.declared.executable.SelectionSet.{SelectionSet, out-SelectionSet}
use Rattle.graphql_trees.specs.trees.Request as request
use Rattle.graphql_trees.specs.trees.RequestViews.{selection_tree, selection_set_tree, selection_trees}
use Rattle.graphql_requests.specs.grammar.Request.{Definition}
use Rattle.graphql_printer.specs.inner.Places.{stands_before}
use Rattle.graphql_printer.specs.inner.Shown.{sign}
use Rattle.graphql_printer.specs.inner.ShownRequests.{braced, Fragment, a_fragment, after_fragments}

-- ---- sets that are not empty

some_listed : (xs : List (Positioned request.Selection)) (inner : List Bare) → (length xs == 0) ≡ false → sign "{" ∷ (inner ++ sign "}" ∷ []) ≡ braced (request.set_of xs) inner
some_listed [] inner e = absurd cc
some_listed (x ∷ xs) inner e = refl

pub some_braced : (s : SelectionSet) (inner : List Bare) → (vec_len (out-SelectionSet s).items == 0) ≡ false → sign "{" ∷ (inner ++ sign "}" ∷ []) ≡ braced (selection_set_tree s) inner
some_braced s inner e =
    let items = (out-SelectionSet s).items in
    let counted : length items.items ≡ vec_len items = omega (arith, items.ok.0) in
    let listed : (length (selection_trees items.items) == 0) ≡ false = ap (λ n. n == 0) (length-map items.items (placed selection_tree) ∙ counted) ∙ e in
    subst (λ (set : request.SelectionSet). sign "{" ∷ (inner ++ sign "}" ∷ []) ≡ braced set inner) (sym (set_tree_out s)) (some_listed (selection_trees items.items) inner listed)

-- ---- fragments

-- the item of an index is the first of those from there on
pub at_index : {X : Type 0} (xs : List X) (i : ℕ) (x : X) → Some x ≡ slice_get xs i → drop i xs ≡ x ∷ drop (i + 1) xs
at_index xs i x e = drop_more xs i x (slice_get_within xs i x (sym e)) ∙ ap (λ y. y ∷ drop (i + 1) xs) (get_or_from_slice_get xs i x x (sym e))

pub after_earlier : (pos : Pos) (definition : Definition) (others : List Fragment → List Definition) (f : Fragment) (fs : List Fragment) → stands_before f.1.pos pos ≡ true
    → after_fragments pos definition others (f ∷ fs) ≡ a_fragment f ∷ after_fragments pos definition others fs
after_earlier pos definition others f fs e = ap (λ b. if b then a_fragment f ∷ after_fragments pos definition others fs else definition ∷ others (f ∷ fs)) e

pub before_later : (pos : Pos) (definition : Definition) (others : List Fragment → List Definition) (f : Fragment) (fs : List Fragment) → stands_before f.1.pos pos ≡ false
    → after_fragments pos definition others (f ∷ fs) ≡ definition ∷ others (f ∷ fs)
before_later pos definition others f fs e = ap (λ b. if b then a_fragment f ∷ after_fragments pos definition others fs else definition ∷ others (f ∷ fs)) e
