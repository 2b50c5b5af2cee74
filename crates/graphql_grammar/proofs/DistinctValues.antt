-- In each value that the grammar relates to tokens no object has a name twice.
use Rattle.std.proofs.Common.{◌≡◌, ◌≢◌, ℕ, zero, suc, Bool, true, false, cond, Option, Some, None, List, [], ◌∷◌, map, refl, sym, ◌∙◌}
use Rattle.std.proofs.lemmas.Slice.Eq.{bytes_eq-Decides}
use Rattle.std.specs.List.{AllByRecursion}
use Rattle.std.specs.Str.{bytes_eq}
use Rattle.graphql_tokens.specs.tokens.Edition.{Current}
use Rattle.graphql_syntax.specs.trees.ValueTree.{Tree, trees_of, fields_of}
use Rattle.graphql_grammar.specs.grammar.Arguments.{an_argument, arguments, a_directive, directives, a_default}
use Rattle.graphql_grammar.specs.grammar.Distinct.{HasNone, IsDistinct, AreDistinctItems, AreDistinctFields, IsDistinctValue, IsDistinctDefault, IsDistinctArgument, AreDistinctArguments, IsDistinctDirective, AreDistinctDirectives}
use Rattle.graphql_grammar.specs.grammar.Merged.{has_name, without, last_value, merged}
use Rattle.graphql_grammar.specs.grammar.Values.{Value, a_list, an_object, a_field, a_simple_value, a_word, value}
use Rattle.graphql_reading.specs.grammar.Relations.{Rel, one}
use Rattle.graphql_reading.specs.grammar.Tests.{punct, any_name}
use Rattle.graphql_reading.proofs.Keeps.{Keeps, Anything, BothOf, OfOption, keeps-any, keeps-mapped, keeps-then, keeps-either, keeps-opt, keeps-star, keeps-plus, keeps-between, keeps-after, of-given}

abbrev Pair : Type 0
Pair = List ℕ × Tree

abbrev OfPair : Pair → Type 0
OfPair pair = IsDistinct pair.1

abbrev OfPairs : List Pair → Type 0
OfPairs pairs = AllByRecursion OfPair pairs

-- ---- merged fields

other-name : (n m : List ℕ) → bytes_eq m n ≡ false → m ≢ n
other-name n m e same = clash (sym ((bytes_eq-Decides m n).1 same) ∙ e)
  where
    clash : true ≡ false → ⊥
    clash e = cc

none-without : (n : List ℕ) (pairs : List Pair) → HasNone n (fields_of (without n pairs))
none-without n [] = tt
none-without n (p ∷ ps) = go (none-without n ps) (bytes_eq p.0 n) refl
  where
    go : HasNone n (fields_of (without n ps)) → (w : Bool) → bytes_eq p.0 n ≡ w → HasNone n (fields_of (cond w (without n ps) (p ∷ without n ps)))
    go more true e = more
    go more false e = (other-name n p.0 e, more)

still-none : (m n : List ℕ) (pairs : List Pair) → HasNone m (fields_of pairs) → HasNone m (fields_of (without n pairs))
still-none m n [] h = tt
still-none m n (p ∷ ps) h = go (still-none m n ps h.1) (bytes_eq p.0 n)
  where
    go : HasNone m (fields_of (without n ps)) → (w : Bool) → HasNone m (fields_of (cond w (without n ps) (p ∷ without n ps)))
    go more true = more
    go more false = (h.0, more)

still-distinct : (n : List ℕ) (pairs : List Pair) → AreDistinctFields (fields_of pairs) → AreDistinctFields (fields_of (without n pairs))
still-distinct n [] h = tt
still-distinct n (p ∷ ps) h = go (still-distinct n ps h.2) (bytes_eq p.0 n)
  where
    go : AreDistinctFields (fields_of (without n ps)) → (w : Bool) → AreDistinctFields (fields_of (cond w (without n ps) (p ∷ without n ps)))
    go more true = more
    go more false = (still-none p.0 n ps h.0, h.1, more)

last-distinct : (n : List ℕ) (t : Tree) (pairs : List Pair) → IsDistinct t → OfPairs pairs → IsDistinct (last_value n t pairs)
last-distinct n t [] h k = h
last-distinct n t (p ∷ ps) h k = last-distinct n (cond (has_name n p) p.1 t) ps (go (has_name n p)) k.1
  where
    go : (w : Bool) → IsDistinct (cond w p.1 t)
    go true = k.0
    go false = h

merged-fields : (pairs : List Pair) → OfPairs pairs → AreDistinctFields (fields_of (merged pairs))
merged-fields [] h = tt
merged-fields (p ∷ ps) h = (none-without p.0 (merged ps), last-distinct p.0 p.1 ps h.0 h.1, still-distinct p.0 (merged ps) (merged-fields ps h.1))

items : (values : List Value) → AllByRecursion IsDistinctValue values → AreDistinctItems (trees_of (map (λ v. v.node) values))
items [] h = tt
items (v ∷ vs) h = (h.0, items vs h.1)

-- ---- values

keeps-list : {p : Rel Value} → Keeps p IsDistinctValue → Keeps (a_list p) IsDistinctValue
keeps-list {p} h = keeps-mapped {P = BothOf Anything (BothOf (AllByRecursion IsDistinctValue) Anything)} (λ x k. items x.1.0 k.1.0) (keeps-then (keeps-any {p = one (punct "[")}) (keeps-then (keeps-star h) (keeps-any {p = one (punct "]")})))

keeps-field : {p : Rel Value} → Keeps p IsDistinctValue → Keeps (a_field p) OfPair
keeps-field {p} h = keeps-mapped {P = BothOf Anything (BothOf Anything IsDistinctValue)} (λ x k. k.1.1) (keeps-then (keeps-any {p = one any_name}) (keeps-then (keeps-any {p = one (punct ":")}) h))

keeps-object : {p : Rel Value} → Keeps p IsDistinctValue → Keeps (an_object p) IsDistinctValue
keeps-object {p} h = keeps-mapped {P = BothOf Anything (BothOf OfPairs Anything)} (λ x k. merged-fields x.1.0 k.1.0) (keeps-then (keeps-any {p = one (punct "{")}) (keeps-then (keeps-star (keeps-field h)) (keeps-any {p = one (punct "}")})))

keeps-simple : (vars : Bool) → Keeps (a_simple_value Current vars) IsDistinctValue
keeps-simple vars =
    keeps-either word (keeps-either (keeps-mapped {P = Anything} (λ t h. tt) keeps-any)
    (keeps-either (keeps-mapped {P = Anything} (λ x h. tt) keeps-any)
    (keeps-either (keeps-mapped {P = Anything} (λ x h. tt) keeps-any) (keeps-mapped {P = Anything} (λ x h. tt) keeps-any))))
  where
    word : Keeps a_word IsDistinctValue
    word =
        keeps-either (keeps-mapped {P = Anything} (λ t h. tt) keeps-any)
        (keeps-either (keeps-mapped {P = Anything} (λ t h. tt) keeps-any)
        (keeps-either (keeps-mapped {P = Anything} (λ t h. tt) keeps-any) (keeps-mapped {P = Anything} (λ t h. tt) keeps-any)))

pub keeps-value : (vars : Bool) (n : ℕ) → Keeps (value Current vars n) IsDistinctValue
keeps-value vars zero = keeps-simple vars
keeps-value vars (suc n) = keeps-either (keeps-simple vars) (keeps-either (keeps-list (keeps-value vars n)) (keeps-object (keeps-value vars n)))

-- ---- arguments, directives and default values

keeps-argument : (vars : Bool) (n : ℕ) → Keeps (an_argument Current vars n) IsDistinctArgument
keeps-argument vars n = keeps-mapped {P = BothOf Anything (BothOf Anything IsDistinctValue)} (λ x k. k.1.1) (keeps-then (keeps-any {p = one any_name}) (keeps-then (keeps-any {p = one (punct ":")}) (keeps-value vars n)))

pub keeps-arguments : (vars : Bool) (n : ℕ) → Keeps (arguments Current vars n) AreDistinctArguments
keeps-arguments vars n = keeps-between (punct "(") (punct ")") (keeps-plus (keeps-argument vars n))

pub keeps-directive : (vars : Bool) (n : ℕ) → Keeps (a_directive Current vars n) IsDistinctDirective
keeps-directive vars n = keeps-mapped {P = BothOf Anything (BothOf Anything (OfOption AreDistinctArguments))} (λ x k. of-given AreDistinctArguments tt x.1.1 k.1.1) (keeps-then (keeps-any {p = one (punct "@")}) (keeps-then (keeps-any {p = one any_name}) (keeps-opt (keeps-arguments vars n))))

pub keeps-directives : (vars : Bool) (n : ℕ) → Keeps (directives Current vars n) AreDistinctDirectives
keeps-directives vars n = keeps-star (keeps-directive vars n)

pub keeps-default : (n : ℕ) → Keeps (a_default Current n) IsDistinctValue
keeps-default n = keeps-after (punct "=") (keeps-value false n)

pub default-distinct : (default : Option Value) → OfOption IsDistinctValue default → IsDistinctDefault default
default-distinct None h = tt
default-distinct (Some value) h = h
