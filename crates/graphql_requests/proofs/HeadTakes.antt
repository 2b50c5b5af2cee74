-- A selection takes a token at least, and so does one up to its set, which follows only where it may.
use Rattle.std.proofs.Common.{◌≡◌, ℕ, zero, suc, ◌<◌, Bool, true, false, cond, Option, Some, None, List, [], ◌∷◌, length, refl, subst, length-append, ap, arith}
use Rattle.graphql_tokens.specs.declared.pos.Pos.{Pos}
use Rattle.graphql_tokens.specs.declared.pos.Positioned.{Positioned}
use Rattle.graphql_tokens.specs.tokens.Token.{Token}
use Rattle.graphql_syntax.specs.trees.Parts.{Arguments, Directives}
use Rattle.graphql_trees.specs.trees.Request.{Selection}
use Rattle.graphql_reading.specs.grammar.Limits.{Limits}
use Rattle.graphql_reading.specs.grammar.Relations.{Rel}
use Rattle.graphql_requests.specs.grammar.Selections.{fragment_name}
use Rattle.graphql_reading.specs.grammar.Tests.{Test, punct, keyword, any_name}
use Rattle.graphql_grammar.specs.reading.Arguments.{maybe_arguments_at, directives_at}
use Rattle.graphql_requests.specs.reading.SelectionSteps.{Heading, Names, brace_at, maybe_brace_at, name_at, after_colon_at, names_at, given_arguments_at, maybe_condition_at, inline_head_at, after_dots_at, field_head_at, head_at, onto, item_at}
use Rattle.graphql_reading.specs.reading.Outcome.{Outcome, Read, Refused, Reader, ◌>>=◌, one_at, then_at, deep_at}
use Rattle.graphql_requests.specs.reading.Selections.{inline_first, type_condition_at}
use Rattle.graphql_reading.proofs.Theory.{Exact}
use Rattle.graphql_reading.proofs.TokenTests.{punct-within}
use Rattle.graphql_reading.proofs.ReadsExactly.{ReadsExactly}
use Rattle.graphql_reading.proofs.Loop.{Takes}
use Rattle.graphql_grammar.proofs.ArgumentProductions.{exact-maybe_arguments, exact-directives}
use Rattle.graphql_requests.proofs.SelectionProductions.{takes-selection}

pub item-takes : (values s : ℕ) → Takes (item_at values s)
unfolding item_at
item-takes values zero = takes-selection values zero
item-takes values (suc n) = takes-selection values (suc n)

-- ---- what is left is shorter

abbrev Below : {A : Type 0} → ℕ → Outcome A → Type 0
Below n (Read a rest) = length rest < n
Below n (Refused v rest) = Unit {0}

below-then : {A B : Type 0} (n : ℕ) (o : Outcome A) (k : A → List Token → Outcome B) → Below n o → ((a : A) (rest : List Token) → length rest < n → Below n (k a rest)) → Below n (o >>= k)
below-then n (Read a rest) k h next = next a rest h
below-then n (Refused v rest) k h next = tt

below-cond : {A : Type 0} (n : ℕ) (w : Bool) (x y : Outcome A) → Below n x → Below n y → Below n (cond w x y)
below-cond n true x y h k = h
below-cond n false x y h k = k

below-one : (n : ℕ) (test : Test) (ts : List Token) → length ts < n → Below n (one_at test ts)
below-one n test [] lt = tt
below-one n test (t ∷ ts) lt = below-cond n (test t.bare) (Read t ts) _ (omega (arith, lt)) tt

-- the first token is taken
below-first : (test : Test) (ts : List Token) → Below (length ts) (one_at test ts)
below-first test [] = tt
below-first test (t ∷ ts) = below-cond (length (t ∷ ts)) (test t.bare) (Read t ts) _ (omega arith) tt

below-deep : (A : Type 0) (n : ℕ) (test : Test) (ts : List Token) → Below {A = A} n (deep_at test ts)
below-deep A n test [] = tt
below-deep A n test (t ∷ ts) = below-cond n (test t.bare) _ _ tt tt

-- what is read exactly is a beginning
below-exact : {A : Type 0} {p : Limits → Rel A} {b : Limits} {f : Test} {r : Reader A} → ReadsExactly p b f r → (n : ℕ) (ts : List Token) → length ts < n → Below n (r ts)
below-exact {A} {p} {b} {f} {r} exact n ts lt = go (r ts) (exact.at ts)
  where
    go : (o : Outcome A) → Exact p b f ts o → Below n o
    go (Read a rest) h = omega (arith, lt, ap length h.split, length-append h.used rest)
    go (Refused v rest) h = tt

abbrev budget : ℕ → Limits
budget values = record { selections = 0; values = values; types = 0 }

below-arguments : (values n : ℕ) (ts : List Token) → length ts < n → Below n (maybe_arguments_at true values ts)
below-arguments values = below-exact (exact-maybe_arguments true {b = budget values} {f = punct "}"} (punct-within "}" refl))

below-directives : (values n : ℕ) (ts : List Token) → length ts < n → Below n (directives_at true values ts)
below-directives values = below-exact (exact-directives true {b = budget values} {f = punct "}"} (punct-within "}" refl) (punct-within "}" refl))

-- ---- the parts of a selection

below-name : (n : ℕ) (ts : List Token) → length ts < n → Below n (name_at ts)
below-name n ts lt = below-then n (one_at any_name ts) _ (below-one n any_name ts lt) (λ t rest h. h)

below-colon : (n : ℕ) (ts : List Token) → length ts < n → Below n (after_colon_at ts)
below-colon n [] lt = tt
below-colon n (t ∷ ts) lt =
    below-cond n (punct ":" t.bare) _ _
    (below-then n _ _ (below-then n (one_at (punct ":") (t ∷ ts)) _ (below-one n (punct ":") (t ∷ ts) lt) (λ c rest h. below-then n (name_at rest) _ (below-name n rest h) (λ m rest' k. k))) (λ x rest h. h))
    lt

below-names : (ts : List Token) → Below (length ts) (names_at ts)
below-names ts =
    below-then (length ts) _ _
    (below-then (length ts) (name_at ts) _ (below-then (length ts) (one_at any_name ts) _ (below-first any_name ts) (λ t rest h. h)) (λ m rest h. below-then (length ts) (after_colon_at rest) _ (below-colon (length ts) rest h) (λ o rest' k. k)))
    (λ x rest h. h)

below-brace : (n : ℕ) (nests : Bool) (ts : List Token) → length ts < n → Below n (maybe_brace_at nests ts)
below-brace n nests [] lt = tt
below-brace n nests (t ∷ ts) lt =
    below-cond n (punct "{" t.bare) _ _
    (below-then n (brace_at nests (t ∷ ts)) _ (below-then n _ _ (below-cond n nests _ _ (below-one n (punct "{") (t ∷ ts) lt) (below-deep Token n (punct "{") (t ∷ ts))) (λ b rest h. h)) (λ p rest h. h))
    lt

below-field : (values : ℕ) (nests : Bool) (ts : List Token) → Below (length ts) (field_head_at values nests ts)
below-field values nests ts =
    below-then n _ _
    (below-then n (names_at ts) _ (below-names ts) (λ m rest h. below-then n _ _
    (below-then n (given_arguments_at values rest) _ (below-then n _ _ (below-arguments values n rest h) (λ g rest h. h)) (λ g rest h. below-then n _ _
    (below-then n (directives_at true values rest) _ (below-directives values n rest h) (λ d rest h. below-then n (maybe_brace_at nests rest) _ (below-brace n nests rest h) (λ p rest h. h)))
    (λ x rest h. h)))
    (λ x rest h. h)))
    (λ x rest h. h)
  where
    n : ℕ
    n = length ts

below-condition : (n : ℕ) (ts : List Token) → length ts < n → Below n (maybe_condition_at ts)
below-condition n [] lt = tt
below-condition n (t ∷ ts) lt =
    below-cond n (keyword "on" t.bare) _ _
    (below-then n (type_condition_at (t ∷ ts)) _ (below-then n _ _ (below-then n (one_at (keyword "on") (t ∷ ts)) _ (below-one n (keyword "on") (t ∷ ts) lt) (λ w rest h. below-then n (one_at any_name rest) _ (below-one n any_name rest h) (λ m rest' k. k))) (λ x rest h. h)) (λ x rest h. h))
    lt

below-inline : (values n : ℕ) (dots : Pos) (ts : List Token) → length ts < n → Below n (inline_head_at values dots ts)
below-inline values n dots ts lt =
    below-then n _ _
    (below-then n (maybe_condition_at ts) _ (below-condition n ts lt) (λ k rest h. below-then n _ _
    (below-then n (directives_at true values rest) _ (below-directives values n rest h) (λ d rest h. below-then n (one_at (punct "{") rest) _ (below-one n (punct "{") rest h) (λ b rest h. h)))
    (λ x rest h. h)))
    (λ x rest h. h)

below-dots : (values n : ℕ) (nests : Bool) (dots : Pos) (ts : List Token) → length ts < n → Below n (after_dots_at values nests dots ts)
below-dots values n nests dots [] lt = tt
below-dots values n nests dots (t ∷ ts) lt =
    below-cond n (fragment_name t.bare) _ _
    (below-then n _ _
    (below-then n (one_at any_name (t ∷ ts)) _ (below-one n any_name (t ∷ ts) lt) (λ m rest h. below-then n (directives_at true values rest) _ (below-directives values n rest h) (λ d rest h. h)))
    (λ x rest h. h))
    (below-cond n nests _ _ (below-inline values n dots (t ∷ ts) lt) (below-deep _ n inline_first (t ∷ ts)))

below-head : (values : ℕ) (nests : Bool) (ts : List Token) → Below (length ts) (head_at values nests ts)
below-head values nests [] = tt
below-head values nests (t ∷ ts) =
    below-cond (length (t ∷ ts)) (punct "..." t.bare) _ _
    (below-dots values (length (t ∷ ts)) nests t.pos ts (omega arith))
    (below-field values nests (t ∷ ts))

-- ---- a set follows only where one may stand

abbrev Holds : {A : Type 0} → (A → Type 0) → Outcome A → Type 0
Holds P (Read a rest) = P a
Holds P (Refused v rest) = Unit {0}

holds-then : {A B : Type 0} (P : A → Type 0) (Q : B → Type 0) (o : Outcome A) (k : A → List Token → Outcome B) → Holds P o → ((a : A) (rest : List Token) → P a → Holds Q (k a rest)) → Holds Q (o >>= k)
holds-then P Q (Read a rest) k h next = next a rest h
holds-then P Q (Refused v rest) k h next = tt

holds-after : {A B : Type 0} (Q : B → Type 0) (o : Outcome A) (k : A → List Token → Outcome B) → ((a : A) (rest : List Token) → Holds Q (k a rest)) → Holds Q (o >>= k)
holds-after Q (Read a rest) k next = next a rest
holds-after Q (Refused v rest) k next = tt

holds-cond : {A : Type 0} (P : A → Type 0) (w : Bool) (x y : Outcome A) → Holds P x → Holds P y → Holds P (cond w x y)
holds-cond P true x y h k = h
holds-cond P false x y h k = k

holds-deep : {A : Type 0} (P : A → Type 0) (test : Test) (ts : List Token) → Holds P (deep_at test ts)
holds-deep P test [] = tt
holds-deep P test (t ∷ ts) = holds-cond P (test t.bare) _ _ tt tt

abbrev HasNoSet : Option Pos → Type 0
HasNoSet None = Unit {0}
HasNoSet (Some place) = ⊥

no-brace : (ts : List Token) → Holds HasNoSet (maybe_brace_at false ts)
no-brace [] = tt
no-brace (t ∷ ts) = holds-cond HasNoSet (punct "{" t.bare) _ _ (holds-then (λ p. ⊥) HasNoSet (brace_at false (t ∷ ts)) _ (holds-then (λ b. ⊥) (λ p. ⊥) (deep_at (punct "{") (t ∷ ts)) _ (holds-deep (λ b. ⊥) (punct "{") (t ∷ ts)) (λ b rest h. h)) (λ p rest h. h)) tt

no-set : (values : ℕ) (ts : List Token) → Holds (λ (x : Heading). HasNoSet x.1) (head_at values false ts)
no-set values [] = tt
no-set values (t ∷ ts) = holds-cond last (punct "..." t.bare) _ _ (dots ts) field
  where
    last : Heading → Type 0
    last x = HasNoSet x.1

    after-names : Arguments × (Directives × Option Pos) → Type 0
    after-names x = HasNoSet x.1.1

    all : Names × (Arguments × (Directives × Option Pos)) → Type 0
    all x = HasNoSet x.1.1.1

    after-arguments : Directives × Option Pos → Type 0
    after-arguments x = HasNoSet x.1

    dots : (us : List Token) → Holds (λ (x : Heading). HasNoSet x.1) (after_dots_at values false t.pos us)
    dots [] = tt
    dots (u ∷ us) = holds-cond last (fragment_name u.bare) _ _ (holds-after last (then_at (one_at any_name) (directives_at true values) (u ∷ us)) _ (λ x rest. tt)) (holds-deep last inline_first (u ∷ us))

    field : Holds (λ (x : Heading). HasNoSet x.1) (field_head_at values false (t ∷ ts))
    field =
        holds-then all last _ _
        (holds-after all (names_at (t ∷ ts)) _ (λ m rest. holds-then after-names all _ _
        (holds-after after-names (given_arguments_at values rest) _ (λ g rest. holds-then after-arguments after-names _ _
        (holds-after after-arguments (directives_at true values rest) _ (λ d rest. holds-then HasNoSet after-arguments (maybe_brace_at false rest) _ (no-brace rest) (λ p rest h. h)))
        (λ x rest h. h)))
        (λ x rest h. h)))
        (λ x rest h. h)

-- so a set that was found may be entered
pub head-nests : (values : ℕ) (nests : Bool) (front items : List (Positioned Selection)) (place : Pos) (ts rest : List Token) → onto front (head_at values nests) ts ≡ Read (items, Some place) rest → nests ≡ true
head-nests values true front items place ts rest e = refl
head-nests values false front items place ts rest e = absurd (subst (Holds found) e (holds-then (λ (x : Heading). HasNoSet x.1) found (head_at values false ts) _ (no-set values ts) (λ x rest h. h)))
  where
    found : List (Positioned Selection) × Option Pos → Type 0
    found x = HasNoSet x.1

-- a selection that is put after others takes as much
pub onto-takes : (values : ℕ) (nests : Bool) (front : List (Positioned Selection)) → Takes (onto front (head_at values nests))
onto-takes values nests front ts x rest e = subst (Below (length ts)) e (below-then (length ts) (head_at values nests ts) _ (below-head values nests ts) (λ y rest h. h))
