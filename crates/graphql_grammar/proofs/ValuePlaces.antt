-- A value stands at its first token.
use Rattle.std.proofs.Common.{◌≡◌, ℕ, zero, suc, Bool, true, false, cond, Option, Some, None, List, [], ◌∷◌, refl}
use Rattle.graphql_tokens.specs.tokens.Token.{Bare, Token}
use Rattle.graphql_reading.specs.grammar.Fronts.{syntax, limit}
use Rattle.graphql_reading.specs.grammar.Places.{at}
use Rattle.graphql_reading.specs.grammar.Tests.{Test, punct, keyword, any_name, name_but, any_number, any_string, any_block}
use Rattle.graphql_grammar.specs.grammar.Values.{Value, true_of, false_of, null_of, enumeration_of, number_of, string_of, dollar, variable_of, list_of, object_of}
use Rattle.graphql_grammar.specs.reading.OpenValues.{node_at}
use Rattle.graphql_reading.specs.reading.Outcome.{Outcome, Read, Refused, Reader, ◌>>=◌, one_at, meant, meaning_at, then_at, mapped_at, choose_at, many_at, deep_at}
use Rattle.graphql_grammar.specs.reading.Values.{word_at, number_at, string_at, block_at, string_text, block_text, variable_at, simple_at, simple_first, value_first, list_at, field_at, object_at, by_first, value_at}

abbrev StandsAt : Token → Outcome Value → Type 0
StandsAt t (Read v rest) = v.pos ≡ t.pos
StandsAt t (Refused v rest) = Unit {0}

-- what the reader reads stands at its first token
record Stands (r : Reader Value) : Type 0 where
  by : (t : Token) (ts : List Token) → StandsAt t (r (t ∷ ts))

stands-one : (f : Token → Value) (test : Test) → ((t : Token) → (f t).pos ≡ t.pos) → Stands (mapped_at f (one_at test))
stands-one f test h = record { by = λ t ts. go t ts (test t.bare) }
  where
    go : (t : Token) (ts : List Token) (w : Bool) → StandsAt t (cond w (Read t ts) (Refused syntax (t ∷ ts)) >>= λ x rest. Read (f x) rest)
    go t ts true = h t
    go t ts false = tt

stands-then : {A : Type 0} (f : Token × A → Value) (test : Test) (s : Reader A) → ((x : Token × A) → (f x).pos ≡ x.0.pos) → Stands (mapped_at f (then_at (one_at test) s))
stands-then {A} f test s h = record { by = λ t ts. go t ts (test t.bare) }
  where
    after : (t : Token) (o : Outcome A) → StandsAt t ((o >>= λ b rest. Read (t, b) rest) >>= λ x rest. Read (f x) rest)
    after t (Read b rest) = h (t, b)
    after t (Refused v rest) = tt

    go : (t : Token) (ts : List Token) (w : Bool) → StandsAt t ((cond w (Read t ts) (Refused syntax (t ∷ ts)) >>= λ a rest. s rest >>= λ b rest'. Read (a, b) rest') >>= λ x rest. Read (f x) rest)
    go t ts true = after t (s ts)
    go t ts false = tt

stands-meaning : {A : Type 0} (f : Token × A → Value) (test : Test) (value : Bare → Option A) → ((x : Token × A) → (f x).pos ≡ x.0.pos) → Stands (mapped_at f (meaning_at test value))
stands-meaning {A} f test value h = record { by = λ t ts. go t ts (test t.bare) (value t.bare) }
  where
    go : (t : Token) (ts : List Token) (w : Bool) (o : Option A) → StandsAt t (cond w (meant t ts o) (Refused syntax (t ∷ ts)) >>= λ x rest. Read (f x) rest)
    go t ts true (Some a) = h (t, a)
    go t ts true None = tt
    go t ts false o = tt

stands-choose : (test : Test) (r s : Reader Value) → Stands r → Stands s → Stands (choose_at test r s)
stands-choose test r s h k = record { by = λ t ts. go t ts (test t.bare) }
  where
    go : (t : Token) (ts : List Token) (w : Bool) → StandsAt t (cond w (r (t ∷ ts)) (s (t ∷ ts)))
    go t ts true = h.by t ts
    go t ts false = k.by t ts

stands-deep : (test : Test) → Stands (deep_at test)
stands-deep test = record { by = λ t ts. go t ts (test t.bare) }
  where
    go : (t : Token) (ts : List Token) (w : Bool) → StandsAt t (cond w (Refused limit (t ∷ ts)) (Refused syntax (t ∷ ts)))
    go t ts true = tt
    go t ts false = tt

stands-word : Stands word_at
stands-word =
    stands-choose (keyword "true") _ _ (stands-one true_of (keyword "true") (λ t. refl))
    (stands-choose (keyword "false") _ _ (stands-one false_of (keyword "false") (λ t. refl))
    (stands-choose (keyword "null") _ _ (stands-one null_of (keyword "null") (λ t. refl))
    (stands-one enumeration_of (name_but ("true" ∷ "false" ∷ "null" ∷ [])) (λ t. refl))))

stands-simple : (vars : Bool) → Stands (simple_at vars)
stands-simple vars =
    stands-choose any_name word_at _ stands-word
    (stands-choose any_number number_at _ (stands-one number_of any_number (λ t. refl))
    (stands-choose any_string string_at _ (stands-meaning string_of any_string string_text (λ x. refl))
    (stands-choose any_block block_at (variable_at vars) (stands-meaning string_of any_block block_text (λ x. refl))
    (stands-then variable_of (dollar vars) (one_at any_name) (λ x. refl)))))

stands-list : (vars : Bool) (value : Reader Value) → Stands (list_at vars value)
stands-list vars value = stands-then list_of (punct "[") (then_at (many_at (value_first vars) value) (one_at (punct "]"))) (λ x. refl)

stands-object : (value : Reader Value) → Stands (object_at value)
stands-object value = stands-then object_of (punct "{") (then_at (many_at any_name (field_at value)) (one_at (punct "}"))) (λ x. refl)

stands-first : (vars : Bool) (l o : Reader Value) → Stands l → Stands o → Stands (by_first vars l o)
stands-first vars l o h k = stands-choose (simple_first vars) (simple_at vars) (choose_at (punct "[") l o) (stands-simple vars) (stands-choose (punct "[") l o h k)

stands-value : (vars : Bool) (b : ℕ) (t : Token) (ts : List Token) → StandsAt t (value_at vars b (t ∷ ts))
unfolding value_at
stands-value vars zero = (stands-first vars (deep_at (punct "[")) (deep_at (punct "{")) (stands-deep (punct "[")) (stands-deep (punct "{"))).by
stands-value vars (suc b) = (stands-first vars (list_at vars (value_at vars b)) (object_at (value_at vars b)) (stands-list vars (value_at vars b)) (stands-object (value_at vars b))).by

-- so its place is known before it is read
pub value-placed : (vars : Bool) (b : ℕ) (t : Token) (ts : List Token) → value_at vars b (t ∷ ts) ≡ (node_at (value_at vars b) (t ∷ ts) >>= λ n rest. Read (at t n) rest)
value-placed vars b t ts = go (value_at vars b (t ∷ ts)) (stands-value vars b t ts)
  where
    go : (o : Outcome Value) → StandsAt t o → o ≡ ((o >>= λ v rest. Read v.node rest) >>= λ n rest. Read (at t n) rest)
    go (Read v rest) e = λ i. Read (record { pos = e i; node = v.node }) rest
    go (Refused v rest) e = refl
