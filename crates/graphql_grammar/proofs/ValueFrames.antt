-- What each step of the loop over frames does to what is read.
use Rattle.std.proofs.Common.{◌≡◌, ℕ, zero, suc, pred, ◌+◌, ◌<◌, ◌≤◌, Bool, true, false, ◌||◌, cond, nat_lt, Option, Some, None, List, [], ◌∷◌, ◌++◌, length, map, refl, sym, ap, ap₂, ◌∙◌, subst, length-append, arith}
use Rattle.std.proofs.lemmas.Bool.Decides.{nat_tests}
use Rattle.graphql_tokens.specs.tokens.Token.{Bare, Token}
use Rattle.graphql_syntax.specs.trees.ValueTree.{Tree}
use Rattle.graphql_reading.specs.grammar.Fronts.{Verdict, syntax, limit}
use Rattle.graphql_reading.specs.grammar.Tests.{Test, punct, any_name, any_number, any_string, any_block}
use Rattle.graphql_grammar.specs.grammar.Values.{Value, dollar, list_of, object_field_of, object_of}
use Rattle.graphql_grammar.specs.reading.OpenValues.{Field, node_of, node_at, Opened, in_list, in_object, Waiting, list_waits, object_waits, list_tree, object_tree, close_list, close_object, list_rest, object_rest, open_rest, filled, resume, key_at, enters_at, enter_at}
use Rattle.graphql_reading.specs.reading.Outcome.{Outcome, Read, Refused, Reader, ◌>>=◌, one_at, take_at, mapped_at, deep_at, repeat_at, many_at, with_front}
use Rattle.graphql_grammar.specs.reading.Values.{simple_first, value_first, simple_at, list_at, field_at, object_at, by_first, value_at}
use Rattle.graphql_reading.proofs.Loop.{Takes, rest-of, rest-more, rest-stops, many-nothing}
use Rattle.graphql_reading.proofs.TokenTests.{punctuator, punct-is}
use Prim.Native.String.{String}
use Rattle.graphql_grammar.proofs.ValueProductions.{takes-value, takes-field}

-- ---- any number, each without its place

abbrev each : {A B : Type 0} → (A → B) → Outcome (List A) → Outcome (List B)
each f o = o >>= λ xs rest. Read (map f xs) rest

abbrev pairs : {A : Type 0} → A → Outcome (List A) → Outcome (A × List A)
pairs a o = o >>= λ others rest. Read (a, others) rest

abbrev conses : {A : Type 0} → Outcome (A × List A) → Outcome (List A)
conses o = o >>= λ x rest. Read (x.0 ∷ x.1) rest

repeat-each : {A B : Type 0} (f : A → B) (first : Test) (r : Reader A) (n : ℕ) (ts : List Token) → repeat_at n first (mapped_at f r) ts ≡ each f (repeat_at n first r ts)
repeat-each f first r zero ts = refl
repeat-each f first r (suc n) [] = refl
repeat-each {A} {B} f first r (suc n) (t ∷ ts) = go (first t.bare) (r (t ∷ ts)) (λ rest. repeat-each f first r n rest)
  where
    others : (a : A) (o : Outcome (List A)) → conses (pairs (f a) (each f o)) ≡ each f (conses (pairs a o))
    others a (Read xs rest) = refl
    others a (Refused v rest) = refl

    one : (o : Outcome A) → ((rest : List Token) → repeat_at n first (mapped_at f r) rest ≡ each f (repeat_at n first r rest)) → conses ((o >>= λ a rest. Read (f a) rest) >>= λ b rest. pairs b (repeat_at n first (mapped_at f r) rest)) ≡ each f (conses (o >>= λ a rest. pairs a (repeat_at n first r rest)))
    one (Read a rest) same = ap (λ (o : Outcome (List B)). conses (pairs (f a) o)) (same rest) ∙ others a (repeat_at n first r rest)
    one (Refused v rest) same = refl

    go : (w : Bool) (o : Outcome A) → ((rest : List Token) → repeat_at n first (mapped_at f r) rest ≡ each f (repeat_at n first r rest)) → cond w (conses ((o >>= λ a rest. Read (f a) rest) >>= λ b rest. pairs b (repeat_at n first (mapped_at f r) rest))) (Read [] (t ∷ ts)) ≡ each f (cond w (conses (o >>= λ a rest. pairs a (repeat_at n first r rest))) (Read [] (t ∷ ts)))
    go true o same = one o same
    go false o same = refl

many-each : {A B : Type 0} (f : A → B) (first : Test) (r : Reader A) (ts : List Token) → many_at first (mapped_at f r) ts ≡ each f (many_at first r ts)
unfolding many_at
many-each f first r ts = repeat-each f first r (suc (length ts)) ts

-- ---- tests

or-false : (a b : Bool) → (a || b) ≡ false → (a ≡ false) × (b ≡ false)
or-false true b e = absurd cc
or-false false b e = (refl, e)

-- what a test is of a punctuator
at-punct : {B : Type 0} (f : Bare → B) (word : String) (t : Bare) (b : B) → punct word t ≡ true → f (punctuator word) ≡ b → f t ≡ b
at-punct f word t b e h = ap f (punct-is word t e) ∙ h

-- ---- a value by its first token

by-list : (vars : Bool) (l o : Reader Value) (t : Token) (ts : List Token) → punct "[" t.bare ≡ true → by_first vars l o (t ∷ ts) ≡ l (t ∷ ts)
by-list vars l o t ts e =
    let s : simple_first vars t.bare ≡ false = at-punct (simple_first vars) "[" t.bare false e refl in
    rw (s, e) refl

by-object : (vars : Bool) (l o : Reader Value) (t : Token) (ts : List Token) → punct "{" t.bare ≡ true → by_first vars l o (t ∷ ts) ≡ o (t ∷ ts)
by-object vars l o t ts e =
    let s : simple_first vars t.bare ≡ false = at-punct (simple_first vars) "{" t.bare false e refl in
    let not-list : punct "[" t.bare ≡ false = at-punct (punct "[") "{" t.bare false e refl in
    rw (s, not-list) refl

not-simple : (vars : Bool) (t : Bare) → simple_first vars t ≡ false → (any_name t ≡ false) × (any_number t ≡ false) × (any_string t ≡ false) × (any_block t ≡ false) × (dollar vars t ≡ false)
not-simple vars t e =
    let d = or-false (any_name t || any_number t || any_string t || any_block t) (dollar vars t) e in
    let b = or-false (any_name t || any_number t || any_string t) (any_block t) d.0 in
    let s = or-false (any_name t || any_number t) (any_string t) b.0 in
    let n = or-false (any_name t) (any_number t) s.0 in
    (n.0, n.1, s.1, b.1, d.1)

simple-none : (vars : Bool) (t : Token) (ts : List Token) → simple_first vars t.bare ≡ false → simple_at vars (t ∷ ts) ≡ Refused syntax (t ∷ ts)
simple-none vars t ts e = let n = not-simple vars t.bare e in rw (n.0, n.1, n.2, n.3, n.4) refl

by-simple : (vars : Bool) (l o : Reader Value) (t : Token) (ts : List Token) → punct "[" t.bare ≡ false → o (t ∷ ts) ≡ Refused syntax (t ∷ ts) → by_first vars l o (t ∷ ts) ≡ simple_at vars (t ∷ ts)
by-simple vars l o t ts e refuses = go (simple_first vars t.bare) refl
  where
    go : (w : Bool) → simple_first vars t.bare ≡ w → cond w (simple_at vars (t ∷ ts)) (cond (punct "[" t.bare) (l (t ∷ ts)) (o (t ∷ ts))) ≡ simple_at vars (t ∷ ts)
    go true h = refl
    go false h = rw e (refuses ∙ sym (simple-none vars t ts h))

value-simple : (vars : Bool) (b : ℕ) (t : Token) (ts : List Token) → punct "[" t.bare ≡ false → punct "{" t.bare ≡ false → value_at vars b (t ∷ ts) ≡ simple_at vars (t ∷ ts)
unfolding value_at
value-simple vars zero t ts e k = by-simple vars (deep_at (punct "[")) (deep_at (punct "{")) t ts e (rw k refl)
value-simple vars (suc b) t ts e k = by-simple vars (list_at vars (value_at vars b)) (object_at (value_at vars b)) t ts e (rw k refl)

value-deep-list : (vars : Bool) (t : Token) (ts : List Token) → punct "[" t.bare ≡ true → value_at vars 0 (t ∷ ts) ≡ Refused limit (t ∷ ts)
unfolding value_at
value-deep-list vars t ts e = by-list vars (deep_at (punct "[")) (deep_at (punct "{")) t ts e ∙ rw e refl

value-deep-object : (vars : Bool) (t : Token) (ts : List Token) → punct "{" t.bare ≡ true → value_at vars 0 (t ∷ ts) ≡ Refused limit (t ∷ ts)
unfolding value_at
value-deep-object vars t ts e = by-object vars (deep_at (punct "[")) (deep_at (punct "{")) t ts e ∙ rw e refl

value-nothing : (vars : Bool) (b : ℕ) → value_at vars b [] ≡ Refused syntax []
unfolding value_at
value-nothing vars zero = refl
value-nothing vars (suc b) = refl

value-none : (vars : Bool) (b : ℕ) (t : Token) (ts : List Token) → value_first vars t.bare ≡ false → value_at vars b (t ∷ ts) ≡ Refused syntax (t ∷ ts)
value-none vars b t ts e =
    let o = or-false (simple_first vars t.bare || punct "[" t.bare) (punct "{" t.bare) e in
    let l = or-false (simple_first vars t.bare) (punct "[" t.bare) o.0 in
    value-simple vars b t ts l.1 o.1 ∙ simple-none vars t ts l.0

-- ---- a list or an object from its first token on

abbrev stripped : Outcome Value → Outcome Tree
stripped o = o >>= λ v rest. Read (node_of v) rest

abbrev and-close : {A : Type 0} → List A → Outcome Token → Outcome (List A × Token)
and-close items o = o >>= λ c rest. Read (items, c) rest

abbrev after-open : {A : Type 0} → Token → Outcome (List A × Token) → Outcome (Token × (List A × Token))
after-open t o = o >>= λ b rest. Read (t, b) rest

list-reads : (vars : Bool) (b : ℕ) (t : Token) (ts : List Token) → punct "[" t.bare ≡ true → node_at (list_at vars (value_at vars b)) (t ∷ ts) ≡ list_rest vars b [] ts
unfolding list_rest
list-reads vars b t ts e =
    rw e (go (many_at (value_first vars) (value_at vars b) ts)
    ∙ ap (λ (o : Outcome (List Tree)). with_front [] o >>= close_list) (sym (many-each node_of (value_first vars) (value_at vars b) ts)))
  where
    closing : (items : List Value) (o : Outcome Token) → stripped (after-open t (and-close items o) >>= λ x rest. Read (list_of x) rest) ≡ (o >>= λ _ rest. Read (list_tree (map node_of items)) rest)
    closing items (Read c rest) = refl
    closing items (Refused v rest) = refl

    go : (o : Outcome (List Value)) → stripped (after-open t (o >>= λ items rest. and-close items (one_at (punct "]") rest)) >>= λ x rest. Read (list_of x) rest) ≡ (with_front [] (each node_of o) >>= close_list)
    go (Read items rest) = closing items (one_at (punct "]") rest)
    go (Refused v rest) = refl

object-reads : (vars : Bool) (b : ℕ) (t : Token) (ts : List Token) → punct "{" t.bare ≡ true → node_at (object_at (value_at vars b)) (t ∷ ts) ≡ object_rest vars b [] ts
unfolding object_rest
object-reads vars b t ts e = rw e (go (many_at any_name (field_at (value_at vars b)) ts))
  where
    closing : (fields : List Field) (o : Outcome Token) → stripped (after-open t (and-close fields o) >>= λ x rest. Read (object_of x) rest) ≡ (o >>= λ _ rest. Read (object_tree fields) rest)
    closing fields (Read c rest) = refl
    closing fields (Refused v rest) = refl

    go : (o : Outcome (List Field)) → stripped (after-open t (o >>= λ fields rest. and-close fields (one_at (punct "}") rest)) >>= λ x rest. Read (object_of x) rest) ≡ (with_front [] o >>= close_object)
    go (Read fields rest) = closing fields (one_at (punct "}") rest)
    go (Refused v rest) = refl

value-list : (vars : Bool) (b : ℕ) (t : Token) (ts : List Token) → punct "[" t.bare ≡ true → node_at (value_at vars (suc b)) (t ∷ ts) ≡ list_rest vars b [] ts
unfolding value_at
value-list vars b t ts e = ap stripped (by-list vars (list_at vars (value_at vars b)) (object_at (value_at vars b)) t ts e) ∙ list-reads vars b t ts e

value-object : (vars : Bool) (b : ℕ) (t : Token) (ts : List Token) → punct "{" t.bare ≡ true → node_at (value_at vars (suc b)) (t ∷ ts) ≡ object_rest vars b [] ts
unfolding value_at
value-object vars b t ts e = ap stripped (by-object vars (list_at vars (value_at vars b)) (object_at (value_at vars b)) t ts e) ∙ object-reads vars b t ts e

-- ---- how a value begins

-- what is made of what begins here, or of what stands alone
abbrev pub begun : Bool → ℕ → Option Opened → List Token → Outcome Tree
begun vars b None rest = node_at (simple_at vars) rest
begun vars b (Some o) rest = open_rest vars (pred b) o rest

some-left : (b : ℕ) → nat_lt 0 (suc b) ≡ true
some-left b = grind (arith, nat_tests)

pub value-law : (vars : Bool) (b : ℕ) (ts : List Token) → node_at (value_at vars b) ts ≡ (enter_at b ts >>= begun vars b)
value-law vars b [] = ap stripped (value-nothing vars b)
value-law vars b (t ∷ ts) = go (punct "[" t.bare) (punct "{" t.bare) refl refl b
  where
    go : (l o : Bool) → punct "[" t.bare ≡ l → punct "{" t.bare ≡ o → (b : ℕ) → node_at (value_at vars b) (t ∷ ts) ≡ (enter_at b (t ∷ ts) >>= begun vars b)
    go true o e k zero = ap stripped (value-deep-list vars t ts e) ∙ rw e refl
    go true o e k (suc b) = value-list vars b t ts e ∙ rw (e, some-left b) refl
    go false true e k zero = ap stripped (value-deep-object vars t ts k) ∙ rw (e, k) refl
    go false true e k (suc b) = value-object vars b t ts k ∙ rw (e, k, some-left b) refl
    go false false e k b = ap stripped (value-simple vars b t ts e k) ∙ rw (e, k) refl

-- what begins here had a level left, and a token is read of it
abbrev EntersWithin : ℕ → ℕ → Outcome (Option Opened) → Type 0
EntersWithin b n (Read None rest) = length rest ≤ n
EntersWithin b n (Read (Some o) rest) = (0 < b) × (length rest < n)
EntersWithin b n (Refused v rest) = Unit {0}

enters-within : (b : ℕ) (ts : List Token) → EntersWithin b (length ts) (enter_at b ts)
enters-within b [] = tt
enters-within b (t ∷ ts) = go (punct "[" t.bare) (punct "{" t.bare) refl refl
  where
    size : ℕ
    size = length (t ∷ ts)

    enter : (test : Test) (o : Opened) → test t.bare ≡ true → (w : Bool) → nat_lt 0 b ≡ w → EntersWithin b size (cond w (one_at test (t ∷ ts) >>= λ _ rest. Read (Some o) rest) (Refused limit (t ∷ ts)))
    enter test o e true h = let room : 0 < b = grind (arith, nat_tests) in rw e (room, omega arith)
    enter test o e false h = tt

    go : (l m : Bool) → punct "[" t.bare ≡ l → punct "{" t.bare ≡ m → EntersWithin b size (cond l (enters_at (punct "[") b (in_list []) (t ∷ ts)) (cond m (enters_at (punct "{") b (in_object []) (t ∷ ts)) (Read None (t ∷ ts))))
    go true m e k = enter (punct "[") (in_list []) e (nat_lt 0 b) refl
    go false true e k = enter (punct "{") (in_object []) k (nat_lt 0 b) refl
    go false false e k = omega arith

pub entered : (b : ℕ) (ts : List Token) (o : Opened) (rest : List Token) → enter_at b ts ≡ Read (Some o) rest → (0 < b) × (length rest < length ts)
entered b ts o rest e = subst (EntersWithin b (length ts)) e (enters-within b ts)

-- ---- inside a list or an object

list-closes : (vars : Bool) (b : ℕ) (front : List Tree) (t : Token) (ts : List Token) → punct "]" t.bare ≡ true → list_rest vars b front (t ∷ ts) ≡ Read (list_tree front) ts
unfolding list_rest
list-closes vars b front t ts e =
    let none : value_first vars t.bare ≡ false = at-punct (value_first vars) "]" t.bare false e refl in
    rest-stops (value_first vars) (node_at (value_at vars b)) close_list front t ts none ∙ rw e refl

pub takes-node : (vars : Bool) (b : ℕ) → Takes (node_at (value_at vars b))
takes-node vars b ts a rest e = go (value_at vars b ts) refl e
  where
    go : (o : Outcome Value) → value_at vars b ts ≡ o → stripped o ≡ Read a rest → length rest < length ts
    go (Read v rest') is e = let same : rest' ≡ rest = cc in subst (λ (l : List Token). length l < length ts) same (takes-value vars b ts v rest' is)
    go (Refused v rest') is e = absurd cc

list-wants : (vars : Bool) (b : ℕ) (front : List Tree) (t : Token) (ts : List Token) → punct "]" t.bare ≡ false → list_rest vars b front (t ∷ ts) ≡ (node_at (value_at vars b) (t ∷ ts) >>= λ v rest. list_rest vars b (front ++ v ∷ []) rest)
unfolding list_rest
list-wants vars b front t ts e = go (value_first vars t.bare) refl
  where
    go : (w : Bool) → value_first vars t.bare ≡ w → rest-of (value_first vars) (node_at (value_at vars b)) close_list front (t ∷ ts) ≡ (node_at (value_at vars b) (t ∷ ts) >>= λ v rest. rest-of (value_first vars) (node_at (value_at vars b)) close_list (front ++ v ∷ []) rest)
    go true h = rest-more (value_first vars) (node_at (value_at vars b)) close_list (takes-node vars b) front t ts h
    go false h = rest-stops (value_first vars) (node_at (value_at vars b)) close_list front t ts h ∙ rw (e, value-none vars b t ts h) refl

list-nothing : (vars : Bool) (b : ℕ) (front : List Tree) → list_rest vars b front [] ≡ Refused syntax []
unfolding list_rest
list-nothing vars b front = rw many-nothing refl

object-closes : (vars : Bool) (b : ℕ) (front : List Field) (t : Token) (ts : List Token) → punct "}" t.bare ≡ true → object_rest vars b front (t ∷ ts) ≡ Read (object_tree front) ts
unfolding object_rest
object-closes vars b front t ts e =
    let none : any_name t.bare ≡ false = at-punct any_name "}" t.bare false e refl in
    rest-stops any_name (field_at (value_at vars b)) close_object front t ts none ∙ rw e refl

object-nothing : (vars : Bool) (b : ℕ) (front : List Field) → object_rest vars b front [] ≡ Refused syntax []
unfolding object_rest
object-nothing vars b front = rw many-nothing refl

abbrev colon-value : Token → Outcome Value → Outcome (Token × Value)
colon-value c o = o >>= λ v rest. Read (c, v) rest

abbrev name-value : Token → Outcome (Token × Value) → Outcome (Token × (Token × Value))
name-value n o = o >>= λ x rest. Read (n, x) rest

abbrev a-field : Outcome (Token × (Token × Value)) → Outcome Field
a-field o = o >>= λ x rest. Read (object_field_of x) rest

-- a name, a colon, and the value of that name
field-flat : (value : Reader Value) (k : Field → List Token → Outcome Tree) (ts : List Token) → (field_at value ts >>= k) ≡ (one_at any_name ts >>= λ n rest. one_at (punct ":") rest >>= λ c rest'. node_at value rest' >>= λ v rest''. k (n.bare.spelling, v) rest'')
field-flat value k ts = at-name (one_at any_name ts)
  where
    at-value : (n c : Token) (o : Outcome Value) → (a-field (name-value n (colon-value c o)) >>= k) ≡ (stripped o >>= λ v rest. k (n.bare.spelling, v) rest)
    at-value n c (Read v rest) = refl
    at-value n c (Refused w rest) = refl

    at-colon : (n : Token) (o : Outcome Token) → (a-field (name-value n (o >>= λ c rest. colon-value c (value rest))) >>= k) ≡ (o >>= λ c rest. node_at value rest >>= λ v rest'. k (n.bare.spelling, v) rest')
    at-colon n (Read c rest) = at-value n c (value rest)
    at-colon n (Refused w rest) = refl

    at-name : (o : Outcome Token) → (a-field (o >>= λ n rest. name-value n (one_at (punct ":") rest >>= λ c rest'. colon-value c (value rest'))) >>= k) ≡ (o >>= λ n rest. one_at (punct ":") rest >>= λ c rest'. node_at value rest' >>= λ v rest''. k (n.bare.spelling, v) rest'')
    at-name (Read n rest) = at-colon n (one_at (punct ":") rest)
    at-name (Refused w rest) = refl

object-wants : (vars : Bool) (b : ℕ) (front : List Field) (t : Token) (ts : List Token) → punct "}" t.bare ≡ false → object_rest vars b front (t ∷ ts) ≡ (one_at any_name (t ∷ ts) >>= λ n rest. one_at (punct ":") rest >>= λ c rest'. node_at (value_at vars b) rest' >>= λ v rest''. object_rest vars b (front ++ (n.bare.spelling, v) ∷ []) rest'')
unfolding object_rest
object-wants vars b front t ts e = go (any_name t.bare) refl
  where
    after : List Field → List Token → Outcome Tree
    after = rest-of any_name (field_at (value_at vars b)) close_object

    go : (w : Bool) → any_name t.bare ≡ w → after front (t ∷ ts) ≡ (one_at any_name (t ∷ ts) >>= λ n rest. one_at (punct ":") rest >>= λ c rest'. node_at (value_at vars b) rest' >>= λ v rest''. after (front ++ (n.bare.spelling, v) ∷ []) rest'')
    go true h = rest-more any_name (field_at (value_at vars b)) close_object (takes-field vars b) front t ts h ∙ field-flat (value_at vars b) (λ a rest. after (front ++ a ∷ []) rest) (t ∷ ts)
    go false h = rest-stops any_name (field_at (value_at vars b)) close_object front t ts h ∙ rw (e, h) refl

-- ---- the end of a list or an object, or its next value

abbrev pub after-item : Bool → ℕ → List Tree → Bool → List Token → Outcome Tree
after-item vars b front true rest = Read (list_tree front) rest
after-item vars b front false rest = filled vars b (list_waits front) (node_at (value_at vars b) rest)

pub list-law : (vars : Bool) (b : ℕ) (front : List Tree) (ts : List Token) → list_rest vars b front ts ≡ (take_at (punct "]") ts >>= after-item vars b front)
list-law vars b front [] = list-nothing vars b front
list-law vars b front (t ∷ ts) = go (punct "]" t.bare) refl
  where
    go : (w : Bool) → punct "]" t.bare ≡ w → list_rest vars b front (t ∷ ts) ≡ (take_at (punct "]") (t ∷ ts) >>= after-item vars b front)
    go true e = list-closes vars b front t ts e ∙ rw e refl
    go false e = list-wants vars b front t ts e ∙ rw e refl

abbrev pub after-key : Bool → ℕ → List Field → Option (List ℕ) → List Token → Outcome Tree
after-key vars b front None rest = Read (object_tree front) rest
after-key vars b front (Some name) rest = filled vars b (object_waits front name) (node_at (value_at vars b) rest)

abbrev pub with-colon : Token → Outcome Token → Outcome (Token × Token)
with-colon n o = o >>= λ c rest. Read (n, c) rest

abbrev pub keys : Outcome (Token × Token) → Outcome (Option (List ℕ))
keys o = o >>= λ x rest. Read (Some x.0.bare.spelling) rest

pub object-law : (vars : Bool) (b : ℕ) (front : List Field) (ts : List Token) → object_rest vars b front ts ≡ (key_at ts >>= after-key vars b front)
object-law vars b front [] = object-nothing vars b front
object-law vars b front (t ∷ ts) = go (punct "}" t.bare) refl
  where
    at-colon : (n : Token) (o : Outcome Token) → (o >>= λ c rest. filled vars b (object_waits front n.bare.spelling) (node_at (value_at vars b) rest)) ≡ (keys (with-colon n o) >>= after-key vars b front)
    at-colon n (Read c rest) = refl
    at-colon n (Refused w rest) = refl

    at-name : (o : Outcome Token) → (o >>= λ n rest. one_at (punct ":") rest >>= λ c rest'. filled vars b (object_waits front n.bare.spelling) (node_at (value_at vars b) rest')) ≡ (keys (o >>= λ n rest. with-colon n (one_at (punct ":") rest)) >>= after-key vars b front)
    at-name (Read n rest) = at-colon n (one_at (punct ":") rest)
    at-name (Refused w rest) = refl

    go : (w : Bool) → punct "}" t.bare ≡ w → object_rest vars b front (t ∷ ts) ≡ (key_at (t ∷ ts) >>= after-key vars b front)
    go true e = object-closes vars b front t ts e ∙ rw e refl
    go false e = object-wants vars b front t ts e ∙ at-name (one_at any_name (t ∷ ts)) ∙ rw e refl

abbrev TakesWithin : ℕ → Outcome Bool → Type 0
TakesWithin n (Read true rest) = length rest < n
TakesWithin n (Read false rest) = length rest ≤ n
TakesWithin n (Refused v rest) = Unit {0}

takes-within : (test : Test) (ts : List Token) → TakesWithin (length ts) (take_at test ts)
takes-within test [] = tt
takes-within test (t ∷ ts) = go (test t.bare)
  where
    go : (w : Bool) → TakesWithin (length (t ∷ ts)) (cond w (Read true ts) (Read false (t ∷ ts)))
    go true = omega arith
    go false = omega arith

pub taken : (test : Test) (ts rest : List Token) → take_at test ts ≡ Read true rest → length rest < length ts
taken test ts rest e = subst (TakesWithin (length ts)) e (takes-within test ts)

pub not-taken : (test : Test) (ts rest : List Token) → take_at test ts ≡ Read false rest → length rest ≤ length ts
not-taken test ts rest e = subst (TakesWithin (length ts)) e (takes-within test ts)

abbrev IsSubset : {A : Type 0} → ℕ → Outcome A → Type 0
IsSubset n (Read a rest) = length rest < n
IsSubset n (Refused v rest) = Unit {0}

key-within : (ts : List Token) → IsSubset (length ts) (key_at ts)
key-within [] = tt
key-within (t ∷ ts) = go (punct "}" t.bare) (any_name t.bare) refl refl
  where
    size : ℕ
    size = length (t ∷ ts)

    by-colon : (w : Bool) (c : Token) (ts : List Token) → length (c ∷ ts) < size → IsSubset size (keys (with-colon t (cond w (Read c ts) (Refused syntax (c ∷ ts)))))
    by-colon true c ts less = omega (arith, less)
    by-colon false c ts less = tt

    colon : (ts : List Token) → length ts < size → IsSubset size (keys (with-colon t (one_at (punct ":") ts)))
    colon [] less = tt
    colon (c ∷ ts) less = by-colon (punct ":" c.bare) c ts less

    go : (w v : Bool) → punct "}" t.bare ≡ w → any_name t.bare ≡ v → IsSubset size (key_at (t ∷ ts))
    go true v e k = rw e (omega arith)
    go false true e k = rw (e, k) (colon ts (omega arith))
    go false false e k = rw (e, k) tt

pub takes-key : Takes key_at
takes-key ts key rest e = subst (IsSubset (length ts)) e (key-within ts)

-- ---- what waits outside

pub resume-refused : (vars : Bool) (b : ℕ) (fs : List Waiting) (v : Verdict) (rest : List Token) → resume vars b fs (Refused v rest) ≡ Refused v rest
resume-refused vars b [] v rest = refl
resume-refused vars b (f ∷ fs) v rest = rw (resume-refused vars b fs v rest) refl

pub resume-push : (vars : Bool) (b : ℕ) (fs : List Waiting) (f : Waiting) (read : Outcome Tree) → resume vars b (fs ++ f ∷ []) read ≡ resume vars (suc b) fs (filled vars b f read)
resume-push vars b [] f read = ap (λ (n : ℕ). filled vars n f read) (omega arith)
resume-push vars b (g ∷ fs) f read =
    let n : b + length (fs ++ f ∷ []) ≡ suc b + length fs = omega (arith, length-append fs (f ∷ [])) in
    ap₂ (λ (k : ℕ) (o : Outcome Tree). filled vars k g o) n (resume-push vars b fs f read)
