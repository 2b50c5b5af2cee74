-- Values are read again from what is shown of them.
use Rattle.std.proofs.Common.{◌≡◌, IsTrue, ℕ, zero, suc, Bool, true, false, not, ◌&&◌, ◌||◌, cond, inl, inr, List, [], ◌∷◌, ◌++◌, map, refl, sym, ap, subst}
use Rattle.std.specs.Cmp.Lexicographic.{same_text}
use Rattle.std.specs.List.{AllByRecursion, flat_map, list_any}
use Rattle.std.specs.Str.{IsUtf8}
use Rattle.graphql_tokens.specs.declared.lexer.TokenKind.{TokenKind}
use Rattle.graphql_tokens.specs.declared.lexer.TokenKind.TheVariants.{Punct, Name, Number, String, Block, Fault, End}
use Rattle.graphql_tokens.specs.tokens.Edition.{Current}
use Rattle.graphql_tokens.specs.tokens.Kinds.{is_name, is_string, is_block}
use Rattle.graphql_tokens.specs.tokens.Proper.{Spells}
use Rattle.graphql_tokens.specs.tokens.Token.{Bare, Token}
use Rattle.graphql_syntax.specs.trees.ValueTree.{Tree, list, object, trees_of, fields_of}
use Rattle.graphql_reading.specs.grammar.Fronts.{without_place}
use Rattle.graphql_reading.specs.grammar.Limits.{Limits}
use Rattle.graphql_reading.specs.grammar.Places.{at}
use Rattle.graphql_reading.specs.grammar.Relations.{Rel, one, meaning, ◌⨾◌, ◌∪◌, mapped, star}
use Rattle.graphql_reading.specs.grammar.Tests.{punct, name_but, is_among, any_string, any_block}
use Rattle.graphql_grammar.specs.grammar.Merged.{has_name, without, last_value, merged}
use Rattle.graphql_grammar.specs.grammar.Placeless.{bare_node}
use Rattle.graphql_grammar.specs.grammar.Values.{Value, true_of, false_of, null_of, enumeration_of, number_of, string_of, StringStands, BlockStands, dollar, variable_of, list_of, object_field_of, object_of, a_word, a_number, a_string, a_block, a_variable, a_list, a_field, an_object, a_simple_value, value}
use Rattle.graphql_grammar.specs.reading.Fields.{are_distinct}
use Rattle.graphql_grammar.proofs.Fields.{merged-distinct}
use Rattle.graphql_printer.specs.inner.Shown.{sign, word, quoted, shown_node, shown_value, shown_items, shown_fields}
use Rattle.graphql_printer.proofs.Reprints.{AreSpelled, Again, Reprints, again-star, again-then, again-mapped, again-as, again-within, reprints-the, reprints-kind, reprints-punct, reprints-keyword, reprints-name, reprints-number, reprints-then, reprints-mapped, reprints-either, reprints-star, star-each, parts_spelled, name-kind, punct-is}
use Rattle.graphql_printer.proofs.ShownStrings.{string_stands, string_spells, string_clear, string_utf8, block_utf8}

-- ---- words and numbers

both : (a b : Bool) → (a && b) ≡ true → (a ≡ true) × (b ≡ true)
both true b e = (refl, e)
both false b e = absurd cc

pub reprints-name_but : (words : List _) → Reprints (λ c. one (name_but words)) without_place (λ t. word t.bare.spelling ∷ [])
reprints-name_but words = reprints-kind (name_but words) Name (λ spelling. tt) (λ t h. name-kind t.kind (both (is_name t.kind) (not (is_among t.spelling words)) h).0)

reprints-word : Reprints (λ c. a_word) bare_node (shown_node shown_value)
reprints-word =
    reprints-either (reprints-mapped {k = true_of} (shown_node shown_value) (λ t. refl) (λ t. refl) (reprints-keyword "true"))
    (reprints-either (reprints-mapped {k = false_of} (shown_node shown_value) (λ t. refl) (λ t. refl) (reprints-keyword "false"))
    (reprints-either (reprints-mapped {k = null_of} (shown_node shown_value) (λ t. refl) (λ t. refl) (reprints-keyword "null"))
    (reprints-mapped {k = enumeration_of} (shown_node shown_value) (λ t. refl) (λ t. refl) (reprints-name_but ("true" ∷ "false" ∷ "null" ∷ [])))))

reprints-a_number : Reprints (λ c. a_number) bare_node (shown_node shown_value)
reprints-a_number = reprints-mapped {k = number_of} (shown_node shown_value) (λ t. refl) (λ t. refl) reprints-number

-- ---- strings: each is shown between single quotes

string-kind : (kind : TokenKind) → is_string kind ≡ true → kind ≡ String
string-kind String e = refl
string-kind Punct e = absurd cc
string-kind Name e = absurd cc
string-kind Number e = absurd cc
string-kind Block e = absurd cc
string-kind Fault e = absurd cc
string-kind End e = absurd cc

block-kind : (kind : TokenKind) → is_block kind ≡ true → kind ≡ Block
block-kind Block e = refl
block-kind Punct e = absurd cc
block-kind Name e = absurd cc
block-kind Number e = absurd cc
block-kind String e = absurd cc
block-kind Fault e = absurd cc
block-kind End e = absurd cc

kind_spelled : (kind : TokenKind) (t : Token) (x : List Token) → x ≡ t ∷ [] → t.bare.kind ≡ kind → AreSpelled x → Spells kind t.bare.spelling
kind_spelled kind t x e h s = subst (λ (y : TokenKind). Spells y t.bare.spelling) h (subst AreSpelled e s).0

-- what a string or a block string stands for is in UTF-8
pub strings_utf8 : {B : Type 0} {k : Token × List ℕ → B} (x : List Token) (b : B) (m : mapped k (meaning any_string (StringStands Current)) x b) → AreSpelled x → IsUtf8 m.value.1
strings_utf8 x b m s = string_utf8 m.value.0.bare m.value.1 (kind_spelled String m.value.0 x m.holds.0 (string-kind m.value.0.bare.kind m.holds.1) s) m.holds.2

pub blocks_utf8 : {B : Type 0} {k : Token × List ℕ → B} (x : List Token) (b : B) (m : mapped k (meaning any_block BlockStands) x b) → AreSpelled x → IsUtf8 m.value.1
blocks_utf8 x b m s = block_utf8 m.value.0.bare m.value.1 (kind_spelled Block m.value.0 x m.holds.0 (block-kind m.value.0.bare.kind m.holds.1) s) m.holds.2

module _ {B : Type 0} (k : Token × List ℕ → B) (placeless : B → B) (shown : B → List Bare) (same : (t u : Token) (s : List ℕ) → placeless (k (t, s)) ≡ placeless (k (u, s))) (is : (t : Token) (s : List ℕ) → quoted s ∷ [] ≡ shown (k (t, s))) where
  -- the token of the string that stands for a text
  again-quoted : (t : Token) (s : List ℕ) → IsUtf8 s → Again (mapped k (meaning any_string (StringStands Current))) placeless (shown (k (t, s))) (k (t, s))
  again-quoted t s utf8 =
      let other : Token = record t { bare = quoted s } in
      again-as (is t s) (record {
        tokens = other ∷ [];
        are = refl;
        spelled = ((string_spells s utf8, string_clear s utf8), tt);
        tree = k (other, s);
        holds = record { value = (other, s); holds = (refl, refl, string_stands s utf8); is = refl };
        same = same other t s;
      })

  again-so : (x : List Token) (b : B) (v : Token × List ℕ) → b ≡ k v → IsUtf8 v.1 → Again (mapped k (meaning any_string (StringStands Current))) placeless (shown b) b
  again-so x b v e utf8 = subst (λ (y : B). Again (mapped k (meaning any_string (StringStands Current))) placeless (shown y) y) (sym e) (again-quoted v.0 v.1 utf8)

  pub reprints-strings : Reprints (λ c. mapped k (meaning any_string (StringStands Current))) placeless shown
  reprints-strings = record {
    by = λ c x b m s.
        again-so x b m.value m.is (strings_utf8 x b m s);
  }

  -- a block string is shown as a string
  pub blocks-as_strings : (c : Limits) (x : List Token) (b : B) → mapped k (meaning any_block BlockStands) x b → AreSpelled x → Again (mapped k (meaning any_string (StringStands Current))) placeless (shown b) b
  blocks-as_strings c x b m s =
      again-so x b m.value m.is (blocks_utf8 x b m s)

reprints-a_string : Reprints (λ c. a_string Current) bare_node (shown_node shown_value)
reprints-a_string = reprints-strings string_of bare_node (shown_node shown_value) (λ t u s. refl) (λ t s. refl)

-- ---- variables, and what is neither a list nor an object

dollar-is : (vars : Bool) (t : Bare) → IsTrue (dollar vars t) → t ≡ sign "$"
dollar-is vars t h = punct-is "$" t (both (punct "$" t) vars h).0

reprints-variable : (vars : Bool) → Reprints (λ c. a_variable vars) bare_node (shown_node shown_value)
reprints-variable vars = reprints-mapped {k = variable_of} (shown_node shown_value) (λ x. refl) (λ x. refl) (reprints-then (reprints-the (dollar vars) (sign "$") tt (dollar-is vars)) reprints-name)

reprints-simple : (vars : Bool) → Reprints (λ c. a_simple_value Current vars) bare_node (shown_node shown_value)
reprints-simple vars = reprints-either reprints-word (reprints-either reprints-a_number (record { by = by }))
  where
    by : (c : Limits) (x : List Token) (v : Value) → (a_string Current ∪ a_block ∪ a_variable vars) x v → AreSpelled x → Again (a_string Current ∪ a_block ∪ a_variable vars) bare_node ((shown_node shown_value) v) v
    by c x v (inl m) s = again-within (λ y b n. inl n) (reprints-a_string.by c x v m s)
    by c x v (inr (inl m)) s = again-within (λ y b n. inl n) (blocks-as_strings string_of bare_node (shown_node shown_value) (λ t u s. refl) (λ t s. refl) c x v m s)
    by c x v (inr (inr m)) s = again-within (λ y b n. inr (inr n)) ((reprints-variable vars).by c x v m s)

-- ---- lists

items-shown : (vs : List Value) → flat_map (shown_node shown_value) vs ≡ shown_items (trees_of (map (λ v. v.node) vs))
items-shown [] = refl
items-shown (v ∷ vs) = ap (λ (l : List Bare). (shown_node shown_value) v ++ l) (items-shown vs)

nodes-same : (l : List Value) → map (λ v. v.node) (map bare_node l) ≡ map (λ v. v.node) l
nodes-same [] = refl
nodes-same (v ∷ l) = ap (λ (more : List Tree). v.node ∷ more) (nodes-same l)

reprints-list : {v : Limits → Rel Value} → Reprints v bare_node (shown_node shown_value) → Reprints (λ c. a_list (v c)) bare_node (shown_node shown_value)
reprints-list h =
    reprints-mapped {k = list_of} (shown_node shown_value) (λ x. ap (λ (l : List Tree). at {A = Tree} (without_place x.0) (list (trees_of l))) (sym (nodes-same x.1.0)))
    (λ x. ap (λ (l : List Bare). sign "[" ∷ (l ++ sign "]" ∷ [])) (items-shown x.1.0))
    (reprints-then (reprints-punct "[") (reprints-then (reprints-star h) (reprints-punct "]")))

-- ---- the fields of an object, which are merged, and merged again are the same

abbrev Pair : Type 0
Pair = List ℕ × Tree

-- a name and a tree hold no places
abbrev as-is : {A : Type 0} → A → A
as-is a = a

map-as-is : {A : Type 0} (l : List A) → map as-is l ≡ l
map-as-is [] = refl
map-as-is (a ∷ l) = ap (λ (more : List _). a ∷ more) (map-as-is l)

abbrev shown_pair : Pair → List Bare
shown_pair p = word p.0 ∷ sign ":" ∷ shown_value p.1

each-without : (P : Pair → Type 0) (n : List ℕ) (ps : List Pair) → AllByRecursion P ps → AllByRecursion P (without n ps)
each-without P n [] h = tt
each-without P n (p ∷ ps) h = go (has_name n p) (each-without P n ps h.1)
  where
    go : (w : Bool) → AllByRecursion P (without n ps) → AllByRecursion P (cond w (without n ps) (p ∷ without n ps))
    go true more = more
    go false more = (h.0, more)

of-last : (P : Pair → Type 0) (n : List ℕ) (t : Tree) (ps : List Pair) → P (n, t) → AllByRecursion P ps → P (n, last_value n t ps)
of-last P n t [] h k = h
of-last P n t (p ∷ ps) h k = of-last P n (cond (has_name n p) p.1 t) ps (go (has_name n p) refl) k.1
  where
    go : (w : Bool) → has_name n p ≡ w → P (n, cond w p.1 t)
    go true e = subst (λ (m : List ℕ). P (m, p.1)) (same_text p.0 n (sym e)) k.0
    go false e = h

each-merged : (P : Pair → Type 0) (ps : List Pair) → AllByRecursion P ps → AllByRecursion P (merged ps)
each-merged P [] h = tt
each-merged P (p ∷ ps) h = (of-last P p.0 p.1 ps h.0 h.1, each-without P p.0 (merged ps) (each-merged P ps h.1))

none-left : (n : List ℕ) (ps : List Pair) → list_any (has_name n) (without n ps) ≡ false
none-left n [] = refl
none-left n (p ∷ ps) = go (has_name n p) refl (none-left n ps)
  where
    go : (w : Bool) → has_name n p ≡ w → list_any (has_name n) (without n ps) ≡ false → list_any (has_name n) (cond w (without n ps) (p ∷ without n ps)) ≡ false
    go true e more = more
    go false e more = rw e more

still-none : (m n : List ℕ) (ps : List Pair) → list_any (has_name m) ps ≡ false → list_any (has_name m) (without n ps) ≡ false
still-none m n [] h = refl
still-none m n (p ∷ ps) h = go (has_name n p) (has_name m p) refl h (still-none m n ps)
  where
    go : (w v : Bool) → has_name m p ≡ v → (v || list_any (has_name m) ps) ≡ false → (list_any (has_name m) ps ≡ false → list_any (has_name m) (without n ps) ≡ false) → list_any (has_name m) (cond w (without n ps) (p ∷ without n ps)) ≡ false
    go w true e h more = absurd cc
    go true false e h more = more h
    go false false e h more = rw e (more h)

still-distinct : (n : List ℕ) (ps : List Pair) → are_distinct ps ≡ true → are_distinct (without n ps) ≡ true
still-distinct n [] h = refl
still-distinct n (p ∷ ps) h = go (has_name n p) (list_any (has_name p.0) ps) refl h (still-distinct n ps)
  where
    go : (w v : Bool) → list_any (has_name p.0) ps ≡ v → (not v && are_distinct ps) ≡ true → (are_distinct ps ≡ true → are_distinct (without n ps) ≡ true) → are_distinct (cond w (without n ps) (p ∷ without n ps)) ≡ true
    go w true e h more = absurd cc
    go true false e h more = more h
    go false false e h more = rw (still-none p.0 n ps e) (more h)

merged-are-distinct : (ps : List Pair) → are_distinct (merged ps) ≡ true
merged-are-distinct [] = refl
merged-are-distinct (p ∷ ps) = rw (none-left p.0 (merged ps)) (still-distinct p.0 (merged ps) (merged-are-distinct ps))

fields-shown : (ps : List Pair) → flat_map shown_pair ps ≡ shown_fields (fields_of ps)
fields-shown [] = refl
fields-shown (p ∷ ps) = ap (λ (l : List Bare). shown_pair p ++ l) (fields-shown ps)

reprints-field : {v : Limits → Rel Value} → Reprints v bare_node (shown_node shown_value) → Reprints (λ c. a_field (v c)) as-is shown_pair
reprints-field h = reprints-mapped {k = object_field_of} shown_pair (λ x. refl) (λ x. refl) (reprints-then reprints-name (reprints-then (reprints-punct ":") h))

reprints-object : {v : Limits → Rel Value} → Reprints v bare_node (shown_node shown_value) → Reprints (λ c. an_object (v c)) bare_node (shown_node shown_value)
reprints-object {v} h = record {
  by = λ c x o m s.
      subst (λ (y : Value). Again (an_object (v c)) bare_node ((shown_node shown_value) y) y) (sym m.is) (of c x m.value m.holds s);
}
  where
    -- the same with other fields is an object too
    of : (c : Limits) (x : List Token) (parts : Token × (List Pair × Token)) → (one (punct "{") ⨾ star (a_field (v c)) ⨾ one (punct "}")) x parts → AreSpelled x → Again (an_object (v c)) bare_node ((shown_node shown_value) (object_of parts)) (object_of parts)
    of c x (opening, (ps, closing)) m s =
        let split = parts_spelled x m.front m.back m.joined s in
        let rest = parts_spelled m.back m.second.front m.second.back m.second.joined split.1 in
        let each = star-each (reprints-field h) c m.second.front ps m.second.first rest.0 in
        let fields = again-star shown_pair (merged ps) (each-merged (λ p. Again (a_field (v c)) as-is (shown_pair p) p) ps each) in
        let all = again-then ((reprints-punct "{").by c m.front opening m.first split.0) (again-then fields ((reprints-punct "}").by c m.second.back closing m.second.second rest.1)) in
        let same : object_of (opening, (merged ps, closing)) ≡ object_of (opening, (ps, closing)) = ap (λ (l : List Pair). at opening (object (fields_of l))) (merged-distinct (merged ps) (merged-are-distinct ps)) in
        subst (λ (y : Value). Again (an_object (v c)) bare_node ((shown_node shown_value) (object_of (opening, (ps, closing)))) y) same
        (again-as (ap (λ (l : List Bare). sign "{" ∷ (l ++ sign "}" ∷ [])) (fields-shown (merged ps)))
        (again-mapped {k = object_of} (λ x. ap (λ (l : List Pair). at {A = Tree} (without_place x.0) (object (fields_of (merged l)))) (sym (map-as-is x.1.0))) all))

-- ---- values

reprints-within : (vars : Bool) (n : ℕ) → Reprints (λ c. value Current vars n) bare_node (shown_node shown_value)
reprints-within vars zero = reprints-simple vars
reprints-within vars (suc n) = reprints-either (reprints-simple vars) (reprints-either (reprints-list (reprints-within vars n)) (reprints-object (reprints-within vars n)))

pub reprints-value : (vars : Bool) → Reprints (λ c. value Current vars c.values) bare_node (shown_node shown_value)
reprints-value vars = record { by = λ c. (reprints-within vars c.values).by c }
