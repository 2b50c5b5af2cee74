-- What is shown of a tree has that tree again, but for places.
use Rattle.std.proofs.Common.{◌≡◌, IsTrue, true, false, ◌&&◌, Bool, ℕ, map, option_map, Option, Some, None, List, [], ◌∷◌, ◌++◌, inl, inr, refl, sym, ap, ap₂, ◌∙◌, subst, codes}
use Rattle.std.proofs.lemmas.List.{map-append}
use Rattle.std.specs.List.{AllByRecursion, flat_map}
use Rattle.std.specs.Str.{bytes_eq}
use Rattle.std.specs.Cmp.Lexicographic.{same_text}
use Prim.Native.String.{String as Word}
use Rattle.graphql_tokens.specs.declared.lexer.TokenKind.{TokenKind}
use Rattle.graphql_tokens.specs.declared.lexer.TokenKind.TheVariants.{Punct, Name, Number, String, Block, Fault, End}
use Rattle.graphql_tokens.specs.tokens.Kinds.{is_punct, is_name, is_number}
use Rattle.graphql_tokens.specs.tokens.Proper.{Spells}
use Rattle.graphql_tokens.specs.tokens.Token.{Bare, Token}
use Rattle.graphql_reading.specs.grammar.Fronts.{bares, without_place}
use Rattle.graphql_reading.specs.grammar.Limits.{Limits}
use Rattle.graphql_reading.specs.grammar.Relations.{Rel, one, ◌⨾◌, ◌∪◌, mapped, never, opt, star, plus, cons, given, between, between_of, after, after_of, separated}
use Rattle.graphql_reading.specs.grammar.Tests.{Test, punct, keyword, any_name, any_number}
use Rattle.graphql_reading.proofs.Optional.{star-plus}
use Rattle.graphql_printer.specs.Controls.{IsClear, IsClearAs}
use Rattle.graphql_printer.specs.inner.Shown.{sign, word, shown_part, shown_between, shown_separated}

-- ---- tokens with spellings

abbrev pub IsSpelled : Token → Type 0
IsSpelled t = Spells t.bare.kind t.bare.spelling

-- each has a spelling of its kind
abbrev pub AreSpelled : List Token → Type 0
AreSpelled ts = AllByRecursion IsSpelled ts

pub each_append : {A : Type 0} (P : A → Type 0) (xs ys : List A) → AllByRecursion P xs → AllByRecursion P ys → AllByRecursion P (xs ++ ys)
each_append P [] ys h k = k
each_append P (x ∷ xs) ys h k = (h.0, each_append P xs ys h.1 k)

pub each_split : {A : Type 0} (P : A → Type 0) (xs ys : List A) → AllByRecursion P (xs ++ ys) → AllByRecursion P xs × AllByRecursion P ys
each_split P [] ys h = (tt, h)
each_split P (x ∷ xs) ys h = let more = each_split P xs ys h.1 in ((h.0, more.0), more.1)

pub parts_spelled : (ts front back : List Token) → ts ≡ front ++ back → AreSpelled ts → AreSpelled front × AreSpelled back
parts_spelled ts front back e h = each_split IsSpelled front back (subst AreSpelled e h)

-- each of a text that is printed is clear, too
abbrev pub IsShown : Token → Type 0
IsShown t = IsSpelled t × IsClear t.bare

abbrev pub AreShown : List Token → Type 0
AreShown ts = AllByRecursion IsShown ts

-- ---- a tree again

-- Tokens with these bare tokens have a tree that is a but for places.
pub record Again {A : Type 0} (p : Rel A) (placeless : A → A) (bs : List Bare) (a : A) : Type 0 where
  pub tokens : List Token
  pub are : bares tokens ≡ bs
  pub spelled : AreShown tokens
  pub tree : A
  pub holds : p tokens tree
  pub same : placeless tree ≡ placeless a

-- each tree of tokens with spellings is a tree of what is shown of it, but for places
pub record Reprints {A : Type 0} (p : Limits → Rel A) (placeless : A → A) (shown : A → List Bare) : Type 0 where
  pub by : (c : Limits) (x : List Token) (a : A) → p c x a → AreSpelled x → Again (p c) placeless (shown a) a

pub again-as : {A : Type 0} {p : Rel A} {f : A → A} {bs cs : List Bare} {a : A} → bs ≡ cs → Again p f bs a → Again p f cs a
again-as {p = p} {f = f} {a = a} e h = subst (λ (l : List Bare). Again p f l a) e h

-- phrases of one production are phrases of another
pub again-within : {A : Type 0} {p q : Rel A} {f : A → A} {bs : List Bare} {a : A} → ((x : List Token) (b : A) → p x b → q x b) → Again p f bs a → Again q f bs a
again-within h m = record { tokens = m.tokens; are = m.are; spelled = m.spelled; tree = m.tree; holds = h m.tokens m.tree m.holds; same = m.same }

pub again-then : {A B : Type 0} {p : Rel A} {q : Rel B} {f : A → A} {g : B → B} {bs cs : List Bare} {a : A} {b : B} → Again p f bs a → Again q g cs b → Again (p ⨾ q) (λ x. (f x.0, g x.1)) (bs ++ cs) (a, b)
again-then h k = record {
  tokens = h.tokens ++ k.tokens;
  are = map-append (λ (t : Token). t.bare) h.tokens k.tokens ∙ ap₂ (λ (l m : List Bare). l ++ m) h.are k.are;
  spelled = each_append IsShown h.tokens k.tokens h.spelled k.spelled;
  tree = (h.tree, k.tree);
  holds = record { front = h.tokens; back = k.tokens; joined = refl; first = h.holds; second = k.holds };
  same = λ n. (h.same n, k.same n);
}

pub again-mapped : {A B : Type 0} {p : Rel A} {f : A → A} {g : B → B} {k : A → B} {bs : List Bare} {a : A} → ((a : A) → g (k a) ≡ k (f a)) → Again p f bs a → Again (mapped k p) g bs (k a)
again-mapped {k = k} {a = a} e h = record {
  tokens = h.tokens;
  are = h.are;
  spelled = h.spelled;
  tree = k h.tree;
  holds = record { value = h.tree; holds = h.holds; is = refl };
  same = e h.tree ∙ ap k h.same ∙ sym (e a);
}

-- one by one
pub again-star : {A : Type 0} {p : Rel A} {f : A → A} (shown : A → List Bare) (items : List A) → AllByRecursion (λ a. Again p f (shown a) a) items → Again (star p) (map f) (flat_map shown items) items
again-star shown [] h = record { tokens = []; are = refl; spelled = tt; tree = []; holds = refl; same = refl }
again-star shown (a ∷ items) h =
    let more = again-star shown items h.1 in
    record {
      tokens = h.0.tokens ++ more.tokens;
      are = map-append (λ (t : Token). t.bare) h.0.tokens more.tokens ∙ ap₂ (λ (l m : List Bare). l ++ m) h.0.are more.are;
      spelled = each_append IsShown h.0.tokens more.tokens h.0.spelled more.spelled;
      tree = h.0.tree ∷ more.tree;
      holds = record { front = h.0.tokens; back = more.tokens; joined = refl; first = h.0.holds; second = more.holds };
      same = ap₂ (λ (x : _) (l : List _). x ∷ l) h.0.same more.same;
    }

-- one or more of them
pub again-plus : {A : Type 0} {p : Rel A} {f : A → A} {bs : List Bare} (list : List A) → (list ≡ [] → ⊥) → Again (star p) (map f) bs list → Again (plus p) (map f) bs list
again-plus {A} {p} {f} {bs} list some h = go h.tree h.holds h.same
  where
    none : (list : List A) → [] ≡ map f list → list ≡ []
    none [] e = refl
    none (a ∷ list) e = absurd cc

    go : (tree : List A) → star p h.tokens tree → map f tree ≡ map f list → Again (plus p) (map f) bs list
    go [] m e = absurd (some (none list e))
    go (a ∷ tree) m e = record { tokens = h.tokens; are = h.are; spelled = h.spelled; tree = a ∷ tree; holds = star-plus p h.tokens a tree m; same = e }

-- ---- tokens

-- a token that can only be this one
one_shown : (x : List Token) (t : Token) → x ≡ t ∷ [] → IsClear t.bare → AreSpelled x → AreShown x
one_shown x t e clear s = subst AreShown (sym e) (((subst AreSpelled e s).0, clear), tt)

pub reprints-the : (test : Test) (b : Bare) → IsClear b → ((t : Bare) → IsTrue (test t) → t ≡ b) → Reprints (λ c. one test) without_place (λ t. b ∷ [])
reprints-the test b clear known = record {
  by = λ c x t m s. record {
    tokens = x;
    are = ap bares m.0 ∙ ap (λ (k : Bare). k ∷ []) (known t.bare m.1);
    spelled = one_shown x t m.0 (subst IsClear (sym (known t.bare m.1)) clear) s;
    tree = t;
    holds = m;
    same = refl;
  };
}

-- a token of which the kind is known
pub reprints-kind : (test : Test) (kind : TokenKind) → ((spelling : List ℕ) → IsClearAs kind spelling) → ((t : Bare) → IsTrue (test t) → t.kind ≡ kind) → Reprints (λ c. one test) without_place (λ t. record { kind = kind; spelling = t.bare.spelling } ∷ [])
reprints-kind test kind clear known = record {
  by = λ c x t m s. record {
    tokens = x;
    are = ap bares m.0 ∙ ap (λ (k : TokenKind). record { kind = k; spelling = t.bare.spelling } ∷ []) (known t.bare m.1);
    spelled = one_shown x t m.0 (subst (λ (k : TokenKind). IsClearAs k t.bare.spelling) (sym (known t.bare m.1)) (clear t.bare.spelling)) s;
    tree = t;
    holds = m;
    same = refl;
  };
}

both : (a b : Bool) → (a && b) ≡ true → (a ≡ true) × (b ≡ true)
both true b e = (refl, e)
both false b e = absurd cc

pub punct-kind : (kind : TokenKind) → is_punct kind ≡ true → kind ≡ Punct
punct-kind Punct e = refl
punct-kind Name e = absurd cc
punct-kind Number e = absurd cc
punct-kind String e = absurd cc
punct-kind Block e = absurd cc
punct-kind Fault e = absurd cc
punct-kind End e = absurd cc

pub name-kind : (kind : TokenKind) → is_name kind ≡ true → kind ≡ Name
name-kind Name e = refl
name-kind Punct e = absurd cc
name-kind Number e = absurd cc
name-kind String e = absurd cc
name-kind Block e = absurd cc
name-kind Fault e = absurd cc
name-kind End e = absurd cc

number-kind : (kind : TokenKind) → is_number kind ≡ true → kind ≡ Number
number-kind Number e = refl
number-kind Punct e = absurd cc
number-kind Name e = absurd cc
number-kind String e = absurd cc
number-kind Block e = absurd cc
number-kind Fault e = absurd cc
number-kind End e = absurd cc

spelled_so : (kind other : TokenKind) (t : Bare) (text : List ℕ) → t.kind ≡ kind → bytes_eq t.spelling text ≡ true → t ≡ record { kind = kind; spelling = text }
spelled_so kind other t text k e = λ i. record { kind = k i; spelling = same_text t.spelling text (sym e) i }

pub punct-is : (text : Word) (t : Bare) → IsTrue (punct text t) → t ≡ sign text
punct-is text t h = let b = both (is_punct t.kind) (bytes_eq t.spelling (codes text)) h in spelled_so Punct Punct t (codes text) (punct-kind t.kind b.0) b.1

pub keyword-is : (text : Word) (t : Bare) → IsTrue (keyword text t) → t ≡ word (codes text)
keyword-is text t h = let b = both (is_name t.kind) (bytes_eq t.spelling (codes text)) h in spelled_so Name Name t (codes text) (name-kind t.kind b.0) b.1

pub reprints-punct : (text : Word) → Reprints (λ c. one (punct text)) without_place (λ t. sign text ∷ [])
reprints-punct text = reprints-the (punct text) (sign text) tt (punct-is text)

pub reprints-keyword : (text : Word) → Reprints (λ c. one (keyword text)) without_place (λ t. word (codes text) ∷ [])
reprints-keyword text = reprints-the (keyword text) (word (codes text)) tt (keyword-is text)

pub reprints-name : Reprints (λ c. one any_name) without_place (λ t. word t.bare.spelling ∷ [])
reprints-name = reprints-kind any_name Name (λ spelling. tt) (λ t h. name-kind t.kind h)

pub reprints-number : Reprints (λ c. one any_number) without_place (λ t. record { kind = Number; spelling = t.bare.spelling } ∷ [])
reprints-number = reprints-kind any_number Number (λ spelling. tt) (λ t h. number-kind t.kind h)

-- ---- the combinators

pub reprints-never : {A : Type 0} {f : A → A} {shown : A → List Bare} → Reprints (λ c. never {A = A}) f shown
reprints-never = record { by = λ c x a m s. absurd m }

pub reprints-then : {A B : Type 0} {p : Limits → Rel A} {q : Limits → Rel B} {f : A → A} {g : B → B} {shown : A → List Bare} {shown' : B → List Bare} → Reprints p f shown → Reprints q g shown'
    → Reprints (λ c. p c ⨾ q c) (λ x. (f x.0, g x.1)) (λ x. shown x.0 ++ shown' x.1)
reprints-then h k = record {
  by = λ c x a m s.
      let spelled = parts_spelled x m.front m.back m.joined s in
      again-then (h.by c m.front a.0 m.first spelled.0) (k.by c m.back a.1 m.second spelled.1);
}

-- what is shown of the whole is what is shown of its parts
pub reprints-mapped : {A B : Type 0} {p : Limits → Rel A} {f : A → A} {g : B → B} {k : A → B} {shown : A → List Bare} (whole : B → List Bare) → ((a : A) → g (k a) ≡ k (f a)) → ((a : A) → shown a ≡ whole (k a)) → Reprints p f shown → Reprints (λ c. mapped k (p c)) g whole
reprints-mapped {B = B} {p = p} {g = g} {k = k} whole e same h = record {
  by = λ c x b m s.
      subst (λ (y : B). Again (mapped k (p c)) g (whole y) y) (sym m.is) (again-as (same m.value) (again-mapped e (h.by c x m.value m.holds s)));
}

-- what is shown may be told otherwise, where it is known to be the same of each phrase
pub reprints-shown : {A : Type 0} {p : Limits → Rel A} {f : A → A} {shown : A → List Bare} (other : A → List Bare) → ((c : Limits) (x : List Token) (a : A) → p c x a → shown a ≡ other a) → Reprints p f shown → Reprints p f other
reprints-shown other e h = record { by = λ c x a m s. again-as (e c x a m) (h.by c x a m s) }

pub reprints-either : {A : Type 0} {p q : Limits → Rel A} {f : A → A} {shown : A → List Bare} → Reprints p f shown → Reprints q f shown → Reprints (λ c. p c ∪ q c) f shown
reprints-either {A} {p} {q} {f} {shown} h k = record { by = by }
  where
    by : (c : Limits) (x : List Token) (a : A) → (p c ∪ q c) x a → AreSpelled x → Again (p c ∪ q c) f (shown a) a
    by c x a (inl m) s = again-within (λ x b m. inl m) (h.by c x a m s)
    by c x a (inr m) s = again-within (λ x b m. inr m) (k.by c x a m s)

-- phrases of either are shown as phrases of the first
pub reprints-first : {A : Type 0} {p q : Limits → Rel A} {f : A → A} {shown : A → List Bare} → Reprints p f shown → ((c : Limits) (x : List Token) (a : A) → q c x a → AreSpelled x → Again (p c) f (shown a) a) → Reprints (λ c. p c ∪ q c) f shown
reprints-first {A} {p} {q} {f} {shown} h k = record { by = by }
  where
    by : (c : Limits) (x : List Token) (a : A) → (p c ∪ q c) x a → AreSpelled x → Again (p c ∪ q c) f (shown a) a
    by c x a (inl m) s = again-within (λ x b m. inl m) (h.by c x a m s)
    by c x a (inr m) s = again-within (λ x b m. inl m) (k c x a m s)

pub star-each : {A : Type 0} {p : Limits → Rel A} {f : A → A} {shown : A → List Bare} → Reprints p f shown → (c : Limits) (x : List Token) (items : List A) → star (p c) x items → AreSpelled x → AllByRecursion (λ a. Again (p c) f (shown a) a) items
star-each h c x [] m s = tt
star-each h c x (a ∷ items) m s =
    let spelled = parts_spelled x m.front m.back m.joined s in
    (h.by c m.front a m.first spelled.0, star-each h c m.back items m.second spelled.1)

pub reprints-star : {A : Type 0} {p : Limits → Rel A} {f : A → A} {shown : A → List Bare} → Reprints p f shown → Reprints (λ c. star (p c)) (map f) (flat_map shown)
reprints-star {shown = shown} h = record { by = λ c x items m s. again-star shown items (star-each h c x items m s) }

pub reprints-plus : {A : Type 0} {p : Limits → Rel A} {f : A → A} {shown : A → List Bare} → Reprints p f shown → Reprints (λ c. plus (p c)) (map f) (flat_map shown)
reprints-plus {f = f} {shown = shown} h = reprints-mapped {k = cons} (flat_map shown) (λ a. refl) (λ a. refl) (reprints-then h (reprints-star h))

pub reprints-opt : {A : Type 0} {p : Limits → Rel A} {f : A → A} {shown : A → List Bare} → Reprints p f shown → Reprints (λ c. opt (p c)) (option_map f) (shown_part shown)
reprints-opt {A} {p} {f} {shown} h = record { by = by }
  where
    by : (c : Limits) (x : List Token) (a : Option A) → opt (p c) x a → AreSpelled x → Again (opt (p c)) (option_map f) (shown_part shown a) a
    by c x None m s = record { tokens = []; are = refl; spelled = tt; tree = None; holds = refl; same = refl }
    by c x (Some a) m s =
        let i = h.by c x a m s in
        record { tokens = i.tokens; are = i.are; spelled = i.spelled; tree = Some i.tree; holds = i.holds; same = ap Some i.same }

pub reprints-between : {A : Type 0} (opening closing : Word) {p : Limits → Rel A} {f : A → A} {shown : A → List Bare} → Reprints p f shown → Reprints (λ c. between (punct opening) (p c) (punct closing)) f (λ a. sign opening ∷ (shown a ++ sign closing ∷ []))
reprints-between opening closing {shown = shown} h =
    reprints-mapped {k = between_of} (λ a. sign opening ∷ (shown a ++ sign closing ∷ [])) (λ x. refl) (λ x. refl)
    (reprints-then (reprints-punct opening) (reprints-then h (reprints-punct closing)))

pub reprints-after : {A : Type 0} (mark : Word) {p : Limits → Rel A} {f : A → A} {shown : A → List Bare} → Reprints p f shown → Reprints (λ c. after (punct mark) (p c)) f (λ a. sign mark ∷ shown a)
reprints-after mark {shown = shown} h = reprints-mapped {k = after_of} (λ a. sign mark ∷ shown a) (λ x. refl) (λ x. refl) (reprints-then (reprints-punct mark) h)

-- one or more between two signs
pub reprints-enclosed : {A : Type 0} (opening closing : Word) {p : Limits → Rel A} {f : A → A} {shown : A → List Bare} → Reprints p f shown
    → Reprints (λ c. one (punct opening) ⨾ plus (p c) ⨾ one (punct closing)) (λ x. (without_place x.0, (map f x.1.0, without_place x.1.1))) (λ x. shown_between opening closing shown x.1.0)
reprints-enclosed {A} opening closing {p} {f} {shown} h =
    reprints-shown (λ x. shown_between opening closing shown x.1.0) (λ c x a m. some c x a m)
    (reprints-then (reprints-punct opening) (reprints-then (reprints-plus h) (reprints-punct closing)))
  where
    some : (c : Limits) (x : List Token) (a : Token × (List A × Token)) → (one (punct opening) ⨾ plus (p c) ⨾ one (punct closing)) x a → sign opening ∷ (flat_map shown a.1.0 ++ sign closing ∷ []) ≡ shown_between opening closing shown a.1.0
    some c x a m =
        let first = m.second.first in
        subst (λ (l : List A). sign opening ∷ (flat_map shown l ++ sign closing ∷ []) ≡ shown_between opening closing shown l) (sym first.is) refl

pub reprints-listed : {A : Type 0} (opening closing : Word) {p : Limits → Rel A} {f : A → A} {shown : A → List Bare} → Reprints p f shown → Reprints (λ c. between (punct opening) (plus (p c)) (punct closing)) (map f) (shown_between opening closing shown)
reprints-listed opening closing {shown = shown} h = reprints-mapped {k = between_of} (shown_between opening closing shown) (λ x. refl) (λ x. refl) (reprints-enclosed opening closing h)

-- the same where there may be none
given-shown : {A : Type 0} (opening closing : Word) (shown : A → List Bare) (items : Option (List A)) → shown_part (shown_between opening closing shown) items ≡ shown_between opening closing shown (given items)
given-shown opening closing shown None = refl
given-shown opening closing shown (Some items) = refl

pub reprints-maybe_listed : {A : Type 0} (opening closing : Word) {p : Limits → Rel A} {f : A → A} {shown : A → List Bare} → Reprints p f shown
    → Reprints (λ c. opt (between (punct opening) (plus (p c)) (punct closing))) (option_map (map f)) (λ items. shown_between opening closing shown (given items))
reprints-maybe_listed opening closing {shown = shown} h =
    reprints-shown (λ items. shown_between opening closing shown (given items)) (λ c x items m. given-shown opening closing shown items) (reprints-opt (reprints-listed opening closing h))

-- no mark is shown before the first
pub reprints-separated : {A : Type 0} (mark : Word) {p : Limits → Rel A} {f : A → A} {shown : A → List Bare} → Reprints p f shown → Reprints (λ c. separated (punct mark) (p c)) (map f) (shown_separated mark shown)
reprints-separated {A} mark {p} {f} {shown} h = record {
  by = λ c x items m s.
      subst (λ (l : List A). Again (separated (punct mark) (p c)) (map f) (shown_separated mark shown l) l) (sym m.is)
      (members c m.value.1.0 m.value.1.1 m.holds.back m.holds.second (parts_spelled x m.holds.front m.holds.back m.holds.joined s).1);
}
  where
    members : (c : Limits) (a : A) (items : List A) (x : List Token) → (p c ⨾ star (after (punct mark) (p c))) x (a, items) → AreSpelled x → Again (separated (punct mark) (p c)) (map f) (shown_separated mark shown (a ∷ items)) (a ∷ items)
    members c a items x m s =
        let i = (reprints-then h (reprints-star (reprints-after mark h))).by c x (a, items) m s in
        record {
          tokens = i.tokens;
          are = i.are;
          spelled = i.spelled;
          tree = i.tree.0 ∷ i.tree.1;
          holds = record { value = (None, i.tree); holds = record { front = []; back = i.tokens; joined = refl; first = refl; second = i.holds }; is = refl };
          same = ap (λ (y : A × List A). y.0 ∷ y.1) i.same;
        }
