-- Types and the texts that show them: the parts of a text, and one proper type for each text.
use Rattle.std.proofs.Common.{◌≡◌, ◌==◌, ℕ, List, ◌∷◌, [], ◌++◌, Bool, true, false, ◌&&◌, ◌||◌, nat_eq, refl, sym, ap, subst, ◌∙◌, append_assoc, IsTrue, ◌<◌, lit<, arith, Option, Some, None, option_map, MatchOption, Result, Ok, Err, IfOk}
use Rattle.std.proofs.lemmas.List.{append-nil, append_cancel_right}
use Rattle.std.specs.Fmt.{IsDefaultSpec, IsPlainFormatter, HasWritten, HasWrittenStyled}
use Rattle.std.specs.declared.alloc.AllocError.{AllocError}
use Rattle.std.specs.declared.fmt.Formatter.{Formatter}
use Rattle.std.specs.Bool.{beq}
use Rattle.std.specs.Char.{is_ascii_alphabetic, is_ascii_digit}
use Rattle.std.specs.Cmp.Lexicographic.{pointwise}
use Rattle.std.specs.List.{AllByRecursion}
use Rattle.graphql_tokens.specs.tokens.Classes.{is_name_start, is_name_char}
use Rattle.graphql_syntax.specs.trees.TypeTree.{TypeTree, named, list, base_tree, type_tree, base_text, type_text, mark}
use Rattle.graphql_syntax.specs.trees.TypeEquality.{same_type}
use Rattle.graphql_syntax.specs.calls.TypeText.{BeginsWith, EndsWith, HasGraphqlName, IsProper, IsTypeOf}
use Rattle.graphql_syntax.specs.declared.types.BaseType.{BaseType, Named, List'}
use Rattle.graphql_syntax.specs.declared.types.Type.{«Type» as TypeReference}

-- the text of a type is that of its base, and then its mark
pub text_of_base : (b : BaseType) (nullable : Bool) → type_text (base_tree b nullable) ≡ base_text b ++ mark nullable
text_of_base (Named n) nullable = ap (λ s. s ++ mark nullable) (sym (append-nil n))
text_of_base (List' p base inner) nullable =
    ap (λ s. 91 ∷ s) (sym (append_assoc (type_text (base_tree base inner)) (93 ∷ []) (mark nullable)))

-- what is written whatever the options is written with none
pub has_written_plain : {W : Type 0} {took : W → List ℕ → W → Type 0} {f g : Formatter W} {bs : List ℕ} → IsPlainFormatter f → HasWrittenStyled took f bs g → HasWritten took f bs g
has_written_plain plain styled =
    record { wrote = styled.wrote; plain = record { bare = subst IsDefaultSpec (sym styled.spec) plain.bare; flush = styled.flush } }

-- ---- a type with another mark

abbrev pub marked : TypeTree → Bool → TypeTree
marked (named n before) nullable = named n nullable
marked (list t before) nullable = list t nullable

tree_of_base : (b : BaseType) (nullable : Bool) → base_tree b nullable ≡ marked (base_tree b true) nullable
tree_of_base (Named n) nullable = refl
tree_of_base (List' p base inner) nullable = refl

-- bases with one tree are types with one tree
pub same_base : (a b : BaseType) (nullable : Bool) → base_tree a true ≡ base_tree b true → base_tree a nullable ≡ base_tree b nullable
same_base a b nullable e = tree_of_base a nullable ∙ ap (λ t. marked t nullable) e ∙ sym (tree_of_base b nullable)

and_true : (x : Bool) → x && true ≡ x
and_true true = refl
and_true false = refl

-- types are the same where their bases and marks are
pub same_type_of_bases : (a b : BaseType) (p q : Bool) →
    same_type (base_tree a p) (base_tree b q) ≡ (same_type (base_tree a true) (base_tree b true) && beq p q)
same_type_of_bases (Named m) (Named n) p q = ap (λ x. x && beq p q) (sym (and_true (pointwise nat_eq m n)))
same_type_of_bases (Named m) (List' y b j) p q = refl
same_type_of_bases (List' x a i) (Named n) p q = refl
same_type_of_bases (List' x a i) (List' y b j) p q = ap (λ x. x && beq p q) (sym (and_true (same_type (base_tree a i) (base_tree b j))))

-- ---- the ends of a text

first : List ℕ → ℕ
first [] = 0
first (x ∷ xs) = x

after_first : List ℕ → List ℕ
after_first [] = []
after_first (x ∷ xs) = xs

last : ℕ → List ℕ → ℕ
last x [] = x
last x (y ∷ ys) = last y ys

last-append : (x c : ℕ) (xs : List ℕ) → last x (xs ++ c ∷ []) ≡ c
unfolding last
last-append x c [] = refl
last-append x c (y ∷ ys) = last-append y c ys

same_last : (xs ys : List ℕ) (c d : ℕ) → xs ++ c ∷ [] ≡ ys ++ d ∷ [] → c ≡ d
same_last xs ys c d e = sym (last-append 0 c xs) ∙ ap (last 0) e ∙ last-append 0 d ys

same_first : (x y : ℕ) (xs ys : List ℕ) → x ∷ xs ≡ y ∷ ys → x ≡ y
unfolding first
same_first x y xs ys e = ap first e

same_rest : (x y : ℕ) (xs ys : List ℕ) → x ∷ xs ≡ y ∷ ys → xs ≡ ys
unfolding after_first
same_rest x y xs ys e = ap after_first e

apart : (m n : ℕ) → m < n → m ≡ n → ⊥
apart m n h e = omega arith

different : (xs ys : List ℕ) → xs ++ 93 ∷ [] ≡ ys ++ 33 ∷ [] → ⊥
different xs ys e = apart 33 93 (lit< tt) (sym (same_last xs ys 93 33 e))

-- a list's text, whatever its mark, has its item's text before the last `]`
item_text : (item after : List ℕ) (b nullable : Bool) → (IsTrue nullable → ¬ EndsWith (33 ∷ []) after) →
    item ++ 93 ∷ mark b ≡ after ++ mark nullable → after ≡ item ++ 93 ∷ []
item_text item after true true ends e = sym (append-nil after) ∙ sym e
item_text item after true false ends e = absurd (different item after e)
item_text item after false true ends e =
    absurd (ends refl (item ++ 93 ∷ [], sym (append-nil after) ∙ sym e ∙ sym (append_assoc item (93 ∷ []) (33 ∷ []))))
item_text item after false false ends e =
    sym (append_cancel_right (item ++ 93 ∷ []) after (33 ∷ []) (append_assoc item (93 ∷ []) (33 ∷ []) ∙ e))

-- the text of a name isn't that of a list
no_list : (name : List ℕ) (nullable : Bool) (rest : List ℕ) → ¬ BeginsWith (91 ∷ []) name → name ++ mark nullable ≡ 91 ∷ rest → ⊥
no_list [] true rest begins e = cc
no_list [] false rest begins e = apart 33 91 (lit< tt) (same_first 33 91 [] rest e)
no_list (x ∷ xs) nullable rest begins e = begins (xs, ap (λ c. c ∷ xs) (same_first x 91 (xs ++ mark nullable) rest e))

-- ---- the type of a text, from that of the text between its brackets

pub no_type : (text after : List ℕ) (nullable : Bool) → text ≡ 91 ∷ after → (IsTrue nullable → ¬ EndsWith (33 ∷ []) text) →
    ((t : TypeTree) → IsProper t → ¬ (after ≡ type_text t ++ 93 ∷ [])) → (t : TypeTree) → ¬ IsTypeOf (text ++ mark nullable) t
no_type text after nullable begins ends none (named n b) is =
    no_list n b (after ++ mark nullable) is.0.0 (is.1 ∙ ap (λ s. s ++ mark nullable) begins)
no_type text after nullable begins ends none (list t b) is =
    none t is.0 (item_text (type_text t) after b nullable
    (λ yes end. ends yes (91 ∷ end.0, begins ∙ ap (λ s. 91 ∷ s) end.1))
    (same_rest 91 91 (type_text t ++ 93 ∷ mark b) (after ++ mark nullable) (is.1 ∙ ap (λ s. s ++ mark nullable) begins)))

pub list_type : (text after inside : List ℕ) (nullable : Bool) (t : TypeTree) → text ≡ 91 ∷ after → after ≡ inside ++ 93 ∷ [] →
    IsTypeOf inside t → IsTypeOf (text ++ mark nullable) (list t nullable)
list_type text after inside nullable t p q is =
    (is.0, ap (λ s. 91 ∷ (s ++ 93 ∷ mark nullable)) is.1 ∙ ap (λ s. 91 ∷ s) (sym (append_assoc inside (93 ∷ []) (mark nullable))) ∙ ap (λ s. 91 ∷ (s ++ mark nullable)) (sym q) ∙ ap (λ s. s ++ mark nullable) (sym p))

-- a text that begins with no bracket is that of a name
pub name_type : (text : List ℕ) (nullable : Bool) → ¬ BeginsWith (91 ∷ []) text → (IsTrue nullable → ¬ EndsWith (33 ∷ []) text) →
    IsTypeOf (text ++ mark nullable) (named text nullable)
name_type text nullable begins ends = ((begins, ends), refl)

-- ---- at most one proper type has a text

names : (m n : List ℕ) (a b : Bool) → IsProper (named m a) → IsProper (named n b) → m ++ mark a ≡ n ++ mark b → named m a ≡ named n b
names m n true true p q e = ap (λ s. named s true) (sym (append-nil m) ∙ e ∙ append-nil n)
names m n true false p q e = absurd (p.1 refl (n, sym (append-nil m) ∙ e))
names m n false true p q e = absurd (q.1 refl (m, sym (append-nil n) ∙ sym e))
names m n false false p q e = ap (λ s. named s false) (append_cancel_right m n (33 ∷ []) e)

item_texts : (x y : List ℕ) (a b : Bool) → x ++ 93 ∷ mark a ≡ y ++ 93 ∷ mark b → (x ≡ y) × (a ≡ b)
item_texts x y true true e = (append_cancel_right x y (93 ∷ []) e, refl)
item_texts x y true false e = absurd (different x (y ++ 93 ∷ []) (e ∙ sym (append_assoc y (93 ∷ []) (33 ∷ []))))
item_texts x y false true e = absurd (different y (x ++ 93 ∷ []) (sym e ∙ sym (append_assoc x (93 ∷ []) (33 ∷ []))))
item_texts x y false false e = (append_cancel_right x y (93 ∷ 33 ∷ []) e, refl)

one : (s t : TypeTree) → IsProper s → IsProper t → type_text s ≡ type_text t → s ≡ t
one (named m a) (named n b) p q e = names m n a b p q e
one (named m a) (list t b) p q e = absurd (no_list m a (type_text t ++ 93 ∷ mark b) p.0 e)
one (list s a) (named n b) p q e = absurd (no_list n b (type_text s ++ 93 ∷ mark a) q.0 (sym e))
one (list s a) (list t b) p q e =
    let texts = item_texts (type_text s) (type_text t) a b (same_rest 91 91 (type_text s ++ 93 ∷ mark a) (type_text t ++ 93 ∷ mark b) e) in
    let item = one s t p q texts.0 in
    let nullable : a ≡ b = texts.1 in
    cc

pub one_type : (text : List ℕ) (s t : TypeTree) → IsTypeOf text s → IsTypeOf text t → s ≡ t
one_type text s t x y = one s t x.0 y.0 (x.1 ∙ sym y.1)

-- ---- the text of a type whose name is a name of GraphQL gives that type back

name_char_of_start : (letter underscore digit : Bool) → (letter || underscore) ≡ true → (letter || underscore || digit) ≡ true
name_char_of_start true underscore digit e = refl
name_char_of_start false true digit e = refl
name_char_of_start false false digit e = cc

no_mark : (name front : List ℕ) → AllByRecursion (λ c. is_name_char c ≡ true) name → name ≡ front ++ 33 ∷ [] → ⊥
no_mark [] [] all e = cc
no_mark [] (x ∷ xs) all e = cc
no_mark (c ∷ cs) [] all e =
    let is_name_mark : is_name_char 33 ≡ true = subst (λ x. is_name_char x ≡ true) (same_first c 33 cs [] e) all.0 in
    cc
no_mark (c ∷ cs) (x ∷ xs) all e = no_mark cs xs all.1 (same_rest c x cs (xs ++ 33 ∷ []) e)

no_bracket : (c : ℕ) (cs rest : List ℕ) → is_name_start c ≡ true → c ∷ cs ≡ 91 ∷ rest → ⊥
no_bracket c cs rest start e =
    let is_name_bracket : is_name_start 91 ≡ true = subst (λ x. is_name_start x ≡ true) (same_first c 91 cs rest e) start in
    cc

proper : (t : TypeTree) → HasGraphqlName t → IsProper t
proper (named [] nullable) name = absurd name
proper (named (c ∷ cs) nullable) name = (
  λ begins. no_bracket c cs begins.0 name.0 begins.1,
  λ yes ends. no_mark (c ∷ cs) ends.0 (name_char_of_start (is_ascii_alphabetic c) (c == 95) (is_ascii_digit c) name.0, name.1) ends.1,
)
proper (list item nullable) name = proper item name

-- what `Type::new` answers of a text
abbrev pub IsAnswer : List ℕ → Option TypeReference → Type 0
IsAnswer text answer = MatchOption answer ((t : TypeTree) → ¬ IsTypeOf text t) (λ t. IsTypeOf text (type_tree t))

-- what it answers where there is none
abbrev pub IsRefused : List ℕ → Result (Option TypeReference) AllocError → Type 0
IsRefused text result = ((t : TypeTree) → ¬ IsTypeOf text t) → result ≡ Ok None

pub given_back : (text : List ℕ) (result : Result (Option TypeReference) AllocError) → IfOk result (IsAnswer text) →
    (t : TypeTree) → HasGraphqlName t → type_text t ≡ text → IfOk result (λ answer. option_map type_tree answer ≡ Some t)
given_back text (Err e) is t name shown = tt
given_back text (Ok None) is t name shown = absurd (is t (proper t name, shown))
given_back text (Ok (Some answer)) is t name shown = ap Some (one_type text (type_tree answer) t is (proper t name, shown))
