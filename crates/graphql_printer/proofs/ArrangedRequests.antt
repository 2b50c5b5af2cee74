-- The definitions of a request in the order in which they are printed: they break no rule, lack nothing and make the same.
use Rattle.std.proofs.Common.{◌≡◌, Bool, true, false, cond, if◌then◌else◌, Option, Some, None, option_map, List, [], ◌∷◌, ◌++◌, map, refl, sym, ap, ap₂, ◌∙◌, subst, append_assoc, append-nil}
use Rattle.std.specs.List.{AllByRecursion}
use Rattle.std.specs.Str.{bytes_eq}
use Rattle.graphql_tokens.specs.declared.pos.Pos.{Pos}
use Rattle.graphql_tokens.specs.declared.pos.Positioned.{Positioned}
use Rattle.graphql_syntax.specs.trees.Parts.{Name}
use Rattle.graphql_trees.specs.trees.Request.{OperationDefinition, operations_of, Document}
use Rattle.graphql_reading.proofs.IgnoresPlaces.{head-is, tail-is}
use Rattle.graphql_grammar.proofs.Unbroken.{not-nil}
use Rattle.graphql_grammar.specs.answers.Answers.{AreUnbroken}
use Rattle.graphql_grammar.specs.answers.Breaches.{or_else}
use Rattle.graphql_grammar.specs.declared.error.Error.TheVariants.{MultipleOperations, OperationDuplicated, FragmentDuplicated}
use Rattle.graphql_requests.specs.grammar.Documents.{named_operations, fragments, operations_beside, document_of}
use Rattle.graphql_grammar.specs.grammar.Placeless.{unplaced}
use Rattle.graphql_requests.specs.grammar.Placeless.{placeless_operation, placeless_fragment, placeless_definition}
use Rattle.graphql_requests.specs.grammar.Request.{Definition, operation, fragment}
use Rattle.graphql_requests.specs.grammar.Requests.{requests}
use Rattle.graphql_requests.specs.grammar.Rules.{first_operation, first_anonymous, first_operation_named, first_fragment_named, breach_of, lack_of, missing_operation}
use Rattle.graphql_printer.specs.inner.Places.{stands_before}
use Rattle.graphql_printer.specs.inner.ShownRequests.{Operation, Fragment, an_operation, a_fragment, after_fragments, arranged, definitions_in}

-- ---- the operations of a list, with or without names

abbrev operations_in : List Definition → List Operation
operations_in [] = []
operations_in (operation name o ∷ ds) = (name, o) ∷ operations_in ds
operations_in (fragment name f ∷ ds) = operations_in ds

operations-append : (xs ys : List Definition) → operations_in (xs ++ ys) ≡ operations_in xs ++ operations_in ys
operations-append [] ys = refl
operations-append (operation name o ∷ xs) ys = ap (λ (l : List Operation). (name, o) ∷ l) (operations-append xs ys)
operations-append (fragment name f ∷ xs) ys = operations-append xs ys

fragments-append : (xs ys : List Definition) → fragments (xs ++ ys) ≡ fragments xs ++ fragments ys
fragments-append [] ys = refl
fragments-append (operation name o ∷ xs) ys = fragments-append xs ys
fragments-append (fragment name f ∷ xs) ys = ap (λ (l : List Fragment). (name, f) ∷ l) (fragments-append xs ys)

-- ---- what operations alone decide, and what fragments do

abbrev alone : List Operation → List Definition
alone os = map an_operation os

first-alone : (ds : List Definition) → first_operation ds ≡ first_operation (alone (operations_in ds))
first-alone [] = refl
first-alone (operation name o ∷ ds) = refl
first-alone (fragment name f ∷ ds) = first-alone ds

anonymous-alone : (ds : List Definition) → first_anonymous ds ≡ first_anonymous (alone (operations_in ds))
anonymous-alone [] = refl
anonymous-alone (operation None o ∷ ds) = refl
anonymous-alone (operation (Some name) o ∷ ds) = anonymous-alone ds
anonymous-alone (fragment name f ∷ ds) = anonymous-alone ds

named-alone : (name : Name) (ds : List Definition) → first_operation_named name ds ≡ first_operation_named name (alone (operations_in ds))
named-alone name [] = refl
named-alone name (operation None o ∷ ds) = named-alone name ds
named-alone name (operation (Some other) o ∷ ds) = ap (cond (bytes_eq name other) (Some o.pos)) (named-alone name ds)
named-alone name (fragment other f ∷ ds) = named-alone name ds

fragment-alone : (name : Name) (ds : List Definition) → first_fragment_named name ds ≡ first_fragment_named name (map a_fragment (fragments ds))
fragment-alone name [] = refl
fragment-alone name (operation other o ∷ ds) = fragment-alone name ds
fragment-alone name (fragment other f ∷ ds) = ap (cond (bytes_eq name other) (Some f.pos)) (fragment-alone name ds)

breach-operation : (before : List Definition) (o : Operation) → breach_of before (an_operation o) ≡ breach_of (alone (operations_in before)) (an_operation o)
breach-operation before (None, o) = ap (option_map (λ first. MultipleOperations o.pos first)) (first-alone before)
breach-operation before (Some name, o) =
    ap₂ (λ (x y : Option Pos). or_else (option_map (λ anonymous. MultipleOperations anonymous o.pos) x) (option_map (λ first. OperationDuplicated name first o.pos) y))
    (anonymous-alone before) (named-alone name before)

breach-fragment : (before : List Definition) (f : Fragment) → breach_of before (a_fragment f) ≡ breach_of (map a_fragment (fragments before)) (a_fragment f)
breach-fragment before f = ap (option_map (λ first. FragmentDuplicated f.0 first f.1.pos)) (fragment-alone f.0 before)

lack-alone : (ds : List Definition) → lack_of ds ≡ lack_of (alone (operations_in ds))
lack-alone ds = ap missing_operation (first-alone ds)

names-alone : (ds : List Definition) → named_operations ds ≡ named_operations (alone (operations_in ds))
names-alone [] = refl
names-alone (operation None o ∷ ds) = names-alone ds
names-alone (operation (Some name) o ∷ ds) = ap (λ (l : List (Name × Positioned OperationDefinition)). (name, o) ∷ l) (names-alone ds)
names-alone (fragment name f ∷ ds) = names-alone ds

beside-alone : (named : List (Name × Positioned OperationDefinition)) (ds : List Definition) → operations_beside named ds ≡ operations_beside named (alone (operations_in ds))
beside-alone named [] = refl
beside-alone named (operation None o ∷ ds) = refl
beside-alone named (operation (Some name) o ∷ ds) = beside-alone named ds
beside-alone named (fragment name f ∷ ds) = beside-alone named ds

-- ---- a part stands in a list where its entry stands among the entries

record Comes {E : Type 0} (entries : List Definition → List E) (made : E → Definition) (ds : List Definition) (before : List E) (e : E) : Type 0 where
  first : List Definition
  rest : List Definition
  split : ds ≡ first ++ made e ∷ rest
  same : entries first ≡ before

operation-comes : (ds : List Definition) (before : List Operation) (o : Operation) (after : List Operation) → operations_in ds ≡ before ++ o ∷ after → Comes operations_in an_operation ds before o
operation-comes [] before o after h = absurd (not-nil o before after h)
operation-comes (operation name p ∷ ds) [] o after h = record { first = []; rest = ds; split = ap (λ (x : Operation). an_operation x ∷ ds) (head-is (name, p) o (operations_in ds) after h); same = refl }
operation-comes (operation name p ∷ ds) (b ∷ before) o after h =
    let m = operation-comes ds before o after (tail-is (name, p) b (operations_in ds) (before ++ o ∷ after) h) in
    record {
      first = operation name p ∷ m.first;
      rest = m.rest;
      split = ap (λ (l : List Definition). operation name p ∷ l) m.split;
      same = ap (λ (l : List Operation). (name, p) ∷ l) m.same ∙ ap (λ (x : Operation). x ∷ before) (head-is (name, p) b (operations_in ds) (before ++ o ∷ after) h);
    }
operation-comes (fragment name f ∷ ds) before o after h =
    let m = operation-comes ds before o after h in
    record { first = fragment name f ∷ m.first; rest = m.rest; split = ap (λ (l : List Definition). fragment name f ∷ l) m.split; same = m.same }

fragment-comes : (ds : List Definition) (before : List Fragment) (f : Fragment) (after : List Fragment) → fragments ds ≡ before ++ f ∷ after → Comes fragments a_fragment ds before f
fragment-comes [] before f after h = absurd (not-nil f before after h)
fragment-comes (fragment name g ∷ ds) [] f after h = record { first = []; rest = ds; split = ap (λ (x : Fragment). a_fragment x ∷ ds) (head-is (name, g) f (fragments ds) after h); same = refl }
fragment-comes (fragment name g ∷ ds) (b ∷ before) f after h =
    let m = fragment-comes ds before f after (tail-is (name, g) b (fragments ds) (before ++ f ∷ after) h) in
    record {
      first = fragment name g ∷ m.first;
      rest = m.rest;
      split = ap (λ (l : List Definition). fragment name g ∷ l) m.split;
      same = ap (λ (l : List Fragment). (name, g) ∷ l) m.same ∙ ap (λ (x : Fragment). x ∷ before) (head-is (name, g) b (fragments ds) (before ++ f ∷ after) h);
    }
fragment-comes (operation name o ∷ ds) before f after h =
    let m = fragment-comes ds before f after h in
    record { first = operation name o ∷ m.first; rest = m.rest; split = ap (λ (l : List Definition). operation name o ∷ l) m.split; same = m.same }

-- ---- lists with the same operations and the same fragments

pub record AreAlike (ds es : List Definition) : Type 0 where
  pub operations : operations_in es ≡ operations_in ds
  pub fragments : fragments es ≡ fragments ds

pub unbroken-alike : (ds es : List Definition) → AreAlike ds es → AreUnbroken requests ds → AreUnbroken requests es
unbroken-alike ds es alike unbroken before (operation name o) after split =
    let m = operation-comes ds (operations_in before) (name, o) (operations_in after) (sym alike.operations ∙ ap operations_in split ∙ operations-append before (operation name o ∷ after)) in
    let keeps : breach_of m.first (operation name o) ≡ None = unbroken m.first (operation name o) m.rest m.split in
    breach-operation before (name, o) ∙ ap (λ (l : List Operation). breach_of (alone l) (operation name o)) (sym m.same) ∙ sym (breach-operation m.first (name, o)) ∙ keeps
unbroken-alike ds es alike unbroken before (fragment name f) after split =
    let m = fragment-comes ds (fragments before) (name, f) (fragments after) (sym alike.fragments ∙ ap fragments split ∙ fragments-append before (fragment name f ∷ after)) in
    let keeps : breach_of m.first (fragment name f) ≡ None = unbroken m.first (fragment name f) m.rest m.split in
    breach-fragment before (name, f) ∙ ap (λ (l : List Fragment). breach_of (map a_fragment l) (fragment name f)) (sym m.same) ∙ sym (breach-fragment m.first (name, f)) ∙ keeps

pub complete-alike : (ds es : List Definition) → AreAlike ds es → lack_of ds ≡ None → lack_of es ≡ None
complete-alike ds es alike h = lack-alone es ∙ ap (λ (l : List Operation). lack_of (alone l)) alike.operations ∙ sym (lack-alone ds) ∙ h

abbrev document_by : List Operation → List Fragment → Document
document_by os fs = record { operations = operations_beside (named_operations (alone os)) (alone os); fragments = fs }

document-by : (ds : List Definition) → document_of ds ≡ document_by (operations_in ds) (fragments ds)
document-by ds = λ i. record { operations = by i; fragments = fragments ds }
  where
    by : operations_beside (named_operations ds) ds ≡ operations_beside (named_operations (alone (operations_in ds))) (alone (operations_in ds))
    by = beside-alone (named_operations ds) ds ∙ ap (λ (l : List _). operations_beside l (alone (operations_in ds))) (names-alone ds)

pub document-alike : (ds es : List Definition) → AreAlike ds es → document_of es ≡ document_of ds
document-alike ds es alike = document-by es ∙ ap₂ document_by alike.operations alike.fragments ∙ sym (document-by ds)

-- the same holds without places
placeless-operations : (ds : List Definition) → operations_in (map placeless_definition ds) ≡ map (λ o. (o.0, unplaced placeless_operation o.1)) (operations_in ds)
placeless-operations [] = refl
placeless-operations (operation name o ∷ ds) = ap (λ (l : List Operation). (name, unplaced placeless_operation o) ∷ l) (placeless-operations ds)
placeless-operations (fragment name f ∷ ds) = placeless-operations ds

placeless-fragments : (ds : List Definition) → fragments (map placeless_definition ds) ≡ map (λ f. (f.0, unplaced placeless_fragment f.1)) (fragments ds)
placeless-fragments [] = refl
placeless-fragments (operation name o ∷ ds) = placeless-fragments ds
placeless-fragments (fragment name f ∷ ds) = ap (λ (l : List Fragment). (name, unplaced placeless_fragment f) ∷ l) (placeless-fragments ds)

pub placeless-alike : (ds es : List Definition) → AreAlike ds es → AreAlike (map placeless_definition ds) (map placeless_definition es)
placeless-alike ds es alike = record {
  operations = placeless-operations es ∙ ap (map (λ o. (o.0, unplaced placeless_operation o.1))) alike.operations ∙ sym (placeless-operations ds);
  fragments = placeless-fragments es ∙ ap (map (λ f. (f.0, unplaced placeless_fragment f.1))) alike.fragments ∙ sym (placeless-fragments ds);
}

-- ---- in the order in which they are printed

operations-none : (fs : List Fragment) → operations_in (map a_fragment fs) ≡ []
operations-none [] = refl
operations-none (f ∷ fs) = operations-none fs

fragments-all : (fs : List Fragment) → fragments (map a_fragment fs) ≡ fs
fragments-all [] = refl
fragments-all (f ∷ fs) = ap (λ (l : List Fragment). f ∷ l) (fragments-all fs)

operations-after : (pos : Pos) (o : Operation) (os : List Operation) (others : List Fragment → List Definition) (fs : List Fragment) → ((left : List Fragment) → operations_in (others left) ≡ os)
    → operations_in (after_fragments pos (an_operation o) others fs) ≡ o ∷ os
operations-after pos o os others [] h = ap (λ (l : List Operation). o ∷ l) (h [])
operations-after pos o os others (f ∷ fs) h = go (operations-after pos o os others fs h) (stands_before f.1.pos pos)
  where
    go : operations_in (after_fragments pos (an_operation o) others fs) ≡ o ∷ os → (b : Bool) → operations_in (if b then a_fragment f ∷ after_fragments pos (an_operation o) others fs else an_operation o ∷ others (f ∷ fs)) ≡ o ∷ os
    go more true = more
    go more false = ap (λ (l : List Operation). o ∷ l) (h (f ∷ fs))

fragments-after : (pos : Pos) (o : Operation) (others : List Fragment → List Definition) (fs : List Fragment) → ((left : List Fragment) → fragments (others left) ≡ left)
    → fragments (after_fragments pos (an_operation o) others fs) ≡ fs
fragments-after pos o others [] h = h []
fragments-after pos o others (f ∷ fs) h = go (fragments-after pos o others fs h) (stands_before f.1.pos pos)
  where
    go : fragments (after_fragments pos (an_operation o) others fs) ≡ fs → (b : Bool) → fragments (if b then a_fragment f ∷ after_fragments pos (an_operation o) others fs else an_operation o ∷ others (f ∷ fs)) ≡ f ∷ fs
    go more true = ap (λ (l : List Fragment). f ∷ l) more
    go more false = h (f ∷ fs)

operations-arranged : (os : List Operation) (fs : List Fragment) → operations_in (arranged os fs) ≡ os
operations-arranged [] fs = operations-none fs
operations-arranged (o ∷ os) fs = operations-after o.1.pos o os (arranged os) fs (operations-arranged os)

fragments-arranged : (os : List Operation) (fs : List Fragment) → fragments (arranged os fs) ≡ fs
fragments-arranged [] fs = fragments-all fs
fragments-arranged (o ∷ os) fs = fragments-after o.1.pos o (arranged os) fs (fragments-arranged os)

-- what holds of each operation and of each fragment
module _ (P : Definition → Type 0) where
  abbrev OfOperation : Operation → Type 0
  OfOperation o = P (an_operation o)

  abbrev OfFragment : Fragment → Type 0
  OfFragment f = P (a_fragment f)

  each-operation : (ds : List Definition) → AllByRecursion P ds → AllByRecursion OfOperation (operations_in ds)
  each-operation [] h = tt
  each-operation (operation name o ∷ ds) h = (h.0, each-operation ds h.1)
  each-operation (fragment name f ∷ ds) h = each-operation ds h.1

  each-fragment : (ds : List Definition) → AllByRecursion P ds → AllByRecursion OfFragment (fragments ds)
  each-fragment [] h = tt
  each-fragment (operation name o ∷ ds) h = each-fragment ds h.1
  each-fragment (fragment name f ∷ ds) h = (h.0, each-fragment ds h.1)

  of-fragments : (fs : List Fragment) → AllByRecursion OfFragment fs → AllByRecursion P (map a_fragment fs)
  of-fragments [] h = tt
  of-fragments (f ∷ fs) h = (h.0, of-fragments fs h.1)

  each-after : (pos : Pos) (o : Operation) (others : List Fragment → List Definition) (fs : List Fragment) → OfOperation o → AllByRecursion OfFragment fs → ((left : List Fragment) → AllByRecursion OfFragment left → AllByRecursion P (others left))
      → AllByRecursion P (after_fragments pos (an_operation o) others fs)
  each-after pos o others [] h k more = (h, more [] tt)
  each-after pos o others (f ∷ fs) h k more = go (each-after pos o others fs h k.1 more) (stands_before f.1.pos pos)
    where
      go : AllByRecursion P (after_fragments pos (an_operation o) others fs) → (b : Bool) → AllByRecursion P (if b then a_fragment f ∷ after_fragments pos (an_operation o) others fs else an_operation o ∷ others (f ∷ fs))
      go later true = (k.0, later)
      go later false = (h, more (f ∷ fs) k)

  each-arranged : (os : List Operation) (fs : List Fragment) → AllByRecursion OfOperation os → AllByRecursion OfFragment fs → AllByRecursion P (arranged os fs)
  each-arranged [] fs h k = of-fragments fs k
  each-arranged (o ∷ os) fs h k = each-after o.1.pos o (arranged os) fs h.0 k (λ left more. each-arranged os left h.1 more)

-- ---- the operations of a document that breaks no rule

-- a rest of definitions breaks no rule after these
abbrev BreaksNone : List Definition → List Definition → Type 0
BreaksNone before rest = (front : List Definition) (d : Definition) (after : List Definition) → rest ≡ front ++ d ∷ after → breach_of (before ++ front) d ≡ None

first-keeps : (before : List Definition) (d : Definition) (rest : List Definition) → BreaksNone before (d ∷ rest) → breach_of before d ≡ None
first-keeps before d rest h = ap (λ (l : List Definition). breach_of l d) (sym (append-nil before)) ∙ h [] d rest refl

rest-keeps : (before : List Definition) (d : Definition) (rest : List Definition) → BreaksNone before (d ∷ rest) → BreaksNone (before ++ d ∷ []) rest
rest-keeps before d rest h front e after split =
    ap (λ (l : List Definition). breach_of l e) (append_assoc before (d ∷ []) front) ∙ h (d ∷ front) e after (ap (λ (l : List Definition). d ∷ l) split)

told-none : {A B : Type 0} (f : A → B) (x : Option A) → option_map f x ≡ None → x ≡ None
told-none f None e = refl
told-none f (Some a) e = absurd cc

either-none : {A : Type 0} (x y : Option A) → or_else x y ≡ None → x ≡ None
either-none None y e = refl
either-none (Some a) y e = absurd cc

not-some : {A : Type 0} (a : A) → Some a ≡ None → ⊥
not-some a e = cc

no-operations : (ds : List Definition) → first_operation ds ≡ None → operations_in ds ≡ []
no-operations [] e = refl
no-operations (operation name o ∷ ds) e = absurd (not-some o.pos e)
no-operations (fragment name f ∷ ds) e = no-operations ds e

-- an operation without a name among those before
data HasAnonymous (before : List Definition) : Type 0 where
  at : (first : List Definition) (o : Positioned OperationDefinition) (rest : List Definition) → before ≡ first ++ operation None o ∷ rest → HasAnonymous before

anonymous-found : (first : List Definition) (o : Positioned OperationDefinition) (rest : List Definition) → first_anonymous (first ++ operation None o ∷ rest) ≡ None → ⊥
anonymous-found [] o rest e = not-some o.pos e
anonymous-found (operation None p ∷ first) o rest e = not-some p.pos e
anonymous-found (operation (Some name) p ∷ first) o rest e = anonymous-found first o rest e
anonymous-found (fragment name f ∷ first) o rest e = anonymous-found first o rest e

operation-found : (first : List Definition) (o : Positioned OperationDefinition) (rest : List Definition) → first_operation (first ++ operation None o ∷ rest) ≡ None → ⊥
operation-found [] o rest e = not-some o.pos e
operation-found (operation name p ∷ first) o rest e = not-some p.pos e
operation-found (fragment name f ∷ first) o rest e = operation-found first o rest e

none-after : (before rest : List Definition) → HasAnonymous before → BreaksNone before rest → operations_in rest ≡ []
none-after before [] has h = refl
none-after before (operation None o ∷ rest) (at first p more e) h =
    absurd (operation-found first p more (sym (ap first_operation e) ∙ told-none (λ place. MultipleOperations o.pos place) (first_operation before) (first-keeps before (operation None o) rest h)))
none-after before (operation (Some name) o ∷ rest) (at first p more e) h =
    absurd (anonymous-found first p more (sym (ap first_anonymous e) ∙ told-none (λ anonymous. MultipleOperations anonymous o.pos) (first_anonymous before)
    (either-none (option_map (λ anonymous. MultipleOperations anonymous o.pos) (first_anonymous before)) (option_map (λ place. OperationDuplicated name place o.pos) (first_operation_named name before)) (first-keeps before (operation (Some name) o) rest h))))
none-after before (fragment name f ∷ rest) (at first p more e) h =
    none-after (before ++ fragment name f ∷ []) rest
    (at first p (more ++ fragment name f ∷ []) (ap (λ (l : List Definition). l ++ fragment name f ∷ []) e ∙ append_assoc first (operation None p ∷ more) (fragment name f ∷ [])))
    (rest-keeps before (fragment name f) rest h)

abbrev Named : Type 0
Named = Name × Positioned OperationDefinition

abbrev with_name : Named → Operation
with_name e = (Some e.0, e.1)

map-last : (es : List Named) (e : Named) → map with_name (es ++ e ∷ []) ≡ map with_name es ++ with_name e ∷ []
map-last [] e = refl
map-last (d ∷ es) e = ap (λ (l : List Operation). with_name d ∷ l) (map-last es e)

beside-are : (before rest : List Definition) (named : List Named) → BreaksNone before rest → operations_in before ≡ map with_name named
    → operations_of (operations_beside (named ++ named_operations rest) rest) ≡ operations_in before ++ operations_in rest
beside-are before [] named h e = ap (map with_name) (append-nil named) ∙ sym e ∙ sym (append-nil (operations_in before))
beside-are before (operation None o ∷ rest) named h e =
    let none = no-operations before (told-none (λ place. MultipleOperations o.pos place) (first_operation before) (first-keeps before (operation None o) rest h)) in
    let others = none-after (before ++ operation None o ∷ []) rest (at before o [] refl) (rest-keeps before (operation None o) rest h) in
    sym (ap₂ (λ (l m : List Operation). l ++ (None, o) ∷ m) none others)
beside-are before (operation (Some name) o ∷ rest) named h e =
    let d = operation (Some name) o in
    let now : operations_in (before ++ d ∷ []) ≡ map with_name (named ++ (name, o) ∷ []) =
    operations-append before (d ∷ []) ∙ ap (λ (l : List Operation). l ++ (Some name, o) ∷ []) e ∙ sym (map-last named (name, o)) in
    ap (λ (l : List Named). operations_of (operations_beside l rest)) (sym (append_assoc named ((name, o) ∷ []) (named_operations rest)))
    ∙ beside-are (before ++ d ∷ []) rest (named ++ (name, o) ∷ []) (rest-keeps before d rest h) now
    ∙ ap (λ (l : List Operation). l ++ operations_in rest) (operations-append before (d ∷ []))
    ∙ append_assoc (operations_in before) ((Some name, o) ∷ []) (operations_in rest)
beside-are before (fragment name f ∷ rest) named h e =
    let d = fragment name f in
    let same : operations_in (before ++ d ∷ []) ≡ operations_in before = operations-append before (d ∷ []) ∙ append-nil (operations_in before) in
    beside-are (before ++ d ∷ []) rest named (rest-keeps before d rest h) (same ∙ e) ∙ ap (λ (l : List Operation). l ++ operations_in rest) same

operations-of-document : (ds : List Definition) → AreUnbroken requests ds → operations_of (document_of ds).operations ≡ operations_in ds
operations-of-document ds unbroken = beside-are [] ds [] (λ front d after split. unbroken front d after split) refl

definitions-are : (ds : List Definition) → AreUnbroken requests ds → definitions_in (document_of ds) ≡ arranged (operations_in ds) (fragments ds)
definitions-are ds unbroken = ap (λ (os : List Operation). arranged os (fragments ds)) (operations-of-document ds unbroken)

pub definitions-alike : (ds : List Definition) → AreUnbroken requests ds → AreAlike ds (definitions_in (document_of ds))
definitions-alike ds unbroken = record {
  operations = ap operations_in (definitions-are ds unbroken) ∙ operations-arranged (operations_in ds) (fragments ds);
  fragments = ap fragments (definitions-are ds unbroken) ∙ fragments-arranged (operations_in ds) (fragments ds);
}

-- what holds of each definition holds of each that is printed
pub each-printed : (P : Definition → Type 0) (ds : List Definition) → AreUnbroken requests ds → AllByRecursion P ds → AllByRecursion P (definitions_in (document_of ds))
each-printed P ds unbroken h =
    subst (AllByRecursion P) (sym (definitions-are ds unbroken)) (each-arranged P (operations_in ds) (fragments ds) (each-operation P ds h) (each-fragment P ds h))
