-- What is kept of heads that break no rule, with one head more.
use Rattle.std.proofs.Common.{◌≡◌, ℕ, Bool, true, false, cond, Option, Some, None, option_map, inl, inr, List, [], ◌∷◌, ◌++◌, refl, sym, ap, ◌∙◌}
use Rattle.std.specs.BTreeMap.{BTreeMap, is_at}
use Rattle.std.specs.Borrow.{Bor}
use Rattle.std.specs.Cmp.Lexicographic.{slice_cmp, nat_list_eq_equiv}
use Rattle.std.specs.Ordering.{nat_cmp}
use Rattle.std.specs.Map.{lookup}
use Rattle.std.specs.Option.{option_or}
use Rattle.std.specs.Str.{bytes_eq}
use Rattle.std.proofs.lemmas.Slice.Eq.{bytes_eq-Decides}
use Rattle.graphql_tokens.specs.declared.pos.Pos.{Pos}
use Rattle.graphql_syntax.specs.trees.Parts.{Name}
use Rattle.graphql_parser.specs.Checking.{checked}
use Rattle.graphql_parser.specs.RequestHeads.{operation_head, fragment_head}
use Rattle.graphql_parser.specs.Sorting.{place_in, IsSorted, Tells}
use Rattle.graphql_parser.specs.declared.check.rules.Sorted.{Sorted}
use Rattle.graphql_grammar.specs.answers.Answers.{AreUnbroken, IsDocument}
use Rattle.graphql_grammar.specs.answers.Breaches.{or_else}
use Rattle.graphql_grammar.specs.declared.error.Error.{Error}
use Rattle.graphql_grammar.specs.declared.error.Error.TheVariants as errors
use Rattle.graphql_grammar.specs.declared.error.Error.TheVariants.{MultipleOperations, OperationDuplicated, FragmentDuplicated}
use Rattle.graphql_grammar.specs.reading.DocumentOf.{TellsBreach}
use Rattle.graphql_grammar.proofs.Breaches.{or-none}
use Rattle.graphql_grammar.proofs.Unbroken.{unbroken-none, unbroken-more}
use Rattle.graphql_requests.specs.grammar.Request.{Definition, operation, fragment}
use Rattle.graphql_requests.specs.grammar.Requests.{requests}
use Rattle.graphql_requests.specs.grammar.Rules.{breach_of, first_operation, first_anonymous, first_operation_named, first_fragment_named}
use Rattle.graphql_requests.proofs.OneMore.{first-more}

-- ---- what is found in the list with one more

more : {A : Type 0} (w : Bool) (a : A) (x y : Option A) → or_else (cond w (Some a) x) y ≡ cond w (Some a) (or_else x y)
more true a x y = refl
more false a x y = refl

anonymous-last : (ds : List Definition) (d : Definition) → first_anonymous (ds ++ d ∷ []) ≡ or_else (first_anonymous ds) (first_anonymous (d ∷ []))
anonymous-last [] d = refl
anonymous-last (operation None o ∷ ds) d = refl
anonymous-last (operation (Some name) o ∷ ds) d = anonymous-last ds d
anonymous-last (fragment name f ∷ ds) d = anonymous-last ds d

operation-last : (name : Name) (ds : List Definition) (d : Definition) → first_operation_named name (ds ++ d ∷ []) ≡ or_else (first_operation_named name ds) (first_operation_named name (d ∷ []))
operation-last name [] d = refl
operation-last name (operation None o ∷ ds) d = operation-last name ds d
operation-last name (operation (Some other) o ∷ ds) d =
    ap (cond (bytes_eq name other) (Some o.pos)) (operation-last name ds d)
    ∙ sym (more (bytes_eq name other) o.pos (first_operation_named name ds) (first_operation_named name (d ∷ [])))
operation-last name (fragment other f ∷ ds) d = operation-last name ds d

fragment-last : (name : Name) (ds : List Definition) (d : Definition) → first_fragment_named name (ds ++ d ∷ []) ≡ or_else (first_fragment_named name ds) (first_fragment_named name (d ∷ []))
fragment-last name [] d = refl
fragment-last name (operation other o ∷ ds) d = fragment-last name ds d
fragment-last name (fragment other f ∷ ds) d =
    ap (cond (bytes_eq name other) (Some f.pos)) (fragment-last name ds d)
    ∙ sym (more (bytes_eq name other) f.pos (first_fragment_named name ds) (first_fragment_named name (d ∷ [])))

no-anonymous : (ds : List Definition) → first_operation ds ≡ None → first_anonymous ds ≡ None
no-anonymous [] e = refl
no-anonymous (operation name o ∷ ds) e = absurd cc
no-anonymous (fragment name f ∷ ds) e = no-anonymous ds e

-- a name that isn't there is put

put : (f g : Name → Option Pos) (name : Name) (place : Pos) → ((q : Name) → f q ≡ g q) → g name ≡ None → (q : Name) → or_else (f q) (cond (bytes_eq q name) (Some place) None) ≡ cond (bytes_eq name q) (Some place) (g q)
put f g name place same none q = go (bytes_eq name q) refl
  where
    turned : bytes_eq q name ≡ bytes_eq name q
    turned = nat_list_eq_equiv.symm q name

    go : (w : Bool) → bytes_eq name q ≡ w → or_else (f q) (cond (bytes_eq q name) (Some place) None) ≡ cond (bytes_eq name q) (Some place) (g q)
    go true at =
        let it : name ≡ q = (bytes_eq-Decides name q).0 at in
        ap (λ (x : Option Pos). or_else x (cond (bytes_eq q name) (Some place) None)) (same q ∙ ap g (sym it) ∙ none)
        ∙ ap (λ (w : Bool). cond w (Some place) None) (turned ∙ at)
        ∙ sym (ap (λ (w : Bool). cond w (Some place) (g q)) at)
    go false at =
        ap (λ (w : Bool). or_else (f q) (cond w (Some place) None)) (turned ∙ at)
        ∙ or-none (f q)
        ∙ same q
        ∙ sym (ap (λ (w : Bool). cond w (Some place) (g q)) at)

-- ---- one more

no-place : (places : BTreeMap (Bor (List ℕ)) Pos) (name : Name) → places.entries ≡ [] → None ≡ place_in places name
no-place places name e = sym (ap (λ (es : List (Bor (List ℕ) × Pos)). lookup (is_at (λ key. slice_cmp nat_cmp name key.now)) es) e)

pub sorted-none : (s : Sorted) → s.first ≡ None → s.anonymous ≡ None → s.operations.entries ≡ [] → s.fragments.entries ≡ [] → IsSorted [] s
sorted-none s first anonymous o f = record {
  unbroken = unbroken-none (checked requests);
  first = sym first;
  anonymous = sym anonymous;
  operations = λ name. no-place s.operations name o;
  fragments = λ name. no-place s.fragments name f;
}

pub sorted-anonymous : (ds : List Definition) (s t : Sorted) (place : Pos) → IsSorted ds s → s.first ≡ None → t.first ≡ Some place → t.anonymous ≡ Some place → t.operations ≡ s.operations → t.fragments ≡ s.fragments → IsSorted (ds ++ operation_head None place ∷ []) t
sorted-anonymous ds s t place h none first anonymous operations fragments =
    let d : Definition = operation_head None place in
    let before : first_operation ds ≡ None = h.first ∙ none in
    record {
      unbroken = unbroken-more (checked requests) ds d h.unbroken (ap (option_map (λ first. MultipleOperations place first)) before);
      first = first-more ds d ∙ ap (λ (x : Option Pos). or_else x (Some place)) before ∙ sym first;
      anonymous = anonymous-last ds d ∙ ap (λ (x : Option Pos). or_else x (Some place)) (no-anonymous ds before) ∙ sym anonymous;
      operations = λ name. operation-last name ds d ∙ or-none (first_operation_named name ds) ∙ h.operations name ∙ ap (λ m. place_in m name) (sym operations);
      fragments = λ name. fragment-last name ds d ∙ or-none (first_fragment_named name ds) ∙ h.fragments name ∙ ap (λ m. place_in m name) (sym fragments);
    }

-- after operations with names, only an operation of the name breaks a rule
pub named-breach : (ds : List Definition) (s : Sorted) (name : Name) (place : Pos) → IsSorted ds s → s.anonymous ≡ None → breach_of ds (operation_head (Some name) place) ≡ option_map (λ first. OperationDuplicated name first place) (place_in s.operations name)
named-breach ds s name place h none =
    ap (λ (x : Option Pos). or_else (option_map (λ anonymous. MultipleOperations anonymous place) x) (option_map (λ first. OperationDuplicated name first place) (first_operation_named name ds))) (h.anonymous ∙ none)
    ∙ ap (option_map (λ first. OperationDuplicated name first place)) (h.operations name)

pub fragment-breach : (ds : List Definition) (s : Sorted) (name : Name) (place : Pos) → IsSorted ds s → breach_of ds (fragment_head name place) ≡ option_map (λ first. FragmentDuplicated name first place) (place_in s.fragments name)
fragment-breach ds s name place h = ap (option_map (λ first. FragmentDuplicated name first place)) (h.fragments name)

pub sorted-operation : (ds : List Definition) (s t : Sorted) (name : Name) (place : Pos) → IsSorted ds s → s.anonymous ≡ None → place_in s.operations name ≡ None → t.first ≡ option_or s.first (Some place) → t.anonymous ≡ s.anonymous → ((q : Name) → place_in t.operations q ≡ cond (bytes_eq name q) (Some place) (place_in s.operations q)) → t.fragments ≡ s.fragments → IsSorted (ds ++ operation_head (Some name) place ∷ []) t
sorted-operation ds s t name place h none absent first anonymous operations fragments =
    let d : Definition = operation_head (Some name) place in
    record {
      unbroken = unbroken-more (checked requests) ds d h.unbroken (named-breach ds s name place h none ∙ ap (option_map (λ first. OperationDuplicated name first place)) absent);
      first = first-more ds d ∙ ap (λ (x : Option Pos). or_else x (Some place)) h.first ∙ either s.first ∙ sym first;
      anonymous = anonymous-last ds d ∙ or-none (first_anonymous ds) ∙ h.anonymous ∙ sym anonymous;
      operations = λ q. operation-last q ds d ∙ put (λ q. first_operation_named q ds) (place_in s.operations) name place h.operations absent q ∙ sym (operations q);
      fragments = λ q. fragment-last q ds d ∙ or-none (first_fragment_named q ds) ∙ h.fragments q ∙ ap (λ m. place_in m q) (sym fragments);
    }
  where
    either : (x : Option Pos) → or_else x (Some place) ≡ option_or x (Some place)
    either None = refl
    either (Some p) = refl

pub sorted-fragment : (ds : List Definition) (s t : Sorted) (name : Name) (place : Pos) → IsSorted ds s → place_in s.fragments name ≡ None → t.first ≡ s.first → t.anonymous ≡ s.anonymous → t.operations ≡ s.operations → ((q : Name) → place_in t.fragments q ≡ cond (bytes_eq name q) (Some place) (place_in s.fragments q)) → IsSorted (ds ++ fragment_head name place ∷ []) t
sorted-fragment ds s t name place h absent first anonymous operations fragments =
    let d : Definition = fragment_head name place in
    record {
      unbroken = unbroken-more (checked requests) ds d h.unbroken (fragment-breach ds s name place h ∙ ap (option_map (λ first. FragmentDuplicated name first place)) absent);
      first = first-more ds d ∙ or-none (first_operation ds) ∙ h.first ∙ sym first;
      anonymous = anonymous-last ds d ∙ or-none (first_anonymous ds) ∙ h.anonymous ∙ sym anonymous;
      operations = λ q. operation-last q ds d ∙ or-none (first_operation_named q ds) ∙ h.operations q ∙ ap (λ m. place_in m q) (sym operations);
      fragments = λ q. fragment-last q ds d ∙ put (λ q. first_fragment_named q ds) (place_in s.fragments) name place h.fragments absent q ∙ sym (fragments q);
    }

-- ---- the first head that breaks a rule

pub breaks : (ds before : List Definition) (d : Definition) (after : List Definition) (error : Error) → ds ≡ before ++ d ∷ after → AreUnbroken (checked requests) before → Tells (breach_of before d) error → TellsBreach (checked requests) ds error
breaks ds before d after (errors.Syntax message start end) split unbroken e = absurd e
breaks ds before d after errors.RecursionLimitExceeded split unbroken e = absurd e
breaks ds before d after errors.OutOfMemory split unbroken e = tt
breaks ds before d after error split unbroken e = inl (record { before = before; broken = d; after = after; split = split; unbroken_before = unbroken; is = e })

-- ---- one head alone

unbroken-one : (d : Definition) → breach_of [] d ≡ None → AreUnbroken (checked requests) (d ∷ [])
unbroken-one d e = unbroken-more (checked requests) [] d (unbroken-none (checked requests)) e

pub one-operation : (name : Option Name) (place : Pos) → IsDocument (checked requests) (operation_head name place ∷ []) tt
one-operation None place = record { unbroken = unbroken-one (operation_head None place) refl; complete = refl; made = tt }
one-operation (Some name) place = record { unbroken = unbroken-one (operation_head (Some name) place) refl; complete = refl; made = tt }

pub one-fragment : (name : Name) (place : Pos) → TellsBreach (checked requests) (fragment_head name place ∷ []) errors.MissingOperation
one-fragment name place = inr (record { unbroken = unbroken-one (fragment_head name place) refl; is = refl })
