-- What the rules say of heads, they say of the definitions.
use Rattle.std.proofs.Common.{◌≡◌, inl, inr, ◌⊎◌, Result, Ok, Err, List, [], ◌∷◌, ◌++◌, map, refl, sym, ap, ◌∙◌, subst}
use Rattle.graphql_grammar.specs.answers.Answers.{AreUnbroken, FirstBreach, Lacks}
use Rattle.graphql_grammar.specs.answers.Language.{Language}
use Rattle.graphql_grammar.specs.declared.error.Error.{Error}
use Rattle.graphql_grammar.specs.declared.error.Error.TheVariants as errors
use Rattle.graphql_grammar.specs.reading.DocumentOf.{IsDocumentOf}
use Rattle.graphql_grammar.proofs.Unbroken.{not-nil}
use Rattle.graphql_reading.proofs.IgnoresPlaces.{head-is, tail-is}

-- The rules say of definitions what they say of their heads.
pub record LooksAtHeads {D Document : Type 0} (language : Language D Document) (head : D → D) : Type 0 where
  pub breach : (before : List D) (d : D) → language.breach (map head before) (head d) ≡ language.breach before d
  pub lack : (ds : List D) → language.lack (map head ds) ≡ language.lack ds
  pub makes : (ds : List D) (document : Document) → language.makes (map head ds) document → language.makes ds document

pub map-split : {A B : Type 0} (f : A → B) (before : List A) (a : A) (after : List A) → map f (before ++ a ∷ after) ≡ map f before ++ f a ∷ map f after
map-split f [] a after = refl
map-split {A} {B} f (x ∷ before) a after = ap (λ (l : List B). f x ∷ l) (map-split f before a after)

-- where a list of heads splits, the list of definitions does
pub record Splits {A B : Type 0} (f : A → B) (xs : List A) (before : List B) (b : B) : Type 0 where
  pub front : List A
  pub one : A
  pub rest : List A
  pub split : xs ≡ front ++ one ∷ rest
  pub fronts : map f front ≡ before
  pub is : f one ≡ b

pub splits : {A B : Type 0} (f : A → B) (xs : List A) (before : List B) (b : B) (after : List B) → map f xs ≡ before ++ b ∷ after → Splits f xs before b
splits f [] before b after e = absurd (not-nil b before after e)
splits f (a ∷ xs) [] b after e = record { front = []; one = a; rest = xs; split = refl; fronts = refl; is = head-is (f a) b (map f xs) after e }
splits {A} {B} f (a ∷ xs) (x ∷ before) b after e =
    let m = splits f xs before b after (tail-is (f a) x (map f xs) (before ++ b ∷ after) e) in
    record {
      front = a ∷ m.front;
      one = m.one;
      rest = m.rest;
      split = ap (λ (l : List A). a ∷ l) m.split;
      fronts = ap (λ (l : List B). f a ∷ l) m.fronts ∙ ap (λ (y : B). y ∷ before) (head-is (f a) x (map f xs) (before ++ b ∷ after) e);
      is = m.is;
    }

module _ {D Document : Type 0} (language : Language D Document) (head : D → D) (looks : LooksAtHeads language head) where
  unbroken-of : (ds : List D) → AreUnbroken language (map head ds) → AreUnbroken language ds
  unbroken-of ds h before d after split = sym (looks.breach before d) ∙ h (map head before) (head d) (map head after) (ap (map head) split ∙ map-split head before d after)

  breach-of : (ds : List D) (error : Error) → FirstBreach language (map head ds) error → FirstBreach language ds error
  breach-of ds error h =
      let m = splits head ds h.before h.broken h.after h.split in
      record {
        before = m.front;
        broken = m.one;
        after = m.rest;
        split = m.split;
        unbroken_before = unbroken-of m.front (subst (AreUnbroken language) (sym m.fronts) h.unbroken_before);
        is = sym (looks.breach m.front m.one) ∙ ap (λ (l : List D). language.breach l (head m.one)) m.fronts ∙ ap (language.breach h.before) m.is ∙ h.is;
      }

  lacks-of : (ds : List D) (error : Error) → Lacks language (map head ds) error → Lacks language ds error
  lacks-of ds error h = record { unbroken = unbroken-of ds h.unbroken; is = sym (looks.lack ds) ∙ h.is }

  told-of : (ds : List D) (error : Error) → FirstBreach language (map head ds) error ⊎ Lacks language (map head ds) error → FirstBreach language ds error ⊎ Lacks language ds error
  told-of ds error (inl h) = inl (breach-of ds error h)
  told-of ds error (inr h) = inr (lacks-of ds error h)

  pub document-of : (ds : List D) (result : Result Document Error) → IsDocumentOf language (map head ds) result → IsDocumentOf language ds result
  document-of ds (Ok document) h = record { unbroken = unbroken-of ds h.unbroken; complete = sym (looks.lack ds) ∙ h.complete; made = looks.makes ds document h.made }
  document-of ds (Err (errors.Syntax message start end)) h = absurd h
  document-of ds (Err errors.RecursionLimitExceeded) h = absurd h
  document-of ds (Err errors.OutOfMemory) h = tt
  document-of ds (Err error) h = told-of ds error h
