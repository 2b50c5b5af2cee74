-- Definitions that break no rule, with one more after them.
use Rattle.std.proofs.Common.{◌≡◌, None, List, [], ◌∷◌, ◌++◌, refl, sym, ap, ◌∙◌}
use Rattle.graphql_grammar.specs.answers.Answers.{AreUnbroken}
use Rattle.graphql_grammar.specs.answers.Language.{Language}
use Rattle.graphql_reading.proofs.IgnoresPlaces.{head-is, tail-is}

-- a definition of a list with one more at its end is that one, or stands before it
pub data Stands {D : Type 0} (ds before after : List D) (d e : D) : Type 0 where
  last : before ≡ ds → e ≡ d → Stands ds before after d e
  within : (rest : List D) → ds ≡ before ++ e ∷ rest → Stands ds before after d e

pub not-nil : {A : Type 0} (x : A) (xs ys : List A) → [] ≡ xs ++ x ∷ ys → ⊥
not-nil x [] ys e = absurd cc
not-nil x (y ∷ xs) ys e = absurd cc

stands : {D : Type 0} (ds : List D) (d : D) (before : List D) (e : D) (after : List D) → ds ++ d ∷ [] ≡ before ++ e ∷ after → Stands ds before after d e
stands [] d [] e after h = last refl (sym (head-is d e [] after h))
stands [] d (b ∷ before) e after h = absurd (not-nil e before after (tail-is d b [] (before ++ e ∷ after) h))
stands {D} (x ∷ ds) d [] e after h = within ds (ap (λ (y : D). y ∷ ds) (head-is x e (ds ++ d ∷ []) after h))
stands {D} (x ∷ ds) d (b ∷ before) e after h = onto (stands ds d before e after (tail-is x b (ds ++ d ∷ []) (before ++ e ∷ after) h))
  where
    same : x ≡ b
    same = head-is x b (ds ++ d ∷ []) (before ++ e ∷ after) h

    onto : Stands ds before after d e → Stands (x ∷ ds) (b ∷ before) after d e
    onto (last p q) = last (ap (λ (l : List D). b ∷ l) p ∙ ap (λ (y : D). y ∷ ds) (sym same)) q
    onto (within rest p) = within rest (ap (λ (y : D). y ∷ ds) same ∙ ap (λ (l : List D). b ∷ l) p)

pub unbroken-none : {D Document : Type 0} (language : Language D Document) → AreUnbroken language []
unbroken-none language before d after e = absurd (not-nil d before after e)

pub unbroken-more : {D Document : Type 0} (language : Language D Document) (ds : List D) (d : D) → AreUnbroken language ds → language.breach ds d ≡ None → AreUnbroken language (ds ++ d ∷ [])
unbroken-more {D} language ds d h k before e after same = by (stands ds d before e after same)
  where
    by : Stands ds before after d e → language.breach before e ≡ None
    by (last p q) = ap (λ (l : List D). language.breach l e) p ∙ ap (language.breach ds) q ∙ k
    by (within rest p) = h before e rest p
