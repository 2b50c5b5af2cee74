-- Any two answers for one list of tokens say the same, also where the one makes another document than the other.
use Rattle.std.proofs.Common.{◌≡◌, ◌≢◌, ◌⊎◌, inl, inr, suc, Option, None, Result, Ok, Err, String, List, [], ◌∷◌, ◌++◌, length, refl, sym, ap, ◌∙◌, subst, length-append, arith}
use Rattle.std.specs.declared.alloc.Global.{Global}
use Rattle.graphql_tokens.specs.declared.pos.Pos.{Pos}
use Rattle.graphql_tokens.specs.tokens.Edition.{Current}
use Rattle.graphql_tokens.specs.tokens.Token.{Token}
use Rattle.graphql_grammar.specs.answers.Answers.{Answers, AreTheDefinitions, AreUnbroken, Breaks, ErrorMeans, FirstBreach, HasOneAnswer, Lacks, SayTheSame}
use Rattle.graphql_grammar.specs.answers.Language.{Language, grammar}
use Rattle.graphql_grammar.specs.declared.error.Error.{Error}
use Rattle.graphql_grammar.specs.declared.error.Error.TheVariants.{Syntax, RecursionLimitExceeded, OutOfMemory}
use Rattle.graphql_grammar.specs.errors.Errors.{syntax_message, AreEqualErrors}
use Rattle.graphql_reading.specs.grammar.Fronts.{RefusedToken, Verdict, syntax, limit}
use Rattle.graphql_reading.specs.grammar.Limits.{Limits}
use Rattle.graphql_reading.proofs.IgnoresPlaces.{head-is, tail-is}
use Rattle.graphql_reading.proofs.Whole.{one-refusal}

-- ---- two splits of one list

-- both are at one position, or one of them is in the front of the other
data Positions {A : Type 0} (before : List A) (x : A) (front : List A) (y : A) : Type 0 where
  same : before ≡ front → x ≡ y → Positions before x front y
  earlier : (rest : List A) → front ≡ before ++ x ∷ rest → Positions before x front y
  later : (rest : List A) → before ≡ front ++ y ∷ rest → Positions before x front y

positions : {A : Type 0} (before : List A) (x : A) (after front : List A) (y : A) (back : List A) → before ++ x ∷ after ≡ front ++ y ∷ back → Positions before x front y
positions [] x after [] y back h = same refl (head-is x y after back h)
positions {A} [] x after (f ∷ front) y back h = earlier front (ap (λ (a : A). a ∷ front) (sym (head-is x f after (front ++ y ∷ back) h)))
positions {A} (b ∷ before) x after [] y back h = later before (ap (λ (a : A). a ∷ before) (head-is b y (before ++ x ∷ after) back h))
positions {A} (b ∷ before) x after (f ∷ front) y back h = onto (positions before x after front y back (tail-is b f (before ++ x ∷ after) (front ++ y ∷ back) h))
  where
    first : b ≡ f
    first = head-is b f (before ++ x ∷ after) (front ++ y ∷ back) h

    onto : Positions before x front y → Positions (b ∷ before) x (f ∷ front) y
    onto (same p q) = same (ap (λ (l : List A). b ∷ l) p ∙ ap (λ (a : A). a ∷ front) first) q
    onto (earlier rest p) = earlier rest (ap (λ (l : List A). f ∷ l) p ∙ ap (λ (a : A). a ∷ (before ++ x ∷ rest)) (sym first))
    onto (later rest p) = later rest (ap (λ (l : List A). b ∷ l) p ∙ ap (λ (a : A). a ∷ (front ++ y ∷ rest)) first)

same-length : {A : Type 0} (before : List A) (x : A) (front : List A) (y : A) → Positions before x front y → length before ≡ length front → x ≡ y
same-length before x front y (same p q) e = q
same-length before x front y (earlier rest p) e = absurd (omega (arith, e, ap length p ∙ length-append before (x ∷ rest)))
same-length before x front y (later rest p) e = absurd (omega (arith, e, ap length p ∙ length-append front (y ∷ rest)))

-- ---- equal errors

self-equal : (error : Error) → AreEqualErrors error error
self-equal (Syntax message start end) = (refl, refl, refl)
self-equal error = refl

equal-errors : (one other : Error) → one ≡ other → AreEqualErrors one other
equal-errors one other e = subst (AreEqualErrors one) e (self-equal one)

-- ---- what a language says of its errors

module _ {D One : Type 0} (language : Language D One) (limits : Limits) (tokens : List Token) where
  data Meaning (error : Error) : Type 0 where
    is_syntax : (message : String Global) (start : Pos) (end : Option Pos) → error ≡ Syntax message start end → ErrorMeans language limits tokens (Syntax message start end) → Meaning error
    is_limit : error ≡ RecursionLimitExceeded → RefusedToken (grammar language Current) limits tokens limit → Meaning error
    is_broken : Breaks language limits tokens error → Meaning error

  meaning : (error : Error) → ErrorMeans language limits tokens error → error ≢ OutOfMemory → Meaning error
  meaning (Syntax message start end) h known = is_syntax message start end refl h
  meaning RecursionLimitExceeded h known = is_limit refl h
  meaning OutOfMemory h known = absurd (known refl)
  meaning error h known = is_broken h

  one-refused : (v w : Verdict) (r : RefusedToken (grammar language Current) limits tokens v) (s : RefusedToken (grammar language Current) limits tokens w) → (v ≡ w) × (r.token ≡ s.token)
  one-refused v w r s =
      let one = one-refusal (grammar language Current) limits tokens (suc (length r.before)) (suc (length s.before)) v w r.refused s.refused in
      (one.1, same-length r.before r.token s.before s.token (positions r.before r.token r.after s.before s.token s.after (sym r.split ∙ s.split)) (omega (arith, one.0)))

  one-breach : (ds : List D) (one other : Error) → FirstBreach language ds one → FirstBreach language ds other → one ≡ other
  one-breach ds one other a b = by (positions a.before a.broken a.after b.before b.broken b.after (sym a.split ∙ b.split))
    where
      by : Positions a.before a.broken b.before b.broken → one ≡ other
      by (same p q) = let e = a.is in let f = b.is in let g = ap (λ (l : List D). language.breach l b.broken) p in let h = ap (language.breach a.before) q in cc
      by (earlier rest p) = let e = a.is in let none = b.unbroken_before a.before a.broken rest p in absurd cc
      by (later rest p) = let e = b.is in let none = a.unbroken_before b.before b.broken rest p in absurd cc

  not-unbroken : (ds : List D) (error : Error) (b : FirstBreach language ds error) → language.breach b.before b.broken ≡ None → ⊥
  not-unbroken ds error b none = let e = b.is in cc

  one-broken : (ds : List D) (one other : Error) → FirstBreach language ds one ⊎ Lacks language ds one → FirstBreach language ds other ⊎ Lacks language ds other → one ≡ other
  one-broken ds one other (inl a) (inl b) = one-breach ds one other a b
  one-broken ds one other (inl a) (inr b) = absurd (not-unbroken ds one a (b.unbroken a.before a.broken a.after a.split))
  one-broken ds one other (inr a) (inl b) = absurd (not-unbroken ds other b (a.unbroken b.before b.broken b.after b.split))
  one-broken ds one other (inr a) (inr b) = let e = a.is in let f = b.is in cc

  one-error : (one other : Error) → Meaning one → Meaning other → AreEqualErrors one other
  one-error one other (is_syntax message start end e h) (is_syntax another begin stop f k) =
      let at : h.0.token.pos ≡ k.0.token.pos = ap (λ (t : Token). t.pos) (one-refused syntax syntax h.0 k.0).1 in
      let place : start ≡ begin = h.1 ∙ at ∙ sym k.1 in
      rw (e, f) (h.3 ∙ ap syntax_message place ∙ sym k.3, place, h.2 ∙ sym k.2)
  one-error one other (is_syntax message start end e h) (is_limit f s) = let v = (one-refused syntax limit h.0 s).0 in absurd cc
  one-error one other (is_syntax message start end e h) (is_broken b) = absurd (h.0.no_tree b.definitions b.tree.within)
  one-error one other (is_limit e r) (is_syntax message start end f k) = let v = (one-refused limit syntax r k.0).0 in absurd cc
  one-error one other (is_limit e r) (is_limit f s) = equal-errors one other (e ∙ sym f)
  one-error one other (is_limit e r) (is_broken b) = absurd (r.no_tree b.definitions b.tree.within)
  one-error one other (is_broken a) (is_syntax message start end f k) = absurd (k.0.no_tree a.definitions a.tree.within)
  one-error one other (is_broken a) (is_limit f s) = absurd (s.no_tree a.definitions a.tree.within)
  one-error one other (is_broken a) (is_broken b) =
      let one_list : b.definitions ≡ a.definitions = a.tree.only b.definitions (limits, b.tree.within) in
      equal-errors one other (one-broken a.definitions one other a.broken (subst (λ (ds : List D). FirstBreach language ds other ⊎ Lacks language ds other) one_list b.broken))

  -- definitions that break no rule and lack nothing are no error
  not-both : (ds : List D) (error : Error) → AreTheDefinitions language limits tokens ds → AreUnbroken language ds → language.lack ds ≡ None → Meaning error → ⊥
  not-both ds error h unbroken complete (is_syntax message start end f k) = k.0.no_tree ds h.within
  not-both ds error h unbroken complete (is_limit f s) = s.no_tree ds h.within
  not-both ds error h unbroken complete (is_broken b) = by b.broken
    where
      one_list : b.definitions ≡ ds
      one_list = h.only b.definitions (limits, b.tree.within)

      by : FirstBreach language b.definitions error ⊎ Lacks language b.definitions error → ⊥
      by (inl first) = not-unbroken b.definitions error first (unbroken first.before first.broken first.after (sym one_list ∙ first.split))
      by (inr lacking) = let e = lacking.is in let same = ap language.lack one_list in cc

-- ---- another document of the same definitions

abbrev pub remade : {D One Other : Type 0} → Language D One → (List D → Other → Type 0) → Language D Other
remade language makes = record { definitions = language.definitions; placeless = language.placeless; breach = language.breach; lack = language.lack; makes = makes }

module _ {D One Other : Type 0} (language : Language D One) (makes : List D → Other → Type 0) (limits : Limits) (tokens : List Token) where
  broken-before : (ds : List D) (error : Error) → FirstBreach (remade language makes) ds error ⊎ Lacks (remade language makes) ds error → FirstBreach language ds error ⊎ Lacks language ds error
  broken-before ds error (inl b) = inl (record { before = b.before; broken = b.broken; after = b.after; split = b.split; unbroken_before = b.unbroken_before; is = b.is })
  broken-before ds error (inr b) = inr (record { unbroken = b.unbroken; is = b.is })

  meant-before : (error : Error) → Meaning (remade language makes) limits tokens error → Meaning language limits tokens error
  meant-before error (is_syntax message start end e h) = is_syntax message start end e h
  meant-before error (is_limit e r) = is_limit e r
  meant-before error (is_broken b) = is_broken (record { definitions = b.definitions; tree = b.tree; broken = broken-before b.definitions error b.broken })

  meant : (error : Error) → Answers (remade language makes) limits tokens (Err error) → error ≢ OutOfMemory → Meaning language limits tokens error
  meant error h known = meant-before error (meaning (remade language makes) limits tokens error h known)

  pub same-answer : (one : Result One Error) (other : Result Other Error) → Answers language limits tokens one → Answers (remade language makes) limits tokens other → one ≢ Err OutOfMemory → other ≢ Err OutOfMemory → SayTheSame language (remade language makes) one other
  same-answer (Ok one) (Ok other) h k some also =
      let one_list : k.0 ≡ h.0 = h.1.only k.0 (limits, k.1.within) in
      (h.0, h.2.made, subst (λ (ds : List D). makes ds other) one_list k.2.made)
  same-answer (Ok one) (Err error) h k some also = not-both language limits tokens h.0 error h.1 h.2.unbroken h.2.complete (meant error k (λ e. also (ap Err e)))
  same-answer (Err error) (Ok other) h k some also = not-both language limits tokens k.0 error k.1 k.2.unbroken k.2.complete (meaning language limits tokens error h (λ e. some (ap Err e)))
  same-answer (Err one) (Err other) h k some also =
      one-error language limits tokens one other (meaning language limits tokens one h (λ e. some (ap Err e))) (meant other k (λ e. also (ap Err e)))

pub one-answer : {D Document : Type 0} (language : Language D Document) (limits : Limits) (tokens : List Token) → HasOneAnswer language limits tokens
one-answer language limits tokens one other h k some also = same-answer language language.makes limits tokens one other h k some also
