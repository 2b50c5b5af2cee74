-- Which word a hint asks for.
use Rattle.std.proofs.Common.{◌≡◌, ◌⊎◌, inl, inr, ℕ, suc, zero, ◌<◌, Bool, true, false, ◌||◌, List, [], ◌∷◌, Result, Ok, Err, length, get_or, refl, sym, ap, subst, ◌∙◌, append-nil, arith}
use Rattle.std.specs.Borrow.{Bor}
use Rattle.std.specs.Prelude.{Option, None, IfOk}
use Rattle.std.specs.List.{Contains}
use Rattle.std.specs.Str.{bytes_eq}
use Rattle.std.proofs.lemmas.List.Elements.{Contains-append_left, Contains-append_right, Contains-push}
use Rattle.std.proofs.lemmas.Slice.Eq.{bytes_eq-Decides}
use Rattle.graphql_tokens.specs.tokens.Token.{Bare}
use Rattle.graphql_report.specs.declared.fronts.Language.{Language}
use Rattle.graphql_report.specs.inner.Called.{texts}
use Rattle.graphql_report.specs.inner.Told.{AddsHint, AddsMeant, IsGuess}
use Rattle.graphql_report.specs.reports.Expected.{quoted}
use Rattle.graphql_report.specs.reports.Hints.{is_among, IsWordOf, none, meant, word_of}

pub among-contains : (names : List (List ℕ)) (name : List ℕ) → is_among names name ≡ true → Contains names name
among-contains [] name h = absurd cc
among-contains (first ∷ names) name h = go (among-contains names name) (bytes_eq first name) refl
  where
    go : (is_among names name ≡ true → Contains names name) → (b : Bool) → bytes_eq first name ≡ b → Contains (first ∷ names) name
    go later true e = subst (Contains (first ∷ names)) ((bytes_eq-Decides first name).0 e) (Contains-append_left (first ∷ []) names first (Contains-push [] first))
    go later false e = Contains-append_right (first ∷ []) names name (later (sym (ap (λ b. b || is_among names name) e) ∙ h))

text-within : (names : List (Bor (List ℕ))) (k : ℕ) (name : Bor (List ℕ)) → k < length names → Contains (texts names) (get_or names k name).now
text-within [] k name low = absurd (omega arith)
text-within (first ∷ names) zero name low = Contains-append_left (first.now ∷ []) (texts names) first.now (Contains-push [] first.now)
text-within (first ∷ names) (suc k) name low = Contains-append_right (first.now ∷ []) (texts names) (get_or names k name).now (text-within names k name (omega arith))

-- the guess is one as before, or a word of the name at this place
pub next-guess : (names : List (Bor (List ℕ))) (k : ℕ) (name : Bor (List ℕ)) (old new : List ℕ) → k < length names → IsGuess (texts names) old → (new ≡ old) ⊎ IsWordOf (get_or names k name).now new → IsGuess (texts names) new
next-guess names k name old new low guess (inl same) = subst (IsGuess (texts names)) (sym same) guess
next-guess names k name old new low guess (inr is) = inr ((get_or names k name).now, text-within names k name low, is)

-- ---- what is told

pub no-hint : (language : Language) (token : Bare) (names : List (List ℕ)) (old : List ℕ) → AddsHint language token names old old None
no-hint language token names old = ([], sym (append-nil old), none refl refl)

meant-told : (language : Language) (token : Bare) (names : List (List ℕ)) (word old new : List ℕ) (asked : Option (List ℕ)) → AddsMeant word old new asked → IsGuess names word → AddsHint language token names old new asked
meant-told language token names word old new asked (inl (empty, e, is)) guess = ([], e ∙ sym (append-nil old), none refl is)
meant-told language token names word old new asked (inr (some, e, is)) (inl empty) = absurd (some empty)
meant-told language token names word old new asked (inr (some, e, is)) (inr expected) = (_, e, meant word expected refl is)

pub meant-result : {E : Type 0} (result : Result (Option (Bor (List ℕ))) E) (language : Language) (token : Bare) (names : List (List ℕ)) (word old new : List ℕ) → IfOk result (λ given. AddsMeant word old new (word_of given)) → IsGuess names word → IfOk result (λ given. AddsHint language token names old new (word_of given))
meant-result (Ok given) language token names word old new told guess = meant-told language token names word old new (word_of given) told guess
meant-result (Err refused) language token names word old new told guess = tt

-- an expected keyword
pub expected-meant : (names : List (List ℕ)) (word : List ℕ) → is_among names (quoted word) ≡ true → IsGuess names word
expected-meant names word h = inr (quoted word, among-contains names (quoted word) h, inl refl)
