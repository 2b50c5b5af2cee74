-- The samples that are taken, one more at a time.
use Rattle.std.proofs.Common.{◌≡◌, ℕ, ◌+◌, ◌<◌, Bool, true, false, cond, List, [], ◌∷◌, ◌++◌, length, take, get_or, refl, sym, ap, ◌∙◌, subst}
use Rattle.std.proofs.lemmas.List.{take_more, map_push}
use Rattle.std.specs.Borrow.{Bor}
use Rattle.graphql_reading.specs.grammar.Limits.{Limits}
use Rattle.graphql_report.specs.declared.fronts.Language.{Language}
use Rattle.graphql_report.specs.reports.Expected.{TellsFrontOf, with_sample, Samples, AreTaken}
use Rattle.graphql_report.specs.inner.Called.{samples_of}

-- a sample as the code has it
abbrev Sample : Type 0
Sample = Bor (List ℕ) × Bor (List ℕ)

cond-append : (answer : Bool) (name : List ℕ) (rest more : List (List ℕ)) → cond answer (name ∷ rest) rest ++ more ≡ cond answer (name ∷ (rest ++ more)) (rest ++ more)
cond-append true name rest more = refl
cond-append false name rest more = refl

taken-more : (language : Language) (limits : Limits) (front : List ℕ) (samples : Samples) (names : List (List ℕ)) (text name : List ℕ) (answer : Bool)
    → AreTaken language limits front samples names
    → TellsFrontOf language limits (with_sample front text) answer
    → AreTaken language limits front (samples ++ (text, name) ∷ []) (names ++ cond answer (name ∷ []) [])
taken-more language limits front [] names text name answer e told = (answer, [], told, ap (λ (l : List (List ℕ)). l ++ cond answer (name ∷ []) []) e, refl)
taken-more language limits front (x ∷ samples) names text name answer h told = (
  h.0,
  h.1 ++ cond answer (name ∷ []) [],
  h.2,
  ap (λ (l : List (List ℕ)). l ++ cond answer (name ∷ []) []) h.3 ∙ cond-append h.0 x.1 h.1 (cond answer (name ∷ []) []),
  taken-more language limits front samples h.1 text name answer h.4 told,
)

-- one sample of the code's more, which is taken or isn't
pub taken-next : (language : Language) (limits : Limits) (front here : List ℕ) (samples : List Sample) (k : ℕ) (d : Sample) (names after : List (List ℕ)) (answer value : Bool)
    → k < length samples
    → here ≡ front
    → AreTaken language limits front (samples_of (take k samples)) names
    → TellsFrontOf language limits (with_sample here (get_or samples k d).0.now) answer
    → answer ≡ value
    → after ≡ names ++ cond value ((get_or samples k d).1.now ∷ []) []
    → AreTaken language limits front (samples_of (take (k + 1) samples)) after
taken-next language limits front here samples k d names after answer value h same taken told is e =
    let s : Sample = get_or samples k d in
    let tells : TellsFrontOf language limits (with_sample front s.0.now) value = subst (λ (b : Bool). TellsFrontOf language limits (with_sample front s.0.now) b) is (subst (λ (f : List ℕ). TellsFrontOf language limits (with_sample f s.0.now) answer) same told) in
    let more : AreTaken language limits front (samples_of (take k samples) ++ (s.0.now, s.1.now) ∷ []) (names ++ cond value (s.1.now ∷ []) []) = taken-more language limits front (samples_of (take k samples)) names s.0.now s.1.now value taken tells in
    let one-more : samples_of (take (k + 1) samples) ≡ samples_of (take k samples) ++ (s.0.now, s.1.now) ∷ [] = ap samples_of (take_more samples k d h) ∙ map_push (λ (s : Sample). (s.0.now, s.1.now)) (take k samples) s in
    subst (λ (l : Samples). AreTaken language limits front l after) (sym one-more) (subst (λ (n : List (List ℕ)). AreTaken language limits front (samples_of (take k samples) ++ (s.0.now, s.1.now) ∷ []) n) (sym e) more)
