-- What is left to be written.
use Rattle.std.proofs.Common.{◌≡◌, ◌≢◌, List, ℕ, [], ◌∷◌, ◌++◌, sym, ap, ◌∙◌, append_assoc, append-nil, subst, map}
use Rattle.graphql_tokens.specs.tokens.Cuts.{HasNoFault}
use Rattle.graphql_tokens.specs.tokens.Proper.{IsProper, AreProperButFaults}
use Rattle.graphql_tokens.specs.tokens.Token.{Token}
use Rattle.graphql_tokens.specs.declared.lexer.TokenKind.TheVariants.{Fault}
use Rattle.graphql_layout.specs.declared.ending.Ending.{Ending}
use Rattle.graphql_layout.specs.declared.ending.Ending.TheVariants.{Open}
use Rattle.graphql_layout.specs.inner.Endings.{ending_of, gap_before, joined}
use Rattle.graphql_layout.specs.texts.SameTokens.{bares}
use Rattle.graphql_layout.specs.texts.Shortened.{shortened}
use Rattle.graphql_layout.proofs.Joined.{proper_of}

-- of all tokens the rest is left, and the others are written
pub record Remains (all rest : List Token) (ending : Ending) (out : List ℕ) : Type 0 where
  pub written : out ++ joined ending (map shortened (bares rest)) ≡ joined Open (map shortened (bares all))
  pub proper : AreProperButFaults rest
  pub here : HasNoFault all → HasNoFault rest
  pub back : HasNoFault rest → HasNoFault all

pub all_remain : (all : List Token) (out : List ℕ) → AreProperButFaults all → out ≡ [] → Remains all all Open out
all_remain all out p e = record { written = ap (λ (l : List ℕ). l ++ joined Open (map shortened (bares all))) e; proper = p; here = λ h. h; back = λ h. h }

pub next_proper : (all rest more : List Token) (ending : Ending) (t : Token) (out : List ℕ) → Remains all rest ending out → rest ≡ t ∷ more → t.bare.kind ≢ Fault → IsProper t
next_proper all rest more ending t out r is kind = proper_of t kind (subst AreProperButFaults is r.proper).0

pub one_less : (all rest more : List Token) (ending next : Ending) (t : Token) (out longer : List ℕ) → Remains all rest ending out → rest ≡ t ∷ more → t.bare.kind ≢ Fault
    → longer ≡ out ++ (gap_before ending (shortened t.bare).spelling ++ (shortened t.bare).spelling) → next ≡ ending_of (shortened t.bare) → Remains all more next longer
one_less all rest more ending next t out longer r is kind e n =
    let b = shortened t.bare in
    let gap = gap_before ending b.spelling in
    let last = joined (ending_of b) (map shortened (bares more)) in
    let step : joined ending (map shortened (bares rest)) ≡ (gap ++ b.spelling) ++ last = ap (λ (l : List Token). joined ending (map shortened (bares l))) is ∙ sym (append_assoc gap b.spelling last) in
    record {
      written = ap (λ (x : Ending). longer ++ joined x (map shortened (bares more))) n ∙ ap (λ (l : List ℕ). l ++ last) e ∙ append_assoc out (gap ++ b.spelling) last ∙ ap (λ (l : List ℕ). out ++ l) (sym step) ∙ r.written;
      proper = (subst AreProperButFaults is r.proper).1;
      here = λ h. (subst HasNoFault is (r.here h)).1;
      back = λ h. r.back (subst HasNoFault (sym is) (kind, h));
    }

pub none_remain : (all rest : List Token) (ending : Ending) (out : List ℕ) → Remains all rest ending out → rest ≡ [] → (out ≡ joined Open (map shortened (bares all))) × HasNoFault all
none_remain all rest ending out r is = (
  sym (append-nil out) ∙ ap (λ (l : List Token). out ++ joined ending (map shortened (bares l))) (sym is) ∙ r.written,
  r.back (subst HasNoFault (sym is) tt),
)

pub fault_remains : (all rest more : List Token) (ending : Ending) (t : Token) (out : List ℕ) → Remains all rest ending out → rest ≡ t ∷ more → t.bare.kind ≡ Fault → HasNoFault all → ⊥
fault_remains all rest more ending t out r is kind n = (subst HasNoFault is (r.here n)).0 kind
