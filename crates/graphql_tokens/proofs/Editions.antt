-- What the former edition cuts, the current one cuts too, and what it means by a string. Public: the crates above cite
-- these lemmas.
pub use Rattle.graphql_tokens.proofs.Contents.{former_units, former_means}
use Rattle.std.proofs.Common.{◌≡◌, ℕ, true, false, List, [], ◌∷◌, ◌++◌, sym, ap, subst}
use Rattle.std.specs.Str.{chars}
use Rattle.graphql_tokens.specs.tokens.Edition.{Former}
use Rattle.graphql_tokens.specs.tokens.Token.{Token}
use Rattle.graphql_tokens.specs.tokens.Cuts.{is_last, Cuts, IsCutInto, EndsOnce, HasNoFault}
use Rattle.graphql_tokens.specs.declared.lexer.TokenKind.TheVariants.{Fault, End}
use Rattle.graphql_tokens.proofs.Lists.{cuts_ends, cuts_later}

goes_on : (t : Token) → t.bare.kind ≡ Fault → is_last t.bare.kind ≡ false → ⊥
goes_on t fault other = let last : is_last t.bare.kind ≡ true = ap is_last fault in cc

-- a list that ends once, and by an end, has no fault
pub no_fault : (front : List Token) (e : Token) → EndsOnce (front ++ e ∷ []) → e.bare.kind ≡ End → HasNoFault (front ++ e ∷ [])
no_fault [] e ends is = (λ fault. cc, tt)
no_fault (t ∷ []) e ends is = (λ fault. goes_on t fault ends.0, no_fault [] e ends.1 is)
no_fault (t ∷ u ∷ us) e ends is = (λ fault. goes_on t fault ends.0, no_fault (u ∷ us) e ends.1 is)

-- A text that the former edition cuts into tokens of which the last is an end is cut into the same tokens now.
pub former-cuts : (text : List ℕ) (ts : List Token) → Cuts Former [] (chars text) ts → (front : List Token) (e : Token) → ts ≡ front ++ e ∷ [] → e.bare.kind ≡ End → IsCutInto text ts
former-cuts text ts cut front e is last =
    let ends : EndsOnce (front ++ e ∷ []) = subst EndsOnce is (cuts_ends Former [] (chars text) ts cut) in
    cuts_later [] (chars text) ts (subst HasNoFault (sym is) (no_fault front e ends last)) cut
