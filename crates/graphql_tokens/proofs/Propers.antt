-- Each token of a text's list but a fault is proper.
use Rattle.std.proofs.Common.{◌≡◌, ℕ, zero, suc, Bool, true, false, ◌&&◌, List, [], ◌∷◌, ◌++◌, drop, refl, sym, ap, inl, inr, subst}
use Rattle.std.specs.List.{concat, AllByRecursion}
use Rattle.std.specs.Char.{IsScalar}
use Rattle.std.specs.Str.{chars, IsUtf8, all_scalars}
use Rattle.std.proofs.lemmas.Str.{scalars-chars}
use lib.Utf8.{scalar}
use Rattle.graphql_tokens.specs.tokens.Edition.{Current}
use Rattle.graphql_tokens.specs.tokens.Spelling.{Begins}
use Rattle.graphql_tokens.specs.tokens.Token.{Token}
use Rattle.graphql_tokens.specs.tokens.Cuts.{token, Cuts}
use Rattle.graphql_tokens.specs.tokens.Proper.{IsProper, AreProperButFaults}
use Rattle.graphql_tokens.specs.declared.lexer.TokenKind.{TokenKind}
use Rattle.graphql_tokens.specs.declared.lexer.TokenKind.TheVariants.{Punct, Name, Number, String, Block, Fault, End}
use Rattle.graphql_tokens.proofs.Lists.{Stands}

abbrev AreScalars : List ℕ → Type 0
AreScalars w = AllByRecursion IsScalar w

both_true : (a b : Bool) → (a && b) ≡ true → (a ≡ true) × (b ≡ true)
both_true true b e = (refl, e)
both_true false b e = absurd (cc)

scalars_each : (cs : List ℕ) → all_scalars cs ≡ true → AreScalars cs
scalars_each [] h = tt
scalars_each (c ∷ cs) h = let e = both_true (scalar c) (all_scalars cs) h in (e.0, scalars_each cs e.1)

-- the characters of a text
pub text_scalars : (bs : List ℕ) → IsUtf8 bs → AllByRecursion IsScalar (chars bs)
text_scalars bs u = scalars_each (chars bs) (scalars-chars bs u)

scalars_split : (xs ys : List ℕ) → AreScalars (xs ++ ys) → AreScalars xs × AreScalars ys
scalars_split [] ys h = (tt, h)
scalars_split (x ∷ xs) ys h = let r = scalars_split xs ys h.1 in ((h.0, r.0), r.1)

token_proper : (kind : TokenKind) (here w rest : List ℕ) → AreScalars w → Begins Current kind w rest → IsProper (token kind here w)
token_proper Punct here w rest h b = (w, h, refl, b.spelled)
token_proper Name here w rest h b = (w, h, refl, b.spelled)
token_proper Number here w rest h b = (w, h, refl, b.spelled)
token_proper String here w rest h b = (w, h, refl, b.spelled)
token_proper Block here w rest h b = (w, h, refl, b.spelled)
token_proper Fault here w rest h b = absurd b.spelled
token_proper End here w rest h b = absurd b.spelled

proper_step : (here after : List ℕ) (t : Token) (ts : List Token) → AreScalars after → ((f r : List ℕ) → AreScalars r → Cuts Current f r ts → AreProperButFaults ts)
    → Stands Current here after t ts → AreProperButFaults (t ∷ ts)
proper_step here after t ts h ih (inl b) =
    let s = scalars_split b.0.word b.0.rest (subst AreScalars b.0.whole h) in
    (inr (subst IsProper (sym b.0.is) (token_proper b.0.kind here b.0.word b.0.rest s.0 b.0.begins)), ih (here ++ b.0.word) b.0.rest s.1 b.1)
proper_step here after t ts h ih (inr (inl b)) =
    (inr (subst IsProper (sym b.0.is) refl), subst AreProperButFaults (sym b.1) tt)
proper_step here after t ts h ih (inr (inr b)) =
    (inl (ap (λ x. x.bare.kind) b.0.is), subst AreProperButFaults (sym b.1) tt)

pub cuts_proper : (front text : List ℕ) (ts : List Token) → AllByRecursion IsScalar text → Cuts Current front text ts → AreProperButFaults ts
cuts_proper front text [] h c = absurd c
cuts_proper front text (t ∷ ts) h c =
    let s = scalars_split (concat c.0.pieces) c.0.after (subst AreScalars c.0.whole h) in
    proper_step (front ++ concat c.0.pieces) c.0.after t ts s.1 (λ f r k d. cuts_proper f r ts k d) c.1

-- and so is what is left of the list
pub proper_drop : (n : ℕ) (ts : List Token) → AreProperButFaults ts → AreProperButFaults (drop n ts)
proper_drop zero ts p = p
proper_drop (suc n) [] p = tt
proper_drop (suc n) (t ∷ ts) p = proper_drop n ts p.1
