-- The token that only greater limits take is not the end of the text: no phrase has the end inside it.
use Rattle.std.proofs.Common.{◌≡◌, suc, Bool, true, false, cond, List, [], ◌∷◌, ◌++◌, length, sym, ap, ◌∙◌, subst, append_assoc, append-nil, arith}
use Rattle.graphql_tokens.specs.tokens.Cuts.{is_last, EndsOnce}
use Rattle.graphql_tokens.specs.tokens.Edition.{Current}
use Rattle.graphql_tokens.specs.tokens.Proper.{AreProperButFaults}
use Rattle.graphql_tokens.specs.tokens.Token.{Token}
use Rattle.graphql_tokens.specs.declared.lexer.TokenKind.TheVariants.{End}
use Rattle.graphql_reading.specs.grammar.Fronts.{syntax, limit, RefusedToken}
use Rattle.graphql_reading.specs.grammar.Limits.{Limits}
use Rattle.graphql_reading.specs.grammar.Tests.{the_end}
use Rattle.graphql_reading.specs.reading.Outcome.{Outcome, Read, Refused, Reader, ◌>>=◌, whole_at}
use Rattle.graphql_reading.proofs.Theory.{Exact, IsDead, IsStopped, Quiet, peek}
use Rattle.graphql_reading.proofs.TokenTests.{end-sample}
use Rattle.graphql_reading.proofs.Whole.{Says, Refuses, whole-answers, one-refusal}
use Rattle.graphql_grammar.specs.answers.Language.{Language, grammar}
use Rattle.graphql_grammar.proofs.Languages.{IsRead}

quiet-front : (x y : List Token) → Quiet (x ++ y) → Quiet x
quiet-front [] y q = tt
quiet-front (t ∷ x) y q = (q.0, quiet-front x y q.1)

abbrev pub tail-of : List Token → List Token
tail-of [] = []
tail-of (t ∷ ts) = ts

pub peek-tail : (u rest : List Token) → u ++ rest ≡ (u ++ peek rest) ++ tail-of rest
peek-tail u [] = sym (append-nil (u ++ []))
peek-tail u (t ∷ rest) = sym (append_assoc u (t ∷ []) rest)

-- the definitions of a list have no last token
pub phrase-quiet : {D Document : Type 0} (language : Language D Document) (reader : Limits → Reader (List D)) → IsRead language reader → (c : Limits) (x : List Token) (a : List D) → language.definitions Current c x a → Quiet x
phrase-quiet {D} language reader read c x a h = go (reader c (x ++ end-sample.token ∷ [])) ((read.reads_exactly c).at (x ++ end-sample.token ∷ []))
  where
    kill : (before after : List Token) (t : Token) → x ++ end-sample.token ∷ [] ≡ before ++ t ∷ after → IsDead (language.definitions Current c) the_end (before ++ t ∷ []) → ⊥
    kill before after t split dead = dead x (end-sample.token ∷ []) after a h end-sample.passes (split ∙ sym (append_assoc before (t ∷ []) after))

    go : (o : Outcome (List D)) → Exact (language.definitions Current) c the_end (x ++ end-sample.token ∷ []) o → Quiet x
    go (Read d rest) m = subst Quiet (sym (m.only c x (end-sample.token ∷ []) (tail-of rest) a h end-sample.passes (m.split ∙ peek-tail m.used rest)).0) m.quiet
    go (Refused v []) m = quiet-front x (end-sample.token ∷ []) (subst Quiet (sym (m.split ∙ append-nil m.before)) m.quiet)
    go (Refused syntax (t ∷ after)) m = absurd (kill m.before after t m.split (m.dead c))
    go (Refused limit (t ∷ after)) m = absurd (kill m.before after t m.split m.dead.0)

pub same-token : (u v : List Token) (s t : Token) (x y : List Token) → u ++ s ∷ x ≡ v ++ t ∷ y → length u ≡ length v → s ≡ t
same-token [] [] s t x y e n = cc
same-token [] (r ∷ v) s t x y e n = absurd (omega (arith, n))
same-token (r ∷ u) [] s t x y e n = absurd (omega (arith, n))
same-token (r ∷ u) (q ∷ v) s t x y e n = same-token u v s t x y (cc) (omega (arith, n))

pub quiet-last : (u : List Token) (t : Token) → Quiet (u ++ t ∷ []) → is_last t.bare.kind ≡ false
quiet-last [] t q = q.0
quiet-last (s ∷ u) t q = quiet-last u t q.1

end-is-last : (t : Token) → t.bare.kind ≡ End → is_last t.bare.kind ≡ false → ⊥
end-is-last t e other = let last : is_last t.bare.kind ≡ true = ap is_last e in cc

-- the outcome of a reader, and then the end of the text
abbrev pair-up : {A : Type 0} → A → Token → List Token → Outcome (A × Token)
pair-up d e rest = Read (d, e) rest

abbrev first-of : {A : Type 0} → Outcome (A × Token) → Outcome A
first-of o = o >>= λ x rest. Read x.0 rest

abbrev closed : {A : Type 0} → A → Outcome Token → Outcome A
closed d o = first-of (o >>= pair-up d)

-- the token that the limits refuse is not the end of the text
pub limit-not-end : {D Document : Type 0} (language : Language D Document) (reader : Limits → Reader (List D)) → IsRead language reader → (b : Limits) (ts : List Token) → EndsOnce ts → AreProperButFaults ts → (r : RefusedToken (grammar language Current) b ts limit) → r.token.bare.kind ≡ End → ⊥
limit-not-end {D} language reader read b ts ends proper r is-end = go (reader b ts) ((read.reads_exactly b).at ts) (whole-answers read.has_phrase read.ignores_places (read.reads_exactly b) ts ends proper)
  where
    no-syntax : (t : Token) (after : List Token) → Refuses (grammar language Current) b ts syntax t after → ⊥
    no-syntax t after said = let same : syntax ≡ limit = (one-refusal (grammar language Current) b ts _ _ syntax limit said.refusal r.refused).1 in cc

    at-end : (w : Bool) (d : List D) (e : Token) (after : List Token) → Says (grammar language Current) language.placeless b ts (closed d (cond w (Read e after) (Refused syntax (e ∷ after)))) → ⊥
    at-end true d e after said = r.no_tree d said.1.tree.within
    at-end false d e after said = no-syntax e after said

    at-limit : (t : Token) (after : List Token) → IsStopped (language.definitions Current) b the_end ts limit (t ∷ after) → Refuses (grammar language Current) b ts limit t after → ⊥
    at-limit t after m said =
        let c : Limits = record { selections = suc b.selections; values = suc b.values; types = suc b.types } in
        let x = m.dead.1 c (omega arith) in
        let count = (one-refusal (grammar language Current) b ts _ _ limit limit said.refusal r.refused).0 in
        let same : t ≡ r.token = same-token said.before r.before t r.token after r.after (sym said.split ∙ r.split) (omega (arith, count)) in
        let quiet = quiet-front (m.before ++ t ∷ []) x.tail (phrase-quiet language reader read c ((m.before ++ t ∷ []) ++ x.tail) x.tree x.holds) in
        end-is-last t (ap (λ (t : Token). t.bare.kind) same ∙ is-end) (quiet-last m.before t quiet)

    go : (o : Outcome (List D)) → Exact (language.definitions Current) b the_end ts o → Says (grammar language Current) language.placeless b ts (whole_at (λ _. o) ts) → ⊥
    go (Read d []) m said = said
    go (Read d (e ∷ after)) m said = at-end (the_end e.bare) d e after said
    go (Refused v []) m said = said
    go (Refused syntax (t ∷ after)) m said = no-syntax t after said
    go (Refused limit (t ∷ after)) m said = at-limit t after m said
