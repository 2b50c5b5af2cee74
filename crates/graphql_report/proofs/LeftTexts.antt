-- What is left after a front tells what can stand after it.
use Rattle.std.proofs.Common.{◌≡◌, ℕ, Bool, true, false, not, cond, ◌↔◌, ◌≢◌, IsTrue, inl, inr, Option, Some, None, List, [], ◌∷◌, ◌++◌, length, refl, sym, ap, ◌∙◌, subst, append_assoc, append-nil, length-append, arith}
use Rattle.std.proofs.lemmas.List.{same_from_push, reverse-reverse}
use Rattle.std.specs.Prelude.{reverse, Result, Ok, Err, IfOk, IfSome}
use Rattle.std.proofs.lemmas.Slice.Eq.{bytes_eq-Decides}
use Rattle.std.specs.Str.{bytes_eq, IsUtf8, chars}
use Rattle.graphql_tokens.specs.tokens.Cuts.{is_last, IsCutInto, EndsOnce}
use Rattle.graphql_tokens.specs.tokens.Edition.{Current}
use Rattle.graphql_tokens.specs.tokens.Kinds.{is_end}
use Rattle.graphql_tokens.specs.tokens.Proper.{Spells, IsProper, IsProperBare, AreProperButFaults}
use Rattle.graphql_tokens.specs.tokens.Token.{Bare, Token}
use Rattle.graphql_tokens.specs.declared.lexer.TokenKind.{TokenKind}
use Rattle.graphql_tokens.specs.declared.lexer.TokenKind.TheVariants.{Punct, Name, Number, String as Quoted, Block, Fault, End}
use Rattle.graphql_tokens.specs.inner.Reading.{tokens}
use Rattle.graphql_tokens.proofs.Lists.{tokens_cuts, tokens_only, cuts_ends}
use Rattle.graphql_tokens.proofs.Propers.{cuts_proper, text_scalars}
use Rattle.graphql_reading.specs.grammar.Fronts.{Verdict, syntax}
use Rattle.graphql_reading.specs.grammar.Limits.{Limits}
use Rattle.graphql_reading.specs.grammar.Tests.{the_end}
use Rattle.graphql_reading.specs.reading.Ahead.{Ahead, tokens as ahead}
use Rattle.graphql_reading.specs.reading.Outcome.{Outcome, Read, Refused, Reader, ◌>>=◌, one_at, whole_at}
use Rattle.graphql_reading.proofs.Theory.{Exact, Extends, proper-append}
use Rattle.graphql_reading.proofs.Whole.{Says, whole-answers}
use Rattle.graphql_grammar.specs.answers.Language.{Language as Described, grammar}
use Rattle.graphql_grammar.proofs.Languages.{IsRead}
use Rattle.graphql_parser.specs.Checked.{ended}
use Rattle.graphql_requests.specs.reading.Request as request
use Rattle.graphql_requests.proofs.RequestProductions.{requests-are-read}
use Rattle.graphql_schemas.specs.reading.SchemaFile as schema
use Rattle.graphql_schemas.proofs.SchemaFileProductions.{schemas-are-read}
use Rattle.graphql_report.specs.declared.fronts.Language.{Language}
use Rattle.graphql_report.specs.declared.fronts.Language.TheVariants.{Requests, Schemas}
use Rattle.graphql_report.specs.fronts.Front.{LastIsLineFeed, IsFront, IsFrontOf}
use Rattle.graphql_report.specs.declared.phrases.Phrase.{Phrase}
use Rattle.graphql_report.specs.declared.phrases.Phrase.TheVariants as phrases
use Rattle.graphql_report.specs.inner.Left.{phrases_at, Steps, whole_of, IsLeftOf}
use Rattle.graphql_report.specs.reports.Expected.{HasTree, HasTreeOf, TellsFrontOf, TellsTreeOf, with_sample}
use Rattle.graphql_report.proofs.Apart.{phrase-is, mapped-is, then-is, plus-is}
use Rattle.graphql_report.proofs.LeftSpent.{IsSpent, phrases-spent}
use Rattle.graphql_report.proofs.SampleTexts.{Sampled, sampled, inner-of}
use Rattle.graphql_report.proofs.ToldFronts.{not-front, last-proper, last-ends}

-- ---- a token more, in one language

module _ {D Document : Type 0} {language : Described D Document} {reader : Limits → Reader (List D)} (read : IsRead language reader) (limits : Limits) where
  abbrev whole : List Token → Outcome (Unit {0})
  whole ts = ended (whole_at (reader limits) ts)

  module _ (front : List Token) (s e : Token) where
    abbrev begun : List Token
    begun = front ++ s ∷ []

    abbrev all : List Token
    all = front ++ s ∷ e ∷ []

    joined : begun ++ e ∷ [] ≡ all
    joined = append_assoc front (s ∷ []) (e ∷ [])

    -- a phrase, or more than that, begins so: the front is viable
    viable : IsProper e → e.bare.kind ≡ End → Extends (language.definitions Current limits) begun → IsFront language limits all
    viable proper ends m = record {
      front = begun;
      last = e;
      split = sym joined;
      ends = ends;
      viable = record {
        begun = begun;
        after = m.tail ++ e ∷ [];
        tree = m.tree;
        alike = refl;
        proper = proper-append m.tail (e ∷ []) m.proper (proper, tt);
        holds = record {
          value = (m.tree, e);
          holds = record { front = begun ++ m.tail; back = e ∷ []; joined = sym (append_assoc begun m.tail (e ∷ [])); first = m.holds; second = (refl, ap (λ (k : TokenKind). is_end k) ends) };
          is = refl;
        };
      };
    }

    abbrev last-of : {A : Type 0} → A → Token → List Token → Outcome (A × Token)
    last-of d t rest = Read (d, t) rest

    abbrev first-part : {A B : Type 0} → A × B → List Token → Outcome A
    first-part x rest = Read x.0 rest

    not-nil : (l : List Token) → begun ++ l ≡ [] → ⊥
    not-nil l e = absurd (let none : length (begun ++ l) ≡ 0 = ap length e in omega (arith, none, length-append begun l, length-append front (s ∷ [])))

    -- where nothing is left to be refused before the end
    goes-on : IsProper e → e.bare.kind ≡ End → (the_end s.bare ≡ false) → IsSpent (whole begun) → IsFront language limits all
    goes-on proper ends inner spent = go (reader limits begun) ((read.reads_exactly limits).at begun) spent
      where
        go : (o : Outcome (List D)) → Exact (language.definitions Current) limits the_end begun o → IsSpent (ended ((o >>= λ d rest. one_at the_end rest >>= last-of d) >>= first-part)) → IsFront language limits all
        go (Read d []) r h =
            viable proper ends (record { tail = []; tree = d; holds = subst (λ (l : List Token). language.definitions Current limits l d) (sym (ap (λ (l : List Token). l) (append-nil begun ∙ r.split ∙ append-nil r.used))) (r.holds limits (omega arith)); proper = tt })
        go (Read d (t ∷ after)) r h = absurd (by (the_end t.bare) refl h)
          where
            by : (w : Bool) → the_end t.bare ≡ w → IsSpent (ended ((cond w (Read t after) (Refused syntax (t ∷ after)) >>= last-of d) >>= first-part)) → ⊥
            by true is k =
                let nothing : after ≡ [] = k in
                let same = same_from_push front r.used s t (r.split ∙ ap (λ (l : List Token). r.used ++ t ∷ l) nothing) in
                let clash : true ≡ false = sym is ∙ ap (λ (t : Token). the_end t.bare) (sym same.1) ∙ inner in
                cc
            by false is k = absurd (let other : t ∷ after ≡ [] = k in cc)
        go (Refused v []) r h = elim r.alive [
          | inl none ↦ absurd (not-nil [] (append-nil begun ∙ r.split ∙ append-nil r.before ∙ none))
          | inr m ↦ viable proper ends (subst (Extends (language.definitions Current limits)) (sym (r.split ∙ append-nil r.before)) m)
        ]
        go (Refused v (t ∷ after)) r h = absurd (let other : t ∷ after ≡ [] = h in cc)

    -- where the token is refused
    stops : EndsOnce all → AreProperButFaults all → (s.bare.kind ≡ End → ⊥) → (v : Verdict) → whole all ≡ Refused v (s ∷ e ∷ []) → IsFront language limits all → ⊥
    stops once proper inner v is = go (whole_at (reader limits) all) (whole-answers read.has_phrase read.ignores_places (read.reads_exactly limits) all once proper) is
      where
        go : (o : Outcome (List D)) → Says (grammar language Current) language.placeless limits all o → ended o ≡ Refused v (s ∷ e ∷ []) → IsFront language limits all → ⊥
        go (Read d rest) said e' = absurd cc
        go (Refused w []) said e' = absurd said
        go (Refused w (t ∷ after)) said e' =
            let same : t ≡ s = cc in
            not-front language reader read limits all w once proper (record { before = said.before; token = t; after = after; split = said.split; refused = said.refusal; no_tree = said.none }) (λ ends. inner (sym (ap (λ (t : Token). t.bare.kind) same) ∙ ends))

-- ---- in either language

goes-on-of : (language : Language) (limits : Limits) (front : List Token) (s e : Token) → IsProper e → e.bare.kind ≡ End → the_end s.bare ≡ false → IsSpent (whole_of language limits (front ++ s ∷ [])) → IsFrontOf language limits (front ++ s ∷ e ∷ [])
goes-on-of Requests limits front s e = goes-on requests-are-read limits front s e
goes-on-of Schemas limits front s e = goes-on schemas-are-read limits front s e

stops-of : (language : Language) (limits : Limits) (front : List Token) (s e : Token) → EndsOnce (front ++ s ∷ e ∷ []) → AreProperButFaults (front ++ s ∷ e ∷ []) → (s.bare.kind ≡ End → ⊥) → (v : Verdict) → whole_of language limits (front ++ s ∷ e ∷ []) ≡ Refused v (s ∷ e ∷ []) → IsFrontOf language limits (front ++ s ∷ e ∷ []) → ⊥
stops-of Requests limits front s e = stops requests-are-read limits front s e
stops-of Schemas limits front s e = stops schemas-are-read limits front s e

-- ---- a sample

not-end : (kind : TokenKind) → kind ≢ End → is_end kind ≡ false
not-end End h = absurd (h refl)
not-end Punct h = refl
not-end Name h = refl
not-end Number h = refl
not-end Quoted h = refl
not-end Block h = refl
not-end Fault h = refl

pub spells-of : (kind : TokenKind) (bytes : List ℕ) → is_last kind ≡ false → IsProperBare kind bytes → Spells kind bytes
spells-of Punct bytes e h = h
spells-of Name bytes e h = h
spells-of Number bytes e h = h
spells-of Quoted bytes e h = h
spells-of Block bytes e h = h
spells-of Fault bytes e h = absurd cc
spells-of End bytes e h = absurd cc

-- whether what is left goes on with a sample tells whether the line does
pub told-by-left : (language : Language) (limits : Limits) (line sample : List ℕ) (left new : List Phrase) (kind : TokenKind) (answer : Bool) → IsUtf8 line → LastIsLineFeed (chars line) → IsLeftOf language limits line left → Spells kind sample → Steps limits (record { kind = kind; spelling = sample }) left new answer → TellsFrontOf language limits (with_sample line sample) answer
told-by-left language limits line sample left new kind answer utf8 lined l spells steps = λ ts cut. by answer steps ts (tokens_only [] (chars text) ts cut ∙ sym (tokens_only [] (chars text) all m.cut))
  where
    text : List ℕ
    text = with_sample line sample

    m : Sampled line l.tokens kind sample
    m = sampled line l.tokens l.last utf8 lined l.cut l.ends kind sample spells

    all : List Token
    all = l.tokens ++ m.sample ∷ m.last ∷ []

    once : EndsOnce all
    once = cuts_ends Current [] (chars text) all m.cut

    proper : AreProperButFaults all
    proper = cuts_proper [] (chars text) all (text_scalars text m.utf8) m.cut

    last : IsProper m.last
    last = last-proper (l.tokens ++ m.sample ∷ []) m.last m.ends (subst AreProperButFaults (sym (append_assoc l.tokens (m.sample ∷ []) (m.last ∷ []))) proper)

    inner : m.sample.bare.kind ≢ End
    inner = subst (λ (b : Bare). b.kind ≢ End) m.is (inner-of kind sample spells)

    by : (answer : Bool) → Steps limits (record { kind = kind; spelling = sample }) left new answer → (ts : List Token) → ts ≡ all → IsTrue answer ↔ IsFrontOf language limits ts
    by true steps ts same =
        let read : whole_of language limits (l.tokens ++ m.sample ∷ []) ≡ phrases_at limits (reverse new) [] = l.same (m.sample ∷ []) ∙ steps m.sample [] (sym m.is) in
        let spent : IsSpent (whole_of language limits (l.tokens ++ m.sample ∷ [])) = subst IsSpent (sym read) (phrases-spent limits (reverse new)) in
        (λ _. subst (IsFrontOf language limits) (sym same) (goes-on-of language limits l.tokens m.sample m.last last m.ends (not-end m.sample.bare.kind inner) spent), λ _. refl)
    by false steps ts same =
        let here = steps m.sample (m.last ∷ []) (sym m.is) in
        (λ t. absurd cc, λ f. absurd (stops-of language limits l.tokens m.sample m.last once proper inner here.0 (l.same (m.sample ∷ m.last ∷ []) ∙ here.1) (subst (IsFrontOf language limits) same f)))

-- ---- all of a document

abbrev Whole : {A : Type 0} → (Limits → Reader A) → List Phrase → Type 0
Whole r ps = (limits : Limits) (ts : List Token) → ended (whole_at (r limits) ts) ≡ phrases_at limits ps ts

request-whole : Whole request.definitions_at (phrases.RequestDefinition ∷ phrases.RequestDefinitions ∷ phrases.End ∷ [])
request-whole limits ts =
    (mapped-is limits _ (then-is limits (plus-is limits request.definition_first phrases.RequestDefinitions (λ ts. refl) (phrase-is limits (request.definition_at limits) phrases.RequestDefinition (λ ts. refl)))
    (phrase-is limits (one_at the_end) phrases.End (λ ts. refl)))).by ts

schema-whole : Whole schema.definitions_at (phrases.SchemaDefinition ∷ phrases.SchemaDefinitions ∷ phrases.End ∷ [])
schema-whole limits ts =
    (mapped-is limits _ (then-is limits (plus-is limits schema.definition_first phrases.SchemaDefinitions (λ ts. refl) (phrase-is limits (schema.definition_at limits) phrases.SchemaDefinition (λ ts. refl)))
    (phrase-is limits (one_at the_end) phrases.End (λ ts. refl)))).by ts

abbrev IsAll : Language → List Phrase → Type 0
IsAll language left = (limits : Limits) (ts : List Token) → whole_of language limits ts ≡ phrases_at limits (reverse left) ts

turned : (left ps : List Phrase) → left ≡ reverse ps → reverse left ≡ ps
turned left ps e = ap reverse e ∙ reverse-reverse ps

module _ {V E : Type 0} (items : V → List Phrase) (language : Language) where
  pub whole-requests : (result : Result V E) → language ≡ Requests → IfOk result (λ left. items left ≡ reverse (phrases.RequestDefinition ∷ phrases.RequestDefinitions ∷ phrases.End ∷ [])) → IfOk result (λ left. IsAll language (items left))
  whole-requests (Err refused) is h = tt
  whole-requests (Ok left) is h = λ limits ts.
      ap (λ (l : Language). whole_of l limits ts) is ∙ request-whole limits ts
      ∙ ap (λ (l : List Phrase). phrases_at limits l ts) (sym (turned (items left) (phrases.RequestDefinition ∷ phrases.RequestDefinitions ∷ phrases.End ∷ []) h))

  pub whole-schemas : (result : Result V E) → language ≡ Schemas → IfOk result (λ left. items left ≡ reverse (phrases.SchemaDefinition ∷ phrases.SchemaDefinitions ∷ phrases.End ∷ [])) → IfOk result (λ left. IsAll language (items left))
  whole-schemas (Err refused) is h = tt
  whole-schemas (Ok left) is h = λ limits ts.
      ap (λ (l : Language). whole_of l limits ts) is ∙ schema-whole limits ts
      ∙ ap (λ (l : List Phrase). phrases_at limits l ts) (sym (turned (items left) (phrases.SchemaDefinition ∷ phrases.SchemaDefinitions ∷ phrases.End ∷ []) h))

-- ---- token by token

-- this is left before the token in hand
pub record Walks (language : Language) (limits : Limits) (text : List ℕ) (now : Ahead) (left : List Phrase) : Type 0 where
  pub used : List Token
  pub split : (whole : List Token) → IsCutInto text whole → whole ≡ used ++ ahead now
  pub same : (others : List Token) → whole_of language limits (used ++ others) ≡ phrases_at limits (reverse left) others

pub walk-begins : (language : Language) (limits : Limits) (text : List ℕ) (now : Ahead) (left : List Phrase) → ((whole : List Token) → IsCutInto text whole → whole ≡ ahead now) → ((limits : Limits) (ts : List Token) → whole_of language limits ts ≡ phrases_at limits (reverse left) ts) → Walks language limits text now left
walk-begins language limits text now left only same = record { used = []; split = only; same = same limits }

pub walk-goes : {language : Language} {limits : Limits} {text : List ℕ} {now : Ahead} {left : List Phrase} → Walks language limits text now left → (new : Ahead) (next : List Phrase) → Steps limits now.hand.bare left next true → ahead new ≡ now.after → Walks language limits text new next
walk-goes {language} {limits} {text} {now} {left} w new next steps on = record {
  used = w.used ++ now.hand ∷ [];
  split = λ whole cut. w.split whole cut ∙ ap (λ (l : List Token). w.used ++ now.hand ∷ l) (sym on) ∙ sym (append_assoc w.used (now.hand ∷ []) (ahead new));
  same = λ others. ap (whole_of language limits) (append_assoc w.used (now.hand ∷ []) others) ∙ w.same (now.hand ∷ others) ∙ steps now.hand others refl;
}

pub walk-ends : {language : Language} {limits : Limits} {text : List ℕ} {now : Ahead} {left : List Phrase} → Walks language limits text now left → now.hand.bare.kind ≡ End → IsLeftOf language limits text left
walk-ends {language} {limits} {text} {now} {left} w ends =
    let whole : List Token = tokens [] (chars text) in
    let cut : IsCutInto text whole = tokens_cuts [] (chars text) in
    let split : whole ≡ w.used ++ now.hand ∷ now.after = w.split whole cut in
    let nothing : now.after ≡ [] = last-ends w.used now.hand now.after (ap is_last ends) (subst EndsOnce split (cuts_ends Current [] (chars text) whole cut)) in
    record { tokens = w.used; last = now.hand; cut = subst (IsCutInto text) (split ∙ ap (λ (l : List Token). w.used ++ now.hand ∷ l) nothing) cut; ends = ends; same = w.same }

-- ---- what the code tells of a sample

pub same-bytes : (xs ys : List ℕ) → false ≡ not (bytes_eq xs ys) → xs ≡ ys
same-bytes xs ys e = go (bytes_eq xs ys) refl e
  where
    go : (b : Bool) → bytes_eq xs ys ≡ b → false ≡ not b → xs ≡ ys
    go true is e = (bytes_eq-Decides xs ys).0 is
    go false is e = absurd cc

-- the answer is right of each line after which this is left
abbrev pub IsToldOf : Limits → List Phrase → List ℕ → Bool → Type 0
IsToldOf limits left sample answer = (language : Language) (line : List ℕ) → IsUtf8 line → LastIsLineFeed (chars line) → IsLeftOf language limits line left → TellsFrontOf language limits (with_sample line sample) answer

pub step-told : {E : Type 0} (limits : Limits) (left copy new : List Phrase) (sample : List ℕ) (hand : Token) (result : Result (Option Bool) E) → copy ≡ left → is_last hand.bare.kind ≡ false → IsProper hand → hand.bare.spelling ≡ sample → IfOk result (λ found. IfSome found (Steps limits hand.bare copy new)) → IfOk result (λ found. IfSome found (IsToldOf limits left sample))
step-told limits left copy new sample hand (Err refused) same inner proper text h = tt
step-told limits left copy new sample hand (Ok None) same inner proper text h = tt
step-told limits left copy new sample hand (Ok (Some answer)) same inner proper text h = λ language line utf8 lined l.
    let kind : TokenKind = hand.bare.kind in
    let bare : hand.bare ≡ record { kind = kind; spelling = sample } = ap (λ (w : List ℕ). record { kind = kind; spelling = w }) text in
    told-by-left language limits line sample left new kind answer utf8 lined l
    (spells-of kind sample inner (subst (λ (w : List ℕ). IsProperBare kind w) text proper))
    (subst (λ (b : Bare). Steps limits b left new answer) bare (subst (λ (l : List Phrase). Steps limits hand.bare l new answer) same h))

-- ---- what the code tells of the end

module _ {D Document : Type 0} {language : Described D Document} {reader : Limits → Reader (List D)} (read : IsRead language reader) (limits : Limits) (ts : List Token) (once : EndsOnce ts) (proper : AreProperButFaults ts) where
  said : Says (grammar language Current) language.placeless limits ts (whole_at (reader limits) ts)
  said = whole-answers read.has_phrase read.ignores_places (read.reads_exactly limits) ts once proper

  tree-read : ended (whole_at (reader limits) ts) ≡ Read tt [] → HasTree language limits ts
  tree-read e = go (whole_at (reader limits) ts) said e
    where
      go : (o : Outcome (List D)) → Says (grammar language Current) language.placeless limits ts o → ended o ≡ Read tt [] → HasTree language limits ts
      go (Read ds rest) h e = (ds, h.1.tree.within)
      go (Refused v rest) h e = absurd cc

  no-tree-read : (v : Verdict) (rest : List Token) → ended (whole_at (reader limits) ts) ≡ Refused v rest → HasTree language limits ts → ⊥
  no-tree-read v rest e = go (whole_at (reader limits) ts) said e
    where
      go : (o : Outcome (List D)) → Says (grammar language Current) language.placeless limits ts o → ended o ≡ Refused v rest → HasTree language limits ts → ⊥
      go (Read ds rest') h e t = absurd cc
      go (Refused w []) h e t = absurd h
      go (Refused w (t' ∷ after)) h e t = h.none t.0 t.1

tree-of : (language : Language) (limits : Limits) (ts : List Token) → EndsOnce ts → AreProperButFaults ts → whole_of language limits ts ≡ Read tt [] → HasTreeOf language limits ts
tree-of Requests limits ts once proper = tree-read requests-are-read limits ts once proper
tree-of Schemas limits ts once proper = tree-read schemas-are-read limits ts once proper

no-tree-of : (language : Language) (limits : Limits) (ts : List Token) → EndsOnce ts → AreProperButFaults ts → (v : Verdict) (rest : List Token) → whole_of language limits ts ≡ Refused v rest → HasTreeOf language limits ts → ⊥
no-tree-of Requests limits ts once proper = no-tree-read requests-are-read limits ts once proper
no-tree-of Schemas limits ts once proper = no-tree-read schemas-are-read limits ts once proper

abbrev at-end : Bare
at-end = record { kind = End; spelling = [] }

-- the answer is right of each line after which this is left
abbrev pub EndIsToldOf : Limits → List Phrase → Bool → Type 0
EndIsToldOf limits left answer = (language : Language) (line : List ℕ) → IsUtf8 line → IsLeftOf language limits line left → TellsTreeOf language limits line answer

abbrev IfTaken : Bool → List Phrase → Type 0
IfTaken answer new = answer ≡ true → new ≡ []

ended-by-left : (limits : Limits) (left new : List Phrase) (answer : Bool) → IfTaken answer new → Steps limits at-end left new answer → EndIsToldOf limits left answer
ended-by-left limits left new answer taken steps language line utf8 l = λ ts cut. by answer taken steps ts (tokens_only [] (chars line) ts cut ∙ sym (tokens_only [] (chars line) all l.cut))
  where
    all : List Token
    all = l.tokens ++ l.last ∷ []

    once : EndsOnce all
    once = cuts_ends Current [] (chars line) all l.cut

    proper : AreProperButFaults all
    proper = cuts_proper [] (chars line) all (text_scalars line utf8) l.cut

    spelled : (b : Bare) → b.kind ≡ End → IsProperBare b.kind b.spelling → b ≡ at-end
    spelled b ends h = by-kind b.kind b.spelling ends h
      where
        by-kind : (kind : TokenKind) (bytes : List ℕ) → kind ≡ End → IsProperBare kind bytes → record { kind = kind; spelling = bytes } ≡ at-end
        by-kind End bytes e h = ap (λ (w : List ℕ). record { kind = End; spelling = w }) h
        by-kind other bytes e h = absurd cc

    bare : l.last.bare ≡ at-end
    bare = spelled l.last.bare l.ends (last-proper l.tokens l.last l.ends proper)

    by : (answer : Bool) → IfTaken answer new → Steps limits at-end left new answer → (ts : List Token) → ts ≡ all → IsTrue answer ↔ HasTreeOf language limits ts
    by true none steps ts same =
        let read : whole_of language limits all ≡ Read tt [] = l.same (l.last ∷ []) ∙ steps l.last [] bare ∙ ap (λ (ps : List Phrase). phrases_at limits (reverse ps) []) (none refl) in
        (λ _. subst (HasTreeOf language limits) (sym same) (tree-of language limits all once proper read), λ _. refl)
    by false none steps ts same =
        let here = steps l.last [] bare in
        (λ t. absurd cc, λ h. absurd (no-tree-of language limits all once proper here.0 (l.last ∷ []) (l.same (l.last ∷ []) ∙ here.1) (subst (HasTreeOf language limits) same h)))

-- where nothing is left, or the end is refused
pub end-told : (limits : Limits) (left copy new : List Phrase) (b : Bare) (found : Option Bool) → copy ≡ left → b.kind ≡ End → b.spelling ≡ [] → new ≡ [] → IfSome found (Steps limits b copy new) → IfSome found (EndIsToldOf limits left)
end-told limits left copy new b None same kind text none h = tt
end-told limits left copy new b (Some answer) same kind text none h = ended-by-left limits left new answer (λ _. none) (subst (λ (b : Bare). Steps limits b left new answer) (bare-end b kind text) (subst (λ (l : List Phrase). Steps limits b l new answer) same h))
  where
    bare-end : (b : Bare) → b.kind ≡ End → b.spelling ≡ [] → b ≡ at-end
    bare-end b e f = ap (λ (k : TokenKind). record { kind = k; spelling = b.spelling }) e ∙ ap (λ (w : List ℕ). record { kind = End; spelling = w }) f

pub end-refused : (limits : Limits) (left copy new : List Phrase) (b : Bare) (found answer : Option Bool) → copy ≡ left → b.kind ≡ End → b.spelling ≡ [] → IfSome answer (λ is. (is ≡ false) × (found ≡ Some false)) → IfSome found (Steps limits b copy new) → IfSome answer (EndIsToldOf limits left)
end-refused limits left copy new b found None same kind text is h = tt
end-refused limits left copy new b found (Some answer) same kind text is h =
    subst (EndIsToldOf limits left) (sym is.0)
    (ended-by-left limits left new false (λ e. absurd cc) (subst (λ (b : Bare). Steps limits b left new false) (bare-end b kind text) (subst (λ (l : List Phrase). Steps limits b l new false) same (subst (λ (o : Option Bool). IfSome o (Steps limits b copy new)) is.1 h))))
  where
    bare-end : (b : Bare) → b.kind ≡ End → b.spelling ≡ [] → b ≡ at-end
    bare-end b e f = ap (λ (k : TokenKind). record { kind = k; spelling = b.spelling }) e ∙ ap (λ (w : List ℕ). record { kind = End; spelling = w }) f
