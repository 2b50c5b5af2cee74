-- What the answer of a parser tells of a text that ends in a line feed: whether its tokens are a viable front.
use Rattle.std.proofs.Common.{◌≡◌, ℕ, zero, suc, ◌≤◌, Bool, true, false, IsTrue, ◌↔◌, ◌⊎◌, inl, inr, Result, Ok, Err, List, [], ◌∷◌, ◌++◌, length, take, drop, refl, sym, ap, ◌∙◌, subst, append_assoc, length-append, take-append-drop, arith}
use Rattle.std.specs.Prelude.{IfOk}
use Rattle.std.specs.Str.{chars, IsUtf8}
use Rattle.std.specs.declared.alloc.AllocError.{AllocError}
use Rattle.std.proofs.Math.Seq.{take-append_seam}
use Rattle.std.proofs.lemmas.List.{take-append-le}
use Rattle.graphql_tokens.specs.tokens.Cuts.{is_last, Cuts, IsCutInto, EndsOnce}
use Rattle.graphql_tokens.specs.tokens.Edition.{Current}
use Rattle.graphql_tokens.specs.tokens.Place.{place_after}
use Rattle.graphql_tokens.specs.tokens.Proper.{IsProper, AreProper, AreProperButFaults}
use Rattle.graphql_tokens.specs.tokens.Token.{Token}
use Rattle.graphql_tokens.specs.declared.pos.Pos.{Pos}
use Rattle.graphql_tokens.specs.declared.lexer.TokenKind.{TokenKind}
use Rattle.graphql_tokens.specs.declared.lexer.TokenKind.TheVariants.{Fault, End}
use Rattle.graphql_tokens.proofs.Lists.{cuts_ends}
use Rattle.graphql_tokens.proofs.Propers.{text_scalars, cuts_proper}
use Rattle.graphql_reading.specs.grammar.Fronts.{Completes, Viable, Verdict, syntax, limit, RefusedToken}
use Rattle.graphql_reading.specs.grammar.Limits.{Limits}
use Rattle.graphql_reading.specs.grammar.Relations.{Rel}
use Rattle.graphql_reading.specs.reading.Outcome.{Reader}
use Rattle.graphql_reading.proofs.Theory.{Extends, proper-append}
use Rattle.graphql_reading.proofs.Whole.{viable-completes, ignores-whole}
use Rattle.graphql_grammar.specs.answers.Answers.{Answers, ErrorMeans}
use Rattle.graphql_grammar.specs.answers.Language.{Language, grammar}
use Rattle.graphql_grammar.specs.declared.error.Error.{Error}
use Rattle.graphql_grammar.specs.declared.error.Error.TheVariants.{Syntax, MultipleRoots, MissingQueryRoot, MultipleOperations, OperationDuplicated, FragmentDuplicated, MissingOperation, RecursionLimitExceeded, OutOfMemory}
use Rattle.graphql_grammar.proofs.Languages.{IsRead, ends-well}
use Rattle.graphql_parser.specs.Checking.{checked}
use Rattle.graphql_report.specs.fronts.Front.{LastIsLineFeed, IsFront}
use Rattle.graphql_report.specs.inner.Told.{TellsFront}
use Rattle.graphql_report.proofs.Lines.{is-lined, StandsIn, each-stands}
use Rattle.graphql_report.proofs.Depths.{same-token, limit-not-end}

-- ---- lists

no-fault : (kind : TokenKind) → is_last kind ≡ false → kind ≡ Fault → ⊥
no-fault kind other e = let last : is_last kind ≡ true = ap is_last e in cc

proper-of : (t : Token) → (t.bare.kind ≡ Fault → ⊥) → (t.bare.kind ≡ Fault) ⊎ IsProper t → IsProper t
proper-of t other (inl fault) = absurd (other fault)
proper-of t other (inr proper) = proper

pub last-proper : (u : List Token) (e : Token) → e.bare.kind ≡ End → AreProperButFaults (u ++ e ∷ []) → IsProper e
last-proper [] e is p = proper-of e (λ fault. clash (sym is ∙ fault)) p.0
  where
    clash : End ≡ Fault → ⊥
    clash e = cc
last-proper (t ∷ u) e is p = last-proper u e is p.1

-- the tokens before the last
front-proper : (u : List Token) (e : Token) → EndsOnce (u ++ e ∷ []) → AreProperButFaults (u ++ e ∷ []) → AreProper u
front-proper [] e ends p = tt
front-proper (t ∷ []) e ends p = (proper-of t (no-fault t.bare.kind ends.0) p.0, tt)
front-proper (t ∷ s ∷ u) e ends p = (proper-of t (no-fault t.bare.kind ends.0) p.0, front-proper (s ∷ u) e ends.1 p.1)

pub last-ends : (u : List Token) (e : Token) (after : List Token) → is_last e.bare.kind ≡ true → EndsOnce (u ++ e ∷ after) → after ≡ []
last-ends [] e [] c h = refl
last-ends [] e (t ∷ after) c h = absurd cc
last-ends (t ∷ []) e after c h = last-ends [] e after c h.1
last-ends (t ∷ s ∷ u) e after c h = last-ends (s ∷ u) e after c h.1

proper-drop : (k : ℕ) (u : List Token) → AreProper u → AreProper (drop k u)
proper-drop zero u h = h
proper-drop (suc k) [] h = tt
proper-drop (suc k) (t ∷ u) h = proper-drop k u h.1

-- what completes a front completes each shorter one
shorter : {A : Type 0} {p : Rel A} (u w : List Token) → AreProper w → Extends p (u ++ w) → Completes p u
shorter {p = p} u w proper m = record { begun = u; after = w ++ m.tail; tree = m.tree; alike = refl; proper = proper-append w m.tail proper m.proper; holds = subst (λ (l : List Token). p l m.tree) (append_assoc u w m.tail) m.holds }

-- ---- lists that have a tree, or are refused

pub tree-front : {D Document : Type 0} (language : Language D Document) (limits : Limits) (ts : List Token) (ds : List D) → AreProperButFaults ts → grammar language Current limits ts ds → IsFront language limits ts
tree-front language limits ts ds proper h =
    let w = ends-well (language.definitions Current) limits ts ds h in
    record {
      front = w.front;
      last = w.last;
      split = w.joined;
      ends = w.is_end;
      viable = record { begun = w.front; after = w.last ∷ []; tree = ds; alike = refl; proper = (last-proper w.front w.last w.is_end (subst AreProperButFaults w.joined proper), tt); holds = subst (λ (l : List Token). grammar language Current limits l ds) w.joined h };
    }

end-front : {D Document : Type 0} (language : Language D Document) (limits : Limits) (ts : List Token) (v : Verdict) → EndsOnce ts → (r : RefusedToken (grammar language Current) limits ts v) → r.token.bare.kind ≡ End → IsFront language limits ts
end-front language limits ts v ends r is =
    let nothing : r.after ≡ [] = last-ends r.before r.token r.after (ap is_last is) (subst EndsOnce r.split ends) in
    let split : ts ≡ r.before ++ r.token ∷ [] = r.split ∙ ap (λ (l : List Token). r.before ++ r.token ∷ l) nothing in
    let front : take (length r.before) ts ≡ r.before = ap (take (length r.before)) r.split ∙ take-append_seam r.before (r.token ∷ r.after) in
    record { front = r.before; last = r.token; split = split; ends = is; viable = subst (λ (l : List Token). Viable (grammar language Current) limits l) front (r.refused.viable_before (length r.before) (omega arith)) }

-- where a token before the end is refused, the tokens are no front
pub not-front : {D Document : Type 0} (language : Language D Document) (reader : Limits → Reader (List D)) → IsRead language reader → (limits : Limits) (ts : List Token) (v : Verdict) → EndsOnce ts → AreProperButFaults ts → (r : RefusedToken (grammar language Current) limits ts v) → (r.token.bare.kind ≡ End → ⊥) → IsFront language limits ts → ⊥
not-front language reader read limits ts v ends proper r other f = go r.after r.split
  where
    go : (after : List Token) → ts ≡ r.before ++ r.token ∷ after → ⊥
    go [] e =
        let joined : f.front ++ f.last ∷ [] ≡ r.before ++ r.token ∷ [] = sym f.split ∙ e in
        let count : length f.front ≡ length r.before = omega (arith, length-append f.front (f.last ∷ []), length-append r.before (r.token ∷ []), ap length joined) in
        let same : f.last ≡ r.token = same-token f.front r.before f.last r.token [] [] joined count in
        other (sym (ap (λ (t : Token). t.bare.kind) same) ∙ f.ends)
    go (u ∷ after) e =
        let k : ℕ = suc (length r.before) in
        let joined : f.front ++ f.last ∷ [] ≡ r.before ++ r.token ∷ u ∷ after = sym f.split ∙ e in
        let room : k ≤ length f.front = omega (arith, length-append f.front (f.last ∷ []), length-append r.before (r.token ∷ u ∷ after), ap length joined) in
        let same : take k ts ≡ take k f.front = ap (take k) f.split ∙ take-append-le k f.front (f.last ∷ []) room in
        let proper-front = front-proper f.front f.last (subst EndsOnce f.split ends) (subst AreProperButFaults f.split proper) in
        let whole-front = viable-completes (ignores-whole read.ignores_places) limits f.front f.viable in
        let cut = subst (λ (l : List Token). Extends (grammar language Current limits) l) (sym (take-append-drop k f.front)) whole-front in
        r.refused.not_viable (subst (λ (l : List Token). Viable (grammar language Current) limits l) (sym same) (shorter (take k f.front) (drop k f.front) (proper-drop k f.front proper-front) cut))

-- ---- errors

-- a text whose end stands at `end`
record Ended (text : List ℕ) (ts : List Token) (end : Pos) : Type 0 where
  cut : Cuts Current [] text ts
  proper : AreProperButFaults ts
  lined : LastIsLineFeed text
  place : end ≡ place_after text

told-syntax : {D Document : Type 0} (language : Language D Document) (reader : Limits → Reader (List D)) → IsRead language reader → (limits : Limits) (text : List ℕ) (ts : List Token) (end : Pos) → Ended text ts end → (start : Pos) (r : RefusedToken (grammar language Current) limits ts syntax) → start ≡ r.token.pos → (b : Bool) → IsTrue b ↔ (start ≡ end) → IsTrue b ↔ IsFront language limits ts
told-syntax language reader read limits text ts end h start r here b tells = go (each-stands [] text ts (is-lined text h.lined) h.cut r.before r.token r.after r.split)
  where
    ends : EndsOnce ts
    ends = cuts_ends Current [] text ts h.cut

    go : StandsIn text r.token → IsTrue b ↔ IsFront language limits ts
    go (inl (is, at)) = (λ _. end-front language limits ts syntax ends r is, λ _. tells.1 (here ∙ at ∙ sym h.place))
    go (inr (other, line)) = (λ t. absurd (let same : r.token.pos ≡ place_after text = sym here ∙ tells.0 t ∙ h.place in omega (arith, line, ap (λ (p : Pos). p.line) same)), λ f. absurd (not-front language reader read limits ts syntax ends h.proper r other f))

told-limit : {D Document : Type 0} (language : Language D Document) (reader : Limits → Reader (List D)) → IsRead language reader → (limits : Limits) (text : List ℕ) (ts : List Token) (end : Pos) → Ended text ts end → (r : RefusedToken (grammar language Current) limits ts limit) → (b : Bool) → b ≡ false → IsTrue b ↔ IsFront language limits ts
told-limit language reader read limits text ts end h r b is =
    let ends : EndsOnce ts = cuts_ends Current [] text ts h.cut in
    (λ t. absurd cc, λ f. absurd (not-front language reader read limits ts limit ends h.proper r (limit-not-end language reader read limits ts ends h.proper r) f))

told-tree : {D Document : Type 0} (language : Language D Document) (limits : Limits) (ts : List Token) (ds : List D) → AreProperButFaults ts → grammar language Current limits ts ds → (b : Bool) → b ≡ true → IsTrue b ↔ IsFront language limits ts
told-tree language limits ts ds proper h b is = (λ _. tree-front language limits ts ds proper h, λ _. is)

told : {D Document : Type 0} (language : Language D Document) (reader : Limits → Reader (List D)) → IsRead language reader → (limits : Limits) (text : List ℕ) (ts : List Token) (end : Pos) → Ended text ts end → (error : Error) → ErrorMeans language limits ts error → (b : Bool) → TellsFront error end (Ok b) → IsTrue b ↔ IsFront language limits ts
told language reader read limits text ts end h (Syntax message start stop) means b tells = told-syntax language reader read limits text ts end h start means.0 means.1 b tells
told language reader read limits text ts end h RecursionLimitExceeded means b tells = told-limit language reader read limits text ts end h means b tells
told language reader read limits text ts end h OutOfMemory means b tells = absurd tells
told language reader read limits text ts end h (MultipleRoots root schema pos) means b tells = told-tree language limits ts means.definitions h.proper means.tree.within b tells
told language reader read limits text ts end h (MissingQueryRoot pos) means b tells = told-tree language limits ts means.definitions h.proper means.tree.within b tells
told language reader read limits text ts end h (MultipleOperations anonymous operation) means b tells = told-tree language limits ts means.definitions h.proper means.tree.within b tells
told language reader read limits text ts end h (OperationDuplicated operation first second) means b tells = told-tree language limits ts means.definitions h.proper means.tree.within b tells
told language reader read limits text ts end h (FragmentDuplicated fragment first second) means b tells = told-tree language limits ts means.definitions h.proper means.tree.within b tells
told language reader read limits text ts end h MissingOperation means b tells = told-tree language limits ts means.definitions h.proper means.tree.within b tells

-- ---- answers

-- the answer is right of each list into which the text is cut
abbrev pub IsRight : {D Document : Type 0} → Language D Document → Limits → List ℕ → Bool → Type 0
IsRight language limits text b = (ts : List Token) → IsCutInto text ts → IsTrue b ↔ IsFront language limits ts

pub refused-right : {D Document : Type 0} (language : Language D Document) (reader : Limits → Reader (List D)) → IsRead language reader → (limits : Limits) (text : List ℕ) (end : Pos) → IsUtf8 text → LastIsLineFeed (chars text) → end ≡ place_after (chars text) → (error : Error) → ((ts : List Token) → IsCutInto text ts → ErrorMeans language limits ts error) → (result : Result Bool AllocError) → TellsFront error end result → IfOk result (IsRight language limits text)
refused-right language reader read limits text end utf8 lined place error means (Err refused) tells = tt
refused-right language reader read limits text end utf8 lined place error means (Ok b) tells = λ ts cut. told language reader read limits (chars text) ts end (record { cut = cut; proper = cuts_proper [] (chars text) ts (text_scalars text utf8) cut; lined = lined; place = place }) error (means ts cut) b tells

pub accepted-right : {D Document : Type 0} (language : Language D Document) (limits : Limits) (text : List ℕ) → IsUtf8 text → (document : Document) → ((ts : List Token) → IsCutInto text ts → Answers language limits ts (Ok document)) → IsRight language limits text true
accepted-right language limits text utf8 document answers = λ ts cut. told-tree language limits ts (answers ts cut).0 (cuts_proper [] (chars text) ts (text_scalars text utf8) cut) (answers ts cut).1.within true refl

-- ---- checks

of-checked : {D Document : Type 0} (language : Language D Document) (limits : Limits) (ts : List Token) → IsFront (checked language) limits ts → IsFront language limits ts
of-checked language limits ts f = record { front = f.front; last = f.last; split = f.split; ends = f.ends; viable = f.viable }

to-checked : {D Document : Type 0} (language : Language D Document) (limits : Limits) (ts : List Token) → IsFront language limits ts → IsFront (checked language) limits ts
to-checked language limits ts f = record { front = f.front; last = f.last; split = f.split; ends = f.ends; viable = f.viable }

-- what a check tells is right of the parser's language
pub right-of-checked : {D Document : Type 0} (language : Language D Document) (limits : Limits) (text : List ℕ) (b : Bool) → IsRight (checked language) limits text b → IsRight language limits text b
right-of-checked language limits text b h = λ ts cut. (λ t. of-checked language limits ts ((h ts cut).0 t), λ f. (h ts cut).1 (to-checked language limits ts f))

pub told-by-check : {D Document : Type 0} (language : Language D Document) (limits : Limits) (text : List ℕ) (result : Result Bool AllocError) → IfOk result (IsRight (checked language) limits text) → IfOk result (IsRight language limits text)
told-by-check language limits text (Err refused) h = tt
told-by-check language limits text (Ok b) h = right-of-checked language limits text b h
