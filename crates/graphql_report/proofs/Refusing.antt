-- The token that a check gives is the one at which the text is refused, and there is no other.
use Rattle.std.proofs.Common.{◌≡◌, ℕ, suc, ◌+◌, ◌-◌, ◌<◌, ◌≤◌, ◌^◌, List, [], ◌∷◌, ◌++◌, Option, Some, None, Result, Ok, Err, length, take, drop, refl, sym, ap, ◌∙◌, subst, inl, inr, length-append, length-drop, arith}
use Rattle.std.proofs.Math.Seq.{take-add, take-append_seam, drop-append_seam}
use Rattle.std.proofs.lemmas.List.{drop-drop, take-append-drop}
use Rattle.std.proofs.lemmas.Str.{chars-append, IsUtf8-take, IsUtf8-drop, IsCharBoundary-from_rest}
use Rattle.graphql_tokens.proofs.Chars.{length-chars}
use Rattle.std.specs.Prelude.{IfOk, MatchOption, String, string_bytes}
use Rattle.std.specs.declared.alloc.Global.{Global}
use Rattle.std.specs.Str.{chars, IsUtf8, IsCharBoundary}
use Rattle.graphql_tokens.specs.declared.lexer.Token.{Token as LentToken}
use Rattle.graphql_tokens.specs.declared.pos.Pos.{Pos}
use Rattle.graphql_tokens.specs.tokens.Cuts.{IsCutInto}
use Rattle.graphql_tokens.specs.tokens.Edition.{Current}
use Rattle.graphql_tokens.specs.tokens.Place.{place, place_after}
use Rattle.graphql_tokens.specs.tokens.Seen.{seen}
use Rattle.graphql_tokens.specs.tokens.Token.{Token}
use Rattle.graphql_tokens.specs.inner.Reading.{tokens}
use Rattle.graphql_tokens.proofs.Lists.{tokens_cuts, tokens_only}
use Rattle.graphql_reading.specs.grammar.Fronts.{IsRefused, RefusedToken, Verdict, syntax, limit}
use Rattle.graphql_reading.specs.grammar.Limits.{Limits}
use Rattle.graphql_reading.proofs.Whole.{one-refusal}
use Rattle.graphql_grammar.specs.answers.Answers.{Answers, TokenFor}
use Rattle.graphql_grammar.specs.answers.Language.{Language as Described, grammar}
use Rattle.graphql_grammar.specs.answers.Reads.{ReadsText}
use Rattle.graphql_grammar.specs.declared.error.Error.{Error}
use Rattle.graphql_grammar.specs.declared.error.Error.TheVariants as errors
use Rattle.graphql_requests.specs.grammar.Requests.{requests}
use Rattle.graphql_schemas.specs.grammar.Schemas.{schemas}
use Rattle.graphql_parser.specs.Checking.{checked}
use Rattle.graphql_report.specs.declared.fronts.Language.{Language}
use Rattle.graphql_report.specs.declared.fronts.Language.TheVariants.{Requests, Schemas}
use Rattle.graphql_report.specs.declared.rests.ReadFrom.{ReadFrom}
use Rattle.graphql_report.specs.declared.rests.ReadUpTo.{ReadUpTo}
use Rattle.graphql_report.specs.inner.Told.{ReadsTo}
use Rattle.graphql_report.specs.reports.Refused.{RefusesTheToken, IsRefusedAt, IsRefusedFrom, IsKnown, IsOfAToken, IsItsToken, in_text}
use Rattle.graphql_report.specs.reports.Rests.{AreCounted, BeginsAt, IsMoved, top}
use Rattle.graphql_report.specs.reports.Findings.{AreDetails, EndsAt, IsEndOf, IsFinding, IsMessage, IsToldAt, StandsAt, TellsToken}
use Rattle.graphql_report.specs.reports.Reports.{IsReport, IsReportWith}
use Rattle.graphql_report.specs.reports.Hints.{word_of}
use Rattle.graphql_report.specs.declared.findings.Finding.{Finding}
use Rattle.graphql_report.specs.declared.style.Style.{Style}
use Rattle.graphql_report.proofs.Depths.{same-token}
use Rattle.graphql_report.proofs.Placed.{IsPlaced, each-placed, placed-front, placed-boundary}

-- ---- what the check's answer says

-- the token of a text, in whichever language it is refused
record IsToken {D Document : Type 0} (language : Described D Document) (limits : Limits) (text : List ℕ) (t : Token) : Type 0 where
  verdict : Verdict
  before : List Token
  after : List Token
  cut : IsCutInto text (before ++ t ∷ after)
  refused : IsRefused (grammar language Current) limits (before ++ t ∷ after) (suc (length before)) verdict

of-refused : {D Document : Type 0} (language : Described D Document) (limits : Limits) (text : List ℕ) (ts : List Token) (lent : LentToken) (v : Verdict) → IsCutInto text ts → (r : RefusedToken (grammar language Current) limits ts v) → seen lent ≡ r.token → IsToken language limits text (seen lent)
of-refused language limits text ts lent v cut r same =
    let split : ts ≡ r.before ++ seen lent ∷ r.after = r.split ∙ ap (λ (t : Token). r.before ++ t ∷ r.after) (sym same) in
    record {
      verdict = v;
      before = r.before;
      after = r.after;
      cut = subst (IsCutInto text) split cut;
      refused = subst (λ (l : List Token). IsRefused (grammar language Current) limits l (suc (length r.before)) v) split r.refused;
    }

one-lent : (lent other : LentToken) → Some lent ≡ Some other → seen lent ≡ seen other
one-lent lent other e = let same : lent ≡ other = cc in ap seen same

given-token : {D Document : Type 0} (language : Described D Document) (limits : Limits) (text : List ℕ) (ts : List Token) (result : Result (Unit {0}) Error) (lent : LentToken) → IsCutInto text ts → (result ≡ Err errors.OutOfMemory → ⊥) → TokenFor (checked language) limits ts result (Some lent) → IsToken language limits text (seen lent)
given-token language limits text ts (Err (errors.Syntax message start end)) lent cut other (r, l) = of-refused language limits text ts lent syntax cut r (one-lent lent l.0 l.1 ∙ l.2)
given-token language limits text ts (Err errors.RecursionLimitExceeded) lent cut other (r, l) = of-refused language limits text ts lent limit cut r (one-lent lent l.0 l.1 ∙ l.2)
given-token language limits text ts (Err errors.OutOfMemory) lent cut other h = absurd (other refl)
given-token language limits text ts (Ok u) lent cut other h = absurd cc
given-token language limits text ts (Err error) lent cut other h = absurd cc

-- where no token is given, the tokens have a tree
tree-of : {D Document : Type 0} (language : Described D Document) (limits : Limits) (ts : List Token) (result : Result (Unit {0}) Error) → (result ≡ Err errors.OutOfMemory → ⊥) → Answers (checked language) limits ts result → TokenFor (checked language) limits ts result None → (ds : List D) × grammar language Current limits ts ds
tree-of language limits ts (Err (errors.Syntax message start end)) other means (r, l) = let none = l.1 in absurd cc
tree-of language limits ts (Err errors.RecursionLimitExceeded) other means (r, l) = let none = l.1 in absurd cc
tree-of language limits ts (Err errors.OutOfMemory) other means h = absurd (other refl)
tree-of language limits ts (Ok u) other means h = (means.0, means.1.within)
tree-of language limits ts (Err error) other means h = (means.definitions, means.tree.within)

nowhere-of : {D Document : Type 0} (language : Described D Document) (limits : Limits) (text : List ℕ) (result : Result (Unit {0}) Error) → (result ≡ Err errors.OutOfMemory → ⊥) → ReadsText (checked language) limits text result → ((ts : List Token) → IsCutInto text ts → TokenFor (checked language) limits ts result None)
    → (before after : List Token) (t : Token) (v : Verdict) → IsCutInto text (before ++ t ∷ after) → IsRefused (grammar language Current) limits (before ++ t ∷ after) (suc (length before)) v → ⊥
nowhere-of language limits text result other reads none before after t v cut refused =
    let ts : List Token = before ++ t ∷ after in
    let tree = tree-of language limits ts result other (reads.answer ts cut) (none ts cut) in
    (reads.decided ts cut).never_both tree.0 tree.1 (suc (length before)) v refused

-- ---- in either language

at-top : (text : List ℕ) (t : Token) → IsPlaced text t → t ≡ in_text text top t
at-top text t p = λ i. record { bare = t.bare; start = start i; pos = at i }
  where
    start : t.start ≡ 0 + t.start
    start = omega arith

    at : t.pos ≡ place text (0 + t.start)
    at = p.at ∙ ap (λ (l : List ℕ). place_after (chars l)) (sym (placed-front text t p)) ∙ ap (place text) start

from-token : (language : Language) (limits : Limits) (text : List ℕ) (t : Token) → IsUtf8 text → (v : Verdict) → IsRefusedAt language limits text t v → IsRefusedFrom language limits text top t
from-token language limits text t utf8 v r = record { in_rest = t; verdict = v; refused = r; is = at-top text t (each-placed text r.before t r.after utf8 r.cut) }

-- what the check gives
pub its-token : (language : Language) (limits : Limits) (text : List ℕ) (result : Result (Unit {0}) Error) (given : Option LentToken) → IsUtf8 text → (result ≡ Err errors.OutOfMemory → ⊥) → ReadsTo language limits text result given → IsItsToken language limits text top errors.RecursionLimitExceeded given
its-token Requests limits text result (Some lent) utf8 other (reads, tells) =
    let cut = tokens_cuts [] (chars text) in
    let k = given-token requests limits text (tokens [] (chars text)) result lent cut other (tells (tokens [] (chars text)) cut) in
    from-token Requests limits text (seen lent) utf8 k.verdict (record { before = k.before; after = k.after; cut = k.cut; refused = k.refused })
its-token Schemas limits text result (Some lent) utf8 other (reads, tells) =
    let cut = tokens_cuts [] (chars text) in
    let k = given-token schemas limits text (tokens [] (chars text)) result lent cut other (tells (tokens [] (chars text)) cut) in
    from-token Schemas limits text (seen lent) utf8 k.verdict (record { before = k.before; after = k.after; cut = k.cut; refused = k.refused })
its-token Requests limits text result None utf8 other (reads, tells) = λ of t r. nowhere-of requests limits text result other reads tells r.refused.before r.refused.after r.in_rest r.verdict r.refused.cut r.refused.refused
its-token Schemas limits text result None utf8 other (reads, tells) = λ of t r. nowhere-of schemas limits text result other reads tells r.refused.before r.refused.after r.in_rest r.verdict r.refused.cut r.refused.refused

-- the same of the answer for any error
pub of-error : {E : Type 0} (language : Language) (limits : Limits) (text : List ℕ) (error : Error) (result : Result (Option LentToken) E) → IfOk result (IsItsToken language limits text top errors.RecursionLimitExceeded) → IfOk result (IsItsToken language limits text top error)
of-error language limits text error (Err refused) h = tt
of-error language limits text error (Ok (Some lent)) h = h
of-error language limits text error (Ok None) h = λ of. h tt

-- ---- one token

same-number : (language : Language) (limits : Limits) (ts : List Token) (k j : ℕ) (v w : Verdict) → RefusesTheToken language limits ts k v → RefusesTheToken language limits ts j w → k ≡ j
same-number Requests limits ts k j v w r s = (one-refusal (grammar requests Current) limits ts k j v w r s).0
same-number Schemas limits ts k j v w r s = (one-refusal (grammar schemas Current) limits ts k j v w r s).0

one-at : (language : Language) (limits : Limits) (text : List ℕ) (t u : Token) (v w : Verdict) → IsRefusedAt language limits text t v → IsRefusedAt language limits text u w → t ≡ u
one-at language limits text t u v w r s =
    let joined : r.before ++ t ∷ r.after ≡ s.before ++ u ∷ s.after = tokens_only [] (chars text) (r.before ++ t ∷ r.after) r.cut ∙ sym (tokens_only [] (chars text) (s.before ++ u ∷ s.after) s.cut) in
    let number = same-number language limits (s.before ++ u ∷ s.after) (suc (length r.before)) (suc (length s.before)) v w (subst (λ (l : List Token). RefusesTheToken language limits l (suc (length r.before)) v) joined r.refused) s.refused in
    same-token r.before s.before t u r.after s.after joined (omega (arith, number))

pub one-from : (language : Language) (limits : Limits) (text : List ℕ) (from : ReadFrom) (t u : Token) → IsRefusedFrom language limits text from t → IsRefusedFrom language limits text from u → t ≡ u
one-from language limits text from t u r s = r.is ∙ ap (in_text text from) (one-at language limits (drop from.offset text) r.in_rest s.in_rest r.verdict s.verdict r.refused s.refused) ∙ sym s.is

-- the token of a reading from the top is the refused one
pub is-known : (language : Language) (limits : Limits) (text : List ℕ) (read : ReadUpTo) (error : Error) → read.from ≡ top → IsOfAToken error → IsItsToken language limits text top error read.token → (token : Token) → IsRefusedFrom language limits text top token → IsKnown language limits text read token
is-known language limits text read error is of its token r = (subst (λ (from : ReadFrom). IsRefusedFrom language limits text from token) (sym is) r, lent read.token refl its)
  where
    lent : (given : Option LentToken) → read.token ≡ given → IsItsToken language limits text top error given → (l : LentToken) × (read.token ≡ Some l) × (seen l ≡ token)
    lent (Some l) e k = (l, e, one-from language limits text top (seen l) token k r)
    lent None e k = absurd (k of token r)

-- ---- a text that is read from a later line on

-- the place of a token of the rest is that in the whole text
place-there : (text rest : List ℕ) (from : ReadFrom) (start : ℕ) (here there : Pos) → IsUtf8 text → IsUtf8 (take start rest) → length text < 2 ^ 63 → BeginsAt text from → rest ≡ drop from.offset text → here ≡ place rest start → IsMoved from here there → there ≡ place text (from.offset + start)
place-there text rest from start here there utf8 front-utf8 short begins is at moved =
    let first : List ℕ = take from.offset text in
    let u : IsUtf8 first = IsUtf8-take text from.offset utf8 begins.0 in
    let whole : take (from.offset + start) text ≡ first ++ take start rest = take-add from.offset start text ∙ ap (λ (l : List ℕ). first ++ take start l) (sym is) in
    let joined : chars (take (from.offset + start) text) ≡ chars first ++ chars (take start rest) = ap chars whole ∙ chars-append first (take start rest) u in
    let more : length (take (from.offset + start) text) + length (drop (from.offset + start) text) ≡ length text =
    sym (length-append (take (from.offset + start) text) (drop (from.offset + start) text)) ∙ ap (λ (l : List ℕ). length l) (take-append-drop (from.offset + start) text) in
    let parts : length (take (from.offset + start) text) ≡ length first + length (take start rest) = ap (λ (l : List ℕ). length l) whole ∙ length-append first (take start rest) in
    let few : length (chars first ++ chars (take start rest)) + 1 < 2 ^ 64 =
    omega (arith, short, length-append (chars first) (chars (take start rest)), length-chars first u, length-chars (take start rest) front-utf8, more, parts) in
    moved (chars first) (chars (take start rest)) begins.1 few at ∙ ap place_after (sym joined)

pub moved-token : (language : Language) (limits : Limits) (text rest : List ℕ) (from : ReadFrom) (lent moved : LentToken) → IsUtf8 text → length text < 2 ^ 63 → BeginsAt text from → rest ≡ drop from.offset text → IsUtf8 rest
    → IsRefusedFrom language limits rest top (seen lent) → (moved.kind ≡ lent.kind) × (moved.text ≡ lent.text) → (from.offset + lent.start < 2 ^ 64 → moved.start ≡ from.offset + lent.start) → IsMoved from lent.pos moved.pos → IsRefusedFrom language limits text from (seen moved)
moved-token language limits text rest from lent moved utf8 short begins is rest-utf8 r same starts place-moved =
    let inner : Token = r.in_rest in
    let placed = each-placed rest r.refused.before inner r.refused.after rest-utf8 r.refused.cut in
    let inside : inner.start ≤ length rest = omega (arith, placed.starts, ap (λ (l : List ℕ). length l) placed.whole, length-append placed.front (inner.bare.spelling ++ placed.back)) in
    let fits : from.offset + inner.start < 2 ^ 64 = omega (arith, inside, short, begins.0.0, ap (λ (l : List ℕ). length l) is, length-drop from.offset text) in
    let none : 0 + inner.start ≡ inner.start = omega arith in
    let lent_start : lent.start ≡ inner.start = ap (λ (t : Token). t.start) r.is ∙ none in
    let start : moved.start ≡ from.offset + inner.start = subst (λ (n : ℕ). from.offset + n < 2 ^ 64 → moved.start ≡ from.offset + n) lent_start starts fits in
    let bare : (seen moved).bare ≡ inner.bare = (λ i. record { kind = same.0 i; spelling = (same.1 i).now }) ∙ ap (λ (t : Token). t.bare) r.is in
    let at : moved.pos ≡ place text (from.offset + inner.start) = place-there text rest from inner.start lent.pos moved.pos utf8 (subst IsUtf8 (sym (placed-front rest inner placed)) placed.front_utf8) short begins is (ap (λ (t : Token). t.pos) r.is ∙ ap (place rest) none) place-moved in
    record {
      in_rest = inner;
      verdict = r.verdict;
      refused = subst (λ (l : List ℕ). IsRefusedAt language limits l inner r.verdict) is r.refused;
      is = λ i. record { bare = bare i; start = start i; pos = at i };
    }

pub none-there : (language : Language) (limits : Limits) (text rest : List ℕ) (from : ReadFrom) → rest ≡ drop from.offset text → ((token : Token) → IsRefusedFrom language limits rest top token → ⊥) → (token : Token) → IsRefusedFrom language limits text from token → ⊥
none-there language limits text rest from is none token r =
    none (in_text rest top r.in_rest) (record { in_rest = r.in_rest; verdict = r.verdict; refused = subst (λ (l : List ℕ). IsRefusedAt language limits l r.in_rest r.verdict) (sym is) r.refused; is = refl })

-- ---- the token that is known, in its text

-- the place of the token that is refused is that of its offset
pub at-its-start : (language : Language) (limits : Limits) (text : List ℕ) (from : ReadFrom) (token : Token) → IsRefusedFrom language limits text from token → token.pos ≡ place text token.start
at-its-start language limits text from token r = ap (λ (t : Token). t.pos) r.is ∙ sym (ap (λ (t : Token). place text t.start) r.is)

-- it begins before a character, in the rest and in the whole text
pub inner-boundary : (language : Language) (limits : Limits) (text : List ℕ) (from : ReadFrom) (token : Token) → IsUtf8 text → BeginsAt text from → IsRefusedFrom language limits text from token → IsCharBoundary (drop from.offset text) (token.start - from.offset)
inner-boundary language limits text from token utf8 begins r =
    let rest-utf8 = IsUtf8-drop text from.offset utf8 begins.0 in
    let placed = each-placed (drop from.offset text) r.refused.before r.in_rest r.refused.after rest-utf8 r.refused.cut in
    let start : token.start - from.offset ≡ r.in_rest.start = omega (arith, ap (λ (t : Token). t.start) r.is) in
    subst (IsCharBoundary (drop from.offset text)) (sym start) (placed-boundary (drop from.offset text) r.in_rest rest-utf8 placed)

pub its-boundary : (language : Language) (limits : Limits) (text : List ℕ) (from : ReadFrom) (token : Token) → IsUtf8 text → BeginsAt text from → IsRefusedFrom language limits text from token → IsCharBoundary text token.start
its-boundary language limits text from token utf8 begins r =
    let start : from.offset + (token.start - from.offset) ≡ token.start = omega (arith, ap (λ (t : Token). t.start) r.is) in
    subst (IsCharBoundary text) start (IsCharBoundary-from_rest text from.offset (token.start - from.offset) begins.0.0 (inner-boundary language limits text from token utf8 begins r))

-- the token that is known is the one that is lent
pub known-lent : (language : Language) (limits : Limits) (text : List ℕ) (read : ReadUpTo) (token : Token) (lent : LentToken) → read.token ≡ Some lent → IsKnown language limits text read token → seen lent ≡ token
known-lent language limits text read token lent is known = one-lent lent known.1.0 (sym is ∙ known.1.1) ∙ known.1.2

-- where it starts, that one does
pub at-lent : (P : ℕ → Type 0) (language : Language) (limits : Limits) (text : List ℕ) (read : ReadUpTo) (token : Token) (lent : LentToken) → read.token ≡ Some lent → IsKnown language limits text read token → P token.start → P lent.start
at-lent P language limits text read token lent is known h = subst P (sym (ap (λ (t : Token). t.start) (known-lent language limits text read token lent is known))) h

-- a place that is that of its offset
pub known-place : (language : Language) (limits : Limits) (text : List ℕ) (read : ReadUpTo) (token : Token) (lent : LentToken) (here : Pos) → IsUtf8 text → BeginsAt text read.from → read.token ≡ Some lent → IsKnown language limits text read token → (IsCharBoundary text lent.start → here ≡ place text lent.start) → here ≡ token.pos
known-place language limits text read token lent here utf8 begins is known at =
    let boundary = at-lent (IsCharBoundary text) language limits text read token lent is known (its-boundary language limits text read.from token utf8 begins known.0) in
    at boundary ∙ at-lent (λ n. place text n ≡ token.pos) language limits text read token lent is known (sym (at-its-start language limits text read.from token known.0))

pub not-known : {A : Type 0} (language : Language) (limits : Limits) (text : List ℕ) (read : ReadUpTo) (token : Token) → read.token ≡ None → IsKnown language limits text read token → A
not-known language limits text read token none known = let e = known.1.1 in absurd (clash known.1.0 (sym none ∙ e))
  where
    clash : (lent : LentToken) → None ≡ Some lent → ⊥
    clash lent e = cc

-- ---- what is told of it

-- the bytes before it, in the rest that was read
pub read-front : (language : Language) (limits : Limits) (text : List ℕ) (read : ReadUpTo) (token : Token) (lent : LentToken) → IsUtf8 text → BeginsAt text read.from → read.token ≡ Some lent → IsKnown language limits text read token → IsCharBoundary (drop read.from.offset text) (lent.start - read.from.offset)
read-front language limits text read token lent utf8 begins is known =
    at-lent (λ n. IsCharBoundary (drop read.from.offset text) (n - read.from.offset)) language limits text read token lent is known (inner-boundary language limits text read.from token utf8 begins known.0)

drop-sum : (n m : ℕ) (l : List ℕ) → drop (n + m) l ≡ drop m (drop n l)
drop-sum n m l = sym (drop-drop m n l)

of-end : (text front : List ℕ) (lent : LentToken) (given : Option Pos) → MatchOption given (lent.text.now ≡ []) (λ there. there ≡ place_after (front ++ chars lent.text.now)) → place text (lent.start + length lent.text.now) ≡ place_after (front ++ chars lent.text.now) → IsEndOf text (seen lent) given
of-end text front lent None h e = h
of-end text front lent (Some there) h e = h ∙ sym e

-- where it ends
pub ends-there : (language : Language) (limits : Limits) (text : List ℕ) (read : ReadUpTo) (token : Token) (lent : LentToken) (end : Option Pos) → IsUtf8 text → length text < 2 ^ 63 → BeginsAt text read.from → read.token ≡ Some lent → IsKnown language limits text read token
    → ((front : List ℕ) → AreCounted (front ++ chars lent.text.now) → lent.pos ≡ place_after front → MatchOption end (lent.text.now ≡ []) (λ there. there ≡ place_after (front ++ chars lent.text.now))) → IsEndOf text token end
ends-there language limits text read token lent end utf8 short begins is known tells =
    let same = known-lent language limits text read token lent is known in
    subst (λ (t : Token). IsEndOf text t end) same (of-lent (subst (IsRefusedFrom language limits text read.from) (sym same) known.0))
  where
    of-lent : IsRefusedFrom language limits text read.from (seen lent) → IsEndOf text (seen lent) end
    of-lent r =
        let rest : List ℕ = drop read.from.offset text in
        let rest-utf8 = IsUtf8-drop text read.from.offset utf8 begins.0 in
        let placed = each-placed rest r.refused.before r.in_rest r.refused.after rest-utf8 r.refused.cut in
        let spelled : lent.text.now ≡ r.in_rest.bare.spelling = ap (λ (t : Token). t.bare.spelling) r.is in
        let start : lent.start ≡ read.from.offset + r.in_rest.start = ap (λ (t : Token). t.start) r.is in
        let boundary = its-boundary language limits text read.from (seen lent) utf8 begins r in
        let first : List ℕ = take lent.start text in
        let later : drop lent.start text ≡ r.in_rest.bare.spelling ++ placed.back =
        ap (λ n. drop n text) start ∙ drop-sum read.from.offset r.in_rest.start text ∙ ap (λ n. drop n rest) placed.starts ∙ ap (drop (length placed.front)) placed.whole ∙ drop-append_seam placed.front (r.in_rest.bare.spelling ++ placed.back) in
        let word : take (length lent.text.now) (drop lent.start text) ≡ lent.text.now =
        ap (λ (l : List ℕ). take (length l) (drop lent.start text)) spelled ∙ ap (take (length r.in_rest.bare.spelling)) later ∙ take-append_seam r.in_rest.bare.spelling placed.back ∙ sym spelled in
        let whole : take (lent.start + length lent.text.now) text ≡ first ++ lent.text.now = take-add lent.start (length lent.text.now) text ∙ ap (λ (l : List ℕ). first ++ l) word in
        let u = IsUtf8-take text lent.start utf8 boundary in
        let joined : chars (take (lent.start + length lent.text.now) text) ≡ chars first ++ chars lent.text.now = ap chars whole ∙ chars-append first lent.text.now u in
        let more : length (take (lent.start + length lent.text.now) text) + length (drop (lent.start + length lent.text.now) text) ≡ length text =
        sym (length-append (take (lent.start + length lent.text.now) text) (drop (lent.start + length lent.text.now) text)) ∙ ap (λ (l : List ℕ). length l) (take-append-drop (lent.start + length lent.text.now) text) in
        let parts : length (take (lent.start + length lent.text.now) text) ≡ length first + length lent.text.now = ap (λ (l : List ℕ). length l) whole ∙ length-append first lent.text.now in
        let few : length (chars first ++ chars lent.text.now) + 1 < 2 ^ 64 =
        omega (arith, short, length-append (chars first) (chars lent.text.now), length-chars first u, length-chars lent.text.now (subst IsUtf8 (sym spelled) placed.spelling_utf8), more, parts) in
        of-end text (chars first) lent end (tells (chars first) few (at-its-start language limits text read.from (seen lent) r)) (ap place_after joined)

-- what is told of the token that is known is told of the refused one, where the text was read from its top
details-known : (language : Language) (limits : Limits) (text : List ℕ) (read : ReadUpTo) (error : Error) (details : List ℕ) (asked : Option (List ℕ)) → read.from ≡ top → IsOfAToken error → IsItsToken language limits text top error read.token → AreDetails (IsKnown language limits text read) language limits text read.from read.unclosed details asked → AreDetails (IsRefusedFrom language limits text top) language limits text top read.unclosed details asked
details-known language limits text read error details asked is of its are = λ token r. subst (λ (from : ReadFrom). TellsToken language limits text from read.unclosed token details asked) is (are token (is-known language limits text read error is of its token r))

-- and so is the place that is told
told-known : (language : Language) (limits : Limits) (text : List ℕ) (read : ReadUpTo) (error : Error) (start told : Pos) → read.from ≡ top → IsOfAToken error → IsItsToken language limits text top error read.token → IsToldAt (IsKnown language limits text read) text start told → IsToldAt (IsRefusedFrom language limits text top) text start told
told-known language limits text read error start told is of its (inl (same, none)) = inl (same, λ token r. none token (is-known language limits text read error is of its token r))
told-known language limits text read error start told is of its (inr (at, bad)) = inr (at, λ token r. bad token (is-known language limits text read error is of its token r))

stands-known : (language : Language) (limits : Limits) (text : List ℕ) (read : ReadUpTo) (error : Error) (stands : Option Pos) → read.from ≡ top → IsItsToken language limits text top error read.token → StandsAt (IsKnown language limits text read) text error stands → StandsAt (IsRefusedFrom language limits text top) text error stands
stands-known language limits text read (errors.Syntax message start stop) stands is its (at, there, h) = (at, there, told-known language limits text read (errors.Syntax message start stop) start at is tt its h)
stands-known language limits text read errors.RecursionLimitExceeded stands is its (at, there, (inside, same)) = (at, there, (inside, λ token r. same token (is-known language limits text read errors.RecursionLimitExceeded is tt its token r)))
stands-known language limits text read error stands is its h = h

ends-known : (language : Language) (limits : Limits) (text : List ℕ) (read : ReadUpTo) (error : Error) (end : Option Pos) → read.from ≡ top → IsItsToken language limits text top error read.token → EndsAt (IsKnown language limits text read) text error end → EndsAt (IsRefusedFrom language limits text top) text error end
ends-known language limits text read (errors.Syntax message start stop) end is its h = λ token r. h token (is-known language limits text read (errors.Syntax message start stop) is tt its token r)
ends-known language limits text read errors.RecursionLimitExceeded end is its h = λ token r. h token (is-known language limits text read errors.RecursionLimitExceeded is tt its token r)
ends-known language limits text read error end is its h = h

message-known : (language : Language) (limits : Limits) (text : List ℕ) (read : ReadUpTo) (error : Error) (told : List ℕ) (meant : Option (List ℕ)) → read.from ≡ top → IsItsToken language limits text top error read.token → IsMessage (IsKnown language limits text read) language limits text read.from read.unclosed error told meant → IsMessage (IsRefusedFrom language limits text top) language limits text top read.unclosed error told meant
message-known language limits text read (errors.Syntax message start stop) told meant is its (details, same, are) = (details, same, details-known language limits text read (errors.Syntax message start stop) details meant is tt its are)
message-known language limits text read errors.RecursionLimitExceeded told meant is its (none, (more, remark, same)) = (none, (more, (λ token r. remark token (is-known language limits text read errors.RecursionLimitExceeded is tt its token r)), same))
message-known language limits text read error told meant is its h = h

-- so the finding is that of the refused token
pub is-finding : (language : Language) (limits : Limits) (text : List ℕ) (read : ReadUpTo) (error : Error) (finding : Finding) → read.from ≡ top → IsItsToken language limits text top error read.token → IsFinding (IsKnown language limits text read) language limits text read.from read.unclosed error finding → IsFinding (IsRefusedFrom language limits text top) language limits text top read.unclosed error finding
is-finding language limits text read error finding is its h = record {
  stands = stands-known language limits text read error finding.place is its h.stands;
  ends = ends-known language limits text read error finding.end is its h.ends;
  status = h.status;
  message = message-known language limits text read error (string_bytes finding.message) (word_of finding.meant) is its h.message;
}

finding-alone : (language : Language) (limits : Limits) (text : List ℕ) (read : ReadUpTo) (error : Error) (finding : Finding) → read.from ≡ top → read.unclosed ≡ None → IsItsToken language limits text top error read.token → IsFinding (IsKnown language limits text read) language limits text read.from read.unclosed error finding → IsFinding (IsRefusedFrom language limits text top) language limits text top None error finding
finding-alone language limits text read error finding is closed its h = subst (λ (unclosed : Option Pos). IsFinding (IsRefusedFrom language limits text top) language limits text top unclosed error finding) closed (is-finding language limits text read error finding is its h)

pub finding-known : {E : Type 0} (language : Language) (limits : Limits) (text : List ℕ) (read : ReadUpTo) (error : Error) (result : Result Finding E) → read.from ≡ top → read.unclosed ≡ None → IsItsToken language limits text top error read.token → IfOk result (IsFinding (IsKnown language limits text read) language limits text read.from read.unclosed error) → IfOk result (IsFinding (IsRefusedFrom language limits text top) language limits text top None error)
finding-known language limits text read error (Err refused) is closed its h = tt
finding-known language limits text read error (Ok finding) is closed its h = finding-alone language limits text read error finding is closed its h

-- and so is the one that a report shows
pub report-known : {E R : Type 0} (bytes : R → List ℕ) (style : Style) (file : List ℕ) (language : Language) (limits : Limits) (text : List ℕ) (read : ReadUpTo) (error : Error) (result : Result R E) → read.from ≡ top → read.unclosed ≡ None → IsItsToken language limits text top error read.token
    → IfOk result (λ r. IsReportWith style file (IsKnown language limits text read) language limits text read.from read.unclosed error (bytes r)) → IfOk result (λ r. IsReport style file (IsRefusedFrom language limits text top) language limits text top error (bytes r))
report-known bytes style file language limits text read error (Err refused) is closed its h = tt
report-known bytes style file language limits text read error (Ok r) is closed its h = record { finding = h.finding; is = finding-alone language limits text read error h.finding is closed its h.is; shows = h.shows }

-- the finding of a syntax error, whatever its message
pub finding-syntax : {E : Type 0} (is_refused : Token → Type 0) (language : Language) (limits : Limits) (text : List ℕ) (from : ReadFrom) (unclosed : Option Pos) (error : Error) (start : Pos) (message : String Global) (stop : Option Pos) (result : Result Finding E) → error ≡ errors.Syntax message start stop → IfOk result (λ finding. (m : String Global) (s : Option Pos) → IsFinding is_refused language limits text from unclosed (errors.Syntax m start s) finding) → IfOk result (IsFinding is_refused language limits text from unclosed error)
finding-syntax is_refused language limits text from unclosed error start message stop (Err refused) is h = tt
finding-syntax is_refused language limits text from unclosed error start message stop (Ok finding) is h = subst (λ (e : Error). IsFinding is_refused language limits text from unclosed e finding) (sym is) (h message stop)
