-- The answer of a parser, and how many tokens are taken for it, from what the reader of its language tells and what
-- the rules of the code make of the definitions. Proved once, for each language.
use Rattle.std.proofs.Common.{◌≡◌, ℕ, suc, ◌+◌, ◌-◌, ◌≤◌, inl, Option, Some, None, Result, Ok, Err, List, [], ◌∷◌, ◌++◌, length, drop, sym, ap, ◌∙◌, subst, length-drop, length-append, arith}
use Rattle.graphql_tokens.specs.declared.lexer.Token.{Token as LentToken}
use Rattle.graphql_tokens.specs.tokens.Cuts.{EndsOnce}
use Rattle.graphql_tokens.specs.tokens.Edition.{Current}
use Rattle.graphql_tokens.specs.tokens.Proper.{AreProperButFaults}
use Rattle.graphql_tokens.specs.tokens.Seen.{seen}
use Rattle.graphql_tokens.specs.tokens.Token.{Token, Lexing, left}
use Rattle.graphql_grammar.specs.answers.Answers.{Answers, TakenFor, TokenFor, AreTheDefinitions, AreUnbroken, IsDecided}
use Rattle.graphql_grammar.specs.answers.Language.{Language, grammar}
use Rattle.graphql_grammar.specs.answers.Reads.{ReadsTokens}
use Rattle.graphql_grammar.specs.declared.error.Error.{Error}
use Rattle.graphql_grammar.specs.declared.error.Error.TheVariants as errors
use Rattle.graphql_grammar.specs.reading.DocumentOf.{IsDocumentOf, TellsBreach, TellsOf}
use Rattle.graphql_grammar.specs.reading.Errors.{IsErrorOf}
use Rattle.graphql_grammar.specs.reading.ReadBy.{RefusedHere, IsReadBy}
use Rattle.graphql_grammar.proofs.OneAnswer.{one-answer}
use Rattle.graphql_reading.specs.declared.parser.Refusal.{Refusal}
use Rattle.graphql_reading.specs.grammar.Fronts.{IsRefused, Verdict, syntax, limit, whole}
use Rattle.graphql_reading.specs.grammar.Limits.{Limits}
use Rattle.graphql_reading.specs.reading.Ahead.{Ahead, Source, tokens}
use Rattle.graphql_reading.specs.reading.Given.{Refuses, GoesOn}
use Rattle.graphql_reading.specs.reading.Outcome.{Reader, Read, whole_at}

-- ---- the answer where there is a tree

document-answers : {D Document : Type 0} (language : Language D Document) (limits : Limits) (ts : List Token) (ds : List D) (result : Result Document Error) → AreTheDefinitions language limits ts ds → IsDocumentOf language ds result → Answers language limits ts result
document-answers language limits ts ds (Ok document) h is = (ds, h, is)
document-answers language limits ts ds (Err (errors.Syntax message start end)) h is = absurd is
document-answers language limits ts ds (Err errors.RecursionLimitExceeded) h is = absurd is
document-answers language limits ts ds (Err errors.OutOfMemory) h is = tt
document-answers language limits ts ds (Err error) h is = record { definitions = ds; tree = h; broken = is }

document-taken : {D Document : Type 0} (language : Language D Document) (limits : Limits) (ts : List Token) (ds : List D) (result : Result Document Error) (count : ℕ) → count ≡ length ts → IsDocumentOf language ds result → TakenFor language limits ts result count
document-taken language limits ts ds (Ok document) count all is = all
document-taken language limits ts ds (Err (errors.Syntax message start end)) count all is = absurd is
document-taken language limits ts ds (Err errors.RecursionLimitExceeded) count all is = absurd is
document-taken language limits ts ds (Err errors.OutOfMemory) count all is = omega (arith, all)
document-taken language limits ts ds (Err error) count all is = all

-- the first definition that breaks a rule
pub breaks : {D Document : Type 0} (language : Language D Document) (ds before : List D) (d : D) (after : List D) (error : Error) → ds ≡ before ++ d ∷ after → AreUnbroken language before → TellsOf (language.breach before d) error → TellsBreach language ds error
breaks language ds before d after (errors.Syntax message start end) split unbroken e = absurd e
breaks language ds before d after errors.RecursionLimitExceeded split unbroken e = absurd e
breaks language ds before d after errors.OutOfMemory split unbroken e = tt
breaks language ds before d after error split unbroken e = inl (record { before = before; broken = d; after = after; split = split; unbroken_before = unbroken; is = e })

-- ---- the answer where there is none

refusal-answers : {D Document : Type 0} (language : Language D Document) (reader : Limits → Reader (List D)) → IsReadBy language reader → (limits : Limits) (old new : Ahead) (stop : Refusal) (error : Error) → EndsOnce (tokens old) → AreProperButFaults (tokens old) → Refuses stop old new (whole_at (reader limits)) → IsErrorOf stop new.hand.pos error → Answers language limits (tokens old) (Err error)
refusal-answers language reader read limits old new stop (errors.Syntax message start end) ends proper h is =
    let m = read.refuses limits (tokens old) ends proper syntax new.hand new.after (subst (λ (s : Refusal). Refuses s old new (whole_at (reader limits))) is.0 h) in
    (m.0, is.1 ∙ ap (λ (t : Token). t.pos) (sym m.1), is.2, is.3)
refusal-answers language reader read limits old new stop errors.RecursionLimitExceeded ends proper h is =
    (read.refuses limits (tokens old) ends proper limit new.hand new.after (subst (λ (s : Refusal). Refuses s old new (whole_at (reader limits))) is h)).0
refusal-answers language reader read limits old new stop errors.OutOfMemory ends proper h is = tt
refusal-answers language reader read limits old new stop error ends proper h is = absurd is

-- the tokens up to the refused one
up-to : {D Document : Type 0} (language : Language D Document) (limits : Limits) (ts after : List Token) (t : Token) (v : Verdict) (count : ℕ) → length ts ≡ count + length after → RefusedHere language limits ts v t after → IsRefused (grammar language Current) limits ts count v
up-to language limits ts after t v count long h =
    let all : length ts ≡ length h.0.before + suc (length after) = ap length (h.0.split ∙ ap (λ (l : List Token). h.0.before ++ l) (λ i. h.1 i ∷ h.2 i)) ∙ length-append h.0.before (t ∷ after) in
    let same : suc (length h.0.before) ≡ count = omega (arith, long, all) in
    subst (λ (n : ℕ). IsRefused (grammar language Current) limits ts n v) same h.0.refused

refusal-taken : {D Document : Type 0} (language : Language D Document) (reader : Limits → Reader (List D)) → IsReadBy language reader → (limits : Limits) (old new : Ahead) (stop : Refusal) (error : Error) (count : ℕ) → length (tokens old) ≡ count + length new.after → EndsOnce (tokens old) → AreProperButFaults (tokens old) → Refuses stop old new (whole_at (reader limits)) → IsErrorOf stop new.hand.pos error → TakenFor language limits (tokens old) (Err error) count
refusal-taken language reader read limits old new stop (errors.Syntax message start end) count long ends proper h is =
    up-to language limits (tokens old) new.after new.hand syntax count long
    (read.refuses limits (tokens old) ends proper syntax new.hand new.after (subst (λ (s : Refusal). Refuses s old new (whole_at (reader limits))) is.0 h))
refusal-taken language reader read limits old new stop errors.RecursionLimitExceeded count long ends proper h is =
    up-to language limits (tokens old) new.after new.hand limit count long
    (read.refuses limits (tokens old) ends proper limit new.hand new.after (subst (λ (s : Refusal). Refuses s old new (whole_at (reader limits))) is h))
refusal-taken language reader read limits old new stop errors.OutOfMemory count long ends proper h is = omega (arith, long)
refusal-taken language reader read limits old new stop error count long ends proper h is = absurd is

-- ---- the refused token

pub document-token : {D Document : Type 0} (language : Language D Document) (limits : Limits) (ts : List Token) (ds : List D) (result : Result Document Error) (given : Option LentToken) → IsDocumentOf language ds result → given ≡ None → TokenFor language limits ts result given
document-token language limits ts ds (Ok document) given is none = none
document-token language limits ts ds (Err (errors.Syntax message start end)) given is none = absurd is
document-token language limits ts ds (Err errors.RecursionLimitExceeded) given is none = absurd is
document-token language limits ts ds (Err errors.OutOfMemory) given is none = tt
document-token language limits ts ds (Err error) given is none = none

refusal-token : {D Document : Type 0} (language : Language D Document) (reader : Limits → Reader (List D)) → IsReadBy language reader → (limits : Limits) (old new : Ahead) (stop : Refusal) (error : Error) (lent : LentToken) (given : Option LentToken) → EndsOnce (tokens old) → AreProperButFaults (tokens old) → Refuses stop old new (whole_at (reader limits)) → IsErrorOf stop new.hand.pos error → given ≡ Some lent → seen lent ≡ new.hand → TokenFor language limits (tokens old) (Err error) given
refusal-token language reader read limits old new stop (errors.Syntax message start end) lent given ends proper h is put same =
    let m = read.refuses limits (tokens old) ends proper syntax new.hand new.after (subst (λ (s : Refusal). Refuses s old new (whole_at (reader limits))) is.0 h) in
    (m.0, (lent, put, same ∙ sym m.1))
refusal-token language reader read limits old new stop errors.RecursionLimitExceeded lent given ends proper h is put same =
    let m = read.refuses limits (tokens old) ends proper limit new.hand new.after (subst (λ (s : Refusal). Refuses s old new (whole_at (reader limits))) is h) in
    (m.0, (lent, put, same ∙ sym m.1))
refusal-token language reader read limits old new stop errors.OutOfMemory lent given ends proper h is put same = tt
refusal-token language reader read limits old new stop error lent given ends proper h is put same = absurd is

-- ---- counts

-- between two counts of tokens of one list stand as many as the one is more than the other
pub taken-between : (whole old later : List Token) (before now : ℕ) → old ≡ drop before whole → later ≡ drop now whole → before ≤ now → now ≤ length whole → length old ≡ (now - before) + length later
taken-between whole old later before now o b le within =
    let p : length old ≡ length whole - before = ap length o ∙ length-drop before whole in
    let q : length later ≡ length whole - now = ap length b ∙ length-drop now whole in
    omega (arith, p, q, le, within)

-- the lexer from which a parser began, and the one that it left, where it stopped
pub record Goes (from to : Lexing) (start stop : Ahead) : Type 0 where
  pub same : tokens start ≡ left from
  pub ends : EndsOnce (tokens start)
  pub proper : AreProperButFaults (tokens start)
  pub whole : GoesOn start stop → to.whole ≡ from.whole
  pub text : GoesOn start stop → to.text ≡ from.text
  pub sums : GoesOn start stop → to.taken ≡ from.taken + (to.taken - from.taken)
  pub counted : GoesOn start stop → length (tokens start) ≡ (to.taken - from.taken) + length stop.after

pub goes-of : (from given to : Lexing) (start stop : Ahead) → given ≡ from → tokens start ≡ left given → EndsOnce (left given) → AreProperButFaults (left given) → start.source.text ≡ given.text → start.source.whole ≡ given.whole → start.taken ≡ given.taken + 1 → left to ≡ stop.after → to.text ≡ stop.source.text → to.whole ≡ stop.source.whole → to.taken ≡ stop.taken → to.taken ≤ length to.whole → Goes from to start stop
goes-of from given to start stop is begins ends proper text whole taken later also last stopped within = record {
  same = begins ∙ ap left is;
  ends = subst EndsOnce (sym begins) ends;
  proper = subst AreProperButFaults (sym begins) proper;
  whole = one-list;
  text = λ on. also ∙ ap (λ (s : Source). s.text) on.0 ∙ text ∙ ap (λ (l : Lexing). l.text) is;
  sums = λ on. omega (arith, forward on);
  counted = λ on.
      taken-between from.whole (tokens start) stop.after from.taken to.taken
      (begins ∙ ap left is) (sym later ∙ ap (drop to.taken) (one-list on))
      (forward on) (subst (λ (l : List Token). to.taken ≤ length l) (one-list on) within);
}
  where
    forward : GoesOn start stop → from.taken ≤ to.taken
    forward on = let b = on.1 in let e = ap (λ (l : Lexing). l.taken) is in omega (arith, taken, b, stopped, e)

    one-list : GoesOn start stop → to.whole ≡ from.whole
    one-list on = last ∙ ap (λ (s : Source). s.whole) on.0 ∙ whole ∙ ap (λ (l : Lexing). l.whole) is

-- all are taken where none is left
all-taken : (from to : Lexing) (start stop : Ahead) → Goes from to start stop → GoesOn start stop → stop.after ≡ [] → to.taken - from.taken ≡ length (tokens start)
all-taken from to start stop g on empty = let t = g.counted on in let n = ap length empty in omega (arith, t, n)

-- ---- what is said of the tokens that were left

-- whatever the answer
reads-tokens : {D Document : Type 0} (language : Language D Document) (reader : Limits → Reader (List D)) → IsReadBy language reader → (limits : Limits) (from to : Lexing) (start stop : Ahead) → Goes from to start stop → GoesOn start stop → (result : Result Document Error) → Answers language limits (tokens start) result → TakenFor language limits (tokens start) result (to.taken - from.taken) → ReadsTokens language limits from to result
reads-tokens language reader read limits from to start stop goes on result answers taken = record {
  answer = subst (λ ts. Answers language limits ts result) goes.same answers;
  only = λ ds h. subst (λ ts. AreTheDefinitions language limits ts ds) goes.same (read.only limits (tokens start) goes.ends goes.proper ds (subst (λ ts. grammar language Current limits ts ds) (sym goes.same) h));
  one_answer = one-answer language limits (left from);
  one_tree = read.one_tree (left from);
  decided = subst (IsDecided language limits) goes.same (read.decided limits (tokens start) goes.ends goes.proper);
  bare = read.bare limits (left from);
  taken = (to.taken - from.taken, goes.sums on, subst (λ ts. TakenFor language limits ts result (to.taken - from.taken)) goes.same taken);
  whole = goes.whole on;
  text = goes.text on;
}

-- where there is a tree
pub reads-document : {D Document : Type 0} (language : Language D Document) (reader : Limits → Reader (List D)) → IsReadBy language reader → (limits : Limits) (from to : Lexing) (start stop : Ahead) → Goes from to start stop → GoesOn start stop → (ds : List D) (result : Result Document Error) → whole_at (reader limits) (tokens start) ≡ Read ds stop.after → IsDocumentOf language ds result → ReadsTokens language limits from to result
reads-document language reader read limits from to start stop goes on ds result h is =
    let accepted = read.accepts limits (tokens start) goes.ends goes.proper ds stop.after h in
    reads-tokens language reader read limits from to start stop goes on result
    (document-answers language limits (tokens start) ds result accepted.1 is)
    (document-taken language limits (tokens start) ds result (to.taken - from.taken) (all-taken from to start stop goes on accepted.0) is)

-- where there is none
pub reads-refusal : {D Document : Type 0} (language : Language D Document) (reader : Limits → Reader (List D)) → IsReadBy language reader → (limits : Limits) (from to : Lexing) (start stop : Ahead) → Goes from to start stop → GoesOn start stop → (refusal : Refusal) (error : Error) → Refuses refusal start stop (whole_at (reader limits)) → IsErrorOf refusal stop.hand.pos error → ReadsTokens language limits from to (Err error)
reads-refusal language reader read limits from to start stop goes on refusal error h is =
    reads-tokens language reader read limits from to start stop goes on (Err error)
    (refusal-answers language reader read limits start stop refusal error goes.ends goes.proper h is)
    (refusal-taken language reader read limits start stop refusal error (to.taken - from.taken) (goes.counted on) goes.ends goes.proper h is)

-- where a token is refused, it is the one in hand
pub token-of-refusal : {D Document : Type 0} (language : Language D Document) (reader : Limits → Reader (List D)) → IsReadBy language reader → (limits : Limits) (from to : Lexing) (start stop : Ahead) → Goes from to start stop → (why : Refusal) (error : Error) (lent : LentToken) (given : Option LentToken) → Refuses why start stop (whole_at (reader limits)) → IsErrorOf why stop.hand.pos error → given ≡ Some lent → seen lent ≡ stop.hand → TokenFor language limits (left from) (Err error) given
token-of-refusal language reader read limits from to start stop goes why error lent given h is put same =
    subst (λ ts. TokenFor language limits ts (Err error) given) goes.same (refusal-token language reader read limits start stop why error lent given goes.ends goes.proper h is put same)
