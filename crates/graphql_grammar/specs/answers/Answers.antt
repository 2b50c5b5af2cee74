-- What the answer of a parser says of the tokens of its text, whichever language it reads.
-- Source: this project's choice.
use Rattle.std.specs.Prelude.{◌≡◌, ◌≢◌, ◌⊎◌, ℕ, ◌≤◌, length, Option, Some, None, Result, Ok, Err, List, ◌∷◌, ◌++◌, string_bytes}
use Rattle.graphql_tokens.specs.declared.lexer.Token.{Token as LentToken}
use Rattle.graphql_tokens.specs.tokens.Edition.{Current}
use Rattle.graphql_tokens.specs.tokens.Seen.{seen}
use Rattle.graphql_tokens.specs.tokens.Token.{Token}
use Rattle.graphql_grammar.specs.answers.Language.{Language, grammar}
use Rattle.graphql_grammar.specs.declared.error.Error.{Error}
use Rattle.graphql_grammar.specs.declared.error.Error.TheVariants.{Syntax, RecursionLimitExceeded, OutOfMemory}
use Rattle.graphql_grammar.specs.errors.Errors.{syntax_message, placeless_error, AreEqualErrors}
use Rattle.graphql_reading.specs.grammar.Fronts.{IsTheTree, IsRefused, RefusedToken, Verdict, syntax, limit, unlimited, bares, without_places}
use Rattle.graphql_reading.specs.grammar.Limits.{Limits}

-- ---- definitions that break a rule, or none

-- no definition breaks a rule
abbrev pub AreUnbroken : {D Document : Type 0} → Language D Document → List D → Type 0
AreUnbroken {D} language ds = (before : List D) (d : D) (after : List D) → ds ≡ before ++ d ∷ after → language.breach before d ≡ None

-- the first definition in source order that breaks a rule, and the error that it is
pub record FirstBreach {D Document : Type 0} (language : Language D Document) (ds : List D) (error : Error) : Type 0 where
  pub before : List D
  pub broken : D
  pub after : List D
  pub split : ds ≡ before ++ broken ∷ after
  pub unbroken_before : AreUnbroken language before
  pub is : language.breach before broken ≡ Some error

-- no definition breaks a rule, and the list lacks something
pub record Lacks {D Document : Type 0} (language : Language D Document) (ds : List D) (error : Error) : Type 0 where
  pub unbroken : AreUnbroken language ds
  pub is : language.lack ds ≡ Some error

-- no definition breaks a rule, nothing is lacking, and this is the document
pub record IsDocument {D Document : Type 0} (language : Language D Document) (ds : List D) (document : Document) : Type 0 where
  pub unbroken : AreUnbroken language ds
  pub complete : language.lack ds ≡ None
  pub made : language.makes ds document

-- ---- answers

-- the definitions are the one tree of the tokens
abbrev pub AreTheDefinitions : {D Document : Type 0} → Language D Document → Limits → List Token → List D → Type 0
AreTheDefinitions language limits tokens ds = IsTheTree (grammar language Current) language.placeless limits tokens ds

-- the tokens have one tree, and this is what it breaks first, or what it lacks
pub record Breaks {D Document : Type 0} (language : Language D Document) (limits : Limits) (tokens : List Token) (error : Error) : Type 0 where
  pub definitions : List D
  pub tree : AreTheDefinitions language limits tokens definitions
  pub broken : FirstBreach language definitions error ⊎ Lacks language definitions error

-- what an error says
abbrev pub ErrorMeans : {D Document : Type 0} → Language D Document → Limits → List Token → Error → Type 0
ErrorMeans language limits tokens (Syntax message start end) =
    (refused : RefusedToken (grammar language Current) limits tokens syntax) × (start ≡ refused.token.pos) × (end ≡ None) × (string_bytes message ≡ syntax_message start)
ErrorMeans language limits tokens RecursionLimitExceeded = RefusedToken (grammar language Current) limits tokens limit
ErrorMeans language limits tokens OutOfMemory = Unit {0}
ErrorMeans language limits tokens broken = Breaks language limits tokens broken

-- what an answer says
abbrev pub Answers : {D Document : Type 0} → Language D Document → Limits → List Token → Result Document Error → Type 0
Answers {D} language limits tokens (Ok document) = (ds : List D) × AreTheDefinitions language limits tokens ds × IsDocument language ds document
Answers language limits tokens (Err error) = ErrorMeans language limits tokens error

-- So many tokens are taken for an answer: those up to the refused one and that one, or all where there
-- is a tree; where memory runs out, no more than there are.
abbrev pub TakenFor : {D Document : Type 0} → Language D Document → Limits → List Token → Result Document Error → ℕ → Type 0
TakenFor language limits tokens (Err (Syntax message start end)) count = IsRefused (grammar language Current) limits tokens count syntax
TakenFor language limits tokens (Err RecursionLimitExceeded) count = IsRefused (grammar language Current) limits tokens count limit
TakenFor language limits tokens (Err OutOfMemory) count = count ≤ length tokens
TakenFor language limits tokens other count = count ≡ length tokens

-- this token is lent
abbrev pub IsLent : Token → Option LentToken → Type 0
IsLent token given = (lent : LentToken) × (given ≡ Some lent) × (seen lent ≡ token)

-- the token that is refused, where the answer is so; none for another answer, unless memory ran out
abbrev pub TokenFor : {D Document : Type 0} → Language D Document → Limits → List Token → Result Document Error → Option LentToken → Type 0
TokenFor language limits tokens (Err (Syntax message start end)) given = (refused : RefusedToken (grammar language Current) limits tokens syntax) × IsLent refused.token given
TokenFor language limits tokens (Err RecursionLimitExceeded) given = (refused : RefusedToken (grammar language Current) limits tokens limit) × IsLent refused.token given
TokenFor language limits tokens (Err OutOfMemory) given = Unit {0}
TokenFor language limits tokens other given = given ≡ None

-- ---- two answers

-- The answers say the same: both accept one list of definitions, or both refuse with equal errors. The languages have
-- the same definitions, and may differ in what a document is.
abbrev pub SayTheSame : {D One Other : Type 0} → Language D One → Language D Other → Result One Error → Result Other Error → Type 0
SayTheSame {D} language another (Ok one) (Ok other) = (ds : List D) × language.makes ds one × another.makes ds other
SayTheSame language another (Err one) (Err other) = AreEqualErrors one other
SayTheSame language another one other = ⊥

-- any two answers for the tokens say the same, unless memory ran out for one of them
abbrev pub HasOneAnswer : {D Document : Type 0} → Language D Document → Limits → List Token → Type 0
HasOneAnswer {D} {Document} language limits tokens =
    (one other : Result Document Error) → Answers language limits tokens one → Answers language limits tokens other → one ≢ Err OutOfMemory → other ≢ Err OutOfMemory → SayTheSame language language one other

-- ---- what two lists of definitions break

-- Where the first list first breaks a rule, so does the second, in the definition at the same position, with the same
-- error but for its places. Where it breaks none, so does the second; and what the first lacks, or that it lacks
-- nothing, goes for the second.
pub record BreakAlike {D Document : Type 0} (language : Language D Document) (ds es : List D) : Type 0 where
  pub breach : (error : Error) (first : FirstBreach language ds error) → (other : Error) × (same : FirstBreach language es other) × (length same.before ≡ length first.before) × (placeless_error other ≡ placeless_error error)
  pub unbroken : AreUnbroken language ds → AreUnbroken language es
  pub lacks : (error : Error) → language.lack ds ≡ Some error → (other : Error) × (language.lack es ≡ Some other) × (placeless_error other ≡ placeless_error error)
  pub complete : language.lack ds ≡ None → language.lack es ≡ None

-- ---- what holds of each list of tokens, whatever the answer

-- any two trees of the tokens, at any limits, are equal, with places and without
pub record HasOneTree {D Document : Type 0} (language : Language D Document) (tokens : List Token) : Type 0 where
  pub same : (one other : List D) → unlimited (grammar language Current) tokens one → unlimited (grammar language Current) tokens other → one ≡ other
  pub same_placeless : (one other : List D) → unlimited (grammar language Current) (without_places tokens) one → unlimited (grammar language Current) (without_places tokens) other → one ≡ other

-- The tokens have a tree within the limits, or a refused token, and never both; and they are refused in one way alone.
pub record IsDecided {D Document : Type 0} (language : Language D Document) (limits : Limits) (tokens : List Token) : Type 0 where
  pub either : ((ds : List D) × grammar language Current limits tokens ds) ⊎ ((verdict : Verdict) × RefusedToken (grammar language Current) limits tokens verdict)
  pub never_both : (ds : List D) → grammar language Current limits tokens ds → (count : ℕ) (verdict : Verdict) → ¬ (IsRefused (grammar language Current) limits tokens count verdict)
  pub one_refusal : (count other : ℕ) (verdict another : Verdict) → IsRefused (grammar language Current) limits tokens count verdict → IsRefused (grammar language Current) limits tokens other another → (count ≡ other) × (verdict ≡ another)

-- What is ignored makes no difference, but for the places: other tokens with the same bare tokens have a tree where
-- these have one, the same but for its places, and it breaks the same rule in the same definition, or none; and they
-- are refused where these are, with the same verdict.
pub record RestsOnBareTokens {D Document : Type 0} (language : Language D Document) (limits : Limits) (tokens : List Token) : Type 0 where
  pub has_tree : (others : List Token) → bares tokens ≡ bares others → (ds : List D) → grammar language Current limits tokens ds → (es : List D) × grammar language Current limits others es
  pub same_tree : (others : List Token) → bares tokens ≡ bares others → (ds es : List D) → grammar language Current limits tokens ds → grammar language Current limits others es → language.placeless ds ≡ language.placeless es
  pub same_breach : (others : List Token) → bares tokens ≡ bares others → (ds es : List D) → grammar language Current limits tokens ds → grammar language Current limits others es → BreakAlike language ds es
  pub same_refusal : (others : List Token) → bares tokens ≡ bares others → (count : ℕ) (verdict : Verdict) → IsRefused (grammar language Current) limits tokens count verdict → IsRefused (grammar language Current) limits others count verdict
