-- Where a token can stand after a line, a sample of it can: the text of the line, the sample and a line feed is cut into the
-- tokens of the line, the sample and the end.
use Rattle.std.proofs.Common.{rules, ◌≡◌, ◌≢◌, ℕ, Bool, true, false, ◌&&◌, IsTrue, inl, inr, List, [], ◌∷◌, ◌++◌, length, eqb, refl, sym, ap, ◌∙◌, subst, append_assoc}
use Rattle.std.proofs.lemmas.List.{same_from_push}
use Rattle.std.proofs.lemmas.Str.{chars-append, chars-encodes, chars-IsAscii, IsUtf8-append}
use Rattle.graphql_report.proofs.Buffers.{line-feed-utf8}
use Rattle.std.specs.Char.{IsScalar}
use Rattle.std.specs.List.{AllByRecursion}
use Rattle.std.specs.Str.{chars, IsUtf8}
use lib.Utf8.{scalars}
use Rattle.graphql_tokens.specs.tokens.Cuts.{IsCutInto, Cuts, token}
use Rattle.graphql_tokens.specs.tokens.Edition.{Current}
use Rattle.graphql_tokens.specs.tokens.Proper.{Spells, IsProperBare}
use Rattle.graphql_tokens.specs.tokens.Spelling.{IsSpelling, MayFollow}
use Rattle.graphql_tokens.specs.tokens.Token.{Bare, Token}
use Rattle.graphql_tokens.specs.declared.lexer.TokenKind.{TokenKind}
use Rattle.graphql_tokens.specs.declared.lexer.TokenKind.TheVariants.{Punct, Name, Number, String as Quoted, Block, Fault, End}
use Rattle.graphql_reading.specs.grammar.Fronts.{Viable}
use Rattle.graphql_reading.specs.grammar.Limits.{Limits}
use Rattle.graphql_grammar.specs.answers.Language.{Language as Described, grammar}
use Rattle.graphql_requests.specs.grammar.Requests.{requests}
use Rattle.graphql_schemas.specs.grammar.Schemas.{schemas}
use Rattle.graphql_report.specs.declared.fronts.Language.{Language}
use Rattle.graphql_report.specs.declared.fronts.Language.TheVariants.{Requests, Schemas}
use Rattle.graphql_report.specs.fronts.Front.{LastIsLineFeed, IsFront, IsFrontOf}
use Rattle.graphql_report.specs.reports.Expected.{TellsFrontOf, with_sample}
use Rattle.graphql_report.specs.inner.Called.{IsViable, CanStand}
use Rattle.graphql_report.proofs.Joins.{join}
use Rattle.graphql_report.proofs.Lines.{is-lined}
use Rattle.graphql_report.proofs.SampleTokens.{IsSampleOf, AreSamplesOf, samples-themselves, samples-append, samples-last, AllowsSamples, allows-whole}
use Rattle.graphql_report.proofs.SampleRequests as of_requests
use Rattle.graphql_report.proofs.SampleSchemas as of_schemas

-- ---- fronts

sample-viable : {D Document : Type 0} (language : Described D Document) (limits : Limits) → AllowsSamples (language.definitions Current limits) → (front : List Token) (t u : Token) → IsSampleOf t.bare u.bare → Viable (grammar language Current) limits (front ++ t ∷ []) → Viable (grammar language Current) limits (front ++ u ∷ [])
sample-viable language limits allows front t u sample m =
    let with-sample : AreSamplesOf (m.begun ++ m.after) ((front ++ u ∷ []) ++ m.after) =
    samples-append m.begun m.after (front ++ u ∷ []) m.after (samples-last front m.begun t u m.alike sample) (samples-themselves m.after m.after refl) in
    let other = (allows-whole (language.definitions Current) limits allows).by (m.begun ++ m.after) ((front ++ u ∷ []) ++ m.after) m.tree m.holds with-sample in
    record { begun = front ++ u ∷ []; after = m.after; tree = other.0; alike = refl; proper = m.proper; holds = other.1 }

viable-with : (language : Language) (limits : Limits) (front : List Token) (t u : Token) → IsSampleOf t.bare u.bare → IsViable language limits (front ++ t ∷ []) → IsViable language limits (front ++ u ∷ [])
viable-with Requests limits front t u sample m = sample-viable requests limits (of_requests.allows-definitions limits) front t u sample m
viable-with Schemas limits front t u sample m = sample-viable schemas limits (of_schemas.allows-definitions limits) front t u sample m

front-of : (language : Language) (limits : Limits) (front : List Token) (u last : Token) → last.bare.kind ≡ End → IsViable language limits (front ++ u ∷ []) → IsFrontOf language limits (front ++ u ∷ last ∷ [])
front-of Requests limits front u last ends m = record { front = front ++ u ∷ []; last = last; split = sym (append_assoc front (u ∷ []) (last ∷ [])); ends = ends; viable = m }
front-of Schemas limits front u last ends m = record { front = front ++ u ∷ []; last = last; split = sym (append_assoc front (u ∷ []) (last ∷ [])); ends = ends; viable = m }

viable-in : {D Document : Type 0} (language : Described D Document) (limits : Limits) (front : List Token) (u last : Token) → IsFront language limits (front ++ u ∷ last ∷ []) → Viable (grammar language Current) limits (front ++ u ∷ [])
viable-in language limits front u last f = subst (λ (l : List Token). Viable (grammar language Current) limits l) (sym (same_from_push (front ++ u ∷ []) f.front last f.last (append_assoc front (u ∷ []) (last ∷ []) ∙ f.split)).0) f.viable

viable-of : (language : Language) (limits : Limits) (front : List Token) (u last : Token) → IsFrontOf language limits (front ++ u ∷ last ∷ []) → IsViable language limits (front ++ u ∷ [])
viable-of Requests limits front u last f = viable-in requests limits front u last f
viable-of Schemas limits front u last f = viable-in schemas limits front u last f

-- ---- texts

all-scalars : (w : List ℕ) → AllByRecursion IsScalar w → scalars w ≡ true
all-scalars [] h = refl
all-scalars (c ∷ w) h = rw (h.0, all-scalars w h.1) refl

and-false : (b : Bool) → (b && false) ≡ false
and-false true = refl
and-false false = refl

-- a line feed may follow each token
feed-follows : (kind : TokenKind) (w : List ℕ) → IsSpelling Current kind w → MayFollow kind w (10 ∷ [])
feed-follows Punct w h = refl
feed-follows Name w h = refl
feed-follows Number w h = refl
feed-follows Quoted w h = and-false (eqb (length w) 2)
feed-follows Block w h = refl
feed-follows Fault w h = absurd h
feed-follows End w h = absurd h

feed-cut : (front : List ℕ) → Cuts Current front (10 ∷ []) (token End (front ++ 10 ∷ []) [] ∷ [])
feed-cut front = (record { pieces = (10 ∷ []) ∷ []; after = []; whole = refl; ignored = (inl (10, refl, refl), tt) }, inr (inl (record { ends = refl; is = refl }, refl)))

word-cut : (front : List ℕ) (kind : TokenKind) (w : List ℕ) → IsSpelling Current kind w → Cuts Current front (w ++ 10 ∷ []) (token kind (front ++ []) w ∷ token End (((front ++ []) ++ w) ++ 10 ∷ []) [] ∷ [])
word-cut front kind w h = (
  record { pieces = []; after = w ++ 10 ∷ []; whole = refl; ignored = tt },
  inl (record { kind = kind; word = w; rest = 10 ∷ []; whole = refl; begins = record { spelled = h; follows = feed-follows kind w h }; is = refl }, feed-cut ((front ++ []) ++ w)),
)

-- the tokens of a line, the token of a word after it, and the end
pub record Sampled (line : List ℕ) (tokens : List Token) (kind : TokenKind) (bytes : List ℕ) : Type 0 where
  pub sample : Token
  pub last : Token
  pub is : record { kind = kind; spelling = bytes } ≡ sample.bare
  pub ends : last.bare.kind ≡ End
  pub utf8 : IsUtf8 (with_sample line bytes)
  pub cut : IsCutInto (with_sample line bytes) (tokens ++ sample ∷ last ∷ [])

pub sampled : (line : List ℕ) (tokens : List Token) (end : Token) → IsUtf8 line → LastIsLineFeed (chars line) → IsCutInto line (tokens ++ end ∷ []) → end.bare.kind ≡ End → (kind : TokenKind) (bytes : List ℕ) → Spells kind bytes → Sampled line tokens kind bytes
sampled line tokens end utf8 lined line-cut ends kind bytes spells =
    let w : List ℕ = spells.0 in
    let here : List ℕ = chars line in
    let bytes-utf8 : IsUtf8 bytes = (w, (all-scalars w spells.1, sym spells.2)) in
    let word : chars bytes ≡ w = ap chars spells.2 ∙ chars-encodes w (all-scalars w spells.1) in
    let text : chars (with_sample line bytes) ≡ here ++ (w ++ 10 ∷ []) =
    chars-append (line ++ bytes) (10 ∷ []) (IsUtf8-append line bytes utf8 bytes-utf8)
    ∙ ap (λ (l : List ℕ). l ++ chars (10 ∷ [])) (chars-append line bytes utf8)
    ∙ ap (λ (l : List ℕ). (here ++ chars bytes) ++ l) (chars-IsAscii (10 ∷ []) (search rules))
    ∙ append_assoc here (chars bytes) (10 ∷ [])
    ∙ ap (λ (l : List ℕ). here ++ (l ++ 10 ∷ [])) word in
    let u : Token = token kind (here ++ []) w in
    let last : Token = token End (((here ++ []) ++ w) ++ 10 ∷ []) [] in
    let cut : Cuts Current [] (here ++ (w ++ 10 ∷ [])) (tokens ++ u ∷ last ∷ []) =
    join [] here (w ++ 10 ∷ []) tokens (u ∷ last ∷ []) end (is-lined here lined) line-cut ends (word-cut here kind w spells.3) in
    record {
      sample = u;
      last = last;
      is = ap (λ (l : List ℕ). record { kind = kind; spelling = l }) spells.2;
      ends = refl;
      utf8 = IsUtf8-append (line ++ bytes) (10 ∷ []) (IsUtf8-append line bytes utf8 bytes-utf8) line-feed-utf8;
      cut = subst (λ (l : List ℕ). Cuts Current [] l (tokens ++ u ∷ last ∷ [])) (sym text) cut;
    }

-- ---- what stands

-- the text is a viable front
abbrev pub IsFrontText : Language → Limits → List ℕ → Type 0
IsFrontText language limits text = (tokens : List Token) × IsCutInto text tokens × IsFrontOf language limits tokens

-- where a token can stand, a sample of it can
pub sample-stands : (language : Language) (limits : Limits) (line : List ℕ) (t : Token) → IsUtf8 line → LastIsLineFeed (chars line) → CanStand language limits line t → (kind : TokenKind) (bytes : List ℕ) → Spells kind bytes → IsSampleOf t.bare (record { kind = kind; spelling = bytes }) → IsFrontText language limits (with_sample line bytes)
sample-stands language limits line t utf8 lined can kind bytes spells sample =
    let m = sampled line can.tokens can.last utf8 lined can.cut can.ends kind bytes spells in
    let viable = viable-with language limits can.tokens t m.sample (subst (λ (b : Bare). IsSampleOf t.bare b) m.is sample) can.viable in
    (can.tokens ++ m.sample ∷ m.last ∷ [], m.cut, front-of language limits can.tokens m.sample m.last m.ends viable)

proper-of : (kind : TokenKind) (bytes : List ℕ) → Spells kind bytes → IsProperBare kind bytes
proper-of Punct bytes h = h
proper-of Name bytes h = h
proper-of Number bytes h = h
proper-of Quoted bytes h = h
proper-of Block bytes h = h
proper-of Fault bytes h = absurd h.3
proper-of End bytes h = absurd h.3

pub inner-of : (kind : TokenKind) (bytes : List ℕ) → Spells kind bytes → kind ≢ End
inner-of kind bytes h e = subst (λ (kind : TokenKind). IsSpelling Current kind h.0) e h.3

-- the token of a text that can stand
pub record Standing (language : Language) (limits : Limits) (line : List ℕ) (kind : TokenKind) (bytes : List ℕ) : Type 0 where
  pub token : Token
  pub is : record { kind = kind; spelling = bytes } ≡ token.bare
  pub stands : CanStand language limits line token

-- and back: where a text of one token can stand, the token can
pub text-stands : (language : Language) (limits : Limits) (line : List ℕ) (tokens : List Token) (end : Token) → IsUtf8 line → LastIsLineFeed (chars line) → IsCutInto line (tokens ++ end ∷ []) → end.bare.kind ≡ End → (kind : TokenKind) (bytes : List ℕ) → Spells kind bytes → (answer : Bool) → TellsFrontOf language limits (with_sample line bytes) answer → IsTrue answer → Standing language limits line kind bytes
text-stands language limits line tokens end utf8 lined line-cut ends kind bytes spells answer tells is =
    let m = sampled line tokens end utf8 lined line-cut ends kind bytes spells in
    record {
      token = m.sample;
      is = m.is;
      stands = record {
        tokens = tokens;
        last = end;
        cut = line-cut;
        ends = ends;
        proper = subst (λ (b : Bare). IsProperBare b.kind b.spelling) m.is (proper-of kind bytes spells);
        inner = subst (λ (b : Bare). b.kind ≢ End) m.is (inner-of kind bytes spells);
        viable = viable-of language limits tokens m.sample m.last ((tells (tokens ++ m.sample ∷ m.last ∷ []) m.cut).0 is);
      };
    }
