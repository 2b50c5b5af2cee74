-- The offset of a token that has a place, sought among the tokens of a text.
use Rattle.std.proofs.Common.{◌≡◌, ◌≢◌, ◌⊎◌, ◌<◌, ℕ, List, [], ◌∷◌, ◌++◌, length, refl, sym, ap, subst, ◌∙◌, append_assoc, append-nil, length-append, inl, inr, arith}
use Rattle.std.proofs.Math.Seq.{get_or-append_seam}
use Rattle.std.proofs.lemmas.List.Elements.{All-push, All-nil}
use Rattle.std.specs.List.{All}
use Rattle.std.specs.Str.{chars}
use Rattle.graphql_tokens.specs.declared.pos.Pos.{Pos}
use Rattle.graphql_tokens.specs.tokens.Cuts.{IsCutInto}
use Rattle.graphql_tokens.specs.tokens.Token.{Token}
use Rattle.graphql_tokens.proofs.Lists.{tokens_only}
use Rattle.graphql_report.specs.reports.Offsets.{HasNoTokenAt, IsOffsetOf}

-- The text's tokens are some that were passed, and these. None of those is at the place, and the offset is the length of the text; or
-- it is that of a token that is.
pub record IsSought (text : List ℕ) (place : Pos) (left : List Token) (offset : ℕ) : Type 0 where
  pub before : List Token
  pub cut : IsCutInto text (before ++ left)
  pub is : (All (λ t. t.pos ≢ place) before × (offset ≡ length text)) ⊎ IsOffsetOf text place offset

pub begun : (text : List ℕ) (place : Pos) (left : List Token) (offset : ℕ) → IsCutInto text left → offset ≡ length text → IsSought text place left offset
begun text place left offset cut none = record { before = []; cut = cut; is = inl (All-nil (λ (t : Token). t.pos ≢ place), none) }

cut-on : (text : List ℕ) (before left more : List Token) (t : Token) → IsCutInto text (before ++ left) → left ≡ t ∷ more → IsCutInto text ((before ++ t ∷ []) ++ more)
cut-on text before left more t cut e = subst (IsCutInto text) (ap (λ (l : List Token). before ++ l) e ∙ sym (append_assoc before (t ∷ []) more)) cut

-- a token that isn't there is passed
pub passed : (text : List ℕ) (place : Pos) (left more : List Token) (t : Token) (offset : ℕ) → IsSought text place left offset → left ≡ t ∷ more → t.pos ≢ place → IsSought text place more offset
passed text place left more t offset s e other = record {
  before = s.before ++ t ∷ [];
  cut = cut-on text s.before left more t s.cut e;
  is = elim s.is [ inl none ↦ inl (All-push (λ (u : Token). u.pos ≢ place) s.before t none.0 other, none.1) | inr at ↦ inr at ];
}

-- the next token is there
pub there : (text : List ℕ) (place : Pos) (left more : List Token) (t : Token) (offset : ℕ) → IsSought text place left offset → left ≡ t ∷ more → t.pos ≡ place → IsOffsetOf text place t.start
there text place left more t offset s e at = inl (t, record { before = s.before; after = more; cut = subst (λ (l : List Token). IsCutInto text (s.before ++ l)) e s.cut }, at, refl)

pub found : (text : List ℕ) (place : Pos) (left more : List Token) (t : Token) (offset : ℕ) → IsSought text place left offset → left ≡ t ∷ more → t.pos ≡ place → IsSought text place more t.start
found text place left more t offset s e at = record { before = s.before ++ t ∷ []; cut = cut-on text s.before left more t s.cut e; is = inr (there text place left more t offset s e at) }

none-at : (text : List ℕ) (place : Pos) (tokens : List Token) → IsCutInto text tokens → All (λ t. t.pos ≢ place) tokens → HasNoTokenAt text place
none-at text place tokens cut none t of =
    let whole : List Token = of.before ++ t ∷ of.after in
    let same : tokens ≡ whole = tokens_only [] (chars text) tokens cut ∙ sym (tokens_only [] (chars text) whole of.cut) in
    let within : length of.before < length whole = omega (arith, length-append of.before (t ∷ of.after)) in
    subst (λ (u : Token). u.pos ≢ place) (get_or-append_seam of.before t of.after t) (subst (All (λ (u : Token). u.pos ≢ place)) same none (length of.before) t within)

pub ended : (text : List ℕ) (place : Pos) (left : List Token) (offset : ℕ) → IsSought text place left offset → left ≡ [] → IsOffsetOf text place offset
ended text place left offset s e = elim s.is [
  | inl none ↦ inr (none-at text place s.before (subst (IsCutInto text) (ap (λ (l : List Token). s.before ++ l) e ∙ append-nil s.before) s.cut) none.0, none.1)
  | inr at ↦ at
]
