-- Tokens that are written one after another, with a blank before each that may not touch the one before, are cut into these
-- tokens again.
use Rattle.std.proofs.Common.{◌≡◌, ◌≢◌, ◌⊎◌, ℕ, Bool, true, false, ◌&&◌, if◌then◌else◌, inl, inr, List, [], ◌∷◌, ◌++◌, refl, sym, ap, ◌∙◌, subst, codes, rules}
use Rattle.std.proofs.lemmas.Str.{chars-append, chars-IsAscii, chars-encodes, chars-nil, IsUtf8-from_ascii}
use Rattle.std.specs.Char.{IsScalar}
use Rattle.std.specs.List.{AllByRecursion}
use Rattle.std.specs.Str.{chars, encode_utf8_all, all_scalars}
use Rattle.graphql_tokens.specs.tokens.Cuts.{is_last, EndsOnce, HasNoFault}
use Rattle.graphql_tokens.specs.tokens.Edition.{Current}
use Rattle.graphql_tokens.specs.tokens.Proper.{Spells, IsProper, IsProperBare, AreProperButFaults}
use Rattle.graphql_tokens.specs.tokens.Spelling.{Begins, IsSpelling}
use Rattle.graphql_tokens.specs.tokens.Token.{Bare, Token}
use Rattle.graphql_tokens.specs.declared.lexer.TokenKind.{TokenKind}
use Rattle.graphql_tokens.specs.declared.lexer.TokenKind.TheVariants.{Punct, Name, Number, String, Block, Fault, End}
use Rattle.graphql_layout.specs.declared.ending.Ending.{Ending}
use Rattle.graphql_layout.specs.declared.ending.Ending.TheVariants as endings
use Rattle.graphql_layout.specs.inner.Endings.{ending_of, stops, stops_token, joined}
use Rattle.graphql_layout.specs.inner.Written.{IsWritten, Allows}
use Rattle.graphql_layout.specs.texts.SameTokens.{bares, bare_end}
use Rattle.graphql_layout.proofs.Firsts.{begun, allows_token, may_follow}
use Rattle.graphql_layout.proofs.WrittenTokens.{end_written, token_written, piece_written}

-- ---- tokens with spellings

-- spelled by these characters
pub record IsSpelled (b : Bare) (w : List ℕ) : Type 0 where
  pub scalars : all_scalars w ≡ true
  pub bytes : b.spelling ≡ encode_utf8_all w
  pub spelling : IsSpelling Current b.kind w

-- tokens with spellings, and then an end
abbrev pub ArePrintable : List Bare → Type 0
ArePrintable [] = ⊥
ArePrintable (b ∷ []) = b ≡ bare_end
ArePrintable (b ∷ c ∷ bs) = ((w : List ℕ) × IsSpelled b w) × ArePrintable (c ∷ bs)

pub scalars_all : (w : List ℕ) → AllByRecursion IsScalar w → all_scalars w ≡ true
scalars_all [] h = refl
scalars_all (c ∷ cs) h = ap (λ b. b && all_scalars cs) h.0 ∙ scalars_all cs h.1

pub spells_of : (kind : TokenKind) (spelling : List ℕ) → is_last kind ≡ false → IsProperBare kind spelling → Spells kind spelling
spells_of Punct s l p = p
spells_of Name s l p = p
spells_of Number s l p = p
spells_of String s l p = p
spells_of Block s l p = p
spells_of Fault s l p = absurd p
spells_of End s l p = absurd cc

pub spelled : (b : Bare) → Spells b.kind b.spelling → (w : List ℕ) × IsSpelled b w
spelled b s = (s.0, record { scalars = scalars_all s.0 s.1; bytes = s.2; spelling = s.3 })

pub end_of : (kind : TokenKind) (spelling : List ℕ) → is_last kind ≡ true → IsProperBare kind spelling → record { kind = kind; spelling = spelling } ≡ bare_end
end_of End s l p = ap (λ (x : List ℕ). record { kind = End; spelling = x }) p
end_of Fault s l p = absurd p
end_of Punct s l p = absurd cc
end_of Name s l p = absurd cc
end_of Number s l p = absurd cc
end_of String s l p = absurd cc
end_of Block s l p = absurd cc

pub proper_of : (t : Token) → t.bare.kind ≢ Fault → (t.bare.kind ≡ Fault) ⊎ IsProper t → IsProper t
proper_of t n (inl e) = absurd (n e)
proper_of t n (inr p) = p

-- those of a text without a fault
pub printable : (ts : List Token) → EndsOnce ts → HasNoFault ts → AreProperButFaults ts → ArePrintable (bares ts)
printable [] e n p = absurd e
printable (t ∷ []) e n p = end_of t.bare.kind t.bare.spelling e (proper_of t n.0 p.0)
printable (t ∷ u ∷ ts) e n p = (spelled t.bare (spells_of t.bare.kind t.bare.spelling e.0 (proper_of t n.0 p.0)), printable (u ∷ ts) e.1 n.1 p.1)

-- ---- their text

blank_allowed : (ending : Ending) → stops ending 32 ≡ false
blank_allowed endings.Open = refl
blank_allowed endings.Name = refl
blank_allowed endings.Number = refl
blank_allowed endings.EmptyString = refl

chars_blank : (bs : List ℕ) → chars (32 ∷ bs) ≡ 32 ∷ chars bs
chars_blank bs = chars-append (32 ∷ []) bs (IsUtf8-from_ascii (32 ∷ []) (search rules)) ∙ ap (λ (l : List ℕ). l ++ chars bs) (chars-IsAscii (32 ∷ []) (search rules))

pub chars_spelled : (b : Bare) (w rest : List ℕ) → IsSpelled b w → chars (b.spelling ++ rest) ≡ w ++ chars rest
chars_spelled b w rest s =
    chars-append b.spelling rest (w, (s.scalars, sym s.bytes)) ∙ ap (λ (l : List ℕ). l ++ chars rest) (ap chars s.bytes ∙ chars-encodes w s.scalars)

-- after what ends so, the text is cut into these tokens
pub record Continues (ending : Ending) (text : List ℕ) (bs : List Bare) : Type 0 where
  pub written : IsWritten text bs
  pub may : Allows ending text

pub one_more : (b : Bare) (w rest : List ℕ) (bs : List Bare) → IsSpelled b w → Continues (ending_of b) rest bs → IsWritten (w ++ rest) (b ∷ bs)
one_more b w rest bs s c =
    let begins : Begins Current b.kind w rest = record { spelled = s.spelling; follows = may_follow b.kind w b.spelling rest s.spelling s.bytes c.may } in
    subst (λ (x : List ℕ). IsWritten (w ++ rest) (record { kind = b.kind; spelling = x } ∷ bs)) (sym s.bytes) (token_written b.kind w rest bs begins c.written)

nothing : (ending : Ending) → Continues ending (chars []) (bare_end ∷ [])
nothing ending = subst (λ (x : List ℕ). Continues ending x (bare_end ∷ [])) (sym chars-nil) (record { written = end_written; may = tt })

after_gap : (ending : Ending) (b : Bare) (w : List ℕ) (rest : List ℕ) (bs : List Bare) → IsSpelled b w → IsWritten (w ++ chars rest) (b ∷ bs) → (stopped : Bool) → stops_token ending b.spelling ≡ stopped
    → Continues ending (chars ((if stopped then codes " " else []) ++ (b.spelling ++ rest))) (b ∷ bs)
after_gap ending b w rest bs s k true e =
    let is : chars (32 ∷ (b.spelling ++ rest)) ≡ 32 ∷ (w ++ chars rest) = chars_blank (b.spelling ++ rest) ∙ ap (λ (l : List ℕ). 32 ∷ l) (chars_spelled b w rest s) in
    subst (λ (x : List ℕ). Continues ending x (b ∷ bs)) (sym is) (record { written = piece_written (32 ∷ []) (w ++ chars rest) (b ∷ bs) (inl (32, refl, refl)) k; may = blank_allowed ending })
after_gap ending b w rest bs s k false e =
    subst (λ (x : List ℕ). Continues ending x (b ∷ bs)) (sym (chars_spelled b w rest s))
    (record { written = k; may = allows_token ending b.spelling w (chars rest) (begun b.kind w s.spelling) s.bytes e })

pub joined_written : (ending : Ending) (bs : List Bare) → ArePrintable bs → Continues ending (chars (joined ending bs)) bs
joined_written ending [] p = absurd p
joined_written ending (b ∷ []) p = subst (λ (e : Bare). Continues ending (chars (joined ending (e ∷ []))) (e ∷ [])) (sym p) (nothing ending)
joined_written ending (b ∷ c ∷ bs) p =
    let rest = joined (ending_of b) (c ∷ bs) in
    let k = one_more b p.0.0 (chars rest) (c ∷ bs) p.0.1 (joined_written (ending_of b) (c ∷ bs) p.1) in
    after_gap ending b p.0.0 rest (c ∷ bs) p.0.1 k (stops_token ending b.spelling) refl
