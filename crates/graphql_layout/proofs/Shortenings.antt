-- A token in few characters is one of its kind, means the same, touches what it touches, and is no longer.
use Rattle.std.proofs.Common.{◌≡◌, ℕ, ◌≤◌, Bool, true, false, cond, nat_lt, ◌⊎◌, inl, inr, List, [], ◌∷◌, ◌++◌, map, length, refl, sym, ap, ap₂, ◌∙◌, subst, arith, append_assoc, length-append}
use Rattle.std.proofs.lemmas.Bool.Decides.{nat_tests}
use lib.Utf8.{scalar}
use Rattle.std.specs.Char.{IsScalar}
use Rattle.std.specs.List.{AllByRecursion}
use Rattle.std.specs.Str.{chars, all_scalars}
use Rattle.graphql_tokens.specs.tokens.Alike.{inside, value_of_block, IsAlike, AreAlike}
use Rattle.graphql_tokens.specs.tokens.Edition.{Current}
use Rattle.graphql_tokens.specs.tokens.Proper.{Spells, IsProperBare}
use Rattle.graphql_tokens.specs.tokens.Spelling.{IsSpelling}
use Rattle.graphql_tokens.specs.tokens.Token.{Bare}
use Rattle.graphql_tokens.specs.declared.lexer.TokenKind.{TokenKind}
use Rattle.graphql_tokens.specs.declared.lexer.TokenKind.TheVariants.{Punct, Name, Number, String, Block, Fault, End}
use Rattle.graphql_tokens.proofs.EscapeUnits.{both}
use Rattle.graphql_tokens.proofs.Propers.{text_scalars}
use Rattle.graphql_layout.specs.declared.ending.Ending.{Ending}
use Rattle.graphql_layout.specs.inner.Endings.{ending_by, ending_of, stops, stops_token, gap_before, joined}
use Rattle.graphql_layout.specs.texts.SameTokens.{bare_end}
use Rattle.graphql_layout.specs.texts.OneReading.{has_one_reading}
use Rattle.graphql_layout.specs.texts.Shortened.{compact, shorter, shortened}
use Rattle.graphql_layout.specs.texts.Specified.{specified_value_of_block, IsAlikeAsSpecified, AreAlikeAsSpecified}
use Rattle.graphql_layout.proofs.BlockScalars.{value_all}
use Rattle.graphql_layout.proofs.BlockTexts.{AreScalars, compact_spells, compact_means}
use Rattle.graphql_layout.proofs.Joined.{IsSpelled, ArePrintable, spelled}
use Rattle.graphql_layout.proofs.OneReadings.{one_reading}
use Rattle.graphql_layout.proofs.QuotedBlocks.{quoted, inside_is}

-- ---- two ways

abbrev block : List ℕ → Bare
block spelling = record { kind = Block; spelling = spelling }

-- as it was, or in few characters
abbrev pub IsShort : Bare → Type 0
IsShort b = (shortened b ≡ b) ⊎ ((b.kind ≡ Block) × (shortened b ≡ block (compact (value_of_block b.spelling))) × (length (compact (value_of_block b.spelling)) ≤ length b.spelling) × (has_one_reading (inside 3 b.spelling) ≡ true))

pub short : (b : Bare) → IsShort b
short b = by b.kind b.spelling
  where
    of_two : (spelling one : List ℕ) (r t : Bool) → has_one_reading (inside 3 spelling) ≡ r → nat_lt (length spelling) (length one) ≡ t
        → (block (cond r (cond t spelling one) spelling) ≡ block spelling) ⊎ ((Block ≡ Block) × (block (cond r (cond t spelling one) spelling) ≡ block one) × (length one ≤ length spelling) × (has_one_reading (inside 3 spelling) ≡ true))
    of_two spelling one false t f e = inl refl
    of_two spelling one true true f e = inl refl
    of_two spelling one true false f e = inr (refl, refl, grind (arith, nat_tests), f)

    by : (kind : TokenKind) (spelling : List ℕ) → IsShort (record { kind = kind; spelling = spelling })
    by Punct spelling = inl refl
    by Name spelling = inl refl
    by Number spelling = inl refl
    by String spelling = inl refl
    by Block spelling = of_two spelling (compact (value_of_block spelling)) (has_one_reading (inside 3 spelling)) (nat_lt (length spelling) (length (compact (value_of_block spelling)))) refl refl
    by Fault spelling = inl refl
    by End spelling = inl refl

-- ---- its kind

-- if it is a block string, its bytes spell one
abbrev pub SpellsBlock : Bare → Type 0
SpellsBlock b = b.kind ≡ Block → Spells Block b.spelling

scalars_each : (w : List ℕ) → all_scalars w ≡ true → AllByRecursion IsScalar w
scalars_each [] h = tt
scalars_each (c ∷ cs) h = let e = both (scalar c) (all_scalars cs) h in (e.0, scalars_each cs e.1)

pub spells_block : (b : Bare) (w : List ℕ) → IsSpelled b w → SpellsBlock b
spells_block b w s k = (w, scalars_each w s.scalars, s.bytes, subst (λ (x : TokenKind). IsSpelling Current x w) k s.spelling)

value_scalars : (spelling : List ℕ) → Spells Block spelling → AreScalars (value_of_block spelling)
value_scalars spelling s =
    let q = quoted spelling s in
    value_all IsScalar refl (chars (inside 3 spelling)) (subst (λ (l : List ℕ). AreScalars (chars l)) (sym (inside_is spelling q)) (text_scalars q.content q.utf8))

pub short_spelled : (b : Bare) (w : List ℕ) → IsSpelled b w → (v : List ℕ) × IsSpelled (shortened b) v
short_spelled b w s = by (short b)
  where
    by : IsShort b → (v : List ℕ) × IsSpelled (shortened b) v
    by (inl e) = (w, subst (λ (x : Bare). IsSpelled x w) (sym e) s)
    by (inr h) =
        let value = value_of_block b.spelling in
        let t = spelled (block (compact value)) (compact_spells value (value_scalars b.spelling (spells_block b w s h.0))) in
        (t.0, subst (λ (x : Bare). IsSpelled x t.0) (sym h.1) t.1)

pub short_printable : (bs : List Bare) → ArePrintable bs → ArePrintable (map shortened bs)
short_printable [] p = p
short_printable (b ∷ []) p = ap shortened p
short_printable (b ∷ c ∷ bs) p = (short_spelled b p.0.0 p.0.1, short_printable (c ∷ bs) p.1)

-- ---- its meaning

pub short_alike : (b : Bare) → SpellsBlock b → IsAlike b (shortened b)
short_alike b s = by (short b)
  where
    by : IsShort b → IsAlike b (shortened b)
    by (inl e) = inl (sym e)
    by (inr h) =
        let value = value_of_block b.spelling in
        inr (record {
          block = h.0;
          other_block = ap (λ (x : Bare). x.kind) h.1;
          value = sym (ap (λ (x : Bare). value_of_block x.spelling) h.1 ∙ (compact_means value (chars (inside 3 b.spelling)) (value_scalars b.spelling (s h.0)) refl).0);
        })

-- by the specification
pub reads_alike : (spelling : List ℕ) → Spells Block spelling → has_one_reading (inside 3 spelling) ≡ true → specified_value_of_block spelling ≡ value_of_block spelling
reads_alike spelling s h = one_reading (inside 3 spelling) h

short_specified : (b : Bare) → SpellsBlock b → IsAlikeAsSpecified b (shortened b)
short_specified b s is = by (short b)
  where
    by : IsShort b → specified_value_of_block b.spelling ≡ specified_value_of_block (shortened b).spelling
    by (inl e) = sym (ap (λ (x : Bare). specified_value_of_block x.spelling) e)
    by (inr h) =
        let value = value_of_block b.spelling in
        reads_alike b.spelling (s is) h.3
        ∙ sym (ap (λ (x : Bare). specified_value_of_block x.spelling) h.1 ∙ (compact_means value (chars (inside 3 b.spelling)) (value_scalars b.spelling (s is)) refl).1)

pub all_specified : (bs : List Bare) → ArePrintable (bs ++ bare_end ∷ []) → AreAlikeAsSpecified bs (map shortened bs)
all_specified [] p = tt
all_specified (b ∷ []) p = (short_specified b (spells_block b p.0.0 p.0.1), tt)
all_specified (b ∷ c ∷ bs) p = (short_specified b (spells_block b p.0.0 p.0.1), all_specified (c ∷ bs) p.1)

pub all_alike : (bs : List Bare) → ArePrintable (bs ++ bare_end ∷ []) → AreAlike bs (map shortened bs)
all_alike [] p = tt
all_alike (b ∷ []) p = (short_alike b (spells_block b p.0.0 p.0.1), tt)
all_alike (b ∷ c ∷ bs) p = (short_alike b (spells_block b p.0.0 p.0.1), all_alike (c ∷ bs) p.1)

-- ---- once more

twice_one : (b : Bare) → IsAlike b (shortened b) → shortened (shortened b) ≡ shortened b
twice_one b a = by (short b) a
  where
    same : (one : List ℕ) (r t : Bool) → cond r (cond t one one) one ≡ one
    same one true true = refl
    same one true false = refl
    same one false t = refl

    by : IsShort b → IsAlike b (shortened b) → shortened (shortened b) ≡ shortened b
    by (inl e) a = ap shortened e
    by (inr h) (inl e) = ap shortened (sym e)
    by (inr h) (inr r) =
        let one = compact (value_of_block b.spelling) in
        let value : value_of_block one ≡ value_of_block b.spelling = sym (r.value ∙ ap (λ (x : Bare). value_of_block x.spelling) h.1) in
        ap shortened h.1 ∙ ap (λ (v : List ℕ). block (cond (has_one_reading (inside 3 one)) (shorter (compact v) one) one)) value
        ∙ ap block (same one (has_one_reading (inside 3 one)) (nat_lt (length one) (length one))) ∙ sym h.1

pub twice : (bs : List Bare) → AreAlike bs (map shortened bs) → map shortened (map shortened bs) ≡ map shortened bs
twice [] a = refl
twice (b ∷ bs) a = ap₂ (λ (x : Bare) (xs : List Bare). x ∷ xs) (twice_one b a.0) (twice bs a.1)

-- ---- its neighbours

pub same_ending : (b : Bare) → ending_of (shortened b) ≡ ending_of b
same_ending b = by (short b)
  where
    by : IsShort b → ending_of (shortened b) ≡ ending_of b
    by (inl e) = ap ending_of e
    by (inr h) = ap ending_of h.1 ∙ sym (ap (λ (k : TokenKind). ending_by k b.spelling) h.0)

quote_first : (ending : Ending) (spelling : List ℕ) → Spells Block spelling → stops_token ending spelling ≡ stops ending 34
quote_first ending spelling s = ap (stops_token ending) (quoted spelling s).whole

pub same_stop : (ending : Ending) (b : Bare) → SpellsBlock b → stops_token ending (shortened b).spelling ≡ stops_token ending b.spelling
same_stop ending b s = by (short b)
  where
    by : IsShort b → stops_token ending (shortened b).spelling ≡ stops_token ending b.spelling
    by (inl e) = ap (λ (x : Bare). stops_token ending x.spelling) e
    by (inr h) =
        let value = value_of_block b.spelling in
        ap (λ (x : Bare). stops_token ending x.spelling) h.1 ∙ quote_first ending (compact value) (compact_spells value (value_scalars b.spelling (s h.0)))
        ∙ sym (quote_first ending b.spelling (s h.0))

-- ---- its length

short_fits : (b : Bare) → length (shortened b).spelling ≤ length b.spelling
short_fits b = by (short b)
  where
    by : IsShort b → length (shortened b).spelling ≤ length b.spelling
    by (inl e) = omega (arith, ap (λ (x : Bare). length x.spelling) e)
    by (inr h) = omega (arith, ap (λ (x : Bare). length x.spelling) h.1, h.2)

one_fits : (ending : Ending) (b : Bare) (bs : List Bare) → SpellsBlock b → length (joined (ending_of b) (map shortened bs)) ≤ length (joined (ending_of b) bs)
    → length (joined ending (shortened b ∷ map shortened bs)) ≤ length (joined ending (b ∷ bs))
one_fits ending b bs s h =
    let t = (shortened b).spelling in
    let gap = gap_before ending b.spelling in
    let after = joined (ending_of b) (map shortened bs) in
    let last = joined (ending_of b) bs in
    let whole : joined ending (shortened b ∷ map shortened bs) ≡ gap ++ (t ++ after) =
    ap (λ (x : Bool). cond x (32 ∷ []) [] ++ (t ++ joined (ending_of (shortened b)) (map shortened bs))) (same_stop ending b s) ∙ ap (λ (e : Ending). gap ++ (t ++ joined e (map shortened bs))) (same_ending b) in
    omega (arith, ap length whole, h, short_fits b, length-append gap (t ++ after), length-append t after, length-append gap (b.spelling ++ last), length-append b.spelling last)

pub joined_fits : (ending : Ending) (bs : List Bare) → ArePrintable bs → length (joined ending (map shortened bs)) ≤ length (joined ending bs)
joined_fits ending [] p = absurd p
joined_fits ending (b ∷ []) p = let same : shortened b ≡ b = ap shortened p ∙ sym p in omega (arith, ap (λ (x : Bare). length (joined ending (x ∷ []))) same)
joined_fits ending (b ∷ c ∷ bs) p = one_fits ending b (c ∷ bs) (spells_block b p.0.0 p.0.1) (joined_fits (ending_of b) (c ∷ bs) p.1)

-- ---- how it is written

pub proper_block : (b : Bare) → IsProperBare b.kind b.spelling → SpellsBlock b
proper_block b p k = subst (λ (x : TokenKind). IsProperBare x b.spelling) k p

pub short_written : (ending : Ending) (b : Bare) (stopped : Bool) (old mid new : List ℕ) → SpellsBlock b → stopped ≡ stops_token ending b.spelling → mid ≡ old ++ cond stopped (32 ∷ []) [] → new ≡ mid ++ (shortened b).spelling
    → new ≡ old ++ (gap_before ending (shortened b).spelling ++ (shortened b).spelling)
short_written ending b stopped old mid new s e f g =
    let t = (shortened b).spelling in
    g ∙ ap (λ (x : List ℕ). x ++ t) f ∙ append_assoc old (cond stopped (32 ∷ []) []) t
    ∙ ap (λ (x : Bool). old ++ (cond x (32 ∷ []) [] ++ t)) (e ∙ sym (same_stop ending b s))
