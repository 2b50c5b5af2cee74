-- The string that stands for a text: it is spelled as one, and means that text.
use Rattle.std.proofs.Common.{◌≡◌, ℕ, ◌<◌, ◌/◌, ◌%◌, Bool, true, false, ◌&&◌, cond, eqb, List, [], ◌∷◌, ◌++◌, take, drop, length, ◌-◌, Option, Some, None, refl, sym, ap, ◌∙◌, subst, arith, length-append, codes}
use Rattle.std.proofs.lemmas.Bool.Decides.{nat_tests}
use Rattle.std.proofs.lemmas.Str.{chars-encodes, encodes-append, encodes-chars}
use Rattle.std.proofs.Math.Seq.{take-append_seam}
use Rattle.std.proofs.Math.Utf8.{low_scalar}
use lib.Utf8.{encode}
use Rattle.std.specs.Char.{IsScalar, is_control}
use Rattle.std.proofs.lemmas.List.Folds.{list_all-append}
use Rattle.std.specs.List.{AllByRecursion, concat, list_all}
use Rattle.std.specs.Map.{lookup}
use Rattle.std.specs.Str.{chars, IsUtf8, encode_utf8_all}
use Rattle.graphql_tokens.specs.declared.lexer.TokenKind.TheVariants.{String, Block}
use Rattle.graphql_tokens.specs.tokens.Edition.{Current}
use Rattle.graphql_tokens.specs.tokens.BlockText.{block_value}
use Rattle.graphql_tokens.specs.tokens.Proper.{Spells}
use Rattle.graphql_tokens.specs.tokens.Token.{Bare}
use Rattle.graphql_tokens.proofs.Propers.{text_scalars}
use Rattle.graphql_syntax.specs.trees.ValueText.{letters}
use Rattle.graphql_tokens.specs.tokens.Alike.{inside}
use Rattle.graphql_grammar.specs.grammar.Values.{StringStands, BlockStands}
use Rattle.graphql_printer.specs.Controls.{IsClearAs, is_no_control}
use Rattle.graphql_printer.specs.inner.Shown.{quoted}
use Rattle.graphql_printer.specs.inner.Strings.{hex_digit, unit_with, unit_for, content_for, string_text}
use Rattle.graphql_printer.proofs.Scalars.{AreScalars, scalars_append, scalars_split, scalars_all, string_scalars, block_scalars}
use Rattle.graphql_printer.proofs.StringTexts.{content_means, content_clear, control_below}

-- ---- what it is made of are characters

digit_scalar : (d : ℕ) → d < 16 → IsScalar (hex_digit d)
digit_scalar d l = low_scalar (hex_digit d) (grind (arith, nat_tests))

plain_scalars : (c : ℕ) → IsScalar c → AreScalars (unit_with c None)
plain_scalars c h = go (is_control c) refl
  where
    go : (b : Bool) → is_control c ≡ b → AreScalars (cond b (codes "\\u00" ++ (hex_digit (c / 16) ∷ hex_digit (c % 16) ∷ [])) (c ∷ []))
    go true is =
        let low : c < 160 = control_below c is in
        (refl, (refl, (refl, (refl, (digit_scalar (c / 16) (omega arith), (digit_scalar (c % 16) (omega arith), tt))))))
    go false is = (h, tt)

-- a character that has this letter, or else another or none
with_letter : (c : ℕ) (has : Bool) (letter : ℕ) (others : Option ℕ) → IsScalar letter → AreScalars (unit_with c others) → AreScalars (unit_with c (cond has (Some letter) others))
with_letter c true letter others h k = (refl, (h, tt))
with_letter c false letter others h k = k

with_letters : (c : ℕ) (ls : List (ℕ × ℕ)) → AllByRecursion (λ l. IsScalar l.1) ls → AreScalars (unit_with c None) → AreScalars (unit_with c (lookup (λ k. eqb c k) ls))
with_letters c [] h k = k
with_letters c (l ∷ ls) h k = with_letter c (eqb c l.0) l.1 (lookup (λ k. eqb c k) ls) h.0 (with_letters c ls h.1 k)

content_scalars : (cs : List ℕ) → AreScalars cs → AreScalars (content_for cs)
content_scalars [] h = tt
content_scalars (c ∷ cs) h =
    scalars_append (unit_for c) (content_for cs)
    (with_letters c letters (refl, (refl, (refl, (refl, (refl, (refl, (refl, tt))))))) (plain_scalars c h.0))
    (content_scalars cs h.1)

-- ---- between its quotes

inside_quotes : (bytes : List ℕ) → inside 1 (34 ∷ (bytes ++ 34 ∷ [])) ≡ bytes
inside_quotes bytes =
    let n : length (34 ∷ (bytes ++ 34 ∷ [])) - 1 ≡ length (34 ∷ bytes) = omega (arith, length-append bytes (34 ∷ [])) in
    ap (λ (k : ℕ). drop 1 (take k (34 ∷ (bytes ++ 34 ∷ [])))) n ∙ ap (drop 1) (take-append_seam (34 ∷ bytes) (34 ∷ []))

inside_blocks : (bytes : List ℕ) → inside 3 (34 ∷ 34 ∷ 34 ∷ (bytes ++ 34 ∷ 34 ∷ 34 ∷ [])) ≡ bytes
inside_blocks bytes =
    let n : length (34 ∷ 34 ∷ 34 ∷ (bytes ++ 34 ∷ 34 ∷ 34 ∷ [])) - 3 ≡ length (34 ∷ 34 ∷ 34 ∷ bytes) = omega (arith, length-append bytes (34 ∷ 34 ∷ 34 ∷ [])) in
    ap (λ (k : ℕ). drop 3 (take k (34 ∷ 34 ∷ 34 ∷ (bytes ++ 34 ∷ 34 ∷ 34 ∷ [])))) n ∙ ap (drop 3) (take-append_seam (34 ∷ 34 ∷ 34 ∷ bytes) (34 ∷ 34 ∷ 34 ∷ []))

-- ---- it is spelled as a string, and means its text

pub string_stands : (s : List ℕ) → IsUtf8 s → StringStands Current (quoted s) s
string_stands s u =
    let cs = chars s in
    let content = scalars_all (content_for cs) (content_scalars cs (text_scalars s u)) in
    let e : chars (inside 1 (string_text s)) ≡ content_for cs = ap chars (inside_quotes (encode_utf8_all (content_for cs))) ∙ chars-encodes (content_for cs) content in
    let m = content_means Current cs in
    (cs, (m.0, e ∙ m.1, m.2), sym (encodes-chars s u))

pub string_spells : (s : List ℕ) → IsUtf8 s → Spells String (string_text s)
unfolding encode
string_spells s u =
    let cs = chars s in
    let w = content_for cs in (
      34 ∷ (w ++ 34 ∷ []),
      (refl, scalars_append w (34 ∷ []) (content_scalars cs (text_scalars s u)) (refl, tt)),
      ap (λ (l : List ℕ). 34 ∷ l) (sym (encodes-append w (34 ∷ []))),
      (w, refl, (cs, content_means Current cs)),
    )

pub string_clear : (s : List ℕ) → IsUtf8 s → IsClearAs String (string_text s)
unfolding encode
string_clear s u =
    let w = content_for (chars s) in
    let scalars = scalars_all (34 ∷ (w ++ 34 ∷ [])) (refl, scalars_append w (34 ∷ []) (content_scalars (chars s) (text_scalars s u)) (refl, tt)) in
    let is : chars (string_text s) ≡ 34 ∷ (w ++ 34 ∷ []) = ap (λ (l : List ℕ). chars (34 ∷ l)) (sym (encodes-append w (34 ∷ []))) ∙ chars-encodes (34 ∷ (w ++ 34 ∷ [])) scalars in
    ap (list_all is_no_control) is ∙ list_all-append is_no_control w (34 ∷ []) ∙ ap (λ (b : Bool). b && true) (content_clear (chars s))

-- ---- what a string of a text means is UTF-8

utf8 : (value : List ℕ) → AreScalars value → IsUtf8 (encode_utf8_all value)
utf8 value h = (value, (scalars_all value h, refl))

quoted_bytes : (content : List ℕ) → encode_utf8_all (34 ∷ (content ++ 34 ∷ [])) ≡ 34 ∷ (encode_utf8_all content ++ 34 ∷ [])
unfolding encode
quoted_bytes content = ap (λ (l : List ℕ). 34 ∷ l) (encodes-append content (34 ∷ []))

blocked_bytes : (raw : List ℕ) → encode_utf8_all (34 ∷ 34 ∷ 34 ∷ (raw ++ 34 ∷ 34 ∷ 34 ∷ [])) ≡ 34 ∷ 34 ∷ 34 ∷ (encode_utf8_all raw ++ 34 ∷ 34 ∷ 34 ∷ [])
unfolding encode
blocked_bytes raw = ap (λ (l : List ℕ). 34 ∷ 34 ∷ 34 ∷ l) (encodes-append raw (34 ∷ 34 ∷ 34 ∷ []))

pub string_utf8 : (b : Bare) (s : List ℕ) → Spells String b.spelling → StringStands Current b s → IsUtf8 s
string_utf8 b s p m =
    let content = p.3.0 in
    let scalars : AreScalars content = (scalars_split content (34 ∷ []) (subst AreScalars p.3.1 p.1).1).0 in
    let e : chars (inside 1 b.spelling) ≡ content =
    ap (λ (l : List ℕ). chars (inside 1 l)) (p.2 ∙ ap encode_utf8_all p.3.1 ∙ quoted_bytes content) ∙ ap chars (inside_quotes (encode_utf8_all content)) ∙ chars-encodes content (scalars_all content scalars) in
    subst IsUtf8 (sym m.2) (utf8 m.0 (string_scalars (chars (inside 1 b.spelling)) m.0 (subst AreScalars (sym e) scalars) m.1))

pub block_utf8 : (b : Bare) (s : List ℕ) → Spells Block b.spelling → BlockStands b s → IsUtf8 s
block_utf8 b s p m =
    let raw = concat p.3.0 in
    let inner : AreScalars (raw ++ 34 ∷ 34 ∷ 34 ∷ []) = (subst AreScalars p.3.1 p.1).1.1.1 in
    let scalars : AreScalars raw = (scalars_split raw (34 ∷ 34 ∷ 34 ∷ []) inner).0 in
    let e : chars (inside 3 b.spelling) ≡ raw =
    ap (λ (l : List ℕ). chars (inside 3 l)) (p.2 ∙ ap encode_utf8_all p.3.1 ∙ blocked_bytes raw) ∙ ap chars (inside_blocks (encode_utf8_all raw)) ∙ chars-encodes raw (scalars_all raw scalars) in
    subst IsUtf8 (sym m) (utf8 (block_value (chars (inside 3 b.spelling))) (block_scalars (chars (inside 3 b.spelling)) (subst AreScalars (sym e) scalars)))
