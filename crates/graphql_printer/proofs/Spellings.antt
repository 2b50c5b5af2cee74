-- Punctuators, names, number literals and texts that need no escape, as tokens.
use Rattle.std.proofs.Common.{◌≡◌, ℕ, ◌≤◌, ◌<◌, ◌/◌, ◌%◌, Bool, true, false, not, ◌&&◌, ◌||◌, cond, eqb, nat_lt, inl, inr, List, [], ◌∷◌, ◌++◌, Option, Some, None, refl, sym, ap, ◌∙◌, subst, arith, append-nil, codes}
use Rattle.std.proofs.lemmas.Bool.Decides.{nat_tests}
use Rattle.std.proofs.lemmas.List.Folds.{list_all-append}
use Rattle.std.proofs.lemmas.Str.{encodes-append, encodes-chars}
use Rattle.std.proofs.Math.Utf8.{low_scalar}
use Rattle.std.specs.Char.{is_ascii_digit, is_control}
use Rattle.std.specs.List.{AllByRecursion, list_all}
use lib.Utf8.{encode}
use Rattle.std.specs.Map.{lookup}
use Rattle.std.specs.Str.{chars, IsUtf8, encode_utf8_all}
use Rattle.graphql_tokens.specs.declared.lexer.TokenKind.TheVariants.{Punct, Name, Number, String}
use Rattle.graphql_tokens.specs.inner.Numbers.{past_number}
use Rattle.graphql_tokens.specs.inner.Numerals.{is_numeral}
use Rattle.graphql_tokens.specs.tokens.Classes.{is_punct, is_name_start, is_name_char}
use Rattle.graphql_tokens.specs.tokens.Numbers.{IsNumber}
use Rattle.graphql_tokens.specs.tokens.Proper.{Spells}
use Rattle.graphql_tokens.specs.tokens.Spelling.{IsName}
use Rattle.graphql_tokens.proofs.Numbers.{number_is}
use Rattle.graphql_tokens.proofs.Numerals.{is_numeral-is}
use Rattle.graphql_tokens.proofs.NumberTexts.{number_passed, number_missed}
use Rattle.graphql_tokens.proofs.Propers.{text_scalars}
use Rattle.graphql_layout.specs.texts.Items.{in_quotes}
use Rattle.graphql_layout.proofs.BlockPushes.{same_byte}
use Rattle.graphql_syntax.specs.trees.ValueText.{escape_letter}
use Rattle.graphql_printer.specs.inner.Strings.{hex_digit, unit_for, unit_with, content_for, string_text}
use Rattle.graphql_printer.specs.inner.Words.{is_sign, is_word, stays_in_string}
use Rattle.graphql_printer.proofs.Scalars.{AreScalars}
use Rattle.graphql_printer.proofs.ShownStrings.{string_spells}
use Rattle.graphql_printer.proofs.StringTexts.{below, all_below}

-- ---- texts of ASCII

abbrev AreLow : List ℕ → Type 0
AreLow cs = AllByRecursion (λ c. c < 128) cs

low_scalars : (cs : List ℕ) → AreLow cs → AreScalars cs
low_scalars [] h = tt
low_scalars (c ∷ cs) h = (low_scalar c (omega (arith, h.0)), low_scalars cs h.1)

pub low_bytes : (cs : List ℕ) → AreLow cs → encode_utf8_all cs ≡ cs
low_bytes [] h = refl
low_bytes (c ∷ cs) h = same_byte c cs h.0 ∙ ap (λ (l : List ℕ). c ∷ l) (low_bytes cs h.1)

-- ---- booleans

first_true : (a b : Bool) → (a && b) ≡ true → a ≡ true
first_true true b e = refl
first_true false b e = absurd cc

second_true : (a b : Bool) → (a && b) ≡ true → b ≡ true
second_true true b e = e
second_true false b e = absurd cc

not_false : (a : Bool) → not a ≡ true → a ≡ false
not_false true e = absurd cc
not_false false e = refl

-- ---- punctuators

punct : (c : ℕ) → is_sign (c ∷ []) ≡ true → Spells Punct (c ∷ [])
punct c e =
    let low : AreLow (c ∷ []) = (grind (arith, nat_tests, second_true (is_punct c) (nat_lt c 128) e), tt) in
    (c ∷ [], low_scalars (c ∷ []) low, sym (low_bytes (c ∷ []) low), inl (c, refl, first_true (is_punct c) (nat_lt c 128) e))

dots : (c d e : ℕ) → is_sign (c ∷ d ∷ e ∷ []) ≡ true → c ∷ d ∷ e ∷ [] ≡ codes "..."
dots c d e h =
    let a : c ≡ 46 = grind (arith, nat_tests, first_true (eqb c 46) (eqb d 46 && eqb e 46) h) in
    let rest = second_true (eqb c 46) (eqb d 46 && eqb e 46) h in
    let b : d ≡ 46 = grind (arith, nat_tests, first_true (eqb d 46) (eqb e 46) rest) in
    let f : e ≡ 46 = grind (arith, nat_tests, second_true (eqb d 46) (eqb e 46) rest) in
    ap (λ (x : ℕ). x ∷ d ∷ e ∷ []) a ∙ ap (λ (x : ℕ). 46 ∷ x ∷ e ∷ []) b ∙ ap (λ (x : ℕ). 46 ∷ 46 ∷ x ∷ []) f

dots_spell : Spells Punct (codes "...")
dots_spell =
    let low : AreLow (46 ∷ 46 ∷ 46 ∷ []) = (omega arith, (omega arith, (omega arith, tt))) in
    (46 ∷ 46 ∷ 46 ∷ [], low_scalars (46 ∷ 46 ∷ 46 ∷ []) low, sym (low_bytes (46 ∷ 46 ∷ 46 ∷ []) low), inr refl)

pub sign_spells : (bytes : List ℕ) → is_sign bytes ≡ true → Spells Punct bytes
sign_spells [] e = absurd cc
sign_spells (c ∷ []) e = punct c e
sign_spells (c ∷ d ∷ []) e = absurd cc
sign_spells (c ∷ d ∷ f ∷ []) e = subst (Spells Punct) (sym (dots c d f e)) dots_spell
sign_spells (c ∷ d ∷ f ∷ g ∷ cs) e = absurd cc

-- ---- names

name_low : (c : ℕ) → is_name_char c ≡ true → c < 128
name_low c e = grind (arith, nat_tests)

names_low : (cs : List ℕ) → AllByRecursion (λ c. is_name_char c ≡ true) cs → AreLow cs
names_low [] h = tt
names_low (c ∷ cs) h = (name_low c h.0, names_low cs h.1)

all_names : (cs : List ℕ) → list_all is_name_char cs ≡ true → AllByRecursion (λ c. is_name_char c ≡ true) cs
all_names [] e = tt
all_names (c ∷ cs) e = (first_true (is_name_char c) (list_all is_name_char cs) e, all_names cs (second_true (is_name_char c) (list_all is_name_char cs) e))

names_all : (cs : List ℕ) → AllByRecursion (λ c. is_name_char c ≡ true) cs → list_all is_name_char cs ≡ true
names_all [] h = refl
names_all (c ∷ cs) h = ap (λ (b : Bool). b && list_all is_name_char cs) h.0 ∙ names_all cs h.1

starts : (c : ℕ) → is_name_char c ≡ true → is_ascii_digit c ≡ false → is_name_start c ≡ true
starts c e d = by (is_name_start c) (is_ascii_digit c) e d
  where
    by : (a b : Bool) → (a || b) ≡ true → b ≡ false → a ≡ true
    by true b e d = refl
    by false true e d = absurd cc
    by false false e d = absurd cc

pub word_spells : (bytes : List ℕ) → is_word bytes ≡ true → Spells Name bytes
word_spells [] e = absurd cc
word_spells (c ∷ cs) e =
    let digit = not_false (is_ascii_digit c) (first_true (not (is_ascii_digit c)) (list_all is_name_char (c ∷ cs)) e) in
    let all = all_names (c ∷ cs) (second_true (not (is_ascii_digit c)) (list_all is_name_char (c ∷ cs)) e) in
    let low = names_low (c ∷ cs) all in
    (c ∷ cs, low_scalars (c ∷ cs) low, sym (low_bytes (c ∷ cs) low), (starts c all.0 digit, all.1))

start_char : (c : ℕ) → is_name_start c ≡ true → is_name_char c ≡ true
start_char c e = ap (λ (b : Bool). b || is_ascii_digit c) e

start_no_digit : (c : ℕ) → is_name_start c ≡ true → is_ascii_digit c ≡ false
start_no_digit c e = grind (arith, nat_tests)

name_word : (w : List ℕ) → IsName w → is_word w ≡ true
name_word [] n = absurd n
name_word (c ∷ cs) n = ap (λ (b : Bool). not b && list_all is_name_char (c ∷ cs)) (start_no_digit c n.0) ∙ names_all (c ∷ cs) (start_char c n.0, n.1)

chars_of_name : (w : List ℕ) → IsName w → AllByRecursion (λ c. is_name_char c ≡ true) w
chars_of_name [] n = absurd n
chars_of_name (c ∷ cs) n = (start_char c n.0, n.1)

pub name_is_word : (bytes : List ℕ) → Spells Name bytes → is_word bytes ≡ true
name_is_word bytes s =
    let same : bytes ≡ s.0 = s.2 ∙ low_bytes s.0 (names_low s.0 (chars_of_name s.0 s.3)) in
    ap is_word same ∙ name_word s.0 s.3

-- ---- numbers

number_chars : (text : List ℕ) → IsUtf8 text → IsNumber text → IsNumber (chars text)
number_chars text utf8 n = by (past_number (chars text)) refl
  where
    is : is_numeral text ≡ true
    is = (is_numeral-is text).1 n

    by : (passed : Option (List ℕ)) → past_number (chars text) ≡ passed → IsNumber (chars text)
    by None e = let no : false ≡ true = number_missed text e ∙ is in cc
    by (Some []) e = let found = number_is (chars text) [] e in subst IsNumber (sym (found.whole ∙ append-nil found.word)) found.number
    by (Some (c ∷ cs)) e = let no : false ≡ true = number_passed text (c ∷ cs) true utf8 e (λ h none. cc) (λ h. cc) ∙ is in cc

pub number_spells : (text : List ℕ) → IsUtf8 text → IsNumber text → Spells Number text
number_spells text utf8 n = (chars text, text_scalars text utf8, sym (encodes-chars text utf8), number_chars text utf8 n)

-- ---- strings without escapes

skipped : (c k v : ℕ) (others : List (ℕ × ℕ)) → eqb c k ≡ false → lookup (λ x. eqb c x) others ≡ None → lookup (λ x. eqb c x) ((k, v) ∷ others) ≡ None
skipped c k v others e h = ap (λ (b : Bool). cond b (Some v) (lookup (λ x. eqb c x) others)) e ∙ h

-- a character that stands for itself
abbrev stays : ℕ → Bool
stays c = not (is_control c) && (not (eqb c 34) && not (eqb c 92))

no_control : (c : ℕ) → stays c ≡ true → is_control c ≡ false
no_control c e = not_false (is_control c) (first_true (not (is_control c)) (not (eqb c 34) && not (eqb c 92)) e)

is_high : (c : ℕ) → is_control c ≡ false → nat_lt c 32 ≡ false
is_high c e = grind (arith, nat_tests)

other_than : (c k : ℕ) → nat_lt c 32 ≡ false → k < 32 → eqb c k ≡ false
other_than c k e h = grind (arith, nat_tests)

no_letter : (c : ℕ) → stays c ≡ true → escape_letter c ≡ None
no_letter c e =
    let high = is_high c (no_control c e) in
    let marks = second_true (not (is_control c)) (not (eqb c 34) && not (eqb c 92)) e in
    let quote = not_false (eqb c 34) (first_true (not (eqb c 34)) (not (eqb c 92)) marks) in
    let backslash = not_false (eqb c 92) (second_true (not (eqb c 34)) (not (eqb c 92)) marks) in
    let feed : List (ℕ × ℕ) = (12, 102) ∷ [] in
    let back : List (ℕ × ℕ) = (8, 98) ∷ feed in
    let tab : List (ℕ × ℕ) = (9, 116) ∷ back in
    let return : List (ℕ × ℕ) = (13, 114) ∷ tab in
    let line : List (ℕ × ℕ) = (10, 110) ∷ return in
    skipped c 34 34 ((92, 92) ∷ line) quote (skipped c 92 92 line backslash
    (skipped c 10 110 return (other_than c 10 high (omega arith)) (skipped c 13 114 tab (other_than c 13 high (omega arith))
    (skipped c 9 116 back (other_than c 9 high (omega arith)) (skipped c 8 98 feed (other_than c 8 high (omega arith)) (skipped c 12 102 [] (other_than c 12 high (omega arith)) refl))))))

same_unit : (c : ℕ) → stays c ≡ true → unit_for c ≡ c ∷ []
same_unit c e = ap (unit_with c) (no_letter c e) ∙ ap (λ (b : Bool). cond b (codes "\\u00" ++ (hex_digit (c / 16) ∷ hex_digit (c % 16) ∷ [])) (c ∷ [])) (no_control c e)

same_content : (cs : List ℕ) → list_all stays cs ≡ true → content_for cs ≡ cs
same_content [] e = refl
same_content (c ∷ cs) e =
    ap (λ (u : List ℕ). u ++ content_for cs) (same_unit c (first_true (stays c) (list_all stays cs) e))
    ∙ ap (λ (l : List ℕ). c ∷ l) (same_content cs (second_true (stays c) (list_all stays cs) e))

-- the bytes of a character stay only if it does
passes : ℕ → Bool
passes c = not (list_all stays_in_string (encode_utf8_all (c ∷ []))) || stays c

low_passes : (c : ℕ) → c < 160 → passes c ≡ true
unfolding passes all_below encode
low_passes c l = below passes 160 c refl l

high_stays : (c : ℕ) → 160 ≤ c → stays c ≡ true
high_stays c h = grind (arith, nat_tests)

char_stays : (c : ℕ) → list_all stays_in_string (encode_utf8_all (c ∷ [])) ≡ true → stays c ≡ true
unfolding passes
char_stays c e = by (nat_lt c 160) refl
  where
    by : (b : Bool) → nat_lt c 160 ≡ b → stays c ≡ true
    by true l = sym (ap (λ (b : Bool). not b || stays c) e) ∙ low_passes c (grind (arith, nat_tests))
    by false l = high_stays c (grind (arith, nat_tests))

stay : (cs : List ℕ) → list_all stays_in_string (encode_utf8_all cs) ≡ true → list_all stays cs ≡ true
stay [] e = refl
stay (c ∷ cs) e =
    let parts : (list_all stays_in_string (encode_utf8_all (c ∷ [])) && list_all stays_in_string (encode_utf8_all cs)) ≡ true =
    sym (list_all-append stays_in_string (encode_utf8_all (c ∷ [])) (encode_utf8_all cs)) ∙ ap (list_all stays_in_string) (sym (encodes-append (c ∷ []) cs)) ∙ e in
    let first = char_stays c (first_true (list_all stays_in_string (encode_utf8_all (c ∷ []))) (list_all stays_in_string (encode_utf8_all cs)) parts) in
    let rest = stay cs (second_true (list_all stays_in_string (encode_utf8_all (c ∷ []))) (list_all stays_in_string (encode_utf8_all cs)) parts) in
    ap (λ (b : Bool). b && list_all stays cs) first ∙ rest

chars_stay : (text : List ℕ) → IsUtf8 text → list_all stays_in_string text ≡ true → list_all stays (chars text) ≡ true
chars_stay text utf8 e = stay (chars text) (ap (list_all stays_in_string) (encodes-chars text utf8) ∙ e)

pub same_string : (text : List ℕ) → IsUtf8 text → list_all stays_in_string text ≡ true → string_text text ≡ in_quotes text
same_string text utf8 e = ap in_quotes (ap encode_utf8_all (same_content (chars text) (chars_stay text utf8 e)) ∙ encodes-chars text utf8)

pub plain_spells : (text : List ℕ) → IsUtf8 text → list_all stays_in_string text ≡ true → Spells String (in_quotes text)
plain_spells text utf8 e = subst (Spells String) (same_string text utf8 e) (string_spells text utf8)
