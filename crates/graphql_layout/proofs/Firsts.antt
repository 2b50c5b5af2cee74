-- The first character of a token, and which may follow it.
use Rattle.std.proofs.Common.{◌≡◌, ℕ, ◌≤◌, ◌<◌, Bool, true, false, ◌&&◌, ◌==◌, if◌then◌else◌, inl, inr, List, [], ◌∷◌, ◌++◌, length, refl, sym, ap, ◌∙◌, arith, subst, length-append}
use Rattle.std.proofs.lemmas.Bool.Decides.{nat_tests}
use Rattle.std.proofs.lemmas.Str.{encode_ascii, length-le-encodes}
use lib.Utf8.{encode}
use Rattle.std.specs.Str.{encode_utf8_all}
use Rattle.graphql_tokens.specs.tokens.Classes.{is_punct, is_name_start}
use Rattle.graphql_tokens.specs.tokens.Edition.{Current}
use Rattle.graphql_tokens.specs.tokens.Spelling.{IsSpelling, IsPunct, IsName, MayFollow, forbids}
use Rattle.graphql_tokens.specs.tokens.Strings.{IsString}
use Rattle.graphql_tokens.specs.declared.lexer.TokenKind.{TokenKind}
use Rattle.graphql_tokens.specs.declared.lexer.TokenKind.TheVariants.{Punct, Name, Number, String, Block, Fault, End}
use Rattle.graphql_tokens.specs.inner.ByteClasses.{begins_number}
use Rattle.graphql_tokens.proofs.Numbers.{number_head}
use Rattle.graphql_layout.specs.declared.ending.Ending.{Ending}
use Rattle.graphql_layout.specs.declared.ending.Ending.TheVariants.{Open, EmptyString}
use Rattle.graphql_layout.specs.inner.Endings.{ending_by, stops, stops_token}
use Rattle.graphql_layout.specs.inner.Written.{Allows}

-- ---- the first character of a spelling is ASCII

pub record Begun (w : List ℕ) : Type 0 where
  pub first : ℕ
  pub more : List ℕ
  pub is : w ≡ first ∷ more
  pub low : first < 128

punct_low : (c : ℕ) → is_punct c ≡ true → c < 128
punct_low c h = grind (arith, nat_tests)

name_low : (c : ℕ) → is_name_start c ≡ true → c < 128
name_low c h = grind (arith, nat_tests)

number_low : (c : ℕ) → begins_number c ≡ true → c < 128
number_low c h = grind (arith, nat_tests)

punct_begun : (w : List ℕ) → IsPunct w → Begun w
punct_begun w (inl p) = record { first = p.0; more = []; is = p.1; low = punct_low p.0 p.2 }
punct_begun w (inr d) = record { first = 46; more = 46 ∷ 46 ∷ []; is = d; low = omega arith }

name_begun : (w : List ℕ) → IsName w → Begun w
name_begun [] h = absurd h
name_begun (c ∷ cs) h = record { first = c; more = cs; is = refl; low = name_low c h.0 }

pub begun : (kind : TokenKind) (w : List ℕ) → IsSpelling Current kind w → Begun w
begun Punct w s = punct_begun w s
begun Name w s = name_begun w s
begun Number w s = let h = number_head w s in record { first = h.first; more = h.more; is = h.is; low = number_low h.first h.begins }
begun String w s = record { first = 34; more = s.0 ++ 34 ∷ []; is = s.1; low = omega arith }
begun Block w s = record { first = 34; more = _; is = s.1; low = omega arith }
begun Fault w s = absurd s
begun End w s = absurd s

-- so it is the first byte
pub first_stops : (ending : Ending) (bytes w : List ℕ) (b : Begun w) → bytes ≡ encode_utf8_all w → stops_token ending bytes ≡ stops ending b.first
first_stops ending bytes w b e =
    let one : encode b.first ≡ b.first ∷ [] = encode_ascii b.first b.low in
    ap (stops_token ending) (e ∙ ap encode_utf8_all b.is ∙ ap (λ (l : List ℕ). l ++ encode_utf8_all b.more) one)

pub allows_token : (ending : Ending) (bytes w rest : List ℕ) → Begun w → bytes ≡ encode_utf8_all w → stops_token ending bytes ≡ false → Allows ending (w ++ rest)
allows_token ending bytes w rest b e n = rw b.is (sym (first_stops ending bytes w b e) ∙ n)

pub not_stopped : (ending : Ending) (bytes w rest : List ℕ) → Begun w → bytes ≡ encode_utf8_all w → Allows ending (w ++ rest) → stops_token ending bytes ≡ false
not_stopped ending bytes w rest b e a = first_stops ending bytes w b e ∙ head a
  where
    head : Allows ending (w ++ rest) → stops ending b.first ≡ false
    head h = let P : List ℕ → Type 0 = λ x. Allows ending (x ++ rest) in let k : P (b.first ∷ b.more) = subst P b.is h in k

-- ---- the character after a token

same_two : (m n : ℕ) → 3 ≤ m → 3 ≤ n → (m == 2) ≡ (n == 2)
same_two m n h k = grind (arith, nat_tests)

-- as many bytes as characters are two
two_long : (w : List ℕ) → IsString Current w → (length w == 2) ≡ (length (encode_utf8_all w) == 2)
unfolding encode
two_long w s = by s.0 s.1
  where
    by : (cs : List ℕ) → w ≡ 34 ∷ (cs ++ 34 ∷ []) → (length w == 2) ≡ (length (encode_utf8_all w) == 2)
    by [] e = rw e refl
    by (c ∷ cs) e =
        let long : 3 ≤ length w = omega (arith, ap length e, length-append cs (34 ∷ [])) in
        same_two (length w) (length (encode_utf8_all w)) long (omega (arith, length-le-encodes w))

by_two : (two : Bool) (c : ℕ) → stops (if two then EmptyString else Open) c ≡ (two && (c == 34))
by_two true c = refl
by_two false c = refl

pub forbids_is : (kind : TokenKind) (w bytes : List ℕ) (c : ℕ) → IsSpelling Current kind w → bytes ≡ encode_utf8_all w → forbids kind w c ≡ stops (ending_by kind bytes) c
forbids_is Punct w bytes c s e = refl
forbids_is Name w bytes c s e = refl
forbids_is Number w bytes c s e = refl
forbids_is String w bytes c s e =
    ap (λ (two : Bool). two && (c == 34)) (two_long w s ∙ ap (λ (l : List ℕ). length l == 2) (sym e)) ∙ sym (by_two (length bytes == 2) c)
forbids_is Block w bytes c s e = refl
forbids_is Fault w bytes c s e = refl
forbids_is End w bytes c s e = refl

pub may_follow : (kind : TokenKind) (w bytes rest : List ℕ) → IsSpelling Current kind w → bytes ≡ encode_utf8_all w → Allows (ending_by kind bytes) rest → MayFollow kind w rest
may_follow kind w bytes [] s e a = tt
may_follow kind w bytes (c ∷ rest) s e a = forbids_is kind w bytes c s e ∙ a

pub allows : (kind : TokenKind) (w bytes rest : List ℕ) → IsSpelling Current kind w → bytes ≡ encode_utf8_all w → MayFollow kind w rest → Allows (ending_by kind bytes) rest
allows kind w bytes [] s e m = tt
allows kind w bytes (c ∷ rest) s e m = sym (forbids_is kind w bytes c s e) ∙ m
