-- A block string begins and ends with three quotes.
use Rattle.std.proofs.Common.{◌≡◌, ℕ, ◌-◌, ◌<◌, List, [], ◌∷◌, ◌++◌, length, take, drop, get_or, refl, sym, ap, ◌∙◌, subst, arith, append_assoc, length-append}
use Rattle.std.proofs.Math.Seq.{take-append_seam}
use Rattle.std.proofs.lemmas.Str.{encodes-append, IsCharBoundary-at_seam, IsCharBoundary-after_ascii}
use Rattle.std.specs.Char.{IsScalar}
use Rattle.std.specs.List.{AllByRecursion, concat}
use Rattle.std.specs.Str.{encode_utf8_all, IsUtf8, IsCharBoundary}
use Rattle.graphql_tokens.specs.tokens.Proper.{Spells}
use Rattle.graphql_tokens.specs.declared.lexer.TokenKind.TheVariants.{Block}
use Rattle.graphql_tokens.specs.tokens.Alike.{inside}
use Rattle.graphql_layout.specs.declared.sheet.Last.{Last}
use Rattle.graphql_layout.specs.declared.sheet.Last.TheVariants.{Comment, Other}
use Rattle.graphql_layout.specs.inner.Endings.{stops_token}
use Rattle.graphql_layout.specs.inner.Sheets.{holds_off_token}
use Rattle.graphql_layout.proofs.BlockPushes.{same_bytes}
use Rattle.graphql_layout.proofs.Joined.{scalars_all}

abbrev pub three : List ℕ
three = 34 ∷ 34 ∷ 34 ∷ []

pub record Quoted (bytes : List ℕ) : Type 0 where
  pub content : List ℕ
  pub whole : bytes ≡ (three ++ content) ++ three
  pub utf8 : IsUtf8 content

scalars_front : (v w : List ℕ) → AllByRecursion IsScalar (v ++ w) → AllByRecursion IsScalar v
scalars_front [] w h = tt
scalars_front (c ∷ v) w h = (h.0, scalars_front v w h.1)

pub quoted : (bytes : List ℕ) → Spells Block bytes → Quoted bytes
quoted bytes s =
    let inside = concat s.3.0 in
    let is : encode_utf8_all (three ++ (inside ++ three)) ≡ three ++ (encode_utf8_all inside ++ three) =
    encodes-append three (inside ++ three) ∙ ap (λ (x : List ℕ). x ++ encode_utf8_all (inside ++ three)) (same_bytes 3 34 (omega arith))
    ∙ ap (λ (x : List ℕ). three ++ x) (encodes-append inside three ∙ ap (λ (x : List ℕ). encode_utf8_all inside ++ x) (same_bytes 3 34 (omega arith))) in
    let scalars : AllByRecursion IsScalar (three ++ (inside ++ three)) = subst (AllByRecursion IsScalar) s.3.1 s.1 in
    record { content = encode_utf8_all inside; utf8 = (inside, (scalars_all inside (scalars_front inside three scalars.1.1.1), refl)); whole = s.2 ∙ ap encode_utf8_all s.3.1 ∙ is ∙ sym (append_assoc three (encode_utf8_all inside) three) }

three_utf8 : IsUtf8 three
three_utf8 = (three, (cc, same_bytes 3 34 (omega arith)))

pub before_quotes : (bytes : List ℕ) → Spells Block bytes → IsCharBoundary bytes (length bytes - 3)
before_quotes bytes s =
    let q = quoted bytes s in
    let size : length (three ++ q.content) ≡ length bytes - 3 = omega (arith, ap length q.whole, length-append (three ++ q.content) three) in
    subst (IsCharBoundary bytes) size (IsCharBoundary-at_seam bytes (three ++ q.content) three q.whole three_utf8)

pub after_quotes : (bytes front : List ℕ) → Spells Block bytes → front ≡ take (length bytes - 3) bytes → IsUtf8 front → IsCharBoundary front 3
after_quotes bytes front s e u =
    let q = quoted bytes s in
    let size : length bytes - 3 ≡ length (three ++ q.content) = omega (arith, ap length q.whole, length-append (three ++ q.content) three) in
    let is : front ≡ three ++ q.content = e ∙ ap (λ (l : List ℕ). take (length l - 3) l) q.whole ∙ ap (λ (n : ℕ). take n ((three ++ q.content) ++ three)) (ap (λ (l : List ℕ). length l - 3) (sym q.whole) ∙ size) ∙ take-append_seam (three ++ q.content) three in
    let first : get_or front 2 0 ≡ 34 = ap (λ (l : List ℕ). get_or l 2 0) is in
    IsCharBoundary-after_ascii front 2 u (omega (arith, ap length is)) (omega (arith, first))

pub enough : (bytes : List ℕ) → Spells Block bytes → 5 < length bytes
enough bytes s = let q = quoted bytes s in omega (arith, ap length q.whole, length-append (three ++ q.content) three)

pub inside_is : (bytes : List ℕ) (q : Quoted bytes) → inside 3 bytes ≡ q.content
inside_is bytes q =
    let size : length ((three ++ q.content) ++ three) - 3 ≡ length (three ++ q.content) = omega (arith, length-append (three ++ q.content) three) in
    ap (inside 3) q.whole ∙ ap (λ (n : ℕ). drop 3 (take n ((three ++ q.content) ++ three))) size ∙ ap (drop 3) (take-append_seam (three ++ q.content) three)

-- it may come where three quotes may
pub held_same : (last : Last) (spelling : List ℕ) → Spells Block spelling → holds_off_token last spelling ≡ holds_off_token last three
held_same Comment spelling s = refl
held_same (Other ending) spelling s = ap (stops_token ending) (quoted spelling s).whole
