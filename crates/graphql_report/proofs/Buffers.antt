-- A text after which a line feed was put.
use Rattle.std.proofs.Common.{rules, take, ◌≡◌, ℕ, List, [], ◌∷◌, ◌++◌, length, ap, ◌∙◌, subst}
use Rattle.std.specs.Str.{chars, IsAscii, IsUtf8}
use Rattle.std.proofs.Math.Seq.{take-append_seam}
use Rattle.std.proofs.lemmas.Str.{chars-append, chars-IsAscii, IsUtf8-from_ascii, IsUtf8-take, IsCharBoundary-at_seam}
use Rattle.graphql_report.specs.fronts.Front.{LastIsLineFeed}

pub pushed-line-feed : (before after : List ℕ) → IsUtf8 before → after ≡ before ++ 10 ∷ [] → LastIsLineFeed (chars after)
pushed-line-feed before after utf8 e = record { before = chars before; is = ap chars e ∙ chars-append before (10 ∷ []) utf8 ∙ ap (λ (l : List ℕ). chars before ++ l) (chars-IsAscii (10 ∷ []) (search rules)) }

pub line-feed-utf8 : IsUtf8 (10 ∷ [])
line-feed-utf8 = IsUtf8-from_ascii (10 ∷ []) (search rules)

-- the characters of a text that ends in this one
pub last-char : (text front : List ℕ) (c : ℕ) → IsAscii (c ∷ []) → IsUtf8 text → text ≡ front ++ c ∷ [] → chars text ≡ chars front ++ c ∷ []
last-char text front c ascii utf8 is =
    let at = IsCharBoundary-at_seam text front (c ∷ []) is (IsUtf8-from_ascii (c ∷ []) ascii) in
    let first : take (length front) text ≡ front = ap (take (length front)) is ∙ take-append_seam front (c ∷ []) in
    ap chars is ∙ chars-append front (c ∷ []) (subst IsUtf8 first (IsUtf8-take text (length front) utf8 at)) ∙ ap (λ (l : List ℕ). chars front ++ l) (chars-IsAscii (c ∷ []) ascii)

-- a text that ends in a line feed
pub line-feed-last : (text front : List ℕ) → IsUtf8 text → text ≡ front ++ 10 ∷ [] → LastIsLineFeed (chars text)
line-feed-last text front utf8 is = record { before = chars front; is = last-char text front 10 (search rules) utf8 is }
