-- A string that is no fault stands for something.
use Rattle.std.proofs.Common.{◌≡◌, ℕ, ◌-◌, true, false, subst, sym, List, [], ◌∷◌, ◌++◌, length, take, drop, Some, refl, ap, ◌∙◌, length-append, arith}
use Rattle.std.proofs.Math.Seq.{take-append_seam}
use Rattle.std.proofs.lemmas.Str.{chars-encodes, encodes-append}
use Rattle.std.specs.Char.{IsScalar}
use Rattle.std.specs.List.{AllByRecursion}
use Rattle.std.specs.Str.{chars, encode_utf8_all}
use lib.Utf8.{encode, scalars}
use Rattle.graphql_tokens.specs.tokens.Proper.{IsProper, IsProperBare, Spells}
use Rattle.graphql_tokens.specs.tokens.Token.{Token}
use Rattle.graphql_tokens.specs.tokens.Cuts.{is_last}
use Rattle.graphql_tokens.specs.tokens.Kinds.{is_string}
use Rattle.graphql_tokens.specs.tokens.Seen.{seen}
use Rattle.graphql_tokens.specs.declared.lexer.Token.{Token as LentToken}
use Rattle.graphql_tokens.specs.declared.lexer.TokenKind.{TokenKind}
use Rattle.graphql_tokens.specs.declared.lexer.TokenKind.TheVariants as kinds
use Rattle.graphql_tokens.proofs.Meanings.{means_content}
use Rattle.graphql_tokens.specs.tokens.Alike.{inside}
use Rattle.graphql_grammar.specs.reading.Values.{string_text, string_at}
use Rattle.graphql_parser.specs.Checked.{rest_of}

all-scalars : (w : List ℕ) → AllByRecursion IsScalar w → scalars w ≡ true
all-scalars [] h = refl
all-scalars (c ∷ w) h = rw (h.0, all-scalars w h.1) refl

front-all : (v w : List ℕ) → AllByRecursion IsScalar (v ++ w) → AllByRecursion IsScalar v
front-all [] w h = tt
front-all (c ∷ v) w h = (h.0, front-all v w h.1)

-- what is between the quotes
content-is : (content : List ℕ) → inside 1 (encode_utf8_all (34 ∷ (content ++ 34 ∷ []))) ≡ encode_utf8_all content
unfolding encode
content-is content =
    let bytes : List ℕ = encode_utf8_all content in
    let spelled : encode_utf8_all (34 ∷ (content ++ 34 ∷ [])) ≡ (34 ∷ bytes) ++ 34 ∷ [] = ap (λ (l : List ℕ). 34 ∷ l) (encodes-append content (34 ∷ [])) in
    let size : length ((34 ∷ bytes) ++ 34 ∷ []) - 1 ≡ length (34 ∷ bytes) = omega (arith, length-append (34 ∷ bytes) (34 ∷ [])) in
    ap (inside 1) spelled
    ∙ ap (λ (n : ℕ). drop 1 (take n ((34 ∷ bytes) ++ 34 ∷ []))) size
    ∙ ap (drop 1) (take-append_seam (34 ∷ bytes) (34 ∷ []))

pub record Stands (t : Token) : Type 0 where
  pub bytes : List ℕ
  pub is : string_text t.bare ≡ Some bytes

spelled-stands : (t : Token) → Spells kinds.String t.bare.spelling → Stands t
spelled-stands t h =
    let content : List ℕ = h.3.0 in
    let value : List ℕ = h.3.2.0 in
    let all : AllByRecursion IsScalar (34 ∷ (content ++ 34 ∷ [])) = subst (AllByRecursion IsScalar) h.3.1 h.1 in
    let here : chars (inside 1 t.bare.spelling) ≡ content =
    ap (λ (l : List ℕ). chars (inside 1 l)) (h.2 ∙ ap encode_utf8_all h.3.1)
    ∙ ap chars (content-is content)
    ∙ chars-encodes content (all-scalars content (front-all content (34 ∷ []) all.1)) in
    record {
      bytes = encode_utf8_all value;
      is = rw (here, means_content content value h.3.2.1) refl;
    }

as-string : (kind : TokenKind) (bytes : List ℕ) → is_string kind ≡ true → IsProperBare kind bytes → Spells kinds.String bytes
as-string kinds.String bytes e h = h
as-string kind bytes e h = absurd cc

pub string-stands : (t : Token) → is_string t.bare.kind ≡ true → IsProper t → Stands t
string-stands t e h = spelled-stands t (as-string t.bare.kind t.bare.spelling e h)

pub string-rest : (t : Token) (ts : List Token) → is_string t.bare.kind ≡ true → IsProper t → rest_of (string_at (t ∷ ts)) ≡ Some ts
string-rest t ts e h = let s = string-stands t e h in rw (e, s.is) refl

string-inner : (kind : TokenKind) → is_string kind ≡ true → is_last kind ≡ false
string-inner kinds.String e = refl
string-inner kind e = absurd cc

-- the token in hand is a string: it is read
pub string-here : (token : LentToken) (hand : Token) (ts : List Token) → seen token ≡ hand → is_string token.kind ≡ true → (is_last hand.bare.kind ≡ false → IsProper hand) → rest_of (string_at (hand ∷ ts)) ≡ Some ts
string-here token hand ts is e proper =
    let kind : is_string hand.bare.kind ≡ true = ap (λ (t : Token). is_string t.bare.kind) (sym is) ∙ e in
    string-rest hand ts kind (proper (string-inner hand.bare.kind kind))
