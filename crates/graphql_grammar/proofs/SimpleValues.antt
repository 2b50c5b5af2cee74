-- What the readers of single tokens give.
use Rattle.std.proofs.Common.{◌≡◌, ℕ, true, false, Option, Some, None, List, ◌∷◌, refl, sym, ap, ◌∙◌, subst}
use Rattle.std.specs.Str.{chars, encode_utf8_all}
use Rattle.graphql_tokens.specs.inner.Contents.{content_value}
use Rattle.graphql_tokens.specs.tokens.BlockText.{block_value}
use Rattle.graphql_tokens.specs.tokens.Cuts.{is_last}
use Rattle.graphql_tokens.specs.tokens.Edition.{Current}
use Rattle.graphql_tokens.specs.tokens.Numbers.{IsNumber}
use Rattle.graphql_tokens.specs.tokens.Proper.{IsProper}
use Rattle.graphql_tokens.specs.tokens.Seen.{seen}
use Rattle.graphql_tokens.specs.tokens.Strings.{StringMeans, IsContent}
use Rattle.graphql_tokens.specs.tokens.Token.{Token}
use Rattle.graphql_tokens.specs.declared.lexer.Token.{Token as LentToken}
use Rattle.graphql_tokens.specs.declared.lexer.TokenKind.{TokenKind}
use Rattle.graphql_tokens.specs.declared.lexer.TokenKind.TheVariants as kinds
use Rattle.graphql_tokens.proofs.Meanings.{content_means, means_content}
use Rattle.graphql_reading.specs.grammar.Fronts.{syntax}
use Rattle.graphql_tokens.specs.tokens.Kinds.{is_number, is_string, is_block}
use Rattle.graphql_tokens.specs.tokens.Alike.{inside}
use Rattle.graphql_reading.specs.reading.Outcome.{Read, Refused}
use Rattle.graphql_reading.specs.reading.Spelled.{IsQuoted}
use Rattle.graphql_grammar.specs.reading.Values.{string_value_at, block_value_at}
use Rattle.graphql_reading.proofs.ProperTokens.{proper-number, proper-string, proper-block}

-- ---- the token in hand is proper, where it is neither a fault nor the end

here : (token : LentToken) (hand : Token) → seen token ≡ hand → is_last token.kind ≡ false → (is_last hand.bare.kind ≡ false → IsProper hand) → IsProper (seen token)
here token hand e inner h = subst (λ (t : Token). is_last t.bare.kind ≡ false → IsProper t) (sym e) h inner

number-inner : (kind : TokenKind) → is_number kind ≡ true → is_last kind ≡ false
number-inner kinds.Number e = refl
number-inner kind e = absurd cc

string-inner : (kind : TokenKind) → is_string kind ≡ true → is_last kind ≡ false
string-inner kinds.String e = refl
string-inner kind e = absurd cc

block-inner : (kind : TokenKind) → is_block kind ≡ true → is_last kind ≡ false
block-inner kinds.Block e = refl
block-inner kind e = absurd cc

pub number-here : (token : LentToken) (hand : Token) → seen token ≡ hand → is_number token.kind ≡ true → (is_last hand.bare.kind ≡ false → IsProper hand) → IsNumber token.text.now
number-here token hand e k h = proper-number (seen token) k (here token hand e (number-inner token.kind k) h)

pub string-here : (token : LentToken) (hand : Token) → seen token ≡ hand → is_string token.kind ≡ true → (is_last hand.bare.kind ≡ false → IsProper hand) → IsQuoted 1 token.text.now
string-here token hand e k h = proper-string (seen token) k (here token hand e (string-inner token.kind k) h)

pub block-here : (token : LentToken) (hand : Token) → seen token ≡ hand → is_block token.kind ≡ true → (is_last hand.bare.kind ≡ false → IsProper hand) → IsQuoted 3 token.text.now
block-here token hand e k h = proper-block (seen token) k (here token hand e (block-inner token.kind k) h)

-- ---- strings

read-string : (t : Token) (ts : List Token) (value : List ℕ) → is_string t.bare.kind ≡ true → content_value (chars (inside 1 t.bare.spelling)) ≡ Some value → string_value_at (t ∷ ts) ≡ Read (encode_utf8_all value) ts
read-string t ts value k e = rw (k, e) refl

refused-string : (t : Token) (ts : List Token) → is_string t.bare.kind ≡ true → content_value (chars (inside 1 t.bare.spelling)) ≡ None → string_value_at (t ∷ ts) ≡ Refused syntax (t ∷ ts)
refused-string t ts k e = rw (k, e) refl

no-content : (content : List ℕ) → (IsContent Current content → ⊥) → content_value content ≡ None
no-content content none = go (content_value content) refl
  where
    go : (o : Option (List ℕ)) → content_value content ≡ o → o ≡ None
    go None e = refl
    go (Some value) e = absurd (none (value, content_means content value e))

-- the token in hand is a string, and means the bytes
pub string-means : (token : LentToken) (hand : Token) (ts : List Token) (content bytes : List ℕ) → seen token ≡ hand → is_string token.kind ≡ true → content ≡ inside 1 token.text.now → StringMeans Current (chars content) (chars bytes) → encode_utf8_all (chars bytes) ≡ bytes → string_value_at (hand ∷ ts) ≡ Read bytes ts
string-means token hand ts content bytes e k is means back =
    let found : content_value (chars (inside 1 token.text.now)) ≡ Some (chars bytes) = ap (λ (l : List ℕ). content_value (chars l)) (sym is) ∙ means_content (chars content) (chars bytes) means in
    ap (λ (t : Token). string_value_at (t ∷ ts)) (sym e)
    ∙ read-string (seen token) ts (chars bytes) k found
    ∙ ap (λ (l : List ℕ). Read l ts) back

-- the token in hand is a string, and means nothing
pub string-none : (token : LentToken) (hand : Token) (ts : List Token) (content : List ℕ) → seen token ≡ hand → is_string token.kind ≡ true → content ≡ inside 1 token.text.now → (IsContent Current (chars content) → ⊥) → string_value_at (hand ∷ ts) ≡ Refused syntax (hand ∷ ts)
string-none token hand ts content e k is none =
    let found : content_value (chars (inside 1 token.text.now)) ≡ None = ap (λ (l : List ℕ). content_value (chars l)) (sym is) ∙ no-content (chars content) none in
    subst (λ (t : Token). string_value_at (t ∷ ts) ≡ Refused syntax (t ∷ ts)) e (refused-string (seen token) ts k found)

-- ---- block strings

read-block : (t : Token) (ts : List Token) → is_block t.bare.kind ≡ true → block_value_at (t ∷ ts) ≡ Read (encode_utf8_all (block_value (chars (inside 3 t.bare.spelling)))) ts
read-block t ts k = rw k refl

pub block-means : (token : LentToken) (hand : Token) (ts : List Token) (content bytes : List ℕ) → seen token ≡ hand → is_block token.kind ≡ true → content ≡ inside 3 token.text.now → chars bytes ≡ block_value (chars content) → encode_utf8_all (chars bytes) ≡ bytes → block_value_at (hand ∷ ts) ≡ Read bytes ts
block-means token hand ts content bytes e k is means back =
    let found : block_value (chars (inside 3 token.text.now)) ≡ chars bytes = ap (λ (l : List ℕ). block_value (chars l)) (sym is) ∙ sym means in
    ap (λ (t : Token). block_value_at (t ∷ ts)) (sym e)
    ∙ read-block (seen token) ts k
    ∙ ap (λ (l : List ℕ). Read (encode_utf8_all l) ts) found
    ∙ ap (λ (l : List ℕ). Read l ts) back
