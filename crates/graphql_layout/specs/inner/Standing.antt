-- Where a text is read on.
-- Source: this project's choice.
use Rattle.std.specs.Prelude.{◌≡◌, ◌<◌, ◌+◌, ℕ, Bool, true, false, ◌&&◌, ◌==◌, nat_lt, List, [], ◌∷◌, ◌++◌, length, slice_index}
use Rattle.std.specs.List.{AllByRecursion}
use Rattle.std.specs.Str.{byte, chars, IsUtf8}
use Rattle.memchr.specs.Find.{is_byte}
use Rattle.graphql_tokens.specs.tokens.Classes.{is_ignored}
use Rattle.graphql_tokens.specs.tokens.Cuts.{Cuts, EndsOnce}
use Rattle.graphql_tokens.specs.tokens.Edition.{Current}
use Rattle.graphql_tokens.specs.tokens.Ignored.{IsComment}
use Rattle.graphql_tokens.specs.tokens.Proper.{AreProperButFaults}
use Rattle.graphql_tokens.specs.tokens.Token.{Lexing, left}
use Rattle.graphql_layout.specs.declared.comments.Passed.{Passed}
use Rattle.graphql_layout.specs.declared.layout.ahead.Ahead.{Ahead}
use Rattle.graphql_layout.specs.texts.Items.{Item, comment, IsItems, words}

-- an ignored character of one byte
abbrev pub is_blank_byte : ℕ → Bool
is_blank_byte c = is_ignored c && nat_lt c 128

abbrev pub begins_with_hash : List ℕ → Bool
begins_with_hash [] = false
begins_with_hash (c ∷ cs) = c == byte "#"

-- the comments that were passed
abbrev pub comments_in : List Passed → List Item
comments_in [] = []
comments_in (p ∷ ps) = comment (chars p.text.now) ∷ comments_in ps

abbrev pub IsCommentPassed : Passed → Type 0
IsCommentPassed p = IsComment (chars p.text.now)

-- The text is these comments, ignored characters before each, and then the rest.
pub record IsPassed (text : List ℕ) (passed : List Passed) (rest : List ℕ) : Type 0 where
  pub each : AllByRecursion IsCommentPassed passed
  pub on : (tail : List Item) → IsItems (chars rest) tail → IsItems (chars text) (comments_in passed ++ tail)
  pub off : (all : List Item) → IsItems (chars text) all → (tail : List Item) × IsItems (chars rest) tail × (all ≡ comments_in passed ++ tail)
  pub utf8 : IsUtf8 rest
  pub front : List ℕ
  pub whole : text ≡ front ++ rest

-- The comments of the text, which has no tokens, were put after the old ones.
pub record AreAdded (text : List ℕ) (old new : List Passed) : Type 0 where
  pub more : List Passed
  pub is : new ≡ old ++ more
  pub each : AllByRecursion IsCommentPassed more
  pub all : (items : List Item) → IsItems (chars text) items → words items ≡ [] → comments_in more ≡ items

-- no `#` is in the text but in its last so many bytes
abbrev pub IsClear : ℕ → List ℕ → Type 0
IsClear hash text = (i : ℕ) → i < length text → i + hash < length text → ¬ (is_byte (byte "#") (slice_index text i) ≡ true)

-- The text is these comments and what is ahead, which is clear up to its next `#`.
pub record IsAhead (text : List ℕ) (passed : List Passed) (ahead : Ahead) : Type 0 where
  pub passes : IsPassed text passed ahead.rest.now
  pub clear : IsClear ahead.hash ahead.rest.now

-- The tokens that the lexer has left are those of the rest of its text.
pub record StandsAt (lexing : Lexing) (rest : List ℕ) : Type 0 where
  pub front : List ℕ
  pub whole : chars lexing.text ≡ front ++ chars rest
  pub cut : Cuts Current front (chars rest) (left lexing)
  pub ends : EndsOnce (left lexing)
  pub proper : AreProperButFaults (left lexing)
