-- The value of a string's content, as a function.
-- It gives what `StringMeans` relates to the content, and nothing else: `content_means`, `means_content` in `Meanings.antt`.
use Rattle.std.specs.Prelude.{ℕ, zero, suc, if◌then◌else◌, List, [], ◌∷◌, length, drop, Option, Some, None, option_map}
use Rattle.graphql_tokens.specs.tokens.Strings.{is_plain}
use Rattle.graphql_tokens.specs.inner.Escapes.{escape_at}

-- this character, and then the value of the rest, if it has one
abbrev pub onto : ℕ → Option (List ℕ) → Option (List ℕ)
onto c value = option_map (λ cs. c ∷ cs) value

-- the character of the escape at the front, if there is one, and then the value of the rest
abbrev pub with_escape : (List ℕ → Option (List ℕ)) → List ℕ → Option (ℕ × ℕ) → Option (List ℕ)
with_escape rest text None = None
with_escape rest text (Some e) = onto e.0 (rest (drop e.1 text))

-- unit by unit, of at most n units
abbrev pub content_from : ℕ → List ℕ → Option (List ℕ)
content_from n [] = Some []
content_from zero (c ∷ cs) = None
content_from (suc n) (c ∷ cs) = if is_plain c then onto c (content_from n cs) else with_escape (content_from n) (c ∷ cs) (escape_at (c ∷ cs))

-- None where the content has no meaning
unfoldable pub content_value : List ℕ → Option (List ℕ)
content_value content = content_from (length content) content
