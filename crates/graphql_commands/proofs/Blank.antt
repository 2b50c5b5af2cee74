-- A text whose first token is its end is blank.
use Rattle.std.proofs.Common.{◌≡◌, true, false, List, [], ◌∷◌, refl, sym, ap, ◌∙◌}
use Rattle.graphql_tokens.specs.tokens.Cuts.{EndsOnce, is_last}
use Rattle.graphql_tokens.specs.tokens.Kinds.{is_end}
use Rattle.graphql_tokens.specs.tokens.Token.{Token}
use Rattle.graphql_tokens.specs.declared.lexer.TokenKind.{TokenKind}
use Rattle.graphql_tokens.specs.declared.lexer.TokenKind.TheVariants.{Punct, Name, Number, String, Block, Fault, End}
use Rattle.graphql_commands.specs.checked.Files.{AreTheEnd}

pub is-end : (kind : TokenKind) → is_end kind ≡ true → kind ≡ End
is-end Punct e = absurd cc
is-end Name e = absurd cc
is-end Number e = absurd cc
is-end String e = absurd cc
is-end Block e = absurd cc
is-end Fault e = absurd cc
is-end End e = refl

-- an end is the last token
pub end-alone : (first : Token) (later : List Token) → first.bare.kind ≡ End → EndsOnce (first ∷ later) → AreTheEnd (first ∷ later)
end-alone first [] is ends = (is, refl)
end-alone first (t ∷ ts) is ends = absurd (let never : true ≡ false = ap is_last (sym is) ∙ ends.0 in cc)
