-- How a text is cut that is written token after token.
use Rattle.std.proofs.Common.{◌≡◌, ℕ, inl, inr, List, [], ◌∷◌, ◌++◌, refl, sym, ap, ◌∙◌, subst, append_assoc}
use Rattle.std.specs.List.{concat}
use Rattle.std.specs.Str.{encode_utf8_all}
use Rattle.graphql_tokens.specs.tokens.Cuts.{token, Cuts}
use Rattle.graphql_tokens.specs.tokens.Edition.{Current}
use Rattle.graphql_tokens.specs.tokens.Ignored.{IsPiece}
use Rattle.graphql_tokens.specs.tokens.Spelling.{Begins}
use Rattle.graphql_tokens.specs.tokens.Token.{Bare, Token}
use Rattle.graphql_tokens.specs.declared.lexer.TokenKind.{TokenKind}
use Rattle.graphql_tokens.specs.declared.lexer.TokenKind.TheVariants.{End}
use Rattle.graphql_tokens.proofs.Lists.{Stands}
use Rattle.graphql_layout.specs.texts.SameTokens.{bares, bare_end}
use Rattle.graphql_layout.specs.inner.Written.{IsWritten}

pub end_written : IsWritten [] (bare_end ∷ [])
end_written front = (token End (front ++ []) [] ∷ [], (record { pieces = []; after = []; whole = refl; ignored = tt }, inr (inl (record { ends = refl; is = refl }, refl))), refl)

-- a token that may stand before the rest
pub token_written : (kind : TokenKind) (w rest : List ℕ) (bs : List Bare) → Begins Current kind w rest → IsWritten rest bs → IsWritten (w ++ rest) (record { kind = kind; spelling = encode_utf8_all w } ∷ bs)
token_written kind w rest bs b h front =
    let here = front ++ [] in
    let r = h (here ++ w) in (
      token kind here w ∷ r.0,
      (
        record { pieces = []; after = w ++ rest; whole = refl; ignored = tt },
        inl (record { kind = kind; word = w; rest = rest; whole = refl; begins = b; is = refl }, r.1),
      ),
      ap (λ (l : List Bare). record { kind = kind; spelling = encode_utf8_all w } ∷ l) r.2,
    )

-- an ignored character, or a comment after which its line ends
pub piece_written : (piece rest : List ℕ) (bs : List Bare) → IsPiece piece rest → IsWritten rest bs → IsWritten (piece ++ rest) bs
piece_written piece rest bs p h front = let r = h (front ++ piece) in go r.0 r.1 r.2
  where
    go : (ts : List Token) → Cuts Current (front ++ piece) rest ts → bares ts ≡ bs → (us : List Token) × Cuts Current front (piece ++ rest) us × (bares us ≡ bs)
    go [] c e = absurd c
    go (t ∷ ts) c e = (
      t ∷ ts,
      (
        record {
          pieces = piece ∷ c.0.pieces;
          after = c.0.after;
          whole = ap (λ (l : List ℕ). piece ++ l) c.0.whole ∙ sym (append_assoc piece (concat c.0.pieces) c.0.after);
          ignored = (subst (IsPiece piece) c.0.whole p, c.0.ignored);
        },
        subst (λ (f : List ℕ). Stands Current f c.0.after t ts) (append_assoc front piece (concat c.0.pieces)) c.1,
      ),
      e,
    )
