-- Reading a list of tokens from left to right, with one token in sight.
use Rattle.std.specs.Prelude.{ℕ, zero, suc, Bool, true, false, cond, Option, Some, None, ◌<◌, ◌≡◌, List, [], ◌∷◌, ◌++◌, length}
use Rattle.graphql_tokens.specs.tokens.Token.{Bare, Token}
use Rattle.graphql_reading.specs.grammar.Tests.{Test, the_end}
use Rattle.graphql_reading.specs.grammar.Relations.{cons, between_of, after_of, separated_of}
use Rattle.graphql_reading.specs.grammar.Fronts.{Verdict, syntax, limit}

-- a tree and the tokens after it, or the tokens from the refused one on
pub data Outcome (A : Type 0) : Type 0 where
  Read : A → List Token → Outcome A
  Refused : Verdict → List Token → Outcome A

abbrev pub Reader : Type 0 → Type 0
Reader A = List Token → Outcome A

-- a phrase takes a token at least
abbrev pub Takes : {A : Type 0} → Reader A → Type 0
Takes {A} r = (ts : List Token) (a : A) (rest : List Token) → r ts ≡ Read a rest → length rest < length ts

infixl 10 ◌>>=◌
abbrev pub ◌>>=◌ : {A B : Type 0} → Outcome A → (A → List Token → Outcome B) → Outcome B
(Read a rest) >>= f = f a rest
(Refused v rest) >>= f = Refused v rest

-- one token that passes the test
abbrev pub one_at : Test → Reader Token
one_at test [] = Refused syntax []
one_at test (t ∷ ts) = cond (test t.bare) (Read t ts) (Refused syntax (t ∷ ts))

-- the token in sight with what it means, if it means anything
abbrev pub meant : {A : Type 0} → Token → List Token → Option A → Outcome (Token × A)
meant t ts None = Refused syntax (t ∷ ts)
meant t ts (Some a) = Read (t, a) ts

-- one token that passes the test, with what it means
abbrev pub meaning_at : {A : Type 0} → Test → (Bare → Option A) → Reader (Token × A)
meaning_at test value [] = Refused syntax []
meaning_at test value (t ∷ ts) = cond (test t.bare) (meant t ts (value t.bare)) (Refused syntax (t ∷ ts))

-- the token in sight, which stays
abbrev pub peek_at : Reader Token
peek_at [] = Refused syntax []
peek_at (t ∷ ts) = Read t (t ∷ ts)

-- whether the token in sight passes the test; then it is read
abbrev pub take_at : Test → Reader Bool
take_at test [] = Refused syntax []
take_at test (t ∷ ts) = cond (test t.bare) (Read true ts) (Read false (t ∷ ts))

abbrev pub then_at : {A B : Type 0} → Reader A → Reader B → Reader (A × B)
then_at r s ts = r ts >>= λ a rest. s rest >>= λ b rest'. Read (a, b) rest'

abbrev pub mapped_at : {A B : Type 0} → (A → B) → Reader A → Reader B
mapped_at f r ts = r ts >>= λ a rest. Read (f a) rest

-- what stands between two tokens
abbrev pub between_at : {A : Type 0} → Test → Reader A → Test → Reader A
between_at opening r closing = mapped_at between_of (then_at (one_at opening) (then_at r (one_at closing)))

-- what stands after a token
abbrev pub after_at : {A : Type 0} → Test → Reader A → Reader A
after_at mark r = mapped_at after_of (then_at (one_at mark) r)

-- by the token in sight
abbrev pub choose_at : {A : Type 0} → Test → Reader A → Reader A → Reader A
choose_at test r s [] = Refused syntax []
choose_at test r s (t ∷ ts) = cond (test t.bare) (r (t ∷ ts)) (s (t ∷ ts))

abbrev pub none_at : {A : Type 0} → A → Reader A
none_at a ts = Read a ts

-- what would go deeper than is allowed
abbrev pub deep_at : {A : Type 0} → Test → Reader A
deep_at test [] = Refused syntax []
deep_at test (t ∷ ts) = cond (test t.bare) (Refused limit (t ∷ ts)) (Refused syntax (t ∷ ts))

unfoldable pub opt_at : {A : Type 0} → Test → Reader A → Reader (Option A)
opt_at first r = choose_at first (mapped_at Some r) (none_at None)

abbrev pub repeat_at : {A : Type 0} → ℕ → Test → Reader A → Reader (List A)
repeat_at zero first r ts = Refused syntax []
repeat_at (suc n) first r ts = choose_at first (mapped_at cons (then_at r (repeat_at n first r))) (none_at []) ts

unfoldable pub many_at : {A : Type 0} → Test → Reader A → Reader (List A)
many_at first r ts = repeat_at (suc (length ts)) first r ts

unfoldable pub plus_at : {A : Type 0} → Test → Reader A → Reader (List A)
plus_at first r = mapped_at cons (then_at r (many_at first r))

-- phrases with a mark between each two of them, and perhaps one before the first
unfoldable pub separated_at : {A : Type 0} → Test → Reader A → Reader (List A)
separated_at mark r = mapped_at separated_of (then_at (opt_at mark (one_at mark)) (then_at r (many_at mark (after_at mark r))))

-- what is read, with others in front of it
abbrev pub with_front : {A : Type 0} → List A → Outcome (List A) → Outcome (List A)
with_front front read = read >>= λ others rest. Read (front ++ others) rest

-- a phrase and the end of the text
abbrev pub whole_at : {A : Type 0} → Reader A → Reader A
whole_at r = mapped_at (λ x. x.0) (then_at r (one_at the_end))
