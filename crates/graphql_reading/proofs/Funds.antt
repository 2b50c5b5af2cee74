-- What a token that is used up pays.
use Rattle.std.proofs.Common.{◌≡◌, ◌+◌, ◌*◌, ℕ, List, length, arith}
use Rattle.graphql_tokens.specs.tokens.Token.{Token}
use Rattle.graphql_reading.specs.reading.Ahead.{Ahead, tokens}
use Rattle.graphql_reading.specs.reading.Worth.{per_token, worth}

pub worth-next : (old : Ahead) (ts : List Token) → ts ≡ old.after → worth ts + (per_token + length old.hand.bare.spelling) ≡ worth (tokens old)
unfolding worth
worth-next old ts e = rw e (omega arith)

-- what one item more pays
pub each-more : (each old new : ℕ) → new ≡ old + 1 → each * new ≡ each * old + each
each-more each old new e = rw e (omega arith)

pub each-none : (each len : ℕ) → len ≡ 0 → each * len ≡ 0
each-none each len e = rw e (omega arith)

-- the token in hand pays for itself
pub worth-hand : (a : Ahead) → worth (tokens a) ≡ per_token + length a.hand.bare.spelling + worth a.after
unfolding worth
worth-hand a = omega arith
