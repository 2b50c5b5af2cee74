-- Fronts that some tree completes, and the first token whose front none completes.
-- A front is a beginning of a list of tokens.
-- Source: this project's choice: the specification does not say where and why a text is refused.
use Rattle.std.specs.Prelude.{◌≡◌, ℕ, suc, ◌<◌, ◌≤◌, List, ◌∷◌, ◌++◌, length, take, map}
use Rattle.graphql_tokens.specs.tokens.Token.{Bare, Token}
use Rattle.graphql_tokens.specs.tokens.Proper.{AreProper}
use Rattle.graphql_reading.specs.grammar.Tests.{the_end}
use Rattle.graphql_reading.specs.grammar.Relations.{Rel, one, ◌⨾◌, mapped}
use Rattle.graphql_reading.specs.grammar.Limits.{Limits}
use Rattle.graphql_reading.specs.grammar.Places.{nowhere}

-- the trees of a list of tokens within limits
abbrev pub Grammar : Type 0 → Type 1
Grammar A = Limits → Rel A

-- without limits, which is at some limits
abbrev pub unlimited : {A : Type 0} → Grammar A → Rel A
unlimited g tokens tree = (limits : Limits) × g limits tokens tree

-- a document is its definitions and the end of the text
abbrev pub whole : {A : Type 0} → Grammar A → Grammar A
whole p limits = mapped (λ x. x.0) (p limits ⨾ one the_end)

-- ---- viable fronts

abbrev pub bares : List Token → List Bare
bares tokens = map (λ t. t.bare) tokens

-- Some tokens with the bare tokens of the front, at whatever places, have proper tokens after them,
-- and with these a tree.
pub record Completes {A : Type 0} (p : Rel A) (front : List Token) : Type 0 where
  pub begun : List Token
  pub after : List Token
  pub tree : A
  pub alike : bares begun ≡ bares front
  pub proper : AreProper after
  pub holds : p (begun ++ after) tree

abbrev pub Viable : {A : Type 0} → Grammar A → Limits → List Token → Type 0
Viable g limits front = Completes (g limits) front

abbrev pub ViableUnlimited : {A : Type 0} → Grammar A → List Token → Type 0
ViableUnlimited g front = Completes (unlimited g) front

-- ---- the refused token

-- why it is refused: no tree completes its front, or only trees beyond the limits do
pub data Verdict : Type 0 where
  syntax : Verdict
  limit : Verdict

abbrev pub IsVerdict : {A : Type 0} → Grammar A → List Token → Verdict → Type 0
IsVerdict g front syntax = ¬ (ViableUnlimited g front)
IsVerdict g front limit = ViableUnlimited g front

-- k is the least number such that the first k tokens aren't viable within the limits
pub record IsRefused {A : Type 0} (g : Grammar A) (limits : Limits) (tokens : List Token) (k : ℕ) (verdict : Verdict) : Type 0 where
  pub there : k ≤ length tokens
  pub viable_before : (j : ℕ) → j < k → Viable g limits (take j tokens)
  pub not_viable : ¬ (Viable g limits (take k tokens))
  pub verdict_is : IsVerdict g (take k tokens) verdict

-- the token of that number, with the tokens before it and after it; the list has no tree within the limits
pub record RefusedToken {A : Type 0} (g : Grammar A) (limits : Limits) (tokens : List Token) (verdict : Verdict) : Type 0 where
  pub before : List Token
  pub token : Token
  pub after : List Token
  pub split : tokens ≡ before ++ token ∷ after
  pub refused : IsRefused g limits tokens (suc (length before)) verdict
  pub no_tree : (tree : A) → ¬ (g limits tokens tree)

-- ---- the one tree

abbrev pub without_place : Token → Token
without_place t = record { bare = t.bare; start = 0; pos = nowhere }

abbrev pub without_places : List Token → List Token
without_places tokens = map without_place tokens

-- The tree of the tokens within the limits: there is no other at any limits, and without places the
-- tokens have the same tree without places, and no other.
pub record IsTheTree {A : Type 0} (g : Grammar A) (placeless : A → A) (limits : Limits) (tokens : List Token) (tree : A) : Type 0 where
  pub within : g limits tokens tree
  pub only : (other : A) → unlimited g tokens other → other ≡ tree
  pub within_placeless : g limits (without_places tokens) (placeless tree)
  pub only_placeless : (other : A) → unlimited g (without_places tokens) other → other ≡ placeless tree
