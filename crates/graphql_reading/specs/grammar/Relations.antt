-- The notation of the grammar: relations between the tokens of a phrase and its tree, and how they are put together.
-- Source: this project's notation for the EBNF of GraphQL October 2021, sections 2 and 3.
use Rattle.std.specs.Prelude.{◌≡◌, ◌⊎◌, IsTrue, Option, Some, None, List, [], ◌∷◌, ◌++◌}
use Rattle.graphql_tokens.specs.tokens.Token.{Bare, Token}
use Rattle.graphql_reading.specs.grammar.Tests.{Test}

-- these tokens are a phrase, with this tree
abbrev pub Rel : Type 0 → Type 1
Rel A = List Token → A → Type 0

-- one token that passes the test
abbrev pub one : Test → Rel Token
one test used t = (used ≡ t ∷ []) × IsTrue (test t.bare)

-- one token that passes the test, with what it means
abbrev pub meaning : {A : Type 0} → Test → (Bare → A → Type 0) → Rel (Token × A)
meaning test means used x = (used ≡ x.0 ∷ []) × IsTrue (test x.0.bare) × means x.0.bare x.1

-- a phrase of p, and after it one of q
pub record Then {A B : Type 0} (p : Rel A) (q : Rel B) (used : List Token) (a : A) (b : B) : Type 0 where
  pub front : List Token
  pub back : List Token
  pub joined : used ≡ front ++ back
  pub first : p front a
  pub second : q back b

infixr 6 ◌⨾◌
abbrev pub ◌⨾◌ : {A B : Type 0} → Rel A → Rel B → Rel (A × B)
(p ⨾ q) used x = Then p q used x.0 x.1

-- a phrase of p, or one of q
infixr 5 ◌∪◌
abbrev pub ◌∪◌ : {A : Type 0} → Rel A → Rel A → Rel A
(p ∪ q) used x = p used x ⊎ q used x

-- a phrase of p, whose tree is f of that
pub record Mapped {A B : Type 0} (f : A → B) (p : Rel A) (used : List Token) (y : B) : Type 0 where
  pub value : A
  pub holds : p used value
  pub is : y ≡ f value

abbrev pub mapped : {A B : Type 0} → (A → B) → Rel A → Rel B
mapped f p used y = Mapped f p used y

-- no phrase at all
abbrev pub never : {A : Type 0} → Rel A
never used x = ⊥

-- a phrase of p between a token that passes one test and a token that passes another; its tree alone is kept
abbrev pub between_of : {A : Type 0} → Token × (A × Token) → A
between_of (opening, (a, closing)) = a

abbrev pub between : {A : Type 0} → Test → Rel A → Test → Rel A
between opening p closing = mapped between_of (one opening ⨾ p ⨾ one closing)

-- a phrase of p after a token that passes the test; its tree alone is kept
abbrev pub after_of : {A : Type 0} → Token × A → A
after_of (mark, a) = a

abbrev pub after : {A : Type 0} → Test → Rel A → Rel A
after mark p = mapped after_of (one mark ⨾ p)

-- a phrase of p, or no token
abbrev pub opt : {A : Type 0} → Rel A → Rel (Option A)
opt p used None = used ≡ []
opt p used (Some x) = p used x

-- a list that isn't there is empty
abbrev pub given : {A : Type 0} → Option (List A) → List A
given None = []
given (Some xs) = xs

-- a phrase of p, and after it a rest of which this holds
pub record Further {A : Type 0} (p : Rel A) (rest : List Token → Type 0) (used : List Token) (a : A) : Type 0 where
  pub front : List Token
  pub back : List Token
  pub joined : used ≡ front ++ back
  pub first : p front a
  pub second : rest back

-- any number of phrases of p
abbrev pub star : {A : Type 0} → Rel A → Rel (List A)
star p used [] = used ≡ []
star p used (x ∷ xs) = Further p (λ back. star p back xs) used x

abbrev pub cons : {A : Type 0} → A × List A → List A
cons x = x.0 ∷ x.1

-- one phrase of p or more
abbrev pub plus : {A : Type 0} → Rel A → Rel (List A)
plus p = mapped cons (p ⨾ star p)

-- one phrase of p or more, with a mark between each two of them; a mark may stand before the first too
abbrev pub separated_of : {A : Type 0} → Option Token × (A × List A) → List A
separated_of (mark, (member, members)) = member ∷ members

abbrev pub separated : {A : Type 0} → Test → Rel A → Rel (List A)
separated mark p = mapped separated_of (opt (one mark) ⨾ p ⨾ star (after mark p))
