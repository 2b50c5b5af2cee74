-- What is the first of several, or none of them.
use Rattle.std.proofs.Common.{◌≡◌, Option, Some, None, refl}
use Rattle.graphql_grammar.specs.answers.Breaches.{or_else}

pub or-none : {A : Type 0} (x : Option A) → or_else x None ≡ x
or-none None = refl
or-none (Some a) = refl

pub none-first : {A : Type 0} (x y : Option A) → or_else x y ≡ None → x ≡ None
none-first None y e = refl
none-first (Some a) y e = absurd cc

pub none-second : {A : Type 0} (x y : Option A) → or_else x y ≡ None → y ≡ None
none-second None y e = e
none-second (Some a) y e = absurd cc
