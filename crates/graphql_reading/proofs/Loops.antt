-- What a loop of the code that reads one or more keeps.
use Rattle.std.proofs.Common.{◌≡◌, suc, ◌≤◌, true, false, List, [], ◌∷◌, ◌++◌, length, map, refl, sym, ap, ap₂, ◌∙◌, Result, Ok, Err, arith}
use Rattle.graphql_tokens.specs.tokens.Token.{Token}
use Rattle.graphql_reading.specs.declared.parser.Refusal.{Refusal}
use Rattle.graphql_reading.specs.declared.parser.Refusal.TheVariants.{Memory, Syntax, Limit}
use Rattle.graphql_reading.specs.grammar.Tests.{Test}
use Rattle.graphql_reading.specs.grammar.Fronts.{syntax, limit}
use Rattle.graphql_reading.specs.reading.Ahead.{Ahead, Stays, tokens}
use Rattle.graphql_reading.specs.reading.Given.{Gives, GoesOn, Refuses}
use Rattle.graphql_reading.specs.reading.Outcome.{Read, Reader, many_at, plus_at, with_front}
use Rattle.graphql_reading.proofs.Loop.{Takes, loop-goes, loop-ends, loop-stops, loop-starts, many-plus, many-stops}

-- From the first token on, all that is read is these items, and what the tokens ahead give; and the
-- parser has gone on.
pub record Kept {Y : Type 0} (first : Test) (r : Reader Y) (initial now : Ahead) (items : List Y) : Type 0 where
  pub told : plus_at first r (tokens initial) ≡ with_front items (plus_at first r (tokens now))
  pub on : GoesOn initial now

pub go-on : (a b c : Ahead) → GoesOn a b → GoesOn b c → GoesOn a c
go-on a b c h k = (k.0 ∙ h.0, omega (arith, h.1, k.1))

pub stays : (a : Ahead) → GoesOn a a
stays a = (refl, omega arith)

-- ---- memory was asked for

pub same : (now : Ahead) → Stays now now
same now = (refl, refl, refl, refl, refl)

pub still : (old now new : Ahead) → Stays old now → Stays now new → Stays old new
still old now new h k = (k.0 ∙ h.0, k.1 ∙ h.1, k.2 ∙ h.2, k.3 ∙ h.3, k.4 ∙ h.4)

pub ahead-stays : (now new : Ahead) → Stays now new → tokens new ≡ tokens now
ahead-stays now new s = ap₂ (λ (t : Token) (ts : List Token). t ∷ ts) s.0 s.1

pub on-stays : (old now new : Ahead) → GoesOn old now → Stays now new → GoesOn old new
on-stays old now new h s = (s.2 ∙ h.0, omega (arith, h.1, s.3))

pub given-stays : {X Y : Type 0} (view : X → Y) (x : X) (old now new : Ahead) (r : Reader Y) → Gives view (Ok x) old now r → Stays now new → Gives view (Ok x) old new r
given-stays view x old now new r h s = (h.0 ∙ ap (λ (l : List Token). Read (view x) l) (sym (ahead-stays now new s)), on-stays old now new h.1 s)

-- ---- the loop

pub begins : {Y : Type 0} (first : Test) (r : Reader Y) (initial : Ahead) → Kept first r initial initial []
begins first r initial = record { told = loop-starts (plus_at first r (tokens initial)); on = stays initial }

-- memory was asked for before the first
pub begins-stays : {Y : Type 0} (first : Test) (r : Reader Y) (initial now : Ahead) → Stays initial now → Kept first r initial now []
begins-stays first r initial now s = record {
  told = loop-starts (plus_at first r (tokens initial)) ∙ ap (λ (l : List Token). with_front [] (plus_at first r l)) (sym (ahead-stays initial now s));
  on = on-stays initial initial now (stays initial) s;
}

refuses : {Y : Type 0} (first : Test) (r : Reader Y) (initial now next : Ahead) (items : List Y) (e : Refusal) → Kept first r initial now items → Refuses e now next r → Refuses e initial next (plus_at first r)
refuses first r initial now next items Memory kept h = h
refuses first r initial now next items Syntax kept h = loop-stops first r _ items (tokens now) syntax (tokens next) kept.told h
refuses first r initial now next items Limit kept h = loop-stops first r _ items (tokens now) limit (tokens next) kept.told h

pub stops : {X Z Y : Type 0} (view : X → Y) (all : Z → List Y) (first : Test) (r : Reader Y) (initial now next : Ahead) (items : List Y) (e : Refusal) → Kept first r initial now items → Gives view (Err e) now next r → Gives all (Err e) initial next (plus_at first r)
stops view all first r initial now next items e kept h = (refuses first r initial now next items e kept h.0, go-on initial now next kept.on h.1)

pub one-more : {X Y : Type 0} (view : X → Y) (xs : List X) (x : X) → map view (xs ++ x ∷ []) ≡ map view xs ++ view x ∷ []
one-more view [] x = refl
one-more view (y ∷ xs) x = ap (λ (l : List _). view y ∷ l) (one-more view xs x)

pub goes : {X Y : Type 0} (view : X → Y) (first : Test) (r : Reader Y) (initial now next : Ahead) (items more : List X) (x : X) → Takes r → Kept first r initial now (map view items) → Gives view (Ok x) now next r → first next.hand.bare ≡ true → more ≡ items ++ x ∷ [] → Kept first r initial next (map view more)
goes view first r initial now next items more x takes kept h at is = record {
  told =
      loop-goes first r takes _ (map view items) (tokens now) (view x) next.hand next.after kept.told h.0 at
      ∙ ap (λ (l : List _). with_front l (plus_at first r (tokens next))) (sym (ap (map view) is ∙ one-more view items x));
  on = go-on initial now next kept.on h.1;
}

pub ends : {X Y : Type 0} (view : X → Y) (first : Test) (r : Reader Y) (initial now next : Ahead) (items more : List X) (x : X) → Kept first r initial now (map view items) → Gives view (Ok x) now next r → first next.hand.bare ≡ false → more ≡ items ++ x ∷ [] → (plus_at first r (tokens initial) ≡ Read (map view more) (tokens next)) × GoesOn initial next
ends view first r initial now next items more x kept h at is = (
  loop-ends first r _ (map view items) (tokens now) (view x) next.hand next.after kept.told h.0 at
      ∙ ap (λ (l : List _). Read l (tokens next)) (sym (ap (map view) is ∙ one-more view items x)),
  go-on initial now next kept.on h.1,
)

-- fewer tokens are ahead
pub shorter : {X Y : Type 0} (view : X → Y) (r : Reader Y) (now next : Ahead) (x : X) → Takes r → Gives view (Ok x) now next r → suc (length next.after) ≤ length now.after
shorter view r now next x takes h = let less = takes (tokens now) (view x) (tokens next) h.0 in omega (arith, less)

-- ---- any number

-- what is given by what one reader reads here is given by what another reads
pub there : {X Y : Type 0} (view : X → Y) (result : Result X Refusal) (old new : Ahead) (r s : Reader Y) → r (tokens old) ≡ s (tokens old) → Gives view result old new r → Gives view result old new s
there view (Ok x) old new r s e h = (sym e ∙ h.0, h.1)
there view (Err Memory) old new r s e h = h
there view (Err Syntax) old new r s e h = (sym e ∙ h.0, h.1)
there view (Err Limit) old new r s e h = (sym e ∙ h.0, h.1)

-- where one begins, any number is one or more
pub any-number : {X Y : Type 0} (view : X → List Y) (result : Result X Refusal) (first : Test) (r : Reader Y) (old new : Ahead) → Takes r → first old.hand.bare ≡ true → Gives view result old new (plus_at first r) → Gives view result old new (many_at first r)
any-number view result first r old new takes at h = there view result old new (plus_at first r) (many_at first r) (sym (many-plus first r takes old.hand old.after at)) h

-- and where none begins, it is none
pub none-there : {Y : Type 0} (first : Test) (r : Reader Y) (now : Ahead) → first now.hand.bare ≡ false → (many_at first r (tokens now) ≡ Read [] (tokens now)) × GoesOn now now
none-there first r now at = (many-stops first r now.hand now.after at, stays now)
