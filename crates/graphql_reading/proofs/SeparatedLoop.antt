-- What the loop of the code keeps that reads a list with a mark between each two of its members.
use Rattle.std.proofs.Common.{◌≡◌, suc, ◌<◌, ◌≤◌, Bool, true, false, cond, Option, Some, None, List, [], ◌∷◌, ◌++◌, length, map, refl, sym, ap, ◌∙◌, Ok, Err, arith}
use Rattle.graphql_tokens.specs.tokens.Token.{Token}
use Rattle.graphql_reading.specs.declared.parser.Refusal.{Refusal}
use Rattle.graphql_reading.specs.declared.parser.Refusal.TheVariants.{Memory, Syntax, Limit}
use Rattle.graphql_reading.specs.grammar.Tests.{Test}
use Rattle.graphql_reading.specs.grammar.Fronts.{Verdict, syntax, limit}
use Rattle.graphql_reading.specs.grammar.Relations.{cons, after_of, separated_of}
use Rattle.graphql_reading.specs.reading.Ahead.{Ahead, tokens}
use Rattle.graphql_reading.specs.reading.Given.{Gives, GoesOn, Refuses}
use Rattle.graphql_reading.specs.reading.Outcome.{Outcome, Read, Refused, Reader, ◌>>=◌, Takes, take_at, then_at, mapped_at, opt_at, after_at, many_at, separated_at, with_front}
use Rattle.graphql_reading.proofs.Loop.{cons-read, pair-read, many-more, many-stops, two-fronts, loop-starts}
use Rattle.graphql_reading.proofs.Loops.{go-on, one-more}

-- the members, where no mark stands before the first
abbrev pub members_at : {A : Type 0} → Test → Reader A → Reader (List A)
members_at mark r = mapped_at cons (then_at r (many_at mark (after_at mark r)))

-- ---- a mark that is taken

-- a token that was taken passes, and the others are left
took : (mark : Test) (t : Token) (ts : List Token) (taken : Bool) (rest : List Token) → taken ≡ true → take_at mark (t ∷ ts) ≡ Read taken rest → (mark t.bare ≡ true) × (rest ≡ ts)
took mark t ts taken rest is-taken e = go (mark t.bare) refl e
  where
    go : (w : Bool) → mark t.bare ≡ w → cond w (Read true ts) (Read false (t ∷ ts)) ≡ Read taken rest → (mark t.bare ≡ true) × (rest ≡ ts)
    go true is e = (is, cc)
    go false is e = absurd cc

-- and one that wasn't doesn't pass, and stays
left-there : (mark : Test) (t : Token) (ts : List Token) (taken : Bool) (rest : List Token) → taken ≡ false → take_at mark (t ∷ ts) ≡ Read taken rest → (mark t.bare ≡ false) × (rest ≡ t ∷ ts)
left-there mark t ts taken rest is-left e = go (mark t.bare) refl e
  where
    go : (w : Bool) → mark t.bare ≡ w → cond w (Read true ts) (Read false (t ∷ ts)) ≡ Read taken rest → (mark t.bare ≡ false) × (rest ≡ t ∷ ts)
    go true is e = absurd cc
    go false is e = (is, cc)

-- ---- readers

after-more : {A : Type 0} (mark : Test) (r : Reader A) (t : Token) (ts : List Token) → mark t.bare ≡ true → after_at mark r (t ∷ ts) ≡ r ts
after-more {A} mark r t ts e = rw e (go (r ts))
  where
    pair : A → List Token → Outcome (Token × A)
    pair a rest = Read (t, a) rest

    go : (o : Outcome A) → ((o >>= pair) >>= λ x rest. Read (after_of x) rest) ≡ o
    go (Read a rest) = refl
    go (Refused v rest) = refl

takes-after : {A : Type 0} (mark : Test) (r : Reader A) → Takes r → Takes (after_at mark r)
takes-after {A} mark r takes [] a rest e = absurd cc
takes-after {A} mark r takes (t ∷ ts) a rest e = go (mark t.bare) refl
  where
    go : (w : Bool) → mark t.bare ≡ w → length rest < length (t ∷ ts)
    go true is = let less = takes ts a rest (sym (after-more mark r t ts is) ∙ e) in omega (arith, less)
    go false is = absurd (refused (sym (rw is refl) ∙ e))
      where
        refused : Refused syntax (t ∷ ts) ≡ Read a rest → ⊥
        refused e = cc

abbrev mark-kept : {A : Type 0} → Option Token → Outcome (A × List A) → Outcome (List A)
mark-kept mark o = (o >>= λ b rest. Read (mark, b) rest) >>= λ x rest. Read (separated_of x) rest

no-mark-kept : {A : Type 0} (mark : Option Token) (o : Outcome (A × List A)) → mark-kept mark o ≡ (o >>= λ x rest. cons-read x rest)
no-mark-kept mark (Read x rest) = refl
no-mark-kept mark (Refused v rest) = refl

-- after the first mark, if it is there, the members are read
pub separated-members : {A : Type 0} (mark : Test) (r : Reader A) (t : Token) (ts : List Token) (taken : Bool) (rest : List Token) → take_at mark (t ∷ ts) ≡ Read taken rest → separated_at mark r (t ∷ ts) ≡ members_at mark r rest
unfolding separated_at opt_at
separated-members {A} mark r t ts true rest e =
    let there = took mark t ts true rest refl e in
    rw (there.0, there.1) (no-mark-kept (Some t) (then_at r (many_at mark (after_at mark r)) ts))
separated-members {A} mark r t ts false rest e =
    let there = left-there mark t ts false rest refl e in
    rw (there.0, there.1) (no-mark-kept None (then_at r (many_at mark (after_at mark r)) (t ∷ ts)))

abbrev followed : {A : Type 0} → Outcome A → (List Token → Outcome (List A)) → Outcome (List A)
followed o more = (o >>= λ a rest. more rest >>= λ others rest'. pair-read a others rest') >>= λ x rest. cons-read x rest

-- a member, and a mark after it
members-again : {A : Type 0} (mark : Test) (r : Reader A) → Takes r → (ts : List Token) (a : A) (t : Token) (rest : List Token) → r ts ≡ Read a (t ∷ rest) → mark t.bare ≡ true → members_at mark r ts ≡ with_front (a ∷ []) (members_at mark r rest)
members-again {A} mark r takes ts a t rest e h =
    ap (λ (o : Outcome A). followed o (many_at mark (after_at mark r))) e
    ∙ go (many_at mark (after_at mark r) (t ∷ rest))
    ∙ ap (λ (o : Outcome (List A)). with_front (a ∷ []) o) (many-more mark (after_at mark r) (takes-after mark r takes) t rest h)
    ∙ ap (λ (o : Outcome A). with_front (a ∷ []) (followed o (many_at mark (after_at mark r)))) (after-more mark r t rest h)
  where
    go : (o : Outcome (List A)) → ((o >>= λ others rest'. pair-read a others rest') >>= λ x rest. cons-read x rest) ≡ with_front (a ∷ []) o
    go (Read others rest) = refl
    go (Refused v rest) = refl

-- a member, and no mark after it
members-once : {A : Type 0} (mark : Test) (r : Reader A) (ts : List Token) (a : A) (t : Token) (rest : List Token) → r ts ≡ Read a (t ∷ rest) → mark t.bare ≡ false → members_at mark r ts ≡ Read (a ∷ []) (t ∷ rest)
members-once {A} mark r ts a t rest e h =
    ap (λ (o : Outcome A). followed o (many_at mark (after_at mark r))) e
    ∙ ap (λ (o : Outcome (List A)). (o >>= λ others rest'. pair-read a others rest') >>= λ x rest. cons-read x rest) (many-stops mark (after_at mark r) t rest h)

-- no member
members-not : {A : Type 0} (mark : Test) (r : Reader A) (ts : List Token) (v : Verdict) (rest : List Token) → r ts ≡ Refused v rest → members_at mark r ts ≡ Refused v rest
members-not {A} mark r ts v rest e = ap (λ (o : Outcome A). followed o (many_at mark (after_at mark r))) e

-- ---- the loop

-- From the first token on, all that is read is these items, and the members ahead; and the parser has gone on.
pub record KeptMembers {Y : Type 0} (mark : Test) (r : Reader Y) (initial now : Ahead) (items : List Y) : Type 0 where
  pub told : separated_at mark r (tokens initial) ≡ with_front items (members_at mark r (tokens now))
  pub on : GoesOn initial now

-- before the first member
pub begins-members : {Y : Type 0} (mark : Test) (r : Reader Y) (initial now : Ahead) (taken : Bool) → Gives (λ taken. taken) (Ok taken) initial now (take_at mark) → KeptMembers mark r initial now []
begins-members mark r initial now taken h = record {
  told = separated-members mark r initial.hand initial.after taken (tokens now) h.0 ∙ loop-starts (members_at mark r (tokens now));
  on = h.1;
}

refuses-member : {Y : Type 0} (mark : Test) (r : Reader Y) (initial now next : Ahead) (items : List Y) (e : Refusal) → KeptMembers mark r initial now items → Refuses e now next r → Refuses e initial next (separated_at mark r)
refuses-member mark r initial now next items Memory kept h = h
refuses-member mark r initial now next items Syntax kept h = kept.told ∙ ap (with_front items) (members-not mark r (tokens now) syntax (tokens next) h)
refuses-member mark r initial now next items Limit kept h = kept.told ∙ ap (with_front items) (members-not mark r (tokens now) limit (tokens next) h)

-- no member is there
pub stops-members : {X Z Y : Type 0} (view : X → Y) (all : Z → List Y) (mark : Test) (r : Reader Y) (initial now next : Ahead) (items : List Y) (e : Refusal) → KeptMembers mark r initial now items → Gives view (Err e) now next r → Gives all (Err e) initial next (separated_at mark r)
stops-members view all mark r initial now next items e kept h = (refuses-member mark r initial now next items e kept h.0, go-on initial now next kept.on h.1)

-- a member is there, and after it a mark
pub goes-members : {X Y : Type 0} (view : X → Y) (mark : Test) (r : Reader Y) (initial now next again : Ahead) (items more : List X) (x : X) (taken : Bool) → Takes r → KeptMembers mark r initial now (map view items) → Gives view (Ok x) now next r → Gives (λ taken. taken) (Ok taken) next again (take_at mark) → taken ≡ true → more ≡ items ++ x ∷ [] → KeptMembers mark r initial again (map view more)
goes-members view mark r initial now next again items more x taken takes kept h marked is-taken is =
    let there = took mark next.hand next.after taken (tokens again) is-taken marked.0 in
    record {
      told =
          kept.told
          ∙ ap (with_front (map view items)) (members-again mark r takes (tokens now) (view x) next.hand next.after h.0 there.0)
          ∙ two-fronts (map view items) (view x ∷ []) (members_at mark r next.after)
          ∙ ap (λ (l : List _). with_front l (members_at mark r next.after)) (sym (ap (map view) is ∙ one-more view items x))
          ∙ ap (λ (l : List Token). with_front (map view more) (members_at mark r l)) (sym there.1);
      on = go-on initial next again (go-on initial now next kept.on h.1) marked.1;
    }

-- a member is there, and no mark after it
pub ends-members : {X Y : Type 0} (view : X → Y) (mark : Test) (r : Reader Y) (initial now next last : Ahead) (items more : List X) (x : X) (taken : Bool) → KeptMembers mark r initial now (map view items) → Gives view (Ok x) now next r → Gives (λ taken. taken) (Ok taken) next last (take_at mark) → taken ≡ false → more ≡ items ++ x ∷ [] → (separated_at mark r (tokens initial) ≡ Read (map view more) (tokens last)) × GoesOn initial last
ends-members view mark r initial now next last items more x taken kept h unmarked is-left is =
    let there = left-there mark next.hand next.after taken (tokens last) is-left unmarked.0 in (
      kept.told
          ∙ ap (with_front (map view items)) (members-once mark r (tokens now) (view x) next.hand next.after h.0 there.0)
          ∙ ap (λ (l : List _). Read l (tokens next)) (sym (ap (map view) is ∙ one-more view items x))
          ∙ ap (λ (l : List Token). Read (map view more) l) (sym there.1),
      go-on initial next last (go-on initial now next kept.on h.1) unmarked.1,
    )

-- fewer tokens are ahead after a member and a mark
pub shorter-members : {X Y : Type 0} (view : X → Y) (mark : Test) (r : Reader Y) (now next again : Ahead) (x : X) (taken : Bool) → Takes r → Gives view (Ok x) now next r → Gives (λ taken. taken) (Ok taken) next again (take_at mark) → taken ≡ true → suc (length again.after) ≤ length now.after
shorter-members view mark r now next again x taken takes h marked is-taken =
    let less = takes (tokens now) (view x) (tokens next) h.0 in
    let there = took mark next.hand next.after taken (tokens again) is-taken marked.0 in
    let same = ap (λ (l : List Token). length l) there.1 in
    omega (arith, less, same)
