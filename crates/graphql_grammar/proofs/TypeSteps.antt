-- Reading a type reference step by step gives what reading it level by level gives; and what the loops keep.
use Rattle.std.proofs.Common.{◌≡◌, ℕ, zero, suc, ◌≤◌, ◌+◌, ◌-◌, Bool, true, false, cond, Option, List, [], ◌∷◌, refl, sym, ap, ◌∙◌, Ok, Err, arith}
use Rattle.graphql_tokens.specs.declared.pos.Positioned.{Positioned}
use Rattle.graphql_tokens.specs.tokens.Token.{Bare, Token}
use Rattle.graphql_syntax.specs.trees.TypeTree.{TypeTree, named, list}
use Rattle.graphql_reading.specs.declared.parser.Refusal.{Refusal}
use Rattle.graphql_reading.specs.declared.parser.Refusal.TheVariants.{Memory, Syntax, Limit}
use Rattle.graphql_reading.specs.grammar.Fronts.{Verdict, syntax, limit}
use Rattle.graphql_reading.specs.grammar.Places.{at}
use Rattle.graphql_reading.specs.grammar.Tests.{punct, any_name}
use Rattle.graphql_grammar.specs.grammar.Types.{nullable, named_of, list_type_of}
use Rattle.graphql_reading.specs.reading.Ahead.{Ahead, tokens}
use Rattle.graphql_reading.specs.reading.Given.{Gives, GoesOn}
use Rattle.graphql_reading.specs.reading.Outcome.{Outcome, Read, Refused, Reader, ◌>>=◌, one_at, then_at, mapped_at, deep_at, opt_at}
use Rattle.graphql_grammar.specs.reading.Types.{mark_at, named_type_at, list_type_at, type_at}
use Rattle.graphql_grammar.specs.reading.TypeSteps.{opens_at, nullable_at, named_at, close_at, closes_at, steps_at}
use Rattle.graphql_reading.proofs.Loops.{go-on}
use Rattle.graphql_reading.proofs.Readers.{mapped-on, then-on, on-same, grouped}
use Rattle.graphql_reading.proofs.TokenTests.{any_name-is}
use Prim.Native.String.{String}

name-no-punct : (word : String) (t : Bare) → any_name t ≡ true → punct word t ≡ false
name-no-punct word t e = ap (λ (t : Bare). punct word t) (any_name-is t e)

-- ---- marks, names and ends of lists

nullable-mark : (ts : List Token) → nullable_at ts ≡ mapped_at nullable mark_at ts
unfolding opt_at
nullable-mark [] = refl
nullable-mark (t ∷ ts) = go (punct "!" t.bare) refl
  where
    go : (w : Bool) → punct "!" t.bare ≡ w → nullable_at (t ∷ ts) ≡ mapped_at nullable mark_at (t ∷ ts)
    go true e = rw e refl
    go false e = rw e refl

by-mark : {A : Type 0} (k : Bool → Reader A) (ts : List Token) → (mark_at ts >>= λ mark. k (nullable mark)) ≡ (nullable_at ts >>= k)
by-mark k ts = sym (mapped-on nullable mark_at k ts) ∙ ap (λ (o : Outcome Bool). o >>= k) (sym (nullable-mark ts))

abbrev named_node : Token → Bool → TypeTree
named_node t null = named t.bare.spelling null

-- what is done with the node of a tree
abbrev on-node : {A : Type 0} → (TypeTree → Reader A) → Outcome (Positioned TypeTree) → Outcome A
on-node k o = o >>= λ x rest. k x.node rest

named-node : {A : Type 0} (k : TypeTree → Reader A) (ts : List Token) → on-node k (named_type_at ts) ≡ (named_at ts >>= k)
named-node {A} k ts =
    mapped-on named_of (then_at (one_at any_name) mark_at) (λ x. k x.node) ts
    ∙ then-on (one_at any_name) mark_at (λ x. k (named_of x).node) ts
    ∙ on-same (one_at any_name ts) (λ t rest. mark_at rest >>= λ mark. k (named_node t (nullable mark))) (λ t rest. nullable_at rest >>= λ null. k (named_node t null)) (λ t rest. by-mark (λ null. k (named_node t null)) rest)
    ∙ sym (then-on (one_at any_name) nullable_at (λ x. k (named_node x.0 x.1)) ts)
    ∙ sym (mapped-on (λ x. named_node x.0 x.1) (then_at (one_at any_name) nullable_at) k ts)

close-end : {A : Type 0} (item : Positioned TypeTree) (first : Token) (k : TypeTree → Reader A) (ts : List Token) → (then_at (one_at (punct "]")) mark_at ts >>= λ end. k (list_type_of (first, (item, end))).node) ≡ (close_at item.node ts >>= k)
close-end {A} item first k ts =
    then-on (one_at (punct "]")) mark_at (λ end. k (list_type_of (first, (item, end))).node) ts
    ∙ on-same (one_at (punct "]") ts) (λ t rest. mark_at rest >>= λ mark. k (list item.node (nullable mark))) (λ t rest. nullable_at rest >>= λ null. k (list item.node null)) (λ t rest. by-mark (λ null. k (list item.node null)) rest)
    ∙ sym (then-on (one_at (punct "]")) nullable_at (λ x. k (list item.node x.1)) ts)
    ∙ sym (mapped-on (λ x. list item.node x.1) (then_at (one_at (punct "]")) nullable_at) k ts)

-- ---- levels

-- what follows where so many lists are open
abbrev after-brackets : ℕ → Reader TypeTree
after-brackets opened ts = named_at ts >>= closes_at opened

abbrev inside : ℕ → ℕ → Reader TypeTree
inside opened more ts = opens_at opened more ts >>= after-brackets

opens-more : (opened more : ℕ) (t : Token) (ts : List Token) → punct "[" t.bare ≡ true → opens_at opened (suc more) (t ∷ ts) ≡ opens_at (suc opened) more ts
unfolding opens_at
opens-more opened more t ts e = rw e (go (opens_at (suc opened) more ts))
  where
    pair : ℕ → List Token → Outcome (Token × ℕ)
    pair n rest = Read (t, n) rest

    go : (o : Outcome ℕ) → ((o >>= pair) >>= λ x rest. Read x.1 rest) ≡ o
    go (Read n rest) = refl
    go (Refused v rest) = refl

opens-full : (opened : ℕ) (t : Token) (ts : List Token) → punct "[" t.bare ≡ true → opens_at opened 0 (t ∷ ts) ≡ Refused limit (t ∷ ts)
unfolding opens_at
opens-full opened t ts e = rw e refl

opens-no-more : (opened more : ℕ) (t : Token) (ts : List Token) → punct "[" t.bare ≡ false → opens_at opened more (t ∷ ts) ≡ Read opened (t ∷ ts)
unfolding opens_at
opens-no-more opened zero t ts e = rw e refl
opens-no-more opened (suc more) t ts e = rw e refl

-- where no list opens, a name stands
inside-name : (opened more : ℕ) (t : Token) (ts : List Token) → punct "[" t.bare ≡ false → inside opened more (t ∷ ts) ≡ on-node (closes_at opened) (named_type_at (t ∷ ts))
inside-name opened more t ts e = ap (λ (o : Outcome ℕ). o >>= after-brackets) (opens-no-more opened more t ts e) ∙ sym (named-node (closes_at opened) (t ∷ ts))

-- a list that is open and closes
one-level : (opened : ℕ) (t : Token) (ts : List Token) (r : Reader (Positioned TypeTree)) → on-node (closes_at (suc opened)) (r ts) ≡ (then_at r (then_at (one_at (punct "]")) mark_at) ts >>= λ x. closes_at opened (list_type_of (t, x)).node)
unfolding closes_at
one-level opened t ts r =
    on-same (r ts) (λ item. closes_at (suc opened) item.node) (λ item rest. then_at (one_at (punct "]")) mark_at rest >>= λ end. closes_at opened (list_type_of (t, (item, end))).node) (λ item rest. sym (close-end item t (closes_at opened) rest))
    ∙ sym (then-on r (then_at (one_at (punct "]")) mark_at) (λ x. closes_at opened (list_type_of (t, x)).node) ts)

-- what a list gives at its first token
list-on : {A : Type 0} (t : Token) (ts : List Token) (r : Reader (Positioned TypeTree)) (k : Positioned TypeTree → Reader A) → punct "[" t.bare ≡ true → (list_type_at r (t ∷ ts) >>= k) ≡ (then_at r (then_at (one_at (punct "]")) mark_at) ts >>= λ x. k (list_type_of (t, x)))
list-on t ts r k e =
    mapped-on list_type_of (then_at (one_at (punct "[")) (then_at r (then_at (one_at (punct "]")) mark_at))) k (t ∷ ts)
    ∙ then-on (one_at (punct "[")) (then_at r (then_at (one_at (punct "]")) mark_at)) (λ x. k (list_type_of x)) (t ∷ ts)
    ∙ rw e refl

-- steps give what levels give
by-levels : (more opened : ℕ) (ts : List Token) → inside opened more ts ≡ on-node (closes_at opened) (type_at more ts)
unfolding opens_at type_at
by-levels zero opened [] = refl
by-levels (suc more) opened [] = refl
by-levels zero opened (t ∷ ts) = go (any_name t.bare) (punct "[" t.bare) refl refl
  where
    go : (n w : Bool) → any_name t.bare ≡ n → punct "[" t.bare ≡ w → inside opened 0 (t ∷ ts) ≡ on-node (closes_at opened) (type_at 0 (t ∷ ts))
    go true w e h = inside-name opened 0 t ts (name-no-punct "[" t.bare e) ∙ rw e refl
    go false true e h = ap (λ (o : Outcome ℕ). o >>= after-brackets) (opens-full opened t ts h) ∙ rw (e, h) refl
    go false false e h = inside-name opened 0 t ts h ∙ rw (e, h) refl
by-levels (suc more) opened (t ∷ ts) = go (by-levels more (suc opened) ts) (any_name t.bare) (punct "[" t.bare) refl refl
  where
    go : inside (suc opened) more ts ≡ on-node (closes_at (suc opened)) (type_at more ts) → (n w : Bool) → any_name t.bare ≡ n → punct "[" t.bare ≡ w → inside opened (suc more) (t ∷ ts) ≡ on-node (closes_at opened) (type_at (suc more) (t ∷ ts))
    go below true w e h = inside-name opened (suc more) t ts (name-no-punct "[" t.bare e) ∙ rw e refl
    go below false true e h =
        ap (λ (o : Outcome ℕ). o >>= after-brackets) (opens-more opened more t ts h)
        ∙ below
        ∙ one-level opened t ts (type_at more)
        ∙ sym (list-on t ts (type_at more) (λ x. closes_at opened x.node) h)
        ∙ rw e refl
    go below false false e h = inside-name opened (suc more) t ts h ∙ rw (e, h) refl

-- ---- places

-- this tree stands at this token
abbrev set-at : Token → TypeTree → Reader (Positioned TypeTree)
set-at t node rest = Read (at t node) rest

stands : {A : Type 0} (t : Token) (f : A → TypeTree) (o : Outcome A) → (o >>= λ a. set-at t (f a)) ≡ on-node (set-at t) (o >>= λ a. set-at t (f a))
stands t f (Read a rest) = refl
stands t f (Refused v rest) = refl

name-stands : (t : Token) (ts : List Token) → any_name t.bare ≡ true → named_type_at (t ∷ ts) ≡ on-node (set-at t) (named_type_at (t ∷ ts))
name-stands t ts e =
    let read : named_type_at (t ∷ ts) ≡ (mark_at ts >>= λ mark. set-at t (named_node t (nullable mark))) = then-on (one_at any_name) mark_at (λ x rest. Read (named_of x) rest) (t ∷ ts) ∙ rw e refl in
    read ∙ stands t (λ mark. named_node t (nullable mark)) (mark_at ts) ∙ ap (on-node (set-at t)) (sym read)

list-stands : (t : Token) (ts : List Token) (r : Reader (Positioned TypeTree)) → punct "[" t.bare ≡ true → list_type_at r (t ∷ ts) ≡ on-node (set-at t) (list_type_at r (t ∷ ts))
list-stands t ts r e =
    let more : Reader (Positioned TypeTree × (Token × Option Token)) = then_at r (then_at (one_at (punct "]")) mark_at) in
    let read : list_type_at r (t ∷ ts) ≡ (more ts >>= λ x. set-at t (list_type_of (t, x)).node) = then-on (one_at (punct "[")) more (λ x rest. Read (list_type_of x) rest) (t ∷ ts) ∙ rw e refl in
    read ∙ stands t (λ x. (list_type_of (t, x)).node) (more ts) ∙ ap (on-node (set-at t)) (sym read)

choice-stands : (t : Token) (w : Bool) (x y : Outcome (Positioned TypeTree)) → (w ≡ true → x ≡ on-node (set-at t) x) → (w ≡ false → y ≡ on-node (set-at t) y) → cond w x y ≡ on-node (set-at t) (cond w x y)
choice-stands t true x y h k = h refl
choice-stands t false x y h k = k refl

list-type-stands : (t : Token) (ts : List Token) (r : Reader (Positioned TypeTree)) → list_type_at r (t ∷ ts) ≡ on-node (set-at t) (list_type_at r (t ∷ ts))
list-type-stands t ts r = go (punct "[" t.bare) refl
  where
    go : (w : Bool) → punct "[" t.bare ≡ w → list_type_at r (t ∷ ts) ≡ on-node (set-at t) (list_type_at r (t ∷ ts))
    go true e = list-stands t ts r e
    go false e = rw e refl

-- a type stands at its first token
at-first : (n : ℕ) (t : Token) (ts : List Token) → type_at n (t ∷ ts) ≡ on-node (set-at t) (type_at n (t ∷ ts))
unfolding type_at
at-first zero t ts = choice-stands t (any_name t.bare) (named_type_at (t ∷ ts)) (deep_at (punct "[") (t ∷ ts)) (name-stands t ts) (λ _. choice-stands t (punct "[" t.bare) _ _ (λ _. refl) (λ _. refl))
at-first (suc n) t ts = choice-stands t (any_name t.bare) (named_type_at (t ∷ ts)) (list_type_at (type_at n) (t ∷ ts)) (name-stands t ts) (λ _. list-type-stands t ts (type_at n))

-- the reader in steps reads types
pub steps : (n : ℕ) (ts : List Token) → steps_at n ts ≡ type_at n ts
unfolding closes_at type_at
steps zero [] = refl
steps (suc n) [] = refl
steps n (t ∷ ts) =
    sym (grouped (opens_at 0 n (t ∷ ts)) after-brackets (set-at t) ∙ on-same (opens_at 0 n (t ∷ ts)) (λ opened rest. after-brackets opened rest >>= set-at t) (λ opened rest. named_at rest >>= λ item rest'. closes_at opened item rest' >>= set-at t) (λ opened rest. grouped (named_at rest) (closes_at opened) (set-at t)))
    ∙ ap (λ (o : Outcome TypeTree). o >>= set-at t) (by-levels n 0 (t ∷ ts))
    ∙ grouped (type_at n (t ∷ ts)) (λ x. closes_at 0 x.node) (set-at t)
    ∙ sym (at-first n t ts)

-- ---- loops

-- The parser has gone on, and what one reader gives at the first place another gives at the second.
pub record Becomes {Y : Type 0} (r : Reader Y) (initial : Ahead) (s : Reader Y) (now : Ahead) : Type 0 where
  pub told : r (tokens initial) ≡ s (tokens now)
  pub on : GoesOn initial now

-- one more is open
pub opens-goes : (n opened next : ℕ) (initial now after : Ahead) → Becomes (opens_at 0 n) initial (opens_at opened (n - opened)) now → next ≤ n → next ≡ opened + 1 → punct "[" now.hand.bare ≡ true → tokens after ≡ now.after → GoesOn now after → Becomes (opens_at 0 n) initial (opens_at next (n - next)) after
opens-goes n opened next initial now after kept within more at left on =
    let one-less : n - opened ≡ suc (n - next) = omega (arith, within, more) in
    let is-next : suc opened ≡ next = omega (arith, more) in
    record {
      told = kept.told ∙ ap (λ (k : ℕ). opens_at opened k (tokens now)) one-less ∙ opens-more opened (n - next) now.hand now.after at ∙ ap (λ (k : ℕ). opens_at k (n - next) now.after) is-next ∙ ap (opens_at next (n - next)) (sym left);
      on = go-on initial now after kept.on on;
    }

-- no more are open
pub opens-ends : (n opened : ℕ) (initial now : Ahead) → Becomes (opens_at 0 n) initial (opens_at opened (n - opened)) now → punct "[" now.hand.bare ≡ false → (opens_at 0 n (tokens initial) ≡ Read opened (tokens now)) × GoesOn initial now
opens-ends n opened initial now kept at = (kept.told ∙ opens-no-more opened (n - opened) now.hand now.after at, kept.on)

-- or no more may be
pub opens-stops : (n opened : ℕ) (initial now : Ahead) → Becomes (opens_at 0 n) initial (opens_at opened (n - opened)) now → opened ≡ n → punct "[" now.hand.bare ≡ true → (opens_at 0 n (tokens initial) ≡ Refused limit (tokens now)) × GoesOn initial now
opens-stops n opened initial now kept full at =
    let no-more : n - opened ≡ 0 = omega (arith, full) in
    (kept.told ∙ ap (λ (k : ℕ). opens_at opened k (tokens now)) no-more ∙ opens-full opened now.hand now.after at, kept.on)

-- ---- the whole

-- what closes so many lists, the inmost of this type, where the whole stands at this token
abbrev pub closing_at : Token → ℕ → TypeTree → Reader (Positioned TypeTree)
closing_at first opened item ts = closes_at opened item ts >>= set-at first

abbrev after-opens : Token → ℕ → List Token → Outcome (Positioned TypeTree)
after-opens first opened inside = named_at inside >>= closing_at first opened

by-opens : (n : ℕ) (initial : Ahead) → type_at n (tokens initial) ≡ (opens_at 0 n (tokens initial) >>= after-opens initial.hand)
by-opens n initial = sym (steps n (tokens initial))

-- no more lists may open
pub type-full : {X : Type 0} (view : X → Positioned TypeTree) (n : ℕ) (initial now : Ahead) (e : Refusal) → Gives (λ (k : ℕ). k) (Err e) initial now (opens_at 0 n) → Gives view (Err e) initial now (type_at n)
type-full view n initial now Memory h = h
type-full view n initial now Syntax h = (by-opens n initial ∙ ap (λ (o : Outcome ℕ). o >>= after-opens initial.hand) h.0, h.1)
type-full view n initial now Limit h = (by-opens n initial ∙ ap (λ (o : Outcome ℕ). o >>= after-opens initial.hand) h.0, h.1)

module _ (n opened : ℕ) (initial mid : Ahead) (opens : Gives (λ (k : ℕ). k) (Ok opened) initial mid (opens_at 0 n)) where
  -- all are open
  inmost : (type_at n (tokens initial) ≡ after-opens initial.hand opened (tokens mid)) × GoesOn initial mid
  inmost = (by-opens n initial ∙ ap (λ (o : Outcome ℕ). o >>= after-opens initial.hand) opens.0, opens.1)

  -- a name follows,
  pub type-named : (left : ℕ) (item : TypeTree) (now : Ahead) → left ≡ opened → (named_at (tokens mid) ≡ Read item (tokens now)) × GoesOn mid now → Becomes (type_at n) initial (closing_at initial.hand left item) now
  type-named left item now all h = record {
    told = inmost.0 ∙ ap (λ (o : Outcome TypeTree). o >>= closing_at initial.hand opened) h.0 ∙ ap (λ (k : ℕ). closing_at initial.hand k item (tokens now)) (sym all);
    on = go-on initial mid now inmost.1 h.1;
  }

  nameless : (v : Verdict) (now : Ahead) → one_at any_name (tokens mid) ≡ Refused v (tokens now) → type_at n (tokens initial) ≡ Refused v (tokens now)
  nameless v now h =
      let name : named_at (tokens mid) ≡ Refused v (tokens now) = rw h refl in
      inmost.0 ∙ ap (λ (o : Outcome TypeTree). o >>= closing_at initial.hand opened) name

  -- or there is none
  pub type-nameless : {X Y : Type 0} (name : X → Token) (view : Y → Positioned TypeTree) (e : Refusal) (now : Ahead) → Gives name (Err e) mid now (one_at any_name) → Gives view (Err e) initial now (type_at n)
  type-nameless name view Memory now h = (h.0, go-on initial mid now inmost.1 h.1)
  type-nameless name view Syntax now h = (nameless syntax now h.0, go-on initial mid now inmost.1 h.1)
  type-nameless name view Limit now h = (nameless limit now h.0, go-on initial mid now inmost.1 h.1)

module _ (n left : ℕ) (item : TypeTree) (initial now : Ahead) (kept : Becomes (type_at n) initial (closing_at initial.hand left item) now) where
  -- all are closed
  pub type-ends : left ≡ 0 → (type_at n (tokens initial) ≡ Read (at initial.hand item) (tokens now)) × GoesOn initial now
  unfolding closes_at
  type-ends done = (kept.told ∙ ap (λ (k : ℕ). closing_at initial.hand k item (tokens now)) done, kept.on)

  module _ (next : ℕ) (more : left ≡ suc next) where
    one-more : type_at n (tokens initial) ≡ ((close_at item (tokens now) >>= closes_at next) >>= set-at initial.hand)
    unfolding closes_at
    one-more = kept.told ∙ ap (λ (k : ℕ). closing_at initial.hand k item (tokens now)) more

    -- one list closes,
    pub type-closes : (whole : TypeTree) (after : Ahead) → (close_at item (tokens now) ≡ Read whole (tokens after)) × GoesOn now after → Becomes (type_at n) initial (closing_at initial.hand next whole) after
    type-closes whole after h = record {
      told = one-more ∙ ap (λ (o : Outcome TypeTree). (o >>= closes_at next) >>= set-at initial.hand) h.0;
      on = go-on initial now after kept.on h.1;
    }

    unclosed : (v : Verdict) (after : Ahead) → one_at (punct "]") (tokens now) ≡ Refused v (tokens after) → type_at n (tokens initial) ≡ Refused v (tokens after)
    unclosed v after h =
        let close : close_at item (tokens now) ≡ Refused v (tokens after) = rw h refl in
        one-more ∙ ap (λ (o : Outcome TypeTree). (o >>= closes_at next) >>= set-at initial.hand) close

    -- or there is no `]`
    pub type-unclosed : {X Y : Type 0} (bracket : X → Token) (view : Y → Positioned TypeTree) (e : Refusal) (after : Ahead) → Gives bracket (Err e) now after (one_at (punct "]")) → Gives view (Err e) initial after (type_at n)
    type-unclosed bracket view Memory after h = (h.0, go-on initial now after kept.on h.1)
    type-unclosed bracket view Syntax after h = (unclosed syntax after h.0, go-on initial now after kept.on h.1)
    type-unclosed bracket view Limit after h = (unclosed limit after h.0, go-on initial now after kept.on h.1)
