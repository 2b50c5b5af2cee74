-- What the loops keep that read the contents of a list or an object, and each way on.
use Rattle.std.proofs.Common.{◌≡◌, ℕ, ◌<◌, ◌≤◌, Bool, true, false, cond, List, [], ◌∷◌, ◌++◌, Option, Some, None, Ok, Err, length, refl, sym, ap, ◌∙◌, subst, arith}
use Rattle.graphql_tokens.specs.tokens.Token.{Token}
use Rattle.graphql_syntax.specs.trees.ValueTree.{Tree}
use Rattle.graphql_reading.specs.declared.parser.Refusal.{Refusal}
use Rattle.graphql_reading.specs.declared.parser.Refusal.TheVariants.{Memory, Syntax, Limit}
use Rattle.graphql_reading.specs.grammar.Fronts.{Verdict, syntax, limit}
use Rattle.graphql_reading.specs.grammar.Tests.{punct, any_name}
use Rattle.graphql_reading.specs.reading.Ahead.{Ahead, Stays, tokens}
use Rattle.graphql_grammar.specs.reading.OpenValues.{Met, goes_on, Field, node_at, Opened, Waiting, list_waits, object_waits, list_tree, object_tree, list_rest, object_rest, open_rest, add, filled, closes, enters, key_at, enter_at, MeetsAt}
use Rattle.graphql_reading.specs.reading.Given.{Gives, GoesOn, Refuses}
use Rattle.graphql_reading.specs.reading.Outcome.{Outcome, Read, Refused, Reader, ◌>>=◌, one_at, take_at}
use Rattle.graphql_grammar.specs.reading.Values.{simple_at, value_at}
use Rattle.graphql_reading.proofs.Loops.{go-on, stays, ahead-stays, on-stays}
use Rattle.graphql_grammar.proofs.ValueFrames.{value-law, begun, entered, list-law, after-item, object-law, after-key, keys, with-colon, taken, not-taken, takes-key, takes-node}

-- From the first token on, all that is read comes of what is held now and of the tokens ahead.
pub record HeldSoFar {A : Type 0} (r : List A → Reader Tree) (initial now : Ahead) (before held : List A) : Type 0 where
  pub told : r before (tokens initial) ≡ r held (tokens now)
  pub within : length (tokens now) ≤ length (tokens initial)
  pub on : GoesOn initial now

pub begins : {A : Type 0} (r : List A → Reader Tree) (initial : Ahead) (before : List A) → HeldSoFar r initial initial before before
begins r initial before = record { told = refl; within = omega arith; on = stays initial }

-- what is held waits for a value, and the parser has come to it
pub record Wants {A : Type 0} (r : List A → Reader Tree) (vars : Bool) (b : ℕ) (w : Waiting) (now mid : Ahead) (held : List A) : Type 0 where
  pub told : r held (tokens now) ≡ filled vars b w (node_at (value_at vars b) (tokens mid))
  pub within : length (tokens mid) ≤ length (tokens now)
  pub on : GoesOn now mid

-- and what begins there is neither a list nor an object
pub record Alone (b : ℕ) (mid alone : Ahead) : Type 0 where
  pub none : enter_at b (tokens mid) ≡ Read None (tokens alone)
  pub on : GoesOn mid alone

-- ---- the name of a field

-- what follows where no object ends
abbrev named : Outcome Token → Outcome (Option (List ℕ))
named o = keys (o >>= λ n rest. with-colon n (one_at (punct ":") rest))

key-after : (now mid : Ahead) → take_at (punct "}") (tokens now) ≡ Read false (tokens mid) → key_at (tokens now) ≡ named (one_at any_name (tokens mid))
key-after now mid = go (punct "}" now.hand.bare)
  where
    go : (w : Bool) → cond w (Read true now.after) (Read false (tokens now)) ≡ Read false (tokens mid) → cond w (one_at (punct "}") (tokens now) >>= λ _ rest. Read None rest) (named (one_at any_name (tokens now))) ≡ named (one_at any_name (tokens mid))
    go true e = absurd cc
    go false e = cc

key-ends : (now next : Ahead) → take_at (punct "}") (tokens now) ≡ Read true (tokens next) → key_at (tokens now) ≡ Read None (tokens next)
key-ends now next = go (punct "}" now.hand.bare) refl
  where
    go : (w : Bool) → punct "}" now.hand.bare ≡ w → cond w (Read true now.after) (Read false (tokens now)) ≡ Read true (tokens next) → cond w (one_at (punct "}") (tokens now) >>= λ _ rest. Read None rest) (named (one_at any_name (tokens now))) ≡ Read None (tokens next)
    go true at e = rw at cc
    go false at e = absurd cc

field-named : (now mid past there next : Ahead) (name colon : Token) (text : List ℕ) → Gives (λ w. w) (Ok false) now mid (take_at (punct "}")) → Gives (λ w. w) (Ok name) mid past (one_at any_name) → text ≡ name.bare.spelling → Stays past there → Gives (λ w. w) (Ok colon) there next (one_at (punct ":")) → Gives (λ k. k) (Ok (Some text)) now next key_at
field-named now mid past there next name colon text free reads is stay marked =
    let at-colon : one_at (punct ":") (tokens past) ≡ Read colon (tokens next) = ap (one_at (punct ":")) (sym (ahead-stays past there stay)) ∙ marked.0 in (
      key-after now mid free.0 ∙ ap named reads.0 ∙ ap (λ (o : Outcome Token). keys (with-colon name o)) at-colon ∙ ap (λ (l : List ℕ). Read (Some l) (tokens next)) (sym is),
      go-on now there next (on-stays now past there (go-on now mid past free.1 reads.1) stay) marked.1,
    )

-- ---- the end, or what is wanted

pub wants-item : (vars : Bool) (b : ℕ) (held : List Tree) (now mid : Ahead) → Gives (λ t. t) (Ok false) now mid (take_at (punct "]")) → Wants (list_rest vars b) vars b (list_waits held) now mid held
wants-item vars b held now mid gives = record {
  told = list-law vars b held (tokens now) ∙ ap (λ (o : Outcome Bool). o >>= after-item vars b held) gives.0;
  within = not-taken (punct "]") (tokens now) (tokens mid) gives.0;
  on = gives.1;
}

pub wants-field : (vars : Bool) (b : ℕ) (held : List Field) (now mid past there next : Ahead) (name colon : Token) (text : List ℕ) → Gives (λ w. w) (Ok false) now mid (take_at (punct "}")) → Gives (λ w. w) (Ok name) mid past (one_at any_name) → text ≡ name.bare.spelling → Stays past there → Gives (λ w. w) (Ok colon) there next (one_at (punct ":")) → Wants (object_rest vars b) vars b (object_waits held text) now next held
wants-field vars b held now mid past there next name colon text free reads is stay marked =
    let key = field-named now mid past there next name colon text free reads is stay marked in
    record {
      told = object-law vars b held (tokens now) ∙ ap (λ (o : Outcome (Option (List ℕ))). o >>= after-key vars b held) key.0;
      within = let less : length (tokens next) < length (tokens now) = takes-key (tokens now) (Some text) (tokens next) key.0 in omega (arith, less);
      on = key.1;
    }

ends : {A : Type 0} (r : List A → Reader Tree) (vars : Bool) (b : ℕ) (t : Tree) (initial now next : Ahead) (before held : List A) → HeldSoFar r initial now before held → r held (tokens now) ≡ Read t (tokens next) → length (tokens next) < length (tokens now) → GoesOn now next → MeetsAt vars b (closes t) initial next (r before) × GoesOn initial next
ends r vars b t initial now next before held k e less on = (record { told = k.told ∙ e; less = omega (arith, less, k.within); room = tt }, go-on initial now next k.on on)

pub ends-list : (vars : Bool) (b : ℕ) (initial now next : Ahead) (before held : List Tree) → HeldSoFar (list_rest vars b) initial now before held → Gives (λ t. t) (Ok true) now next (take_at (punct "]")) → MeetsAt vars b (closes (list_tree held)) initial next (list_rest vars b before) × GoesOn initial next
ends-list vars b initial now next before held k gives = ends (list_rest vars b) vars b (list_tree held) initial now next before held k (list-law vars b held (tokens now) ∙ ap (λ (o : Outcome Bool). o >>= after-item vars b held) gives.0) (taken (punct "]") (tokens now) (tokens next) gives.0) gives.1

pub ends-object : (vars : Bool) (b : ℕ) (initial now next : Ahead) (before held : List Field) → HeldSoFar (object_rest vars b) initial now before held → Gives (λ t. t) (Ok true) now next (take_at (punct "}")) → MeetsAt vars b (closes (object_tree held)) initial next (object_rest vars b before) × GoesOn initial next
ends-object vars b initial now next before held k gives = ends (object_rest vars b) vars b (object_tree held) initial now next before held k (object-law vars b held (tokens now) ∙ ap (λ (o : Outcome (Option (List ℕ))). o >>= after-key vars b held) (key-ends now next gives.0)) (taken (punct "}") (tokens now) (tokens next) gives.0) gives.1

-- memory was asked for after what is met
pub meets-stays : (vars : Bool) (b : ℕ) (met : Met) (old now new : Ahead) (r : Reader Tree) → MeetsAt vars b met old now r → Stays now new → MeetsAt vars b met old new r
meets-stays vars b met old now new r m s = record {
  told = m.told ∙ ap (λ (l : List Token). goes_on vars b met l) (sym (ahead-stays now new s));
  less = let same = ap (λ (l : List Token). length l) (ahead-stays now new s) in omega (arith, m.less, same);
  room = m.room;
}

-- what stands for what is closed
pub meets-made : {vars : Bool} {b : ℕ} {old new : Ahead} {r : Reader Tree} {t u : Tree} → u ≡ t → MeetsAt vars b (closes t) old new r × GoesOn old new → MeetsAt vars b (closes u) old new r × GoesOn old new
meets-made {vars} {b} {old} {new} {r} same h = (subst (λ (x : Tree). MeetsAt vars b (closes x) old new r) (sym same) h.0, h.1)

-- ---- where a part is refused, all is

stops : {A X Y : Type 0} (r : List A → Reader Tree) (initial now mid next : Ahead) (before held : List A) (view : X → Y) (q : Reader Y) (e : Refusal) → HeldSoFar r initial now before held → GoesOn now mid → ((v : Verdict) (rest : List Token) → q (tokens mid) ≡ Refused v rest → r held (tokens now) ≡ Refused v rest) → Gives view (Err e) mid next q → Refuses e initial next (r before) × GoesOn initial next
stops r initial now mid next before held view q e k on same gives = (by e gives.0, go-on initial mid next (go-on initial now mid k.on on) gives.1)
  where
    by : (e : Refusal) → Refuses e mid next q → Refuses e initial next (r before)
    by Memory h = h
    by Syntax h = k.told ∙ same syntax (tokens next) h
    by Limit h = k.told ∙ same limit (tokens next) h

module _ {X : Type 0} (view : X → Token) (vars : Bool) (b : ℕ) (initial now mid : Ahead) (before held : List Field) (k : HeldSoFar (object_rest vars b) initial now before held) (free : Gives (λ w. w) (Ok false) now mid (take_at (punct "}"))) where
  no-key : (v : Verdict) (rest : List Token) → named (one_at any_name (tokens mid)) ≡ Refused v rest → object_rest vars b held (tokens now) ≡ Refused v rest
  no-key v rest h = object-law vars b held (tokens now) ∙ ap (λ (o : Outcome (Option (List ℕ))). o >>= after-key vars b held) (key-after now mid free.0 ∙ h)

  pub stops-name : (e : Refusal) (next : Ahead) → Gives view (Err e) mid next (one_at any_name) → Refuses e initial next (object_rest vars b before) × GoesOn initial next
  stops-name e next = stops (object_rest vars b) initial now mid next before held view (one_at any_name) e k free.1 (λ v rest h. no-key v rest (ap named h))

  pub stops-colon : (e : Refusal) (past there next : Ahead) (name : Token) → Gives (λ w. w) (Ok name) mid past (one_at any_name) → Stays past there → Gives view (Err e) there next (one_at (punct ":")) → Refuses e initial next (object_rest vars b before) × GoesOn initial next
  stops-colon e past there next name reads s = stops (object_rest vars b) initial now there next before held view (one_at (punct ":")) e k (on-stays now past there (go-on now mid past free.1 reads.1) s) (λ v rest h. no-key v rest (ap named reads.0 ∙ ap (λ (l : List Token). keys (with-colon name (one_at (punct ":") l))) (sym (ahead-stays past there s)) ∙ ap (λ (o : Outcome Token). keys (with-colon name o)) h))

-- ---- the value that is wanted

module _ {A : Type 0} {r : List A → Reader Tree} {vars : Bool} {b : ℕ} {w : Waiting} {initial now mid : Ahead} {before held : List A} (k : HeldSoFar r initial now before held) (wants : Wants r vars b w now mid held) where
  -- a list or an object begins
  pub meets-inside : (o : Opened) (next : Ahead) → enter_at b (tokens mid) ≡ Read (Some o) (tokens next) → GoesOn mid next → MeetsAt vars b (enters w o) initial next (r before) × GoesOn initial next
  meets-inside o next e on =
      let room = entered b (tokens mid) o (tokens next) e in (
        record {
          told = k.told ∙ wants.told ∙ ap (filled vars b w) (value-law vars b (tokens mid) ∙ ap (λ (o : Outcome (Option Opened)). o >>= begun vars b) e);
          less = omega (arith, room.1, wants.within, k.within);
          room = room.0;
        },
        go-on initial mid next (go-on initial now mid k.on wants.on) on,
      )

  pub stops-inside : {X : Type 0} (view : X → Option Opened) (e : Refusal) (next : Ahead) → Gives view (Err e) mid next (enter_at b) → Refuses e initial next (r before) × GoesOn initial next
  stops-inside view e next = stops r initial now mid next before held view (enter_at b) e k wants.on (λ v rest h. wants.told ∙ ap (filled vars b w) (value-law vars b (tokens mid) ∙ ap (λ (o : Outcome (Option Opened)). o >>= begun vars b) h))

  -- or what stands alone
  module _ {alone : Ahead} (a : Alone b mid alone) where
    simply : node_at (value_at vars b) (tokens mid) ≡ node_at (simple_at vars) (tokens alone)
    simply = value-law vars b (tokens mid) ∙ ap (λ (o : Outcome (Option Opened)). o >>= begun vars b) a.none

    pub stops-alone : {X : Type 0} (tree : X → Tree) (e : Refusal) (next : Ahead) → Gives tree (Err e) alone next (node_at (simple_at vars)) → Refuses e initial next (r before) × GoesOn initial next
    stops-alone tree e next = stops r initial now alone next before held tree (node_at (simple_at vars)) e k (go-on now mid alone wants.on a.on) (λ v rest h. wants.told ∙ ap (filled vars b w) (simply ∙ h))

    pub falls : (t : Tree) (next : Ahead) → node_at (simple_at vars) (tokens alone) ≡ Read t (tokens next) → length (tokens next) < length (tokens now)
    falls t next e =
        let less : length (tokens next) < length (tokens mid) = takes-node vars b (tokens mid) t (tokens next) (simply ∙ e) in
        omega (arith, less, wants.within)

    -- what stands for it goes last of what is held
    pub adds : (t : Tree) (last : A) (next : Ahead) (more : List A) → node_at (simple_at vars) (tokens alone) ≡ Read t (tokens next) → GoesOn alone next → open_rest vars b (add w t) (tokens next) ≡ r (held ++ last ∷ []) (tokens next) → more ≡ held ++ last ∷ [] → HeldSoFar r initial next before more
    adds t last next more e on same pushed =
        let less : length (tokens next) < length (tokens now) = falls t next e in
        record {
          told = k.told ∙ wants.told ∙ ap (filled vars b w) (simply ∙ e) ∙ same ∙ ap (λ (l : List A). r l (tokens next)) (sym pushed);
          within = omega (arith, less, k.within);
          on = go-on initial alone next (go-on initial mid alone (go-on initial now mid k.on wants.on) a.on) on;
        }
