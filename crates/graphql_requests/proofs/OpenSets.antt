-- What the loop over open sets keeps, and each way on.
use Rattle.std.proofs.Common.{◌≡◌, ℕ, suc, pred, ◌≤◌, Bool, true, false, Some, None, List, [], ◌∷◌, ◌++◌, length, refl, sym, ap, ◌∙◌, arith}
use Rattle.graphql_tokens.specs.declared.pos.Pos.{Pos}
use Rattle.graphql_tokens.specs.declared.pos.Positioned.{Positioned}
use Rattle.graphql_tokens.specs.tokens.Token.{Token}
use Rattle.graphql_syntax.specs.trees.Parts.{placed}
use Rattle.graphql_trees.specs.trees.Request.{Selection}
use Rattle.graphql_reading.specs.declared.parser.Refusal.{Refusal}
use Rattle.graphql_reading.specs.declared.parser.Refusal.TheVariants.{Memory, Syntax, Limit}
use Rattle.graphql_reading.specs.grammar.Fronts.{Verdict, syntax, limit}
use Rattle.graphql_requests.specs.grammar.Selections.{Set}
use Rattle.graphql_reading.specs.grammar.Tests.{punct, any_name}
use Rattle.graphql_reading.specs.reading.Ahead.{Ahead, Stays, tokens}
use Rattle.graphql_requests.specs.reading.SelectionSteps.{Heading, with_set, may_nest, head_at, item_at, Opened, closed, close_at, after_rest, more, begun, wanted_rest, headed, filled, filled_in, fill_last, resume}
use Rattle.graphql_reading.specs.reading.Given.{Refuses, GoesOn}
use Rattle.graphql_reading.specs.reading.Outcome.{Outcome, Read, Refused, Reader, ◌>>=◌, one_at}
use Rattle.graphql_requests.specs.reading.Selections.{selection_first, selection_set_at}
use Rattle.graphql_requests.proofs.Heads.{set-law, item-law}
use Rattle.graphql_requests.proofs.HeadTakes.{item-takes}
use Rattle.graphql_reading.proofs.Loop.{rest-more, rest-stops}
use Rattle.graphql_reading.proofs.TokenTests.{punct-is}
use Rattle.graphql_reading.proofs.Loops.{go-on, ahead-stays, on-stays}

-- ---- an open set, step by step

-- what a set does after a selection that it was given up to that one's set
abbrev head-rest : ℕ → ℕ → Opened → Heading → List Token → Outcome Set
head-rest values s o (x, None) rest = after_rest values s (more o x) rest
head-rest values s o (x, Some at) rest = filled values s (more o x) (wanted_rest values (pred s) (begun at) rest)

fill-pushed : (xs : List (Positioned Selection)) (x : Positioned Selection) (set : Set) → fill_last (xs ++ x ∷ []) set ≡ xs ++ placed (with_set set) x ∷ []
fill-pushed [] x set = refl
fill-pushed (y ∷ []) x set = refl
fill-pushed (y ∷ z ∷ xs) x set = ap (λ (l : List (Positioned Selection)). y ∷ l) (fill-pushed (z ∷ xs) x set)

wanted-law : (values s : ℕ) (o : Opened) (ts : List Token) → wanted_rest values s o ts ≡ (head_at values (may_nest s) ts >>= head-rest values s o)
wanted-law values s o ts = ap (λ (k : Outcome (Positioned Selection)). k >>= after) (item-law values s ts) ∙ go (head_at values (may_nest s) ts)
  where
    after : Positioned Selection → List Token → Outcome Set
    after x rest = after_rest values s (more o x) rest

    with : (x : Positioned Selection) (k : Outcome Set) → ((k >>= λ own rest. Read (placed (with_set own) x) rest) >>= after) ≡ (k >>= λ own rest. after_rest values s (filled_in (more o x) own) rest)
    with x (Read own rest) = ap (λ (l : List (Positioned Selection)). after_rest values s (record { place = o.place; items = l }) rest) (sym (fill-pushed o.items x own))
    with x (Refused v rest) = refl

    go : (k : Outcome Heading) → ((k >>= headed values s) >>= after) ≡ (k >>= head-rest values s o)
    go (Read (x, None) rest) = refl
    go (Read (x, Some at) rest) = with x (wanted_rest values (pred s) (begun at) rest)
    go (Refused v rest) = refl

-- where the set isn't closed, a selection has to follow
more-after : (values s : ℕ) (o : Opened) (t : Token) (ts : List Token) → punct "}" t.bare ≡ false → after_rest values s o (t ∷ ts) ≡ wanted_rest values s o (t ∷ ts)
unfolding after_rest
more-after values s o t ts e = go (any_name t.bare) (punct "..." t.bare) refl refl
  where
    more : selection_first t.bare ≡ true → after_rest values s o (t ∷ ts) ≡ wanted_rest values s o (t ∷ ts)
    more h = rest-more selection_first (item_at values s) (close_at o.place) (item-takes values s) o.items t ts h

    go : (n d : Bool) → any_name t.bare ≡ n → punct "..." t.bare ≡ d → after_rest values s o (t ∷ ts) ≡ wanted_rest values s o (t ∷ ts)
    go true d h k = more (rw h refl)
    go false true h k = more (rw (h, k) refl)
    go false false h k =
        let stops : after_rest values s o (t ∷ ts) ≡ close_at o.place o.items (t ∷ ts) = rest-stops selection_first (item_at values s) (close_at o.place) o.items t ts (rw (h, k) refl) in
        let closes-not : close_at o.place o.items (t ∷ ts) ≡ Refused syntax (t ∷ ts) = rw e refl in
        let none : (head_at values (may_nest s) (t ∷ ts) >>= head-rest values s o) ≡ Refused syntax (t ∷ ts) = rw (k, h) refl in
        stops ∙ closes-not ∙ sym (wanted-law values s o (t ∷ ts) ∙ none)

-- or it is closed
after-closed : (values s : ℕ) (o : Opened) (t : Token) (ts : List Token) → punct "}" t.bare ≡ true → after_rest values s o (t ∷ ts) ≡ Read (closed o) ts
unfolding after_rest
after-closed values s o t ts e = rest-stops selection_first (item_at values s) (close_at o.place) o.items t ts (ap selection_first (punct-is "}" t.bare e)) ∙ rw e refl

resume-refused : (values b : ℕ) (os : List Opened) (v : Verdict) (rest : List Token) → resume values b os (Refused v rest) ≡ Refused v rest
resume-refused values b [] v rest = refl
resume-refused values b (o ∷ os) v rest = resume-refused values (suc b) os v rest

-- ---- what is kept

-- what the tokens from the first on make of a set, those ahead make of the open sets, where a selection has to follow
pub record Wanted (values selections : ℕ) (start now : Ahead) (left : ℕ) (os : List Opened) (own : Opened) : Type 0 where
  pub told : selection_set_at values selections (tokens start) ≡ resume values left os (wanted_rest values left own (tokens now))
  pub on : GoesOn start now

-- the same, after a selection
pub record Behind (values selections most : ℕ) (start now : Ahead) (left : ℕ) (os : List Opened) (own : Opened) : Type 0 where
  pub told : selection_set_at values selections (tokens start) ≡ resume values left os (after_rest values left own (tokens now))
  pub on : GoesOn start now
  pub less : length now.after ≤ most

-- ---- memory was asked for

pub wanted-stays : {values selections : ℕ} {start now : Ahead} {left : ℕ} {os : List Opened} {own : Opened} (new : Ahead) → Stays now new → Wanted values selections start now left os own → Wanted values selections start new left os own
wanted-stays {values} {start = start} {now = now} {left = left} {os = os} {own = own} new s kept = record {
  told = kept.told ∙ ap (λ (l : List Token). resume values left os (wanted_rest values left own l)) (sym (ahead-stays now new s));
  on = on-stays start now new kept.on s;
}

pub after-stays : {values selections most : ℕ} {start now : Ahead} {left : ℕ} {os : List Opened} {own : Opened} (new : Ahead) → Stays now new → Behind values selections most start now left os own → Behind values selections most start new left os own
after-stays {values} {start = start} {now = now} {left = left} {os = os} {own = own} new s kept = record {
  told = kept.told ∙ ap (λ (l : List Token). resume values left os (after_rest values left own l)) (sym (ahead-stays now new s));
  on = on-stays start now new kept.on s;
  less = let same = ap (λ (l : List Token). length l) s.1 in omega (arith, kept.less, same);
}

-- ---- the ways on

pub opens : {values selections : ℕ} {start now : Ahead} (t : Token) → (one_at (punct "{") (tokens start) ≡ Read t (tokens now)) × GoesOn start now → Wanted values selections start now selections [] (begun t.pos)
opens {values} {selections} {start} {now} t h = record {
  told = set-law values selections (tokens start) ∙ ap (λ (o : Outcome Token). o >>= λ t rest. wanted_rest values selections (begun t.pos) rest) h.0;
  on = h.1;
}

head-told : {values selections : ℕ} {start now : Ahead} {left : ℕ} {os : List Opened} {own : Opened} (read : Outcome Heading) → head_at values (may_nest left) (tokens now) ≡ read → Wanted values selections start now left os own → selection_set_at values selections (tokens start) ≡ resume values left os (read >>= head-rest values left own)
head-told {values} {now = now} {left = left} {os = os} {own = own} read h kept =
    kept.told ∙ ap (resume values left os) (wanted-law values left own (tokens now) ∙ ap (λ (o : Outcome Heading). o >>= head-rest values left own) h)

pub enters : {values selections : ℕ} {start now next : Ahead} {left : ℕ} {os : List Opened} {own : Opened} (x : Positioned Selection) (place : Pos) → head_at values true (tokens now) ≡ Read (x, Some place) (tokens next) → GoesOn now next → Wanted values selections start now (suc left) os own → Wanted values selections start next left (more own x ∷ os) (begun place)
enters {start = start} {now = now} {next = next} x place h on kept = record {
  told = head-told (Read (x, Some place) (tokens next)) h kept;
  on = go-on start now next kept.on on;
}

pub reads : {values selections : ℕ} {start now next : Ahead} {left : ℕ} {os : List Opened} {own : Opened} (x : Positioned Selection) → head_at values (may_nest left) (tokens now) ≡ Read (x, None) (tokens next) → GoesOn now next → Wanted values selections start now left os own → Behind values selections (length next.after) start next left os (more own x)
reads {start = start} {now = now} {next = next} x h on kept = record {
  told = head-told (Read (x, None) (tokens next)) h kept;
  on = go-on start now next kept.on on;
  less = omega arith;
}

pub again : {values selections most : ℕ} {start now : Ahead} {left : ℕ} {os : List Opened} {own : Opened} → punct "}" now.hand.bare ≡ false → Behind values selections most start now left os own → Wanted values selections start now left os own
again {values} {now = now} {left = left} {os = os} {own = own} e kept = record {
  told = kept.told ∙ ap (resume values left os) (more-after values left own now.hand now.after e);
  on = kept.on;
}

close-told : {values selections most : ℕ} {start now : Ahead} {left : ℕ} {os : List Opened} {own : Opened} (next : Ahead) → punct "}" now.hand.bare ≡ true → tokens next ≡ now.after → Behind values selections most start now left os own → selection_set_at values selections (tokens start) ≡ resume values left os (Read (closed own) (tokens next))
close-told {values} {now = now} {left = left} {os = os} {own = own} next e there kept =
    kept.told
    ∙ ap (resume values left os) (after-closed values left own now.hand now.after e
    ∙ ap (λ (l : List Token). Read (closed own) l) (sym there))

pub ends : {values selections most : ℕ} {start now : Ahead} {left : ℕ} {own : Opened} (next : Ahead) → punct "}" now.hand.bare ≡ true → tokens next ≡ now.after → GoesOn now next → Behind values selections most start now left [] own → (selection_set_at values selections (tokens start) ≡ Read (closed own) (tokens next)) × GoesOn start next
ends {start = start} {now = now} next e there on kept = (close-told next e there kept, go-on start now next kept.on on)

pub leaves : {values selections most : ℕ} {start now : Ahead} {left : ℕ} {os : List Opened} {own outer : Opened} (next : Ahead) → punct "}" now.hand.bare ≡ true → tokens next ≡ now.after → GoesOn now next → Behind values selections most start now left (outer ∷ os) own → Behind values selections most start next (suc left) os (filled_in outer (closed own))
leaves {start = start} {now = now} next e there on kept = record {
  told = close-told next e there kept;
  on = go-on start now next kept.on on;
  less = let same : suc (length next.after) ≡ length now.after = ap (λ (l : List Token). length l) there in omega (arith, kept.less, same);
}

-- ---- refusals

pub refuses-by : {A B : Type 0} (e : Refusal) (start now next : Ahead) (whole : Reader A) (part : Reader B) → ((v : Verdict) → part (tokens now) ≡ Refused v (tokens next) → whole (tokens start) ≡ Refused v (tokens next)) → Refuses e now next part → Refuses e start next whole
refuses-by Memory start now next whole part h k = k
refuses-by Syntax start now next whole part h k = h syntax k
refuses-by Limit start now next whole part h k = h limit k

pub opens-not : (values selections : ℕ) (start next : Ahead) (e : Refusal) → Refuses e start next (one_at (punct "{")) × GoesOn start next → Refuses e start next (selection_set_at values selections) × GoesOn start next
opens-not values selections start next e h = (
  refuses-by e start start next (selection_set_at values selections) (one_at (punct "{")) (λ v k. set-law values selections (tokens start) ∙ ap (λ (o : Outcome Token). o >>= λ t rest. wanted_rest values selections (begun t.pos) rest) k) h.0,
  h.1,
)

-- what reads the head may do more than that
pub reads-not : {A : Type 0} {values selections : ℕ} {start now : Ahead} {left : ℕ} {os : List Opened} {own : Opened} (next : Ahead) (e : Refusal) (part : Reader A) → ((v : Verdict) → part (tokens now) ≡ Refused v (tokens next) → head_at values (may_nest left) (tokens now) ≡ Refused v (tokens next)) → Refuses e now next part × GoesOn now next → Wanted values selections start now left os own → Refuses e start next (selection_set_at values selections) × GoesOn start next
reads-not {values = values} {selections = selections} {start = start} {now = now} {left = left} {os = os} next e part not h kept = (
  refuses-by e start now next (selection_set_at values selections) part (λ v k. head-told (Refused v (tokens next)) (not v k) kept ∙ resume-refused values left os v (tokens next)) h.0,
  go-on start now next kept.on h.1,
)
