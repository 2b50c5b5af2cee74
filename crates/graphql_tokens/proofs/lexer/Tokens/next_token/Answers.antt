use Rattle.std.proofs.Common.{◌≡◌, ◌+◌, drop, [], ◌∷◌, Bool, true, false, cond, refl, sym, ap, subst, ◌∙◌, List, ℕ, length, length-drop, arith}
use Rattle.std.proofs.lemmas.List.{drop-drop}
use Rattle.std.specs.List.{slice_range}
use Rattle.graphql_tokens.specs.tokens.Place.{place}
use Rattle.graphql_tokens.specs.tokens.Cuts.{is_last, EndsOnce}
use Rattle.graphql_tokens.specs.tokens.Seen.{seen}
use Rattle.graphql_tokens.specs.tokens.Token.{left}
use Rattle.graphql_tokens.specs.inner.Lexer.{tokens_at}
use Rattle.graphql_tokens.specs.inner.Lexing.{RunsOver}
use Rattle.graphql_tokens.proofs.Lexes.{Passed, pass_gives, pass_moves, left_ends, left_proper}
use Rattle.graphql_tokens.proofs.lexer.Tokens.next_token.Goals as goal
use Rattle.graphql_tokens.proofs.lexer.Tokens.next_token.Goals.{then-is_last, else-is_last}

-- the place's text is the lexer's
own : (c : goal.After-t24-1) → c.text-text.result.now ≡ c.self.inside.text.now
own c = c.text-text.ensures ∙ c.self.invariant.runs.same

passed : (c : goal.After-t24-1) → Passed c.self.inside.text.now c.self.inside.places c.pass_ignored.new.places c.pass_token-kind.new.places c.pass_token-kind.result c.if-is_last.end
passed c =
    let bs = c.self.inside.text.now in
    let same = c.as_bytes-bytes.ensures.value ∙ own c in
    let p = c.pass_ignored.ensures in
    let t = c.pass_token-kind.ensures in
    record {
      at_before = c.self.invariant.runs;
      at_start = subst (λ (b : List ℕ). RunsOver b c.pass_ignored.new.places) same p.runs;
      at_after = subst (λ (b : List ℕ). RunsOver b c.pass_token-kind.new.places) same t.runs;
      skips = p.forward;
      goes = t.forward;
      skipped = p.rest;
      is = t.kind;
      rest = t.rest;
      last_end = λ l. elim c.if-is_last.branch [ then-is_last w ↦ w.end-is ∙ c.offset-start.ensures | else-is_last w ↦ let f = w.if-is_last.false in let g = sym c.is_last-is_last.ensures ∙ f in absurd (cc) ];
      other_end = λ l. elim c.if-is_last.branch [ then-is_last w ↦ let f = w.if-is_last.true in let g = sym c.is_last-is_last.ensures ∙ f in absurd (cc) | else-is_last w ↦ w.end-is ∙ w.offset-end.ensures ];
    }

not_ended : (c : goal.After-t24-1) → is_last c.self.inside.last ≡ false
not_ended c = by (is_last c.self.inside.last) refl
  where
    by : (b : Bool) → is_last c.self.inside.last ≡ b → is_last c.self.inside.last ≡ false
    by false e = e
    by true e =
        absurd (c.requires (sym (ap left c.self.view_is) ∙ c.self.invariant.given ∙ ap (λ b. cond b [] (tokens_at c.self.inside.text.now c.self.inside.places.walk.offset)) e))

-- the tokens still to come, by the place that is reached
still : (c : goal.After-t24-1) → drop c.self.inside.taken (tokens_at c.self.inside.text.now 0) ≡ tokens_at c.self.inside.text.now c.self.inside.places.walk.offset
still c = c.self.invariant.given ∙ ap (λ b. cond b [] (tokens_at c.self.inside.text.now c.self.inside.places.walk.offset)) (not_ended c)

-- without the token that is passed
after : (c : goal.After-t24-1) → drop (c.self.inside.taken + 1) (tokens_at c.self.inside.text.now 0) ≡ cond (is_last c.pass_token-kind.result) [] (tokens_at c.self.inside.text.now c.pass_token-kind.new.places.walk.offset)
after c =
    sym (drop-drop 1 c.self.inside.taken (tokens_at c.self.inside.text.now 0))
    ∙ ap (drop 1) (still c ∙ pass_gives _ _ _ _ _ _ (passed c))

pub invariant_of-self : goal.invariant_of-self
invariant_of-self c = record {
  runs = record { running = c.go_to.ensures.running; same = c.go_to.ensures.same ∙ c.self.invariant.runs.same };
  given = after c ∙ ap (λ at. cond (is_last c.pass_token-kind.result) [] (tokens_at c.self.inside.text.now at)) (sym c.go_to.ensures.offset);
  counted = λ l.
      (let m = pass_moves _ _ _ _ _ _ (passed c) l in
      let n = c.self.invariant.counted (not_ended c) in
      omega (arith, c.go_to.ensures.offset));
  within =
      (let l = ap length (still c ∙ pass_gives _ _ _ _ _ _ (passed c)) in
      omega (arith, l, length-drop c.self.inside.taken (tokens_at c.self.inside.text.now 0)));
}

pub returns-clause-token : goal.returns-clause-token
returns-clause-token c =
    let bs = c.self.inside.text.now in
    let kind = c.pass_token-kind.result in
    let start = c.pass_ignored.new.places in
    let end = c.if-is_last.end in
    let more = tokens_at bs c.pass_token-kind.new.places.walk.offset in
    let shown : left c.args.self.now ≡ tokens_at bs c.self.inside.places.walk.offset = sym (ap left c.self.view_is) ∙ still c in
    let word : slice_range bs start.walk.offset end ≡ c.range.result.now =
    ap (λ s. slice_range bs s end) (sym c.offset-start.ensures) ∙ ap (λ t. slice_range t c.offset-start.result end) (sym (own c)) ∙ sym c.range.ensures.value in
    let pos : place bs start.walk.offset ≡ c.pos-pos.result =
    ap (λ t. place t start.walk.offset) (sym (passed c).at_start.same) ∙ sym c.pos-pos.ensures in
    shown ∙ pass_gives _ _ _ _ _ _ (passed c)
    ∙ ap (λ x. record { bare = record { kind = kind; spelling = x }; start = start.walk.offset; pos = place bs start.walk.offset } ∷ cond (is_last kind) [] more) word
    ∙ ap (λ x. record { bare = record { kind = kind; spelling = c.range.result.now }; start = x; pos = place bs start.walk.offset } ∷ cond (is_last kind) [] more) (sym c.offset-start.ensures)
    ∙ ap (λ x. record { bare = record { kind = kind; spelling = c.range.result.now }; start = c.offset-start.result; pos = x } ∷ cond (is_last kind) [] more) pos
    ∙ ap (λ l. seen (record { kind = kind; text = c.range.result; start = c.offset-start.result; pos = c.pos-pos.result }) ∷ l) (sym (after c))

pub returns-clause-ends : goal.returns-clause-ends
returns-clause-ends c =
    let left_is = ap left c.self.view_is in
    subst EndsOnce left_is (left_ends c.self.inside.text.now c.self.inside.taken (λ e. c.requires (sym left_is ∙ e)))

pub returns-clause-proper : goal.returns-clause-proper
returns-clause-proper c = rw (← c.self.view_is) (left_proper c.self.inside.text.now c.self.inside.places c.self.inside.taken c.self.invariant.runs)

pub returns-clause-within : goal.returns-clause-within
returns-clause-within c = (invariant_of-self c).within
