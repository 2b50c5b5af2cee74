use Rattle.std.proofs.Common.{◌≡◌, ◌≢◌, ℕ, List, ap, ◌∙◌, sym, subst, refl, true, false, string_bytes}
use denote.Enum.Bare.{sameb}
use Rattle.graphql_tokens.specs.contracts.lexer.TokenKind.{the_type}
use Rattle.graphql_tokens.specs.tokens.Kinds.{is_end}
use Rattle.graphql_tokens.specs.tokens.Seen.{seen}
use Rattle.graphql_tokens.specs.tokens.Token.{left}
use Rattle.graphql_tokens.specs.declared.lexer.TokenKind.{TokenKind}
use Rattle.graphql_tokens.specs.declared.lexer.TokenKind.TheVariants.{Punct, Name, Number, String, Block, Fault, End}
use Rattle.graphql_layout.specs.inner.Standing.{IsClear}
use Rattle.graphql_layout.specs.inner.Tidied.{IsAdded}
use Rattle.graphql_layout.specs.texts.Items.{Item}
use Rattle.graphql_layout.proofs.FirstHashes.{clear_after}
use Rattle.graphql_layout.proofs.Takings.{next, boundary, gap_is, all_laid_out, next_spells, boundary_after, one_read, fault_read}
use Rattle.graphql_layout.proofs.layout.format.Goals as goal

is_fault : (kind : TokenKind) → sameb the_type kind Fault ≡ true → kind ≡ Fault
is_fault Fault h = refl
is_fault Punct h = absurd cc
is_fault Name h = absurd cc
is_fault Number h = absurd cc
is_fault String h = absurd cc
is_fault Block h = absurd cc
is_fault End h = absurd cc

not_fault : (kind : TokenKind) → sameb the_type kind Fault ≡ false → kind ≢ Fault
not_fault kind h e = let same : sameb the_type kind Fault ≡ true = ap (λ k. sameb the_type k Fault) e in cc

not_end : (kind : TokenKind) → is_end kind ≡ false → kind ≢ End
not_end kind h e = let same : is_end kind ≡ true = ap is_end e in cc

the_end : (kind : TokenKind) → is_end kind ≡ true → kind ≡ End
the_end End h = refl
the_end Punct h = absurd cc
the_end Name h = absurd cc
the_end Number h = absurd cc
the_end String h = absurd cc
the_end Block h = absurd cc
the_end Fault h = absurd cc

pub overflow_sub-end : goal.overflow_sub-end
overflow_sub-end c =
    let n =
    next c.tokens.ahead.rest.now c.text.result.now c.go_on.new.passed.items c.in_ok-next.next c.go_on.new.tokens (seen c.next_token-token.result) (left c.next_token-token.new.self) (c.text.ensures ∙ c.next_token-token.ensures.text) c.text.utf8
    c.in_ok-next.ensures.ahead c.in_ok-next.ensures.stands c.next_token-token.ensures.token in
    n.shorter

pub returns-then-eq : goal.returns-then-eq
returns-then-eq c =
    let n =
    next c.tokens.ahead.rest.now c.text.result.now c.go_on.new.passed.items c.in_ok-next.next c.go_on.new.tokens (seen c.next_token-token.result) (left c.next_token-token.new.self) (c.text.ensures ∙ c.next_token-token.ensures.text) c.text.utf8
    c.in_ok-next.ensures.ahead c.in_ok-next.ensures.stands c.next_token-token.ensures.token in
    fault_read c.args.text.now c.tokens.ahead.rest.now c.go_on.new.passed.items c.in_ok-next.next.rest.now c.text.result.now (seen c.next_token-token.result) (left c.next_token-token.new.self) c.tokens.sheet c.tokens.invariant.1 n (is_fault c.next_token-token.result.kind (sym c.eq.ensures ∙ c.if-eq.true))

pub overflow_sub-token : goal.overflow_sub-token
overflow_sub-token c =
    let n =
    next c.tokens.ahead.rest.now c.text.result.now c.go_on.new.passed.items c.in_ok-next.next c.go_on.new.tokens (seen c.next_token-token.result) (left c.next_token-token.new.self) (c.text.ensures ∙ c.next_token-token.ensures.text) c.text.utf8
    c.in_ok-next.ensures.ahead c.in_ok-next.ensures.stands c.next_token-token.ensures.token in
    n.reached

pub split_at-requires : goal.split_at-requires
split_at-requires c =
    let n =
    next c.tokens.ahead.rest.now c.text.result.now c.go_on.new.passed.items c.in_ok-next.next c.go_on.new.tokens (seen c.next_token-token.result) (left c.next_token-token.new.self) (c.text.ensures ∙ c.next_token-token.ensures.text) c.text.utf8
    c.in_ok-next.ensures.ahead c.in_ok-next.ensures.stands c.next_token-token.ensures.token in
    boundary c.tokens.ahead.rest.now c.go_on.new.passed.items c.in_ok-next.next.rest.now c.text.result.now (seen c.next_token-token.result) (left c.next_token-token.new.self) n

pub push_ignored-requires-clause-gap : goal.push_ignored-requires-clause-gap
push_ignored-requires-clause-gap c =
    let n =
    next c.tokens.ahead.rest.now c.text.result.now c.go_on.new.passed.items c.in_ok-next.next c.go_on.new.tokens (seen c.next_token-token.result) (left c.next_token-token.new.self) (c.text.ensures ∙ c.next_token-token.ensures.text) c.text.utf8
    c.in_ok-next.ensures.ahead c.in_ok-next.ensures.stands c.next_token-token.ensures.token in
    gap_is c.tokens.ahead.rest.now c.go_on.new.passed.items c.in_ok-next.next.rest.now c.split_at.result.0.now c.split_at.result.1.now c.text.result.now (seen c.next_token-token.result) (left c.next_token-token.new.self) n c.split_at.ensures.front c.split_at.ensures.back

pub returns-then-is_end : goal.returns-then-is_end
returns-then-is_end c =
    let n =
    next c.tokens.ahead.rest.now c.text.result.now c.go_on.new.passed.items c.in_ok-next.next c.go_on.new.tokens (seen c.next_token-token.result) (left c.next_token-token.new.self) (c.text.ensures ∙ c.next_token-token.ensures.text) c.text.utf8
    c.in_ok-next.ensures.ahead c.in_ok-next.ensures.stands c.next_token-token.ensures.token in
    all_laid_out c.args.text.now (string_bytes c.finish.result) c.tokens.ahead.rest.now c.go_on.new.passed.items c.in_ok-next.next.rest.now c.split_at.result.0.now c.text.result.now (seen c.next_token-token.result) (left c.next_token-token.new.self)
    c.tokens.sheet c.push_ignored.new.sheet c.tokens.invariant.1 n (the_end c.next_token-token.result.kind (sym c.is_end.ensures ∙ c.if-is_end.true)) c.split_at.ensures.front c.in_ok-before.ensures.written c.finish.ensures.items

pub push_token-requires : goal.push_token-requires
push_token-requires c =
    next_spells c.in_ok-next.next.rest.now c.go_on.new.tokens (seen c.next_token-token.result) (left c.next_token-token.new.self) c.in_ok-next.ensures.stands c.next_token-token.ensures.token
    (not_fault c.next_token-token.result.kind (sym c.eq.ensures ∙ c.if-eq.false)) (not_end c.next_token-token.result.kind (sym c.is_end.ensures ∙ c.if-is_end.false))

pub split_at-requires-in-tokens : goal.split_at-requires-in-tokens
split_at-requires-in-tokens c =
    let n =
    next c.tokens.ahead.rest.now c.text.result.now c.go_on.new.passed.items c.in_ok-next.next c.go_on.new.tokens (seen c.next_token-token.result) (left c.next_token-token.new.self) (c.text.ensures ∙ c.next_token-token.ensures.text) c.text.utf8
    c.in_ok-next.ensures.ahead c.in_ok-next.ensures.stands c.next_token-token.ensures.token in
    boundary_after c.tokens.ahead.rest.now c.go_on.new.passed.items c.in_ok-next.next.rest.now c.split_at.result.1.now c.text.result.now (seen c.next_token-token.result) (left c.next_token-token.new.self) n c.split_at.ensures.back
    (not_fault c.next_token-token.result.kind (sym c.eq.ensures ∙ c.if-eq.false)) (not_end c.next_token-token.result.kind (sym c.is_end.ensures ∙ c.if-is_end.false))

pub tokens-smaller : goal.tokens-smaller
tokens-smaller c =
    let n =
    next c.tokens.ahead.rest.now c.text.result.now c.go_on.new.passed.items c.in_ok-next.next c.go_on.new.tokens (seen c.next_token-token.result) (left c.next_token-token.new.self) (c.text.ensures ∙ c.next_token-token.ensures.text) c.text.utf8
    c.in_ok-next.ensures.ahead c.in_ok-next.ensures.stands c.next_token-token.ensures.token in
    let r =
    one_read c.args.text.now c.tokens.ahead.rest.now c.go_on.new.passed.items c.in_ok-next.next.rest.now c.split_at.result.0.now c.split_at.result.1.now c.with_rest-ahead.result.rest.now c.text.result.now c.go_on.new.tokens c.next_token-token.new.self
    (seen c.next_token-token.result) c.tokens.sheet c.push_ignored.new.sheet c.push_token.new.sheet c.tokens.invariant.1 c.in_ok-next.ensures.stands c.text.ensures c.next_token-token.ensures.token n
    (not_fault c.next_token-token.result.kind (sym c.eq.ensures ∙ c.if-eq.false)) (not_end c.next_token-token.result.kind (sym c.is_end.ensures ∙ c.if-is_end.false)) c.split_at.ensures.front c.split_at.ensures.back
    (c.with_rest-ahead.ensures.rest ∙ c.split_at-in-tokens.ensures.back) c.in_ok-before.ensures.written (subst (λ (l : List Item). IsAdded (seen c.next_token-token.result).bare l c.push_token.new.sheet) c.begin_token.ensures c.in_ok-push_token.ensures) in
    r.shorter

pub tokens-preserved : goal.tokens-preserved
tokens-preserved c =
    let n =
    next c.tokens.ahead.rest.now c.text.result.now c.go_on.new.passed.items c.in_ok-next.next c.go_on.new.tokens (seen c.next_token-token.result) (left c.next_token-token.new.self) (c.text.ensures ∙ c.next_token-token.ensures.text) c.text.utf8
    c.in_ok-next.ensures.ahead c.in_ok-next.ensures.stands c.next_token-token.ensures.token in
    let r =
    one_read c.args.text.now c.tokens.ahead.rest.now c.go_on.new.passed.items c.in_ok-next.next.rest.now c.split_at.result.0.now c.split_at.result.1.now c.with_rest-ahead.result.rest.now c.text.result.now c.go_on.new.tokens c.next_token-token.new.self
    (seen c.next_token-token.result) c.tokens.sheet c.push_ignored.new.sheet c.push_token.new.sheet c.tokens.invariant.1 c.in_ok-next.ensures.stands c.text.ensures c.next_token-token.ensures.token n
    (not_fault c.next_token-token.result.kind (sym c.eq.ensures ∙ c.if-eq.false)) (not_end c.next_token-token.result.kind (sym c.is_end.ensures ∙ c.if-is_end.false)) c.split_at.ensures.front c.split_at.ensures.back
    (c.with_rest-ahead.ensures.rest ∙ c.split_at-in-tokens.ensures.back) c.in_ok-before.ensures.written (subst (λ (l : List Item). IsAdded (seen c.next_token-token.result).bare l c.push_token.new.sheet) c.begin_token.ensures c.in_ok-push_token.ensures) in
    let from = clear_after c.in_ok-next.next.hash _ c.in_ok-next.next.rest.now c.split_at.result.1.now c.in_ok-next.ensures.ahead.clear c.split_at.ensures.back in
    let rest = clear_after c.in_ok-next.next.hash _ c.split_at.result.1.now c.with_rest-ahead.result.rest.now from (c.with_rest-ahead.ensures.rest ∙ c.split_at-in-tokens.ensures.back) in
    (r.utf8, r.reads, r.stands, subst (λ (n : ℕ). IsClear n c.with_rest-ahead.result.rest.now) (sym c.with_rest-ahead.ensures.hash) rest, c.in_ok-before.ensures.none)
