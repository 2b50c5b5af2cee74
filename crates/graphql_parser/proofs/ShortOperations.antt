-- A query in its short form stands where its set does, at its `{`.
use Rattle.std.proofs.Common.{◌≡◌, ℕ, zero, suc, Bool, true, false, cond, None, Some, List, ◌∷◌, sym, ap, ◌∙◌}
use Rattle.graphql_tokens.specs.declared.pos.Pos.{Pos}
use Rattle.graphql_tokens.specs.declared.pos.Positioned.{Positioned}
use Rattle.graphql_tokens.specs.tokens.Token.{Token}
use Rattle.graphql_trees.specs.trees.Request.{Selection}
use Rattle.graphql_parser.specs.Checked.{rest_of}
use Rattle.graphql_parser.specs.RequestHeads.{operation_head, head_of}
use Rattle.graphql_parser.proofs.Rests.{is-read}
use Rattle.graphql_reading.specs.grammar.Fronts.{syntax}
use Rattle.graphql_reading.specs.grammar.Limits.{Limits}
use Rattle.graphql_reading.specs.grammar.Tests.{punct}
use Rattle.graphql_reading.specs.reading.Outcome.{Outcome, Read, Refused, ◌>>=◌, Reader, one_at, then_at, mapped_at, plus_at, deep_at}
use Rattle.graphql_requests.specs.grammar.Request.{query_of}
use Rattle.graphql_requests.specs.grammar.Selections.{Set, selection_set_of}
use Rattle.graphql_requests.specs.reading.Request.{own_set_at, short_operation_at}
use Rattle.graphql_requests.specs.reading.Selections.{a_set_at, selection_first, selection_at, selection_set_at, inline_at, inline_first}

tree-is : (x y : Set) (us vs : List Token) → Read x us ≡ Read y vs → x ≡ y
tree-is x y us vs e = cc

set-place : (selection : Reader (Positioned Selection)) (t : Token) (ts rest : List Token) (set : Set) → a_set_at selection (t ∷ ts) ≡ Read set rest → set.pos ≡ t.pos
set-place selection t ts rest set = go (punct "{" t.bare)
  where
    more : Reader (List (Positioned Selection) × Token)
    more = then_at (plus_at selection_first selection) (one_at (punct "}"))

    inside : (o : Outcome (List (Positioned Selection) × Token)) → ((o >>= λ x rest. Read (t, x) rest) >>= λ x rest. Read (selection_set_of x) rest) ≡ Read set rest → set.pos ≡ t.pos
    inside (Read x rest') e = ap (λ (s : Set). s.pos) (sym (tree-is (selection_set_of (t, x)) set rest' rest e))
    inside (Refused v rest') e = absurd cc

    go : (w : Bool) → ((cond w (Read t ts) (Refused syntax (t ∷ ts)) >>= λ t rest. more rest >>= λ x rest'. Read (t, x) rest') >>= λ x rest. Read (selection_set_of x) rest) ≡ Read set rest → set.pos ≡ t.pos
    go true e = inside (more ts) e
    go false e = absurd cc

own-set-place : (values selections : ℕ) (t : Token) (ts rest : List Token) (set : Set) → selection_set_at values selections (t ∷ ts) ≡ Read set rest → set.pos ≡ t.pos
unfolding selection_set_at
own-set-place values zero t ts rest set e = set-place (selection_at values (deep_at (punct "{")) (deep_at inline_first)) t ts rest set e
own-set-place values (suc s) t ts rest set e = set-place (selection_at values (selection_set_at values s) (inline_at values (selection_set_at values s))) t ts rest set e

pub short-head : (limits : Limits) (t : Token) (ts rest : List Token) (place : Pos) → place ≡ t.pos → rest_of (own_set_at limits (t ∷ ts)) ≡ Some rest → mapped_at head_of (short_operation_at limits) (t ∷ ts) ≡ Read (operation_head None place) rest
short-head limits t ts rest place here e =
    let m = is-read (own_set_at limits (t ∷ ts)) rest e in
    ap (λ (o : Outcome Set). (o >>= λ set rest. Read (query_of set) rest) >>= λ d rest. Read (head_of d) rest) m.is
    ∙ ap (λ (place : Pos). Read (operation_head None place) rest) (own-set-place limits.values limits.selections t ts rest m.tree m.is ∙ sym here)
