use Rattle.std.proofs.Common.{◌≡◌, ℕ, List, refl, ap, sym, subst, ◌∙◌, inl, inr, arith}
use Rattle.graphql_memory.specs.Memory as memory
use Rattle.graphql_tokens.specs.declared.pos.Pos.{Pos}
use Rattle.graphql_tokens.specs.tokens.Token.{Token}
use Rattle.graphql_grammar.specs.reading.Errors.{IsErrorOf}
use Rattle.graphql_reading.specs.declared.parser.Refusal.{Refusal}
use Rattle.graphql_reading.specs.declared.parser.Refusal.TheVariants.{Memory}
use Rattle.graphql_reading.specs.reading.Ahead.{Ahead, tokens}
use Rattle.graphql_reading.specs.reading.Outcome.{Reader, whole_at}
use Rattle.graphql_reading.specs.reading.Given.{Refuses}
use Rattle.graphql_tokens.specs.tokens.Token.{left}
use Rattle.graphql_grammar.proofs.Bounds.{took-tree, took-none, left-after, err-same}
use Rattle.graphql_grammar.proofs.Answering.{Goes, goes-of, reads-document, reads-refusal, document-token, token-of-refusal}
use Rattle.graphql_grammar.proofs.Made.{is-made, refuses-made}
use Rattle.graphql_grammar.proofs.document.read_document.Given.{Over}
use Rattle.graphql_grammar.proofs.document.read_document.Goals as goal
use Rattle.graphql_grammar.proofs.document.read_document.Goals.{After-into_parts-left, In-Err}

-- the lexer before and after
went : (g : Over) (c : goal.After-into_parts-left g) → Goes c.args.tokens.now c.into_parts-left.result.0 c.new-parser.result c.read_all-read.new.parser
went g c =
    let begins = c.new-parser.ensures in
    let ends = c.into_parts-left.ensures in
    goes-of c.args.tokens.now c.replace.result c.into_parts-left.result.0 c.new-parser.result c.read_all-read.new.parser
    c.replace.ensures.value begins.left begins.ends begins.proper begins.text begins.whole begins.taken ends.left ends.text ends.whole ends.taken ends.within

-- ---- where there is a tree

pub returns-in-Ok-clause-reads : goal.returns-in-Ok-clause-reads
returns-in-Ok-clause-reads g c =
    let made = is-made g.K.Kept.sum (whole_at (g.K.Kept.reader c.args.limits) (tokens c.new-parser.result)) _ c.read_all-read.new.parser.after c.in-Ok.ensures.gives.0 in
    reads-document g.K.Kept.language g.K.Kept.reader c.requires.read c.args.limits c.args.tokens.now c.into_parts-left.result.0 c.new-parser.result c.read_all-read.new.parser
    (went g (goal.at.returns-in-Ok-clause-reads g c).After-into_parts-left) c.in-Ok.ensures.gives.1 made.tree _ made.is (c.into_document-answer.ensures.document made.tree made.made)

pub returns-in-Ok-clause-token : goal.returns-in-Ok-clause-token
returns-in-Ok-clause-token g c none =
    let made = is-made g.K.Kept.sum (whole_at (g.K.Kept.reader c.args.limits) (tokens c.new-parser.result)) _ c.read_all-read.new.parser.after c.in-Ok.ensures.gives.0 in
    document-token g.K.Kept.language c.args.limits (left c.args.tokens.now) made.tree _ c.args.refused.now (c.into_document-answer.ensures.document made.tree made.made) none

-- what the tokens cost, the parser's cost
costs : (g : Over) (c : goal.After-into_parts-left g) (most : ℕ) → g.K.Kept.Costs c.args.limits (left c.args.tokens.now) most → g.K.Kept.Costs c.args.limits (tokens c.new-parser.result) most
costs g c most = subst (λ (ts : List Token). g.K.Kept.Costs c.args.limits ts most) (sym (c.new-parser.ensures.left ∙ ap left c.replace.ensures.value))

pub settle-requires : goal.settle-requires
settle-requires g c =
    let less = left-after c.lend.result c.new-parser.result c.read_all-read.new.parser c.into_parts-left.result.1 c.into_document-answer.new.memory c.new-parser.ensures.memory c.read_all-read.ensures.lent c.into_parts-left.ensures.memory c.into_document-answer.ensures.takes.1 in
    omega (arith, less, c.lend.ensures)

pub returns-in-Ok-clause-taken : goal.returns-in-Ok-clause-taken
returns-in-Ok-clause-taken g c most cost =
    let took = took-tree c.lend.result c.new-parser.result c.read_all-read.new.parser c.into_parts-left.result.1 c.into_document-answer.new.memory most _ c.new-parser.ensures.memory (c.in-Ok.ensures.takes most (costs g (goal.at.returns-in-Ok-clause-taken g c).After-into_parts-left most cost)) c.into_parts-left.ensures.memory c.into_document-answer.ensures.takes in
    omega (arith, took, c.lend.ensures, c.settle.ensures.left)

pub returns-in-Ok-clause-lent : goal.returns-in-Ok-clause-lent
returns-in-Ok-clause-lent g c =
    let less = left-after c.lend.result c.new-parser.result c.read_all-read.new.parser c.into_parts-left.result.1 c.into_document-answer.new.memory c.new-parser.ensures.memory c.read_all-read.ensures.lent c.into_parts-left.ensures.memory c.into_document-answer.ensures.takes.1 in
    omega (arith, less, c.lend.ensures, c.settle.ensures.left)

pub returns-in-Ok-clause-refused : goal.returns-in-Ok-clause-refused
returns-in-Ok-clause-refused g c most cost is =
    let made = is-made g.K.Kept.sum (whole_at (g.K.Kept.reader c.args.limits) (tokens c.new-parser.result)) _ c.read_all-read.new.parser.after c.in-Ok.ensures.gives.0 in
    let took = took-tree c.lend.result c.new-parser.result c.read_all-read.new.parser c.into_parts-left.result.1 c.into_document-answer.new.memory most _ c.new-parser.ensures.memory (c.in-Ok.ensures.takes most (costs g (goal.at.returns-in-Ok-clause-refused g c).After-into_parts-left most cost)) c.into_parts-left.ensures.memory c.into_document-answer.ensures.takes in
    elim (c.settle.ensures.refused (c.into_document-answer.ensures.refused made.tree made.made is)) [ inl heap ↦ inl heap | inr less ↦ inr (omega (arith, took, c.lend.ensures, less)) ]

-- ---- where there is none

refused-here : (g : Over) (c : goal.In-Err g) → Refuses c.in-Err.refusal c.new-parser.result c.read_all-read.new.parser (whole_at (g.K.Kept.reader c.args.limits))
refused-here g c = refuses-made g.K.Kept.sum (whole_at (g.K.Kept.reader c.args.limits)) c.in-Err.refusal c.new-parser.result c.read_all-read.new.parser c.in-Err.ensures.gives.0

-- where memory was refused, it was so when the reader stopped
memory-refused : {Y : Type 0} (stop : Refusal) (old new : Ahead) (r : Reader Y) → Refuses stop old new r → stop ≡ Memory → memory.Refused new.memory
memory-refused stop old new r h is = subst (λ (s : Refusal). Refuses s old new r) is h

pub error_of-error-requires : goal.error_of-error-requires
error_of-error-requires g c is =
    subst memory.Refused (sym c.into_parts-left.ensures.memory)
    (memory-refused c.in-Err.refusal c.new-parser.result c.read_all-read.new.parser (whole_at (g.K.Kept.reader c.args.limits)) (refused-here g (goal.at.error_of-error-requires g c).In-Err) is)

pub returns-in-Err-clause-reads : goal.returns-in-Err-clause-reads
returns-in-Err-clause-reads g c =
    let place = ap (λ (t : Token). t.pos) c.hand-hand.ensures.token in
    reads-refusal g.K.Kept.language g.K.Kept.reader c.requires.read c.args.limits c.args.tokens.now c.into_parts-left.result.0 c.new-parser.result c.read_all-read.new.parser
    (went g (goal.at.returns-in-Err-clause-reads g c).After-into_parts-left) c.in-Err.ensures.gives.1 c.in-Err.refusal c.error_of-error.result (refused-here g (goal.at.returns-in-Err-clause-reads g c).In-Err)
    (subst (λ (p : Pos). IsErrorOf c.in-Err.refusal p c.error_of-error.result) place c.error_of-error.ensures.error)

pub returns-in-Err-clause-token : goal.returns-in-Err-clause-token
returns-in-Err-clause-token g c none =
    let place = ap (λ (t : Token). t.pos) c.hand-hand.ensures.token in
    token-of-refusal g.K.Kept.language g.K.Kept.reader c.requires.read c.args.limits c.args.tokens.now c.into_parts-left.result.0 c.new-parser.result c.read_all-read.new.parser
    (went g (goal.at.returns-in-Err-clause-token g c).After-into_parts-left) c.in-Err.refusal c.error_of-error.result c.hand-hand.result _ (refused-here g (goal.at.returns-in-Err-clause-token g c).In-Err)
    (subst (λ (p : Pos). IsErrorOf c.in-Err.refusal p c.error_of-error.result) place c.error_of-error.ensures.error) refl c.hand-hand.ensures.token

pub settle-requires-in-Err : goal.settle-requires-in-Err
settle-requires-in-Err g c =
    let less = left-after c.lend.result c.new-parser.result c.read_all-read.new.parser c.into_parts-left.result.1 c.error_of-error.new.memory c.new-parser.ensures.memory c.read_all-read.ensures.lent c.into_parts-left.ensures.memory c.error_of-error.ensures.takes.1 in
    omega (arith, less, c.lend.ensures)

pub returns-in-Err-clause-taken : goal.returns-in-Err-clause-taken
returns-in-Err-clause-taken g c most cost =
    let took = took-none c.lend.result c.new-parser.result c.read_all-read.new.parser c.into_parts-left.result.1 c.error_of-error.new.memory most c.new-parser.ensures.memory (c.in-Err.ensures.takes most (costs g (goal.at.returns-in-Err-clause-taken g c).After-into_parts-left most cost)) c.into_parts-left.ensures.memory c.error_of-error.ensures.takes in
    omega (arith, took, c.lend.ensures, c.settle-in-Err.ensures.left)

pub returns-in-Err-clause-lent : goal.returns-in-Err-clause-lent
returns-in-Err-clause-lent g c =
    let less = left-after c.lend.result c.new-parser.result c.read_all-read.new.parser c.into_parts-left.result.1 c.error_of-error.new.memory c.new-parser.ensures.memory c.read_all-read.ensures.lent c.into_parts-left.ensures.memory c.error_of-error.ensures.takes.1 in
    omega (arith, less, c.lend.ensures, c.settle-in-Err.ensures.left)

pub returns-in-Err-clause-refused : goal.returns-in-Err-clause-refused
returns-in-Err-clause-refused g c most cost is =
    let took = took-none c.lend.result c.new-parser.result c.read_all-read.new.parser c.into_parts-left.result.1 c.error_of-error.new.memory most c.new-parser.ensures.memory (c.in-Err.ensures.takes most (costs g (goal.at.returns-in-Err-clause-refused g c).After-into_parts-left most cost)) c.into_parts-left.ensures.memory c.error_of-error.ensures.takes in
    elim (c.settle-in-Err.ensures.refused (c.error_of-error.ensures.refused (err-same _ _ is))) [ inl heap ↦ inl heap | inr less ↦ inr (omega (arith, took, c.lend.ensures, less)) ]
