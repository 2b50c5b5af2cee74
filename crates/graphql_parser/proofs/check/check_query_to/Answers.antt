use Rattle.std.proofs.Common.{List, refl, sym, arith, ap, inl, inr, subst}
use Rattle.graphql_grammar.specs.answers.Answers.{TokenFor}
use Rattle.graphql_parser.specs.OneDefinition.{FirstStandsAlone}
use Rattle.graphql_grammar.proofs.Bounds.{text-bound, token-bound}
use Rattle.graphql_tokens.specs.tokens.Token.{Token, left}
use Rattle.graphql_reading.specs.reading.Worth.{worth}
use Rattle.graphql_grammar.proofs.Languages.{reads-text}
use Rattle.graphql_requests.specs.grammar.Requests.{requests}
use Rattle.graphql_requests.specs.reading.Request.{definitions_at}
use Rattle.graphql_parser.specs.Checking.{checked}
use Rattle.graphql_parser.proofs.Checking.{text-as-parsed}
use Rattle.graphql_parser.proofs.RequestHeads.{ends-some, checks-are-read, checks-read-by}
use Rattle.graphql_parser.proofs.check.check_query_to.Goals as goal

pub read_document-answer-requires : goal.read_document-answer-requires
read_document-answer-requires c k = ((refl, tt), (ends-some (left c.new-tokens.result) c.new-tokens.ensures.ends, checks-read-by))

pub returns-clause-reads : goal.returns-clause-reads
returns-clause-reads c = reads-text (checked requests) definitions_at checks-are-read c.args.limits c.args.text.now c.new-tokens.result _ _ c.new-tokens.ensures.cut c.new-tokens.ensures.only c.new-tokens.ensures.former c.read_document-answer.ensures.reads

pub returns-clause-as_parsed : goal.returns-clause-as_parsed
returns-clause-as_parsed c = text-as-parsed requests c.args.limits c.args.text.now c.read_document-answer.result (reads-text (checked requests) definitions_at checks-are-read c.args.limits c.args.text.now c.new-tokens.result _ _ c.new-tokens.ensures.cut c.new-tokens.ensures.only c.new-tokens.ensures.former c.read_document-answer.ensures.reads)

pub returns-clause-taken : goal.returns-clause-taken
returns-clause-taken c = omega (arith, c.read_document-answer.ensures.taken _ (inl refl), text-bound c.args.text.now _ c.utf8.text c.new-tokens.ensures.cut)

pub returns-clause-refused : goal.returns-clause-refused
returns-clause-refused c is = elim (c.read_document-answer.ensures.refused _ (inl refl) is) [ inl heap ↦ inl heap | inr less ↦ inr (omega (arith, less, text-bound c.args.text.now _ c.utf8.text c.new-tokens.ensures.cut)) ]

pub returns-clause-by_tokens : goal.returns-clause-by_tokens
returns-clause-by_tokens c ts cut =
    let paid = token-bound c.args.text.now ts c.utf8.text cut in
    let same = ap worth (c.new-tokens.ensures.only ts cut) in
    (omega (arith, c.read_document-answer.ensures.taken _ (inl refl), paid, same), λ is. elim (c.read_document-answer.ensures.refused _ (inl refl) is) [ inl heap ↦ inl heap | inr less ↦ inr (omega (arith, less, paid, same)) ])

pub returns-clause-alone : goal.returns-clause-alone
returns-clause-alone c ts cut alone =
    let stands = subst (FirstStandsAlone c.args.limits) (c.new-tokens.ensures.only ts cut) alone in
    (omega (arith, c.read_document-answer.ensures.taken 0 (inr (stands, refl))), λ is. elim (c.read_document-answer.ensures.refused 0 (inr (stands, refl)) is) [ inl heap ↦ inl heap | inr less ↦ inr (omega (arith, less)) ])

pub returns-clause-token : goal.returns-clause-token
returns-clause-token c ts cut = subst (λ (l : List Token). TokenFor (checked requests) c.args.limits l c.read_document-answer.result c.read_document-answer.new.refused) (sym (c.new-tokens.ensures.only ts cut)) (c.read_document-answer.ensures.token refl)
