-- `nothing` is made of two numbers. Assumes `Logic`.
use Rattle.std.proofs.Common.{◌≡◌, [], ◌∷◌, refl, lit<, None}
use mir.Val.{Val}
use base.Logic.{SProp, emp}
use base.Fml.{ftrue}
use contract.Monad.{fact, fact_i}
use contract.Running.{tables}
use types.Kit.{‵, raw, ◌⊛◌, ◌$◌, ◌∵◌, !, qed, by, move, drop, use0, split, fjoin}
use types.Part.{agg}
use types.Run.{lit, no_more, and_then, returns, enter}
use types.ByLocal.{alloc_all, pass_all, free_all, look_at, sets}
use denote.RattleType.{owns}
use denote.RawPtr.{null_ptr}
use denote.Signature.{types_at}
use denote.Steps.{nothing}
use denote.Triple.Entry.{alive}
use denote.Triple.Walked.{Stays, walk_of}
use Rattle.std.proofs.raw_atomic.Walks.{proved_at, leaves}
use Rattle.graphql_parser_c.proofs.Blocks.{stored, fields_own, fields_made, is_stored}
use Rattle.graphql_parser_c.specs.contracts.block.Block.{the_row as row}
use Rattle.graphql_parser_c.specs.contracts.block.Block.nothing.{ended, clauses}
use Rattle.graphql_parser_c.specs.contracts.block.Block.nothing.Key.{name as key}
use Rattle.graphql_parser_c.proofs.block.Block.nothing.Statement.{statement}
use Rattle.graphql_parser_c.proofs.block.Block.nothing.Code as code

pub nothing_spec : {M : Type 1} → statement M
nothing_spec 𝓤 𝓛 𝓜 𝓡 wired =
    let c = clauses 𝓛 𝓜.mem 𝓡.returns in
    let stays : Stays (ended).signature.params (ended).kept = tt in
    let 𝓣 = tables 𝓤 𝓛.H 𝓜 𝓡 𝓡.env in
    proved_at 𝓛 ended stays c 𝓜 𝓡 tt key code.function (code.unfolded 𝓤 𝓛.H 𝓜 𝓡 wired) (λ z are.
    let Post : Val → SProp 𝓤 = (walk_of 𝓛 ended stays c).post z in
    let x : (row).Denot = record { start = null_ptr; length = 0; text = None } in
    let Told : Type 0 = (x.start ≡ null_ptr) × (x.length ≡ 0) in
    qed 𝓛 ((raw (alive 𝓛 (ended).signature z.0.0 z.0.1) ⊛ ‵ (owns (types_at (ended).signature.params z.0.0) z.0.3 z.0.4)) ∷ ‵ ftrue ∷ []) ∵ move ! (1 ∷ []) $ drop ! $ split ! $
    enter ! 𝓣.C 𝓣.Λ code.function [] Post $ alloc_all ! (λ l. pass_all ! refl tt $
    sets ! (agg ! (and_then ! (lit ! tt) (and_then ! (lit ! tt) (no_more !)))) refl (is_stored null_ptr 0 (lit< tt)) $
    returns ! (look_at ! 0 refl) $ free_all ! refl $
    nothing ! $ use0 𝓛 (‵ (fields_own null_ptr 0 (stored null_ptr 0 ∷ []))) (fields_made 𝓛 null_ptr 0 (lit< tt)) $ fjoin ! $
    use0 𝓛 (raw (fact 𝓤 Told)) (fact_i 𝓤 Told (emp 𝓤) (refl, refl)) $ move ! (2 ∷ 3 ∷ 1 ∷ 0 ∷ []) $
    by ! (leaves 𝓛 ended stays c z (stored null_ptr 0) x tt tt)))
