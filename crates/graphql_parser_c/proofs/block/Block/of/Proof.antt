-- `of` keeps what the slice lends for good. Assumes `Logic`.
use Rattle.std.proofs.Common.{◌≡◌, ℕ, ◌^◌, ◌<◌, List, [], ◌∷◌, ◌++◌, length, refl, Some}
use mir.Val.{Val}
use base.Logic.{SProp, emp}
use base.Fml.{ftrue}
use prog.Wp.{WpFn}
use contract.Monad.{fact, fact_i}
use contract.Running.{tables}
use types.Kit.{‵, raw, ◌⊛◌, prop, ◌$◌, ◌∵◌, !, qed, by, move, drop, use0, split, regoal, fsplit, fjoin, feq_i}
use types.Part.{whole, sub, agg}
use types.Run.{stop, fld, hop, from, addr, of_opd, no_more, and_then, returns, enter}
use types.ByLocal.{alloc_all, pass_all, free_all, look_at, look_in_at, get, get_in, sets}
use denote.Builtin.{u8, SliceRefOf}
use denote.Exit.{yes}
use denote.RattleType.{owns}
use denote.RawPtr.{block_ptr}
use denote.Signature.{types_at, plain}
use denote.Slice.{slice_val}
use denote.Steps.{nothing}
use denote.Triple.Entry.{alive}
use denote.Triple.Walked.{Stays, stay_dropped, Goes-dropped, walk_of}
use Rattle.std.proofs.raw_atomic.Walks.{proved_at, leaves}
use Rattle.graphql_parser_c.proofs.Blocks.{stored, fields_own, fields_made, is_stored}
use Rattle.graphql_parser_c.specs.contracts.block.Block.{the_row as row}
use Rattle.graphql_parser_c.specs.contracts.block.Block.of.{ended, clauses}
use Rattle.graphql_parser_c.specs.contracts.block.Block.of.Key.{name as key}
use Rattle.graphql_parser_c.proofs.block.Block.of.Statement.{statement}
use Rattle.graphql_parser_c.proofs.block.Block.of.Code as code

pub of_spec : {M : Type 1} → statement M
of_spec 𝓤 𝓛 𝓜 𝓡 wired =
    let c = clauses 𝓛 𝓜.mem 𝓡.returns in
    let slot = SliceRefOf {n = 0} [] tt (plain (λ _. u8)) (λ _. tt) in
    let stays : Stays (ended).signature.params (ended).kept = (stay_dropped slot yes, tt) in
    let 𝓣 = tables 𝓤 𝓛.H 𝓜 𝓡 𝓡.env in
    proved_at 𝓛 ended stays c 𝓜 𝓡 (Goes-dropped 𝓛 0 slot yes (λ κs x f. refl), tt) key code.function (code.unfolded 𝓤 𝓛.H 𝓜 𝓡 wired) (λ z are.
    let Post : Val → SProp 𝓤 = (walk_of 𝓛 ended stays c).post z in
    let s = z.0.3.0 in
    let b = s.ref_ptr.0 in let o = s.ref_ptr.1 in let n = length s.now in
    let fits : n < 2 ^ 64 = are.0.0.1.0 in
    let x : (row).Denot = record { start = block_ptr b o; length = n; text = Some s.now } in
    let Told : Type 0 = x.text ≡ Some s.now in
    qed 𝓛 ((raw (alive 𝓛 (ended).signature z.0.0 z.0.1) ⊛ ‵ (owns (types_at (ended).signature.params z.0.0) z.0.3 z.0.4)) ∷ ‵ ftrue ∷ []) ∵ move ! (1 ∷ []) $ drop ! $ split ! $ move ! (1 ∷ []) $
    fsplit ! $ fsplit ! $ drop ! $ move ! (1 ∷ []) $ drop ! $
    -- [what the slice lends; the tokens]
    regoal ! (λ (us : List Val). prop (WpFn 𝓤 𝓛.H 𝓣.C 𝓣.Λ code.function us Post)) (λ i. are.0.0.0 i ++ []) refl $
    enter ! 𝓣.C 𝓣.Λ code.function (slice_val (b, o) n ∷ []) Post $ alloc_all ! (λ l. pass_all ! refl ((tt, (tt, (record { fits = fits }, tt))), tt) $
    sets ! (addr ! (from ! (fld ! refl (hop ! (look_in_at ! 1 (sub ! 0 refl (whole !))) (stop !))))) refl (tt, tt) $
    sets ! (of_opd ! (get_in ! (fld ! refl (stop !)) (sub ! 1 refl (whole !)))) refl (tt, record { fits = fits }) $
    sets ! (agg ! (and_then ! (get ! refl) (and_then ! (get ! refl) (no_more !)))) refl (is_stored (block_ptr b o) n fits) $
    returns ! (look_at ! 0 refl) $ free_all ! refl $
    feq_i ! ℕ n n refl $ fjoin ! $ use0 𝓛 (‵ (fields_own (block_ptr b o) n (stored (block_ptr b o) n ∷ []))) (fields_made 𝓛 (block_ptr b o) n fits) $ fjoin ! $
    use0 𝓛 (raw (fact 𝓤 Told)) (fact_i 𝓤 Told (emp 𝓤) refl) $ nothing ! $ nothing ! $ fjoin ! $ move ! (3 ∷ 0 ∷ 2 ∷ 1 ∷ []) $
    by ! (leaves 𝓛 ended stays c z (stored (block_ptr b o) n) x (tt, tt) (tt, tt))))
