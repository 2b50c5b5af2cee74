-- `lent` takes a text apart, and what it owns moves on. Assumes `Logic`.
use Rattle.std.proofs.Common.{◌≡◌, List, [], ◌∷◌, ◌++◌, length, refl, w64}
use mir.Syntax.{ty_int, ty_ptr, ty_struct, tcons, tnil}
use mir.Val.{Val, vint}
use base.Logic.{SProp, emp}
use base.Fml.{ftrue}
use prog.Wp.{WpFn}
use contract.Monad.{fact, fact_i}
use contract.Running.{tables}
use types.Kit.{‵, raw, ◌⊛◌, prop, ◌$◌, ◌∵◌, !, qed, by, move, drop, use0, use2, split, regoal, fsplit, fjoin, feq_l}
use types.Part.{whole, sub, agg}
use types.Run.{stop, fld, of_opd, no_more, and_then, returns, enter}
use types.ByLocal.{alloc_all, pass_all, free_all, look_at, get, get_in, sets}
use denote.Builtin.{usize}
use denote.RattleType.{owns}
use denote.Signature.{types_at, plain}
use denote.Plain.{uint_Makes}
use denote.Steps.{nothing, owned}
use denote.Struct.Tuple.{Tuple}
use denote.Triple.Entry.{alive}
use denote.Triple.Walked.{Stays, stay_dropped, Goes-dropped, walk_of}
use Rattle.std.proofs.raw_atomic.Walks.{proved_at, leaves}
use Rattle.graphql_parser_c.proofs.Words.{pointer_good, one_val, one_owns, one_made, one_good, two_val, two_told, two_good, pair_val, pair_good, pair_made}
use Rattle.graphql_parser_c.specs.contracts.lending.Lent as lent
use Rattle.graphql_parser_c.specs.contracts.lending.Text as text
use Rattle.graphql_parser_c.specs.contracts.lending.Text.lent.{ended, clauses}
use Rattle.graphql_parser_c.specs.contracts.lending.Text.lent.Key.{name as key}
use Rattle.graphql_parser_c.proofs.lending.Text.lent.Statement.{statement}
use Rattle.graphql_parser_c.proofs.lending.Text.lent.Code as code

pub lent_spec : {M : Type 1} → statement M
lent_spec 𝓤 𝓛 𝓜 𝓡 wired =
    let c = clauses 𝓛 𝓜.mem 𝓡.returns in
    let slot = plain (λ _. text.the_row) in
    let stays : Stays (ended).signature.params (ended).kept = (stay_dropped slot (ended).kept.0, tt) in
    let 𝓣 = tables 𝓤 𝓛.H 𝓜 𝓡 𝓡.env in
    proved_at 𝓛 ended stays c 𝓜 𝓡 (Goes-dropped 𝓛 0 slot (ended).kept.0 (λ κs x f. refl), tt) key code.function (code.unfolded 𝓤 𝓛.H 𝓜 𝓡 wired) (λ z are.
    let Post : Val → SProp 𝓤 = (walk_of 𝓛 ended stays c).post z in
    let x = z.0.3.0 in let p = x.start in let n = x.length in
    let told = two_told p n z.0.4.0 are.0.0 in
    let y : (lent.the_row).Denot = record { start = p; bytes = x.bytes; life = x.life } in
    let v : Val = pair_val (one_val p) (vint w64 n) in
    let Told : Type 0 = (x.bytes ≡ x.bytes) × (x.life ≡ x.life) × (n ≡ length x.bytes) in
    qed 𝓛 ((raw (alive 𝓛 (ended).signature z.0.0 z.0.1) ⊛ ‵ (owns (types_at (ended).signature.params z.0.0) z.0.3 z.0.4)) ∷ ‵ ftrue ∷ []) ∵
    move ! (1 ∷ []) $ drop ! $ split ! $ move ! (1 ∷ []) $ fsplit ! $ fsplit ! $ drop ! $ move ! (1 ∷ []) $ drop ! $ fsplit ! $ feq_l ! (λ counted.
    -- [what is lent; the tokens]
    regoal ! (λ (us : List Val). prop (WpFn 𝓤 𝓛.H 𝓣.C 𝓣.Λ code.function us Post)) (λ i. told.0 i ++ []) refl $
    enter ! 𝓣.C 𝓣.Λ code.function (two_val p n ∷ []) Post $ alloc_all ! (λ l. pass_all ! refl (two_good p n told.1, tt) $
    sets ! (of_opd ! (get_in ! (fld ! refl (stop !)) (sub ! 0 refl (whole !)))) refl (pointer_good p) $
    sets ! (of_opd ! (get_in ! (fld ! refl (stop !)) (sub ! 1 refl (whole !)))) refl (tt, record { fits = told.1 }) $
    sets ! (agg ! (and_then ! (get ! refl) (no_more !))) refl (one_good p) $
    sets ! (agg ! (and_then ! (get ! refl) (and_then ! (get ! refl) (no_more !)))) refl (pair_good (ty_struct [] (tcons ty_ptr tnil)) (ty_int w64) (one_val p) (vint w64 n) (one_good p) (tt, record { fits = told.1 })) $
    returns ! (look_at ! 0 refl) $ free_all ! refl $
    use0 𝓛 (‵ (one_owns p (one_val p ∷ []))) (one_made 𝓛 p) $ fjoin ! $ owned ! usize _ (uint_Makes 𝓛 w64) n _ (refl, told.1) $ move ! (1 ∷ 0 ∷ []) $
    use2 𝓛 (‵ ((Tuple (lent.the_row ∷ usize ∷ [])).own_val (y, n) (v ∷ []))) (pair_made 𝓛 lent.the_row usize y n (one_val p) (vint w64 n)) $
    use0 𝓛 (raw (fact 𝓤 Told)) (fact_i 𝓤 Told (emp 𝓤) (refl, refl, counted)) $ nothing ! $ nothing ! $ fjoin ! $
    move ! (3 ∷ 0 ∷ 2 ∷ 1 ∷ []) $ by ! (leaves 𝓛 ended stays c z v (y, n) (tt, tt) (tt, tt)))))
