-- `some_bytes` makes a slice of the pointer to the bytes, which the `Lent` shares. Assumes `Logic`.
use Rattle.std.proofs.Common.{◌≡◌, ℕ, ◌+◌, List, [], ◌∷◌, ◌++◌, length, refl, sym, ap, ◌∙◌, w64}
use seplogic.Ra.Ura.{Ura}
use mir.Syntax.{ty_ptr}
use mir.Val.{Val, vptr, vint}
use base.Logic.{SProp, ent, emp, never}
use base.Fml.{ftrue, fat, feq, flft}
use prog.Wp.{WpFn}
use types.Logic.{Logic, sem}
use contract.Monad.{fact, fact_i}
use contract.Running.{tables}
use types.Kit.{‵, raw, ◌⊛◌, prop, at_ret, ◌$◌, ◌∵◌, !, qed, by, move, keep, drop, use0, split, join, regoal, rewrite, fsplit, fjoin, feq_i, feq_l}
use types.Part.{agg}
use types.Run.{load, look, stop, fld, of_opd, no_more, and_then, first, blocks, exec, returns, enter}
use types.ByLocal.{alloc_all, pass_all, free_all, look_at, get, through, sets, sets_last, env}
use denote.Builtin.{usize, RefOf}
use denote.Copied.{plain_Copied}
use denote.Exit.{yes}
use denote.Memory.{cell_at}
use denote.Opens.{hide, unhide}
use denote.RattleType.{owns}
use denote.RawPtr.{Ptr, RawPtr, ptr_val, coded_ptr, ptr_own, rawptr_pure, in_a_block}
use denote.Signature.{types_at, plain}
use denote.Slice.{slice_val}
use denote.Steps.{nothing, heard, looks, shuts}
use denote.Struct.Laws.{RawPtr-laws}
use denote.Triple.Walked.{Stays, stay_dropped, Goes-dropped, walk_of}
use Rattle.std.proofs.raw_atomic.Walks.{proved_at, leaves}
use Rattle.std.proofs.VecSteps.Shapes.{after}
use Rattle.graphql_parser_c.specs.Lending.{bytes_lie_at}
use Rattle.graphql_parser_c.specs.contracts.lending.Lent as lent
use Rattle.graphql_parser_c.specs.contracts.lending.Lent.some_bytes.{ended, clauses}
use Rattle.graphql_parser_c.specs.contracts.lending.Lent.some_bytes.Key.{name as key}
use Rattle.graphql_parser_c.proofs.lending.Lent.some_bytes.Statement.{statement}
use Rattle.graphql_parser_c.proofs.lending.Lent.some_bytes.Code as code

-- what has a byte isn't empty
no_byte : {M : Type 1} {𝓤 : Ura M} (𝓛 : Logic 𝓤) (bytes : List ℕ) (count : ℕ) → count ≡ length bytes → ¬ (count ≡ 0) → ent 𝓤 (sem 𝓛 (feq (List ℕ) bytes [])) (never 𝓤)
no_byte 𝓛 bytes count counted some = qed 𝓛 (‵ (feq (List ℕ) bytes []) ∷ []) ∵ feq_l ! (λ none. absurd (some (counted ∙ ap (λ (us : List ℕ). length us) none)))

pub some_bytes_spec : {M : Type 1} → statement M
some_bytes_spec 𝓤 𝓛 𝓜 𝓡 wired =
    let c = clauses 𝓛 𝓜.mem 𝓡.returns in
    let slot = RefOf (0 ∷ []) tt (plain (λ _. lent.the_row)) (λ _. tt) in
    let stays : Stays (ended).signature.params (ended).kept = (stay_dropped slot yes, (stay_dropped (plain (λ _. usize)) yes, tt)) in
    let 𝓣 = tables 𝓤 𝓛.H 𝓜 𝓡 𝓡.env in
    proved_at 𝓛 ended stays c 𝓜 𝓡 (Goes-dropped 𝓛 1 slot yes (λ κs x f. refl), (Goes-dropped 𝓛 1 (plain (λ _. usize)) yes (λ κs x f. refl), tt)) key code.function (code.unfolded 𝓤 𝓛.H 𝓜 𝓡 wired) (λ z are.
    let Post : Val → SProp 𝓤 = (walk_of 𝓛 ended stays c).post z in
    let κ = z.0.0.0 in let q = z.0.1.0 in let b = z.0.3.0.ref_ptr.0 in let o = z.0.3.0.ref_ptr.1 in let x = z.0.3.0.now in let n = z.0.3.1.0 in
    let p = x.start in let bytes = x.bytes in
    let Asked : Type 0 = (n ≡ length bytes) × (¬ (n ≡ 0)) in
    qed 𝓛 (((‵ (flft κ q) ⊛ ‵ ftrue) ⊛ ‵ (owns (types_at (ended).signature.params z.0.0) z.0.3 z.0.4)) ∷ raw (fact 𝓤 Asked) ∷ []) ∵
    move ! (1 ∷ []) $ heard ! Asked (λ asked. split ! $ split ! $ move ! (2 ∷ []) $ fsplit ! $ fsplit ! $ keep ! (1 ∷ 3 ∷ []) $
    -- [what is shared of the `Lent`; the token]
    regoal ! (λ (us : List Val). prop (WpFn 𝓤 𝓛.H 𝓣.C 𝓣.Λ code.function us Post)) (λ i. are.0.0 i ++ (are.1.0.0 i ++ [])) refl $
    enter ! 𝓣.C 𝓣.Λ code.function (vptr b o ∷ vint w64 n ∷ []) Post $ alloc_all ! (λ l. pass_all ! refl ((tt, tt), ((tt, record { fits = are.1.0.1 }), tt)) $
    unhide ! $ fsplit ! $ fsplit ! $ fsplit ! $ hide ! $ move ! (0 ∷ 4 ∷ []) $
    looks ! tt RawPtr (plain_Copied 𝓛 Ptr coded_ptr (ty_ptr ∷ []) ptr_own rawptr_pure ptr_val RawPtr-laws.tells).opens p b (o + 0) (λ s vs. move ! (1 ∷ []) $ feq_l ! (λ stored.
    rewrite ! 0 (λ (us : List Val). ‵ (cell_at s RawPtr.mir us b (o + 0))) stored refl $ move ! (2 ∷ []) $ drop ! $ move ! (4 ∷ []) $ fsplit ! $ move ! (1 ∷ []) $
    in_a_block ! p (λ r. bytes_lie_at r bytes κ) (no_byte 𝓛 bytes n asked.0 asked.1) (λ kb kc placed. hide ! $
    -- [the bytes; their room; the pointer's cell; the way to shut it]
    rewrite ! 2 (λ (r : Ptr). ‵ (fat s ty_ptr b (o + 0) (ptr_val r))) placed refl $
    first ! $ blocks ! $
    sets ! (of_opd ! (load ! (through ! refl (fld ! refl (stop !))) (look ! 2 refl))) refl (tt, tt) $
    sets_last ! (agg ! (and_then ! (get ! refl) (and_then ! (get ! refl) (no_more !)))) refl (tt, (tt, (record { fits = are.1.0.1 }, tt))) $
    exec ! 𝓣.C 𝓣.Λ (env (code.function).locals l) (after 1 (code.function).body) (at_ret (env (code.function).locals l) Post) $
    sets ! (of_opd ! (get ! refl)) refl (tt, (tt, (record { fits = are.1.0.1 }, tt))) $
    rewrite ! 2 (λ (r : Ptr). ‵ (fat s ty_ptr b (o + 0) (ptr_val r))) (sym placed) refl $ move ! (2 ∷ 3 ∷ []) $
    feq_i ! (List Val) (ptr_val p ∷ []) (ptr_val p ∷ []) refl $ move ! (1 ∷ 0 ∷ []) $ shuts ! tt RawPtr s p (ptr_val p ∷ []) b (o + 0) $
    returns ! (look_at ! 0 refl) $ free_all ! refl $ keep ! (2 ∷ 1 ∷ 0 ∷ []) $
    -- [the bytes' room; the bytes; the token]
    feq_i ! (List Val) (slice_val (kb, kc) n ∷ []) (slice_val (kb, kc) (length bytes) ∷ []) (ap (λ (m : ℕ). slice_val (kb, kc) m ∷ []) asked.0) $ fjoin ! $ fjoin ! $
    use0 𝓛 (raw (fact 𝓤 (bytes ≡ bytes))) (fact_i 𝓤 (bytes ≡ bytes) (emp 𝓤) refl) $ nothing ! $ nothing ! $ fjoin ! $ nothing ! $ fjoin ! $ nothing ! $ move ! (4 ∷ 0 ∷ []) $ join ! $
    move ! (0 ∷ 1 ∷ 3 ∷ 2 ∷ []) $ by ! (leaves 𝓛 ended stays c z (slice_val (kb, kc) n) (record { ref_ptr = (kb, kc); now = bytes }) (tt, (tt, tt)) (tt, (tt, tt)))))))))
