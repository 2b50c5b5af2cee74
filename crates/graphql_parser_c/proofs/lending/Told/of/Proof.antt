-- `of` writes the places where there is room for them, and what was lent moves on. Assumes `Logic`.
use Rattle.std.proofs.Common.{◌≡◌, ℕ, List, [], ◌∷◌, ◌++◌, refl, sym, ap, ◌∙◌, subst, lit<, w32}
use seplogic.Ra.Ura.{Ura}
use base.Fraction.{full_share}
use mir.Val.{Val, vint}
use base.Logic.{SProp, emp}
use base.Fml.{ftrue, fat, flft}
use prog.Wp.{Env, WpFn}
use types.Logic.{Logic}
use contract.Monad.{fact, fact_i}
use contract.Running.{tables}
use types.Kit.{Item, Goal, Seq, Sq, ‵, raw, ◌⊛◌, some, prop, at_ret, ◌$◌, ◌∵◌, !, qed, by, move, keep, drop, use0, use1, use2, split, pick, regoal, rewrite, fsplit, fjoin, fpick}
use types.Part.{whole, sub, agg}
use types.Run.{stop, fld, store, bin, un, lit, of_opd, no_more, and_then, assigns_last, first, blocks, branches, skips, exec, returns, enter}
use types.ByLocal.{alloc_all, pass_all, free_all, look_at, get, get_in, through, sets, env}
use denote.Builtin.{u32}
use denote.Laws.{Typed}
use denote.Memory.{lone, part_at}
use denote.RattleType.{owns}
use denote.RawPtr.{Ptr, block_ptr, null_ptr, Testable, tests_null}
use denote.Signature.{types_at, plain}
use denote.Steps.{nothing}
use denote.Triple.Entry.{alive}
use denote.Triple.Walked.{Stays, stay_dropped, Goes-dropped, walk_of}
use borrow.Table.OneValue.{part_in, part_out}
use Rattle.std.proofs.raw_atomic.Walks.{proved_at, leaves}
use Rattle.std.proofs.VecSteps.Shapes.{after}
use Rattle.graphql_parser_c.proofs.Words.{pointer_good, one_val, one_told, one_good, number_val, number_owns, number_made}
use Rattle.graphql_parser_c.proofs.telling.Places.TheLaws.{lowers, lowered, the_row_laws}
use Rattle.graphql_parser_c.specs.Lending.{places_lie_at}
use Rattle.graphql_parser_c.specs.declared.telling.Places.{Places}
use Rattle.graphql_parser_c.specs.contracts.lending.Lent as lent
use Rattle.graphql_parser_c.specs.contracts.telling.Places as places
use Rattle.graphql_parser_c.specs.contracts.lending.Room as room
use Rattle.graphql_parser_c.specs.contracts.lending.Told as told
use Rattle.graphql_parser_c.specs.contracts.lending.Told.of.{ended, clauses}
use Rattle.graphql_parser_c.specs.contracts.lending.Told.of.Key.{name as key}
use Rattle.graphql_parser_c.proofs.lending.Told.of.Statement.{statement}
use Rattle.graphql_parser_c.proofs.lending.Told.of.Code as code

-- by the pointer's form
either_place : {M : Type 1} {𝓤 : Ura M} {𝓛 : Logic 𝓤} {K : Type 0} {Γ : List (Item 𝓤)} {G : Goal 𝓤 𝓛.H} → K → (at : Ptr) (held : Places)
    → (at ≡ null_ptr → Seq K 𝓛 Γ G) → ((b o : ℕ) → at ≡ block_ptr b o → Seq K 𝓛 (‵ (part_at places.the_row full_share held b o) ∷ Γ) G) → Seq K 𝓛 (‵ (places_lie_at at held) ∷ Γ) G
either_place t null_ptr held none one = drop t $ none refl
either_place t (block_ptr b o) held none one = one b o refl

pub of_spec : {M : Type 1} → statement M
of_spec 𝓤 𝓛 𝓜 𝓡 wired =
    let c = clauses 𝓛 𝓜.mem 𝓡.returns in
    let kept = (ended).kept in
    let stays : Stays (ended).signature.params kept =
    (stay_dropped (plain (λ _. u32)) kept.0, (stay_dropped (plain (λ _. places.the_row)) kept.1.0, (stay_dropped (plain (λ _. room.the_row)) kept.1.1.0, (stay_dropped (plain (λ _. lent.the_row)) kept.1.1.1.0, tt)))) in
    let 𝓣 = tables 𝓤 𝓛.H 𝓜 𝓡 𝓡.env in
    proved_at 𝓛 ended stays c 𝓜 𝓡 (
      Goes-dropped 𝓛 0 (plain (λ _. u32)) kept.0 (λ κs x f. refl),
      (
        Goes-dropped 𝓛 0 (plain (λ _. places.the_row)) kept.1.0 (λ κs x f. refl),
        (Goes-dropped 𝓛 0 (plain (λ _. room.the_row)) kept.1.1.0 (λ κs x f. refl), (Goes-dropped 𝓛 0 (plain (λ _. lent.the_row)) kept.1.1.1.0 (λ κs x f. refl), tt)),
      ),
    )
    key code.function (code.unfolded 𝓤 𝓛.H 𝓜 𝓡 wired) (λ z are.
    let Post : Val → SProp 𝓤 = (walk_of 𝓛 ended stays c).post z in
    let n = z.0.3.0 in let new = z.0.3.1.0 in let at = z.0.3.1.1.0.at in let from = z.0.3.1.1.1.0 in
    let word : Val = lowered new in
    let is_word = lowers.val_is new z.0.4.1.0 are.1.0 in
    let good = (subst (Typed (places.the_row).mir) is_word ((the_row_laws.lawful 𝓛).typed new z.0.4.1.0 are.1.0)).0 in
    let at_told = one_told at z.0.4.1.1.0 are.1.1.0.0 in
    let from_told = one_told from.start z.0.4.1.1.1.0 are.1.1.1.0.0 in
    let fits = are.0.1 in
    let x : (told.the_row).Denot = record { number = n; life = from.life; at = at; places = new } in
    let v : Val = number_val n in
    let Told : Type 0 = (n ≡ n) × (new ≡ new) × (at ≡ at) × (from.life ≡ from.life) in
    -- [the places; the token; the tokens of the call]
    let out : Sq 𝓛 (‵ (places_lie_at at new) ∷ ‵ (flft (from.life ∷ []) full_share) ∷ raw (alive 𝓛 (ended).signature z.0.0 z.0.1) ∷ []) (prop (Post v)) =
    move ! (1 ∷ 0 ∷ []) $ fjoin ! $ use0 𝓛 (‵ (number_owns n (v ∷ []))) (number_made 𝓛 n fits) $ fjoin ! $
    use0 𝓛 (raw (fact 𝓤 Told)) (fact_i 𝓤 Told (emp 𝓤) (refl, refl, refl, refl)) $
    nothing ! $ nothing ! $ fjoin ! $ nothing ! $ fjoin ! $ nothing ! $ fjoin ! $ nothing ! $ fjoin ! $
    move ! (3 ∷ 0 ∷ 2 ∷ 1 ∷ []) $ by ! (leaves 𝓛 ended stays c z v x (tt, (tt, (tt, (tt, tt)))) (tt, (tt, (tt, (tt, tt))))) in
    qed 𝓛 ((raw (alive 𝓛 (ended).signature z.0.0 z.0.1) ⊛ ‵ (owns (types_at (ended).signature.params z.0.0) z.0.3 z.0.4)) ∷ ‵ ftrue ∷ []) ∵
    move ! (1 ∷ []) $ drop ! $ split ! $ move ! (1 ∷ []) $ fsplit ! $ drop ! $ fsplit ! $ move ! (1 ∷ []) $ fsplit ! $ fsplit ! $ drop ! $ move ! (1 ∷ []) $ fsplit ! $ fsplit ! $ drop ! $ fsplit ! $
    -- [the token; the bytes; nothing; the room; the places' value; the tokens of the call]
    keep ! (3 ∷ 0 ∷ 4 ∷ 5 ∷ []) $ fsplit ! $ fpick ! (λ may. drop ! $ fpick ! (λ old.
    rewrite ! 2 (λ (us : List Val). ‵ ((places.the_row).own_val new us)) is_word refl $
    either_place ! at old
    (λ none. regoal ! (λ (us : List Val). prop (WpFn 𝓤 𝓛.H 𝓣.C 𝓣.Λ code.function us Post)) (λ i. are.0.0 i ++ (is_word i ++ ((at_told ∙ ap (λ (r : Ptr). one_val r ∷ []) none) i ++ (from_told i ++ [])))) refl $
    enter ! 𝓣.C 𝓣.Λ code.function (vint w32 n ∷ word ∷ one_val null_ptr ∷ one_val from.start ∷ []) Post $
    alloc_all ! (λ l. pass_all ! refl ((tt, record { fits = fits }), (good, (one_good null_ptr, (one_good from.start, tt)))) $ let Ev : Env 𝓤 𝓛.H = env (code.function).locals l in
    sets ! (of_opd ! (get_in ! (fld ! refl (stop !)) (sub ! 0 refl (whole !)))) refl (pointer_good null_ptr) $
    sets ! (bin ! (get ! refl) (lit ! tt) (tests_null null_ptr (lit< tt))) refl (tt, tt) $
    sets ! (un ! (get ! refl) tt) refl (tt, tt) $
    first ! $ branches ! (get ! refl) (λ wrong. absurd wrong)
    (λ _. skips ! $ exec ! 𝓣.C 𝓣.Λ Ev (after 4 (code.function).body) (at_ret Ev Post) $
    sets ! (agg ! (and_then ! (get ! refl) (no_more !))) refl (tt, (record { fits = fits }, tt)) $
    returns ! (look_at ! 0 refl) $ free_all ! refl $ keep ! (0 ∷ 2 ∷ []) $ nothing ! $ rewrite ! 0 (λ (r : Ptr). ‵ (places_lie_at r new)) (sym none) refl $ out)))
    (λ b o found.
    use1 𝓛 (some (λ (w : Val). ‵ (fat full_share (lone (places.the_row).mir) b o w) ⊛ ‵ ((places.the_row).own_val old (w ∷ [])))) (part_out 𝓛 places.the_row refl full_share old b o) $ pick ! (λ w. split ! $ move ! (1 ∷ []) $ drop ! $
    -- [the places' cell; the token; the places' value; the tokens of the call]
    regoal ! (λ (us : List Val). prop (WpFn 𝓤 𝓛.H 𝓣.C 𝓣.Λ code.function us Post)) (λ i. are.0.0 i ++ (is_word i ++ ((at_told ∙ ap (λ (r : Ptr). one_val r ∷ []) found) i ++ (from_told i ++ [])))) refl $
    enter ! 𝓣.C 𝓣.Λ code.function (vint w32 n ∷ word ∷ one_val (block_ptr b o) ∷ one_val from.start ∷ []) Post $
    alloc_all ! (λ l. pass_all ! refl ((tt, record { fits = fits }), (good, (one_good (block_ptr b o), (one_good from.start, tt)))) $ let Ev : Env 𝓤 𝓛.H = env (code.function).locals l in
    sets ! (of_opd ! (get_in ! (fld ! refl (stop !)) (sub ! 0 refl (whole !)))) refl (pointer_good (block_ptr b o)) $
    sets ! (bin ! (get ! refl) (lit ! tt) (tests_null (block_ptr b o) (subst (λ (r : Ptr). Testable r) found may))) refl (tt, tt) $
    sets ! (un ! (get ! refl) tt) refl (tt, tt) $
    first ! $ branches ! (get ! refl)
    (λ _. blocks ! $ assigns_last ! (of_opd ! (get ! refl)) (through ! refl (stop !)) (store ! 0 refl good) $
    exec ! 𝓣.C 𝓣.Λ Ev (after 4 (code.function).body) (at_ret Ev Post) $
    sets ! (agg ! (and_then ! (get ! refl) (no_more !))) refl (tt, (record { fits = fits }, tt)) $
    returns ! (look_at ! 0 refl) $ free_all ! refl $ keep ! (0 ∷ 2 ∷ 1 ∷ 3 ∷ []) $
    use2 𝓛 (‵ (part_at places.the_row full_share new b o)) (part_in 𝓛 places.the_row refl full_share new b o word) $
    rewrite ! 0 (λ (r : Ptr). ‵ (places_lie_at r new)) (sym found) refl $ out)
    (λ wrong. absurd wrong)))))))
