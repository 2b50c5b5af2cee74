-- `size_of_one` gives the machine's number. Assumes `Logic`.
use Rattle.std.proofs.Common.{◌^◌, List, [], ◌∷◌, refl, w64}
use mir.Syntax.{Ty, Fn, Args, a_type}
use mir.Val.{Val, vint}
use mir.MapTy.{inst_fn}
use base.Logic.{SProp}
use base.Fml.{ftrue}
use prog.Memory.{size, capped}
use prog.Capped.{capped_fits}
use prog.Wp.{Env}
use contract.BorrowLft.{◌⊑◌}
use contract.Monad.{fact}
use contract.Running.{tables}
use types.Kit.{‵, raw, ◌⊛◌, ◌$◌, ◌∵◌, !, qed, move, drop, split, join, keep, done, suffices, fjoin, feq_i, flt_i}
use types.Run.{size_word, of_opd, returns, enter}
use types.ByLocal.{alloc_all, pass_all, free_all, look_at, sets, env}
use denote.RattleType.{owns}
use denote.Param.{layout, layouts}
use denote.Signature.{types_at}
use denote.Steps.{nothing, heard}
use denote.Triple.Entry.{alive}
use denote.Triple.Walked.{Stays, ends_at, says, walk_of}
use Rattle.std.proofs.raw_atomic.Walks.{proved_at}
use Rattle.graphql_memory.specs.contracts.size_of_one.{ended, clauses}
use Rattle.graphql_memory.specs.contracts.size_of_one.Key.{name as #self}
use Rattle.graphql_memory.proofs.size_of_one.Statement.{statement}
use Rattle.graphql_memory.proofs.size_of_one.Code as compiled

pub size_of_one_spec : {M : Type 1} → statement M
size_of_one_spec 𝓤 𝓛 𝓜 𝓡 wired T L =
    let H = 𝓛.H in
    let En₀ = ended T in
    let c₀ = clauses T 𝓛 𝓜.mem 𝓡.returns in
    let args : Args = layouts (a_type ∷ []) (T, tt) in
    let fn : Fn = inst_fn args compiled.function in
    let hs : Stays En₀.signature.params En₀.kept = tt in
    let c = c₀ in
    let C = (tables 𝓤 H 𝓜 𝓡 𝓡.env).C in
    let Λ = (tables 𝓤 H 𝓜 𝓡 𝓡.env).Λ in
    proved_at 𝓛 En₀ hs c 𝓜 𝓡 tt (#self args) fn (compiled.unfolded 𝓤 H 𝓜 𝓡 wired (T, tt)) (λ z are.
    let Post : Val → SProp 𝓤 = (walk_of 𝓛 En₀ hs c).post z in
    let a = z.0.3 in
    let vss = z.0.4 in
    let τ : Ty = layout T in
    let n = capped (size τ) in
    qed 𝓛 ((raw (alive 𝓛 En₀.signature z.0.0 z.0.1) ⊛ ‵ (owns (types_at En₀.signature.params z.0.0) a vss)) ∷ (raw (fact 𝓤 (z.0.0.0 ⊑ T.lives)) ⊛ ‵ ftrue) ∷ []) ∵
    move ! (1 ∷ []) $ split ! $ heard ! (z.0.0.0 ⊑ T.lives) (λ le. drop ! $ split ! $ move ! (1 ∷ []) $
    drop ! $
    enter ! C Λ fn [] Post $
    alloc_all ! (λ l. pass_all ! refl tt $ let En : Env 𝓤 𝓛.H = env fn.locals l in
    sets ! (of_opd ! (size_word !)) refl (tt, record { fits = capped_fits (size τ) }) $
    returns ! (look_at ! 0 refl) $ free_all ! refl $
    suffices ! _ (ends_at 𝓛 En₀ hs c z (vint w64 n) n tt tt) $ says ! refl $
    flt_i ! n (2 ^ 64) (capped_fits (size τ)) $ feq_i ! (List Val) (vint w64 n ∷ []) (vint w64 n ∷ []) refl $ fjoin ! $
    nothing ! $ join ! $ move ! (1 ∷ 0 ∷ []) $ join ! $ keep ! (0 ∷ []) $ done !)))
