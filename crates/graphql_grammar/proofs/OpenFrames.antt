-- What a frame that is put after the others adds, and what is paid where it is known what is open.
use Rattle.std.proofs.Common.{◌≡◌, ◌+◌, List, [], ◌∷◌, ◌++◌, Result, sym, subst, arith}
use denote.RattleType.{RattleType}
use Rattle.graphql_grammar.specs.declared.value.frames.Frame.{Frame}
use Rattle.graphql_grammar.specs.declared.value.frames.Open.{Open}
use Rattle.graphql_grammar.specs.declared.value.frames.Stop.{Stop}
use Rattle.graphql_grammar.specs.reading.OpenFunds.{Stops, open_credit, frame_credit, frames_credit}
use Rattle.graphql_reading.specs.declared.parser.Refusal.{Refusal}
use Rattle.graphql_reading.specs.reading.Ahead.{Ahead}

pub frames-push : {V : Type 0} (R : RattleType) (fs : List (Frame V)) (f : Frame V) → frames_credit R (fs ++ f ∷ []) ≡ frames_credit R fs + frame_credit R f
frames-push R [] f = omega arith
frames-push R (g ∷ fs) f = omega (arith, frames-push R fs f)

pub stops-in : {V : Type 0} (R : RattleType) (o p : Open V) (r : Result (Stop V) Refusal) (old new : Ahead) → o ≡ p → Stops R (open_credit R p) r old new → Stops R (open_credit R o) r old new
stops-in {V} R o p r old new e h = subst (λ (x : Open V). Stops R (open_credit R x) r old new) (sym e) h
