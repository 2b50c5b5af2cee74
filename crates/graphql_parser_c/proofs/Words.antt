-- How a pointer, a pointer with a number, and two values are stored as the fields of a struct.
use Rattle.std.proofs.Common.{◌≡◌, ℕ, ◌^◌, ◌<◌, List, [], ◌∷◌, ◌++◌, refl, ◌∙◌, lit<, w32, w64}
use seplogic.Ra.Ura.{Ura}
use mir.Syntax.{Ty, ty_int, ty_ptr, ty_struct, tcons, tnil}
use mir.Val.{Val, vint, vstruct, vcons, vnil, of_list, has_ty, has_tys, WT}
use lib.Dec.{T}
use base.Logic.{ent, sep, emp}
use base.Fml.{Fml}
use types.Logic.{Logic, sem}
use types.Kit.{‵, ◌$◌, ◌∵◌, !, qed, move, fjoin, fjoin3, fpack, feq_i, done}
use denote.Builtin.{u32, usize}
use denote.RattleType.{RattleType, Valss}
use denote.RawPtr.{Ptr, RawPtr, block_ptr, null_ptr, ptr_val}
use denote.Shadow.{shadow, makes_shadow}
use denote.Steps.{nothing}
use denote.Struct.Declared.{shape}
use denote.Struct.Struct.{Struct, within, as_fields}
use denote.Struct.Tuple.{Tuple, tuple_type}

-- what the fields of a struct own, whatever its name
abbrev pub fields_of : List RattleType → RattleType
fields_of fields = Struct (record { name = []; args = []; types = []; fields = fields })

pub pointer_good : (start : Ptr) → T (has_ty ty_ptr (ptr_val start)) × WT (ptr_val start)
pointer_good (block_ptr block offset) = (tt, tt)
pointer_good null_ptr = (tt, record { fits = lit< tt })

-- ---- a pointer
abbrev pub one_val : Ptr → Val
one_val start = vstruct (vcons (ptr_val start) vnil)

abbrev pub one_owns : Ptr → List Val → Fml
one_owns start = (fields_of (RawPtr ∷ [])).own_val (start, tt)

pub one_told : (start : Ptr) (vs : List Val) → shadow (one_owns start vs) → vs ≡ one_val start ∷ []
one_told start vs told = told.1.0 ∙ (λ i. vstruct (of_list (told.1.1.0 i ++ [])) ∷ [])

pub one_made : {M : Type 1} {𝓤 : Ura M} (𝓛 : Logic 𝓤) (start : Ptr) → ent 𝓤 (emp 𝓤) (sem 𝓛 (one_owns start (one_val start ∷ [])))
one_made 𝓛 start = makes_shadow 𝓛 (one_owns start (one_val start ∷ [])) (λ _. (tt, (tt, tt))) ((ptr_val start ∷ [], tt), (refl, (refl, tt)))

pub one_good : (start : Ptr) → T (has_ty (ty_struct [] (tcons ty_ptr tnil)) (one_val start)) × WT (one_val start)
one_good (block_ptr block offset) = (tt, (tt, tt))
one_good null_ptr = (tt, (record { fits = lit< tt }, tt))

-- ---- a pointer and a number
abbrev pub two_val : Ptr → ℕ → Val
two_val start count = vstruct (vcons (ptr_val start) (vcons (vint w64 count) vnil))

abbrev pub two_owns : Ptr → ℕ → List Val → Fml
two_owns start count = (fields_of (RawPtr ∷ usize ∷ [])).own_val (start, (count, tt))

pub two_told : (start : Ptr) (count : ℕ) (vs : List Val) → shadow (two_owns start count vs) → (vs ≡ two_val start count ∷ []) × (count < 2 ^ 64)
two_told start count vs told = (told.1.0 ∙ (λ i. vstruct (of_list (told.1.1.0 i ++ (told.1.1.1.0.0 i ++ []))) ∷ []), told.1.1.1.0.1)

pub two_good : (start : Ptr) (count : ℕ) → count < 2 ^ 64 → T (has_ty (ty_struct [] (tcons ty_ptr (tcons (ty_int w64) tnil))) (two_val start count)) × WT (two_val start count)
two_good (block_ptr block offset) count fits = (tt, (tt, (record { fits = fits }, tt)))
two_good null_ptr count fits = (tt, (record { fits = lit< tt }, (record { fits = fits }, tt)))

-- ---- a number
abbrev pub number_val : ℕ → Val
number_val n = vstruct (vcons (vint w32 n) vnil)

abbrev pub number_owns : ℕ → List Val → Fml
number_owns n = (fields_of (u32 ∷ [])).own_val (n, tt)

pub number_made : {M : Type 1} {𝓤 : Ura M} (𝓛 : Logic 𝓤) (n : ℕ) → n < 2 ^ 32 → ent 𝓤 (emp 𝓤) (sem 𝓛 (number_owns n (number_val n ∷ [])))
number_made 𝓛 n fits = makes_shadow 𝓛 (number_owns n (number_val n ∷ [])) (λ _. (tt, ((tt, tt), tt))) ((vint w32 n ∷ [], tt), (refl, ((refl, fits), tt)))

-- ---- a pair
abbrev pub pair_val : Val → Val → Val
pair_val u v = vstruct (vcons u (vcons v vnil))

pub pair_good : (σ τ : Ty) (u v : Val) → T (has_ty σ u) × WT u → T (has_ty τ v) × WT v → T (has_tys (tcons σ (tcons τ tnil)) (vcons u (vcons v vnil))) × WT (pair_val u v)
pair_good σ τ u v first second = as_fields (σ ∷ τ ∷ []) (u ∷ v ∷ []) (first, (second, tt))

pub pair_made : {M : Type 1} {𝓤 : Ura M} (𝓛 : Logic 𝓤) (R S : RattleType) (x : R.Denot) (y : S.Denot) (u v : Val)
    → ent 𝓤 (sep 𝓤 (sem 𝓛 (R.own_val x (u ∷ []))) (sem 𝓛 (S.own_val y (v ∷ [])))) (sem 𝓛 ((Tuple (R ∷ S ∷ [])).own_val (x, y) (pair_val u v ∷ [])))
pair_made 𝓛 R S x y u v =
    qed 𝓛 (‵ (R.own_val x (u ∷ [])) ∷ ‵ (S.own_val y (v ∷ [])) ∷ []) ∵ nothing ! $ move ! (1 ∷ 2 ∷ 0 ∷ []) $ fjoin3 ! $
    feq_i ! (List Val) (pair_val u v ∷ []) (pair_val u v ∷ []) refl $ fjoin ! $
    fpack ! (Valss (R ∷ S ∷ [])) (within (shape (tuple_type (R ∷ S ∷ []))) (x, (y, tt)) (pair_val u v ∷ [])) (u ∷ [], (v ∷ [], tt)) $ done !
