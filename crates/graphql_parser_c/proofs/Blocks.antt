-- How a `Block` is stored: a pointer and a number.
use Rattle.std.proofs.Common.{ℕ, ◌^◌, ◌<◌, List, [], ◌∷◌, refl, lit<, w64}
use seplogic.Ra.Ura.{Ura}
use mir.Syntax.{ty_int, ty_ptr, ty_struct, tcons, tnil}
use mir.Val.{Val, vint, vstruct, vcons, vnil, has_ty, WT}
use lib.Dec.{T}
use base.Logic.{ent, emp}
use base.Fml.{Fml}
use types.Logic.{Logic, sem}
use denote.Builtin.{usize}
use denote.RawPtr.{Ptr, RawPtr, block_ptr, null_ptr, ptr_val}
use denote.Shadow.{makes_shadow}
use denote.Struct.Struct.{Struct}

abbrev pub stored : Ptr → ℕ → Val
stored start len = vstruct (vcons (ptr_val start) (vcons (vint w64 len) vnil))

-- what the two fields own
abbrev pub fields_own : Ptr → ℕ → List Val → Fml
fields_own start len = (Struct (record { name = []; args = []; types = []; fields = RawPtr ∷ usize ∷ [] })).own_val (start, (len, tt))

pub fields_made : {M : Type 1} {𝓤 : Ura M} (𝓛 : Logic 𝓤) (start : Ptr) (len : ℕ) → len < 2 ^ 64 → ent 𝓤 (emp 𝓤) (sem 𝓛 (fields_own start len (stored start len ∷ [])))
fields_made 𝓛 start len fits = makes_shadow 𝓛 (fields_own start len (stored start len ∷ [])) (λ _. (tt, (tt, ((tt, tt), tt)))) ((ptr_val start ∷ [], (vint w64 len ∷ [], tt)), (refl, (refl, ((refl, fits), tt))))

pub is_stored : (start : Ptr) (len : ℕ) → len < 2 ^ 64 → T (has_ty (ty_struct [] (tcons ty_ptr (tcons (ty_int w64) tnil))) (stored start len)) × WT (stored start len)
is_stored (block_ptr b o) len fits = (tt, (tt, (record { fits = fits }, tt)))
is_stored null_ptr len fits = (tt, (record { fits = lit< tt }, (record { fits = fits }, tt)))
