-- What is shared for a lifetime, with that lifetime's token, is shared for as long as both are borrowed. Assumes `Logic`.
use Rattle.std.proofs.Common.{ℕ, [], ◌∷◌}
use seplogic.Ra.Ura.{Ura}
use base.Fraction.{full_share}
use base.Logic.{ent, sep, wand, upd_i, id⊢, apply∗}
use base.Fml.{Lft, Share, Fml, ftrue, fsep, fseps, fwand, fupd, fdead, fbor, flft}
use contract.BorrowLft.{meet_⊑_left}
use ghost.Rules.{span, thinned}
use types.Logic.{Logic, sem, lfts}
use types.Kit.{‵, raw, ◌⊛◌, some, later, ◌$◌, ◌∵◌, !, qed, move, keep, use1, use2, split, fsplit, fsplit3, fjoin, pick, assume, suffices, await, updating, now, done}
use types.Tokens.{bor_open, obor_alter, bor_fracture, one_token}
use denote.Moves.{moves_from}
use denote.Sharing.{ShrLaws}
use denote.SharingLaws.{contraction}
use denote.Steps.{nothing}
use denote.Struct.Lending.{Lends}

module _ {M : Type 1} {𝓤 : Ura M} (𝓛 : Logic 𝓤) (shown : Lft → Fml) (laws : ShrLaws shown) (life : ℕ) where
  open 𝓛 use {H, A}

  abbrev Token : Fml
  Token = flft (life ∷ []) full_share

  abbrev Loan : Fml
  Loan = fsep Token (shown (life ∷ []))

  abbrev Restored : Lft → Fml
  Restored κ = fwand (fsep (fdead κ) (fseps (Token ∷ []))) (fupd Loan)

  -- once the borrow is over, the token makes the loan again, since what is shared can be kept beside it
  restores : (κ : Lft) → ent 𝓤 (sem 𝓛 (shown (life ∷ []))) (sem 𝓛 (Restored κ))
  unfolding fseps
  restores κ = qed 𝓛 (‵ (shown (life ∷ [])) ∷ []) ∵ assume ! (‵ (fsep (fdead κ) (fsep Token ftrue))) $
      suffices ! (sem 𝓛 Loan) (upd_i 𝓤 (sem 𝓛 Loan)) $ fsplit3 ! $ keep ! (1 ∷ 3 ∷ []) $ fjoin ! $ done !

  -- from a borrow for κ, with a share of κ's token
  shares : (κ : Lft) (q : Share) → ent 𝓤 (sep 𝓤 (A.bor κ Loan) (A.lft κ q)) (H.⇛ (sep 𝓤 (sem 𝓛 (shown κ)) (A.lft κ q)))
  unfolding fseps
  shares κ q = qed 𝓛 (‵ (fbor κ Loan) ∷ ‵ (flft κ q) ∷ []) ∵ updating ! $ bor_open ! tt $ move ! (1 ∷ []) $ fsplit ! $ move ! (1 ∷ []) $
      use1 𝓛 (‵ (shown (life ∷ [])) ⊛ ‵ (shown (life ∷ []))) (contraction 𝓛 shown laws (life ∷ [])) $ split ! $
      use1 𝓛 (‵ (Restored κ)) (restores κ) $ nothing ! $ move ! (3 ∷ 0 ∷ []) $ fjoin ! $
      -- [the token; the way back; the open borrow; what is shared]
      move ! (3 ∷ 0 ∷ 1 ∷ []) $ obor_alter ! tt (Token ∷ []) $
      use1 𝓛 (‵ (fbor κ Token) ⊛ ‵ ftrue) (id⊢ 𝓤 _) $ split ! $ bor_fracture ! tt (λ share. flft (life ∷ []) share) full_share $
      move ! (0 ∷ 3 ∷ []) $ use2 𝓛 (‵ (shown κ)) (moves_from 𝓛 shown laws κ (life ∷ []) (life ∷ []) (meet_⊑_left (life ∷ []) κ)) $
      now ! $ keep ! (0 ∷ 2 ∷ []) $ done !

  -- the same with any tokens whose meet ends no later
  pub lends : (lives : Lft) → Lends 𝓛 Loan shown lives
  lends lives κ tokens inside ends = qed 𝓛 (‵ (fbor κ Loan) ∷ raw (lfts 𝓛 tokens) ∷ []) ∵ updating ! $ move ! (1 ∷ []) $
      use1 𝓛 (some (λ (q : Share). ‵ (flft (span tokens) q) ⊛ raw (wand 𝓤 (A.lft (span tokens) q) (lfts 𝓛 tokens)))) (one_token 𝓛 tokens) $ pick ! (λ q. split ! $
      use1 𝓛 (‵ (flft κ (thinned κ q)) ⊛ raw (wand 𝓤 (A.lft κ (thinned κ q)) (A.lft (span tokens) q))) (𝓛.lfts.lft-incl (span tokens) κ q ends) $ split ! $
      move ! (3 ∷ 0 ∷ []) $ use2 𝓛 (later (‵ (shown κ) ⊛ ‵ (flft κ (thinned κ q)))) (shares κ (thinned κ q)) $ await ! tt $ split ! $
      move ! (1 ∷ 2 ∷ []) $ use2 𝓛 (‵ (flft (span tokens) q)) (apply∗ 𝓤 (A.lft κ (thinned κ q)) (A.lft (span tokens) q)) $
      move ! (0 ∷ 2 ∷ []) $ use2 𝓛 (raw (lfts 𝓛 tokens)) (apply∗ 𝓤 (A.lft (span tokens) q) (lfts 𝓛 tokens)) $
      now ! $ move ! (1 ∷ 0 ∷ []) $ done !)
