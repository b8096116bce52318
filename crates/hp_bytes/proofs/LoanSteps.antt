-- Steps of the proof by hand of a loan ("Walks" of the guides): a `Result` that a call answered, by its two cases. Assumes `Logic`.
use Rattle.std.proofs.Common.{◌≡◌, Bool, true, false, List, [], ◌∷◌, ◌++◌, refl, ap, ◌∙◌, Result, Ok, Err}
use Rattle.std.specs.contracts.result.Result as RS
use seplogic.Ra.Ura.{Ura}
use lib.Dec.{T}
use mathlib.Core.Bool.{◌&&◌}
use mir.Val.{Val, of_list}
use types.Logic.{Logic}
use types.Kit.{Goal, Seq, Item, ‵, ◌$◌, move, drop, fpick, fsplit, feq_l}
use types.Match.{live}
use denote.RattleType.{RattleType}
use denote.Steps.{only}

pub and_tt : (b : Bool) → T b → T (b && true)
and_tt true t = tt
and_tt false t = absurd t

module _ {M : Type 1} {𝓤 : Ura M} {𝓛 : Logic 𝓤} {K : Type 0} {Γ : List (Item 𝓤)} {G : Goal 𝓤 𝓛.H} (R E : RattleType) (v : Val) (Follow : Result R.Denot E.Denot → Item 𝓤) where
  -- a `Result` by its two cases, with an entry that depends on which it is
  pub result_had : K → (r : Result R.Denot E.Denot)
      → ((x : R.Denot) (ws : List Val) → r ≡ Ok x → v ≡ live 0 (of_list (ws ++ [])) → Seq K 𝓛 (‵ (R.own_val x ws) ∷ Follow (Ok x) ∷ Γ) G)
      → ((x : E.Denot) (ws : List Val) → r ≡ Err x → v ≡ live 1 (of_list (ws ++ [])) → Seq K 𝓛 (‵ (E.own_val x ws) ∷ Follow (Err x) ∷ Γ) G)
      → Seq K 𝓛 (‵ ((RS.the_row R E).own_val r (v ∷ [])) ∷ Follow r ∷ Γ) G
  result_had k (Ok x) ok err =
      fpick k (λ us. fsplit k $ feq_l k (λ e. fpick k (λ vss. fsplit k $ feq_l k (λ f. fsplit k $ move k (1 ∷ []) $ drop k $
      ok x vss.0 refl (ap only e ∙ ap (λ (vs : List Val). live 0 (of_list vs)) f)))))
  result_had k (Err x) ok err =
      fpick k (λ us. fsplit k $ feq_l k (λ e. fpick k (λ vss. fsplit k $ feq_l k (λ f. fsplit k $ move k (1 ∷ []) $ drop k $
      err x vss.0 refl (ap only e ∙ ap (λ (vs : List Val). live 1 (of_list vs)) f)))))
