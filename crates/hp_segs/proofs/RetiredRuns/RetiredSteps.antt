-- The runs that were given up are those that went back and the Retiring ones, after each call of a segment value.
use Rattle.std.proofs.Common.{◌≡◌, ℕ, Bool, true, false, List, [], ◌∷◌, ◌++◌, map, nat_lt, sym, subst, if◌then◌else◌}
use Rattle.std.proofs.lemmas.List.{map-append}
use Rattle.std.specs.List.Sorted.{IsPermutation}
use Rattle.std.proofs.lemmas.List.Sorted.{IsPermutation-append_left, IsPermutation-append_right, IsPermutation-cons, IsPermutation-middle, IsPermutation-refl, IsPermutation-sym, IsPermutation-to_front, IsPermutation-trans}
use Rattle.hp_base.specs.declared.row.Run.{Run}
use Rattle.hp_segs.specs.Returned.{AreReturned, gone_in, returned_runs}
use Rattle.hp_segs.specs.SegsView.{SegsView}
use Rattle.hp_segs.specs.Steps.{after_retire, insert_by_address}
use Rattle.hp_segs.proofs.RetiredRuns.ReturnedBySteps.{IsGoneAlike}

insert_by : (lower : Bool) (run other : Run) (runs : List Run) → IsPermutation (run ∷ runs) (insert_by_address run runs)
    → IsPermutation (run ∷ other ∷ runs) (if lower then run ∷ other ∷ runs else other ∷ insert_by_address run runs)
insert_by true run other runs rest = IsPermutation-refl (run ∷ other ∷ runs)
insert_by false run other runs rest =
    IsPermutation-trans (run ∷ other ∷ runs) (other ∷ run ∷ runs) (other ∷ insert_by_address run runs)
    (IsPermutation-sym (other ∷ run ∷ runs) (run ∷ other ∷ runs) (IsPermutation-middle (other ∷ []) run runs))
    (IsPermutation-cons other (run ∷ runs) (insert_by_address run runs) rest)

-- a run among others by rising address is that run and the others
insert_moves : (run : Run) (runs : List Run) → IsPermutation (run ∷ runs) (insert_by_address run runs)
insert_moves run [] = IsPermutation-refl (run ∷ [])
insert_moves run (other ∷ runs) = insert_by (nat_lt run.addr other.addr) run other runs (insert_moves run runs)

-- the runs that were given up, without their heaps
abbrev given_up_in : SegsView → List Run
given_up_in segs = map (λ given. given.1) segs.retired

abbrev HasReturned : SegsView → Type 0
HasReturned segs = AreReturned segs.log segs.asks segs.retiring segs.retired

-- a run that is given up is Retiring
retire_gone : (heap : ℕ) (run : Run) (segs : SegsView) → IsPermutation (gone_in segs ++ run ∷ []) (gone_in (after_retire heap run segs))
retire_gone heap run segs =
    let back = returned_runs segs.asks false 1 segs.log in
    IsPermutation-trans (gone_in segs ++ run ∷ []) (run ∷ gone_in segs) (gone_in (after_retire heap run segs))
    (IsPermutation-to_front (gone_in segs) run)
    (IsPermutation-trans (run ∷ gone_in segs) (back ++ run ∷ segs.retiring) (gone_in (after_retire heap run segs))
    (IsPermutation-sym (back ++ run ∷ segs.retiring) (run ∷ gone_in segs) (IsPermutation-middle back run segs.retiring))
    (IsPermutation-append_right back (run ∷ segs.retiring) (insert_by_address run segs.retiring) (insert_moves run segs.retiring)))

pub returned_retired : (heap : ℕ) (run : Run) (segs : SegsView) → HasReturned segs → HasReturned (after_retire heap run segs)
returned_retired heap run segs before =
    subst (λ given. IsPermutation given (gone_in (after_retire heap run segs)))
    (sym (map-append (λ (given : ℕ × Run). given.1) segs.retired ((heap, run) ∷ [])))
    (IsPermutation-trans (given_up_in segs ++ run ∷ []) (gone_in segs ++ run ∷ []) (gone_in (after_retire heap run segs))
    (IsPermutation-append_left (run ∷ []) (given_up_in segs) (gone_in segs) before) (retire_gone heap run segs))

-- the other calls give nothing up
pub returned_alike_by : (old new : SegsView) → new.retired ≡ old.retired → IsGoneAlike old new → HasReturned old → HasReturned new
returned_alike_by old new retired alike before =
    subst (λ given. IsPermutation (map (λ (given : ℕ × Run). given.1) given) (gone_in new)) (sym retired)
    (subst (IsPermutation (given_up_in old)) (sym alike) before)
