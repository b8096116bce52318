-- That outcomes come in turn, each but a stale one above the closed number before it: as one more comes, and what bounds a closed number.
use Rattle.std.proofs.Common.{◌≡◌, ◌==◌, ℕ, ◌<◌, ◌≤◌, max, false, not, ◌&&◌, List, [], ◌∷◌, ◌++◌, length, take, Some, refl, sym, subst, arith}
use Rattle.std.specs.Prelude.{slice_get}
use Rattle.std.specs.List.{All, fold}
use Rattle.std.proofs.lemmas.Bool.{and_parts, cond_both, eqb-true, not-true}
use Rattle.std.proofs.lemmas.List.{take-append-le, take_at}
use Rattle.std.proofs.lemmas.List.Elements.{All-head, All-tail}
use Rattle.std.proofs.lemmas.Option.{slice_get_within}
use Rattle.hp_segs.specs.SegsView.{closed_number, is_stale}
use Rattle.hp_segs.specs.declared.outcome.AskLog.{AskLog}
use Rattle.hp_segs.proofs.GrowthSteps.GrantLemmas.{closing}
use Rattle.hp_solo.proofs.Pushed.{each_pushed}

-- each outcome but a stale one is above the closed number before it
abbrev pub AreRising : List AskLog → Type 0
AreRising asks = (place : ℕ) (entry : AskLog) → slice_get asks place ≡ Some entry → is_stale entry.outcome ≡ false
    → closed_number (take place asks) entry.from < entry.number

pub rising_pushed : (asks : List AskLog) (entry : AskLog) → AreRising asks
    → (is_stale entry.outcome ≡ false → closed_number asks entry.from < entry.number) → AreRising (asks ++ entry ∷ [])
rising_pushed asks entry rising fresh =
    each_pushed
    (λ place entry'. is_stale entry'.outcome ≡ false → closed_number
    (take place (asks ++ entry ∷ [])) entry'.from < entry'.number) asks entry
    (λ place before is unstale.
    subst (λ first. closed_number first before.from < before.number)
    (sym (take-append-le place asks (entry ∷ []) (omega (arith, slice_get_within asks place before is))))
    (rising place before is unstale))
    (λ unstale.
    subst (λ first. closed_number first entry.from < entry.number) (sym (take_at asks (entry ∷ []) (length asks) refl)) (fresh unstale))

-- the closed number is no greater than a bound on the numbers that count for it
abbrev pub IsBelow : ℕ → ℕ → AskLog → Type 0
IsBelow from bound entry = entry.from ≡ from → is_stale entry.outcome ≡ false → entry.number ≤ bound

closing_below : (from bound done : ℕ) (entry : AskLog) → done ≤ bound → IsBelow from bound entry → closing from done entry ≤ bound
closing_below from bound done entry so_far below =
    cond_both ((entry.from == from) && not (is_stale entry.outcome)) (max done entry.number) done (λ n. n ≤ bound)
    (λ counts.
    let both = and_parts (entry.from == from) (not (is_stale entry.outcome)) counts in
    let its = below (eqb-true entry.from from both.0) (not-true (is_stale entry.outcome) both.1) in
    omega (arith, its, so_far))
    (λ other. so_far)

closed_from : (from bound done : ℕ) (asks : List AskLog) → done ≤ bound → All (IsBelow from bound) asks
    → fold (closing from) done asks ≤ bound
closed_from from bound done [] so_far below = so_far
closed_from from bound done (entry ∷ asks) so_far below =
    closed_from from bound (closing from done entry) asks
    (closing_below from bound done entry so_far (All-head (IsBelow from bound) entry asks below))
    (All-tail (IsBelow from bound) entry asks below)

pub closed_below : (from bound : ℕ) (asks : List AskLog) → All (IsBelow from bound) asks → closed_number asks from ≤ bound
closed_below from bound asks below = closed_from from bound 0 asks (omega arith) below
