-- No outcome that comes late grants what an ask of earlier lines asked for: these have their outcomes by then, and each has one.
use Rattle.std.proofs.Common.{◌≡◌, ◌∙◌, ℕ, zero, suc, ◌+◌, ◌-◌, ◌<◌, ◌≤◌, true, false, List, [], ◌∷◌, ◌++◌, append_assoc, length, take, Option, Some, None, IfSome, refl, ap, sym, subst, arith}
use Rattle.std.specs.List.{All, find}
use Rattle.std.specs.Prelude.{Contains, slice_get}
use Rattle.std.proofs.lemmas.List.{take-append-le, take_all}
use Rattle.std.proofs.lemmas.List.Elements.{All-cons, All-nil, Contains-append_right}
use Rattle.hp_base.specs.declared.pool_line.PoolLine.{PoolLine}
use Rattle.hp_proc.proofs.LawLemmas.{find_stays}
use Rattle.hp_proc.specs.Acting.{AreAsked}
use Rattle.hp_proc.specs.Courses.{numbered_in}
use Rattle.hp_proc.specs.Doing.{Done}
use Rattle.hp_proc.specs.Doing.Done.{Asked}
use Rattle.hp_proc.specs.WatchedBytes.{HasTakenGrant}
use Rattle.hp_segs.specs.SegsView.{closed_number, granted_by, is_grant_or_refusal, is_outcome_for, is_stale}
use Rattle.hp_segs.specs.declared.outcome.AskLog.{AskLog}
use Rattle.hp_segs.specs.declared.outcome.Outcome.{Outcome}
use Rattle.hp_segs.specs.declared.outcome.Outcome.TheVariants.{Freed, Granted, Refused, Stale}
use Rattle.thm_run.proofs.JudgedGrowths.Moments.{get_behind}
use Rattle.thm_run.proofs.SeenAndShown.Provenance.{answered, in_turn, kept, of_a_seat}
use Rattle.thm_run.proofs.TracesTold.AsksSettled.{found_closed}
use Rattle.thm_run.proofs.TracesTold.Numbers.{numbered_both}
use Rattle.thm_run.specs.Seats.{Seat}
use Rattle.thm_run.specs.Together.{GlobalState, IsFirst, RunsByMail}

-- a grant is fresh
granted_fresh : (outcome : Outcome) (generation : ℕ) → granted_by outcome ≡ Some generation
    → (is_grant_or_refusal outcome ≡ true) × (is_stale outcome ≡ false)
granted_fresh (Granted own) generation is = (refl, refl)
granted_fresh (Refused cause) generation is = cc
granted_fresh (Stale done) generation is = cc
granted_fresh (Freed own) generation is = cc

-- what stands in the front is found there
get_front : {X : Type 0} (xs ys : List X) (n : ℕ) → n < length xs → slice_get (xs ++ ys) n ≡ slice_get xs n
get_front [] ys n within = absurd (omega (arith, within))
get_front (x ∷ xs) ys zero within = refl
get_front (x ∷ xs) ys (suc n) within = get_front xs ys n (omega (arith, within))

module _ (count absent : ℕ) (pools : List PoolLine) (first was now : GlobalState) (is : IsFirst count absent pools first)
    (before : RunsByMail count first was) (runs : RunsByMail count first now) (others : List AskLog)
    (logged : now.segs.asks ≡ was.segs.asks ++ others) (who : ℕ) (seat last : Seat) (early : slice_get was.seats who ≡ Some seat)
    (late : slice_get now.seats who ≡ Some last) (more : List Done) (trace : last.trace ≡ seat.trace ++ more)
    (asked : AreAsked was.segs.log was.segs.asks who 0 seat.party.asked seat.trace) where
  late_grant : (front : List AskLog) (entry : AskLog) (back : List AskLog) → others ≡ front ++ entry ∷ back → entry.from ≡ who
      → entry.number ≤ length (numbered_in seat.trace) → (generation : ℕ) → granted_by entry.outcome ≡ Some generation → ⊥
  late_grant front entry back split from few generation granted =
      let fresh = granted_fresh entry.outcome generation granted in
      let stands : List AskLog = was.segs.asks ++ front in
      let whole : now.segs.asks ≡ stands ++ entry ∷ back =
      logged
      ∙ ap (λ (others : List AskLog). was.segs.asks ++ others) split
      ∙ sym (append_assoc was.segs.asks front (entry ∷ back)) in
      let here : slice_get now.segs.asks (length stands) ≡ Some entry =
      ap (λ (asks : List AskLog). slice_get asks (length stands)) whole ∙ get_behind stands entry back in
      let among : Contains now.segs.asks entry =
      subst (λ (asks : List AskLog). Contains asks entry) (sym whole)
      (Contains-append_right stands (entry ∷ back) entry (0, omega arith, refl)) in
      let some = (of_a_seat count absent pools first now is runs entry among).some in
      let its =
      kept count absent pools first now is runs entry among fresh.0 last (subst (λ (n : ℕ). slice_get now.seats n ≡ Some last) (sym from) late)
      in
      let place : ℕ = entry.number - 1 in
      let there : slice_get (numbered_in seat.trace) place ≡ Some (Asked its.asked its.run) =
      sym (get_front (numbered_in seat.trace) (numbered_in more) place (omega (arith, some, few)))
      ∙ ap (λ (numbered : List Done). slice_get numbered place) (sym (ap numbered_in trace ∙ numbered_both seat.trace more))
      ∙ its.its in
      let own = answered count absent pools first was is before who seat early asked place its.asked its.run there in
      let number : place + 1 ≡ entry.number = omega (arith, some) in
      let found : find (is_outcome_for who entry.number) was.segs.asks ≡ Some own.entry =
      ap (λ (n : ℕ). find (is_outcome_for who n) was.segs.asks) (sym number) ∙ own.logged in
      let taken : take (length stands) now.segs.asks ≡ stands =
      ap (take (length stands)) whole
      ∙ take-append-le (length stands) stands (entry ∷ back) (omega arith)
      ∙ take_all (length stands) stands (omega arith) in
      let closed = found_closed stands who entry.number own.entry (find_stays (is_outcome_for who entry.number) was.segs.asks front own.entry found)
      in
      let above = (in_turn count absent pools first now is runs).above (length stands) entry here fresh.1 in
      absurd (omega (
        arith,
        closed,
        above,
        ap (λ (asks : List AskLog). closed_number asks entry.from) taken,
        ap (closed_number stands) from,
      ))

  -- so a table has taken in all that late outcomes grant of them
  late_taken : (asks number : ℕ) → asks ≤ length (numbered_in seat.trace) → (front rest : List AskLog) → others ≡ front ++ rest
      → All (HasTakenGrant who asks number) rest
  late_taken asks number few front [] split = All-nil (HasTakenGrant who asks number)
  late_taken asks number few front (entry ∷ rest) split =
      All-cons (HasTakenGrant who asks number) entry rest
      (λ from below. by_outcome from (omega (arith, below, few)) (granted_by entry.outcome) refl)
      (late_taken asks number few (front ++ entry ∷ []) rest (split ∙ sym (append_assoc front (entry ∷ []) rest)))
    where
      by_outcome : entry.from ≡ who → entry.number ≤ length (numbered_in seat.trace) → (given : Option ℕ) → granted_by entry.outcome ≡ given
          → IfSome given (λ generation. generation ≤ number)
      by_outcome from below None given = tt
      by_outcome from below (Some generation) given = absurd (late_grant front entry rest split from below generation given)

  pub all_taken : (asks number : ℕ) → asks ≤ length (numbered_in seat.trace) → All (HasTakenGrant who asks number) others
  all_taken asks number few = late_taken asks number few [] others refl
