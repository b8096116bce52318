-- How far a workload was run, failed mappings and refused attaches have their reason, and stand at one place for each call; and the clauses
-- of an end that are of growths, causes, refusals and the roster.
use Rattle.std.proofs.Common.{◌≡◌, ◌∙◌, ℕ, ◌<◌, ◌≤◌, false, List, [], Some, None, inl, inr, refl, ap, sym, subst, arith}
use Rattle.std.specs.Prelude.{Contains, slice_get}
use Rattle.std.specs.List.{All}
use Rattle.std.specs.List.Sorted.{IsStrictlyIncreasing}
use Rattle.std.proofs.lemmas.Bool.{cases_lt}
use Rattle.std.proofs.lemmas.List.Elements.{All-contains, All-nil}
use Rattle.std.proofs.lemmas.Option.{get_or_from_slice_get, same_Some, slice_get-get_or, slice_get_within}
use Rattle.hp_base.specs.declared.limits.TheConstants.{MAX_HEAPS}
use Rattle.hp_plain.specs.HallView.{HallView, segs_in, slot_at}
use Rattle.hp_script.specs.declared.workload.Workload.{Workload}
use Rattle.hp_segs.specs.SegsView.{SegsView, is_member}
use Rattle.hp_proc.specs.LinesDone.{Course, courses_of, opening_standing, standing_after, trace_of}
use Rattle.hp_proc.specs.Outcomes.{AreAskedFor, IsRefusedIn}
use Rattle.hp_serve.specs.Party.{Party}
use Rattle.hp_proc.specs.Handed.{AreOwnFailures, IsFailureOfItsRow, calls_failed}
use Rattle.thm_run.proofs.PathSteps.ByMail.{run_of}
use Rattle.thm_run.specs.EndLaws.{FailsByReason, FailsOnce, RefusesByReason, RefusesOnce}
use Rattle.thm_run.specs.Seats.{Seat}
use Rattle.thm_run.specs.SoFar.{IsOfDeclared, SoFar, trace_for}
use Rattle.thm_run.proofs.EndedLines.{ended_so_far}
use Rattle.thm_run.proofs.FailuresNamed.Failures.{fails_once}
use Rattle.thm_run.proofs.WhatWentBack.GoneSoFar.{none_of_others}
use Rattle.thm_run.proofs.FailuresNamed.Refusals.{attached_so, refusals, refused_by_reason}
use Rattle.thm_run.proofs.FailuresNamed.RefusedLines.{places_same, shows_in}
use Rattle.thm_run.proofs.RunFacts.RunCauses as causes
use Rattle.thm_run.proofs.SeatFacts.SeatsAlong.{count_along}
use Rattle.thm_run.proofs.Settings.{IsSeatAt, seat_at}

module _ (workload : Workload) (courses : List Course) (parties : List Party) (hall : HallView)
    (so : SoFar workload courses parties hall) where
  -- each declared participant has its seat
  pub its_seat : (who : ℕ) → who < workload.participants → IsSeatAt so.now.seats who
  its_seat who declared = seat_at so.now.seats who (omega (arith, declared, count_along (run_of so.runs), so.is_first.seats))

  waits : (who : ℕ) (seat : Seat) → slice_get so.now.seats who ≡ Some seat → seat.party.deadline ≡ workload.deadline
  waits who seat there = (so.each who seat.party (so.seats who seat there).party).deadline

  -- the clause `asked_for`, where no growth is open
  pub asked_for_so_far : so.now.segs.growth ≡ None → AreAskedFor so.now.segs
  asked_for_so_far =
      causes.asked_for workload.participants workload.absent workload.pools.items so.first so.now so.is_first (run_of so.runs)
      workload.deadline waits

  -- the clause `causes`
  pub causes_so_far : All (IsRefusedIn workload) so.now.segs.asks
  causes_so_far =
      causes.causes workload.participants workload.absent workload.pools.items so.first so.now so.is_first (run_of so.runs)
      workload.deadline waits
      workload refl refl (ended_so_far workload courses parties hall so)

  -- the clause `nobody_else`
  pub nobody_else_so_far : (who : ℕ) → workload.participants ≤ who → is_member so.now.segs.roster who ≡ false
  nobody_else_so_far =
      causes.nobody_else workload.participants workload.absent workload.pools.items so.first so.now so.is_first (run_of so.runs)
      workload.deadline waits

  -- the clause `roster`
  pub roster_so_far : (who : ℕ) → who < workload.participants
      → is_member so.now.segs.roster who ≡ (standing_after (opening_standing workload who) (courses_of who courses)).attached
  roster_so_far who declared =
      let one = its_seat who declared in
      so.roster who one.seat one.there ∙ (so.each who one.seat.party (so.seats who one.seat one.there).party).joined

  -- the clause `refusals`
  pub refusals_so_far : (who : ℕ) → AreOwnFailures so.now.segs.log (trace_of (courses_of who courses))
  refusals_so_far who =
      elim (cases_lt who workload.participants) [
        | inl declared ↦
            let one = its_seat who declared in
            subst (AreOwnFailures so.now.segs.log) (so.seats who one.seat one.there).trace
            (refusals workload.participants workload.absent workload.pools.items so.first so.now so.is_first (run_of so.runs) who one.seat one.there)
        | inr beyond ↦
            subst (λ lines. AreOwnFailures so.now.segs.log (trace_of lines))
            (sym (none_of_others workload.participants who courses (omega (arith, beyond)) so.built)) none_refused
      ]
    where
      none_refused : AreOwnFailures so.now.segs.log []
      none_refused = record {
        rows = All-nil (IsFailureOfItsRow so.now.segs.log);
        some = All-nil (λ number. 0 < number);
        rising = λ k within. omega (arith, within);
      }

  -- whose segment value it is
  own_segs : (segs : SegsView) → segs_in (slot_at hall MAX_HEAPS) ≡ Some segs → so.now.segs ≡ segs
  own_segs segs its = same_Some so.now.segs segs (sym so.its_segs ∙ its)

-- a failed mapping was a declared participant's, at a call at which its mapper may answer so
pub so_far_fails : FailsByReason
so_far_fails workload courses parties hall segs entry participant call given so its logged failed =
    let found =
    causes.fails_by_reason workload.participants workload.absent workload.pools.items so.first so.now so.is_first (run_of so.runs) workload.deadline
    (waits workload courses parties hall so) entry
    (subst (λ (segs : SegsView). Contains segs.asks entry) (sym (own_segs workload courses parties hall so segs its)) logged)
    participant call failed.addr failed.got failed.its in
    record { party = found.seat.party; its = (so.seats participant found.seat found.there).party; fails = found.fails }

-- failed mappings that share participant and call stand at one place
pub so_far_fails_once : FailsOnce
so_far_fails_once workload courses parties hall segs place other entry second participant call given so its here there failed too =
    let same = sym (own_segs workload courses parties hall so segs its) in
    fails_once workload.participants workload.absent workload.pools.items so.first so.now so.is_first (run_of so.runs) place other entry second
    participant call (subst (λ (segs : SegsView). slice_get segs.asks place ≡ Some entry) same here)
    (subst (λ (segs : SegsView). slice_get segs.asks other ≡ Some second) same there) failed too

-- an attach was refused at a call at which its participant's mapper may fail
pub so_far_refuses : RefusesByReason
so_far_refuses workload courses parties hall course participant call given so (place, within, is) refused =
    let declared : participant < workload.participants =
    subst (λ who. who < workload.participants) refused.who
    (All-contains (IsOfDeclared workload.participants) courses course so.built (place, within, is)).declared in
    let one = its_seat workload courses parties hall so participant declared in
    let its = so.seats participant one.seat one.there in
    let there : slice_get courses place ≡ Some course = slice_get-get_or courses place course within ∙ ap Some is in
    let shown : Contains (calls_failed (trace_for participant courses)) call =
    shows_in workload participant call (opening_standing workload participant) courses (so.done participant declared) place course there
    refused in
    record {
      party = one.seat.party;
      its = its.party;
      may =
          refused_by_reason workload.participants workload.absent workload.pools.items so.first so.now so.is_first (run_of so.runs) participant
          one.seat one.there call (subst (λ trace. Contains (calls_failed trace) call) (sym its.trace) shown);
    }

-- and two of one call are one line
pub so_far_refuses_once : RefusesOnce
so_far_refuses_once workload courses parties hall place other course second participant call given so here there refused too =
    let declared : participant < workload.participants =
    subst (λ who. who < workload.participants) refused.who
    (All-contains (IsOfDeclared workload.participants) courses course so.built
    (place, slice_get_within courses place course here, get_or_from_slice_get courses place course course here)).declared in
    let one = its_seat workload courses parties hall so participant declared in
    let its = so.seats participant one.seat one.there in
    let rising =
    (attached_so workload.participants workload.absent workload.pools.items so.first so.now so.is_first (run_of so.runs) participant one.seat
    one.there).rising in
    places_same workload participant call (opening_standing workload participant) courses (so.done participant declared)
    (subst (λ trace. IsStrictlyIncreasing (calls_failed trace)) its.trace rising) place other course second here there refused too
