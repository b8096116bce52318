-- What a run of all participants leaves of the growths and refusals, and of who is in the roster.
use Rattle.std.proofs.Common.{◌≡◌, ℕ, zero, suc, ◌+◌, ◌<◌, ◌≤◌, ◌==◌, nat_lt, Bool, true, false, List, map, Option, Some, None, refl, sym, subst, arith}
use Rattle.std.specs.Prelude.{Contains, slice_get}
use Rattle.std.specs.Int.{bit_at}
use Rattle.std.specs.List.{All, range_with_len}
use Rattle.std.proofs.lemmas.Bool.{and_parts, ltb-true}
use Rattle.std.proofs.lemmas.List.Elements.{All-contains, All-nil}
use Rattle.hp_base.specs.Mapping.{FailingCall}
use Rattle.hp_base.specs.declared.map_answer.MapAnswer.{MapAnswer}
use Rattle.hp_base.specs.declared.pool_line.PoolLine.{PoolLine}
use Rattle.hp_script.specs.declared.workload.Workload.{Workload}
use Rattle.hp_segs.specs.Opening.{is_present, opening, opening_roster}
use Rattle.hp_segs.specs.SegsView.{is_member}
use Rattle.hp_segs.specs.declared.ask.Ask.{Ask}
use Rattle.hp_segs.specs.declared.outcome.AskLog.{AskLog}
use Rattle.hp_segs.specs.declared.outcome.Cause.TheVariants.{MapFailed}
use Rattle.hp_segs.specs.declared.outcome.Outcome.TheVariants.{Refused}
use Rattle.hp_proc.specs.Outcomes.{AreAskedFor, IsRefusedIn}
use Rattle.hp_serve.specs.Denials.{Denials}
use Rattle.thm_run.specs.ByRuns.{AreLinesIn}
use Rattle.thm_run.specs.EndLaws.{FailsFor}
use Rattle.thm_run.specs.Seats.{Seat}
use Rattle.thm_run.specs.Together.{IsFirst, GlobalState, Runs}
use Rattle.thm_run.proofs.GrownHeaps.AskedFor.{AreEndedAskedFor, changes_asked, ended_all}
use Rattle.thm_run.proofs.RunFacts.Causes.{AreCaused, changes_caused}
use Rattle.thm_run.proofs.RunFacts.Changes.{Changes, changes_stay}
use Rattle.thm_run.proofs.DenialsKnown.{anything, denies_in, lines_in}
use Rattle.thm_run.proofs.LinesOnward.{MayDenyByLines}
use Rattle.thm_run.proofs.Members.{AreDeclared, changes_declared}
use Rattle.thm_run.proofs.FailuresNamed.OwnFailures.{AreOwnFailures, EntryFailsAsMay, FailsAsMay, changes_own}
use Rattle.thm_run.proofs.RunFacts.RunChanges.{runs_behind}
use Rattle.thm_run.proofs.SeatFacts.SeatsAlong.{count_along}
use Rattle.thm_run.proofs.Settings.{may_fail_in, may_fail_of, seat_at, set_so}

opening_asked : (pools : List PoolLine) (count absent : ℕ) → AreEndedAskedFor (opening pools count absent)
opening_asked pools count absent place run heap here ended = cc

opening_own : (count absent : ℕ) (may_fail : ℕ → Option (List FailingCall)) (pools : List PoolLine)
    → AreOwnFailures count may_fail (opening pools count absent)
opening_own count absent may_fail pools = record { noted = tt; logged = All-nil (EntryFailsAsMay count may_fail) }

-- who is there at first is declared
present_declared : (count absent from places member : ℕ)
    → is_member (map (is_present count absent) (range_with_len from places)) member ≡ true → from + member < count
present_declared count absent from zero member within = cc
present_declared count absent from (suc places) zero within =
    let both = and_parts (nat_lt from count) (bit_at absent from == 0) within in
    omega (arith, ltb-true from count both.0)
present_declared count absent from (suc places) (suc member) within =
    omega (arith, present_declared count absent (from + 1) places member within)

first_declared : (count absent : ℕ) → AreDeclared count (opening_roster count absent)
first_declared count absent member within = omega (arith, present_declared count absent 0 16 member within)

-- a failed mapping that is logged: of a participant that is there, at a call at which its mapper may answer so
pub record IsFailureOf (at : GlobalState) (participant call addr : ℕ) (got : MapAnswer) (kept : Option Ask) : Type 0 where
  pub seat : Seat
  pub there : slice_get at.seats participant ≡ Some seat
  pub fails : FailsFor seat.party.maps.may_fail call addr got kept

module _ (count absent : ℕ) (pools : List PoolLine) (first now : GlobalState) (is : IsFirst count absent pools first)
    (runs : Runs count first now) (deadline : ℕ)
    (waits : (who : ℕ) (seat : Seat) → slice_get now.seats who ≡ Some seat → seat.party.deadline ≡ deadline) where
  abbrev may_fail : ℕ → Option (List FailingCall)
  may_fail = may_fail_of now

  -- by judges that deny only so
  changed_by : (denies : Denials) → MayDenyByLines denies now → Changes count deadline may_fail denies first.segs now.segs
  changed_by denies within =
      (runs_behind count deadline may_fail denies absent pools first is (set_so count deadline first now runs waits) runs within).changed

  -- whatever they deny
  changed : Changes count deadline may_fail anything first.segs now.segs
  changed = changed_by anything (λ who seat there socket total answer may. tt)

  -- where no growth is open, each was asked for
  pub asked_for : now.segs.growth ≡ None → AreAskedFor now.segs
  asked_for alone =
      ended_all now.segs alone
      (changes_asked count deadline may_fail anything first.segs now.segs changed
      (subst AreEndedAskedFor (sym is.segs) (opening_asked pools count absent)))

  -- each refusal has its cause in the workload, where all lines that have ended are lines of it
  pub causes : (workload : Workload) → count ≡ workload.participants → deadline ≡ workload.deadline
      → ((who : ℕ) (seat : Seat) → slice_get now.seats who ≡ Some seat → AreLinesIn workload seat.lines)
      → All (IsRefusedIn workload) now.segs.asks
  causes workload same own ended =
      (changes_caused workload may_fail first.segs now.segs
      (subst (λ count. Changes count workload.deadline may_fail (denies_in workload) first.segs now.segs) same
      (subst (λ deadline. Changes count deadline may_fail (denies_in workload) first.segs now.segs) own
      (changed_by (denies_in workload) (λ who seat there. lines_in workload seat.lines (ended who seat there)))))
      (subst (AreCaused workload may_fail) (sym is.segs) at_first)).causes
    where
      at_first : AreCaused workload may_fail (opening pools count absent)
      at_first = record {
        causes = All-nil (IsRefusedIn workload);
        own = subst (λ declared. AreOwnFailures declared may_fail (opening pools count absent)) same
            (opening_own count absent may_fail pools);
        declared = subst (λ declared. AreDeclared declared (opening_roster count absent)) same (first_declared count absent);
      }

  -- who is in the roster is declared
  pub members_declared : AreDeclared count now.segs.roster
  members_declared =
      changes_declared count deadline may_fail anything first.segs now.segs changed
      (subst (λ segs. AreDeclared count segs.roster) (sym is.segs) (first_declared count absent))

  -- so nobody else is
  pub nobody_else : (who : ℕ) → count ≤ who → is_member now.segs.roster who ≡ false
  nobody_else who beyond = by_place (is_member now.segs.roster who) refl
    where
      by_place : (in_it : Bool) → is_member now.segs.roster who ≡ in_it → is_member now.segs.roster who ≡ false
      by_place true within = absurd (omega (arith, beyond, members_declared who within))
      by_place false out = out

  failures : AreOwnFailures count may_fail now.segs
  failures =
      changes_own count may_fail deadline anything first.segs now.segs changed
      (subst (AreOwnFailures count may_fail) (sym is.segs) (opening_own count absent may_fail pools))

  -- a failed mapping was of a participant, at a call at which its mapper may answer so
  pub fails_by_reason : (entry : AskLog) → Contains now.segs.asks entry → (participant call addr : ℕ) (got : MapAnswer)
      → entry.outcome ≡ Refused (MapFailed participant call addr got) → IsFailureOf now participant call addr got entry.ask
  fails_by_reason entry logged participant call addr got its =
      let own : FailsAsMay count may_fail entry.ask (Refused (MapFailed participant call addr got)) =
      subst (FailsAsMay count may_fail entry.ask) its
      (All-contains (EntryFailsAsMay count may_fail) now.segs.asks entry failures.logged logged) in
      let one = seat_at now.seats participant (omega (arith, own.0, count_along runs, is.seats)) in
      record {
        seat = one.seat;
        there = one.there;
        fails = subst (λ (found : Option Seat). FailsFor (may_fail_in found) call addr got entry.ask) one.there own.1;
      }

  -- the pools stay
  pub pools_stay : now.segs.pools ≡ first.segs.pools
  pools_stay = (changes_stay count deadline may_fail anything first.segs now.segs changed).pools
