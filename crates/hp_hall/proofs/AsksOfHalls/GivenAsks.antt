-- What a give of the segment value leaves of asks, whichever its form: settled asks are so, who is armed was so or is the giver with a heap in
-- hand, and runs that no heap has claimed are of armed asks, each alone for its heap, and the last one of that.
use Rattle.std.proofs.Common.{◌≡◌, ◌≢◌, ℕ, zero, suc, Bool, true, List, [], ◌∷◌, Option, Some, None, sym, ap, ◌∙◌, inl, inr, ◌⊎◌, ⊎_elim}
use Rattle.std.specs.Option.{IsSome}
use Rattle.std.specs.Prelude.{is_some}
use Rattle.std.specs.Prelude.{slice_get, slice_index_or}
use Rattle.std.proofs.lemmas.Bool.{cases_eq}
use Rattle.hp_segs.specs.LaterSteps.{armed_ask}
use Rattle.hp_segs.specs.PendingRuns.{ArePending}
use Rattle.hp_segs.specs.SegsView.{SegsView}
use Rattle.hp_segs.specs.SettledAsks.{IsSettled}
use Rattle.hp_segs.specs.Sound.{IsSound}
use Rattle.hp_segs.specs.Standing.{IsArmed}
use Rattle.hp_segs.specs.declared.ask.Ask.{Ask}
use Rattle.hp_hall.specs.AskLaws.{LeavesPending, LeavesSettled}
use Rattle.hp_hall.specs.Giving.{Knows, GivesForm, claims_ranges, logs, enrols, owns}
use Rattle.hp_hall.proofs.AsksOfHalls.LogAsks.{held_is_alone, log_calls_settle, log_gives_leave}
use Rattle.hp_hall.proofs.AsksOfHalls.OwnerAsks.{owner_calls_settle, owner_gives_leave}
use Rattle.hp_hall.proofs.AsksOfHalls.RosterAsks.{range_calls_settle, range_gives_leave, roster_calls_settle, roster_gives_leave}
use Rattle.hp_hall.proofs.StandingFacts.StandingMoves.{owner_calls_leave, range_calls_leave, roster_calls_leave}

-- the giver is armed with an ask for a heap that it holds
abbrev pub ArmsForHeld : Knows → ℕ → Ask → Type 0
ArmsForHeld knows who ask = (who ≡ knows.who) × IsSome (knows.part ask.heap).holding

module _ (knows : Knows) (before kept : SegsView) where
  pub settled_given : IsSound before → IsSound kept → IsArmed before → GivesForm knows before kept → LeavesSettled before kept
  settled_given sound sound' armed (logs form) = log_calls_settle before kept sound sound' armed form.give.moved
  settled_given sound sound' armed (enrols form) = roster_calls_settle before kept form.moved
  settled_given sound sound' armed (owns form) = owner_calls_settle before kept form.give.moved
  settled_given sound sound' armed (claims_ranges form) = range_calls_settle before kept form.give.moved

  pub armed_by_give : GivesForm knows before kept → (who : ℕ) (ask : Ask) → armed_ask kept who ≡ Some ask
      → (armed_ask before who ≡ Some ask) ⊎ ArmsForHeld knows who ask
  armed_by_give (logs form) who ask is =
      ⊎_elim
      (λ (same : who ≡ knows.who).
      ⊎_elim
      (λ (was : armed_ask before knows.who ≡ Some ask). inl (ap (armed_ask before) same ∙ was))
      (λ (holds : IsSome (knows.part ask.heap).holding). inr (same, holds))
      (form.arms.for_held ask (sym (ap (armed_ask kept) same) ∙ is)))
      (λ (apart : who ≢ knows.who). inl (sym (form.arms.others who apart) ∙ is))
      (cases_eq who knows.who)
  armed_by_give (enrols form) who ask is = inl (sym ((roster_calls_leave 0 before kept form.moved).armed who) ∙ is)
  armed_by_give (owns form) who ask is =
      inl
      (sym (ap (λ (armed : List (Option Ask)). slice_index_or armed who None) (owner_calls_leave 0 before kept form.give.moved).armed) ∙ is)
  armed_by_give (claims_ranges form) who ask is = inl (sym ((range_calls_leave 0 before kept form.give.moved).armed who) ∙ is)

  -- where each armed ask is settled, or its participant has the heap of it in hand, and no two have one heap
  pub pending_given : IsSound before → IsSound kept → IsArmed before → GivesForm knows before kept → (holds : ℕ → ℕ → Bool)
      → ((who : ℕ) (ask : Ask) → armed_ask kept who ≡ Some ask → IsSettled ask.from ask.number kept ⊎ (holds who ask.heap ≡ true))
      → ((who other heap : ℕ) → holds who heap ≡ true → holds other heap ≡ true → who ≡ other) → ArePending before → ArePending kept
  pending_given sound sound' armed (logs form) holds asking one old =
      let leaves : LeavesPending kept =
      log_gives_leave knows.who (λ heap. is_some (knows.part heap).holding) before kept sound sound' armed form.give.moved form.arms old in
      record {
        of_armed = leaves.of_armed;
        alone = held_is_alone kept holds sound' (form.arms.of_armed armed) leaves.of_armed asking one;
        last = leaves.last;
      }
  pending_given sound sound' armed (enrols form) holds asking one old = roster_gives_leave before kept form.moved old
  pending_given sound sound' armed (owns form) holds asking one old = owner_gives_leave before kept form.give.moved old
  pending_given sound sound' armed (claims_ranges form) holds asking one old = range_gives_leave before kept form.give.moved old

-- a participant is armed with an ask of its own
asker_by : (armed : List (Option Ask)) (who : ℕ) (ask : Ask) → slice_index_or armed who None ≡ Some ask → slice_get armed who ≡ Some (Some ask)
asker_by [] who ask is = cc
asker_by (first ∷ armed) zero ask is = ap (λ (a : Option Ask). Some a) is
asker_by (first ∷ armed) (suc who) ask is = asker_by armed who ask is

pub asker_is : (segs : SegsView) (who : ℕ) (ask : Ask) → IsSound segs → armed_ask segs who ≡ Some ask → ask.from ≡ who
asker_is segs who ask sound is = sound.places.own who ask (asker_by segs.armed who ask is)
