-- What a give of the segment value leaves, whichever its form: what the heaps have that its giver does not hold, and the asks of the others.
use Rattle.std.proofs.Common.{◌≡◌, ◌≢◌, ◌⊎◌, ◌∙◌, ℕ, Bool, true, false, List, Contains, Option, None, sym, ap, subst, inl, inr, ⊎_elim}
use Rattle.std.proofs.lemmas.Bool.{false≢true}
use Rattle.std.specs.Prelude.{slice_index_or}
use Rattle.hp_segs.specs.LaterSteps.{armed_ask}
use Rattle.hp_segs.specs.Moved.{Appends, SegsCall, Leads, is_log_call, is_owner_call, is_range_call, is_roster_call}
use Rattle.hp_segs.specs.SegsView.{SegsView, is_member}
use Rattle.hp_segs.specs.Sound.{IsSound}
use Rattle.hp_segs.specs.declared.ask.Ask.{Ask}
use Rattle.hp_segs.specs.declared.external_range.ExternalRange.{ExternalRange}
use Rattle.hp_segs.proofs.Appending.{moves_append}
use Rattle.hp_segs.proofs.FormCalls.{range_form_leaves}
use Rattle.hp_hall.specs.Giving.{GivesForm, Knows, MayRelease, claims_ranges, logs, enrols, owns}
use Rattle.hp_segs.specs.Standing.{IsArmed, standing_of}
use Rattle.hp_hall.proofs.Beside.{Beside, Logged, Shared, log_calls_beside, owner_calls_shared, roster_calls_logged, roster_logged, roster_owned}
use Rattle.hp_hall.proofs.StandingFacts.StandingMoves.{log_calls_leave, owner_calls_leave, range_calls_leave, roster_calls_leave}

module _ (knows : Knows) (before kept : SegsView) where
  pub calls_given : GivesForm knows before kept → (calls : List SegsCall) × Leads calls before kept
  calls_given (logs form) = (form.give.moved.calls, form.give.moved.leads)
  calls_given (enrols form) = (form.moved.calls, form.moved.leads)
  calls_given (owns form) = (form.give.moved.calls, form.give.moved.leads)
  calls_given (claims_ranges form) = (form.give.moved.calls, form.give.moved.leads)

  pub appends_given : GivesForm knows before kept → Appends before kept
  appends_given (logs form) = moves_append is_log_call 1 before kept form.give.moved
  appends_given (enrols form) = moves_append is_roster_call 0 before kept form.moved
  appends_given (owns form) = moves_append is_owner_call 0 before kept form.give.moved
  appends_given (claims_ranges form) = moves_append is_range_call 0 before kept form.give.moved

  pub standing_given : IsSound before → GivesForm knows before kept → (heap : ℕ) → (knows.part heap).holding ≡ None
      → standing_of heap kept ≡ standing_of heap before
  standing_given sound (logs form) heap none = log_calls_leave 1 before kept sound form.give.moved heap
  standing_given sound (enrols form) heap none = (roster_calls_leave 0 before kept form.moved).standing heap
  standing_given sound (owns form) heap none = form.others heap none
  standing_given sound (claims_ranges form) heap none = (range_calls_leave 0 before kept form.give.moved).standing heap

  pub asks_given : GivesForm knows before kept → (who : ℕ) → who ≢ knows.who → armed_ask kept who ≡ armed_ask before who
  asks_given (logs form) who apart = form.arms.others who apart
  asks_given (enrols form) who apart = (roster_calls_leave 0 before kept form.moved).armed who
  asks_given (owns form) who apart =
      ap (λ (armed : List (Option Ask)). slice_index_or armed who None) (owner_calls_leave 0 before kept form.give.moved).armed
  asks_given (claims_ranges form) who apart = (range_calls_leave 0 before kept form.give.moved).armed who

  pub armed_given : GivesForm knows before kept → IsArmed before → IsArmed kept
  armed_given (logs form) armed = form.arms.of_armed armed
  armed_given (enrols form) armed = (roster_calls_leave 0 before kept form.moved).sound armed
  armed_given (owns form) armed = (owner_calls_leave 0 before kept form.give.moved).sound armed
  armed_given (claims_ranges form) armed = (range_calls_leave 0 before kept form.give.moved).sound armed

  -- nobody but the giver joins or leaves
  pub members_given : GivesForm knows before kept → (who : ℕ) → who ≢ knows.who → is_member kept.roster who ≡ is_member before.roster who
  members_given (logs form) who apart = ap (λ (l : List Bool). is_member l who) (roster_logged 1 before kept form.give.moved)
  members_given (enrols form) who apart = form.others who apart
  members_given (owns form) who apart = ap (λ (l : List Bool). is_member l who) (roster_owned 0 before kept form.give.moved)
  members_given (claims_ranges form) who apart = ap (λ (s : SegsView). is_member s.roster who) (range_form_leaves 0 before kept form.give.moved)

  -- external memory stays, unless the giver has the names in hand
  pub ranges_given : GivesForm knows before kept → knows.naming ≡ false → kept.ranges ≡ before.ranges
  ranges_given (logs form) none = ap (λ (b : Beside). b.ranges) (log_calls_beside 1 before kept form.give.moved)
  ranges_given (enrols form) none = ap (λ (l : Logged). l.ranges) (roster_calls_logged 0 before kept form.moved)
  ranges_given (owns form) none = ap (λ (s : Shared). s.ranges) (owner_calls_shared 0 before kept form.give.moved)
  ranges_given (claims_ranges form) none = absurd (false≢true (sym none ∙ form.naming))

  -- external memory is still claimed, but what one releases that has the names in hand, as it may
  pub claimed_still_by : GivesForm knows before kept → (range : ExternalRange) → Contains before.ranges range
      → Contains kept.ranges range ⊎ ((knows.naming ≡ true) × MayRelease knows range)
  claimed_still_by (logs form) range has =
      inl (subst (λ (l : List ExternalRange). Contains l range)
      (sym (ap (λ (b : Beside). b.ranges) (log_calls_beside 1 before kept form.give.moved))) has)
  claimed_still_by (enrols form) range has =
      inl (subst (λ (l : List ExternalRange). Contains l range)
      (sym (ap (λ (l : Logged). l.ranges) (roster_calls_logged 0 before kept form.moved))) has)
  claimed_still_by (owns form) range has =
      inl (subst (λ (l : List ExternalRange). Contains l range)
      (sym (ap (λ (s : Shared). s.ranges) (owner_calls_shared 0 before kept form.give.moved))) has)
  claimed_still_by (claims_ranges form) range has =
      ⊎_elim (λ (still : Contains kept.ranges range). inl still) (λ (may : MayRelease knows range). inr (form.naming, may))
      (form.released range has)
