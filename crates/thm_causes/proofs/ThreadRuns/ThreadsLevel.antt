-- In every run in one thread in which no message is lost nothing is left to do after the last line.
use Rattle.std.proofs.Common.{◌≡◌, ◌∙◌, ℕ, true, [], length, Some, refl, ap, subst}
use Rattle.hp_base.specs.declared.limits.TheConstants.{MAX_HEAPS}
use Rattle.hp_plain.specs.HallView.{segs_in, slot_at}
use Rattle.hp_segs.specs.SegsView.{SegsView}
use Rattle.hp_serve.specs.Party.{Party}
use Rattle.hp_solo.specs.Solo.{SoloView, party_at}
use Rattle.thm_causes.specs.Counting.{LosesNothing}
use Rattle.thm_causes.specs.RoundTrip.{IsInPlace, Setting, RunState, number_of_party}
use Rattle.thm_causes.specs.Threads.{IsAllDone, LeadInQuiet, ThreadsEndLevel, setting_of}
use Rattle.thm_causes.proofs.ThreadRuns.ThreadsBetween.{quiet_last, same_segs}
use Rattle.thm_causes.proofs.ThreadRuns.ThreadsLine.{IsQuietAt}

-- a hall is a quiet world in which nothing is owed, and no message is lost
module _ (set : Setting) (hall : SoloView) (segs : SegsView) (at : IsQuietAt set hall)
    (shown : segs_in (slot_at hall.plain MAX_HEAPS) ≡ Some segs) (nothing : LosesNothing set.plan) where
  abbrev world : RunState
  world = at.world

  same : world.shared.segs ≡ segs
  same = same_segs set hall segs at shown

  -- who is attached has taken in all records
  has_all : (who : ℕ) (party : Party) → party_at hall.servers who ≡ Some party → party.joined ≡ true
      → party.maps.number ≡ length segs.log
  has_all who party there joined =
      let place : IsInPlace set world who party = at.quiet.quiet.base.places who party (at.its.all who ∙ there) in
      let number : number_of_party world who ≡ length world.shared.segs.log = at.quiet.quiet.level nothing who (place.joined ∙ joined) in
      place.number joined ∙ number ∙ ap (λ (segs : SegsView). length segs.log) same

  pub all_done : IsAllDone segs hall.servers
  all_done = record {
    gone = subst (λ (segs : SegsView). segs.retiring ≡ []) same (at.quiet.gone nothing refl);
    level = has_all;
  }

-- of every run
pub threads_end_level : LeadInQuiet → ThreadsEndLevel
threads_end_level know workload first last courses parties segs may opens thread so shown nothing =
    all_done (setting_of workload) last segs (quiet_last workload courses may know first last opens thread) shown nothing
