-- Between any two lines of a run in one thread, and after the last one, its hall is a quiet world, and nothing is owed.
use Rattle.std.proofs.Common.{◌≡◌, ◌∙◌, ◌+◌, ◌*◌, ◌≤◌, ◌^◌, ◌++◌, List, [], ◌∷◌, length, Some, sym, ap, arith, length-append}
use Rattle.std.proofs.lemmas.Option.{same_Some}
use Rattle.hp_base.specs.declared.limits.TheConstants.{MAX_HEAPS}
use Rattle.hp_plain.specs.HallView.{segs_in, slot_at}
use Rattle.hp_script.specs.declared.answer.Answer.{Answer}
use Rattle.hp_script.specs.declared.line.Line.{Line}
use Rattle.hp_script.specs.declared.workload.Workload.{Workload}
use Rattle.hp_segs.specs.SegsView.{SegsView}
use Rattle.hp_proc.specs.LinesDone.{Course}
use Rattle.hp_solo.specs.Solo.{SoloView}
use Rattle.thm_causes.specs.RoundTrip.{IsSetting, Setting}
use Rattle.thm_causes.specs.Lines.{ActsInQuiet, AreWaitsQuiet, LinesOweNothing}
use Rattle.thm_causes.specs.Threads.{DoesInTurn, LeadInQuiet, MayRun, OneThread, OpensThread, setting_of}
use Rattle.thm_causes.proofs.ThreadRuns.ThreadsDrain.{drains_in_quiet}
use Rattle.thm_causes.proofs.ThreadRuns.ThreadsLine.{IsQuietAt, quiet_behind}
use Rattle.thm_causes.proofs.ThreadRuns.ThreadsOpen.{at_first, first_world, quiet_first}

-- between two lines: the hall is a quiet world, and no line has raised the clock by more than its bound
pub record IsBetween (set : Setting) (courses : List Course) (hall : SoloView) : Type 0 where
  pub at : IsQuietAt set hall
  pub clock : hall.plain.clock ≤ length courses * 2 ^ 40

module _ (workload : Workload) (first : SoloView) (know : LeadInQuiet) (sets : IsSetting (setting_of workload)) where
  abbrev set : Setting
  set = setting_of workload

  -- one line more
  line_more : (courses : List Course) (course : Course) (line : Line) (answer : Answer) (old new : SoloView) → IsBetween set courses old
      → DoesInTurn line answer old new → length (courses ++ course ∷ []) ≤ 20000 → IsBetween set (courses ++ course ∷ []) new
  line_more courses course line answer old new was does few =
      let long : length (courses ++ course ∷ []) ≡ length courses + 1 = length-append courses (course ∷ []) in
      let gone : does.away.plain.clock ≡ old.plain.clock = ap (λ (hall : SoloView). hall.plain.clock) does.gone in
      let early : does.back.plain.clock ≤ 2 ^ 62 = omega (arith, was.clock, does.rises, few, long, gone) in
      let same : new.plain.clock ≡ does.back.plain.clock = ap (λ (hall : SoloView). hall.plain.clock) does.new_is in
      record {
        at = quiet_behind set sets know.waits know.acts know.owing line answer old new was.at.world was.at.its was.at.quiet does early;
        clock = omega (arith, was.clock, does.rises, long, same, gone);
      }

  -- so it is between any two lines
  between : (courses : List Course) (hall : SoloView) → IsBetween set [] first → OneThread first courses hall → length courses ≤ 20000
      → IsBetween set courses hall
  between _ _ opens OneThread.opens few = opens
  between _ _ opens (OneThread.goes_on courses line answer old new before does) few =
      let one : Course = record { line = line; answer = answer; trace = does.does.does.trace } in
      let long : length (courses ++ one ∷ []) ≡ length courses + 1 = length-append courses (one ∷ []) in
      line_more courses one line answer old new (between courses old opens before (omega (arith, few, long))) does few
  between _ _ opens (OneThread.rests courses old new before drains) few =
      let was = between courses old opens before few in
      let its = know.drains set old new was.at.world sets was.at.its was.at.quiet.quiet drains in
      let same : new.plain.clock ≡ old.plain.clock = sym its.shared.clock ∙ was.at.its.shared.clock in
      record {
        at = record { world = was.at.world; its = its; quiet = was.at.quiet };
        clock = omega (arith, was.clock, same);
      }

module _ (workload : Workload) (courses : List Course) (may : MayRun workload courses) where
  -- what workloads say sets what does not change
  set_by : IsSetting (setting_of workload)
  set_by = record {
    some = may.given.primary;
    few = may.given.few;
    waits = may.waits;
    within = may.given.deadline;
    counted = may.counted;
  }

  opens_between : (first : SoloView) → OpensThread workload first → IsBetween (setting_of workload) [] first
  opens_between first opens =
      let its = at_first workload first may.given.few opens in
      let clock : 0 ≡ first.plain.clock = its.shared.clock in
      record {
        at = record {
          world = first_world workload opens.parties;
          its = its;
          quiet = quiet_first workload may.given opens.parties opens.count opens.each;
        };
        clock = omega (arith, clock);
      }

  -- so it is after the last line
  pub between_last : LeadInQuiet → (first last : SoloView) → OpensThread workload first → OneThread first courses last
      → IsBetween (setting_of workload) courses last
  between_last know first last opens thread =
      between workload first know set_by courses last (opens_between first opens) thread may.few

  pub quiet_last : LeadInQuiet → (first last : SoloView) → OpensThread workload first → OneThread first courses last
      → IsQuietAt (setting_of workload) last
  quiet_last know first last opens thread = (between_last know first last opens thread).at

-- the segment value of such a world is the hall's
pub same_segs : (setting : Setting) (hall : SoloView) (segs : SegsView) (at : IsQuietAt setting hall)
    → segs_in (slot_at hall.plain MAX_HEAPS) ≡ Some segs → at.world.shared.segs ≡ segs
same_segs setting hall segs at shown = same_Some at.world.shared.segs segs (sym at.its.shared.segs ∙ shown)

-- by what waits make of a quiet world, lines, and what lines owe
pub leads_by : AreWaitsQuiet → ActsInQuiet → LinesOweNothing → LeadInQuiet
leads_by waits acts owing = record { waits = waits; acts = acts; owing = owing; drains = drains_in_quiet }
