-- In no line of a run in one thread does an outcome come late, and none comes after the last one: its quiet world may be told by the outcomes
-- that there are when the line begins, and the line leads it to a quiet one by these.
use Rattle.std.proofs.Common.{◌≡◌, ◌∙◌, ℕ, ◌+◌, ◌<◌, ◌≤◌, ◌^◌, ⊎_elim, true, List, [], ◌∷◌, ◌++◌, length, map, Option, Some, sym, ap, subst, arith, length-append}
use Rattle.std.specs.Prelude.{slice_get}
use Rattle.std.specs.List.{list_any}
use Rattle.std.specs.Option.{option_map_or}
use Rattle.std.proofs.lemmas.Bool.{cases_lt}
use Rattle.hp_base.specs.declared.limits.TheConstants.{MAX_HEAPS}
use Rattle.hp_plain.specs.HallView.{segs_in, slot_at}
use Rattle.hp_proc.specs.Courses.{numbered_in}
use Rattle.hp_proc.specs.LinesDone.{Course, trace_of}
use Rattle.hp_script.specs.declared.answer.Answer.{Answer}
use Rattle.hp_script.specs.declared.line.Line.{Line}
use Rattle.hp_script.specs.declared.workload.Workload.{Workload}
use Rattle.hp_segs.specs.SegsView.{SegsView, is_outcome_for}
use Rattle.hp_segs.specs.declared.outcome.AskLog.{AskLog}
use Rattle.hp_serve.specs.Party.{Party}
use Rattle.hp_solo.specs.Solo.{SoloView}
use Rattle.thm_run.specs.Drops.{numbers_made}
use Rattle.thm_run.specs.Freed.{NoneComesLate}
use Rattle.thm_run.specs.SoFar.{SoFar}
use Rattle.thm_run.proofs.WhatWentBack.GoneSoFar.{none_of_others}
use Rattle.thm_run.proofs.RunFacts.SoFarFacts.{at_place}
use Rattle.thm_causes.specs.RoundTrip.{IsBase, IsSetting, Setting, RunState}
use Rattle.thm_causes.specs.InTime.{LinesHearInTime, RestsHearInTime}
use Rattle.thm_causes.specs.Quiet.{IsQuietState}
use Rattle.thm_causes.specs.Threads.{ArePlaces, DoesInTurn, LeadInQuiet, MayRun, OneThread, OpensThread, setting_of, validators_left}
use Rattle.thm_causes.proofs.Owing.NoticesHeard.{made_within}
use Rattle.thm_causes.proofs.ThreadRuns.ThreadsBetween.{IsBetween, between_last, quiet_last, same_segs}
use Rattle.thm_causes.proofs.ThreadRuns.ThreadsLine.{IsQuietAt, quiet_behind}
use Rattle.thm_causes.proofs.Placed.{placed}

-- SINCE ANOTHER MOMENT

-- how many asks and notices a participant of a world has made
abbrev pub asked_in : RunState → ℕ → ℕ
asked_in world who = option_map_or (λ (party : Party). party.asked) (slice_get world.parties who) 0

-- what does not change from a world on
abbrev pub set_since : Setting → RunState → Setting
set_since set world = record {
  count = set.count;
  deadline = set.deadline;
  plan = set.plan;
  was = world.shared.segs.asks;
  made = asked_in world;
}

sets_since : (set : Setting) (world : RunState) → IsSetting set → IsSetting (set_since set world)
sets_since set world sets =
    record { some = sets.some; few = sets.few; waits = sets.waits; within = sets.within; counted = sets.counted }

module _ (set : Setting) (world : RunState) (quiet : IsQuietState set world) where
  base_since : IsBase (set_since set world) world
  base_since =
      let base = quiet.base in
      record {
        boxes = base.boxes;
        numbers = base.numbers;
        mail = base.mail;
        parties = base.parties;
        said = base.said;
        sound = base.sound;
        armed = base.armed;
        primary = base.primary;
        declared = base.declared;
        places = λ who party found.
            let its = base.places who party found in
            record {
              me = its.me;
              deadline = its.deadline;
              plan = its.plan;
              joined = its.joined;
              number = its.number;
              within = its.within;
              granted = its.granted;
              failed = its.failed;
              closed = its.closed;
              follower = its.follower;
              syncs = its.syncs;
            };
        noted = base.noted;
        excused = λ who primary party first found.
            let its = base.excused who primary party first found in
            record { late = its.late; withdrawn = its.withdrawn };
        apart = base.apart;
      }

  quiet_since : IsQuietState (set_since set world) world
  quiet_since = record {
    base = base_since;
    idle = quiet.idle;
    growth = quiet.growth;
    empty = quiet.empty;
    doubled = quiet.doubled;
    told = quiet.told;
    in_time = λ who party found.
        let made : asked_in world who ≡ party.asked = ap (λ (place : Option Party). option_map_or (λ (party : Party). party.asked) place 0) found in
        record { before = omega (arith, made); still = λ number some within heard. heard };
    level = quiet.level;
  }

-- A LINE

module _ (workload : Workload) (courses : List Course) (parties : List Party) (old new : SoloView) (was now : SegsView)
    (at : IsQuietAt (setting_of workload) old) (after : IsQuietAt (set_since (setting_of workload) at.world) new)
    (so : SoFar workload courses parties old.plain) (are : ArePlaces (validators_left workload courses) old.servers parties)
    (was_at : segs_in (slot_at old.plain MAX_HEAPS) ≡ Some was) (now_at : segs_in (slot_at new.plain MAX_HEAPS) ≡ Some now) where
  abbrev Heard : ℕ → ℕ → List AskLog → Type 0
  Heard who number asks = list_any (is_outcome_for who number) asks ≡ true

  was_asks : at.world.shared.segs.asks ≡ was.asks
  was_asks = ap (λ (segs : SegsView). segs.asks) (same_segs (setting_of workload) old was at was_at)

  now_asks : after.world.shared.segs.asks ≡ now.asks
  now_asks = ap (λ (segs : SegsView). segs.asks) (same_segs (set_since (setting_of workload) at.world) new now after now_at)

  -- of a participant that takes part
  declared : (who : ℕ) → who < workload.participants → (number : ℕ) → 0 < number → number ≤ numbers_made who courses
      → Heard who number now.asks → Heard who number was.asks
  declared who below number some within heard =
      let its = at_place parties who (omega (arith, below, so.count)) in
      let here : slice_get at.world.parties who ≡ Some its.it = at.its.all who ∙ placed (validators_left workload courses) old.servers parties are who ∙ its.there in
      let made = made_within _ _ who 0 its.it.asked _ (so.each who its.it its.there).asked in
      let asked : asked_in at.world who ≡ its.it.asked =
      ap (λ (place : Option Party). option_map_or (λ (party : Party). party.asked) place 0) here in
      let then = at_place after.world.parties who (omega (arith, below, after.quiet.quiet.base.parties)) in
      let still = (after.quiet.quiet.in_time who then.it then.there).still number some (omega (arith, within, made, asked))
      (subst (Heard who number) (sym now_asks) heard) in
      subst (Heard who number) was_asks still

  -- and of any other
  other : (who : ℕ) → workload.participants ≤ who → (number : ℕ) → 0 < number → number ≤ numbers_made who courses
      → Heard who number now.asks → Heard who number was.asks
  other who beyond number some within heard =
      let none : numbers_made who courses ≡ 0 =
      ap (λ (courses : List Course). length (numbered_in (trace_of courses)))
      (none_of_others workload.participants who courses beyond so.built) in
      absurd (omega (arith, some, within, none))

  none_late : NoneComesLate courses was.asks now.asks
  none_late who =
      ⊎_elim (λ (below : who < workload.participants). declared who below) (λ (beyond : workload.participants ≤ who). other who beyond)
      (cases_lt who workload.participants)

module _ (workload : Workload) (courses : List Course) (line : Line) (answer : Answer) (first old new : SoloView) (know : LeadInQuiet)
    (opens : OpensThread workload first) (thread : OneThread first courses old) (does : DoesInTurn line answer old new) where
  abbrev one : Course
  one = record { line = line; answer = answer; trace = does.does.does.trace }

  module _ (may : MayRun workload (courses ++ one ∷ [])) where
    long : length (courses ++ one ∷ []) ≡ length courses + 1
    long = length-append courses (one ∷ [])

    pub before : MayRun workload courses
    before = record { given = may.given; waits = may.waits; few = omega (arith, may.few, long); counted = may.counted }

    abbrev at : IsBetween (setting_of workload) courses old
    at = between_last workload courses before know first old opens thread

    sets : IsSetting (setting_of workload)
    sets = record {
      some = may.given.primary;
      few = may.given.few;
      waits = may.waits;
      within = may.given.deadline;
      counted = may.counted;
    }

    -- the line leads on from its quiet world, by the outcomes that there were
    pub after_line : IsQuietAt (set_since (setting_of workload) at.at.world) new
    after_line =
        let gone : does.away.plain.clock ≡ old.plain.clock = ap (λ (hall : SoloView). hall.plain.clock) does.gone in
        let early : does.back.plain.clock ≤ 2 ^ 62 = omega (arith, at.clock, does.rises, may.few, long, gone) in
        quiet_behind (set_since (setting_of workload) at.at.world) (sets_since (setting_of workload) at.at.world sets) know.waits know.acts
        know.owing line answer old new at.at.world at.at.its
        (record { quiet = quiet_since (setting_of workload) at.at.world at.at.quiet.quiet; gone = at.at.quiet.gone }) does early

    pub line_in_time : (parties : List Party) (was now : SegsView) → SoFar workload courses parties old.plain
        → ArePlaces (validators_left workload courses) old.servers parties → segs_in (slot_at old.plain MAX_HEAPS) ≡ Some was
        → segs_in (slot_at new.plain MAX_HEAPS) ≡ Some now → NoneComesLate courses was.asks now.asks
    line_in_time parties was now so are was_at now_at =
        none_late workload courses parties old new was now at.at after_line so are was_at now_at

-- of every run
pub lines_hear_in_time : LeadInQuiet → LinesHearInTime
lines_hear_in_time know workload first old new courses parties line answer was now opens thread does may so are was_at now_at =
    line_in_time workload courses line answer first old new know opens thread does may parties was now so are was_at now_at

-- turns after the last line leave all as it was
pub rests_hear_in_time : LeadInQuiet → RestsHearInTime
rests_hear_in_time know workload first old new courses was now opens thread drains may was_at now_at who number some within heard =
    let set = setting_of workload in
    let at = quiet_last workload courses may know first old opens thread in
    let sets : IsSetting set = record {
      some = may.given.primary;
      few = may.given.few;
      waits = may.waits;
      within = may.given.deadline;
      counted = may.counted;
    } in
    let its = know.drains set old new at.world sets at.its at.quiet.quiet drains in
    let then : IsQuietAt set new = record { world = at.world; its = its; quiet = at.quiet } in
    let same : now.asks ≡ was.asks =
    ap (λ (segs : SegsView). segs.asks) (sym (same_segs set new now then now_at) ∙ same_segs set old was at was_at) in
    ap (list_any (is_outcome_for who number)) (sym same) ∙ heard
