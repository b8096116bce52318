-- After the last line all serve on: they have done the same lines.
use Rattle.std.proofs.Common.{◌≡◌, ◌∙◌, ℕ, ◌<◌, Bool, false, List, length, Some, sym, ap, subst, arith}
use Rattle.std.specs.Option.{option_map}
use Rattle.std.proofs.lemmas.Option.{slice_get_within}
use Rattle.hp_events.specs.declared.validator.Validator.{Validator}
use Rattle.hp_plain.specs.Course.{IsCourse}
use Rattle.hp_plain.specs.HallView.{IsHome, slot_at}
use Rattle.hp_plain.specs.Opening.{AreHome}
use Rattle.hp_script.specs.declared.answer.Answer.{Answer}
use Rattle.hp_script.specs.declared.line.Line.{Line}
use Rattle.hp_script.specs.declared.workload.Workload.{Workload}
use Rattle.hp_proc.specs.Courses.{Standing}
use Rattle.hp_serve.specs.Party.{Party}
use Rattle.hp_solo.specs.Draining.{Drains}
use Rattle.hp_solo.specs.Sequence.{going_place}
use Rattle.hp_solo.specs.Solo.{AreLater, IsSolo, IsTiedAt, AloneView, SoloView, has_stopped, party_in, server_at}
use Rattle.hp_solo.proofs.SoloDrained.{none_stopped}
use Rattle.thm_run.specs.Drops.{DropsRest}
use Rattle.thm_run.specs.EndLaws.{IsGiven, OthersServe, RestsSoFar}
use Rattle.thm_run.specs.Freed.{ShownRest}
use Rattle.thm_run.specs.Handing.{JudgedRests}
use Rattle.thm_run.specs.SoFar.{standing_of}
use Rattle.thm_causes.specs.InTime.{RestsHearInTime}
use Rattle.thm_causes.specs.Threads.{ArePlaces, OneThread, validators_left}
use Rattle.hp_run.specs.Running.{FailAsBefore, HaveDoneLines}
use Rattle.hp_run.proofs.NextLine.{all_count}
use Rattle.hp_run.proofs.Beside.{served_filled, served_so}
use Rattle.hp_run.proofs.OneMore.{fail_alike}
use Rattle.hp_run.proofs.Places.{IsFilled, filled_places, party_there, place_at, there_below}

module _ (workload : Workload) (lines : List Line) (answers : List Answer) (old new : SoloView) (law : RestsSoFar) (drops : DropsRest)
    (shown : ShownRest) (in_time : RestsHearInTime) (judges : JudgedRests) (given : IsGiven workload)
    (was : HaveDoneLines workload lines answers old) (course : IsCourse old.plain new.plain) (later : AreLater old new)
    (drains : has_stopped new.servers ≡ false → Drains old new)
    (home : (number : ℕ) → IsHome (slot_at old.plain number) → IsHome (slot_at new.plain number)) (sound : IsSolo new)
    (going : has_stopped new.servers ≡ false) where
  -- what the lines of each have left, and with that its validators
  abbrev left : ℕ → Standing
  left who = standing_of workload who was.courses

  abbrev validators : ℕ → List (Validator Bool)
  validators = validators_left workload was.courses

  filled : (who : ℕ) (server : AloneView) → server_at new.servers who ≡ Some server → IsFilled (validators who) server
  filled who server there =
      served_filled old new (left who) was.parties who (place_at validators old.servers was.parties was.are who) later server there
      (none_stopped new.servers who server going there)

  behind : (behind : List Party) × ArePlaces validators new.servers behind
  behind = filled_places validators new.servers filled

  count : length old.plain.owns ≡ workload.participants
  count = all_count workload was.courses was.parties old.plain was.so_far

  all_serve : OthersServe (λ who. ⊥) (length old.plain.owns) left old.plain new.plain was.parties behind.0
  all_serve = λ who party after apart there at.
      let place : server_at new.servers who ≡ Some (going_place (validators who) after) =
      place_at validators new.servers behind.0 behind.1 who ∙ ap (option_map (going_place (validators who))) at in
      let so = served_so old new (left who) was.parties who (place_at validators old.servers was.parties was.are who) later party after there
      place in
      let tied : IsTiedAt new.plain who after = sound.tied who after (ap party_in place) in
      record { served = so.0; same = so.1; tied = tied.tied.table; left = tied.tied.left }

  as_before : length behind.0 ≡ length was.parties
  as_before =
      sym behind.1.count ∙ sound.count ∙ course.count ∙ count ∙ sym was.so_far.count

  all_home : AreHome new.plain
  all_home number below = home number (was.so_far.home number below)

  pub rests_so : HaveDoneLines workload lines answers new × FailAsBefore old.servers new.servers
  rests_so =
      let rested =
      law workload was.courses was.parties behind.0 old.plain new.plain given was.so_far as_before
      (subst (λ (count : ℕ). OthersServe (λ who. ⊥) count left old.plain new.plain was.parties behind.0) count all_serve) all_home course in (
        record {
          parties = behind.0;
          courses = was.courses;
          are = behind.1;
          so_far = rested.0;
          lines_are = was.lines_are;
          answered = was.answered;
          thread = record {
            first = was.thread.first;
            opens = was.thread.opens;
            thread = OneThread.rests was.courses old new was.thread.thread (drains going);
          };
          drops = λ segs at nothing.
              drops workload was.courses was.parties behind.0 old.plain new.plain was.so_far.now.segs segs given was.so_far as_before
              (subst (λ (count : ℕ). OthersServe (λ who. ⊥) count left old.plain new.plain was.parties behind.0) count all_serve) all_home
              course was.so_far.its_segs at (was.drops was.so_far.now.segs was.so_far.its_segs nothing);
          shown = λ segs at may.
              shown workload was.courses was.parties behind.0 old.plain new.plain was.so_far.now.segs segs given was.so_far as_before
              (subst (λ (count : ℕ). OthersServe (λ who. ⊥) count left old.plain new.plain was.parties behind.0) count all_serve) all_home
              course was.so_far.its_segs at
              (in_time workload was.thread.first old new was.courses was.so_far.now.segs segs was.thread.opens was.thread.thread (drains going)
              may was.so_far.its_segs at)
              (was.shown was.so_far.now.segs was.so_far.its_segs may);
          judged = λ segs at.
              judges workload was.courses was.parties behind.0 old.plain new.plain was.so_far.now.segs segs given was.so_far course
              was.so_far.its_segs at (was.judged was.so_far.now.segs was.so_far.its_segs);
          counted = was.counted;
        },
        fail_alike old.servers new.servers was.parties behind.0 was.are behind.1 rested.1,
      )

-- mappers may fail as before over two stretches of a run
pub fail_then : (workload : Workload) (early late : List Line) (given more : List Answer) (a b c : SoloView)
    → HaveDoneLines workload early given a → HaveDoneLines workload late more b → FailAsBefore a.servers b.servers
    → FailAsBefore b.servers c.servers → FailAsBefore a.servers c.servers
fail_then workload early late given more a b c was next here there = λ who party after began ended.
    let within : who < length was.parties =
    slice_get_within was.parties who party (sym (party_there a.servers was.parties was.are who) ∙ began) in
    let mid = there_below next.parties who (omega (arith, within, was.so_far.count, next.so_far.count)) in
    let between = party_there b.servers next.parties next.are who ∙ mid.1 in
    there who mid.0 after between ended ∙ here who party mid.0 began between
