-- What participants do of lines and serve, in the steps of a course, leads all of them on to where the hall is.
use Rattle.std.proofs.Common.{◌≡◌, ◌∙◌, ℕ, eqb, List, ◌++◌, length, map, Some, ap, sym, subst}
use Rattle.std.proofs.lemmas.List.{append_cancel_left, map-append}
use Rattle.std.specs.Prelude.{slice_get}
use Rattle.std.specs.List.{filter}
use Rattle.std.proofs.lemmas.List.Elements.{filter-append}
use Rattle.hp_plain.specs.Course.{IsCourse}
use Rattle.hp_plain.specs.HallView.{HallView, HasDone}
use Rattle.hp_hall.specs.Mail.{MailStep, steps_of}
use Rattle.hp_proc.specs.Courses.{Standing}
use Rattle.hp_proc.specs.Doing.{Done}
use Rattle.hp_serve.specs.Party.{Party}
use Rattle.thm_run.specs.Seats.{EndedLine, SeatTrace, Seat}
use Rattle.thm_run.specs.Together.{GlobalState}
use Rattle.thm_run.proofs.HallFacts.HallWay.{Begins, HasGone, has_gone}
use Rattle.thm_run.proofs.SeatFacts.LastSeats.{AllCameTo, CameTo, all_came}
use Rattle.thm_run.proofs.PathSteps.Paths.{Comes}

-- the steps that a participant did are those of the course
steps_of-append : (who : ℕ) (first second : List (ℕ × MailStep))
    → steps_of who (first ++ second) ≡ steps_of who first ++ steps_of who second
steps_of-append who first second =
    ap (map (λ (s : ℕ × MailStep). s.1)) (filter-append (λ (s : ℕ × MailStep). eqb s.0 who) first second)
    ∙ map-append (λ (s : ℕ × MailStep). s.1) (filter (λ (s : ℕ × MailStep). eqb s.0 who) first)
    (filter (λ (s : ℕ × MailStep). eqb s.0 who) second)

pub steps_done : (old new : HallView) (course : IsCourse old new) (who : ℕ) (steps : List MailStep) → HasDone old new who steps
    → steps_of who course.steps ≡ steps
steps_done old new course who steps done =
    append_cancel_left (steps_of who old.mail) (steps_of who course.steps) steps
    (sym (steps_of-append who old.mail course.steps) ∙ sym (ap (steps_of who) course.mail) ∙ done)

-- a participant came to this in the course of a hall, with that left by its lines, of which these ended, and this more in its trace
pub record IsLast (count : ℕ) (behind : List Party) (more : ℕ → List Done) (left : ℕ → Standing) (ended : ℕ → List EndedLine)
    (steps : List (ℕ × MailStep)) (who : ℕ) (seat last : Seat) : Type 0 where
  pub party : slice_get behind who ≡ Some last.party
  pub standing : last.standing ≡ left who
  pub lines : last.lines ≡ seat.lines ++ ended who
  pub trace : last.trace ≡ seat.trace ++ more who
  pub path : SeatTrace count who seat last (steps_of who steps)

pub came_by : (count who : ℕ) (behind : List Party) (more : ℕ → List Done) (left : ℕ → Standing) (ended : ℕ → List EndedLine)
    (steps : List (ℕ × MailStep)) (seat : Seat) (after : Party) (did : List MailStep) → slice_get behind who ≡ Some after → steps_of who steps ≡ did → Comes count who after (left who) (ended who) (more who) did seat
    → CameTo (IsLast count behind more left ended steps) who seat
came_by count who behind more left ended steps seat after did there same comes = record {
  last = comes.new;
  is = record {
    party = there ∙ ap Some (sym comes.party);
    standing = comes.standing;
    lines = comes.lines;
    trace = comes.trace;
    path = subst (λ (did : List MailStep). SeatTrace count who seat comes.new did) (sym same) comes.path;
  };
}

-- where all have come to
pub record AllCame (count : ℕ) (at : GlobalState) (behind : List Party) (more : ℕ → List Done) (left : ℕ → Standing)
    (ended : ℕ → List EndedLine) (new : HallView) : Type 0
  where
    pub lasts : List Seat
    pub size : length lasts ≡ length at.seats
    pub gone : HasGone count at lasts new
    pub were : (who : ℕ) (last : Seat) → slice_get lasts who ≡ Some last
        → (seat : Seat) × (slice_get at.seats who ≡ Some seat) × (slice_get behind who ≡ Some last.party)
        × (last.trace ≡ seat.trace ++ more who) × (last.standing ≡ left who) × (last.lines ≡ seat.lines ++ ended who)

module _ (count : ℕ) (at : GlobalState) (behind : List Party) (more : ℕ → List Done) (left : ℕ → Standing) (ended : ℕ → List EndedLine)
    (old new : HallView) (course : IsCourse old new)
    (begins : Begins count at old)
    (each : (who : ℕ) (seat : Seat) → slice_get at.seats who ≡ Some seat → CameTo (IsLast count behind more left ended course.steps) who seat) where
  came : AllCameTo (IsLast count behind more left ended course.steps) at.seats
  came = all_came (IsLast count behind more left ended course.steps) at.seats each

  pub all_have_come : AllCame count at behind more left ended new
  all_have_come = record {
    lasts = came.lasts;
    size = came.count;
    gone = has_gone count at came.lasts old new course begins (came.count ∙ begins.size)
        (λ who seat there.
        let its = came.each who seat there in
        record { last = its.0; there = its.1; path = its.2.path });
    were = λ who last there.
        let its = came.were who last there in
        (its.0, its.1, its.2.party, its.2.trace, its.2.standing, its.2.lines);
  }
