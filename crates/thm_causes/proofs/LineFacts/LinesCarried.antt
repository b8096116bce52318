-- What goes along a sequence of calls: what one that is away does, and what the others do meanwhile. So the clock does not fall.
use Rattle.std.proofs.Common.{◌≡◌, ◌≢◌, ℕ, suc, ◌≤◌, ◌<◌, Bool, true, false, List, [], ◌∷◌, ◌++◌, length, Option, Some, None, refl, sym, subst, arith}
use Rattle.std.specs.Prelude.{⊤, IfSome}
use Rattle.std.specs.List.{AllByRecursion}
use Rattle.hp_base.specs.declared.caught.Caught.{Caught}
use Rattle.hp_base.specs.declared.caught.Caught.TheVariants as caught
use Rattle.hp_plain.specs.HallSteps.{after_pause, with_note}
use Rattle.hp_hall.specs.Mail.{Fetches, Gives, MailStep, Notes, Posts, Takes}
use Rattle.hp_hall.specs.declared.note.Note.{Note}
use Rattle.hp_hall.specs.declared.note.Note.TheVariants.{Paused, Yielded}
use Rattle.hp_proc.specs.Acting.{Acts}
use Rattle.hp_serve.specs.Attaching.{after_attaching}
use Rattle.hp_serve.specs.Denials.{Denials}
use Rattle.hp_proc.specs.Doing.{Done}
use Rattle.hp_proc.specs.ParticipantView.{ParticipantView}
use Rattle.hp_serve.specs.Serving.{acks_after, gives_segments}
use Rattle.hp_solo.specs.Sequence.{IsCall, IsCallNote, IsMadeBy, Makes, Sequence, ServesOnce, ServesSome, Visit, Visits, VisitsBeside}
use Rattle.hp_solo.specs.Solo.{IsNextDue, SoloView, denials_in, server_at}
use Rattle.thm_causes.specs.RunStates.{AreCalls}
use Rattle.thm_causes.proofs.LineFacts.LinesSteps.{HoldsOfSteps, IsNoteUntil, acts_are}
use Rattle.thm_causes.proofs.TurnSteps.TurnsCalls.{served_calls}

-- it holds after what others do, whatever a judge denies, and after one's own calls, by the steps that are left
pub record IsCarried (me : ℕ) (Holds : SoloView → Type 0) (Left : List MailStep → Type 0) : Type 1 where
  pub others : (denies : Denials) (who : ℕ) (moved : Bool) (old new : SoloView) → who ≢ me → ServesOnce denies who moved old new → Holds old
      → Holds new
  pub calls : (step : MailStep) (steps : List MailStep) (old new : SoloView) → IsCall step → IsMadeBy me (step ∷ []) old.plain new.plain
      → new.plain.clock ≡ old.plain.clock → Left (step ∷ steps) → Holds old → Holds new × Left steps
  pub yields : (above moved : Bool) (steps : List MailStep) (hall : SoloView) → Left (Notes (Yielded above (Some moved)) ∷ steps)
      → Holds hall
      → Holds (record hall { plain = with_note me (Yielded above (Some moved)) hall.plain }) × Left steps
  pub pauses : (moved : Bool) (until : Option ℕ) (steps : List MailStep) (old new : SoloView)
      → new.plain ≡ after_pause me moved until new.plain.clock old.plain
      → (moved ≡ true → new.plain.clock ≡ old.plain.clock)
      → (moved ≡ false → IfSome until (λ deadline. IsNextDue old.plain.clock old.servers deadline new.plain.clock))
      → Left (Notes (Paused moved until) ∷ steps) → Holds old → Holds new × Left steps

visits_rise : (from to : ℕ) (old new : SoloView) → Visits from to old new → from ≤ to
visits_rise from _ old _ (Visits.none _) = omega arith
visits_rise from _ old new (Visits.next to _ mid _ first last) = omega (arith, visits_rise from to old mid first)

module _ (me : ℕ) (Holds : SoloView → Type 0) (Left : List MailStep → Type 0) (carried : IsCarried me Holds Left) where
  some_carried : (denies : Denials) (who : ℕ) (old new : SoloView) → who ≢ me → ServesSome denies who old new → Holds old → Holds new
  some_carried denies who old _ other (ServesSome.none _) holds = holds
  some_carried denies who old new other (ServesSome.more _ mid _ first last) holds =
      carried.others denies who true mid new other last (some_carried denies who old mid other first holds)

  visit_carried : (denies : Denials) (who : ℕ) (old new : SoloView) → who ≢ me → Visit denies who old new → Holds old → Holds new
  visit_carried denies who old new other (Visit.serves between first last) holds =
      carried.others denies who false between new other last (some_carried denies who old between other first holds)
  visit_carried denies who old new other (Visit.is_away away is) holds = subst Holds (sym is) holds

  visits_carried : (from to : ℕ) (old new : SoloView) → ((who : ℕ) → from ≤ who → who < to → who ≢ me) → from ≤ to → Visits from to old new
      → Holds old → Holds new
  visits_carried from _ old _ others rises (Visits.none _) holds = holds
  visits_carried from _ old new others rises (Visits.next to _ mid _ first last) holds =
      let up = visits_rise from to old mid first in
      visit_carried (denials_in (server_at mid.servers to)) to mid new (others to up (omega arith)) last
      (visits_carried from to old mid (λ who low high. others who low (omega (arith, high))) up first holds)

  beside_carried : (above : Bool) (old new : SoloView) → VisitsBeside me above old new → Holds old → Holds new
  beside_carried false old new visits holds =
      visits_carried 0 me old new (λ who low high same. omega (arith, high, same)) (omega arith) visits holds
  beside_carried true old new visits holds =
      visits_carried (suc me) (length old.servers) old new (λ who low high same. omega (arith, low, same))
      (visits_rise (suc me) (length old.servers) old new visits) visits holds

  makes_carried : (step : MailStep) (steps : List MailStep) (old new : SoloView) → Makes me old new step → Left (step ∷ steps) → Holds old
      → Holds new × Left steps
  makes_carried _ steps old new (Makes.calls step call made servers clock) left holds =
      carried.calls step steps old new call made clock left holds
  makes_carried _ steps old new (Makes.yields above moved between visits quiet is) left holds =
      let behind = carried.yields above moved steps between left (beside_carried above old between visits holds) in
      (subst Holds (sym is) behind.0, behind.1)
  makes_carried _ steps old new (Makes.pauses moved until is servers stands goes) left holds =
      carried.pauses moved until steps old new is stands goes left holds

  -- it is carried along
  pub sequence_carried : (steps : List MailStep) (old new : SoloView) → Sequence me old steps new → Left steps → Holds old → Holds new
  sequence_carried _ old _ (Sequence.stands _) left holds = holds
  sequence_carried _ old new (Sequence.goes_on _ mid _ step steps makes more) left holds =
      let behind = makes_carried step steps old mid makes left holds in
      sequence_carried steps mid new more behind.1 behind.0

-- THE CLOCK

-- each pause names its deadline
abbrev pub IsTimed : MailStep → Type 0
IsTimed (Posts to frame action posted) = ⊤
IsTimed (Fetches frame) = ⊤
IsTimed (Takes slot kept) = ⊤
IsTimed (Gives slot kept) = ⊤
IsTimed (Notes note) = IsNoteUntil note

abbrev pub AreTimed : List MailStep → Type 0
AreTimed steps = AllByRecursion IsTimed steps

timed_both : (first rest : List MailStep) → AreTimed first → AreTimed rest → AreTimed (first ++ rest)
timed_both [] rest begins ends = ends
timed_both (step ∷ first) rest begins ends = (begins.0, timed_both first rest begins.1 ends)

note_timed : (note : Note) → IsCallNote note → IsNoteUntil note
note_timed (Paused moved until) call = absurd call
note_timed _ call = tt

call_timed : (step : MailStep) → IsCall step → IsTimed step
call_timed (Posts to frame action posted) call = tt
call_timed (Fetches frame) call = tt
call_timed (Takes slot kept) call = tt
call_timed (Gives slot kept) call = tt
call_timed (Notes note) call = note_timed note call

calls_timed : (steps : List MailStep) → AreCalls steps → AreTimed steps
calls_timed [] calls = tt
calls_timed (step ∷ steps) calls = (call_timed step calls.0, calls_timed steps calls.1)

acks_timed : (ended : Caught) (records : ℕ) → AreTimed (acks_after ended records)
acks_timed caught.Done records = (tt, tt)
acks_timed (caught.Refused row call) records = tt
acks_timed (caught.Elsewhere row call got) records = tt

along_timed : (count : ℕ) → HoldsOfSteps count (λ who. ⊤) ⊤ AreTimed
along_timed count = record {
  none = tt;
  both = timed_both;
  notes = λ note until. (until, tt);
  posts = λ «to» frame action posted. (tt, tt);
  takes_heap = λ heap pen. (tt, tt);
  gives_heap = λ heap pen. (tt, tt);
  takes_names = λ names. (tt, tt);
  gives_names = λ names. (tt, tt);
  holds = λ taken given roster. (tt, (tt, tt));
  leaves = λ who taken its. (tt, (tt, (tt, tt)));
  attaches = λ who taken ended may. (
    tt,
    timed_both (acks_after ended (length taken.log)) (gives_segments (after_attaching who ended taken) ∷ [])
        (acks_timed ended (length taken.log)) (tt, tt),
  );
  serves = λ denies party after steps moved its served. (calls_timed steps (served_calls count party after steps (Some moved) served), tt);
}

-- all that a line does is timed
pub acts_timed : (count : ℕ) (hand last : Option ℕ) (held : List ℕ) (doer after : ParticipantView) (trace : List Done)
    (steps : List MailStep) → Acts count hand last held doer after trace steps → AreTimed steps
acts_timed count hand last held doer after trace steps acts =
    (acts_are count (λ who. ⊤) ⊤ AreTimed (along_timed count) hand last held doer after trace steps acts (λ looks. tt) tt).0

module _ (me first : ℕ) where
  -- the clock has not fallen below a reading
  abbrev IsFrom : SoloView → Type 0
  IsFrom hall = first ≤ hall.plain.clock

  pauses_from : (moved : Bool) (until : Option ℕ) (old new : SoloView) → (moved ≡ true → new.plain.clock ≡ old.plain.clock)
      → (moved ≡ false → IfSome until (λ deadline. IsNextDue old.plain.clock old.servers deadline new.plain.clock))
      → IsNoteUntil (Paused moved until) → IsFrom old → IsFrom new
  pauses_from true until old new stands goes timed from = omega (arith, stands refl, from)
  pauses_from false None old new stands goes timed from = absurd timed
  pauses_from false (Some until) old new stands goes timed from = omega (arith, (goes refl).later, from)

  clock_carried : IsCarried me IsFrom AreTimed
  clock_carried = record {
    others = λ denies who moved old new other serves from. omega (arith, serves.made.course.clock, from);
    calls = λ step steps old new call made clock left from. (omega (arith, clock, from), left.1);
    yields = λ above moved steps hall left from. (from, left.1);
    pauses = λ moved until steps old new is stands goes left from. (pauses_from moved until old new stands goes left.0 from, left.1);
  }

-- so the clock does not fall
pub clock_rises : (me : ℕ) (steps : List MailStep) (old new : SoloView) → Sequence me old steps new → AreTimed steps
    → old.plain.clock ≤ new.plain.clock
clock_rises me steps old new sequence timed =
    sequence_carried me (λ hall. old.plain.clock ≤ hall.plain.clock) AreTimed (clock_carried me old.plain.clock) steps old new sequence
    timed
    (omega arith)
