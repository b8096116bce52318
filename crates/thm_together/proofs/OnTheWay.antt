-- A participant goes on with its way: where it serves, and where it does a line.
use Rattle.std.proofs.Common.{◌≡◌, ◌∙◌, ℕ, List, [], ◌∷◌, ◌++◌, map, refl, ap, sym, subst, arith, append_assoc}
use Rattle.hp_hall.specs.Mail.{MailStep, Notes}
use Rattle.hp_hall.specs.declared.note.Note.{Note}
use Rattle.hp_solo.specs.Served.{ServesOn}
use Rattle.hp_proc.specs.Courses.{Standing}
use Rattle.hp_proc.specs.Denying.{denials_of}
use Rattle.hp_proc.specs.LinesDone.{Course}
use Rattle.hp_proc.specs.ParticipantView.{ParticipantView, after_registering}
use Rattle.thm_run.proofs.InTurnByHolds.LinesInHolds.{line_in_seat, serves_in_seat, way_by_lines}
use Rattle.thm_run.proofs.Settings.{path_set}
use Rattle.thm_run.specs.OwnLines.{AreOfNoHeap, IsLineOf, WentByLines}
use Rattle.thm_run.specs.Seats.{Mails, SeatTrace, Seat}
use Rattle.thm_together.specs.OnItsWay.{BeginsItsWay, DoesALineOnItsWay, IsOnItsWay, ServesOnItsWay}

-- some notes are a path of their own, by which no heap is taken
notes_path : (count who : ℕ) (seat : Seat) (notes : List Note) → SeatTrace count who seat seat (map Notes notes)
notes_path count who seat [] = SeatTrace.ends seat
notes_path count who seat (note ∷ notes) =
    SeatTrace.mails seat seat seat (Notes note) (map Notes notes) (Mails.notes seat note) (notes_path count who seat notes)

notes_no_heap : (notes : List Note) → AreOfNoHeap (map Notes notes)
notes_no_heap [] = tt
notes_no_heap (note ∷ notes) = (λ is. is, notes_no_heap notes)

pub begins_its_way : BeginsItsWay
begins_its_way count first doer party standing =
    record { seat = first; party = party; standing = standing; way = WentByLines.begins first; adds = tt }

-- who is on its way is the one that set out, and waits as long
module _ (count : ℕ) (first : Seat) (doer : ParticipantView) (courses : List Course) (steps : List MailStep)
    (on : IsOnItsWay count first doer courses steps) where
  pub its_me : doer.party.me ≡ first.party.me
  its_me =
      sym (ap (λ party. party.me) on.party)
      ∙ (path_set (way_by_lines count first.party.me first on.seat courses steps on.way).0).me

  its_deadline : doer.party.deadline ≡ first.party.deadline
  its_deadline =
      sym (ap (λ party. party.deadline) on.party)
      ∙ (path_set (way_by_lines count first.party.me first on.seat courses steps on.way).0).deadline

pub serves_on_its_way : ServesOnItsWay
serves_on_its_way count first doer after courses steps more moved on served =
    let whole : ServesOn (denials_of doer.context.standing) count doer.party after more =
    ServesOn.serves doer.party doer.party after [] more moved (ServesOn.rests doer.party) served in
    let judged : ServesOn (denials_of on.seat.standing) count doer.party after more =
    subst (λ (standing : Standing). ServesOn (denials_of standing) count doer.party after more) (sym on.standing) whole in
    let comes = serves_in_seat count doer.party after more on.seat judged on.party in
    let path : SeatTrace count first.party.me on.seat comes.0 more =
    subst (λ who. SeatTrace count who on.seat comes.0 more) (its_me count first doer courses steps on) comes.5 in
    record {
      seat = comes.0;
      party = comes.1;
      standing = comes.2 ∙ on.standing;
      way = WentByLines.beside first on.seat comes.0 courses steps more on.way path comes.3
          (record { lines = comes.4; standing = comes.2 }) comes.6;
      adds = on.adds;
    }

pub line_on_its_way : DoesALineOnItsWay
line_on_its_way count first doer mid courses course steps more held notes few on acts once names awaited leaves adds =
    let late = its_deadline count first doer courses steps on in
    let comes = line_in_seat count held doer mid course more on.seat acts once names awaited (omega (arith, few, late)) on.party on.standing leaves in
    let is : IsLineOf count first.party.me on.seat comes.0 course more =
    subst (λ who. IsLineOf count who on.seat comes.0 course more) (its_me count first doer courses steps on) comes.3 in
    let line : WentByLines count first.party.me first comes.0 (courses ++ course ∷ []) (steps ++ more) =
    WentByLines.does_line first on.seat comes.0 courses course steps more on.way is in
    let noted : WentByLines count first.party.me first comes.0 (courses ++ course ∷ []) ((steps ++ more) ++ map Notes notes) =
    WentByLines.beside first comes.0 comes.0 (courses ++ course ∷ []) (steps ++ more) (map Notes notes) line
    (notes_path count first.party.me comes.0 notes) refl (record { lines = refl; standing = refl }) (notes_no_heap notes) in
    subst (IsOnItsWay count first (after_registering course.line.act course.answer mid) (courses ++ course ∷ [])) (append_assoc steps more (map Notes notes))
    (record { seat = comes.0; party = comes.1; standing = comes.2; way = noted; adds = (on.adds, adds) })
