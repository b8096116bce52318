-- Paths of a participant one after the other, and what is left of it after one that adds nothing to its trace.
use Rattle.std.proofs.Common.{◌≡◌, ◌∙◌, ℕ, List, [], ◌∷◌, ◌++◌, map, refl, sym, ap, subst}
use Rattle.std.proofs.lemmas.List.{append-nil, append_assoc}
use Rattle.hp_base.specs.declared.caught.Caught.{Caught}
use Rattle.hp_base.specs.declared.caught.Caught.TheVariants as caught
use Rattle.hp_hall.specs.Mail.{MailStep, Notes}
use Rattle.hp_hall.specs.declared.note.Note.{Note}
use Rattle.hp_hall.specs.declared.note.Note.TheVariants.{Acked, Unmapped}
use Rattle.hp_proc.specs.Courses.{Standing}
use Rattle.hp_proc.specs.Doing.{Done}
use Rattle.hp_serve.specs.Party.{Party}
use Rattle.hp_serve.specs.Serving.{acks_after, gives_segments, takes_segments, tells_after_catching}
use Rattle.hp_segs.specs.SegsView.{SegsView}
use Rattle.thm_run.specs.Seats.{EndedLine, Handles, Mails, SeatTrace, Quietly, Seat, seated}

-- from a seat a participant comes to this by such steps, with that left by its lines, of which these have ended meanwhile, and that more in its trace
pub record Comes (count who : ℕ) (after : Party) (left : Standing) (ended : List EndedLine) (more : List Done) (steps : List MailStep) (seat : Seat)
    : Type 0 where
  pub new : Seat
  pub party : new.party ≡ after
  pub standing : new.standing ≡ left
  pub lines : new.lines ≡ seat.lines ++ ended
  pub trace : new.trace ≡ seat.trace ++ more
  pub path : SeatTrace count who seat new steps

-- it comes to this and adds nothing to its trace: its number, its deadline and its last ask stay
pub record Serves (count who : ℕ) (party after : Party) (steps : List MailStep) (seat : Seat) : Type 0 where
  pub behind : Seat
  pub me : after.me ≡ party.me
  pub deadline : after.deadline ≡ party.deadline
  pub asked : after.asked ≡ party.asked
  pub standing : behind.standing ≡ seat.standing
  pub lines : behind.lines ≡ seat.lines
  pub trace : behind.trace ≡ seat.trace
  pub path : SeatTrace count who (seated party seat) (seated after behind) steps

-- it does so from wherever it sits
abbrev pub ServesFrom : ℕ → ℕ → Party → Party → List MailStep → Type 0
ServesFrom count who party after steps = (seat : Seat) → Serves count who party after steps seat

-- it does so from wherever it sits with that left by its lines: that says what its judge denies
abbrev pub ServesWith : Standing → ℕ → ℕ → Party → Party → List MailStep → Type 0
ServesWith left count who party after steps = (seat : Seat) → seat.standing ≡ left → Serves count who party after steps seat

-- what is noted of a catching up by one that attaches
abbrev pub noted_of : Caught → ℕ → List Note
noted_of caught.Done records = Acked records ∷ []
noted_of (caught.Refused row call) records = []
noted_of (caught.Elsewhere row call got) records = []

-- all that is noted before the segment value is given back
pub held_notes : (caught : Caught) (records : ℕ) (notes : List Note) (rest : List MailStep)
    → acks_after caught records ++ (map Notes notes ++ rest) ≡ map Notes (noted_of caught records ++ notes) ++ rest
held_notes caught.Done records notes rest = refl
held_notes (caught.Refused row call) records notes rest = refl
held_notes (caught.Elsewhere row call got) records notes rest = refl

-- and by one that has a table: of one at which a mapping failed it tells that its table has lost what was dropped
abbrev pub told_of : Caught → ℕ → List Note
told_of caught.Done records = Acked records ∷ []
told_of (caught.Refused row call) records = Unmapped ∷ []
told_of (caught.Elsewhere row call got) records = Unmapped ∷ []

pub told_notes : (caught : Caught) (records : ℕ) (notes : List Note) (rest : List MailStep)
    → tells_after_catching caught records ++ (map Notes notes ++ rest) ≡ map Notes (told_of caught records ++ notes) ++ rest
told_notes caught.Done records notes rest = refl
told_notes (caught.Refused row call) records notes rest = refl
told_notes (caught.Elsewhere row call got) records notes rest = refl

module _ (count who : ℕ) where
  -- the same steps under another name
  pub path_by : (old new : Seat) (steps did : List MailStep) → did ≡ steps → SeatTrace count who old new steps → SeatTrace count who old new did
  path_by old new steps did is path = subst (λ (all : List MailStep). SeatTrace count who old new all) (sym is) path

  -- one path after the other
  pub path_then : (old mid new : Seat) (first second : List MailStep) → SeatTrace count who old mid first → SeatTrace count who mid new second
      → SeatTrace count who old new (first ++ second)
  path_then _ _ last _ second (SeatTrace.ends seat) next = next
  path_then _ _ last _ second (SeatTrace.quietly old mid new steps quiet rest) next =
      SeatTrace.quietly old mid last (steps ++ second) quiet (path_then mid new last steps second rest next)
  path_then _ _ last _ second (SeatTrace.holds old new step steps heap rest) next =
      SeatTrace.holds old last step (steps ++ second) heap (path_then old new last steps second rest next)
  path_then _ _ last _ second (SeatTrace.mails old mid new step steps mail rest) next =
      SeatTrace.mails old mid last step (steps ++ second) mail (path_then mid new last steps second rest next)
  path_then _ _ last _ second (SeatTrace.handles old mid new taken given held steps handles rest) next =
      path_by old last _ _
      (ap (λ (more : List MailStep). takes_segments taken ∷ more) (append_assoc (map Notes held) (gives_segments given ∷ steps) second))
      (SeatTrace.handles old mid last taken given held (steps ++ second) handles (path_then mid new last steps second rest next))

  -- one thing alone
  pub path_quiet : (old new : Seat) → Quietly old new → SeatTrace count who old new []
  path_quiet old new quiet = SeatTrace.quietly old new new [] quiet (SeatTrace.ends new)

  pub path_mail : (old new : Seat) (step : MailStep) → Mails who old new step → SeatTrace count who old new (step ∷ [])
  path_mail old new step mail = SeatTrace.mails old new new step [] mail (SeatTrace.ends new)

  pub path_handle : (old new : Seat) (taken given : SegsView) → Handles count who old new taken given
      → SeatTrace count who old new (takes_segments taken ∷ gives_segments given ∷ [])
  path_handle old new taken given handles = SeatTrace.handles old new new taken given [] [] handles (SeatTrace.ends new)

  -- and notes, which change nothing in it
  pub path_notes : (seat : Seat) (notes : List Note) → SeatTrace count who seat seat (map Notes notes)
  path_notes seat [] = SeatTrace.ends seat
  path_notes seat (note ∷ notes) =
      SeatTrace.mails seat seat seat (Notes note) (map Notes notes) (Mails.notes seat note) (path_notes seat notes)

  -- after a path it did something by itself
  pub path_quietly : (old mid new : Seat) (steps : List MailStep) → SeatTrace count who old mid steps → Quietly mid new
      → SeatTrace count who old new steps
  path_quietly old mid new steps here quiet =
      subst (λ (all : List MailStep). SeatTrace count who old new all) (append-nil steps)
      (path_then old mid new steps [] here (path_quiet mid new quiet))

  pub serves_same : (party : Party) → ServesFrom count who party party []
  serves_same party seat =
      record { behind = seat; me = refl; deadline = refl; asked = refl; standing = refl; lines = refl; trace = refl; path = SeatTrace.ends (seated party seat) }

  pub serves_then : (party mid after : Party) (first last : List MailStep) (seat : Seat) (here : Serves count who party mid first seat)
      → Serves count who mid after last here.behind → Serves count who party after (first ++ last) seat
  serves_then party mid after first last seat here next = record {
    behind = next.behind;
    me = next.me ∙ here.me;
    deadline = next.deadline ∙ here.deadline;
    asked = next.asked ∙ here.asked;
    standing = next.standing ∙ here.standing;
    lines = next.lines ∙ here.lines;
    trace = next.trace ∙ here.trace;
    path = path_then (seated party seat) (seated mid here.behind) (seated after next.behind) first last here.path next.path;
  }

  -- where it came to is the same under other names
  pub serves_to : (party mid after : Party) (first steps : List MailStep) (seat : Seat) → after ≡ mid → steps ≡ first
      → Serves count who party mid first seat → Serves count who party after steps seat
  serves_to party mid after first steps seat after_is did serves =
      subst (λ (party_behind : Party). Serves count who party party_behind steps seat) (sym after_is)
      (subst (λ (all : List MailStep). Serves count who party mid all seat) (sym did) serves)

  pub serves_here : (party after : Party) (steps : List MailStep) → after ≡ party → steps ≡ [] → ServesFrom count who party after steps
  serves_here party after steps after_is did seat = serves_to party party after [] steps seat after_is did (serves_same party seat)

  -- what it did by itself
  pub serves_quietly : (party after : Party) (seat : Seat) → after.me ≡ party.me → after.deadline ≡ party.deadline
      → after.asked ≡ party.asked → Quietly (seated party seat) (seated after seat) → Serves count who party after [] seat
  serves_quietly party after seat me deadline asked quiet = record {
    behind = seat;
    me = me;
    deadline = deadline;
    asked = asked;
    standing = refl;
    lines = refl;
    trace = refl;
    path = path_quiet (seated party seat) (seated after seat) quiet;
  }

  -- with other steps before it
  pub serves_behind : (party after : Party) (steps more : List MailStep) (seat behind : Seat) → behind.standing ≡ seat.standing
      → behind.lines ≡ seat.lines
      → behind.trace ≡ seat.trace
      → SeatTrace count who (seated party seat) (seated party behind) steps → Serves count who party after more behind
      → Serves count who party after (steps ++ more) seat
  serves_behind party after steps more seat behind standing lines trace path next =
      serves_then party party after steps more seat
      (record { behind = behind; me = refl; deadline = refl; asked = refl; standing = standing; lines = lines; trace = trace; path = path }) next

  -- notes alone
  pub serves_notes : (party : Party) (notes : List Note) → ServesFrom count who party party (map Notes notes)
  serves_notes party notes seat = record {
    behind = seat;
    me = refl;
    deadline = refl;
    asked = refl;
    standing = refl;
    lines = refl;
    trace = refl;
    path = path_notes (seated party seat) notes;
  }

  -- with notes before it
  pub serves_noted : (party after : Party) (notes : List Note) (more steps : List MailStep) (seat : Seat) → steps ≡ map Notes notes ++ more
      → Serves count who party after more seat → Serves count who party after steps seat
  serves_noted party after notes more steps seat did next =
      serves_to party after after (map Notes notes ++ more) steps seat refl did
      (serves_behind party after (map Notes notes) more seat seat refl refl refl (path_notes (seated party seat) notes) next)

  -- whoever sits there so
  pub comes_at : (party after : Party) (left : Standing) (ended : List EndedLine) (more : List Done) (steps : List MailStep) (seat : Seat)
      → seat.party ≡ party
      → Comes count who after left ended more steps (seated party seat) → Comes count who after left ended more steps seat
  comes_at party after left ended more steps seat is comes =
      subst (λ (at : Party). Comes count who after left ended more steps (seated at seat)) (sym is) comes

  -- what adds nothing to the trace
  pub comes_by : (party after : Party) (steps : List MailStep) (seat : Seat) → seat.party ≡ party
      → Serves count who party after steps seat → Comes count who after seat.standing [] [] steps seat
  comes_by party after steps seat is serves =
      comes_at party after seat.standing [] [] steps seat is
      (record {
        new = seated after serves.behind;
        party = refl;
        standing = serves.standing;
        lines = serves.lines ∙ sym (append-nil seat.lines);
        trace = serves.trace ∙ sym (append-nil seat.trace);
        path = serves.path;
      })

  -- and then makes two notes
  pub comes_told : (after : Party) (left : Standing) (ended : List EndedLine) (more : List Done) (steps : List MailStep) (seat : Seat)
      (first second : Note) → Comes count who after left ended more steps seat
      → Comes count who after left ended more (steps ++ Notes first ∷ (Notes second ∷ [])) seat
  comes_told after left ended more steps seat first second comes =
      let last : Seat = comes.new in
      record {
        new = last;
        party = comes.party;
        standing = comes.standing;
        lines = comes.lines;
        trace = comes.trace;
        path = path_then seat last last steps (Notes first ∷ (Notes second ∷ [])) comes.path
            (SeatTrace.mails last last last (Notes first) (Notes second ∷ []) (Mails.notes last first)
            (SeatTrace.mails last last last (Notes second) [] (Mails.notes last second) (SeatTrace.ends last)));
      }
