-- A hall with one seat at a board, as contracts see it, and what it is to those who call it as a hall: the rule "A seat at the board" of
-- docs/HALLS.md.
use Rattle.std.specs.Prelude.{◌≡◌, ℕ, ◌-◌, ◌^◌, ◌==◌, max, Bool, false, List, [], ◌∷◌, Contains, None, if◌then◌else◌}
use Rattle.hp_mail.specs.PassView.{MailboxView, PassView}
use Rattle.hp_hall.specs.HallState.{HallState}
use Rattle.hp_hall.specs.Holding.{HeapPart}
use Rattle.hp_hall.specs.Mail.{MailStep}
use Rattle.hp_hall.specs.Own.{after_ack}
use Rattle.hp_hall.specs.Slots.{IsSlotNumber}
use Rattle.hp_board.specs.Knowing.{heap_part}
use Rattle.hp_board.specs.SeatView.{SeatView}
use Rattle.hp_board.specs.Views.{lines_known, named_of, noted_of, own_of, value_of}
use Rattle.hp_stats.specs.StatViews as stats
use Rattle.hp_stats.specs.StatViews.{seen_of}
use Rattle.hp_stats.specs.declared.stat_pair.StatPair.{StatPair}
use Rattle.hp_chair.specs.Steps.{told_in}

-- the participant's seat; the mailboxes of all participants, by the numbers of these, and its passes to them; its pass to the statistics of
-- all heaps; all that it did; how often a mailbox was full; whether somebody has stopped, as far as the hall has looked; and how many turns
-- it may wait still
pub record ChairView : Type 0 where
  pub seat : SeatView
  pub boxes : List MailboxView
  pub passes : List PassView
  pub stats : stats.PassView
  pub steps : List MailStep
  pub full_mailboxes : ℕ
  pub stopped : Bool
  pub turns : ℕ

-- a hall that was just opened
abbrev pub opening_chair : SeatView → List MailboxView → List PassView → stats.PassView → ChairView
opening_chair seat boxes passes pass = record {
  seat = seat;
  boxes = boxes;
  passes = passes;
  stats = pass;
  steps = [];
  full_mailboxes = 0;
  stopped = false;
  turns = 2 ^ 64 - 1;
}

-- what is said of one participant, and what of each other one
abbrev pub of_one : {A : Type 0} → ℕ → A → A → ℕ → A
of_one me here elsewhere who = if who == me then here else elsewhere

-- no part in a heap
abbrev pub no_part : HeapPart
no_part = record { entries = []; marked = []; serves = None; holding = None; told = None; naming = None; armed = None; claims = None }

-- its participant's part in the heap of an index: what its seat knows, and the pair that it has published last
abbrev pub chair_part : ChairView → ℕ → HeapPart
chair_part chair heap = record (heap_part chair.seat.mine heap) { told = told_in heap chair.steps }

-- how many lines a participant is known to have done: of itself those that it has told, and of another those that it looked up last
abbrev pub lines_of : ℕ → ChairView → ℕ
lines_of other chair = lines_known other chair.seat.mine

-- the greatest count of some pairs, and 0 of none
abbrev pub greatest_count : List StatPair → ℕ
greatest_count [] = 0
greatest_count (pair ∷ pairs) = max pair.entries (greatest_count pairs)

-- the greatest count of a pair that was published or read of the heap of an index
abbrev pub shown_of : ℕ → ChairView → ℕ
shown_of heap chair = greatest_count (seen_of heap chair.stats)

-- a hall as its callers see it: it takes the calls of its participant, of whom alone it knows anything; each slot may be
-- taken, since a take waits; and it has no clock that others share
abbrev pub chair_state : ChairView → HallState
chair_state chair = record {
  count = chair.seat.mine.opening.participants;
  serves = λ who. who ≡ chair.seat.mine.who;
  taken = λ slot. value_of slot chair.seat.mine.held;
  may_take = IsSlotNumber;
  found = λ slot word. Contains chair.seat.mine.found (slot, word);
  part = of_one chair.seat.mine.who (chair_part chair) (λ heap. no_part);
  joined = of_one chair.seat.mine.who chair.seat.mine.joined false;
  own = of_one chair.seat.mine.who (own_of chair.seat.mine) (after_ack 0);
  lines = of_one chair.seat.mine.who (lines_of chair.seat.mine.who chair) 0;
  done = of_one chair.seat.mine.who chair.steps [];
  seen = λ who. chair.seat.mine.log;
  heard = λ who. chair.seat.mine.heard;
  named = λ who. named_of chair.seat.mine;
  shown = λ who heap. shown_of heap chair;
  noted = λ who other. record { number = noted_of other chair.seat.mine; lines = lines_of other chair };
  full_mailboxes = chair.full_mailboxes;
  stopped = chair.stopped;
  measure = chair.turns;
  clock = 0;
}
