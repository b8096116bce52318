-- What the calls of a hall of plain values leave: the rules "Halls" and "Messages" of docs/PARTICIPANTS.md.
use Rattle.std.specs.Prelude.{ℕ, Bool, List, [], ◌∷◌, ◌++◌, Option, Some, None, length, map, replicate, slice_set}
use Rattle.hp_base.specs.declared.plan.Action.{Action}
use Rattle.hp_frame.specs.declared.frame.Frame.{Frame}
use Rattle.hp_segs.specs.SegsView.{SegsView}
use Rattle.hp_hall.specs.declared.kept.Kept.{Kept}
use Rattle.hp_hall.specs.declared.kept.Kept.TheVariants.{Heap, Names, Segments}
use Rattle.hp_hall.specs.declared.note.Note.{Note}
use Rattle.hp_hall.specs.declared.note.Note.TheVariants.{Acked, Paused, Published, Stored, Unmapped}
use Rattle.hp_hall.specs.Views.{HeldHeap}
use Rattle.hp_stats.specs.declared.stat_pair.StatPair.{StatPair}
use Rattle.hp_zone.specs.declared.names.Names.{Names as NamesView}
use Rattle.hp_mail.specs.declared.posted.Posted.{Posted}
use Rattle.hp_plain.specs.HallView.{HallView, SlotView, own_at, seen_in}
use Rattle.hp_hall.specs.Mail.{MailStep, Posts, Takes, Gives, Notes, counted_on, full_of}
use Rattle.hp_plain.specs.Boxes.{after_step}
use Rattle.hp_hall.specs.Own.{Own, after_ack, after_partial}

-- a value at home in its slot, and one that a participant has taken
abbrev pub home_slot : Kept → SlotView
home_slot kept = record { kept = kept; holder = None; told = None }

abbrev pub out_slot : ℕ → Kept → SlotView
out_slot who kept = record { kept = kept; holder = Some who; told = None }

-- a slot whose holder has published that pair
abbrev pub telling_slot : StatPair → SlotView → SlotView
telling_slot pair slot = record slot { told = Some pair }

abbrev pub heap_slot : HeldHeap → SlotView
heap_slot held = home_slot (Heap held.heap held.pen)

-- the slots of these values, all at home: the heaps in their order, after them the segment value, and after that the names
abbrev pub slots_of : List HeldHeap → SegsView → NamesView → List SlotView
slots_of heaps segs names = map heap_slot heaps ++ home_slot (Segments segs) ∷ home_slot (Names names) ∷ []

-- a hall as it opens: every value at home, empty mailboxes, no number acknowledged and no line done, the clock at 0, and nothing done with
-- mailboxes
abbrev pub opening_hall : ℕ → List HeldHeap → SegsView → NamesView → HallView
opening_hall participants heaps segs names = record {
  slots = slots_of heaps segs names;
  boxes = replicate participants [];
  owns = replicate participants (after_ack 0);
  lines = replicate participants 0;
  clock = 0;
  full_mailboxes = 0;
  mail = [];
}

-- a slot has come to this, and nothing else has changed
abbrev pub with_slot : ℕ → SlotView → HallView → HallView
with_slot number slot hall = record hall { slots = slice_set hall.slots number slot }

-- a participant's own part has come to this, and nothing else has changed
abbrev pub with_own : ℕ → Own → HallView → HallView
with_own who own hall = record hall { owns = slice_set hall.owns who own }

-- after a step, with so many full mailboxes counted
abbrev pub with_mail : ℕ → MailStep → ℕ → HallView → HallView
with_mail who step full_mailboxes hall = record hall {
  boxes = after_step who step hall.boxes;
  full_mailboxes = full_mailboxes;
  mail = hall.mail ++ (who, step) ∷ [];
}

-- after a value was taken out of a slot
abbrev pub after_take : ℕ → ℕ → Kept → HallView → HallView
after_take who number kept hall = with_mail who (Takes number kept) hall.full_mailboxes (with_slot number (out_slot who kept) hall)

-- after a value was given back to its slot
abbrev pub after_give : ℕ → ℕ → Kept → HallView → HallView
after_give who number kept hall = with_mail who (Gives number kept) hall.full_mailboxes (with_slot number (home_slot kept) hall)

-- after a frame was posted
abbrev pub after_post : ℕ → ℕ → Frame → Action → Posted → HallView → HallView
after_post who to frame action posted hall = with_mail who (Posts to frame action posted) (counted_on (full_of posted) hall.full_mailboxes) hall

-- after a note was made
abbrev pub with_note : ℕ → Note → HallView → HallView
with_note who note hall = with_mail who (Notes note) hall.full_mailboxes hall

-- after a participant has acknowledged so many records
abbrev pub after_acking : ℕ → ℕ → HallView → HallView
after_acking who number hall = with_note who (Acked number) (with_own who (after_ack number) hall)

-- after a participant has unmapped what the records of the log drop
abbrev pub after_unmapping : ℕ → HallView → HallView
after_unmapping who hall =
    with_note who Unmapped (with_own who (after_partial (length (seen_in hall)) (own_at hall who)) hall)

-- after a participant has told so many of its lines to be done
abbrev pub after_storing : ℕ → ℕ → HallView → HallView
after_storing who lines hall = with_note who (Stored lines) (record hall { lines = slice_set hall.lines who lines })

-- after the holder of a slot's heap has published that pair
abbrev pub after_publishing : ℕ → ℕ → StatPair → SlotView → HallView → HallView
after_publishing who number pair slot hall =
    with_note who (Published number pair) (with_slot number (telling_slot pair slot) hall)

-- after a turn ended with the clock at a reading
abbrev pub after_pause : ℕ → Bool → Option ℕ → ℕ → HallView → HallView
after_pause who moved until reading hall = record (with_note who (Paused moved until) hall) { clock = reading }
