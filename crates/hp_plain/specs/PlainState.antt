-- A hall of plain values as its callers see it.
use Rattle.std.specs.Prelude.{◌<◌, false, length}
use Rattle.std.proofs.Common.{arith, refl}
use Rattle.std.proofs.lemmas.Bool.{false≢true}
use Rattle.hp_hall.specs.HallState.{HallState, IsLater}
use Rattle.hp_hall.specs.Mail.{steps_of}
use Rattle.hp_hall.specs.Measures.{boxes_measure}
use Rattle.hp_plain.specs.Course.{IsCourse, course_heard, course_named, course_seen, course_serves}
use Rattle.hp_plain.specs.HallView.{HallView, IsHome, heard_in, joined_in, lines_at, named_in, newest_in, own_at, part_in, seen_in, slot_at, taken_from}
use Rattle.hp_plain.specs.Told.{told_of}
use Rattle.hp_plain.specs.ToldLater.{lines_rise, shown_rises}

abbrev pub plain_state : HallView → HallState
plain_state hall = record {
  count = length hall.owns;
  serves = λ who. who < length hall.owns;
  taken = λ number. taken_from (slot_at hall number);
  may_take = λ number. IsHome (slot_at hall number);
  found = λ slot word. ⊥;
  part = part_in hall;
  joined = joined_in hall;
  own = own_at hall;
  lines = lines_at hall;
  done = λ who. steps_of who hall.mail;
  seen = λ who. seen_in hall;
  heard = λ who. heard_in hall;
  named = λ who. named_in hall;
  shown = λ who heap. (newest_in (slot_at hall heap)).entries;
  noted = λ who other. record { number = (own_at hall other).number; lines = lines_at hall other };
  full_mailboxes = hall.full_mailboxes;
  stopped = false;
  measure = boxes_measure hall.boxes;
  clock = hall.clock;
}

-- on its course it is later on
pub plain_later : (old new : HallView) → IsCourse old new → IsLater (plain_state old) (plain_state new)
plain_later old new course = record {
  count = course.count;
  serves = λ who. course_serves old new who course;
  seen = λ who. course_seen old new course;
  heard = λ who. course_heard old new course;
  named = λ who. course_named old new course;
  shown = λ who heap. shown_rises course.steps old.slots new.slots (told_of old) (told_of new) refl refl course.told heap;
  noted = λ who other. record {
    number = course.numbers other;
    lines = lines_rise course.steps (told_of old) (told_of new) course.told other;
  };
  lines = lines_rise course.steps (told_of old) (told_of new) course.told;
  full_mailboxes = omega (arith, course.full_mailboxes);
  stopped = λ is. absurd (false≢true is);
}
