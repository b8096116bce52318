-- A hall of one thread as its callers see it: that of its plain values, in which those alone who are away from their places make calls.
use Rattle.std.specs.Prelude.{◌≡◌, Bool, true, false, refl}
use Rattle.hp_hall.specs.HallCalls.{HavePosted}
use Rattle.hp_hall.specs.HallState.{HallState, IsLater}
use Rattle.hp_plain.specs.PlainPosts.{plain_posts}
use Rattle.hp_plain.specs.PlainState.{plain_later, plain_state}
use Rattle.hp_solo.specs.Solo.{IsAway, SoloView, has_stopped, server_at, solo_measure}
use Rattle.hp_solo.specs.SoloCourse.{IsSoloCourse, going_before, solo_serves}

abbrev pub solo_state : SoloView → HallState
solo_state hall = record (plain_state hall.plain) {
  serves = λ who. IsAway (server_at hall.servers who);
  stopped = has_stopped hall.servers;
  measure = solo_measure hall;
}

still_so : (old new : Bool) → (new ≡ false → old ≡ false) → old ≡ true → new ≡ true
still_so old true before is = refl
still_so old false before is = let off : old ≡ false = before refl in cc

-- on its course it is later on
pub solo_later : (old new : SoloView) → IsSoloCourse old new → IsLater (solo_state old) (solo_state new)
solo_later old new course =
    let plain = plain_later old.plain new.plain course.plain in
    record {
      count = plain.count;
      serves = λ who. solo_serves old new who course;
      seen = plain.seen;
      heard = plain.heard;
      named = plain.named;
      shown = plain.shown;
      lines = plain.lines;
      noted = plain.noted;
      full_mailboxes = plain.full_mailboxes;
      stopped = still_so (has_stopped old.servers) (has_stopped new.servers) (going_before old new course.servers);
    }

-- posts come to what the values count and the plan says
pub solo_posts : (old new : SoloView) → IsSoloCourse old new → HavePosted (solo_state old) (solo_state new)
solo_posts old new course =
    let plain = plain_posts old.plain new.plain course.plain in
    record {
      steps = plain.steps;
      done = plain.done;
      undeclared = plain.undeclared;
      planned = plain.planned;
      full_mailboxes = plain.full_mailboxes;
    }
