-- What a turn of a wait leaves to the one that waits: a note, while those beside it serve or the clock goes on.
use Rattle.std.proofs.Common.{◌≡◌, ℕ, Bool, true, false, [], ◌∷◌, Option, Some, sym, ap, subst, ◌∙◌, arith}
use Rattle.hp_hall.specs.HallCalls.{Idles}
use Rattle.hp_hall.specs.Mail.{Notes}
use Rattle.hp_hall.specs.declared.note.Note.TheVariants.{Paused, Yielded}
use Rattle.hp_plain.specs.Course.{done_then}
use Rattle.hp_plain.specs.HallSteps.{after_pause, with_note}
use Rattle.hp_plain.specs.HallView.{HallView, IsHome, joined_in, lines_at, own_at, part_in, slot_at, taken_from}
use Rattle.hp_solo.specs.Solo.{IsNotBeside, IsServing, SoloView}
use Rattle.hp_solo.specs.SoloCourse.{IsSoloCourse}
use Rattle.hp_solo.specs.SoloState.{solo_later, solo_state}
use Rattle.hp_solo.proofs.SoloSteps.{did_itself}

-- nobody is beside itself
itself_apart : (me : ℕ) (above : Bool) → IsNotBeside me above me
itself_apart me false below = omega (arith, below)
itself_apart me true behind = omega (arith, behind)

-- those beside it have served, and then that was noted
pub idles_yield : (me : ℕ) (above moved : Bool) (old between new : SoloView) → IsSoloCourse old new
    → IsServing (IsNotBeside me above) old.plain between.plain → new.plain ≡ with_note me (Yielded above (Some moved)) between.plain
    → Idles me (Yielded above (Some moved)) (solo_state old) (solo_state new)
idles_yield me above moved old between new course serving noted = record {
  slots = record {
    taken = λ number. ap (λ (hall : HallView). taken_from (slot_at hall number)) noted ∙ serving.taken number;
    home = λ number home. subst (λ (hall : HallView). IsHome (slot_at hall number)) (sym noted) (serving.home number home);
  };
  mine = record {
    parts = record {
      part = λ heap. ap (λ (hall : HallView). part_in hall me heap) noted ∙ serving.part me heap;
      joined = ap (λ (hall : HallView). joined_in hall me) noted ∙ serving.joined me;
      lines = ap (λ (hall : HallView). lines_at hall me) noted ∙ serving.lines me;
    };
    own = ap (λ (hall : HallView). own_at hall me) noted ∙ serving.own me (itself_apart me above);
  };
  later = solo_later old new course;
  did = record {
    made = done_then old.plain between.plain new.plain me [] (Notes (Yielded above (Some moved)) ∷ []) (serving.did me (itself_apart me above))
        (did_itself between.plain new.plain me (Notes (Yielded above (Some moved))) (ap (λ (hall : HallView). hall.mail) noted));
  };
}

-- the clock stands or goes on, and that is noted
pub idles_pause : (me : ℕ) (moved : Bool) (until : Option ℕ) (reading : ℕ) (old new : SoloView) → IsSoloCourse old new
    → new.plain ≡ after_pause me moved until reading old.plain → Idles me (Paused moved until) (solo_state old) (solo_state new)
idles_pause me moved until reading old new course paused = record {
  slots = record {
    taken = λ number. ap (λ (hall : HallView). taken_from (slot_at hall number)) paused;
    home = λ number home. subst (λ (hall : HallView). IsHome (slot_at hall number)) (sym paused) home;
  };
  mine = record {
    parts = record {
      part = λ heap. ap (λ (hall : HallView). part_in hall me heap) paused;
      joined = ap (λ (hall : HallView). joined_in hall me) paused;
      lines = ap (λ (hall : HallView). lines_at hall me) paused;
    };
    own = ap (λ (hall : HallView). own_at hall me) paused;
  };
  later = solo_later old new course;
  did = record { made = did_itself old.plain new.plain me (Notes (Paused moved until)) (ap (λ (hall : HallView). hall.mail) paused) };
}
