-- One that does a line in a hall of one thread may wait when it goes, and still after a call or a serving.
use Rattle.std.proofs.Common.{◌≡◌, ◌<◌, ℕ, List, [], length, refl, sym, subst}
use Rattle.hp_base.specs.declared.limits.TheConstants.{MAX_HEAPS}
use Rattle.hp_plain.specs.HallView.{HallView, IsHome, joined_in, own_at, part_in, seen_in, slot_at}
use Rattle.hp_hall.specs.Own.{Own}
use Rattle.hp_log.specs.declared.log_record.LogRecord.{LogRecord}
use Rattle.hp_serve.specs.Party.{Party}
use Rattle.hp_serve.specs.Tied.{IsTied, no_chunks, nothing_yet}
use Rattle.hp_solo.specs.Solo.{IsAway, IsTiedAt, IsTiedFor, MayWait, SoloView, marked_at, server_at}
use Rattle.hp_solo.specs.SoloCourse.{IsSoloCourse, solo_serves}
use Rattle.hp_serve.proofs.Tying.{tied_marks}
use Rattle.hp_solo.proofs.SoloTies.{tied_on}

-- one that has taken in nothing is tied to a hall that knows so, and has it in its roster where it has a table
pub tied_first : (hall : HallView) (who : ℕ) (party : Party) → own_at hall who ≡ nothing_yet → joined_in hall who ≡ party.joined
    → ((heap : ℕ) → marked_at hall who heap ≡ []) → party.me ≡ who
    → ((log : List LogRecord) → IsTied log nothing_yet no_chunks party.joined party.maps) → IsTiedAt hall party.me party
tied_first hall who party own joined unmarked number tied = record {
  number = refl;
  tied = subst (λ (n : ℕ). IsTiedFor hall n party) (sym number)
      (record {
        table = tied_marks (seen_in hall) (own_at hall who) no_chunks (marked_at hall who) party.joined party.maps unmarked
            (subst (λ (own : Own). IsTied (seen_in hall) own no_chunks party.joined party.maps) (sym own) (tied (seen_in hall)));
        same = joined;
        left = λ out. unmarked;
      });
}

-- when it has gone
pub waits_first : (hall : SoloView) (me : ℕ) (party : Party) → me < length hall.plain.owns → IsAway (server_at hall.servers me)
    → IsHome (slot_at hall.plain MAX_HEAPS) → IsTiedAt hall.plain me party → MayWait hall party
waits_first hall me party declared away home at = record {
  declared = subst (λ (n : ℕ). n < length hall.plain.owns) (sym at.number) declared;
  away = subst (λ (n : ℕ). IsAway (server_at hall.servers n)) (sym at.number) away;
  home = home;
  tied = subst (λ (n : ℕ). IsTiedFor hall.plain n party) (sym at.number) at.tied;
}

-- after a serving of its own
pub waits_after : (old new : SoloView) (party after : Party) → after.me ≡ party.me → IsSoloCourse old new
    → IsHome (slot_at new.plain MAX_HEAPS) → IsTiedFor new.plain party.me after
    → MayWait old party → MayWait new after
waits_after old new party after me course home tied may =
    waits_first new party.me after (subst (λ (n : ℕ). party.me < n) (sym course.plain.count) may.declared)
    (solo_serves old new party.me course may.away) home (record { number = me; tied = tied })

-- after a call that leaves its own part, whether it is in the roster, and the segment value in its slot
pub waits_on : (old new : SoloView) (party : Party) → IsSoloCourse old new → own_at new.plain party.me ≡ own_at old.plain party.me
    → joined_in new.plain party.me ≡ joined_in old.plain party.me
    → ((heap : ℕ) → part_in new.plain party.me heap ≡ part_in old.plain party.me heap) → IsHome (slot_at new.plain MAX_HEAPS) → MayWait old party
    → MayWait new party
waits_on old new party course own joined part home may =
    let tied = tied_on old.plain new.plain party.me party course.plain own joined part (record { number = refl; tied = may.tied }) in
    waits_after old new party party refl course home tied.tied may
