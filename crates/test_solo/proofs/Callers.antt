-- What one that does a line by hand may do in a hall, and what its calls leave.
use Rattle.std.proofs.Common.{◌≡◌, ◌∙◌, ◌<◌, ℕ, Option, length, sym, ap, subst, arith, IsSome}
use Rattle.std.proofs.lemmas.List.{append-nil}
use Rattle.hp_base.specs.declared.limits.TheConstants.{MAX_HEAPS}
use Rattle.hp_hall.specs.HallCalls.{Idles}
use Rattle.hp_hall.specs.HallState.{HallState, MayServe, OthersStay, SlotsStayBut, Stays}
use Rattle.hp_hall.specs.Holding.{HeapPart}
use Rattle.hp_hall.specs.Mail.{steps_of}
use Rattle.hp_hall.specs.declared.note.Note.{Note}
use Rattle.hp_hall.proofs.HallStates.{may_still}
use Rattle.hp_plain.specs.Course.{IsCourse}
use Rattle.hp_plain.specs.HallView.{HallView, IsHome, joined_in, lines_at, own_at, part_in, slot_at}
use Rattle.hp_plain.specs.PlainState.{plain_state}
use Rattle.hp_serve.proofs.InHalls.{can_still, in_can, in_others, tied_later}
use Rattle.hp_serve.proofs.MemberLemmas.{at_each}
use Rattle.hp_serve.specs.InHall.{CanServe, IsTiedIn, RemainsIn, StaysAlone}
use Rattle.hp_serve.specs.Party.{Party}
use Rattle.hp_serve.specs.SegmentSlot.{MarksStay, MayHold, StaysButParts}
use Rattle.hp_solo.specs.Solo.{IsPartyServed, IsTiedAt, MayWait, SoloView, marked_at}
use Rattle.hp_solo.specs.SoloAsks.{MayBeginToAsk}
use Rattle.hp_solo.specs.SoloState.{solo_state}
use Rattle.hp_solo.proofs.SoloTies.{free_home}
use Rattle.test_solo.specs.Asking.{MayBegin}
use Rattle.test_solo.proofs.StageLemmas.{is_declared, tied_own}

-- IN ANY HALL

-- who may serve may still after a call that leaves all of it
pub can_stay : (party : Party) {who : ℕ} {a b : HallState} → who ≡ party.me → Stays who a b → CanServe party.me party a → CanServe party.me party b
can_stay party {who} {a} {b} number stays can = can_still (subst (λ (n : ℕ). Stays n a b) number stays) can

-- after others served for it, or it paused
pub can_idle : (party : Party) {who : ℕ} {note : Note} {a b : HallState} → who ≡ party.me → Idles who note a b → CanServe party.me party a
    → CanServe party.me party b
can_idle party number idles can = in_can (in_others party number idles.slots idles.mine idles.later can.tied) can

-- after its ask
pub can_remain : {first mid : Party} {a b : HallState} → RemainsIn first.me first mid a b → CanServe first.me first a → CanServe mid.me mid b
can_remain {first} {mid} {a} {b} here can = record {
  may = subst (λ (who : ℕ). MayServe who b) (sym here.same.me) (may_still here.slots here.later can.may);
  tied = subst (λ (who : ℕ). IsTiedIn who mid b) (sym here.same.me) here.tied;
}

-- after a call that may change its parts alone
pub can_parts : (party : Party) {a b : HallState} → StaysButParts party.me a b → CanServe party.me party a → CanServe party.me party b
can_parts party stays can = record {
  may = may_still stays.slots stays.others.later can.may;
  tied = tied_later party.me party stays.others.later stays.joined stays.own stays.marked can.tied;
}

-- and after what leaves all slots but that of heap 0
pub can_but : (party : Party) {who : ℕ} {a b : HallState} → who ≡ party.me → SlotsStayBut 0 a b → OthersStay who a b → b.joined who ≡ a.joined who
    → b.own who ≡ a.own who → MarksStay who a b → CanServe party.me party a → CanServe party.me party b
can_but party {who} {a} {b} number slots others joined own marked can = record {
  may = record {
    serves = others.later.serves party.me can.may.serves;
    declared = subst (λ (n : ℕ). party.me < n) (sym others.later.count) can.may.declared;
    free = slots.taken MAX_HEAPS (λ (same : MAX_HEAPS ≡ 0). cc) ∙ can.may.free;
    home = slots.home MAX_HEAPS (λ (same : MAX_HEAPS ≡ 0). cc) can.may.home;
  };
  tied = tied_later party.me party others.later (subst (λ (n : ℕ). b.joined n ≡ a.joined n) number joined)
      (subst (λ (n : ℕ). b.own n ≡ a.own n) number own) (subst (λ (n : ℕ). MarksStay n a b) number marked) can.tied;
}

-- and may begin to ask still
pub begins_stay : (party : Party) {who : ℕ} {a b : HallState} → who ≡ party.me → Stays who a b → MayBegin party a → MayBegin party b
begins_stay party {who} {a} {b} number stays begins =
    let part : (heap : ℕ) → b.part party.me heap ≡ a.part party.me heap =
    subst (λ (n : ℕ). (heap : ℕ) → b.part n heap ≡ a.part n heap) number stays.mine.parts.part in
    record {
      can = can_stay party number stays begins.can;
      home = stays.slots.home 0 begins.home;
      serves = subst (λ (o : Option ℕ). IsSome o) (sym (ap (λ (part : HeapPart). part.serves) (part 0))) begins.serves;
      unarmed = λ heap. ap (λ (part : HeapPart). part.armed) (part heap) ∙ begins.unarmed heap;
    }

-- IN A HALL OF ONE THREAD

-- who may wait there may serve, and who may serve may wait
pub can_wait : (hall : SoloView) (party : Party) → MayWait hall party → CanServe party.me party (solo_state hall)
can_wait hall party may = record {
  may = record {
    serves = may.away;
    declared = may.declared;
    free = free_home (slot_at hall.plain MAX_HEAPS) may.home;
    home = may.home;
  };
  tied = may.tied;
}

pub waits_there : (hall : SoloView) (party : Party) → CanServe party.me party (solo_state hall) → MayWait hall party
waits_there hall party can = record {
  declared = can.may.declared;
  away = can.may.serves;
  home = can.may.home;
  tied = can.tied;
}

-- and may begin to ask
pub begins_there : (hall : SoloView) (party : Party) → MayWait hall party → MayBeginToAsk hall.plain party.me → MayBegin party (solo_state hall)
begins_there hall party may begins = record {
  can = can_wait hall party may;
  home = begins.home;
  serves = begins.serves;
  unarmed = begins.unarmed;
}

-- ON A STAGE

pub stage_holds : (hall : HallView) (who : ℕ) → who < length hall.owns → IsHome (slot_at hall MAX_HEAPS) → MayHold who (plain_state hall)
stage_holds hall who declared home = record {
  serves = declared;
  free = free_home (slot_at hall MAX_HEAPS) home;
  home = home;
}

-- one of the two may serve
pub stage_can : (hall : HallView) (who : ℕ) (party : Party) → length hall.owns ≡ 2 → who < 2 → IsHome (slot_at hall MAX_HEAPS)
    → IsTiedAt hall who party
    → CanServe party.me party (plain_state hall)
stage_can hall who party two below home at =
    let declared = is_declared hall who party two below at in
    record {
      may = record {
        serves = declared;
        declared = declared;
        free = free_home (slot_at hall MAX_HEAPS) home;
        home = home;
      };
      tied = tied_own hall who party at;
    }

-- it has served
pub stage_served : (old new : HallView) (party after : Party) → IsCourse old new
    → StaysAlone party.me party after (plain_state old) (plain_state new) → IsPartyServed old new party after
stage_served old new party after course alone =
    let me = party.me in
    let stays = alone.stays in
    let others = alone.others in
    record {
      serving = record {
        course = course;
        taken = stays.waits.slots.taken;
        home = stays.waits.slots.home;
        part = λ who heap.
            at_each (λ n. part_in new n heap ≡ part_in old n heap) me (stays.waits.parts.part heap) (λ n apart. others.part n heap apart) who;
        joined = at_each (λ n. joined_in new n ≡ joined_in old n) me stays.waits.parts.joined (λ n apart. others.joined n apart);
        lines = at_each (λ n. lines_at new n ≡ lines_at old n) me stays.waits.parts.lines (λ n apart. others.lines n apart);
        own = others.own;
        did = λ who apart. others.done who apart ∙ sym (append-nil (steps_of who old.mail));
        clock = others.clock;
      };
      same = stays.same;
      tied = stays.tied;
    }

-- every own part stays
pub stage_owns : (old new : HallView) {who : ℕ} → Stays who (plain_state old) (plain_state new) → (other : ℕ) → own_at new other ≡ own_at old other
stage_owns old new {who} stays = at_each (λ n. own_at new n ≡ own_at old n) who stays.mine.own stays.others.own

-- and whether anybody is in the roster
pub stage_joins : (old new : HallView) {who : ℕ} → Stays who (plain_state old) (plain_state new) → (other : ℕ)
    → joined_in new other ≡ joined_in old other
stage_joins old new {who} stays = at_each (λ n. joined_in new n ≡ joined_in old n) who stays.mine.parts.joined stays.others.joined

-- and every mark
pub stage_marks : (old new : HallView) {who : ℕ} → Stays who (plain_state old) (plain_state new) → (other heap : ℕ)
    → marked_at new other heap ≡ marked_at old other heap
stage_marks old new {who} stays =
    at_each (λ n. (heap : ℕ) → marked_at new n heap ≡ marked_at old n heap) who
    (λ heap. ap (λ (p : HeapPart). p.marked) (stays.mine.parts.part heap))
    (λ n apart heap. ap (λ (p : HeapPart). p.marked) (stays.others.part n heap apart))
