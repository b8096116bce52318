-- A participant takes the segment value, and gives it back.
use Rattle.std.proofs.Common.{◌≡◌, ◌∙◌, ◌≤◌, ℕ, None, ap, sym, arith}
use Rattle.hp_base.specs.declared.limits.TheConstants.{MAX_HEAPS}
use Rattle.hp_hall.specs.Holding.{HeapPart, part_after}
use Rattle.hp_hall.specs.HallCalls.{HasTaken}
use Rattle.hp_hall.specs.HallState.{HallState, OthersStay, PartsStay, SlotsStay, SlotsStayBut, Stays, MayServe}
use Rattle.hp_hall.specs.declared.kept.Kept.TheVariants.{Segments}
use Rattle.hp_hall.proofs.HallStates.{others_then, parts_then}
use Rattle.hp_segs.specs.SegsView.{SegsView, is_member}
use Rattle.hp_serve.specs.InHall.{IsTiedIn, RemainsIn}
use Rattle.hp_serve.specs.Party.{Party}
use Rattle.hp_serve.specs.SegmentSlot.{FreesSegs, GivesBack, HasSegs, MayHold, PutsBack, StaysButOwn, StaysButParts}
use Rattle.hp_serve.proofs.Carrying.{same_party}
use Rattle.hp_serve.proofs.InHalls.{parts_marks, tied_later}
use Rattle.hp_serve.proofs.Standing.{standing_with}
use Rattle.hp_serve.proofs.Taken.{home_after, taken_after}

-- it has taken the segment value
pub record Took (me : ℕ) (segs : SegsView) (old new : HallState) : Type 0 where
  pub may : MayHold me old
  pub took : HasTaken me MAX_HEAPS (Segments segs) old new
  pub slots : SlotsStayBut MAX_HEAPS old new
  pub others : OthersStay me old new
  pub measure : new.measure ≤ old.measure

pub may_hold : {me : ℕ} {a : HallState} → MayServe me a → MayHold me a
may_hold may = record { serves = may.serves; free = may.free; home = may.home }

pub took_serves : {me : ℕ} {segs : SegsView} {a b : HallState} → Took me segs a b → b.serves me
took_serves {me} took = took.others.later.serves me took.may.serves

pub took_parts : {me : ℕ} {segs : SegsView} {a b : HallState} → Took me segs a b → PartsStay me a b
took_parts took = record { part = took.took.part; joined = took.took.joined; lines = took.took.lines }

-- it has the value
pub took_has : {me : ℕ} {segs : SegsView} {a b : HallState} → Took me segs a b → HasSegs me segs b
took_has took = record {
  serves = took_serves took;
  taken = took.took.taken;
  roster = took.took.roster ∙ sym took.took.joined;
  standing = took.took.stands;
}

-- it has the value still, after what leaves its parts and the slots
pub has_still : {me : ℕ} {segs : SegsView} {a b : HallState} → SlotsStay a b → PartsStay me a b → OthersStay me a b → HasSegs me segs a
    → HasSegs me segs b
has_still {me} {segs} {a} {b} slots parts others has = record {
  serves = others.later.serves me has.serves;
  taken = slots.taken MAX_HEAPS ∙ has.taken;
  roster = has.roster ∙ sym parts.joined;
  standing = standing_with me (a.part me) (b.part me) segs parts.part has.standing;
}

-- the slots are as they were
pub closed : {me : ℕ} {a b c : HallState} → MayHold me a → SlotsStayBut MAX_HEAPS a b → SlotsStayBut MAX_HEAPS b c → c.taken MAX_HEAPS ≡ None
    → c.may_take MAX_HEAPS → SlotsStay a c
closed {me} {a} {b} {c} may took gave free home = record {
  taken = taken_after a.taken b.taken c.taken may.free took.taken gave.taken free;
  home = home_after a.may_take b.may_take c.may_take took.home gave.home home;
}

-- what was given in place of the taken value changes its parts in heaps at most, where the roster has it as before
pub gave_parts : {me : ℕ} {segs given : SegsView} {a b c : HallState} → Took me segs a b → is_member given.roster me ≡ is_member segs.roster me
    → GivesBack me given b c → StaysButParts me a c
gave_parts {me} {segs} {given} {a} {b} {c} took roster back =
    let lighter = took.measure in
    let then = back.measure in
    record {
      slots = closed took.may took.slots back.slots back.gave.taken back.gave.home;
      marked = λ heap. ap (λ (part : HeapPart). part.marked) (back.gave.part heap ∙ ap (part_after me given heap) (took.took.part heap));
      joined = back.gave.joined ∙ roster ∙ took.took.roster;
      own = back.gave.own ∙ took.took.own;
      lines = back.gave.lines ∙ took.took.lines;
      others = others_then took.others back.others;
      measure = omega (arith, lighter, then);
    }

-- the value was put back, and nothing changed
pub put_stays : {me : ℕ} {segs given : SegsView} {a b c : HallState} → Took me segs a b → PutsBack me given b c → Stays me a c
put_stays took put = record {
  slots = closed took.may took.slots put.back.slots put.back.gave.taken put.back.gave.home;
  mine = record { parts = parts_then (took_parts took) put.parts; own = put.back.gave.own ∙ took.took.own };
  others = others_then took.others put.back.others;
}

pub put_parts : {me : ℕ} {segs given : SegsView} {a b c : HallState} → Took me segs a b → PutsBack me given b c → StaysButParts me a c
put_parts took put =
    let stays = put_stays took put in
    let lighter = took.measure in
    let then = put.back.measure in
    record {
      slots = stays.slots;
      marked = parts_marks stays.mine.parts;
      joined = stays.mine.parts.joined;
      own = stays.mine.own;
      lines = stays.mine.parts.lines;
      others = stays.others;
      measure = omega (arith, lighter, then);
    }

pub put_own : {me : ℕ} {segs given : SegsView} {a b c : HallState} → Took me segs a b → PutsBack me given b c → StaysButOwn me a c
put_own took put =
    let stays = put_stays took put in
    let lighter = took.measure in
    let then = put.back.measure in
    record { slots = stays.slots; parts = stays.mine.parts; others = stays.others; measure = omega (arith, lighter, then) }

-- it was given back after what else was done with it
pub freed_own : {me : ℕ} {segs : SegsView} {a b c : HallState} → Took me segs a b → FreesSegs me b c → c.measure ≤ b.measure → StaysButOwn me a c
freed_own took frees then =
    let lighter = took.measure in
    record {
      slots = closed took.may took.slots frees.slots frees.taken frees.home;
      parts = parts_then (took_parts took) frees.parts;
      others = others_then took.others frees.others;
      measure = omega (arith, lighter, then);
    }

pub freed_stays : {me : ℕ} {segs : SegsView} {a b c : HallState} → Took me segs a b → FreesSegs me b c → c.own me ≡ b.own me → Stays me a c
freed_stays took frees own = record {
  slots = closed took.may took.slots frees.slots frees.taken frees.home;
  mine = record { parts = parts_then (took_parts took) frees.parts; own = own ∙ took.took.own };
  others = others_then took.others frees.others;
}

-- whose own part stays, keeps its table tied
pub remains_parts : (me : ℕ) (party : Party) {a b : HallState} → StaysButParts me a b → IsTiedIn me party a → RemainsIn me party party a b
remains_parts me party stays tied = record {
  same = same_party party;
  tied = tied_later me party stays.others.later stays.joined stays.own stays.marked tied;
  slots = stays.slots;
  marked = stays.marked;
  joined = stays.joined;
  lines = stays.lines;
  later = stays.others.later;
}
