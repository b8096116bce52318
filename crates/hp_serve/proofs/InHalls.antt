-- A participant in a hall, over what calls leave.
use Rattle.std.proofs.Common.{◌≡◌, ◌≢◌, ◌∙◌, ⊎_elim, ℕ, Bool, List, ap, sym, subst}
use Rattle.std.proofs.lemmas.Bool.{cases_eq}
use Rattle.hp_hall.specs.HallCalls.{HasTaken}
use Rattle.hp_hall.specs.HallState.{Did, HallState, IsLater, MayServe, MineStay, OthersStay, PartsStay, SlotsStay, Stays, Waits}
use Rattle.hp_hall.specs.Holding.{HeapPart, IsTakenAs}
use Rattle.hp_hall.specs.Mail.{MailStep}
use Rattle.hp_hall.specs.declared.kept.Kept.{Kept}
use Rattle.hp_hall.specs.declared.kept.Kept.TheVariants.{Heap, Names, Segments}
use Rattle.hp_hall.proofs.HallStates.{later_then, may_still, others_same, others_then, slots_then, waits_by, waits_same, waits_then}
use Rattle.hp_maps.specs.MapsView.{MapsView}
use Rattle.hp_serve.specs.InHall.{CanCoordinate, CanServe, IsTiedIn, RemainsIn, StaysAlone, StaysIn, marked_in}
use Rattle.hp_serve.specs.Party.{IsSameParty, Party}
use Rattle.hp_serve.specs.SegmentSlot.{MarksStay}
use Rattle.hp_serve.specs.Tied.{IsTied}
use Rattle.hp_serve.proofs.Carrying.{same_party, same_then}
use Rattle.hp_serve.proofs.Handed.{tied_still}

-- marks stay with the parts
pub parts_marks : {me : ℕ} {a b : HallState} → PartsStay me a b → MarksStay me a b
parts_marks parts heap = ap (λ (part : HeapPart). part.marked) (parts.part heap)

-- and over a take, whatever was taken
pub marked_taken : (kept : Kept) (old new : ℕ → HeapPart) → IsTakenAs kept old new → (heap : ℕ) → (new heap).marked ≡ (old heap).marked
marked_taken (Heap taken pen) old new is heap =
    ⊎_elim
    (λ (same : heap ≡ taken.plain.index). ap (λ (n : ℕ). (new n).marked) same ∙ is.0.marked ∙ ap (λ (n : ℕ). (old n).marked) (sym same))
    (λ (apart : heap ≢ taken.plain.index). ap (λ (part : HeapPart). part.marked) (is.1 heap apart))
    (cases_eq heap taken.plain.index)
marked_taken (Segments segs) old new is heap = ap (λ (part : HeapPart). part.marked) (is heap)
marked_taken (Names names) old new is heap = (is heap).marked

-- its table stays tied while its own part does, its marks, and whether it is in the roster
pub tied_later : (me : ℕ) (party : Party) {a b : HallState} → IsLater a b → b.joined me ≡ a.joined me → b.own me ≡ a.own me → MarksStay me a b
    → IsTiedIn me party a → IsTiedIn me party b
tied_later me party {a} {b} later joined own marks tied =
    let seen = later.seen me in
    record {
      table = tied_still (a.seen me) (b.seen me) seen.0 (a.own me) (b.own me) (marked_in me a) (marked_in me b) party.joined party.maps seen.1 own
          marks tied.table;
      same = joined ∙ tied.same;
      left = λ out heap. marks heap ∙ tied.left out heap;
    }

pub tied_taken : (me slot : ℕ) (kept : Kept) (party : Party) {a b : HallState} → HasTaken me slot kept a b → IsLater a b → IsTiedIn me party a
    → IsTiedIn me party b
tied_taken me slot kept party {a} {b} took later tied =
    tied_later me party later took.joined took.own (marked_taken kept (a.part me) (b.part me) took.part) tied

pub in_same : (me : ℕ) (party : Party) (a : HallState) → IsTiedIn me party a → StaysIn me party party a a
in_same me party a tied = record { same = same_party party; tied = tied; waits = waits_same me a }

-- one number throughout
pub as_then : {me : ℕ} {first mid last : Party} {a b c : HallState} → StaysIn me first mid a b → StaysIn me mid last b c
    → StaysIn me first last a c
as_then {me} {first} {mid} {last} here next = record {
  same = same_then first mid last here.same next.same;
  tied = next.tied;
  waits = waits_then here.waits next.waits;
}

-- each time as who it is
pub in_then : {first mid last : Party} {a b c : HallState} → StaysIn first.me first mid a b → StaysIn mid.me mid last b c
    → StaysIn first.me first last a c
in_then {first} {mid} {last} {a} {b} {c} here next =
    as_then here (subst (λ (who : ℕ). StaysIn who mid last b c) here.same.me next)

-- what it did next, it did as who it was
pub in_did : {first mid : Party} {a b c : HallState} {steps : List MailStep} → StaysIn first.me first mid a b → Did mid.me steps b c
    → Did first.me steps b c
in_did {first} {mid} {a} {b} {c} {steps} here did = subst (λ (who : ℕ). Did who steps b c) here.same.me did

pub in_tied : {first mid : Party} {a b : HallState} → StaysIn first.me first mid a b → IsTiedIn mid.me mid b
in_tied {first} {mid} {a} {b} here = subst (λ (who : ℕ). IsTiedIn who mid b) (sym here.same.me) here.tied

pub in_may : {first mid : Party} {a b : HallState} → StaysIn first.me first mid a b → MayServe first.me a → MayServe mid.me b
in_may {first} {mid} {a} {b} here may =
    subst (λ (who : ℕ). MayServe who b) (sym here.same.me) (may_still here.waits.slots here.waits.later may)

pub in_can : {first mid : Party} {a b : HallState} → StaysIn first.me first mid a b → CanServe first.me first a → CanServe mid.me mid b
in_can here can = record { may = in_may here can.may; tied = in_tied here }

-- a call of the hall that leaves all of it
pub in_stays : (me : ℕ) (party : Party) {a b : HallState} → Stays me a b → IsTiedIn me party a → StaysIn me party party a b
in_stays me party {a} {b} stays tied = record {
  same = same_party party;
  tied = tied_later me party stays.others.later stays.mine.parts.joined stays.mine.own (parts_marks stays.mine.parts) tied;
  waits = waits_by stays;
}

pub can_still : {me : ℕ} {party : Party} {a b : HallState} → Stays me a b → CanServe me party a → CanServe me party b
can_still {me} {party} stays can = record {
  may = may_still stays.slots stays.others.later can.may;
  tied = tied_later me party stays.others.later stays.mine.parts.joined stays.mine.own (parts_marks stays.mine.parts) can.tied;
}

-- others served for it, or it paused
pub in_others : (party : Party) {inside : ℕ} {a b : HallState} → inside ≡ party.me → SlotsStay a b → MineStay inside a b → IsLater a b
    → IsTiedIn party.me party a → StaysIn party.me party party a b
in_others party {inside} {a} {b} here slots mine later tied =
    let stay : MineStay party.me a b = subst (λ (who : ℕ). MineStay who a b) here mine in
    record {
      same = same_party party;
      tied = tied_later party.me party later stay.parts.joined stay.own (parts_marks stay.parts) tied;
      waits = record { slots = slots; parts = stay.parts; later = later };
    }

pub in_waits : (party : Party) {a b : HallState} → Waits party.me a b → b.own party.me ≡ a.own party.me → IsTiedIn party.me party a
    → StaysIn party.me party party a b
in_waits party waits own tied = record { same = same_party party; tied = tied_later party.me party waits.later waits.parts.joined own (parts_marks waits.parts) tied; waits = waits }

-- while nobody else does anything
pub alone_same : (me : ℕ) (party : Party) (a : HallState) → IsTiedIn me party a → StaysAlone me party party a a
alone_same me party a tied = record { stays = in_same me party a tied; others = others_same me a }

pub alone_by : (me : ℕ) (party : Party) {a b : HallState} → Stays me a b → IsTiedIn me party a → StaysAlone me party party a b
alone_by me party stays tied = record { stays = in_stays me party stays tied; others = stays.others }

pub alone_then : {me : ℕ} {first mid last : Party} {a b c : HallState} → StaysAlone me first mid a b → StaysAlone me mid last b c
    → StaysAlone me first last a c
alone_then here next = record { stays = as_then here.stays next.stays; others = others_then here.others next.others }

pub alone_next : {first mid last : Party} {a b c : HallState} → StaysAlone first.me first mid a b → StaysAlone mid.me mid last b c
    → StaysAlone first.me first last a c
alone_next {first} {mid} {last} {a} {b} {c} here next =
    alone_then here (subst (λ (who : ℕ). StaysAlone who mid last b c) here.stays.same.me next)

-- participant 0 goes on coordinating
pub coordinates_on : {first mid : Party} {a b : HallState} → StaysAlone 0 first mid a b → CanCoordinate first a → CanCoordinate mid b
coordinates_on here can = record {
  primary = here.stays.same.me ∙ can.primary;
  may = may_still here.stays.waits.slots here.others.later can.may;
  tied = here.stays.tied;
}

pub coordinates_still : {party : Party} {a b : HallState} → Stays 0 a b → CanCoordinate party a → CanCoordinate party b
coordinates_still {party} stays can = coordinates_on (alone_by 0 party stays can.tied) can

-- a wait that goes on after what changed its parts
pub remains_then : {me : ℕ} {first mid last : Party} {a b c : HallState} → RemainsIn me first mid a b → RemainsIn me mid last b c
    → RemainsIn me first last a c
remains_then {me} {first} {mid} {last} here next = record {
  same = same_then first mid last here.same next.same;
  tied = next.tied;
  slots = slots_then here.slots next.slots;
  marked = λ heap. next.marked heap ∙ here.marked heap;
  joined = next.joined ∙ here.joined;
  lines = next.lines ∙ here.lines;
  later = later_then here.later next.later;
}

pub remains_by : {me : ℕ} {old new : Party} {a b : HallState} → StaysIn me old new a b → RemainsIn me old new a b
remains_by here = record {
  same = here.same;
  tied = here.tied;
  slots = here.waits.slots;
  marked = parts_marks here.waits.parts;
  joined = here.waits.parts.joined;
  lines = here.waits.parts.lines;
  later = here.waits.later;
}

-- it did something by parts of itself, and is the same one
pub alone_of : {me : ℕ} {old inside new : Party} {a b : HallState} → inside ≡ old → IsSameParty inside new → IsTiedIn me new b → SlotsStay a b
    → PartsStay me a b → OthersStay me a b → StaysAlone me old new a b
alone_of {me} {old} {inside} {new} is same tied slots parts others = record {
  stays = record {
    same = subst (λ (party : Party). IsSameParty party new) is same;
    tied = tied;
    waits = record { slots = slots; parts = parts; later = others.later };
  };
  others = others;
}

-- and its table is as it was
pub alone_with : {me : ℕ} {old inside new : Party} {a b : HallState} → inside ≡ old → IsSameParty inside new → new.joined ≡ inside.joined
    → new.maps ≡ inside.maps → Stays me a b → IsTiedIn me old a → StaysAlone me old new a b
alone_with {me} {old} {inside} {new} {a} {b} is same joined maps stays tied =
    let later = tied_later me old stays.others.later stays.mine.parts.joined stays.mine.own (parts_marks stays.mine.parts) tied in
    let held : IsTiedIn me inside b = subst (λ (party : Party). IsTiedIn me party b) (sym is) later in
    let table : IsTied (b.seen me) (b.own me) (marked_in me b) inside.joined new.maps =
    subst (λ (maps : MapsView). IsTied (b.seen me) (b.own me) (marked_in me b) inside.joined maps) (sym maps) held.table in
    alone_of is same
    (record {
      table = subst (λ (joined : Bool). IsTied (b.seen me) (b.own me) (marked_in me b) joined new.maps) (sym joined) table;
      same = held.same ∙ sym joined;
      left = λ out. held.left (sym joined ∙ out);
    }) stays.slots stays.mine.parts stays.others
