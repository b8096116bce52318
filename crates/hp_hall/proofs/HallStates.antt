-- What calls leave, one after another.
use Rattle.std.proofs.Common.{◌≡◌, ℕ, List, [], ◌∷◌, ◌++◌, true, false, Some, None, refl, sym, ap, ◌∙◌, arith}
use Rattle.std.proofs.lemmas.List.{append-nil, append_assoc}
use Rattle.std.proofs.lemmas.List.Sums.{fold-append}
use Rattle.hp_base.specs.declared.limits.TheConstants.{MAX_HEAPS}
use Rattle.hp_hall.specs.HallCalls.{HasComeTo, Idles}
use Rattle.hp_hall.specs.HallState.{Did, HallState, IsLater, MayServe, MineStay, OthersStay, PartsStay, SlotsStay, SlotsStayBut, Stays, Waits}
use Rattle.hp_hall.specs.Named.{NamesGoOn, NamesSeen}
use Rattle.hp_hall.specs.Mail.{HasInHand, MailStep, Notes, Takes}
use Rattle.hp_hall.specs.Own.{Own}
use Rattle.hp_hall.specs.Telling.{acked_after, acked_since_take, emptied_after, emptied_since_take, has_names, names_after}
use Rattle.hp_zone.specs.declared.names.Names.{Names as NamesView}
use Rattle.hp_hall.specs.declared.kept.Kept.{Kept}
use Rattle.hp_hall.specs.declared.kept.Kept.TheVariants.{Names, Segments}
use Rattle.hp_hall.specs.declared.note.Note.{Note}
use Rattle.hp_hall.specs.declared.note.Note.TheVariants.{Acked, Emptied}
use Rattle.hp_segs.specs.SegsView.{SegsView}

-- two lists that each go on from the one before
pub more_then : {X : Type 0} (a b c first second : List X) → b ≡ a ++ first → c ≡ b ++ second → c ≡ a ++ (first ++ second)
more_then a b c first second here next = next ∙ ap (λ x. x ++ second) here ∙ append_assoc a first second

abbrev pub names_same : (names : NamesSeen) → NamesGoOn names names
names_same names = record {
  sockets = refl;
  more_zones = [];
  zones = sym (append-nil names.zones);
  more_heaps = [];
  heaps = sym (append-nil names.heaps);
}

pub names_then : {a b c : NamesSeen} → NamesGoOn a b → NamesGoOn b c → NamesGoOn a c
names_then {a} {b} {c} here next = record {
  sockets = next.sockets ∙ here.sockets;
  more_zones = here.more_zones ++ next.more_zones;
  zones = more_then a.zones b.zones c.zones here.more_zones next.more_zones here.zones next.zones;
  more_heaps = here.more_heaps ++ next.more_heaps;
  heaps = more_then a.heaps b.heaps c.heaps here.more_heaps next.more_heaps here.heaps next.heaps;
}

pub later_same : (a : HallState) → IsLater a a
later_same a = record {
  count = refl;
  serves = λ who serves. serves;
  seen = λ who. ([], sym (append-nil (a.seen who)));
  heard = λ who. ([], sym (append-nil (a.heard who)));
  named = λ who. names_same (a.named who);
  shown = λ who heap. omega arith;
  noted = λ who other. record { number = omega arith; lines = omega arith };
  lines = λ who. omega arith;
  full_mailboxes = omega arith;
  stopped = λ is. is;
}

pub later_then : {a b c : HallState} → IsLater a b → IsLater b c → IsLater a c
later_then {a} {b} {c} here next = record {
  count = next.count ∙ here.count;
  serves = λ who serves. next.serves who (here.serves who serves);
  seen = λ who.
      let first = here.seen who in
      let second = next.seen who in
      (first.0 ++ second.0, more_then (a.seen who) (b.seen who) (c.seen who) first.0 second.0 first.1 second.1);
  heard = λ who.
      let first = here.heard who in
      let second = next.heard who in
      (first.0 ++ second.0, more_then (a.heard who) (b.heard who) (c.heard who) first.0 second.0 first.1 second.1);
  named = λ who. names_then (here.named who) (next.named who);
  shown = λ who heap. omega (arith, here.shown who heap, next.shown who heap);
  noted = λ who other. record {
    number = omega (arith, (here.noted who other).number, (next.noted who other).number);
    lines = omega (arith, (here.noted who other).lines, (next.noted who other).lines);
  };
  lines = λ who. omega (arith, here.lines who, next.lines who);
  full_mailboxes = omega (arith, here.full_mailboxes, next.full_mailboxes);
  stopped = λ is. next.stopped (here.stopped is);
}

pub did_same : (me : ℕ) (a : HallState) → Did me [] a a
did_same me a = record { made = sym (append-nil (a.done me)) }

pub did_then : {me : ℕ} {first second : List MailStep} {a b c : HallState} → Did me first a b → Did me second b c → Did me (first ++ second) a c
did_then {me} {first} {second} {a} {b} {c} here next =
    record { made = more_then (a.done me) (b.done me) (c.done me) first second here.made next.made }

-- who has just taken a value has it in hand
pub just_taken : {me slot : ℕ} {kept : Kept} {a b : HallState} → Did me (Takes slot kept ∷ []) a b → HasInHand slot (b.done me)
just_taken {me} {slot} {kept} {a} {b} did = (a.done me, [], kept, did.made, tt)

-- who has acknowledged records right after it took the segment value has acknowledged so many since
pub acked_taken : {me slot number : ℕ} {segs : SegsView} {a b : HallState} → Did me (Takes slot (Segments segs) ∷ Notes (Acked number) ∷ []) a b
    → acked_since_take (b.done me) ≡ Some number
acked_taken {me} {slot} {number} {segs} {a} {b} did =
    ap acked_since_take did.made ∙ fold-append acked_after None (a.done me) (Takes slot (Segments segs) ∷ Notes (Acked number) ∷ [])

-- who has told right after it took the segment value that its table has no row has told so since
pub emptied_taken : {me slot : ℕ} {segs : SegsView} {a b : HallState} → Did me (Takes slot (Segments segs) ∷ Notes Emptied ∷ []) a b
    → emptied_since_take (b.done me) ≡ true
emptied_taken {me} {slot} {segs} {a} {b} did =
    ap emptied_since_take did.made ∙ fold-append emptied_after false (a.done me) (Takes slot (Segments segs) ∷ Notes Emptied ∷ [])

-- who has just taken the names has them in hand
pub names_taken : {me slot : ℕ} {names : NamesView} {a b : HallState} → Did me (Takes slot (Names names) ∷ []) a b → has_names (b.done me) ≡ true
names_taken {me} {slot} {names} {a} {b} did =
    ap has_names did.made ∙ fold-append names_after false (a.done me) (Takes slot (Names names) ∷ [])

pub slots_same : (a : HallState) → SlotsStay a a
slots_same a = record { taken = λ number. refl; home = λ number may. may }

pub slots_then : {a b c : HallState} → SlotsStay a b → SlotsStay b c → SlotsStay a c
slots_then here next = record {
  taken = λ number. next.taken number ∙ here.taken number;
  home = λ number may. next.home number (here.home number may);
}

pub slots_but : {slot : ℕ} {a b : HallState} → SlotsStay a b → SlotsStayBut slot a b
slots_but here = record { taken = λ number apart. here.taken number; home = λ number apart may. here.home number may }

pub but_then : {slot : ℕ} {a b c : HallState} → SlotsStayBut slot a b → SlotsStayBut slot b c → SlotsStayBut slot a c
but_then here next = record {
  taken = λ number apart. next.taken number apart ∙ here.taken number apart;
  home = λ number apart may. next.home number apart (here.home number apart may);
}

pub parts_same : (me : ℕ) (a : HallState) → PartsStay me a a
parts_same me a = record { part = λ heap. refl; joined = refl; lines = refl }

pub parts_then : {me : ℕ} {a b c : HallState} → PartsStay me a b → PartsStay me b c → PartsStay me a c
parts_then here next = record {
  part = λ heap. next.part heap ∙ here.part heap;
  joined = next.joined ∙ here.joined;
  lines = next.lines ∙ here.lines;
}

pub mine_same : (me : ℕ) (a : HallState) → MineStay me a a
mine_same me a = record { parts = parts_same me a; own = refl }

pub mine_then : {me : ℕ} {a b c : HallState} → MineStay me a b → MineStay me b c → MineStay me a c
mine_then here next = record { parts = parts_then here.parts next.parts; own = next.own ∙ here.own }

pub others_same : (me : ℕ) (a : HallState) → OthersStay me a a
others_same me a = record {
  part = λ who heap apart. refl;
  joined = λ who apart. refl;
  own = λ who apart. refl;
  lines = λ who apart. refl;
  done = λ who apart. refl;
  clock = refl;
  later = later_same a;
}

pub others_then : {me : ℕ} {a b c : HallState} → OthersStay me a b → OthersStay me b c → OthersStay me a c
others_then here next = record {
  part = λ who heap apart. next.part who heap apart ∙ here.part who heap apart;
  joined = λ who apart. next.joined who apart ∙ here.joined who apart;
  own = λ who apart. next.own who apart ∙ here.own who apart;
  lines = λ who apart. next.lines who apart ∙ here.lines who apart;
  done = λ who apart. next.done who apart ∙ here.done who apart;
  clock = next.clock ∙ here.clock;
  later = later_then here.later next.later;
}

pub stays_same : (me : ℕ) (a : HallState) → Stays me a a
stays_same me a = record { slots = slots_same a; mine = mine_same me a; others = others_same me a }

pub stays_then : {me : ℕ} {a b c : HallState} → Stays me a b → Stays me b c → Stays me a c
stays_then here next = record {
  slots = slots_then here.slots next.slots;
  mine = mine_then here.mine next.mine;
  others = others_then here.others next.others;
}

pub waits_same : (me : ℕ) (a : HallState) → Waits me a a
waits_same me a = record { slots = slots_same a; parts = parts_same me a; later = later_same a }

pub waits_then : {me : ℕ} {a b c : HallState} → Waits me a b → Waits me b c → Waits me a c
waits_then here next = record {
  slots = slots_then here.slots next.slots;
  parts = parts_then here.parts next.parts;
  later = later_then here.later next.later;
}

-- who does something waits for nothing, and it may serve after both
pub waits_by : {me : ℕ} {a b : HallState} → Stays me a b → Waits me a b
waits_by stays = record { slots = stays.slots; parts = stays.mine.parts; later = stays.others.later }

-- so does who makes a note while others do what they do, and whose own part comes to another
pub waits_idle : {me : ℕ} {note : Note} {a b : HallState} → Idles me note a b → Waits me a b
waits_idle idles = record { slots = idles.slots; parts = idles.mine.parts; later = idles.later }

pub waits_come : {me : ℕ} {own : Own} {steps : List MailStep} {a b : HallState} → HasComeTo me own steps a b → Waits me a b
waits_come come = record { slots = come.slots; parts = come.parts; later = come.others.later }

pub may_still : {me : ℕ} {a b : HallState} → SlotsStay a b → IsLater a b → MayServe me a → MayServe me b
may_still {me} {a} {b} slots later may = record {
  serves = later.serves me may.serves;
  declared = omega (arith, later.count, may.declared);
  free = slots.taken MAX_HEAPS ∙ may.free;
  home = slots.home MAX_HEAPS may.home;
}
