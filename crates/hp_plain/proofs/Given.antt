-- What a give leaves: a value of the same slot, later on, in which nobody but the giver has more entries.
use Rattle.std.proofs.Common.{◌≡◌, ◌≢◌, ℕ, ◌+◌, eqb, ne_eqb, List, [], ◌∷◌, ◌++◌, Bool, true, false, Option, Some, None, is_none, refl, sym, ap, subst, ◌∙◌, if◌then◌else◌}
use Rattle.std.specs.List.{AllByRecursion}
use Rattle.std.specs.Option.{option_map, option_map_or}
use Rattle.std.proofs.lemmas.Bool.{cond-false}
use Rattle.std.proofs.lemmas.List.{append-nil}
use Rattle.std.proofs.lemmas.List.Elements.{filter-append}
use Rattle.std.proofs.lemmas.Option.{slice_get-map}
use Rattle.hp_heap.specs.declared.entry.Entry.{Entry}
use Rattle.hp_heap.specs.History.{entries_of}
use Rattle.hp_hall.specs.declared.kept.Kept.{Kept}
use Rattle.hp_hall.specs.declared.kept.Kept.TheVariants.{Heap, Names, Segments}
use Rattle.hp_hall.specs.Giving.{GivesFor, GivesHeld, GivesKept, GivesSegments, GivesTheNames, IsNumbered, Knows}
use Rattle.hp_hall.specs.HeapPairs.{pair_of}
use Rattle.hp_hall.specs.Named.{IsAllocated}
use Rattle.hp_hall.specs.Views.{HeldHeap}
use Rattle.hp_hall.proofs.OneKind.{by_kind}
use Rattle.hp_segs.specs.SegsView.{SegsView}
use Rattle.hp_stats.specs.declared.stat_pair.StatPair.{StatPair}
use Rattle.hp_zone.specs.declared.names.Names.{Names as NamesView}
use Rattle.hp_plain.specs.Keeping.{AreAllocatedBy, entries_among, values_in}
use Rattle.hp_plain.specs.HallView.{HallView, SlotView, heard_in, history_in, is_held_by, newest_by, newest_of, own_at, part_in, seen_in, slot_at, taken_from, told_in}
use Rattle.hp_hall.specs.Mail.{steps_of}
use Rattle.hp_hall.specs.Telling.{acked_since_take, emptied_since_take, has_names}
use Rattle.hp_hall.specs.Values.{Fits, HasPairs, history_of, marks_of, pair_in}

-- what a participant of a hall of plain values knows
abbrev pub known : HallView → ℕ → Knows
known hall me = record {
  who = me;
  taken = λ number. taken_from (slot_at hall number);
  part = part_in hall me;
  number = (own_at hall me).number;
  acked = acked_since_take (steps_of me hall.mail);
  emptied = emptied_since_take (steps_of me hall.mail);
  naming = has_names (steps_of me hall.mail);
  noted = λ other. (own_at hall other).number;
  seen = seen_in hall;
  heard = heard_in hall;
}

pub entries_of-append : (who : ℕ) (xs ys : List Entry) → entries_of who (xs ++ ys) ≡ entries_of who xs ++ entries_of who ys
unfolding entries_of
entries_of-append who xs ys = filter-append (λ (entry : Entry). eqb entry.caller.participant who) xs ys

no_entries : (who : ℕ) → entries_of who [] ≡ []
unfolding entries_of
no_entries who = refl

-- entries that are numbered on are of one participant
pub numbered_only : (who count : ℕ) (entries : List Entry) → IsNumbered who count entries
    → AllByRecursion (λ entry. entry.caller.participant ≡ who) entries
numbered_only who count [] numbered = tt
numbered_only who count (entry ∷ entries) numbered =
    (ap (λ c. c.participant) numbered.0, numbered_only who (count + 1) entries numbered.1)

-- entries of one participant are nobody else's
pub entries_of-other : (who other : ℕ) (entries : List Entry) → other ≢ who → AllByRecursion (λ entry. entry.caller.participant ≡ who) entries
    → entries_of other entries ≡ []
unfolding entries_of
entries_of-other who other [] apart only = refl
entries_of-other who other (entry ∷ entries) apart only =
    cond-false (eqb entry.caller.participant other) (entry ∷ entries_of other entries) (entries_of other entries)
    (ne_eqb entry.caller.participant other (λ same. apart (sym same ∙ only.0)))
    ∙ entries_of-other who other entries apart only.1

-- a participant's entries in the heap of a slot, among the values of a hall
among_slot : (who : ℕ) (slot : Option SlotView) → option_map_or (λ kept. entries_of who (history_of kept)) (option_map (λ slot. slot.kept) slot) []
    ≡ entries_of who (history_in slot)
among_slot who None = sym (no_entries who)
among_slot who (Some slot) = refl

among_values : (hall : HallView) (who heap : ℕ) → entries_among who (values_in hall) heap ≡ (part_in hall who heap).entries
among_values hall who heap =
    ap (λ (kept : Option Kept). option_map_or (λ kept. entries_of who (history_of kept)) kept [])
    (slice_get-map (λ (slot : SlotView). slot.kept) hall.slots heap)
    ∙ among_slot who (slot_at hall heap)

-- the slot of a value that may be given: its value is out, and is the one that was taken
pub record IsGivenFor (knows : Knows) (slot : Option SlotView) (kept : Kept) : Type 0 where
  pub before : SlotView
  pub there : slot ≡ Some before
  pub out : is_none before.holder ≡ false
  pub gives : GivesFor knows (Some before.kept) kept

given_out : (knows : Knows) (holder : Option ℕ) (before kept : Kept) → GivesFor knows (option_map (λ who. before) holder) kept
    → GivesFor knows (Some before) kept
given_out knows (Some who) before kept gives = gives
given_out knows None before kept gives = absurd gives

is_out : (knows : Knows) (holder : Option ℕ) (before kept : Kept) → GivesFor knows (option_map (λ who. before) holder) kept
    → is_none holder ≡ false
is_out knows (Some who) before kept gives = refl
is_out knows None before kept gives = absurd gives

pub given : (knows : Knows) (slot : Option SlotView) (kept : Kept) → GivesFor knows (taken_from slot) kept → IsGivenFor knows slot kept
given knows None kept gives = absurd gives
given knows (Some before) kept gives = record {
  before = before;
  there = refl;
  out = is_out knows before.holder before.kept kept gives;
  gives = given_out knows before.holder before.kept kept gives;
}

-- what follows from each kind of give follows
pub by_give : (knows : Knows) (P : Kept → Kept → Type 0)
    → ((before kept : HeldHeap) → GivesHeld knows before kept → P (Heap before.heap before.pen) (Heap kept.heap kept.pen))
    → ((before kept : SegsView) → GivesSegments knows before kept → P (Segments before) (Segments kept))
    → ((before kept : NamesView) → GivesTheNames knows before kept → P (Names before) (Names kept))
    → (before kept : Kept) → GivesKept knows before kept → P before kept
by_give knows = by_kind (GivesHeld knows) (GivesSegments knows) (GivesTheNames knows)

pub still_fit : (knows : Knows) (number : ℕ) (before kept : Kept) → Fits number before → GivesFor knows (Some before) kept → Fits number kept
still_fit knows number before kept fits gives =
    by_give knows (λ before kept. Fits number before → Fits number kept) (λ before kept gives fits. (gives.heap.index ∙ fits.0, fits.1))
    (λ before kept gives fits. fits) (λ before kept gives fits. fits) before kept gives fits

pub same_for_others : (knows : Knows) (before kept : Kept) (who : ℕ) → who ≢ knows.who → GivesFor knows (Some before) kept
    → entries_of who (history_of kept) ≡ entries_of who (history_of before)
same_for_others knows before kept who apart =
    by_give knows (λ before kept. entries_of who (history_of kept) ≡ entries_of who (history_of before))
    (λ before kept gives.
    let own : List Entry = gives.heap.own in
    ap (entries_of who) gives.heap.history ∙ entries_of-append who before.heap.history own
    ∙ ap (λ (l : List Entry). entries_of who before.heap.history ++ l)
    (entries_of-other knows.who who own apart (numbered_only knows.who _ own gives.heap.numbered))
    ∙ append-nil (entries_of who before.heap.history))
    (λ before kept gives. refl) (λ before kept gives. refl) before kept

-- and nobody but the giver has other marks on its chunks
pub same_marks : (knows : Knows) (before kept : Kept) (who : ℕ) → who ≢ knows.who → GivesFor knows (Some before) kept
    → marks_of who kept ≡ marks_of who before
same_marks knows before kept who apart =
    by_give knows (λ before kept. marks_of who kept ≡ marks_of who before) (λ before kept gives. gives.heap.marks who apart)
    (λ before kept gives. refl) (λ before kept gives. refl) before kept

-- what was published of a heap that is given are its pairs
pub pairs_given : (knows : Knows) (before kept : Kept) → GivesFor knows (Some before) kept → HasPairs kept
pairs_given knows =
    by_give knows (λ before kept. HasPairs kept) (λ before kept gives. gives.pen.pairs) (λ before kept gives. tt) (λ before kept gives. tt)

told_by : (held : Bool) (told : Option StatPair) (pair : StatPair) → (if held then told else None) ≡ Some pair → told ≡ Some pair
told_by true told pair is = is
told_by false told pair is = cc

-- its own pair is the one that was published last
pub newest_given : (hall : HallView) (me number : ℕ) (before : SlotView) (kept : Kept) → slot_at hall number ≡ Some before → Fits number kept
    → GivesFor (known hall me) (Some before.kept) kept → newest_of before ≡ pair_in kept
newest_given hall me number before kept there fits gives =
    by_give (known hall me) (λ was value. was ≡ before.kept → Fits number value → newest_of before ≡ pair_in value)
    (λ was value gives is fits.
    let told : told_in (slot_at hall value.heap.plain.index) ≡ Some (pair_of value.heap) =
    told_by (is_held_by me (slot_at hall value.heap.plain.index)) _ (pair_of value.heap) gives.told in
    let here : before.told ≡ Some (pair_of value.heap) =
    sym (ap (λ (n : ℕ). told_in (slot_at hall n)) fits.0 ∙ ap told_in there) ∙ told in
    ap (λ (k : Kept). newest_by k before.told) (sym is) ∙ ap (newest_by (Heap was.heap was.pen)) here)
    (λ was value gives is fits. ap (λ (k : Kept). newest_by k before.told) (sym is))
    (λ was value gives is fits. ap (λ (k : Kept). newest_by k before.told) (sym is)) before.kept kept gives refl fits

-- each zone that came in lies where an allocation of the giver was answered
pub allocated_given : (hall : HallView) (me : ℕ) (before kept : Kept) → GivesFor (known hall me) (Some before) kept
    → AreAllocatedBy me (values_in hall) before kept
allocated_given hall me =
    by_give (known hall me) (AreAllocatedBy me (values_in hall)) (λ before kept gives. tt) (λ before kept gives. tt)
    (λ before kept gives. record {
      goes_on = gives.names.goes_on;
      allocated = λ zone has.
          subst (IsAllocated zone.addr) (sym (among_values hall me zone.heap)) (gives.names.allocated zone has);
    })
