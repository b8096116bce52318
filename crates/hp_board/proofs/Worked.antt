-- The definitions at known values: a participant that takes two slots and gives one back, with two entries.
use Rattle.std.proofs.Common.{◌≡◌, ℕ, List, [], ◌∷◌, Some, None, refl}
use Rattle.hp_heap.specs.declared.entry.Entry.{Entry}
use Rattle.hp_heap.specs.declared.entry.HeapCall.TheVariants as call
use Rattle.hp_heap.specs.declared.entry.HeapAnswer.TheVariants as answer
use Rattle.hp_heap.specs.PlainHeap.{opening_heap}
use Rattle.hp_segs.specs.Opening as segments
use Rattle.hp_stats.specs.StatViews.{PenView}
use Rattle.hp_hall.specs.declared.kept.Kept.{Kept}
use Rattle.hp_hall.specs.declared.kept.Kept.TheVariants.{Heap}
use Rattle.hp_hall.specs.declared.slot.Slot.TheVariants as slot
use Rattle.hp_board.specs.declared.view.Mine.{Mine}
use Rattle.hp_hall.specs.Giving.{IsNumbered}
use Rattle.hp_board.specs.Locks.{held_by}
use Rattle.hp_board.specs.Ownership.{no_holding}
use Rattle.hp_hall.specs.Slots.{slot_number}
use Rattle.hp_zone.specs.Directory.{opened}
use Rattle.hp_zone.specs.Zones.{no_zones}
use Rattle.hp_board.specs.Views.{Learned, value_of, newcomer, after_take, after_give, after_look, after_lookup, after_telling, lines_known, lines_told, made_in, none_done, seen_of}
use Rattle.hp_board.specs.Words.{ack_word, done_word}

abbrev entry : ℕ → Entry
entry number = record { caller = record { participant = 2; number = number }; call = call.Stats; answer = answer.Done }

module _ (pen : PenView) where
  abbrev heap : ℕ → List Entry → Kept
  heap index history = Heap (record { plain = opening_heap index None; lists = []; history = history; spare = 0 }) pen

  abbrev fresh : Mine
  fresh = newcomer (record {
    participants = 3;
    serves = [];
    cells = record { marker = record {}; value = [] };
    segs = record { marker = record {}; value = segments.opening [] 3 0 };
    names = record { marker = record {}; value = record { zones = no_zones; heaps = opened [] } };
  }) 2

  abbrev nothing : Learned
  nothing = record { holding = no_holding; namings = []; claims = [] }

  abbrev holding : Mine
  holding = after_take 7 (heap 7 []) nothing (after_take 4 (heap 4 []) nothing fresh)

  -- it has found the word of slot 9 held by participant 0, and given slot 4 back with two entries
  abbrev later : Mine
  later = after_give 4 (heap 4 (entry 1 ∷ entry 2 ∷ [])) (after_look 9 1 holding)

  number : slot_number (slot.Heap 31) ≡ 31
  number = refl

  holds_both : (value_of 4 holding.held ≡ Some (heap 4 [])) × (value_of 7 holding.held ≡ Some (heap 7 [])) × (value_of 5 holding.held ≡ None)
  holds_both = (refl, refl, refl)

  holds_one : later.held ≡ (7, heap 7 []) ∷ []
  holds_one = refl

  made : later.made ≡ (4, entry 1) ∷ (4, entry 2) ∷ []
  made = refl

  made_there : (made_in 4 later ≡ entry 1 ∷ entry 2 ∷ []) × (made_in 7 later ≡ [])
  made_there = (refl, refl)

  seen : (seen_of 4 later ≡ entry 1 ∷ entry 2 ∷ []) × (seen_of 7 later ≡ []) × (seen_of 0 later ≡ [])
  seen = (refl, refl, refl)

  found : later.found ≡ (9, 1) ∷ []
  found = refl

  -- it tells its first line to be done once the two entries went home, and looks up that participant 0 has done three
  done : (lines_told fresh ≡ 0) × (lines_told (after_telling 1 later) ≡ 1)
      × ((after_telling 1 later).done ≡ record { lines = 1; entries = 2; zones = 0; names = 0 } ∷ none_done ∷ [])
  done = (refl, refl, refl)

  looked : (lines_known 0 later ≡ 0) × (lines_known 0 (after_lookup 0 3 later) ≡ 3) × (lines_known 2 (after_lookup 0 3 later) ≡ 0)
      × ((after_lookup 0 3 later).awaited ≡ (0, record { lines = 3; entries = 2; moves = 3 }) ∷ [])
  looked = (refl, refl, refl, refl)

  -- the names' slot stands after that of the segment value, and the words after the lock words: of participant 2
  words : (slot_number slot.NamesSlot ≡ 33) × (ack_word 2 ≡ 36) × (done_word 2 ≡ 52)
  words = (refl, refl, refl)

  numbered : IsNumbered 2 0 (entry 1 ∷ entry 2 ∷ [])
  numbered = (refl, (refl, tt))

  -- a word of 3 is that of participant 2
  held_by_two : (held_by 2 3 (heap 4 []) ≡ Some (heap 4 [])) × (held_by 1 3 (heap 4 []) ≡ None) × (held_by 0 0 (heap 4 []) ≡ None)
  held_by_two = (refl, refl, refl)
