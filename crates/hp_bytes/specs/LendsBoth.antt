-- What a store ends as, once two loans of it have ended.
use mathlib.Core.Option as maybe
use Rattle.std.specs.Prelude.{ℕ, ◌-◌, List, length, Result, Ok, Err}
use Rattle.std.specs.List.{refill}
use Rattle.std.specs.Borrow.{Fml, GName, MutBor, Array, follows_both_if, u8 as byte}
use Rattle.hp_heap.specs.PlainHeap.{PlainHeap}
use Rattle.hp_bytes.specs.StoreView.{StoreView}
use Rattle.hp_bytes.specs.Stores.{size_at}
use Rattle.hp_bytes.specs.Cuts.{parts_over}
use Rattle.hp_bytes.specs.declared.fault.ByteFault.{ByteFault}
use Rattle.hp_bytes.specs.declared.part.Part.{Part}
use Rattle.hp_bytes.specs.contracts.store.Store.{the_row}

-- which bytes of a store the data of an element are
abbrev pub part_at : ℕ → StoreView → PlainHeap → Part
part_at addr store heap = record { from = addr - store.base; len = size_at addr heap }

-- a store with bytes written over the data of two elements, and all else as before
abbrev pub with_both : ℕ → ℕ → PlainHeap → StoreView → List ℕ → List ℕ → StoreView
with_both a b heap store x y = record {
  base = store.base;
  bytes = refill (length store.bytes) store.bytes (parts_over (part_at a store heap) (part_at b store heap) store.bytes x y);
}

abbrev pub names_of : Result (MutBor (List ℕ) × MutBor (List ℕ)) ByteFault → maybe.Option (GName × GName)
names_of (Ok two) = maybe.some (two.0.ghost_name, two.1.ghost_name)
names_of (Err fault) = maybe.none

-- it has what was written through the loans over the data of the two elements, and all else is as before; after a refusal all of it is
abbrev pub lends_both : ℕ → ℕ → PlainHeap → MutBor StoreView → Result (MutBor (List ℕ) × MutBor (List ℕ)) ByteFault → Fml
lends_both a b heap store loans = follows_both_if the_row (Array byte 0) (Array byte 0) store.ghost_name (names_of loans) (with_both a b heap store.now) store.now
