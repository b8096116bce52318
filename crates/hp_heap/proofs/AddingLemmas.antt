-- A run of pages comes between the elements of a heap, and becomes free.
use Rattle.std.proofs.Common.{◌≡◌, ℕ, ◌+◌, ◌<◌, ◌≤◌, Bool, true, false, ◌&&◌, List, [], ◌∷◌, ◌++◌, refl, sym, ap, subst, ◌∙◌, arith, inl, inr}
use Rattle.std.specs.List.{AllByRecursion}
use Rattle.hp_base.specs.declared.span.Span.{Span}
use Rattle.hp_base.specs.declared.row.Run.{Run}
use Rattle.hp_chain.specs.Chain.{Keyed}
use Rattle.hp_elem.specs.Items.{Items, IsAt, after_add}
use Rattle.hp_elem.specs.Order.{FitsBeside, AreDisjoint, IsRising}
use Rattle.hp_elem.proofs.OrderLemmas.{rising_bound}
use Rattle.hp_heap.specs.declared.body.Body.TheInside.{Inside}
use Rattle.hp_heap.specs.PlainHeap.{PlainHeap, end_of, is_free, freed, free_range}
use Rattle.hp_heap.specs.Tiling.{IsApart, IsApartFrom, IsRisingFrom, joins}
use Rattle.hp_heap.specs.Joining.{with_stretch, after_insertion}
use Rattle.hp_heap.specs.Growing.{run_bytes, after_grow, CanGrow}
use Rattle.hp_heap.specs.Headers.{CanInsert, spans_of}
use Rattle.hp_heap.specs.Joins.{IsJoinable, HasRoom}
use Rattle.hp_heap.specs.FreeSearch.{HasSpace}
use Rattle.hp_heap.specs.Inside.{plain_of, IsHeap}
use Rattle.hp_heap.proofs.AllocFacts.SplitLemmas.{IsAdded, added_in, spans-append}
use Rattle.hp_heap.proofs.RangeLemmas.{AllByRecursion-append, AllByRecursion-weaker, AllByRecursion-front, AllByRecursion-back, last_end, rising-front, rising-back, rising_before, rising_behind}
use Rattle.hp_heap.proofs.CutFacts.Stretches.{with_stretch-parts}
use Rattle.hp_heap.proofs.FreeFacts.FreeTiling.{with_stretch-at}
use Rattle.hp_heap.proofs.GrowLaw.{run_gap, run_size, page_size_large}
use Rattle.hp_heap.proofs.CutFacts.GapTiling.{parted_at}

-- elements under keys that rise do so without their keys, and have room
pub rising_spans : (from : ℕ) (items : Items) → IsRising from items → IsRisingFrom from (spans_of items)
rising_spans from [] rising = tt
rising_spans from (e ∷ es) rising = (rising.0, rising_spans (end_of e.value) es rising.2)

pub rising_room : (from : ℕ) (items : Items) → IsRising from items → HasRoom (spans_of items)
rising_room from [] rising = tt
rising_room from (e ∷ es) rising = (record { some = omega (arith, rising.1); end = rising_bound (end_of e.value) es rising.2 }, rising_room (end_of e.value) es rising.2)

-- a busy element would not be one with another
busy_second : (b : Bool) → (b && false) ≡ false
busy_second true = refl
busy_second false = refl

joins_busy : (first second : Span) → is_free second ≡ false → joins first second ≡ false
joins_busy first second busy = rw busy (rw (busy_second (is_free first)) refl)

busy_joins : (first second : Span) → is_free first ≡ false → joins first second ≡ false
busy_joins first second busy = rw busy refl

apart_behind : (e : Span) (x : Span) (ys : List Span) → is_free e ≡ false → IsApartFrom x ys → IsApartFrom e ys
apart_behind e x [] busy apart = tt
apart_behind e x (y ∷ ys) busy apart = (busy_joins e y busy, apart.1)

apart_from_with : (x : Span) (xs : List Span) (e : Span) (ys : List Span) → is_free e ≡ false → IsApartFrom x (xs ++ ys) → IsApartFrom x (xs ++ e ∷ ys)
apart_from_with x [] e ys busy apart = (joins_busy x e busy, apart_behind e x ys busy apart)
apart_from_with x (z ∷ xs) e ys busy apart = (apart.0, apart_from_with z xs e ys busy apart.1)

first_apart : (e : Span) (ys : List Span) → is_free e ≡ false → IsApart ys → IsApartFrom e ys
first_apart e [] busy apart = tt
first_apart e (y ∷ ys) busy apart = (busy_joins e y busy, apart)

apart_with_busy : (xs : List Span) (e : Span) (ys : List Span) → is_free e ≡ false → IsApart (xs ++ ys) → IsApart (xs ++ e ∷ ys)
apart_with_busy [] e ys busy apart = first_apart e ys busy apart
apart_with_busy (x ∷ xs) e ys busy apart = apart_from_with x xs e ys busy apart

pub strictly : (xs : List Span) (at : ℕ) → AllByRecursion (λ x. end_of x ≤ at) xs → HasRoom xs → AllByRecursion (λ x. x.addr < at) xs
strictly [] at before room = tt
strictly (x ∷ xs) at before room = (omega (arith, before.0, room.0.some), strictly xs at before.1 room.1)

module _ (key : ℕ) (range : Span) (old new : Items) (busy : is_free range ≡ false) (now : new ≡ after_add (record { key = key; value = range }) old) (rising : IsRising 0 new) where
  added : IsAdded (record { key = key; value = range }) old
  added = added_in (record { key = key; value = range }) old

  is : new ≡ added.front ++ (record { key = key; value = range }) ∷ added.back
  is = now ∙ added.now

  new_spans : spans_of new ≡ spans_of added.front ++ (range ∷ spans_of added.back)
  new_spans = ap spans_of is ∙ spans-append added.front ((record { key = key; value = range }) ∷ added.back)

  old_spans : spans_of old ≡ spans_of added.front ++ spans_of added.back
  old_spans = ap spans_of added.is ∙ spans-append added.front added.back

  pub added_busy : 192 ≤ range.whole → IsAt CanInsert key new
  added_busy least = record { front = added.front; found = record { key = key; value = range }; back = added.back; is = is; same = refl; holds = record { busy = busy; least = least } }

  pub added_joinable : IsJoinable (spans_of old) → IsJoinable (spans_of new)
  added_joinable joinable = record {
    rising = rising_spans 0 new rising;
    room = rising_room 0 new rising;
    apart = subst IsApart (sym new_spans) (apart_with_busy (spans_of added.front) range (spans_of added.back) busy (subst IsApart old_spans joinable.apart));
  }

  -- the stretch with it is that without it
  added_stretch : (stamp : ℕ) → with_stretch (freed stamp range) (spans_of new) ≡ with_stretch (freed stamp range) (spans_of old)
  added_stretch stamp =
      ap (λ zs. with_stretch (freed stamp range) zs) new_spans
      ∙ with_stretch-at (freed stamp range) range (spans_of added.front) (spans_of added.back) refl under over
      ∙ sym (with_stretch-parts (freed stamp range) (spans_of added.front) (spans_of added.back) under over)
      ∙ ap (λ zs. with_stretch (freed stamp range) zs) (sym old_spans)
    where
      rises : IsRisingFrom 0 (spans_of added.front ++ (range ∷ spans_of added.back))
      rises = subst (λ zs. IsRisingFrom 0 zs) new_spans (rising_spans 0 new rising)

      room : HasRoom (spans_of added.front ++ (range ∷ spans_of added.back))
      room = subst HasRoom new_spans (rising_room 0 new rising)

      tail : IsRisingFrom (last_end 0 (spans_of added.front)) (range ∷ spans_of added.back)
      tail = rising-back 0 (spans_of added.front) (range ∷ spans_of added.back) rises

      under : AllByRecursion (λ z. z.addr < range.addr) (spans_of added.front)
      under = strictly (spans_of added.front) range.addr (rising_before 0 range.addr (spans_of added.front) (rising-front 0 (spans_of added.front) (range ∷ spans_of added.back) rises) tail.0).1
          (AllByRecursion-front HasSpace (spans_of added.front) (range ∷ spans_of added.back) room)

      over : AllByRecursion (λ y. range.addr < y.addr) (spans_of added.back)
      over = AllByRecursion-weaker (λ (y : Span). end_of range ≤ y.addr) (λ y. range.addr < y.addr)
          (λ y behind. omega (arith, behind, (AllByRecursion-back HasSpace (spans_of added.front) (range ∷ spans_of added.back) room).0.some)) (spans_of added.back) (rising_behind (end_of range) (spans_of added.back) tail.1)

  pub added_ranges : (stamp : ℕ) (after : List Span) → ((front back : Items) (e : Keyed Span) → new ≡ front ++ e ∷ back → e.key ≡ key → after ≡ with_stretch (freed stamp e.value) (spans_of new))
      → after ≡ with_stretch (freed stamp range) (spans_of old)
  added_ranges stamp after ranges = ranges added.front added.back (record { key = key; value = range }) is refl ∙ added_stretch stamp

-- a run comes beside the elements
pub keyed_all : (P : Span → Type 0) (items : Items) → AllByRecursion P (spans_of items) → AllByRecursion (λ (e : Keyed Span). P e.value) items
keyed_all P [] all = tt
keyed_all P (e ∷ es) all = (all.0, keyed_all P es all.1)

pub run_fits : (a : Inside) (run : Run) (range : Span) → IsHeap a → CanGrow run (plain_of a) → range.addr ≡ run.addr → range.whole ≡ run_bytes run → FitsBeside range a.headers.items
run_fits a run range heap can addr whole =
    let (xs, ys, part) = parted_at run.addr 0 (plain_of a).ranges heap.tiled.tiling.rising in
    let gap = run_gap (plain_of a) run xs ys heap.tiled can part in
    let front = rising-front 0 xs ys (subst (λ zs. IsRisingFrom 0 zs) part.ranges heap.tiled.tiling.rising) in
    let beside : AllByRecursion (AreDisjoint range) (xs ++ ys) =
    AllByRecursion-append (AreDisjoint range) xs ys
    (AllByRecursion-weaker (λ (x : Span). end_of x ≤ run.addr) (AreDisjoint range) (λ x below. inr (omega (arith, below, addr))) xs (rising_before 0 run.addr xs front gap.low).1)
    (AllByRecursion-weaker (λ (y : Span). run.addr + run_bytes run ≤ y.addr) (AreDisjoint range) (λ y above. inl (omega (arith, above, addr, whole))) ys (rising_behind (run.addr + run_bytes run) ys gap.high)) in
    record {
      least = omega (arith, whole, (run_size run can.some (page_size_large run.page can.size)).least);
      ends = omega (arith, addr, whole, can.end);
      beside = keyed_all (AreDisjoint range) a.headers.items (subst (λ zs. AllByRecursion (AreDisjoint range) zs) (sym (heap.ranges ∙ part.ranges)) beside);
    }

pub run_least : (run : Run) (heap : PlainHeap) → CanGrow run heap → 192 ≤ run_bytes run
run_least run heap can = (run_size run can.some (page_size_large run.page can.size)).least

-- the heap that a growth leaves
pub grow_ranges : (a : Inside) (run : Run) → IsHeap a → with_stretch (free_range run.addr (run_bytes run) run.list run.page (a.headers.insertions + 1)) (spans_of a.headers.items) ≡ (after_grow run (plain_of a)).ranges
unfolding after_grow after_insertion
grow_ranges a run heap =
    ap (λ zs. with_stretch (free_range run.addr (run_bytes run) run.list run.page (a.headers.insertions + 1)) zs) heap.ranges
    ∙ ap (λ (n : ℕ). with_stretch (free_range run.addr (run_bytes run) run.list run.page (n + 1)) (plain_of a).ranges) heap.insertions

pub grow_insertions : (a : Inside) (run : Run) → IsHeap a → a.headers.insertions + 1 ≡ (after_grow run (plain_of a)).insertions
unfolding after_grow after_insertion
grow_insertions a run heap = ap (λ (n : ℕ). n + 1) heap.insertions

-- what it leaves alone
pub record IsKeptByGrow (old new : PlainHeap) : Type 0 where
  pub name : old.name ≡ new.name
  pub socket : old.socket ≡ new.socket
  pub chunks : old.chunks ≡ new.chunks

pub grow-kept : (heap : PlainHeap) (run : Run) → IsKeptByGrow heap (after_grow run heap)
unfolding after_grow after_insertion
grow-kept heap run = record { name = refl; socket = refl; chunks = refl }
