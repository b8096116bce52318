-- A resize keeps the tiling.
use Rattle.std.proofs.Common.{◌≡◌, ℕ, ◌+◌, ◌-◌, ◌%◌, ◌<◌, ◌≤◌, Bool, true, false, cond, not, ◌&&◌, List, [], ◌∷◌, ◌++◌, refl, sym, ap, subst, ◌∙◌, inl, inr, arith, Option, Some, None, Contains, count_by, eqb, leb}
use Rattle.std.proofs.lemmas.Bool.{and_parts, and_left, and_right, cond_both, false≢true, eqb-true, eq-eqb, ne_eqb, leb-true, leb-false, not-true}
use Rattle.std.proofs.lemmas.Bool.Decides.{nat_tests}
use Rattle.std.proofs.lemmas.List.Elements.{Contains-append_cases}
use Rattle.std.specs.List.{AllByRecursion, filter, find}
use Rattle.hp_base.specs.declared.span.Span.{Span}
use Rattle.hp_base.specs.declared.span.SpanState.{SpanState}
use Rattle.hp_base.specs.declared.span.SpanState.TheVariants.{Free, Busy}
use Rattle.hp_heap.specs.PlainHeap.{PlainHeap, end_of, is_free, is_free_state, is_within, stamp_of, stamp_of_state, pad_of_state, size_of_state, segments_of}
use Rattle.hp_heap.specs.Tiling.{IsTiling, IsTiled, IsElement, HasRoomFor, HoldsData, IsRisingFrom, IsApart, IsApartFrom, touches, joins, in_range, in_range_of, has_stamp}
use Rattle.hp_heap.specs.Statistics.{total_bytes}
use Rattle.hp_heap.specs.Placing.{replaced, only_if, count_if}
use Rattle.hp_heap.specs.Joining.{has_data_at, busy_at}
use Rattle.hp_heap.specs.Resizing.{bytes_needed, bytes_together, is_next_free, next_free, with_size, resized, without, taken_over, with_new_size, after_resize, after_resize_of, CanAskSize}
use Rattle.hp_heap.proofs.RangeLemmas.{AllByRecursion-back, AllByRecursion-weaker, last_end, rising_behind, replaced-at}
use Rattle.hp_heap.proofs.HistoryFacts.Counting.{IsConsecutive, IsOfList, count_consecutive, count_of_list}
use Rattle.hp_heap.proofs.AllocFacts.PieceLemmas.{apart_from_like, apart_from_busy, apart_middle}
use Rattle.hp_heap.proofs.AllocFacts.ChoiceLaw.{Contains-cases, Contains-none, AllByRecursion-contains}
use Rattle.hp_heap.proofs.Members.{find_some, filter_whole}
use Rattle.hp_heap.proofs.LaidLemmas.{one_page}
use Rattle.hp_heap.proofs.CutFacts.WindowTiling.{window_tiling}
use Rattle.hp_heap.proofs.FreeFacts.FreeTiling.{IsAmong, among_ranges}

-- a busy element holds its data, and holds others where there is room
held_state : (whole : ℕ) (state : SpanState) → is_free_state state ≡ false → HasRoomFor whole state → HoldsData whole (pad_of_state state) (size_of_state state)
held_state whole (Free stamp) busy room = absurd (false≢true (sym busy))
held_state whole (Busy pad size tag) busy room = room

holds_size : (whole size : ℕ) (state : SpanState) → HoldsData whole (pad_of_state state) size → HasRoomFor whole (with_size size state)
holds_size whole size (Free stamp) held = tt
holds_size whole size (Busy pad old tag) held = held

-- another size changes neither whether an element is free nor its stamp
pub free_resized : (size : ℕ) (state : SpanState) → is_free_state (with_size size state) ≡ is_free_state state
free_resized size (Free stamp) = refl
free_resized size (Busy pad old tag) = refl

stamp_resized : (size : ℕ) (state : SpanState) → stamp_of_state (with_size size state) ≡ stamp_of_state state
stamp_resized size (Free stamp) = refl
stamp_resized size (Busy pad old tag) = refl

-- a busy element has no stamp
busy_stamp : (x : Span) (stamp : ℕ) → is_free x ≡ false → has_stamp stamp x ≡ false
busy_stamp x stamp busy = and_left _ _ busy

-- and joins no other
busy_joins : (x y : Span) → is_free x ≡ false → joins x y ≡ false
busy_joins x y busy = and_left _ _ (and_left _ _ busy)

joins_busy : (x y : Span) → is_free y ≡ false → joins x y ≡ false
joins_busy x y busy = and_left _ _ (and_right _ _ busy)

-- what is known of the element that a resize finds
pub record IsResizing (heap : PlainHeap) (r : Span) (size : ℕ) (xs ys : List Span) : Type 0 where
  pub has : Contains heap.ranges r
  pub busy : is_free r ≡ false
  pub some : 0 < size
  pub lines : size % 64 ≡ 0
  pub among : IsAmong heap r xs ys

module _ (heap : PlainHeap) (r : Span) (size : ℕ) (xs ys : List Span) (tiled : IsTiled heap) (is : IsResizing heap r size xs ys) where
  held : HoldsData r.whole (pad_of_state r.state) (size_of_state r.state)
  held = held_state r.whole r.state is.busy is.among.element.busy

  -- the element with another whole size
  abbrev other : ℕ → Span
  other whole = resized r whole size

  still_busy : (whole : ℕ) → is_free (other whole) ≡ false
  still_busy whole = free_resized size r.state ∙ is.busy

  other_element : (later whole : ℕ) → whole % 64 ≡ 0 → bytes_needed r size ≤ whole → IsElement later (other whole)
  other_element later whole lines room = record {
    line = is.among.element.line;
    size = record { lines = lines; least = omega (arith, room, is.some, is.lines) };
    busy = holds_size whole size r.state (record { pad_lines = held.pad_lines; pad_small = held.pad_small; size_lines = is.lines; size_some = is.some; room = omega (arith, room) });
    stamp = (let none : stamp_of (other whole) ≡ 0 = no_stamp (with_size size r.state) (still_busy whole) in omega (arith, none));
  }
    where
      no_stamp : (state : SpanState) → is_free_state state ≡ false → stamp_of_state state ≡ 0
      no_stamp (Free stamp) busy = absurd (false≢true (sym busy))
      no_stamp (Busy pad old tag) busy = refl

  -- it has the size in its own bytes
  pub same_place : bytes_needed r size ≤ r.whole → IsTiled (with_new_size r size heap)
  same_place room = record {
    kind = tiled.kind;
    laid = tiled.laid;
    tiling = subst (λ zs. IsTiling (segments_of heap) heap.insertions zs)
        (sym (ap (λ zs. replaced r.addr (other r.whole ∷ []) zs) is.among.ranges ∙ replaced-at r.addr (other r.whole ∷ []) xs r ys is.among.under refl))
        (window_tiling (segments_of heap) (segments_of heap) heap.insertions heap.insertions xs (r ∷ []) (other r.whole ∷ []) ys (record {
          tiling = is.among.tiling;
          more_insertions = omega arith;
          front = (is.among.low, tt);
          back = is.among.high;
          bytes = λ byte. refl;
          lists = λ l p byte. refl;
          single = λ byte. omega (arith, tiled.tiling.once byte, tiled.tiling.single byte);
          elements = (other_element heap.insertions r.whole is.among.element.size.lines room, tt);
          late_stamps = λ stamp late. few stamp;
          old_stamps = λ stamp old. fewer stamp;
          apart = apart_middle (r ∷ ys) (other r.whole ∷ ys) xs (λ apart. apart_from_busy r (other r.whole) ys (still_busy r.whole) apart)
              (λ p apart. (joins_busy p (other r.whole) (still_busy r.whole), apart_from_busy r (other r.whole) ys (still_busy r.whole) apart.1)) is.among.tiling.apart;
        }));
  }
    where
      none : (stamp : ℕ) → count_by (has_stamp stamp) (other r.whole ∷ []) ≡ 0
      none stamp = rw (busy_stamp (other r.whole) stamp (still_busy r.whole)) refl

      few : (stamp : ℕ) → count_by (has_stamp stamp) (other r.whole ∷ []) ≤ 1
      few stamp = omega (arith, none stamp)

      fewer : (stamp : ℕ) → count_by (has_stamp stamp) (other r.whole ∷ []) ≤ count_by (has_stamp stamp) (r ∷ [])
      fewer stamp = omega (arith, none stamp)

-- the element that begins where elements rise from is the first of them
first_at : (from : ℕ) (ys : List Span) (n : Span) → IsRisingFrom from ys → AllByRecursion (λ (y : Span). 192 ≤ y.whole) ys → Contains ys n → n.addr ≡ from → (zs : List Span) × (ys ≡ n ∷ zs)
first_at from [] n rising sizes has at = absurd (Contains-none n has)
first_at from (y ∷ ys) n rising sizes has at = elim (Contains-cases y n ys has) [
  | inl is ↦ (ys, ap (λ z. z ∷ ys) is)
  | inr rest ↦ absurd (omega (arith, AllByRecursion-contains (λ (z : Span). end_of y ≤ z.addr) ys n (rising_behind (end_of y) ys rising.1) rest, rising.0, sizes.0, at))
]

-- elements without the one at an address
pub filter_without : (a : ℕ) (xs : List Span) (n : Span) (zs : List Span) → AllByRecursion (λ x. x.addr < a) xs → n.addr ≡ a → AllByRecursion (λ z. a < z.addr) zs
    → filter (λ (q : Span). not (eqb q.addr a)) (xs ++ (n ∷ zs)) ≡ xs ++ zs
filter_without a [] n zs under at over = rw (eq-eqb n.addr a at)
    (filter_whole (λ (q : Span). not (eqb q.addr a)) zs (AllByRecursion-weaker (λ (z : Span). a < z.addr) (λ z. not (eqb z.addr a) ≡ true) (λ z above. rw (ne_eqb z.addr a (λ same. omega (arith, same, above))) refl) zs over))
filter_without a (x ∷ xs) n zs under at over = rw (ne_eqb x.addr a (λ same. omega (arith, same, under.0))) (ap (λ ys. x ∷ ys) (filter_without a xs n zs under.1 at over))

-- what is known of the free element behind it
pub record IsNextOf (heap : PlainHeap) (r n : Span) (zs : List Span) : Type 0 where
  pub has : Contains heap.ranges n
  pub free : is_free n ≡ true
  pub list : r.list ≡ n.list
  pub at : end_of r ≡ n.addr
  pub element : IsElement heap.insertions n

pub next_of : (heap : PlainHeap) (r : Span) (size : ℕ) (xs ys : List Span) (n : Span) → IsTiled heap → IsResizing heap r size xs ys → next_free r heap ≡ Some n
    → (zs : List Span) × (ys ≡ n ∷ zs) × IsNextOf heap r n zs
next_of heap r size xs ys n tiled is found =
    let one = find_some (is_next_free r) heap.ranges n found in
    let tests = and_parts (is_free n) (touches r n) one.0 in
    let touch = and_parts (eqb r.list n.list) (eqb (end_of r) n.addr) tests.1 in
    let at : end_of r ≡ n.addr = eqb-true (end_of r) n.addr touch.1 in
    let elements = AllByRecursion-back (IsElement heap.insertions) xs (r ∷ ys) is.among.tiling.elements in
    let sizes = AllByRecursion-weaker (IsElement heap.insertions) (λ (y : Span). 192 ≤ y.whole) (λ y element. element.size.least) ys elements.1 in
    let behind : Contains ys n = elim (Contains-append_cases xs (r ∷ ys) n (subst (λ zs. Contains zs n) is.among.ranges one.1)) [
      | inl front ↦ absurd (omega (arith, AllByRecursion-contains (λ (x : Span). x.addr < r.addr) xs n is.among.under front, at))
      | inr rest ↦ elim (Contains-cases r n ys rest) [
        | inl itself ↦ absurd (omega (arith, ap (λ (x : Span). x.addr) itself, at, is.among.element.size.least))
        | inr there ↦ there
      ]
    ] in
    let (zs, parts) = first_at (end_of r) ys n is.among.high sizes behind (sym at) in (
      zs,
      parts,
      record {
        has = one.1;
        free = tests.0;
        list = eqb-true r.list n.list touch.0;
        at = at;
        element = AllByRecursion-contains (IsElement heap.insertions) heap.ranges n tiled.tiling.elements one.1;
      },
    )

module _ (heap : PlainHeap) (r : Span) (size : ℕ) (xs : List Span) (n : Span) (zs : List Span) (tiled : IsTiled heap) (is : IsResizing heap r size xs (n ∷ zs)) (next : IsNextOf heap r n zs)
    (fits : bytes_needed r size ≤ r.whole + n.whole) where
  abbrev pub whole : ℕ
  whole = r.whole + n.whole

  abbrev pub need : ℕ
  need = bytes_needed r size

  abbrev pub rest : Span
  rest = record r { addr = r.addr + need; whole = whole - need; state = Free (heap.insertions + 1) }

  abbrev pub pieces : Bool → List Span
  pieces has_rest = resized r (cond has_rest need whole) size ∷ only_if has_rest rest

  need_lines : need % 64 ≡ 0
  need_lines = omega (arith, is.lines, (held heap r size xs (n ∷ zs) tiled is).pad_lines)

  row : (b : Bool) → leb 192 (whole - need) ≡ b → IsConsecutive r.addr (pieces b)
  row true some = (refl, (refl, tt))
  row false none = (refl, tt)

  total : (b : Bool) → leb 192 (whole - need) ≡ b → total_bytes (pieces b) ≡ whole
  total true some = omega (arith, fits)
  total false none = omega arith

  both_total : total_bytes (r ∷ n ∷ []) ≡ whole
  both_total = omega arith

  both_row : IsConsecutive r.addr (r ∷ n ∷ [])
  both_row = (refl, (sym next.at, tt))

  same_page : n.page ≡ r.page
  same_page = one_page heap r n tiled is.has next.has (sym next.list)

  of_list : (b : Bool) → AllByRecursion (IsOfList r.list r.page) (pieces b)
  of_list true = ((refl, refl), ((refl, refl), tt))
  of_list false = ((refl, refl), tt)

  bytes_same : (b : Bool) → leb 192 (whole - need) ≡ b → (byte : ℕ) → count_by (in_range byte) (pieces b) ≡ count_by (in_range byte) (r ∷ n ∷ [])
  bytes_same b tested byte =
      count_consecutive byte r.addr (pieces b) (row b tested)
      ∙ ap (λ (m : ℕ). cond (is_within r.addr m byte) 1 0) (total b tested ∙ sym both_total)
      ∙ sym (count_consecutive byte r.addr (r ∷ n ∷ []) both_row)

  lists_same : (b : Bool) → leb 192 (whole - need) ≡ b → (l p byte : ℕ) → count_by (in_range_of l p byte) (pieces b) ≡ count_by (in_range_of l p byte) (r ∷ n ∷ [])
  lists_same b tested l p byte =
      count_of_list r.list r.page l p byte (pieces b) (of_list b)
      ∙ ap (λ (m : ℕ). cond (eqb r.list l && eqb r.page p) m 0) (bytes_same b tested byte)
      ∙ sym (count_of_list r.list r.page l p byte (r ∷ n ∷ []) ((refl, refl), ((sym next.list, same_page), tt)))

  elements : (b : Bool) → leb 192 (whole - need) ≡ b → AllByRecursion (IsElement (heap.insertions + count_if b)) (pieces b)
  elements true some = (
    other_element heap r size xs (n ∷ zs) tiled is (heap.insertions + 1) need need_lines (omega arith),
    (record { line = omega (arith, is.among.element.line, need_lines); size = record { lines = omega (arith, need_lines, is.among.element.size.lines, next.element.size.lines, fits); least = leb-true 192 (whole - need) some }; busy = tt; stamp = omega arith }, tt),
  )
  elements false none = (other_element heap r size xs (n ∷ zs) tiled is (heap.insertions + 0) whole (omega (arith, is.among.element.size.lines, next.element.size.lines)) fits, tt)

  busy_first : (w : ℕ) → is_free (resized r w size) ≡ false
  busy_first w = still_busy heap r size xs (n ∷ zs) tiled is w

  stamp_count : (b : Bool) (stamp : ℕ) → count_by (has_stamp stamp) (pieces b) ≡ count_by (has_stamp stamp) (only_if b rest)
  stamp_count b stamp = rw (Rattle.hp_heap.proofs.HistoryFacts.Counting.count_by-cons (has_stamp stamp) (resized r (cond b need whole) size) (only_if b rest), busy_stamp (resized r (cond b need whole) size) stamp (busy_first (cond b need whole))) (omega arith)

  rest_once : (b : Bool) (stamp : ℕ) → count_by (has_stamp stamp) (only_if b rest) ≤ 1
  rest_once true stamp = grind (arith, nat_tests)
  rest_once false stamp = omega arith

  rest_later : (b : Bool) (stamp : ℕ) → stamp ≤ heap.insertions → count_by (has_stamp stamp) (only_if b rest) ≡ 0
  rest_later true stamp old = rw (ne_eqb (heap.insertions + 1) stamp (λ same. omega (arith, same, old))) refl
  rest_later false stamp old = refl

  pieces_apart : (b : Bool) → IsApartFrom r (n ∷ zs) → IsApart (pieces b ++ zs)
  pieces_apart true apart = (busy_joins (resized r need size) rest (busy_first need), apart_from_like n rest zs next.free (sym next.list) (omega (arith, next.at, fits)) apart.1)
  pieces_apart false apart = apart_from_busy n (resized r whole size) zs (busy_first whole) apart.1

  pieces_behind : (b : Bool) (p : Span) → IsApartFrom r (n ∷ zs) → IsApartFrom p (pieces b ++ zs)
  pieces_behind true p apart = (joins_busy p (resized r need size) (busy_first need), pieces_apart true apart)
  pieces_behind false p apart = (joins_busy p (resized r whole size) (busy_first whole), pieces_apart false apart)

  behind : (b : Bool) → leb 192 (whole - need) ≡ b → last_end (last_end 0 xs) (pieces b) ≡ end_of n
  behind true some = omega (arith, next.at, fits)
  behind false none = omega (arith, next.at)

  front : (b : Bool) → leb 192 (whole - need) ≡ b → IsRisingFrom (last_end 0 xs) (pieces b)
  front true some = (is.among.low, (omega arith, tt))
  front false none = (is.among.low, tt)

  over : AllByRecursion (λ z. n.addr < z.addr) zs
  over = AllByRecursion-weaker (λ (z : Span). end_of n ≤ z.addr) (λ z. n.addr < z.addr) (λ z above. omega (arith, above, next.element.size.least)) zs (rising_behind (end_of n) zs is.among.high.1)

  -- the elements that it leaves
  pub ranges_left : replaced r.addr (pieces (leb 192 (whole - need))) (without (Some n) heap.ranges) ≡ xs ++ (pieces (leb 192 (whole - need)) ++ zs)
  ranges_left =
      let under = Rattle.hp_heap.proofs.RangeLemmas.AllByRecursion-append (λ (x : Span). x.addr < n.addr) xs (r ∷ [])
      (AllByRecursion-weaker (λ (x : Span). x.addr < r.addr) (λ x. x.addr < n.addr) (λ x lower. omega (arith, lower, next.at)) xs is.among.under)
      (omega (arith, next.at, is.among.element.size.least), tt) in
      let gone : without (Some n) heap.ranges ≡ xs ++ (r ∷ zs) =
      ap (λ ws. without (Some n) ws) (is.among.ranges ∙ sym (Rattle.std.proofs.Common.append_assoc xs (r ∷ []) (n ∷ zs)))
      ∙ filter_without n.addr (xs ++ (r ∷ [])) n zs under refl over ∙ Rattle.std.proofs.Common.append_assoc xs (r ∷ []) zs in
      ap (λ ws. replaced r.addr (pieces (leb 192 (whole - need))) ws) gone ∙ replaced-at r.addr (pieces (leb 192 (whole - need))) xs r zs is.among.under refl

  taken_tiling : (b : Bool) → leb 192 (whole - need) ≡ b → IsTiling (segments_of heap) (heap.insertions + count_if b) (xs ++ (pieces b ++ zs))
  taken_tiling b tested = window_tiling (segments_of heap) (segments_of heap) heap.insertions (heap.insertions + count_if b) xs (r ∷ n ∷ []) (pieces b) zs (record {
    tiling = is.among.tiling;
    more_insertions = omega arith;
    front = front b tested;
    back = subst (λ (e : ℕ). IsRisingFrom e zs) (sym (behind b tested)) is.among.high.1;
    bytes = λ byte. omega (arith, bytes_same b tested byte);
    lists = λ l p byte. omega (arith, lists_same b tested l p byte);
    single = λ byte. omega (arith, tiled.tiling.once byte, tiled.tiling.single byte);
    elements = elements b tested;
    late_stamps = λ stamp late. omega (arith, stamp_count b stamp, rest_once b stamp);
    old_stamps = λ stamp old. omega (arith, stamp_count b stamp, rest_later b stamp old);
    apart = apart_middle (r ∷ n ∷ zs) (pieces b ++ zs) xs (λ apart. pieces_apart b apart) (λ p apart. pieces_behind b p apart.1) is.among.tiling.apart;
  })

  -- it has the size with the free element behind it
  pub taken_tiled : IsTiled (taken_over r (Some n) size heap)
  taken_tiled = record {
    kind = tiled.kind;
    laid = tiled.laid;
    tiling = subst (λ ws. IsTiling (segments_of heap) (heap.insertions + count_if (leb 192 (whole - need))) ws) (sym ranges_left) (taken_tiling (leb 192 (whole - need)) refl);
  }

-- the element that a resize finds
pub resizing_of : (address size : ℕ) (heap : PlainHeap) (r : Span) → IsTiled heap → CanAskSize address size heap → find (has_data_at address) heap.ranges ≡ Some r
    → (xs : List Span) × (ys : List Span) × IsResizing heap r size xs ys
resizing_of address size heap r tiled can found =
    let one = find_some (has_data_at address) heap.ranges r found in
    let (xs, ys, among) = among_ranges heap r tiled one.1 in
    (xs, ys, record { has = one.1; busy = not-true (is_free r) (and_parts _ _ one.0).0; some = can.some; lines = can.lines; among = among })

-- a resize leaves the heap tiled
pub resize-tiled : (address size : ℕ) (heap : PlainHeap) → IsTiled heap → CanAskSize address size heap → IsTiled (after_resize address size heap)
unfolding after_resize busy_at
resize-tiled address size heap tiled can = by_search (find (has_data_at address) heap.ranges) refl
  where
    with_next : (r : Span) (xs ys : List Span) → IsResizing heap r size xs ys → (o : Option Span) → next_free r heap ≡ o → r.whole < bytes_needed r size
        → bytes_needed r size ≤ bytes_together r o → IsTiled (taken_over r o size heap)
    with_next r xs ys is None none more fits = absurd (omega (arith, more, fits))
    with_next r xs ys is (Some n) found more fits =
        let (zs, parts, next) = next_of heap r size xs ys n tiled is found in
        taken_tiled heap r size xs n zs tiled (subst (λ ws. IsResizing heap r size xs ws) parts is) next fits

    by_search : (o : Option Span) → find (has_data_at address) heap.ranges ≡ o → IsTiled (after_resize_of o size heap)
    by_search None none = tiled
    by_search (Some r) found =
        let (xs, ys, is) = resizing_of address size heap r tiled can found in
        let two = next_free r heap in
        cond_both (leb (bytes_needed r size) r.whole) (with_new_size r size heap) (cond (leb (bytes_needed r size) (bytes_together r two)) (taken_over r two size heap) heap) IsTiled
        (λ fits. same_place heap r size xs ys tiled is (leb-true (bytes_needed r size) r.whole fits))
        (λ more. cond_both (leb (bytes_needed r size) (bytes_together r two)) (taken_over r two size heap) heap IsTiled
        (λ fits. with_next r xs ys is two refl (leb-false (bytes_needed r size) r.whole more) (leb-true (bytes_needed r size) (bytes_together r two) fits))
        (λ refused. tiled))
