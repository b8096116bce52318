-- What is found in a directory, and how it is kept after each change.
use Rattle.std.proofs.Common.{◌≡◌, ℕ, zero, suc, ◌+◌, ◌-◌, ◌^◌, ◌<◌, ◌≤◌, Bool, true, false, cond, is_some, List, [], ◌∷◌, ◌++◌, length, get_or, set, Option, Some, None, sym, ap, ◌∙◌, refl, inl, inr, arith}
use Rattle.std.specs.Prelude.{count_by, IsTrue}
use Rattle.std.specs.List.{Contains, position, position_or_len, range_with_len, filter_map}
use Rattle.std.specs.Str.{bytes_eq}
use Rattle.std.proofs.lemmas.Bool.{cases_lt, lt-ltb, false≢true}
use Rattle.std.proofs.lemmas.Bool.Decides.{nat_tests}
use Rattle.std.proofs.lemmas.List.{length-set, length_push, append-nil, get_or_read}
use Rattle.std.proofs.lemmas.List.Edits.{length-remove}
use Rattle.std.proofs.lemmas.List.Elements.{filter_map-append}
use Rattle.std.proofs.lemmas.List.Quantifiers.{position-Some}
use Rattle.std.proofs.lemmas.List.Sums.{fails_before_first, get_or-le-sum_by, sum_by-set}
use Rattle.std.proofs.lemmas.Option.{get_or_from_slice_get, slice_get-get_or, slice_get_within}
use Rattle.std.proofs.lemmas.Slice.Eq.{bytes_eq-Decides}
use Rattle.hp_zone.specs.declared.limits.TheConstants.{FIRST_EXTERNAL_SOCKET}
use Rattle.hp_zone.specs.declared.heap_name.HeapName.{HeapName}
use Rattle.hp_zone.specs.declared.name_change.NameChange.{NameChange}
use Rattle.hp_zone.specs.declared.name_change.NameChange.TheVariants.{Named, Unnamed, Range, RangeGone}
use Rattle.hp_zone.specs.Directory.{DirectoryView, HasPlace, HasRange, HasSocketHeaps, IsFoundAt, IsLowestUnnamed, IsNamed, IsNotFound}
use Rattle.hp_zone.specs.Directory.{MayRemove, PlainDirectory, after_change, is_range, socket_given, with_change, with_more}
use Rattle.hp_zone.specs.Heaps.{IsKept, is_heap, is_named, is_unnamed}
use Rattle.hp_zone.proofs.NameLemmas.{AreApart-named, AreApart-unnamed}
use Rattle.hp_zone.proofs.ReplayLemmas.{replayed_push}
use Rattle.hp_zone.proofs.SocketLemmas.{fronts_push, sockets_named, sockets_unnamed}

-- where no place is found, nothing passes
position_none : {X : Type 0} (p : X → Bool) (xs : List X) → None ≡ position p xs → (k : ℕ) (d : X) → k < length xs → p (get_or xs k d) ≡ false
position_none p xs is k d within =
    elim (cases_lt (position_or_len p xs) (length xs)) [
      | inl found ↦
          let some : None ≡ Some (position_or_len p xs) = rw (lt-ltb (position_or_len p xs) (length xs) found) at is in
          cc
      | inr past ↦ fails_before_first p xs k d (omega arith)
    ]

-- something that passes has a place
pub position_there : {X : Type 0} (p : X → Bool) (xs : List X) (x : X) → Contains xs x → p x ≡ true → position_or_len p xs < length xs
position_there p xs x there passes =
    elim (cases_lt (position_or_len p xs) (length xs)) [
      | inl found ↦ found
      | inr past ↦
          let fails : p (get_or xs there.0 x) ≡ false = fails_before_first p xs there.0 x (omega (arith, there.1, past)) in
          let here : p x ≡ false = rw there.2 at fails in
          cc
    ]

-- and is found
pub not_missing_there : {X : Type 0} (p : X → Bool) (xs : List X) → position_or_len p xs < length xs → None ≡ position p xs → ⊥
not_missing_there p xs found is =
    let some : None ≡ Some (position_or_len p xs) = rw (lt-ltb (position_or_len p xs) (length xs) found) at is in
    cc

-- at the first place that passes
pub place_is : {X : Type 0} (p : X → Bool) (xs : List X) (place : ℕ) → position_or_len p xs < length xs → Some place ≡ position p xs → place ≡ position_or_len p xs
place_is p xs place found is =
    let some : Some place ≡ Some (position_or_len p xs) = rw (lt-ltb (position_or_len p xs) (length xs) found) at is in
    cc

module _ (plain : PlainDirectory) where
  -- a name that has no place is not found
  pub no_heap : (text : List ℕ) → None ≡ position (is_named text) plain.heaps → IsNotFound plain text
  no_heap text none index heap named same =
      let here : get_or plain.heaps index None ≡ Some heap = get_or_from_slice_get plain.heaps index (Some heap) None named in
      let fails : is_named text (get_or plain.heaps index None) ≡ false
      = position_none (is_named text) plain.heaps none index None (slice_get_within plain.heaps index (Some heap) named) in
      let fails_here : bytes_eq heap.name text ≡ false = rw here at fails in
      let passes : bytes_eq heap.name text ≡ true = (bytes_eq-Decides heap.name text).1 same in
      cc

  -- a name is found at its place
  pub heap_found : (text : List ℕ) (index : ℕ) (heap : HeapName) → Some index ≡ position (is_named text) plain.heaps
      → get_or plain.heaps index None ≡ Some heap → IsFoundAt plain text index heap.socket
  heap_found text index heap is here =
      let found = position-Some (is_named text) plain.heaps index None (sym is) in
      let passes : bytes_eq heap.name text ≡ true = rw here at found.1 in
      record {
        heap = heap;
        there = slice_get-get_or plain.heaps index None found.0 ∙ ap Some here;
        named = (bytes_eq-Decides heap.name text).0 passes;
        socket_is = refl;
        first = λ lower other below named same.
            let other_here : get_or plain.heaps lower None ≡ Some other = get_or_from_slice_get plain.heaps lower (Some other) None named in
            let fails : is_named text (get_or plain.heaps lower None) ≡ false = found.2 lower below in
            let fails_here : bytes_eq other.name text ≡ false = rw other_here at fails in
            let passes_here : bytes_eq other.name text ≡ true = (bytes_eq-Decides other.name text).1 same in
            cc;
      }

  -- what has no name there is none at the place of a name
  pub heap_there : (text : List ℕ) (index : ℕ) → Some index ≡ position (is_named text) plain.heaps → get_or plain.heaps index None ≡ None → ⊥
  heap_there text index is here =
      let found = position-Some (is_named text) plain.heaps index None (sym is) in
      let passes : is_named text None ≡ true = rw here at found.1 in
      cc

  -- what is read at the place of a name
  pub read_here : (text : List ℕ) (index : ℕ) (heap : Option HeapName) → Some index ≡ position (is_named text) plain.heaps
      → heap ≡ get_or plain.heaps index heap → get_or plain.heaps index None ≡ heap
  read_here text index heap is read =
      sym (get_or_read plain.heaps index heap (position-Some (is_named text) plain.heaps index None (sym is)).0 read None)

  none_unnamed : (heap : Option HeapName) → is_unnamed heap ≡ true → heap ≡ None
  none_unnamed None passes = refl
  none_unnamed (Some heap) passes = cc

  -- the lowest index without a name is the first place without one
  pub lowest_here : (index : ℕ) → Some index ≡ position is_unnamed plain.heaps → IsLowestUnnamed plain index
  lowest_here index is =
      let found = position-Some is_unnamed plain.heaps index None (sym is) in
      record {
        unnamed = slice_get-get_or plain.heaps index None found.0 ∙ ap Some (none_unnamed (get_or plain.heaps index None) found.1);
        lowest = λ lower below unnamed.
            let other_here : get_or plain.heaps lower (Some (record { name = []; socket = 0 })) ≡ None = get_or_from_slice_get plain.heaps lower None (Some (record { name = []; socket = 0 })) unnamed in
            let again = position-Some is_unnamed plain.heaps index (Some (record { name = []; socket = 0 })) (sym is) in
            let fails : is_unnamed (get_or plain.heaps lower (Some (record { name = []; socket = 0 }))) ≡ false = again.2 lower below in
            let fails_here : is_unnamed None ≡ false = rw other_here at fails in
            cc;
      }

  -- where no index is without a name there is no place
  pub no_place : None ≡ position is_unnamed plain.heaps → HasPlace plain → ⊥
  no_place none has =
      let other : Option HeapName = Some (record { name = []; socket = 0 }) in
      let here : get_or plain.heaps has.index (Some (record { name = []; socket = 0 })) ≡ None = get_or_from_slice_get plain.heaps has.index None (Some (record { name = []; socket = 0 })) has.unnamed in
      let fails : is_unnamed (get_or plain.heaps has.index (Some (record { name = []; socket = 0 }))) ≡ false
      = position_none is_unnamed plain.heaps none has.index (Some (record { name = []; socket = 0 })) (slice_get_within plain.heaps has.index None has.unnamed) in
      let fails_here : is_unnamed None ≡ false = rw here at fails in
      cc

  -- there is a place exactly where an index without a name is found, if the next socket number is one
  pub place_iff : plain.next < 2 ^ 32 → (index : Option ℕ) → index ≡ position is_unnamed plain.heaps
      → (IsTrue (is_some index) → HasPlace plain) × (HasPlace plain → IsTrue (is_some index))
  place_iff fits None is = (λ some. absurd (false≢true some), λ has. absurd (no_place is has))
  place_iff fits (Some index) is = (λ some. record { index = index; unnamed = (lowest_here index is).unnamed; socket = fits }, λ has. refl)

  -- a range that a heap has is found
  pub range_there : (index addr : ℕ) → HasRange plain index addr → position_or_len (is_range index addr) plain.ranges < length plain.ranges
  range_there index addr has =
      let passes : is_range index addr has.range ≡ true = rw (has.index_is, has.addr_is) (both_same index addr) in
      position_there (is_range index addr) plain.ranges has.range has.there passes
    where
      both_same : (a b : ℕ) → is_range a b (record { index = a; addr = b; len = has.range.len; page = has.range.page }) ≡ true
      both_same a b = grind (arith, nat_tests)

-- n numbers and the next one
range_push : (a n : ℕ) → range_with_len a n ++ (a + n) ∷ [] ≡ range_with_len a (suc n)
range_push a zero = ap (λ k. k ∷ []) (omega arith)
range_push a (suc n) =
    let e : a + suc n ≡ a + 1 + n = omega arith in
    ap (λ k. a ∷ (range_with_len (a + 1) n ++ k ∷ [])) e ∙ ap (λ rest. a ∷ rest) (range_push (a + 1) n)

module _ (view : DirectoryView) (ranges_room log_room : ℕ) (kept : IsKept view ranges_room log_room) where
  -- a change that names no heap gives no socket number
  given_none : (change : NameChange) → socket_given change ≡ None → filter_map socket_given (view.log ++ change ∷ []) ≡ filter_map socket_given view.log
  given_none change none = filter_map-append socket_given view.log (change ∷ []) ∙ rw none (append-nil (filter_map socket_given view.log))

  pub kept_range : (index addr len page : ℕ) → 0 < view.room → IsKept (with_more view (Range index addr len page)) ranges_room log_room
  kept_range index addr len page some =
      let sound = kept.sound in
      let room = kept.room in
      let long_log = length_push view.log (Range index addr len page) in
      let long_ranges = length_push view.plain.ranges (record { index = index; addr = addr; len = len; page = page }) in
      record {
        sound = record {
          replayed = replayed_push view sound (Range index addr len page);
          given = given_none (Range index addr len page) refl ∙ sound.given;
          next = sound.next;
          last = sound.last;
          indexes = sound.indexes;
          apart = sound.apart;
          opened = sound.opened;
          socket_heaps = sound.socket_heaps;
          fronts = fronts_push view sound (Range index addr len page) sound.socket_heaps;
        };
        room = record {
          one = omega (arith, room.one);
          ranges = omega (arith, long_ranges, room.ranges, some);
          log = omega (arith, long_log, long_ranges, room.log, some);
        };
      }

  pub kept_range_gone : (index addr : ℕ) → position_or_len (is_range index addr) view.plain.ranges < length view.plain.ranges
      → IsKept (with_change view (RangeGone index addr)) ranges_room log_room
  kept_range_gone index addr there =
      let sound = kept.sound in
      let room = kept.room in
      let long_log = length_push view.log (RangeGone index addr) in
      let long_ranges = length-remove view.plain.ranges (position_or_len (is_range index addr) view.plain.ranges) there in
      record {
        sound = record {
          replayed = replayed_push view sound (RangeGone index addr);
          given = given_none (RangeGone index addr) refl ∙ sound.given;
          next = sound.next;
          last = sound.last;
          indexes = sound.indexes;
          apart = sound.apart;
          opened = sound.opened;
          socket_heaps = sound.socket_heaps;
          fronts = fronts_push view sound (RangeGone index addr) sound.socket_heaps;
        };
        room = record {
          one = room.one;
          ranges = omega (arith, long_ranges, room.ranges);
          log = omega (arith, long_log, long_ranges, room.log);
        };
      }

  -- a heap that has a name is counted
  named_counted : (index : ℕ) (heap : HeapName) → IsNamed view.plain index heap → 0 < count_by is_heap view.plain.heaps
  named_counted index heap named =
      let here : get_or view.plain.heaps index None ≡ Some heap = get_or_from_slice_get view.plain.heaps index (Some heap) None named in
      let least : cond (is_heap (get_or view.plain.heaps index None)) 1 0 ≤ count_by is_heap view.plain.heaps
      = get_or-le-sum_by (λ other. cond (is_heap other) 1 0) view.plain.heaps index None (slice_get_within view.plain.heaps index (Some heap) named) in
      let one : 1 ≤ count_by is_heap view.plain.heaps = rw here at least in
      one

  pub log_has_room : (index : ℕ) → MayRemove view.plain index → length view.log < log_room
  log_has_room index may =
      let some = named_counted index may.heap may.named in
      let room = kept.room.log in
      omega (arith, some, room)

  pub kept_unnamed : (index : ℕ) → MayRemove view.plain index → IsKept (with_change view (Unnamed index)) ranges_room log_room
  kept_unnamed index may =
      let sound = kept.sound in
      let room = kept.room in
      let long_log = length_push view.log (Unnamed index) in
      let here : get_or view.plain.heaps index None ≡ Some may.heap = get_or_from_slice_get view.plain.heaps index (Some may.heap) None may.named in
      let counts : count_by is_heap (set view.plain.heaps index None) + cond (is_heap (get_or view.plain.heaps index None)) 1 0 ≡ count_by is_heap view.plain.heaps + 0
      = sum_by-set (λ other. cond (is_heap other) 1 0) view.plain.heaps index None None (slice_get_within view.plain.heaps index (Some may.heap) may.named) in
      let fewer : count_by is_heap (set view.plain.heaps index None) + 1 ≡ count_by is_heap view.plain.heaps + 0 = rw here at counts in
      let stay : HasSocketHeaps view.sockets (after_change view.plain (Unnamed index))
      = sockets_unnamed view.sockets view.plain sound.socket_heaps index sound.opened may in
      record {
        sound = record {
          replayed = replayed_push view sound (Unnamed index);
          given = given_none (Unnamed index) refl ∙ sound.given;
          next = sound.next;
          last = sound.last;
          indexes = length-set view.plain.heaps index None ∙ sound.indexes;
          apart = AreApart-unnamed view.plain.heaps index sound.apart;
          opened = sound.opened;
          socket_heaps = stay;
          fronts = fronts_push view sound (Unnamed index) stay;
        };
        room = record {
          one = room.one;
          ranges = room.ranges;
          log = omega (arith, long_log, fewer, room.log);
        };
      }

  pub kept_named : (index : ℕ) (name : List ℕ) → Some index ≡ position is_unnamed view.plain.heaps → view.plain.next < 2 ^ 32 → 0 < view.room
      → IsNotFound view.plain name → IsKept (with_more view (Named index view.plain.next name)) ranges_room log_room
  kept_named index name is fits some fresh =
      let sound = kept.sound in
      let room = kept.room in
      let found = position-Some is_unnamed view.plain.heaps index None (sym is) in
      let here : get_or view.plain.heaps index None ≡ None = none_unnamed view.plain (get_or view.plain.heaps index None) found.1 in
      let long_log = length_push view.log (Named index view.plain.next name) in
      let counts : count_by is_heap (set view.plain.heaps index (Some (record { name = name; socket = view.plain.next }))) + cond (is_heap (get_or view.plain.heaps index None)) 1 0 ≡ count_by is_heap view.plain.heaps + 1
      = sum_by-set (λ other. cond (is_heap other) 1 0) view.plain.heaps index (Some (record { name = name; socket = view.plain.next })) None found.0 in
      let more : count_by is_heap (set view.plain.heaps index (Some (record { name = name; socket = view.plain.next }))) + 0 ≡ count_by is_heap view.plain.heaps + 1 = rw here at counts in
      let next_is : FIRST_EXTERNAL_SOCKET + (view.plain.next - FIRST_EXTERNAL_SOCKET) ≡ view.plain.next = omega (arith, sound.next) in
      let count_is : suc (view.plain.next - FIRST_EXTERNAL_SOCKET) ≡ view.plain.next + 1 - FIRST_EXTERNAL_SOCKET = omega (arith, sound.next) in
      let stay : HasSocketHeaps view.sockets (after_change view.plain (Named index view.plain.next name))
      = sockets_named view.sockets view.plain sound.socket_heaps index view.plain.next name
      (slice_get-get_or view.plain.heaps index None found.0 ∙ ap Some here) in
      record {
        sound = record {
          replayed = replayed_push view sound (Named index view.plain.next name);
          given = filter_map-append socket_given view.log (Named index view.plain.next name ∷ [])
              ∙ (ap (λ before. before ++ view.plain.next ∷ []) sound.given
              ∙ (ap (λ next. range_with_len FIRST_EXTERNAL_SOCKET (view.plain.next - FIRST_EXTERNAL_SOCKET) ++ next ∷ []) (sym next_is)
              ∙ (range_push FIRST_EXTERNAL_SOCKET (view.plain.next - FIRST_EXTERNAL_SOCKET) ∙ ap (range_with_len FIRST_EXTERNAL_SOCKET) count_is)));
          next = omega (arith, sound.next);
          last = omega (arith, fits);
          indexes = length-set view.plain.heaps index (Some (record { name = name; socket = view.plain.next })) ∙ sound.indexes;
          apart = AreApart-named view.plain.heaps index (record { name = name; socket = view.plain.next }) fresh sound.apart;
          opened = sound.opened;
          socket_heaps = stay;
          fronts = fronts_push view sound (Named index view.plain.next name) stay;
        };
        room = record {
          one = omega (arith, room.one);
          ranges = omega (arith, room.ranges, some);
          log = omega (arith, long_log, more, room.log, some);
        };
      }
