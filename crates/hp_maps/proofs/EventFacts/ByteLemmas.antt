-- What events do to bytes.
use Rattle.std.proofs.Common.{◌≡◌, ◌≤◌, ◌<◌, ℕ, ◌+◌, Bool, true, false, not, ◌&&◌, ◌||◌, nat_le, nat_lt, List, [], ◌∷◌, ◌++◌, map, refl, ap, ◌∙◌, sym, subst, arith, inl, inr, count_by}
use Rattle.std.specs.Prelude.{flat_map, sum_by}
use Rattle.std.proofs.lemmas.Bool.{and_from, and_parts, cases_Bool, cases_lt, eqb-true, le-leb, leb-true, lt-ltb, ltb-true, or_right}
use Rattle.std.proofs.lemmas.List.Sums.{sum_by-cons}
use Rattle.hp_base.specs.declared.event.Event.{Event}
use Rattle.hp_base.specs.declared.event.EventKind.{EventKind}
use Rattle.hp_base.specs.declared.event.EventKind.TheVariants.{Alloc, Free}
use Rattle.hp_base.specs.declared.row.Row.{Row}
use Rattle.hp_log.specs.declared.log_record.LogRecord.{LogRecord}
use Rattle.hp_log.proofs.Counts.{any_counts, count_append}
use Rattle.hp_maps.specs.Bytes.{AllFit, bytes_after, bytes_after_all, has_byte, in_event, in_row}
use Rattle.hp_maps.specs.Events.{dropped_events, event_of, events_of, first_addr, freed_by, is_behind, joins_by, stretches_of}
use Rattle.hp_maps.specs.Laws.{AreJoined, IsJoined}
use Rattle.hp_maps.proofs.LawLemmas.{fall_into_stretches}

both_ways : (a b : Bool) → (a ≡ true → b ≡ true) → (b ≡ true → a ≡ true) → a ≡ b
both_ways true b there back = sym (there refl)
both_ways false true there back = back refl
both_ways false false there back = refl

pub from_row : (byte : ℕ) (row : Row) → in_row byte row ≡ true → (row.addr ≤ byte) × (byte < row.addr + row.page)
from_row byte row is =
    let parts = and_parts (nat_le row.addr byte) (nat_lt byte (row.addr + row.page)) is in
    (leb-true _ _ parts.0, ltb-true _ _ parts.1)

pub any_append : (byte : ℕ) (xs ys : List Row) → has_byte (xs ++ ys) byte ≡ (has_byte xs byte || has_byte ys byte)
any_append byte [] ys = refl
any_append byte (x ∷ xs) ys = ap (λ b. in_row byte x || b) (any_append byte xs ys) ∙ regroup (in_row byte x) (has_byte xs byte) (has_byte ys byte)
  where
    regroup : (a b c : Bool) → (a || (b || c)) ≡ ((a || b) || c)
    regroup true b c = refl
    regroup false b c = refl

-- rows of which each begins where the one before it ends have the bytes from the first on, as many as their pages have
module _ (joins : Row → Row → Bool) (behind : (row next : Row) → joins row next ≡ true → next.addr ≡ row.addr + row.page) (byte : ℕ) where
  inside : (stretch : List Row) → IsJoined joins stretch → first_addr stretch ≤ byte → byte < first_addr stretch + sum_by (λ row. row.page) stretch
      → has_byte stretch byte ≡ true
  inside [] joined low high = absurd joined
  inside (row ∷ []) joined low high =
      ap (λ b. b || false) (and_from (nat_le row.addr byte) (nat_lt byte (row.addr + row.page)) (le-leb _ _ low) (lt-ltb _ _ (omega (arith, high))))
  inside (row ∷ (next ∷ rows)) joined low high =
      let begins = behind row next joined.0 in
      let first : first_addr (next ∷ rows) ≡ next.addr = refl in
      let all = sum_by-cons (λ (row : Row). row.page) row (next ∷ rows) in
      elim (cases_lt byte (row.addr + row.page)) [
        | inl here ↦
            ap (λ b. b || has_byte (next ∷ rows) byte)
            (and_from (nat_le row.addr byte) (nat_lt byte (row.addr + row.page)) (le-leb _ _ low) (lt-ltb _ _ here))
        | inr later ↦
            or_right (in_row byte row) (has_byte (next ∷ rows) byte)
            (inside (next ∷ rows) joined.1 (omega (arith, begins, later, first)) (omega (arith, begins, high, first, all)))
      ]

  within : (stretch : List Row) → IsJoined joins stretch → has_byte stretch byte ≡ true
      → (first_addr stretch ≤ byte) × (byte < first_addr stretch + sum_by (λ row. row.page) stretch)
  within [] joined there = absurd joined
  within (row ∷ []) joined there =
      elim (cases_Bool (in_row byte row)) [
        | inl here ↦
            let at = from_row byte row here in
            (at.0, omega (arith, at.1))
        | inr other ↦
            let wrong : true ≡ false = sym there ∙ ap (λ b. b || false) other in
            cc
      ]
  within (row ∷ (next ∷ rows)) joined there =
      let begins = behind row next joined.0 in
      let here : first_addr (row ∷ (next ∷ rows)) ≡ row.addr = refl in
      let first : first_addr (next ∷ rows) ≡ next.addr = refl in
      let all = sum_by-cons (λ (row : Row). row.page) row (next ∷ rows) in
      elim (cases_Bool (in_row byte row)) [
        | inl is ↦
            let at = from_row byte row is in
            (at.0, omega (arith, at.1, here, all))
        | inr other ↦
            let rest : has_byte (next ∷ rows) byte ≡ true = sym (ap (λ b. b || has_byte (next ∷ rows) byte) other) ∙ there in
            let at = within (next ∷ rows) joined.1 rest in
            (omega (arith, begins, at.0, here, first), omega (arith, begins, at.1, here, first, all))
      ]

  pub covers : (kind : EventKind) (stretch : List Row) → IsJoined joins stretch → in_event byte (event_of kind stretch) ≡ has_byte stretch byte
  covers kind stretch joined =
      let event = event_of kind stretch in
      both_ways (in_event byte event) (has_byte stretch byte)
      (λ is.
      let parts = and_parts (nat_le event.addr byte) (nat_lt byte (event.addr + event.len)) is in
      inside stretch joined (leb-true _ _ parts.0) (ltb-true _ _ parts.1))
      (λ there.
      let at = within stretch joined there in
      and_from (nat_le event.addr byte) (nat_lt byte (event.addr + event.len)) (le-leb _ _ at.0) (lt-ltb _ _ at.1))

behind_by : (kind : EventKind) (row next : Row) → joins_by kind row next ≡ true → next.addr ≡ row.addr + row.page
behind_by Alloc row next goes =
    let both = and_parts _ (is_behind row next) goes in
    let parts = and_parts _ _ both.1 in
    eqb-true _ _ parts.1
behind_by Free row next goes =
    let parts = and_parts _ _ goes in
    eqb-true _ _ parts.1

abbrev flat : List (List Row) → List Row
flat stretches = flat_map (λ (stretch : List Row). stretch) stretches

-- what stretches do that go
abbrev pub Frees : List Event → (ℕ → Bool) → List Row → Type 0
Frees events bytes rows =
    AllFit events bytes × ((byte : ℕ) → bytes_after_all events bytes byte ≡ (bytes byte && not (has_byte rows byte)))

-- and what those do that come
abbrev pub Allocs : List Event → (ℕ → Bool) → List Row → Type 0
Allocs events bytes rows =
    AllFit events bytes × ((byte : ℕ) → bytes_after_all events bytes byte ≡ (has_byte rows byte || bytes byte))

and_true : (b : Bool) → b ≡ (b && true)
and_true true = refl
and_true false = refl

freed_twice : (b s f : Bool) → ((b && not s) && not f) ≡ (b && not (s || f))
freed_twice true true f = refl
freed_twice true false f = refl
freed_twice false s f = refl

come_twice : (b s f : Bool) → (f || (s || b)) ≡ ((s || f) || b)
come_twice b true true = refl
come_twice b true false = refl
come_twice b false true = refl
come_twice b false false = refl

-- a byte of rows after others is none of those
pub once_back : (byte : ℕ) (xs ys : List Row) → count_by (in_row byte) (xs ++ ys) ≤ 1 → has_byte ys byte ≡ true → has_byte xs byte ≡ false
once_back byte xs ys once there =
    elim (cases_Bool (has_byte xs byte)) [
      | inr none ↦ none
      | inl here ↦ absurd (omega (
        arith,
        once,
        count_append (in_row byte) xs ys,
        any_counts (in_row byte) xs here,
        any_counts (in_row byte) ys there,
      ))
    ]

in_front_of : (byte : ℕ) (xs ys : List Row) → has_byte xs byte ≡ true → has_byte (xs ++ ys) byte ≡ true
in_front_of byte xs ys here = any_append byte xs ys ∙ ap (λ b. b || has_byte ys byte) here

behind_of : (byte : ℕ) (xs ys : List Row) → has_byte ys byte ≡ true → has_byte (xs ++ ys) byte ≡ true
behind_of byte xs ys there = any_append byte xs ys ∙ or_right (has_byte xs byte) (has_byte ys byte) there

few_behind : (byte : ℕ) (xs ys : List Row) → count_by (in_row byte) (xs ++ ys) ≤ 1 → count_by (in_row byte) ys ≤ 1
few_behind byte xs ys once = omega (arith, once, count_append (in_row byte) xs ys)

few_front : (byte : ℕ) (xs ys : List Row) → count_by (in_row byte) (xs ++ ys) ≤ 1 → count_by (in_row byte) xs ≤ 1
few_front byte xs ys once = omega (arith, once, count_append (in_row byte) xs ys)

module _ (joins : Row → Row → Bool) (behind : (row next : Row) → joins row next ≡ true → next.addr ≡ row.addr + row.page) where
  -- the first of stretches that go, in front of others
  module _ (stretch more : List Row) (bytes : ℕ → Bool) (joined : IsJoined joins stretch)
      (once : (byte : ℕ) → count_by (in_row byte) (stretch ++ more) ≤ 1) where
    abbrev goes_event : Event
    goes_event = event_of Free stretch

    abbrev comes_event : Event
    comes_event = event_of Alloc stretch

    goes_fits : ((byte : ℕ) → has_byte (stretch ++ more) byte ≡ true → bytes byte ≡ true) → (byte : ℕ) → in_event byte goes_event ≡ true
        → bytes byte ≡ true
    goes_fits there byte is = there byte (in_front_of byte stretch more (sym (covers joins behind byte Free stretch joined) ∙ is))

    goes_still : ((byte : ℕ) → has_byte (stretch ++ more) byte ≡ true → bytes byte ≡ true) → (byte : ℕ) → has_byte more byte ≡ true
        → bytes_after goes_event bytes byte ≡ true
    goes_still there byte later =
        and_from (bytes byte) (not (in_event byte goes_event)) (there byte (behind_of byte stretch more later))
        (ap not (covers joins behind byte Free stretch joined ∙ once_back byte stretch more (once byte) later))

    goes_leave : (now : ℕ → Bool) → ((byte : ℕ) → now byte ≡ (bytes_after goes_event bytes byte && not (has_byte more byte))) → (byte : ℕ)
        → now byte ≡ (bytes byte && not (has_byte (stretch ++ more) byte))
    goes_leave now rest byte =
        rest byte
        ∙ (ap (λ told. (bytes byte && not told) && not (has_byte more byte)) (covers joins behind byte Free stretch joined)
        ∙ (freed_twice (bytes byte) (has_byte stretch byte) (has_byte more byte)
        ∙ ap (λ has. bytes byte && not has) (sym (any_append byte stretch more))))

    comes_fits : ((byte : ℕ) → has_byte (stretch ++ more) byte ≡ true → bytes byte ≡ false) → (byte : ℕ) → in_event byte comes_event ≡ true
        → bytes byte ≡ false
    comes_fits there byte is = there byte (in_front_of byte stretch more (sym (covers joins behind byte Alloc stretch joined) ∙ is))

    comes_still : ((byte : ℕ) → has_byte (stretch ++ more) byte ≡ true → bytes byte ≡ false) → (byte : ℕ) → has_byte more byte ≡ true
        → bytes_after comes_event bytes byte ≡ false
    comes_still there byte later =
        ap (λ told. told || bytes byte) (covers joins behind byte Alloc stretch joined ∙ once_back byte stretch more (once byte) later)
        ∙ there byte (behind_of byte stretch more later)

    comes_leave : (now : ℕ → Bool) → ((byte : ℕ) → now byte ≡ (has_byte more byte || bytes_after comes_event bytes byte)) → (byte : ℕ)
        → now byte ≡ (has_byte (stretch ++ more) byte || bytes byte)
    comes_leave now rest byte =
        rest byte
        ∙ (ap (λ told. has_byte more byte || (told || bytes byte)) (covers joins behind byte Alloc stretch joined)
        ∙ (come_twice (bytes byte) (has_byte stretch byte) (has_byte more byte)
        ∙ ap (λ has. has || bytes byte) (sym (any_append byte stretch more))))

  free_stretches : (stretches : List (List Row)) (bytes : ℕ → Bool) → AreJoined joins stretches
      → ((byte : ℕ) → count_by (in_row byte) (flat stretches) ≤ 1) → ((byte : ℕ) → has_byte (flat stretches) byte ≡ true → bytes byte ≡ true)
      → Frees (map (event_of Free) stretches) bytes (flat stretches)
  free_stretches [] bytes joined once there = (tt, λ byte. and_true (bytes byte))
  free_stretches (stretch ∷ stretches) bytes joined once there =
      let after = bytes_after (event_of Free stretch) bytes in
      let rest =
      free_stretches stretches after joined.1 (λ byte. few_behind byte stretch (flat stretches) (once byte))
      (goes_still stretch (flat stretches) bytes joined.0 once there) in (
        (goes_fits stretch (flat stretches) bytes joined.0 once there, rest.0),
        goes_leave stretch (flat stretches) bytes joined.0 once (bytes_after_all (map (event_of Free) stretches) after) rest.1,
      )

  alloc_stretches : (stretches : List (List Row)) (bytes : ℕ → Bool) → AreJoined joins stretches
      → ((byte : ℕ) → count_by (in_row byte) (flat stretches) ≤ 1) → ((byte : ℕ) → has_byte (flat stretches) byte ≡ true → bytes byte ≡ false)
      → Allocs (map (event_of Alloc) stretches) bytes (flat stretches)
  alloc_stretches [] bytes joined once there = (tt, λ byte. refl)
  alloc_stretches (stretch ∷ stretches) bytes joined once there =
      let after = bytes_after (event_of Alloc stretch) bytes in
      let rest =
      alloc_stretches stretches after joined.1 (λ byte. few_behind byte stretch (flat stretches) (once byte))
      (comes_still stretch (flat stretches) bytes joined.0 once there) in (
        (comes_fits stretch (flat stretches) bytes joined.0 once there, rest.0),
        comes_leave stretch (flat stretches) bytes joined.0 once (bytes_after_all (map (event_of Alloc) stretches) after) rest.1,
      )

-- what is told of rows that go, where no two share a byte and all their bytes are there
pub free_rows : (rows : List Row) (bytes : ℕ → Bool) → ((byte : ℕ) → count_by (in_row byte) rows ≤ 1)
    → ((byte : ℕ) → has_byte rows byte ≡ true → bytes byte ≡ true) → Frees (events_of Free rows) bytes rows
free_rows rows bytes once there =
    let falls = fall_into_stretches (joins_by Free) rows in
    subst (Frees (events_of Free rows) bytes) falls.whole
    (free_stretches (joins_by Free) (behind_by Free) (stretches_of (joins_by Free) rows) bytes falls.joined
    (λ byte. subst (λ l. count_by (in_row byte) l ≤ 1) (sym falls.whole) (once byte))
    (λ byte is. there byte (subst (λ l. has_byte l byte ≡ true) falls.whole is)))

-- and of rows that come, where no two share a byte and none of their bytes is there
pub alloc_rows : (rows : List Row) (bytes : ℕ → Bool) → ((byte : ℕ) → count_by (in_row byte) rows ≤ 1)
    → ((byte : ℕ) → has_byte rows byte ≡ true → bytes byte ≡ false) → Allocs (events_of Alloc rows) bytes rows
alloc_rows rows bytes once there =
    let falls = fall_into_stretches (joins_by Alloc) rows in
    subst (Allocs (events_of Alloc rows) bytes) falls.whole
    (alloc_stretches (joins_by Alloc) (behind_by Alloc) (stretches_of (joins_by Alloc) rows) bytes falls.joined
    (λ byte. subst (λ l. count_by (in_row byte) l ≤ 1) (sym falls.whole) (once byte))
    (λ byte is. there byte (subst (λ l. has_byte l byte ≡ true) falls.whole is)))

-- events after others
pub fit_append : (first more : List Event) (bytes : ℕ → Bool) → AllFit first bytes → AllFit more (bytes_after_all first bytes)
    → AllFit (first ++ more) bytes
fit_append [] more bytes fits rest = rest
fit_append (event ∷ first) more bytes fits rest = (fits.0, fit_append first more (bytes_after event bytes) fits.1 rest)

pub after_append : (first more : List Event) (bytes : ℕ → Bool) (byte : ℕ)
    → bytes_after_all (first ++ more) bytes byte ≡ bytes_after_all more (bytes_after_all first bytes) byte
after_append [] more bytes byte = refl
after_append (event ∷ first) more bytes byte = after_append first more (bytes_after event bytes) byte

-- all rows that records unmap, in the order in which they are told
abbrev pub all_freed : List Row → List LogRecord → List LogRecord → List Row
all_freed rows before [] = []
all_freed rows before (entry ∷ records) = freed_by rows before entry ++ all_freed rows (before ++ entry ∷ []) records

pub dropped_frees : (rows : List Row) (before records : List LogRecord) (bytes : ℕ → Bool)
    → ((byte : ℕ) → count_by (in_row byte) (all_freed rows before records) ≤ 1)
    → ((byte : ℕ) → has_byte (all_freed rows before records) byte ≡ true → bytes byte ≡ true)
    → Frees (dropped_events rows before records) bytes (all_freed rows before records)
dropped_frees rows before [] bytes once there = (tt, λ byte. and_true (bytes byte))
dropped_frees rows before (entry ∷ records) bytes once there =
    let gone = freed_by rows before entry in
    let more = all_freed rows (before ++ entry ∷ []) records in
    let told = events_of Free gone in
    let later = dropped_events rows (before ++ entry ∷ []) records in
    let first =
    free_rows gone bytes (λ byte. few_front byte gone more (once byte)) (λ byte here. there byte (in_front_of byte gone more here)) in
    let rest =
    dropped_frees rows (before ++ entry ∷ []) records (bytes_after_all told bytes) (λ byte. few_behind byte gone more (once byte))
    (λ byte here.
    first.1 byte
    ∙ and_from (bytes byte) (not (has_byte gone byte)) (there byte (behind_of byte gone more here))
    (ap not (once_back byte gone more (once byte) here))) in (
      fit_append told later bytes first.0 rest.0,
      λ byte.
          after_append told later bytes byte
          ∙ (rest.1 byte
          ∙ (ap (λ b. b && not (has_byte more byte)) (first.1 byte)
          ∙ (freed_twice (bytes byte) (has_byte gone byte) (has_byte more byte)
          ∙ ap (λ has. bytes byte && not has) (sym (any_append byte gone more))))),
    )
