-- An allocation keeps the tiling.
use Rattle.std.proofs.Common.{◌≡◌, ℕ, ◌+◌, ◌*◌, ◌/◌, ◌%◌, ◌<◌, ◌≤◌, ◌⊎◌, Bool, true, false, cond, ◌&&◌, List, [], ◌∷◌, ◌++◌, refl, sym, ap, subst, ◌∙◌, inl, inr, arith, Option, Some, None, is_some, unwrap_or, IsTrue, Contains, MatchOption, count_by, eqb}
use Rattle.std.proofs.Math.Nat.{mul-mod_left, mul_assoc}
use Rattle.std.proofs.lemmas.Bool.{and_parts, false≢true, cases_lt, ne_eqb}
use Rattle.std.specs.List.{AllByRecursion}
use Rattle.std.specs.Option.{option_and_then}
use Rattle.std.specs.Int.{is_power_of_two}
use Rattle.hp_base.specs.Place.{IsPlace, HasNoPlace}
use Rattle.hp_base.proofs.Places.{place_of-is-place}
use Rattle.hp_base.proofs.Powers.{power_of, line_is_power, multiple_of_power}
use Rattle.hp_base.proofs.Rounding.{multiple_is}
use Rattle.hp_base.specs.declared.span.Span.{Span}
use Rattle.hp_base.specs.declared.tag.Tag.{Tag}
use Rattle.hp_base.specs.declared.request.Request.{Request}
use Rattle.hp_heap.specs.PlainHeap.{PlainHeap, Extent, end_of, is_free, stamp_of, segments_of}
use Rattle.hp_heap.specs.Tiling.{IsTiling, IsTiled, IsElement, IsRisingFrom, in_range, in_range_of, has_stamp}
use Rattle.hp_heap.specs.Statistics.{total_bytes}
use Rattle.hp_heap.specs.Choice.{chosen, IsChoice, HasNoChoice}
use Rattle.hp_heap.specs.Placing.{pieces_with, pieces_of, insertions_of, has_rest_before, has_rest_behind, count_if, replaced, placed, place_in, after_alloc, after_choice, allocated, IsPlacedIn}
use Rattle.hp_heap.proofs.RangeLemmas.{AllByRecursion-append, AllByRecursion-front, AllByRecursion-back, AllByRecursion-weaker, last_end, rising-append, rising-front, rising-back, rising_lower, rising_before, replaced-at}
use Rattle.hp_heap.proofs.HistoryFacts.Counting.{count_by-between, count_consecutive, count_of_list, count_none, IsConsecutive}
use Rattle.hp_heap.proofs.AllocFacts.PieceLemmas.{IsPlacing, IsTested, pieces_row, pieces_total, pieces_end, pieces_list, pieces_elements, pieces_stamps, pieces_later, pieces_kept_apart}
use Rattle.hp_heap.proofs.AllocFacts.ChoiceLaw.{chosen-is_choice, eligible-candidate, Contains-parts, AllByRecursion-contains}

-- elements in a row rise
rising_row : (from : ℕ) (xs : List Span) → IsConsecutive from xs → IsRisingFrom from xs
rising_row from [] row = tt
rising_row from (x ∷ xs) row = (omega (arith, row.0), rising_row (end_of x) xs row.1)

-- more insertions leave elements as they are
pub later_element : (insertions more : ℕ) (xs : List Span) → insertions ≤ more → AllByRecursion (IsElement insertions) xs → AllByRecursion (IsElement more) xs
later_element insertions more xs within all =
    AllByRecursion-weaker (IsElement insertions) (IsElement more) (λ x is. record { line = is.line; size = is.size; busy = is.busy; stamp = omega (arith, is.stamp) }) xs all

-- no element has a stamp that was not given yet
no_stamp : (insertions stamp : ℕ) (xs : List Span) → insertions < stamp → AllByRecursion (IsElement insertions) xs → AllByRecursion (λ x. has_stamp stamp x ≡ false) xs
no_stamp insertions stamp [] later all = tt
no_stamp insertions stamp (x ∷ xs) later all = (
  (let differ : eqb (stamp_of x) stamp ≡ false = ne_eqb (stamp_of x) stamp (λ same. omega (arith, same, all.0.stamp)) in rw differ (without (is_free x))),
  no_stamp insertions stamp xs later all.1,
)
  where
    without : (b : Bool) → (b && false) ≡ false
    without true = refl
    without false = refl

pub no_later_stamp : (insertions stamp : ℕ) (xs : List Span) → insertions < stamp → AllByRecursion (IsElement insertions) xs → count_by (has_stamp stamp) xs ≡ 0
no_later_stamp insertions stamp xs later all = count_none (has_stamp stamp) xs (no_stamp insertions stamp xs later all)

-- elements that rise up to an address begin below it
pub starts_before : (insertions from at : ℕ) (xs : List Span) → IsRisingFrom from xs → last_end from xs ≤ at → AllByRecursion (IsElement insertions) xs → AllByRecursion (λ x. x.addr < at) xs
starts_before insertions from at [] rising last all = tt
starts_before insertions from at (x ∷ xs) rising last all =
    (omega (arith, (rising_before (end_of x) at xs rising.1 last).0, all.0.size.least), starts_before insertions (end_of x) at xs rising.1 last all.1)

-- pieces tile what the element that they are cut out of did
module _ (segments : List Extent) (insertions : ℕ) (before after : List Span) (r : Span) (d size : ℕ) (tag : Tag) (F B : Bool)
    (tiling : IsTiling segments insertions (before ++ (r ∷ after))) (placing : IsPlacing r d size) (tested : IsTested r d size F B) where
  abbrev pieces : List Span
  pieces = pieces_with F B r d size tag insertions

  r_row : IsConsecutive r.addr (r ∷ [])
  r_row = (refl, tt)

  single_total : r.whole ≡ total_bytes (r ∷ [])
  single_total = omega arith

  same_bytes : (byte : ℕ) → count_by (in_range byte) pieces ≡ count_by (in_range byte) (r ∷ [])
  same_bytes byte =
      count_consecutive byte r.addr pieces (pieces_row r d size insertions tag placing F B tested)
      ∙ ap (λ n. cond (Rattle.hp_heap.specs.PlainHeap.is_within r.addr n byte) 1 0) (pieces_total r d size insertions tag placing F B tested ∙ single_total)
      ∙ sym (count_consecutive byte r.addr (r ∷ []) r_row)

  same_list_bytes : (l p byte : ℕ) → count_by (in_range_of l p byte) pieces ≡ count_by (in_range_of l p byte) (r ∷ [])
  same_list_bytes l p byte =
      count_of_list r.list r.page l p byte pieces (pieces_list r d size insertions tag placing F B)
      ∙ ap (λ (n : ℕ). cond (eqb r.list l && eqb r.page p) n 0) (same_bytes byte)
      ∙ sym (count_of_list r.list r.page l p byte (r ∷ []) ((refl, refl), tt))

  stamps_at : (stamp : ℕ) → (insertions < stamp) ⊎ (stamp ≤ insertions) → count_by (has_stamp stamp) (before ++ (pieces ++ after)) ≤ 1
  stamps_at stamp (inl later) = omega (
    arith,
    count_by-between (has_stamp stamp) before pieces after,
    pieces_stamps r d size insertions tag placing F B stamp,
    no_later_stamp insertions stamp before later (AllByRecursion-front (IsElement insertions) before (r ∷ after) tiling.elements),
    no_later_stamp insertions stamp after later (AllByRecursion-back (IsElement insertions) before (r ∷ after) tiling.elements).1,
  )
  stamps_at stamp (inr old) = omega (
    arith,
    count_by-between (has_stamp stamp) before pieces after,
    count_by-between (has_stamp stamp) before (r ∷ []) after,
    pieces_later r d size insertions tag placing F B stamp old,
    tiling.stamps stamp,
  )

  pub pieces_tiling : IsTiling segments (insertions + count_if B + count_if F) (before ++ (pieces ++ after))
  pieces_tiling =
      let front : IsRisingFrom 0 before = rising-front 0 before (r ∷ after) tiling.rising in
      let back = rising-back 0 before (r ∷ after) tiling.rising in
      let elements = AllByRecursion-back (IsElement insertions) before (r ∷ after) tiling.elements in
      let more : insertions ≤ insertions + count_if B + count_if F = omega arith in
      record {
        rising = rising-append 0 before (pieces ++ after) front
            (rising-append (last_end 0 before) pieces after
            (rising_lower (last_end 0 before) r.addr pieces back.0 (rising_row r.addr pieces (pieces_row r d size insertions tag placing F B tested)))
            (subst (λ (end : ℕ). IsRisingFrom end after) (sym (pieces_end r d size insertions tag placing F B (last_end 0 before) tested)) back.1));
        once = λ byte. omega (arith, count_by-between (in_range byte) before pieces after, count_by-between (in_range byte) before (r ∷ []) after, same_bytes byte, tiling.once byte);
        single = λ byte. omega (arith, count_by-between (in_range byte) before pieces after, count_by-between (in_range byte) before (r ∷ []) after, same_bytes byte, tiling.single byte);
        one_list = λ l p byte. omega (arith, count_by-between (in_range_of l p byte) before pieces after, count_by-between (in_range_of l p byte) before (r ∷ []) after, same_list_bytes l p byte, tiling.one_list l p byte);
        elements = AllByRecursion-append (IsElement (insertions + count_if B + count_if F)) before (pieces ++ after)
            (later_element insertions (insertions + count_if B + count_if F) before more (AllByRecursion-front (IsElement insertions) before (r ∷ after) tiling.elements))
            (AllByRecursion-append (IsElement (insertions + count_if B + count_if F)) pieces after (pieces_elements r d size insertions tag placing F B tested)
            (later_element insertions (insertions + count_if B + count_if F) after more elements.1));
        stamps = λ stamp. stamps_at stamp (cases_lt insertions stamp);
        apart = pieces_kept_apart r d size insertions tag placing F B before after tiling.apart;
      }

-- an address at an alignment of a request is at a cache line
at_line : (d align : ℕ) → IsTrue (is_power_of_two align) → 64 ≤ align → d % align ≡ 0 → d % 64 ≡ 0
at_line d align power least aligned =
    let (m, is) = multiple_of_power 64 align (power_of 64 line_is_power) (power_of align power) least in
    let whole : d / align * m * 64 ≡ d = mul_assoc (d / align) m 64 ∙ ap (λ (a : ℕ). d / align * a) (sym is) ∙ multiple_is d align aligned in
    subst (λ (n : ℕ). n % 64 ≡ 0) whole (mul-mod_left (d / align * m) 64)

-- what the choice of a tiled heap gives: a place in it
pub record IsPlaced (heap : PlainHeap) (request : Request) (r : Span) (d : ℕ) : Type 0 where
  pub in_it : place_in request r ≡ Some d
  pub place : IsPlace r.addr (end_of r) request d
  pub placing : IsPlacing r d request.size

placed_by : (heap : PlainHeap) (participant : ℕ) (request : Request) (r : Span) → IsTiled heap → Contains heap.ranges r → is_free r ≡ true
    → (o : Option ℕ) → place_in request r ≡ o → is_some o ≡ true → MatchOption o (HasNoPlace r.addr (end_of r) request) (IsPlace r.addr (end_of r) request)
    → (d : ℕ) × IsPlaced heap request r d
placed_by heap participant request r tiled has free None is some law = absurd (false≢true some)
placed_by heap participant request r tiled has free (Some d) is some law =
    let element = AllByRecursion-contains (IsElement heap.insertions) heap.ranges r tiled.tiling.elements has in (
      d,
      record {
        in_it = is;
        place = law;
        placing = record {
          free = free;
          line = element.line;
          whole = element.size.lines;
          at_line = at_line d request.align request.accepted.power request.accepted.line law.room.aligned;
          lines = request.accepted.lines;
          some = request.accepted.some;
          before = law.room.behind;
          behind = law.room.before;
        };
      },
    )

pub choice-placed : (heap : PlainHeap) (participant : ℕ) (request : Request) (r : Span) → IsTiled heap → IsChoice participant request heap r → (d : ℕ) × IsPlaced heap request r d
choice-placed heap participant request r tiled choice =
    let candidate = eligible-candidate heap participant request r choice.among in
    let tests = and_parts _ _ candidate.0 in
    let usable = and_parts _ _ tests.1 in
    placed_by heap participant request r tiled candidate.1 tests.0 (place_in request r) refl usable.1 (place_of-is-place r.addr (end_of r) request)

-- an element of a tiled heap parts its elements, and those before it begin below it
pub record IsParted (heap : PlainHeap) (r : Span) (before after : List Span) : Type 0 where
  pub ranges : heap.ranges ≡ before ++ (r ∷ after)
  pub below : AllByRecursion (λ x. x.addr < r.addr) before

pub parted : (heap : PlainHeap) (r : Span) (before after : List Span) → IsTiled heap → heap.ranges ≡ before ++ (r ∷ after) → IsParted heap r before after
parted heap r before after tiled is =
    let tiling = subst (λ ranges. IsTiling (segments_of heap) heap.insertions ranges) is tiled.tiling in
    record {
      ranges = is;
      below = starts_before heap.insertions 0 r.addr before (rising-front 0 before (r ∷ after) tiling.rising) (rising-back 0 before (r ∷ after) tiling.rising).0
          (AllByRecursion-front (IsElement heap.insertions) before (r ∷ after) tiling.elements);
    }

pub placed-tiled : (heap : PlainHeap) (r : Span) (d size : ℕ) (tag : Tag) → IsTiled heap → Contains heap.ranges r → IsPlacing r d size → IsTiled (placed r d size tag heap)
unfolding placed pieces_of insertions_of
placed-tiled heap r d size tag tiled has placing =
    let (before, after, is) = Contains-parts heap.ranges r has in
    let part = parted heap r before after tiled is in
    let pieces = pieces_with (has_rest_before r d) (has_rest_behind r d size) r d size tag heap.insertions in
    let ranges : replaced r.addr pieces heap.ranges ≡ before ++ (pieces ++ after) =
    ap (λ xs. replaced r.addr pieces xs) is ∙ replaced-at r.addr pieces before r after part.below refl in
    record {
      kind = tiled.kind;
      laid = tiled.laid;
      tiling = subst (λ xs. IsTiling (segments_of heap) (heap.insertions + count_if (has_rest_behind r d size) + count_if (has_rest_before r d)) xs) (sym ranges)
          (pieces_tiling (segments_of heap) heap.insertions before after r d size tag (has_rest_before r d) (has_rest_behind r d size)
          (subst (λ xs. IsTiling (segments_of heap) heap.insertions xs) is tiled.tiling) placing (record { before = refl; behind = refl }));
    }

-- the law of an allocation: the heap stays tiled, whatever is asked for and whoever asks
pub alloc-tiled : (heap : PlainHeap) (participant : ℕ) (request : Request) (tag : Tag) → IsTiled heap → IsTiled (after_alloc participant request tag heap)
unfolding after_alloc
alloc-tiled heap participant request tag tiled = by_choice (chosen participant request heap) (chosen-is_choice heap participant request)
  where
    by_choice : (o : Option Span) → MatchOption o (HasNoChoice participant request heap) (IsChoice participant request heap) → IsTiled (after_choice o request tag heap)
    by_choice None none = tiled
    by_choice (Some r) choice =
        let (d, is) = choice-placed heap participant request r tiled choice in
        subst (λ (o : Option ℕ). IsTiled (placed r (unwrap_or o 0) request.size tag heap)) (sym is.in_it)
        (placed-tiled heap r d request.size tag tiled (eligible-candidate heap participant request r choice.among).1 is.placing)

-- what an allocation answers is the place in the choice, or there is nothing to choose
pub allocated-is : (heap : PlainHeap) (participant : ℕ) (request : Request) → IsTiled heap
    → MatchOption (allocated participant request heap) (HasNoChoice participant request heap) (IsPlacedIn participant request heap)
unfolding allocated
allocated-is heap participant request tiled = by_choice (chosen participant request heap) (chosen-is_choice heap participant request)
  where
    by_choice : (o : Option Span) → MatchOption o (HasNoChoice participant request heap) (IsChoice participant request heap)
        → MatchOption (option_and_then (place_in request) o) (HasNoChoice participant request heap) (IsPlacedIn participant request heap)
    by_choice None none = none
    by_choice (Some r) choice =
        let (d, is) = choice-placed heap participant request r tiled choice in
        subst (λ (o : Option ℕ). MatchOption o (HasNoChoice participant request heap) (IsPlacedIn participant request heap)) (sym is.in_it)
        (record { range = r; choice = choice; place = is.place })
