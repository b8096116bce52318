-- A free keeps the tiling: the other elements tile their own bytes, and the element is the gap between them.
use Rattle.std.proofs.Common.{◌≡◌, ℕ, ◌+◌, ◌<◌, ◌≤◌, Bool, true, false, cond, ◌&&◌, List, [], ◌∷◌, ◌++◌, map, refl, sym, ap, subst, ◌∙◌, arith, Option, Some, None, Contains, count_by, eqb, ltb, inl, inr, not}
use Rattle.std.proofs.lemmas.Bool.{and_right, cond_both, ne_eqb, le-leb, le-ltb, lt-ltb}
use Rattle.std.proofs.lemmas.List.Elements.{filter-append, Contains-append_cases, Contains-append_left, Contains-append_right}
use Rattle.std.specs.List.{AllByRecursion, find}
use Rattle.hp_base.specs.declared.span.Span.{Span}
use Rattle.hp_heap.specs.PlainHeap.{PlainHeap, Extent, end_of, freed, segments_of}
use Rattle.hp_heap.specs.Tiling.{IsTiling, IsTiled, IsElement, IsRisingFrom, IsApart, IsApartFrom, joins, in_range, in_segment, in_range_of, in_segment_of, has_stamp}
use Rattle.hp_heap.specs.Joining.{below, above, stretch_up, stretch_down, with_stretch, after_insertion, has_data_at, busy_at, is_zone_range, after_free, after_free_of}
use Rattle.hp_heap.proofs.RangeLemmas.{AllByRecursion-append, AllByRecursion-front, AllByRecursion-back, AllByRecursion-weaker, last_end, rising-append, rising-front, rising-back, rising_lower, rising_behind}
use Rattle.hp_heap.proofs.HistoryFacts.Counting.{count_by-append, count_by-cons}
use Rattle.hp_heap.proofs.AllocFacts.ChoiceLaw.{Contains-there, Contains-parts}
use Rattle.hp_heap.proofs.AllocFacts.AllocLaw.{parted}
use Rattle.hp_heap.proofs.CutFacts.Stretches.{with_stretch-parts}
use Rattle.hp_heap.proofs.CutFacts.GapTiling.{IsGap, gap_tiling}
use Rattle.hp_heap.proofs.Members.{AllByRecursion-each, count_map, find_some}
use Rattle.hp_heap.proofs.LaidLemmas.{one_page, element_of}

-- elements with a gap between them do not join
pub joins_gap : (p y : Span) → end_of p < y.addr → joins p y ≡ false
joins_gap p y gap = and_right _ _ (and_right _ _ (ne_eqb (end_of p) y.addr (λ same. omega (arith, same, gap))))

apart_skip_from : (p : Span) (xs : List Span) (r : Span) (ys : List Span) → 0 < r.whole → IsRisingFrom (end_of p) (xs ++ (r ∷ ys)) → IsApartFrom p (xs ++ (r ∷ ys)) → IsApartFrom p (xs ++ ys)
apart_skip_from p [] r [] some rising apart = tt
apart_skip_from p [] r (y ∷ ys) some rising apart = (joins_gap p y (omega (arith, rising.0, rising.1.0)), apart.1.1)
apart_skip_from p (z ∷ zs) r ys some rising apart = (apart.0, apart_skip_from z zs r ys some rising.1 apart.1)

-- elements without one of them are apart as they were
pub apart_skip : (from : ℕ) (xs : List Span) (r : Span) (ys : List Span) → 0 < r.whole → IsRisingFrom from (xs ++ (r ∷ ys)) → IsApart (xs ++ (r ∷ ys)) → IsApart (xs ++ ys)
apart_skip from [] r [] some rising apart = tt
apart_skip from [] r (y ∷ ys) some rising apart = apart.1
apart_skip from (x ∷ xs) r ys some rising apart = apart_skip_from x xs r ys some rising.1 apart

-- the bytes of an element
abbrev pub extent_of : Span → Extent
extent_of range = record { addr = range.addr; len = range.whole; list = range.list; page = range.page }

-- two tests at once, counted
both_tests : (a s : Bool) → cond {A = ℕ} (a && s) 1 0 ≡ cond {A = ℕ} s (cond {A = ℕ} a 1 0) 0
both_tests true true = refl
both_tests true false = refl
both_tests false true = refl
both_tests false false = refl

module _ (segments : List Extent) (insertions : ℕ) (xs ys : List Span) (r : Span) (tiling : IsTiling segments insertions (xs ++ (r ∷ ys))) where
  -- how many pass a test, with the element and without it
  counted : (p : Span → Bool) → count_by p (xs ++ (r ∷ ys)) ≡ count_by p (xs ++ ys) + cond (p r) 1 0
  counted p = omega (arith, count_by-append p xs (r ∷ ys), count_by-append p xs ys, count_by-cons p r ys)

  own : IsElement insertions r
  own = (AllByRecursion-back (IsElement insertions) xs (r ∷ ys) tiling.elements).0

  others : AllByRecursion (IsElement insertions) (xs ++ ys)
  others = AllByRecursion-append (IsElement insertions) xs ys (AllByRecursion-front (IsElement insertions) xs (r ∷ ys) tiling.elements) (AllByRecursion-back (IsElement insertions) xs (r ∷ ys) tiling.elements).1

  back : IsRisingFrom (last_end 0 xs) (r ∷ ys)
  back = rising-back 0 xs (r ∷ ys) tiling.rising

  -- the other elements tile their own bytes
  pub others_tiling : IsTiling (map extent_of (xs ++ ys)) insertions (xs ++ ys)
  others_tiling = record {
    rising = rising-append 0 xs ys (rising-front 0 xs (r ∷ ys) tiling.rising) (rising_lower (last_end 0 xs) (end_of r) ys (omega (arith, back.0)) back.1);
    once = λ byte. sym (count_map extent_of (in_segment byte) (xs ++ ys));
    single = λ byte. omega (arith, counted (in_range byte), tiling.single byte);
    one_list = λ l p byte. sym (count_map extent_of (in_segment_of l p byte) (xs ++ ys));
    elements = others;
    stamps = λ stamp. omega (arith, counted (has_stamp stamp), tiling.stamps stamp);
    apart = apart_skip 0 xs r ys (omega (arith, own.size.least)) tiling.rising tiling.apart;
  }

  -- and the element is the gap between them
  pub own_gap : AllByRecursion (λ q. q.list ≡ r.list → q.page ≡ r.page) (xs ++ ys) → IsGap (map extent_of (xs ++ ys)) segments insertions xs ys (freed (insertions + 1) r)
  own_gap pages = record {
    tiling = others_tiling;
    free = refl;
    stamp = refl;
    line = own.line;
    size = own.size;
    low = back.0;
    high = back.1;
    pages = pages;
    gain = λ byte. omega (arith, tiling.once byte, counted (in_range byte), count_map extent_of (in_segment byte) (xs ++ ys));
    gain_of = λ l p byte. omega (arith, tiling.one_list l p byte, counted (in_range_of l p byte), count_map extent_of (in_segment_of l p byte) (xs ++ ys), both_tests (in_range byte r) (eqb r.list l && eqb r.page p));
    fresh = λ byte from to. fresh byte from to;
  }
    where
      fresh : (byte : ℕ) → r.addr ≤ byte → byte < r.addr + r.whole → count_by (in_segment byte) (map extent_of (xs ++ ys)) ≡ 0
      fresh byte from to =
          let weight : cond {A = ℕ} (in_range byte r) 1 0 ≡ 1 = rw (le-leb r.addr byte from, lt-ltb byte (r.addr + r.whole) to) refl in
          omega (arith, tiling.single byte, counted (in_range byte), count_map extent_of (in_segment byte) (xs ++ ys), weight)

-- a stretch in the place of an element that begins at its start is one between the others
pub with_stretch-at : (x r : Span) (xs ys : List Span) → x.addr ≡ r.addr → AllByRecursion (λ z. z.addr < x.addr) xs → AllByRecursion (λ y. x.addr < y.addr) ys
    → with_stretch x (xs ++ (r ∷ ys)) ≡ (stretch_down xs x).left ++ stretch_up (stretch_down xs x).range ys
unfolding with_stretch
with_stretch-at x r xs ys same under over = without_it ∙ with_stretch-parts x xs ys under over
  where
    lower : below x.addr (xs ++ (r ∷ ys)) ≡ below x.addr (xs ++ ys)
    lower = filter-append (λ (z : Span). ltb z.addr x.addr) xs (r ∷ ys)
        ∙ rw (le-ltb r.addr x.addr (omega (arith, same))) (sym (filter-append (λ (z : Span). ltb z.addr x.addr) xs ys))

    upper : above x.addr (xs ++ (r ∷ ys)) ≡ above x.addr (xs ++ ys)
    upper = filter-append (λ (z : Span). ltb x.addr z.addr) xs (r ∷ ys)
        ∙ rw (le-ltb x.addr r.addr (omega (arith, same))) (sym (filter-append (λ (z : Span). ltb x.addr z.addr) xs ys))

    without_it : with_stretch x (xs ++ (r ∷ ys)) ≡ with_stretch x (xs ++ ys)
    without_it = rw (lower, upper) refl

-- an element among others, with what stands on both sides of it
pub record IsAmong (heap : PlainHeap) (r : Span) (xs ys : List Span) : Type 0 where
  pub ranges : heap.ranges ≡ xs ++ (r ∷ ys)
  pub tiling : IsTiling (segments_of heap) heap.insertions (xs ++ (r ∷ ys))
  pub element : IsElement heap.insertions r
  pub low : last_end 0 xs ≤ r.addr
  pub high : IsRisingFrom (end_of r) ys
  pub under : AllByRecursion (λ x. x.addr < r.addr) xs
  pub over : AllByRecursion (λ y. r.addr < y.addr) ys

pub among_at : (heap : PlainHeap) (r : Span) (xs ys : List Span) → IsTiled heap → Contains heap.ranges r → heap.ranges ≡ xs ++ (r ∷ ys) → IsAmong heap r xs ys
among_at heap r xs ys tiled has is =
    let part = parted heap r xs ys tiled is in
    let tiling = subst (λ zs. IsTiling (segments_of heap) heap.insertions zs) is tiled.tiling in
    let element = element_of heap r tiled has in
    let back = rising-back 0 xs (r ∷ ys) tiling.rising in
    record {
      ranges = is;
      tiling = tiling;
      element = element;
      low = back.0;
      high = back.1;
      under = part.below;
      over = AllByRecursion-weaker (λ (y : Span). end_of r ≤ y.addr) (λ y. r.addr < y.addr) (λ y behind. omega (arith, element.size.least)) ys (rising_behind (end_of r) ys back.1);
    }

pub among_ranges : (heap : PlainHeap) (r : Span) → IsTiled heap → Contains heap.ranges r → (xs : List Span) × (ys : List Span) × IsAmong heap r xs ys
among_ranges heap r tiled has = let (xs, ys, is) = Contains-parts heap.ranges r has in (xs, ys, among_at heap r xs ys tiled has is)

-- a member of the others is a member of all
pub Contains-others : (xs ys : List Span) (r q : Span) → Contains (xs ++ ys) q → Contains (xs ++ (r ∷ ys)) q
Contains-others xs ys r q has = elim (Contains-append_cases xs ys q has) [
  | inl front ↦ Contains-append_left xs (r ∷ ys) q front
  | inr back ↦ Contains-append_right xs (r ∷ ys) q (Contains-there r q ys back)
]

-- an element that becomes free leaves the heap tiled
pub insertion-tiled : (heap : PlainHeap) (r : Span) → IsTiled heap → Contains heap.ranges r → IsTiled (after_insertion r heap)
unfolding after_insertion
insertion-tiled heap r tiled has =
    let (xs, ys, among) = among_ranges heap r tiled has in
    let x = freed (heap.insertions + 1) r in
    let pages = AllByRecursion-each (λ (q : Span). q.list ≡ r.list → q.page ≡ r.page) (xs ++ ys)
    (λ q there. one_page heap r q tiled has (subst (λ zs. Contains zs q) (sym among.ranges) (Contains-others xs ys r q there))) in
    let ranges : with_stretch x heap.ranges ≡ (stretch_down xs x).left ++ stretch_up (stretch_down xs x).range ys =
    ap (λ zs. with_stretch x zs) among.ranges ∙ with_stretch-at x r xs ys refl among.under among.over in
    record {
      kind = tiled.kind;
      laid = tiled.laid;
      tiling = subst (λ zs. IsTiling (segments_of heap) (heap.insertions + 1) zs) (sym ranges)
          (gap_tiling (map extent_of (xs ++ ys)) (segments_of heap) heap.insertions xs ys x (own_gap (segments_of heap) heap.insertions xs ys r among.tiling pages));
    }

-- a free leaves the heap tiled
pub free-tiled : (address : ℕ) (zone : Bool) (heap : PlainHeap) → IsTiled heap → IsTiled (after_free address zone heap)
unfolding after_free busy_at
free-tiled address zone heap tiled = by_search (find (has_data_at address) heap.ranges) refl
  where
    by_search : (o : Option Span) → find (has_data_at address) heap.ranges ≡ o → IsTiled (after_free_of o zone heap)
    by_search None is = tiled
    by_search (Some r) is = cond_both (is_zone_range r && not zone) heap (after_insertion r heap) IsTiled
        (λ refused. tiled) (λ done. insertion-tiled heap r tiled (find_some (has_data_at address) heap.ranges r is).1)
