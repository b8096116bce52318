-- Bytes between elements that come to be free, joined with those that touch them: the tiling with them.
use Rattle.std.proofs.Common.{◌≡◌, ℕ, ◌+◌, ◌%◌, ◌<◌, ◌≤◌, ◌⊎◌, Bool, true, false, cond, ◌&&◌, List, [], ◌∷◌, ◌++◌, refl, sym, ap, subst, ◌∙◌, inl, inr, arith, append_assoc, count_by, eqb}
use Rattle.std.proofs.lemmas.Bool.{false≢true, cases_lt}
use Rattle.std.specs.List.{AllByRecursion}
use Rattle.hp_base.specs.declared.span.Span.{Span}
use Rattle.hp_base.specs.declared.span.SpanState.{SpanState}
use Rattle.hp_base.specs.declared.span.SpanState.TheVariants.{Free, Busy}
use Rattle.hp_heap.specs.PlainHeap.{Extent, end_of, is_free, is_free_state, stamp_of, is_within}
use Rattle.hp_heap.specs.Tiling.{IsTiling, IsElement, IsWholeSize, HasRoomFor, IsRisingFrom, IsApart, IsApartFrom, joins, in_segment, in_segment_of, has_stamp}
use Rattle.hp_heap.specs.Statistics.{total_bytes}
use Rattle.hp_heap.specs.Joining.{joined_up, joined_down, stretch_up, stretch_down, Stretch}
use Rattle.hp_heap.proofs.RangeLemmas.{AllByRecursion-back, AllByRecursion-weaker, last_end, rising-back, rising_behind, IsApart-back, IsApart-front}
use Rattle.hp_heap.proofs.HistoryFacts.Counting.{IsConsecutive, IsOfList}
use Rattle.hp_heap.proofs.AllocFacts.PieceLemmas.{joins_second, apart_from_like, apart_middle}
use Rattle.hp_heap.proofs.CutFacts.Stretches.{joint, stretch_up-once, down_once, stretch_down-once, snoc_cases}
use Rattle.hp_heap.proofs.FreeFacts.JoinedTiling.{joined_tiling}

-- bytes between elements below and above them, which come to be free
pub record IsGap (segments more : List Extent) (insertions : ℕ) (xs ys : List Span) (range : Span) : Type 0 where
  pub tiling : IsTiling segments insertions (xs ++ ys)
  pub free : is_free range ≡ true
  pub stamp : stamp_of range ≡ insertions + 1
  pub line : range.addr % 64 ≡ 0
  pub size : IsWholeSize range.whole
  pub low : last_end 0 xs ≤ range.addr
  pub high : IsRisingFrom (end_of range) ys
  pub pages : AllByRecursion (λ q. q.list ≡ range.list → q.page ≡ range.page) (xs ++ ys)
  pub gain : (byte : ℕ) → count_by (in_segment byte) more ≡ count_by (in_segment byte) segments + cond (is_within range.addr range.whole byte) 1 0
  pub gain_of : (l p byte : ℕ) → count_by (in_segment_of l p byte) more ≡ count_by (in_segment_of l p byte) segments + cond (eqb range.list l && eqb range.page p) (cond (is_within range.addr range.whole byte) 1 0) 0
  pub fresh : (byte : ℕ) → range.addr ≤ byte → byte < range.addr + range.whole → count_by (in_segment byte) segments ≡ 0

-- the bytes with the element below them, where it joins
pub record IsLowered (insertions : ℕ) (before lows : List Span) (range lowered : Span) : Type 0 where
  pub free : is_free lowered ≡ true
  pub list : lowered.list ≡ range.list
  pub page : lowered.page ≡ range.page
  pub stamp : stamp_of lowered ≡ insertions + 1
  pub end : end_of lowered ≡ end_of range
  pub row : IsConsecutive lowered.addr (lows ++ (range ∷ []))
  pub total : total_bytes (lows ++ (range ∷ [])) ≡ lowered.whole
  pub of_list : AllByRecursion (IsOfList range.list range.page) (lows ++ (range ∷ []))
  pub from : last_end 0 before ≤ lowered.addr
  pub line : lowered.addr % 64 ≡ 0
  pub size : IsWholeSize lowered.whole
  pub apart : IsApart (before ++ (lowered ∷ []))

row_more : (from : ℕ) (lows : List Span) (x y : Span) → end_of x ≡ y.addr → IsConsecutive from (lows ++ (x ∷ [])) → IsConsecutive from (lows ++ (x ∷ y ∷ []))
row_more from [] x y touch row = (row.0, (sym touch, tt))
row_more from (z ∷ lows) x y touch row = (row.0, row_more (end_of z) lows x y touch row.1)

total-append : (xs ys : List Span) → total_bytes (xs ++ ys) ≡ total_bytes xs + total_bytes ys
total-append xs ys = Rattle.std.proofs.lemmas.List.Sums.sum_by-append (λ (x : Span). x.whole) xs ys

of_list_more : (list page : ℕ) (lows : List Span) (x y : Span) → IsOfList list page y → AllByRecursion (IsOfList list page) (lows ++ (x ∷ [])) → AllByRecursion (IsOfList list page) (lows ++ (x ∷ y ∷ []))
of_list_more list page [] x y of_list all = (all.0, (of_list, tt))
of_list_more list page (z ∷ lows) x y of_list all = (all.0, of_list_more list page lows x y of_list all.1)

-- an element that begins like another is apart from those before as that is
apart_grown : (before : List Span) (x j : Span) (after : List Span) → is_free x ≡ is_free j → x.list ≡ j.list → x.addr ≡ j.addr → IsApartFrom j after → IsApart (before ++ (x ∷ [])) → IsApart (before ++ (j ∷ after))
apart_grown before x j after free list addr behind apart =
    apart_middle (x ∷ []) (j ∷ after) before (λ _. behind) (λ p touch. (sym (joins_second p x j free list addr) ∙ touch.0, behind)) apart

apart_push_from : (p : Span) (ps : List Span) (q x : Span) → joins q x ≡ false → IsApartFrom p (ps ++ (q ∷ [])) → IsApartFrom p ((ps ++ (q ∷ [])) ++ (x ∷ []))
apart_push_from p [] q x touch apart = (apart.0, (touch, tt))
apart_push_from p (z ∷ ps) q x touch apart = (apart.0, apart_push_from z ps q x touch apart.1)

apart_push : (ps : List Span) (q x : Span) → joins q x ≡ false → IsApart (ps ++ (q ∷ [])) → IsApart ((ps ++ (q ∷ [])) ++ (x ∷ []))
apart_push [] q x touch apart = (touch, tt)
apart_push (p ∷ ps) q x touch apart = apart_push_from p ps q x touch apart

-- a free element has no pad to make room for
free_room : (x : Span) → is_free x ≡ true → HasRoomFor x.whole x.state
free_room x free = by_state x.state free
  where
    by_state : (state : SpanState) → is_free_state state ≡ true → HasRoomFor x.whole state
    by_state (Free stamp) is = tt
    by_state (Busy pad size tag) is = absurd (false≢true is)

stamp_weight : (insertions : ℕ) (j : Span) → is_free j ≡ true → stamp_of j ≡ insertions + 1 → (stamp : ℕ) → cond {A = ℕ} (has_stamp stamp j) 1 0 ≡ cond {A = ℕ} (eqb (insertions + 1) stamp) 1 0
stamp_weight insertions j free is stamp = rw (free, is) refl

module _ (segments more : List Extent) (insertions : ℕ) (xs ys : List Span) (range : Span) (gap : IsGap segments more insertions xs ys range) where
  list_of : (lowered : Span) (of : List Span) → range.list ≡ lowered.list → range.page ≡ lowered.page → AllByRecursion (IsOfList range.list range.page) of → AllByRecursion (IsOfList lowered.list lowered.page) of
  list_of lowered [] list page all = tt
  list_of lowered (x ∷ of) list page all = ((all.0.0 ∙ list, all.0.1 ∙ page), list_of lowered of list page all.1)

  -- then with the element above them, where it joins
  up_tiling : (before lows rest : List Span) (lowered : Span) → IsLowered insertions before lows range lowered
      → IsTiling segments insertions (before ++ (lows ++ rest)) → IsRisingFrom (end_of range) rest → AllByRecursion (λ q. q.list ≡ range.list → q.page ≡ range.page) rest
      → IsTiling more (insertions + 1) (before ++ stretch_up lowered rest)
  up_tiling before lows [] lowered is tiling high pages =
      joined_tiling segments more insertions before lows [] [] range lowered (record {
        tiling = tiling;
        row = is.row;
        total = is.total;
        of_list = list_of lowered (lows ++ (range ∷ [])) (sym is.list) (sym is.page) is.of_list;
        element = record { line = is.line; size = is.size; busy = free_room lowered is.free; stamp = omega (arith, is.stamp) };
        stamp = stamp_weight insertions lowered is.free is.stamp;
        from = is.from;
        to = tt;
        apart = is.apart;
        gain = gap.gain;
        gain_of = gap.gain_of;
        fresh = gap.fresh;
      })
  up_tiling before lows (y ∷ rest) lowered is tiling high pages = by_joint (joins lowered y) refl
    where
      apart_y : IsApartFrom y rest
      apart_y = IsApart-back lows (y ∷ rest) (IsApart-back before (lows ++ (y ∷ rest)) tiling.apart)

      y_element : IsElement insertions y
      y_element = (AllByRecursion-back (IsElement insertions) lows (y ∷ rest) (AllByRecursion-back (IsElement insertions) before (lows ++ (y ∷ rest)) tiling.elements)).0

      by_joint : (b : Bool) → joins lowered y ≡ b → IsTiling more (insertions + 1) (before ++ stretch_up lowered (y ∷ rest))
      by_joint true touch =
          let facts = joint lowered y touch in
          let y_list : y.list ≡ range.list = sym facts.list ∙ is.list in
          let reach : end_of range ≡ y.addr = sym is.end ∙ facts.touch in
          let more_total : total_bytes (lows ++ (range ∷ y ∷ [])) ≡ lowered.whole + y.whole =
          omega (arith, total-append lows (range ∷ y ∷ []), total-append lows (range ∷ []), is.total) in
          let end : end_of (joined_up lowered y) ≡ end_of y = omega (arith, facts.touch) in
          let behind : IsApartFrom (joined_up lowered y) rest = apart_from_like y (joined_up lowered y) rest (facts.free_second ∙ sym facts.free) (sym facts.list) (sym end) apart_y in
          subst (λ zs. IsTiling more (insertions + 1) (before ++ zs)) (sym (stretch_up-once true lowered y rest touch apart_y))
          (joined_tiling segments more insertions before lows (y ∷ []) rest range (joined_up lowered y) (record {
            tiling = tiling;
            row = row_more lowered.addr lows range y reach is.row;
            total = more_total;
            of_list = list_of (joined_up lowered y) (lows ++ (range ∷ y ∷ [])) (sym is.list) (sym is.page) (of_list_more range.list range.page lows range y (y_list, pages.0 y_list) is.of_list);
            element = record { line = is.line; size = record { lines = omega (arith, is.size.lines, y_element.size.lines); least = omega (arith, is.size.least) }; busy = free_room (joined_up lowered y) is.free; stamp = omega (arith, is.stamp) };
            stamp = stamp_weight insertions (joined_up lowered y) is.free is.stamp;
            from = is.from;
            to = subst (λ (e : ℕ). IsRisingFrom e rest) (sym end) high.1;
            apart = apart_grown before lowered (joined_up lowered y) rest refl refl refl behind is.apart;
            gain = gap.gain;
            gain_of = gap.gain_of;
            fresh = gap.fresh;
          }))
      by_joint false touch =
          subst (λ zs. IsTiling more (insertions + 1) (before ++ zs)) (sym (stretch_up-once false lowered y rest touch apart_y))
          (joined_tiling segments more insertions before lows [] (y ∷ rest) range lowered (record {
            tiling = tiling;
            row = is.row;
            total = is.total;
            of_list = list_of lowered (lows ++ (range ∷ [])) (sym is.list) (sym is.page) is.of_list;
            element = record { line = is.line; size = is.size; busy = free_room lowered is.free; stamp = omega (arith, is.stamp) };
            stamp = stamp_weight insertions lowered is.free is.stamp;
            from = is.from;
            to = subst (λ (e : ℕ). IsRisingFrom e (y ∷ rest)) (sym is.end) high;
            apart = apart_grown before lowered lowered (y ∷ rest) refl refl refl (touch, apart_y) is.apart;
            gain = gap.gain;
            gain_of = gap.gain_of;
            fresh = gap.fresh;
          }))

  range_row : IsConsecutive range.addr (range ∷ [])
  range_row = (refl, tt)

  range_alone : total_bytes (range ∷ []) ≡ range.whole
  range_alone = omega arith

  -- nothing below joins
  alone : (before : List Span) → last_end 0 before ≤ range.addr → IsApart (before ++ (range ∷ [])) → IsLowered insertions before [] range range
  alone before from apart = record { free = gap.free; list = refl; page = refl; stamp = gap.stamp; end = refl; row = range_row; total = range_alone; of_list = ((refl, refl), tt); from = from; line = gap.line; size = gap.size; apart = apart }

  lowest : IsTiling segments insertions ys → AllByRecursion (λ q. q.list ≡ range.list → q.page ≡ range.page) ys → IsTiling more (insertions + 1) (stretch_up range ys)
  lowest tiling pages = up_tiling [] [] ys range (alone [] (omega arith) tt) tiling gap.high pages

-- first with the element below them, where it joins
down_tiling : (segments more : List Extent) (insertions : ℕ) (ps : List Span) (q : Span) (ys : List Span) (range : Span) → IsGap segments more insertions (ps ++ (q ∷ [])) ys range
    → (b : Bool) → joins q range ≡ b → IsTiling more (insertions + 1) ((down_once b ps q range).left ++ stretch_up (down_once b ps q range).range ys)
down_tiling segments more insertions ps q ys range gap true touch =
    let facts = joint q range touch in
    let tiling : IsTiling segments insertions (ps ++ ((q ∷ []) ++ ys)) = subst (λ zs. IsTiling segments insertions zs) (append_assoc ps (q ∷ []) ys) gap.tiling in
    let q_element = (AllByRecursion-back (IsElement insertions) ps (q ∷ ys) tiling.elements).0 in
    let pages = AllByRecursion-back (λ (z : Span). z.list ≡ range.list → z.page ≡ range.page) ps (q ∷ ys) (subst (λ zs. AllByRecursion (λ (z : Span). z.list ≡ range.list → z.page ≡ range.page) zs) (append_assoc ps (q ∷ []) ys) gap.pages) in
    up_tiling segments more insertions (ps ++ (q ∷ [])) ys range gap ps (q ∷ []) ys (joined_down q range) (record {
      free = facts.free_second;
      list = facts.list;
      page = pages.0 facts.list;
      stamp = gap.stamp;
      end = omega (arith, facts.touch);
      row = (refl, (sym facts.touch, tt));
      total = omega (arith, facts.touch);
      of_list = ((facts.list, pages.0 facts.list), ((refl, refl), tt));
      from = (rising-back 0 ps (q ∷ ys) tiling.rising).0;
      line = q_element.line;
      size = record { lines = omega (arith, q_element.size.lines, gap.size.lines); least = omega (arith, q_element.size.least) };
      apart = apart_grown ps q (joined_down q range) [] (facts.free ∙ sym facts.free_second) refl refl tt (IsApart-front (ps ++ (q ∷ [])) ys gap.tiling.apart);
    })
    tiling gap.high pages.1
down_tiling segments more insertions ps q ys range gap false touch =
    let pages = AllByRecursion-back (λ (z : Span). z.list ≡ range.list → z.page ≡ range.page) (ps ++ (q ∷ [])) ys gap.pages in
    up_tiling segments more insertions (ps ++ (q ∷ [])) ys range gap (ps ++ (q ∷ [])) [] ys range
    (alone segments more insertions (ps ++ (q ∷ [])) ys range gap (ps ++ (q ∷ [])) gap.low (apart_push ps q range touch (IsApart-front (ps ++ (q ∷ [])) ys gap.tiling.apart)))
    gap.tiling gap.high pages

-- bytes between elements, joined with those that touch them, tile the segments with them
pub gap_tiling : (segments more : List Extent) (insertions : ℕ) (xs ys : List Span) (range : Span) → IsGap segments more insertions xs ys range
    → IsTiling more (insertions + 1) ((stretch_down xs range).left ++ stretch_up (stretch_down xs range).range ys)
gap_tiling segments more insertions xs ys range gap = by_last (snoc_cases xs)
  where
    by_last : (xs ≡ []) ⊎ ((ps : List Span) × (q : Span) × (xs ≡ ps ++ (q ∷ []))) → IsTiling more (insertions + 1) ((stretch_down xs range).left ++ stretch_up (stretch_down xs range).range ys)
    by_last (inl none) = subst (λ zs. IsTiling more (insertions + 1) ((stretch_down zs range).left ++ stretch_up (stretch_down zs range).range ys)) (sym none)
        (let at = subst (λ zs. IsGap segments more insertions zs ys range) none gap in lowest segments more insertions [] ys range at at.tiling at.pages)
    by_last (inr (ps, q, is)) = subst (λ zs. IsTiling more (insertions + 1) ((stretch_down zs range).left ++ stretch_up (stretch_down zs range).range ys)) (sym is)
        (let at = subst (λ zs. IsGap segments more insertions zs ys range) is gap in
        subst (λ (s : Stretch). IsTiling more (insertions + 1) (s.left ++ stretch_up s.range ys)) (sym (stretch_down-once (joins q range) ps q range refl (IsApart-front (ps ++ (q ∷ [])) ys at.tiling.apart)))
        (down_tiling segments more insertions ps q ys range at (joins q range) refl))

-- elements that rise, parted at an address
pub record IsPartedAt (all : List Span) (at : ℕ) (xs ys : List Span) : Type 0 where
  pub ranges : all ≡ xs ++ ys
  pub below : AllByRecursion (λ x. x.addr < at) xs
  pub behind : AllByRecursion (λ y. at ≤ y.addr) ys

pub parted_at : (at from : ℕ) (ranges : List Span) → IsRisingFrom from ranges → (xs : List Span) × (ys : List Span) × IsPartedAt ranges at xs ys
parted_at at from [] rising = ([], [], record { ranges = refl; below = tt; behind = tt })
parted_at at from (r ∷ rs) rising = by_order (cases_lt r.addr at) (parted_at at (end_of r) rs rising.1)
  where
    by_order : (r.addr < at) ⊎ (at ≤ r.addr) → (xs : List Span) × (ys : List Span) × IsPartedAt rs at xs ys → (xs : List Span) × (ys : List Span) × IsPartedAt (r ∷ rs) at xs ys
    by_order (inl lower) (xs, ys, is) = (r ∷ xs, ys, record { ranges = ap (λ zs. r ∷ zs) is.ranges; below = (lower, is.below); behind = is.behind })
    by_order (inr upper) _ = (
      [],
      r ∷ rs,
      record {
        ranges = refl;
        below = tt;
        behind = (upper, AllByRecursion-weaker (λ (y : Span). end_of r ≤ y.addr) (λ y. at ≤ y.addr) (λ y behind. omega arith) rs (rising_behind (end_of r) rs rising.1));
      },
    )
