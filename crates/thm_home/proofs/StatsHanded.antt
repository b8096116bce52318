-- What a participant read of the statistics of one heap on its way, where pens and passes have met.
use Rattle.std.proofs.Common.{◌≡◌, ◌⊎◌, ◌∙◌, ℕ, ◌+◌, ◌<◌, ◌≤◌, List, [], ◌∷◌, ◌++◌, append_assoc, filter_map, length, map, Option, Some, None, inl, inr, refl, ap, sym, subst, arith}
use Rattle.core.specs.List.{cons_option}
use Rattle.std.specs.List.{All, slice_get}
use Rattle.std.proofs.lemmas.List.Elements.{All-cons, All-nil}
use Rattle.hp_chair.specs.Publishing.{CountsRise}
use Rattle.hp_chair.specs.Steps.{pairs_in}
use Rattle.hp_hall.specs.HeapPairs.{ArePairsOf}
use Rattle.hp_hall.specs.Mail.{MailStep}
use Rattle.hp_heap.specs.History.{HeapView, opening_of}
use Rattle.hp_heap.specs.PlainHeap.{PlainHeap}
use Rattle.hp_heap.specs.Statistics.{statistics_of}
use Rattle.hp_heap.specs.declared.entry.Entry.{Entry}
use Rattle.hp_proc.specs.Courses.{calls_in}
use Rattle.hp_proc.specs.Doing.{Counted, Done}
use Rattle.hp_proc.specs.Doing.Done.{StatsRead}
use Rattle.hp_proc.specs.Handed.{AreStatisticsOf, AreStatsHanded, HoldCalls, counted_read}
use Rattle.hp_proc.specs.Handing.{counted_in}
use Rattle.hp_proc.specs.Histories.{entries_for}
use Rattle.hp_stats.specs.Pairs.{AreAmong, IsOneOf, no_pair}
use Rattle.hp_stats.specs.StatViews.{PenView}
use Rattle.hp_stats.specs.declared.stat_pair.StatPair.{StatPair}
use Rattle.thm_run.proofs.Rising.{Rises, seen_rising}
use Rattle.thm_run.proofs.StatsFronts.{read_is}
use Rattle.thm_moved.proofs.OwnEntries.{AreAbove, all_above, own_above, stands_before}
use Rattle.thm_home.proofs.GivenFronts.{GoesOnWith}
use Rattle.thm_home.proofs.ReadPlaces.{IsReadAt, pair_among}

-- OWN ENTRIES

-- a history goes on from a front that is not longer than so many entries, and of what came after that the participant's own are later calls
pub record IsOfFront (who index : ℕ) (first rest : List Done) (entries : ℕ) (whole : List Entry) : Type 0 where
  pub front : List Entry
  pub own : List Entry
  pub short : length front ≤ entries
  pub goes : GoesOnWith who own front whole
  pub late : own ≡ entries_for who index (1 + length (calls_in first)) (calls_in rest)

-- so the participant's earlier calls stand in the front
pub hold_calls : (who index : ℕ) (first rest : List Done) (entries : ℕ) (whole : List Entry) → IsOfFront who index first rest entries whole
    → HoldCalls whole entries who (length (calls_in first))
hold_calls who index first rest entries whole of place entry there its few =
    let calls : ℕ = length (calls_in first) in
    let above : AreAbove who calls of.goes.more =
    all_above who calls of.goes.more
    (subst (AreAbove who calls) (sym (of.goes.owned ∙ of.late)) (own_above who index calls (1 + calls) (calls_in rest) (omega arith))) in
    let before =
    stands_before who calls place of.front of.goes.more entry above
    (subst (λ (history : List Entry). slice_get history place ≡ Some entry) of.goes.is there) its few in
    let short = of.short in
    omega (arith, before, short)

-- WHAT A PAIR SAYS

-- before its first entry a heap has nothing
nothing_yet : (plain : PlainHeap) → statistics_of (opening_of plain) ≡ no_pair.stats
unfolding statistics_of
nothing_yet plain = refl

-- a pair that was published, or that with count 0, has the statistics of a front
pub pair_says : (heap : HeapView) (pen : PenView) (pair : StatPair) (counted : Counted) → ArePairsOf heap pen → IsOneOf pen.published pair
    → counted ≡ counted_in pair → AreStatisticsOf heap counted
pair_says heap pen pair counted pairs (inl none) is =
    let its : counted ≡ counted_in no_pair = is ∙ ap counted_in none in
    subst (AreStatisticsOf heap) (sym its) (record { within = omega arith; stats = sym (nothing_yet heap.plain) })
pair_says heap pen pair counted pairs (inr among) is =
    let its = pairs pair among in
    subst (AreStatisticsOf heap) (sym is) (record { within = its.count; stats = its.stats })

-- ALL THAT IT READ

module _ (who : ℕ) (heap : HeapView) (pen : PenView) (trace : List Done) (steps : List MailStep) (pairs : ArePairsOf heap pen)
    (published : AreAmong pen.published (pairs_in heap.plain.index steps)) (rises : CountsRise steps)
    (reads : (counted : Counted) (first rest : List Done) → trace ≡ first ++ StatsRead heap.plain.index counted ∷ rest
    → IsReadAt who heap.plain.index first rest counted steps) where
  abbrev index : ℕ
  index = heap.plain.index

  abbrev read_in : List Done → List Counted
  read_in done = filter_map (counted_read index) done

  abbrev entries_in : List Done → List ℕ
  entries_in done = map (λ (counted : Counted). counted.entries) (read_in done)

  -- each of a front
  front_of : (counted : Counted) (first rest : List Done) → trace ≡ first ++ StatsRead index counted ∷ rest → AreStatisticsOf heap counted
  front_of counted first rest is =
      let at = reads counted first rest is in
      pair_says heap pen at.pair counted pairs
      (published at.pair (pair_among index steps at.before at.behind at.pair at.steps_are)) at.is

  fronts_on : (first rest : List Done) → trace ≡ first ++ rest → All (AreStatisticsOf heap) (read_in rest)
  fronts_on first [] is = All-nil (AreStatisticsOf heap)
  fronts_on first (done ∷ rest) is =
      by_read (fronts_on (first ++ done ∷ []) rest (is ∙ sym (append_assoc first (done ∷ []) rest))) (counted_read index done) refl
    where
      by_read : All (AreStatisticsOf heap) (read_in rest) → (read : Option Counted) → counted_read index done ≡ read
          → All (AreStatisticsOf heap) (read_in (done ∷ rest))
      by_read further None none =
          subst (λ (read : Option Counted). All (AreStatisticsOf heap) (cons_option read (read_in rest))) (sym none) further
      by_read further (Some counted) some =
          subst (λ (read : Option Counted). All (AreStatisticsOf heap) (cons_option read (read_in rest))) (sym some)
          (All-cons (AreStatisticsOf heap) counted (read_in rest)
          (front_of counted first rest (is ∙ ap (λ (one : Done). first ++ one ∷ rest) (read_is index done counted some))) further)

  -- and they rise: nothing was read so far, or that
  record WasRead (first : List Done) (floor : ℕ) : Type 0 where
    counted : Counted
    early : List Done
    between : List Done
    is : first ≡ early ++ StatsRead index counted ∷ between
    count : counted.entries ≡ floor

  abbrev IsFloor : List Done → ℕ → Type 0
  IsFloor first floor = (floor ≡ 0) ⊎ WasRead first floor

  floor_on : (first : List Done) (done : Done) (floor : ℕ) → IsFloor first floor → IsFloor (first ++ done ∷ []) floor
  floor_on first done floor (inl none) = inl none
  floor_on first done floor (inr was) =
      inr (record {
        counted = was.counted;
        early = was.early;
        between = was.between ++ done ∷ [];
        is = ap (λ (l : List Done). l ++ done ∷ []) was.is
            ∙ append_assoc was.early (StatsRead index was.counted ∷ was.between) (done ∷ []);
        count = was.count;
      })

  floor_below : (first rest : List Done) (floor : ℕ) → trace ≡ first ++ rest → IsFloor first floor → floor ≤ length heap.history
  floor_below first rest floor is (inl none) = omega (arith, none)
  floor_below first rest floor is (inr was) =
      let within =
      (front_of was.counted was.early (was.between ++ rest)
      (is ∙ (ap (λ (l : List Done). l ++ rest) was.is ∙ append_assoc was.early (StatsRead index was.counted ∷ was.between) rest))).within in
      let count = was.count in
      omega (arith, within, count)

  floor_under : (counted : Counted) (first rest : List Done) (floor : ℕ) → trace ≡ first ++ StatsRead index counted ∷ rest
      → IsFloor first floor → floor ≤ counted.entries
  floor_under counted first rest floor is (inl none) = omega (arith, none)
  floor_under counted first rest floor is (inr was) =
      let at = reads counted first rest is in
      let shown = at.shown was.counted was.early was.between was.is in
      let least = rises at.before at.behind index at.pair at.steps_are shown.pair shown.among in
      let here = ap (λ (c : Counted). c.entries) at.is in
      let early = ap (λ (c : Counted). c.entries) shown.is in
      let count = was.count in
      omega (arith, least, here, early, count)

  rises_on : (first rest : List Done) → trace ≡ first ++ rest → (floor : ℕ) → IsFloor first floor
      → Rises floor (length heap.history) (entries_in rest)
  rises_on first [] is floor its = floor_below first [] floor is its
  rises_on first (done ∷ rest) is floor its =
      by_read (rises_on (first ++ done ∷ []) rest (is ∙ sym (append_assoc first (done ∷ []) rest))) (counted_read index done) refl
    where
      by_read : ((floor : ℕ) → IsFloor (first ++ done ∷ []) floor → Rises floor (length heap.history) (entries_in rest))
          → (read : Option Counted) → counted_read index done ≡ read → Rises floor (length heap.history) (entries_in (done ∷ rest))
      by_read on None none =
          subst (λ (read : Option Counted). Rises floor (length heap.history) (map (λ (counted : Counted). counted.entries)
          (cons_option read (read_in rest)))) (sym none) (on floor (floor_on first done floor its))
      by_read on (Some counted) some =
          let done_is : done ≡ StatsRead index counted = read_is index done counted some in
          let here : trace ≡ first ++ StatsRead index counted ∷ rest = is ∙ ap (λ (one : Done). first ++ one ∷ rest) done_is in
          subst (λ (read : Option Counted). Rises floor (length heap.history) (map (λ (counted : Counted). counted.entries)
          (cons_option read (read_in rest)))) (sym some) (
            floor_under counted first rest floor here its,
            on counted.entries
                (inr (record {
                  counted = counted;
                  early = first;
                  between = [];
                  is = ap (λ (one : Done). first ++ one ∷ []) done_is;
                  count = refl;
                })),
          )

  -- so they are handed
  pub stats_handed : ((counted : Counted) (first rest : List Done) → IsReadAt who heap.plain.index first rest counted steps
      → IsOfFront who heap.plain.index first rest counted.entries heap.history) → AreStatsHanded who trace heap
  stats_handed of = record {
    fronts = fronts_on [] trace refl;
    rising = (seen_rising (length heap.history) (entries_in trace) (rises_on [] trace refl 0 (inl refl))).rising;
    own = λ first counted comes.
        hold_calls who index first comes.0 counted.entries heap.history
        (of counted first comes.0 (reads counted first comes.0 comes.1));
  }
