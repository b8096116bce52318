-- The sums over the elements: their parts, what an edit makes of them, and their bounds.
use Rattle.std.proofs.Common.{◌≡◌, ℕ, ◌+◌, ◌-◌, ◌<◌, ◌≤◌, ◌^◌, Bool, true, false, not, cond, List, [], ◌∷◌, ◌++◌, length, count_by, refl, ap, ◌∙◌, arith}
use Rattle.std.proofs.lemmas.List.Elements.{filter-append}
use Rattle.std.proofs.lemmas.List.Sums.{sum_by-append, sum_by-cons}
use Rattle.std.specs.List.{filter}
use Rattle.hp_base.specs.declared.span.Span.{Span}
use Rattle.hp_base.specs.declared.stats.Stats.{Stats}
use Rattle.hp_chain.specs.Chain.{Keyed}
use Rattle.hp_elem.specs.declared.node.Node.{Node}
use Rattle.hp_elem.specs.Items.{Items, Stands}
use Rattle.hp_elem.specs.Order.{IsRising}
use Rattle.hp_heap.specs.declared.totals.Totals.{Totals}
use Rattle.hp_heap.specs.PlainHeap.{is_free}
use Rattle.hp_heap.specs.Statistics.{total_bytes, greatest_whole, statistics_of_ranges}
use Rattle.hp_heap.specs.Headers.{spans_of}
use Rattle.hp_heap.specs.Totals.{bytes, free_bytes, free_count, AreTotals}
use Rattle.hp_heap.proofs.FreeFacts.NewestLemmas.{AreBusy}
use Rattle.hp_heap.proofs.AllocFacts.SplitLemmas.{spans-append}
use Rattle.hp_heap.proofs.HistoryFacts.Counting.{count_by-append, count_by-cons}

-- free bytes are among all bytes
free_by : (x : Span) (xs : List Span) (b : Bool) → total_bytes (filter is_free xs) ≤ total_bytes xs → total_bytes (cond b (x ∷ filter is_free xs) (filter is_free xs)) ≤ x.whole + total_bytes xs
free_by x xs true within = omega (arith, sum_by-cons (λ (y : Span). y.whole) x (filter is_free xs))
free_by x xs false within = omega arith

pub free_within : (xs : List Span) → total_bytes (filter is_free xs) ≤ total_bytes xs
free_within [] = omega arith
free_within (x ∷ xs) = omega (arith, free_by x xs (is_free x) (free_within xs), sum_by-cons (λ (y : Span). y.whole) x xs)

-- the sums of elements in two parts
bytes-append : (xs ys : Items) → bytes (xs ++ ys) ≡ bytes xs + bytes ys
bytes-append xs ys = ap total_bytes (spans-append xs ys) ∙ sum_by-append (λ (y : Span). y.whole) (spans_of xs) (spans_of ys)

free-append : (xs ys : Items) → free_bytes (xs ++ ys) ≡ free_bytes xs + free_bytes ys
free-append xs ys =
    ap (λ (zs : List Span). total_bytes (filter is_free zs)) (spans-append xs ys)
    ∙ ap total_bytes (filter-append is_free (spans_of xs) (spans_of ys))
    ∙ sum_by-append (λ (y : Span). y.whole) (filter is_free (spans_of xs)) (filter is_free (spans_of ys))

count-append : (xs ys : Items) → free_count (xs ++ ys) ≡ free_count xs + free_count ys
count-append xs ys = ap (λ (zs : List Span). count_by is_free zs) (spans-append xs ys) ∙ count_by-append is_free (spans_of xs) (spans_of ys)

-- the sums of a free element, and of busy ones
pub one_free : (e : Keyed Span) → is_free e.value ≡ true → (free_bytes (e ∷ []) ≡ e.value.whole) × (free_count (e ∷ []) ≡ 1)
one_free e free =
    let weight : cond {A = ℕ} (is_free e.value) 1 0 ≡ 1 = ap (λ (b : Bool). cond b 1 0) free in
    (omega (arith, ap (λ (b : Bool). total_bytes (cond b (e.value ∷ []) [])) free), omega (arith, weight))

pub none_free : (es : Items) → AreBusy es → (free_bytes es ≡ 0) × (free_count es ≡ 0)
none_free [] busy = (refl, refl)
none_free (e ∷ es) busy =
    let rest = none_free es busy.1 in
    let weight : cond {A = ℕ} (is_free e.value) 1 0 ≡ 0 = ap (λ (b : Bool). cond b 1 0) busy.0 in (
      ap (λ (b : Bool). total_bytes (cond b (e.value ∷ filter is_free (spans_of es)) (filter is_free (spans_of es)))) busy.0 ∙ rest.0,
      omega (arith, count_by-cons is_free e.value (spans_of es), weight, rest.1),
    )

-- the sums after an edit that puts elements in the place of some
pub record IsMoved (totals new : Totals) (es more : Items) : Type 0 where
  pub total : new.total + bytes es ≡ totals.total + bytes more
  pub free : new.free + free_bytes es ≡ totals.free + free_bytes more
  pub frees : new.frees + free_count es ≡ totals.frees + free_count more

pub totals_moved : (totals new : Totals) (old now xs es more ys : Items) → AreTotals old totals → old ≡ xs ++ (es ++ ys) → now ≡ xs ++ (more ++ ys) → IsMoved totals new es more → AreTotals now new
totals_moved totals new old now xs es more ys sums was is moved = record {
  total = omega (arith, moved.total, sums.total, ap bytes was, ap bytes is, bytes-append xs (es ++ ys), bytes-append es ys, bytes-append xs (more ++ ys), bytes-append more ys);
  free = omega (arith, moved.free, sums.free, ap free_bytes was, ap free_bytes is, free-append xs (es ++ ys), free-append es ys, free-append xs (more ++ ys), free-append more ys);
  frees = omega (arith, moved.frees, sums.frees, ap free_count was, ap free_count is, count-append xs (es ++ ys), count-append es ys, count-append xs (more ++ ys), count-append more ys);
}

-- busy elements in the place of busy ones
pub totals_busy : (totals new : Totals) (old now xs es more ys : Items) → AreTotals old totals → old ≡ xs ++ (es ++ ys) → now ≡ xs ++ (more ++ ys) → AreBusy es → AreBusy more
    → new.total + bytes es ≡ totals.total + bytes more → new.free ≡ totals.free → new.frees ≡ totals.frees → AreTotals now new
totals_busy totals new old now xs es more ys sums was is busy now_busy total free frees =
    let gone = none_free es busy in
    let come = none_free more now_busy in
    totals_moved totals new old now xs es more ys sums was is (record { total = total; free = omega (arith, free, gone.0, come.0); frees = omega (arith, frees, gone.1, come.1) })

-- the bounds of the sums: elements that rise have a byte each at least, and end by the greatest end
rising_bytes : (from : ℕ) (items : Items) → IsRising from items → (from + bytes items ≤ 2 ^ 63) × (free_count items ≤ bytes items)
rising_bytes from [] rising = (omega (arith, rising), omega arith)
rising_bytes from (e ∷ es) rising =
    let rest = rising_bytes (e.value.addr + e.value.whole) es rising.2 in
    let cons : bytes (e ∷ es) ≡ e.value.whole + bytes es = sum_by-cons (λ (y : Span). y.whole) e.value (spans_of es) in (
      omega (arith, cons, rest.0, rising.0),
      omega (arith, cons, rest.1, rising.1, count_by-cons is_free e.value (spans_of es), at_most (is_free e.value)),
    )
  where
    at_most : (b : Bool) → cond b 1 0 ≤ 1
    at_most true = omega arith
    at_most false = omega arith

pub record AreWithin (totals : Totals) : Type 0 where
  pub total : totals.total < 2 ^ 64
  pub free : totals.free < 2 ^ 64
  pub frees : totals.frees < 2 ^ 64

pub totals_within : (totals : Totals) (items : Items) → IsRising 0 items → AreTotals items totals → AreWithin totals
totals_within totals items rising sums =
    let bounds = rising_bytes 0 items rising in
    record {
      total = omega (arith, sums.total, bounds.0);
      free = omega (arith, sums.free, free_within (spans_of items), bounds.0);
      frees = omega (arith, sums.frees, bounds.0, bounds.1);
    }

pub bytes_within : (items : Items) → IsRising 0 items → bytes items ≤ 2 ^ 63
bytes_within items rising = omega (arith, (rising_bytes 0 items rising).0)

pub bytes_added : (totals : Totals) (old now xs : Items) (e : Keyed Span) (ys : Items) → AreTotals old totals → old ≡ xs ++ ys → now ≡ xs ++ e ∷ ys → bytes now ≡ totals.total + e.value.whole
bytes_added totals old now xs e ys sums was is =
    omega (arith, sums.total, ap bytes was, ap bytes is, bytes-append xs ys, bytes-append xs (e ∷ ys), bytes-append (e ∷ []) ys)

-- the element of a header is among those of the sums
module _ (totals : Totals) (items : Items) (sums : AreTotals items totals) (key : ℕ) (node : Node) (stands : Stands items key node) where
  own : Keyed Span
  own = record { key = key; value = node.span }

  pub whole_within : node.span.whole ≤ totals.total
  unfolding own
  whole_within = omega (arith, sums.total, ap bytes stands.is, bytes-append stands.front (own ∷ stands.back), bytes-append (own ∷ []) stands.back)

  pub free_among : is_free node.span ≡ true → (node.span.whole ≤ totals.free) × (1 ≤ totals.frees)
  unfolding own
  free_among free =
      let one = one_free own free in (
        omega (arith, one.0, sums.free, ap free_bytes stands.is, free-append stands.front (own ∷ stands.back), free-append (own ∷ []) stands.back),
        omega (arith, one.1, sums.frees, ap free_count stands.is, count-append stands.front (own ∷ stands.back), count-append (own ∷ []) stands.back),
      )

-- busy and free elements are all elements
both_by : (b : Bool) → cond b 1 0 + cond (not b) 1 0 ≡ 1
both_by true = refl
both_by false = refl

pub busy_rest : (xs : List Span) → count_by (λ range. not (is_free range)) xs + count_by is_free xs ≡ length xs
busy_rest [] = refl
busy_rest (x ∷ xs) = omega (arith, count_by-cons is_free x xs, count_by-cons (λ (range : Span). not (is_free range)) x xs, both_by (is_free x), busy_rest xs)

pub spans-length : (items : Items) → length (spans_of items) ≡ length items
spans-length [] = refl
spans-length (e ∷ es) = omega (arith, spans-length es)

stats_by : {total free used greatest busy frees total' free' used' greatest' busy' frees' : ℕ} → total ≡ total' → free ≡ free' → used ≡ used' → greatest ≡ greatest' → busy ≡ busy' → frees ≡ frees'
    → ◌≡◌ {A = Stats} (record { total = total; free = free; used = used; greatest = greatest; busy = busy; frees = frees }) (record { total = total'; free = free'; used = used'; greatest = greatest'; busy = busy'; frees = frees' })
stats_by first second third fourth fifth sixth = cc

-- the statistics of elements, of their sums, their number and the greatest free one
pub sums_stats : (items : Items) (totals : Totals) (greatest count : ℕ) → AreTotals items totals → greatest ≡ greatest_whole (filter is_free (spans_of items)) → count ≡ length items
    → ◌≡◌ {A = Stats} (record { total = totals.total; free = totals.free; used = totals.total - totals.free; greatest = greatest; busy = count - totals.frees; frees = totals.frees }) (statistics_of_ranges (spans_of items))
sums_stats items totals greatest count sums is counted =
    stats_by sums.total sums.free (omega (arith, sums.total, sums.free)) is
    (omega (arith, sums.frees, counted, busy_rest (spans_of items), spans-length items)) sums.frees
