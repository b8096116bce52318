-- The bytes of each socket, as rows come, go and change their state.
use Rattle.std.proofs.Common.{◌≡◌, ◌≢◌, ◌==◌, ℕ, ◌+◌, ◌-◌, ◌*◌, ◌<◌, Bool, true, false, not, ◌&&◌, cond, if◌then◌else◌, List, [], ◌∷◌, ◌++◌, length, map, filter, get_or, set, refl, ap, ◌∙◌, sym, arith, inl, inr, count_by, sum_by, get_or-set_same, get_or-set_other, eq-eqb, zero-mul}
use Rattle.std.proofs.Math.ListN.{length-set}
use Rattle.std.proofs.Math.Nat.{add-mul}
use Rattle.std.specs.List.{All, range_with_len}
use Rattle.std.proofs.lemmas.Bool.{cases_eq, ne_eqb}
use Rattle.std.proofs.lemmas.List.Elements.{All-head, All-tail}
use Rattle.std.proofs.lemmas.List.FromFn.{fill_by_all, get_or-map-range_with_len, length-map-range_with_len}
use Rattle.std.proofs.lemmas.List.Sums.{sum_by-append, sum_by-cons}
use Rattle.hp_base.specs.declared.row.Row.{Row}
use Rattle.hp_base.specs.declared.row.Run.{Run}
use Rattle.hp_log.proofs.Counts.{count_cons}
use Rattle.hp_log.specs.Rows.{in_run, IsUsedRun}
use Rattle.hp_segs.specs.SegsView.{counted_bytes, is_counted, rows_in, total_of}
use Rattle.hp_segs.specs.Steps.{agreed_segment, claimed_segment, claimed_state, retired_segment, segment_of, without_run}
use Rattle.hp_segs.specs.Table.{IsListRun, IsPlaced}
use Rattle.hp_segs.specs.TableCalls.{AllCount, AreTotals, IsCountedRun, IsOpenRun}
use Rattle.hp_segs.specs.declared.list_info.ListInfo.{ListInfo}
use Rattle.hp_segs.specs.declared.row_state.RowState.{RowState}
use Rattle.hp_segs.specs.declared.row_state.RowState.TheVariants.{Opened, Agreed, Owned, Retiring}
use Rattle.hp_segs.specs.declared.row_state.Segment.{Segment}
use Rattle.hp_segs.proofs.Finds.{count_mapped}
use Rattle.hp_segs.proofs.SlotFacts.ListFacts.{all_unmap}
use Rattle.hp_segs.proofs.SlotFacts.MaskStepLemmas.{map_range_agree}
use Rattle.hp_segs.proofs.SlotFacts.PoolCounts.{run_count}
use Rattle.hp_segs.proofs.RetiredRuns.RemoveLemmas.{alike_in_run, and_false, and_true}

-- where the values change at one place alone, the list of the values with that place set is the list of the new values
pub set_place : {X : Type 0} (f g : ℕ → X) (xs : List X) (n place : ℕ) (x : X) → xs ≡ map f (range_with_len 0 n) → place < n → g place ≡ x
    → ((k : ℕ) → k ≢ place → g k ≡ f k) → set xs place x ≡ map g (range_with_len 0 n)
set_place f g xs n place x are within here others =
    let long : length xs ≡ n = ap length are ∙ length-map-range_with_len f 0 n in
    fill_by_all g (set xs place x) n x (length-set xs place x ∙ long)
    (λ k inside.
    elim (cases_eq k place) [
      | inl same ↦
          ap (λ i. get_or (set xs place x) i x) same
          ∙ (get_or-set_same xs place x x (omega (arith, long, within)) ∙ (sym here ∙ ap g (sym same)))
      | inr other ↦
          get_or-set_other xs place k x x other
          ∙ (ap (λ l. get_or l k x) are ∙ (get_or-map-range_with_len f 0 n k k x inside (omega arith) ∙ sym (others k other)))
    ])

adds : (after before more u : ℕ) → after ≡ u → before ≡ 0 → more ≡ u → after ≡ before + more
adds after before more u is none some = omega (arith, is, none, some)

stays : (after before more : ℕ) → after ≡ before → more ≡ 0 → after ≡ before + more
stays after before more same none = omega (arith, same, none)

no_more : (whole first rest : ℕ) → whole ≡ first + rest → first ≡ 0 → rest ≡ whole
no_more whole first rest is none = omega (arith, is, none)

nothing : (whole first rest : ℕ) → whole ≡ first + rest → first ≡ 0 → rest ≡ 0 → whole ≡ 0
nothing whole first rest is none no_rest = omega (arith, is, none, no_rest)

module _ {X : Type 0} (p : X → Bool) (u : ℕ) (f g : X → ℕ) where
  more_by : (x : X) (xs : List X) (passes : Bool) → p x ≡ passes → g x ≡ f x + cond passes u 0
      → sum_by g xs ≡ sum_by f xs + count_by p xs * u → sum_by g (x ∷ xs) ≡ sum_by f (x ∷ xs) + count_by p (x ∷ xs) * u
  more_by x xs true here more rest =
      let its : g x ≡ f x + u = more in
      let one : ◌≡◌ {A = ℕ} (cond (p x) 1 0) 1 = ap (λ b. cond b 1 0) here in
      let count : count_by p (x ∷ xs) ≡ 1 + count_by p xs = omega (arith, one, count_cons p x xs) in
      let all : count_by p (x ∷ xs) * u ≡ (1 + count_by p xs) * u = ap (λ n. n * u) count in
      omega (arith, its, rest, all, add-mul 1 (count_by p xs) u, sum_by-cons f x xs, sum_by-cons g x xs)
  more_by x xs false here more rest =
      let its : g x ≡ f x + 0 = more in
      let none : ◌≡◌ {A = ℕ} (cond (p x) 1 0) 0 = ap (λ b. cond b 1 0) here in
      let count : count_by p (x ∷ xs) ≡ count_by p xs = omega (arith, none, count_cons p x xs) in
      let all : count_by p (x ∷ xs) * u ≡ count_by p xs * u = ap (λ n. n * u) count in
      omega (arith, its, rest, all, sum_by-cons f x xs, sum_by-cons g x xs)

  -- where each element that passes gives u more, the sum is greater by as many u
  pub sum_more : (xs : List X) → All (λ x. g x ≡ f x + cond (p x) u 0) xs → sum_by g xs ≡ sum_by f xs + count_by p xs * u
  sum_more [] each =
      let none : count_by p [] * u ≡ 0 = zero-mul u in
      omega (arith, none)
  sum_more (x ∷ xs) each =
      more_by x xs (p x) refl (All-head (λ x. g x ≡ f x + cond (p x) u 0) x xs each)
      (sum_more xs (All-tail (λ x. g x ≡ f x + cond (p x) u 0) x xs each))

sum_mapped : {X Y : Type 0} (f : Y → ℕ) (change : X → Y) (xs : List X) → sum_by f (map change xs) ≡ sum_by (λ x. f (change x)) xs
sum_mapped f change [] = refl
sum_mapped f change (x ∷ xs) =
    sum_by-cons f (change x) (map change xs)
    ∙ (ap (λ n. f (change x) + n) (sum_mapped f change xs) ∙ sym (sum_by-cons (λ x. f (change x)) x xs))

sum_alike : {X : Type 0} (f g : X → ℕ) → ((x : X) → f x ≡ g x) → (xs : List X) → sum_by f xs ≡ sum_by g xs
sum_alike f g same [] = refl
sum_alike f g same (x ∷ xs) =
    sum_by-cons f x xs ∙ (ap (λ n. n + sum_by f xs) (same x) ∙ (ap (λ n. g x + n) (sum_alike f g same xs) ∙ sym (sum_by-cons g x xs)))

kept_by : {X : Type 0} (f : X → ℕ) (p : X → Bool) (x : X) (xs : List X) (keeps : Bool) → p x ≡ keeps → (keeps ≡ false → f x ≡ 0)
    → sum_by f (filter p xs) ≡ sum_by f xs → sum_by f (filter p (x ∷ xs)) ≡ sum_by f (x ∷ xs)
kept_by f p x xs true here none rest =
    ap (λ b. sum_by f (cond b (x ∷ filter p xs) (filter p xs))) here
    ∙ (sum_by-cons f x (filter p xs) ∙ (ap (λ n. f x + n) rest ∙ sym (sum_by-cons f x xs)))
kept_by f p x xs false here none rest =
    ap (λ b. sum_by f (cond b (x ∷ filter p xs) (filter p xs))) here
    ∙ (rest ∙ no_more (sum_by f (x ∷ xs)) (f x) (sum_by f xs) (sum_by-cons f x xs) (none refl))

-- elements that give nothing may go
pub sum_kept : {X : Type 0} (f : X → ℕ) (p : X → Bool) (xs : List X) → All (λ x. p x ≡ false → f x ≡ 0) xs → sum_by f (filter p xs) ≡ sum_by f xs
sum_kept f p [] none = refl
sum_kept f p (x ∷ xs) none =
    kept_by f p x xs (p x) refl (All-head (λ x. p x ≡ false → f x ≡ 0) x xs none) (sum_kept f p xs (All-tail (λ x. p x ≡ false → f x ≡ 0) x xs none))

pub sum_zero : {X : Type 0} (f : X → ℕ) (xs : List X) → All (λ x. f x ≡ 0) xs → sum_by f xs ≡ 0
sum_zero f [] none = refl
sum_zero f (x ∷ xs) none =
    nothing _ _ _ (sum_by-cons f x xs) (All-head (λ x. f x ≡ 0) x xs none) (sum_zero f xs (All-tail (λ x. f x ≡ 0) x xs none))

-- the bytes that a row of a run counts for on a socket
abbrev pub row_bytes : ℕ → Run → ℕ
row_bytes socket run = if run.socket == socket then run.page else 0

uncounted : (socket : ℕ) (row : Row) (state : RowState) → is_counted state ≡ false → counted_bytes socket (segment_of state row) ≡ 0
uncounted socket row state none =
    ap (λ b. if (row.socket == socket) && b then row.page else 0) none ∙ ap (λ b. if b then row.page else 0) (and_false (row.socket == socket))

claimed_counted : (state : RowState) → is_counted (claimed_state state) ≡ is_counted state
claimed_counted Opened = refl
claimed_counted (Agreed heap) = refl
claimed_counted (Owned heap) = refl
claimed_counted Retiring = refl

claimed_bytes : (socket : ℕ) (segment : Segment) (chosen : Bool)
    → counted_bytes socket (if chosen then segment_of (claimed_state segment.state) segment.row else segment) ≡ counted_bytes socket segment
claimed_bytes socket segment true =
    ap (λ b. if (segment.row.socket == socket) && b then segment.row.page else 0) (claimed_counted segment.state)
claimed_bytes socket segment false = refl

-- totals stay where each socket's bytes do
pub totals_same : (old new : List Segment) (totals : List ℕ) → ((socket : ℕ) → total_of new socket ≡ total_of old socket)
    → AreTotals old totals → AreTotals new totals
totals_same old new totals same are =
    are ∙ map_range_agree (total_of old) (total_of new) (λ socket. sym (same socket)) 0 32

-- a claim leaves them
pub totals_claimed : (generation : ℕ) (segments : List Segment) (totals : List ℕ) → AreTotals segments totals
    → AreTotals (map (claimed_segment generation) segments) totals
totals_claimed generation segments totals are =
    totals_same segments (map (claimed_segment generation) segments) totals
    (λ socket.
    sum_mapped (counted_bytes socket) (claimed_segment generation) segments
    ∙ sum_alike (λ segment. counted_bytes socket (claimed_segment generation segment)) (counted_bytes socket)
    (λ segment. claimed_bytes socket segment (segment.row.generation == generation)) segments)
    are

none_opened : (socket : ℕ) (rows : List Row) → sum_by (counted_bytes socket) (map (segment_of Opened) rows) ≡ 0
none_opened socket [] = refl
none_opened socket (row ∷ rows) =
    nothing _ _ _ (sum_by-cons (counted_bytes socket) (segment_of Opened row) (map (segment_of Opened) rows))
    (uncounted socket row Opened refl) (none_opened socket rows)

no_rest : (whole first rest : ℕ) → whole ≡ first + rest → rest ≡ 0 → whole ≡ first
no_rest whole first rest is none = omega (arith, is, none)

-- so do Opened rows that come
pub totals_opened : (segments : List Segment) (rows : List Row) (totals : List ℕ) → AreTotals segments totals
    → AreTotals (segments ++ map (segment_of Opened) rows) totals
totals_opened segments rows totals are =
    totals_same segments (segments ++ map (segment_of Opened) rows) totals
    (λ socket. no_rest _ _ _ (sum_by-append (counted_bytes socket) segments (map (segment_of Opened) rows)) (none_opened socket rows))
    are

not_false : (b : Bool) → not b ≡ false → b ≡ true
not_false true is = refl
not_false false is = cc

-- and rows that go and do not count
pub totals_removed : (run : Run) (segments : List Segment) (totals : List ℕ) → AllCount false run segments → AreTotals segments totals
    → AreTotals (without_run run segments) totals
totals_removed run segments totals none are =
    totals_same segments (without_run run segments) totals
    (λ socket.
    sum_kept (counted_bytes socket) (λ segment. not (in_run run segment.row)) segments
    (λ k d within gone.
    uncounted socket (get_or segments k d).row (get_or segments k d).state (none k d within (not_false (in_run run (get_or segments k d).row) gone))))
    are

module _ {lists : List ListInfo} (run : Run) (segments : List Segment) (listed : IsListRun lists run) (placed : All (IsPlaced lists) (rows_in segments))
    (used : IsUsedRun (rows_in segments) run) where
  abbrev inside : Segment → Bool
  inside segment = in_run run segment.row

  count_inside : count_by inside segments ≡ run.count
  count_inside = sym (count_mapped (in_run run) (λ segment. segment.row) segments) ∙ run_count run (rows_in segments) used

  each_placed : All (λ (segment : Segment). IsPlaced lists segment.row) segments
  each_placed = all_unmap (IsPlaced lists) (λ segment. segment.row) segments placed

  counted : (socket : ℕ) (row : Row) (state : RowState) → IsPlaced lists row → in_run run row ≡ true → is_counted state ≡ true
      → counted_bytes socket (segment_of state row) ≡ row_bytes socket run
  counted socket row state its_place within some =
      let alike = alike_in_run lists run row listed its_place within in
      ap (λ b. if (row.socket == socket) && b then row.page else 0) some
      ∙ (ap (λ b. if b then row.page else 0) (and_true (row.socket == socket))
      ∙ (ap (λ s. if s == socket then row.page else 0) alike.0 ∙ ap (λ p. if run.socket == socket then p else 0) alike.1))

  agreed_by : (socket generation heap : ℕ) (segment : Segment) → IsPlaced lists segment.row → (its : Bool) → in_run run segment.row ≡ its
      → (segment.row.generation == generation) ≡ its → (its ≡ true → is_counted segment.state ≡ false)
      → counted_bytes socket (agreed_segment generation heap segment) ≡ counted_bytes socket segment + cond its (row_bytes socket run) 0
  agreed_by socket generation heap segment its_place true within same none =
      adds _ _ _ _
      (ap (λ b. counted_bytes socket (if b then segment_of (Agreed heap) segment.row else segment)) same
      ∙ counted socket segment.row (Agreed heap) its_place within refl)
      (uncounted socket segment.row segment.state (none refl))
      refl
  agreed_by socket generation heap segment its_place false within same none =
      stays _ _ _ (ap (λ b. counted_bytes socket (if b then segment_of (Agreed heap) segment.row else segment)) same) refl

  retired_by : (socket : ℕ) (segment : Segment) → IsPlaced lists segment.row → (its : Bool) → in_run run segment.row ≡ its
      → (its ≡ true → is_counted segment.state ≡ true)
      → counted_bytes socket segment ≡ counted_bytes socket (retired_segment run segment) + cond its (row_bytes socket run) 0
  retired_by socket segment its_place true within some =
      adds _ _ _ _
      (counted socket segment.row segment.state its_place within (some refl))
      (ap (λ b. counted_bytes socket (if b then segment_of Retiring segment.row else segment)) within
      ∙ uncounted socket segment.row Retiring refl)
      refl
  retired_by socket segment its_place false within some =
      stays _ _ _ (sym (ap (λ b. counted_bytes socket (if b then segment_of Retiring segment.row else segment)) within)) refl

  -- a grant adds the run's bytes to those of its socket
  pub total_agreed : (socket generation heap : ℕ) → All (λ segment. (segment.row.generation == generation) ≡ in_run run segment.row) segments
      → AllCount false run segments
      → total_of (map (agreed_segment generation heap) segments) socket ≡ total_of segments socket + run.count * row_bytes socket run
  total_agreed socket generation heap same none =
      sum_mapped (counted_bytes socket) (agreed_segment generation heap) segments
      ∙ (sum_more inside (row_bytes socket run) (counted_bytes socket) (λ segment. counted_bytes socket (agreed_segment generation heap segment)) segments
      (λ k d within.
      agreed_by socket generation heap (get_or segments k d) (each_placed k d within) (in_run run (get_or segments k d).row) refl (same k d within)
      (none k d within))
      ∙ ap (λ n. total_of segments socket + n * row_bytes socket run) count_inside)

  -- and rows that are given up take them away
  pub total_retired : (socket : ℕ) → AllCount true run segments
      → total_of segments socket ≡ total_of (map (retired_segment run) segments) socket + run.count * row_bytes socket run
  total_retired socket some =
      sum_more inside (row_bytes socket run) (λ segment. counted_bytes socket (retired_segment run segment)) (counted_bytes socket) segments
      (λ k d within. retired_by socket (get_or segments k d) (each_placed k d within) (in_run run (get_or segments k d).row) refl (some k d within))
      ∙ (ap (λ n. sum_by (λ segment. counted_bytes socket (retired_segment run segment)) segments + n * row_bytes socket run) count_inside
      ∙ ap (λ n. n + run.count * row_bytes socket run) (sym (sum_mapped (counted_bytes socket) (retired_segment run) segments)))

  pub own_bytes : run.count * row_bytes run.socket run ≡ run.count * run.page
  own_bytes = ap (λ b. run.count * (if b then run.page else 0)) (eq-eqb run.socket run.socket refl)

  other_bytes : (socket : ℕ) → socket ≢ run.socket → run.count * row_bytes socket run ≡ 0
  other_bytes socket other =
      ap (λ b. run.count * (if b then run.page else 0)) (ne_eqb run.socket socket (λ same. other (sym same))) ∙ none run.count
    where
      none : (n : ℕ) → n * 0 ≡ 0
      none n = omega arith

pub total_at : (segments : List Segment) (totals : List ℕ) (socket : ℕ) → AreTotals segments totals → socket < 32 → get_or totals socket 0 ≡ total_of segments socket
total_at segments totals socket are within =
    ap (λ l. get_or l socket 0) are ∙ get_or-map-range_with_len (total_of segments) 0 32 socket socket 0 within (omega arith)

grown : (after before bytes old : ℕ) → after ≡ before + bytes → old ≡ before → after ≡ old + bytes
grown after before bytes old is same = omega (arith, is, same)

shrunk : (before after bytes old : ℕ) → before ≡ after + bytes → old ≡ before → after ≡ old - bytes
shrunk before after bytes old is same = omega (arith, is, same)

-- the totals after a grant
pub totals_agreed : {lists : List ListInfo} (run : Run) (segments : List Segment) (totals : List ℕ) (generation heap : ℕ)
    → IsOpenRun lists segments run generation → All (IsPlaced lists) (rows_in segments) → run.socket < 32 → AreTotals segments totals
    → AreTotals (map (agreed_segment generation heap) segments) (set totals run.socket (get_or totals run.socket 0 + run.count * run.page))
totals_agreed run segments totals generation heap its placed small are =
    set_place (total_of segments) (total_of (map (agreed_segment generation heap) segments)) totals 32 run.socket _ are small
    (grown _ _ _ _
    (total_agreed run segments its.listed placed its.used run.socket generation heap its.same its.uncounted
    ∙ ap (λ n. total_of segments run.socket + n) (own_bytes run segments its.listed placed its.used))
    (total_at segments totals run.socket are small))
    (λ socket other.
    no_rest _ _ _ (total_agreed run segments its.listed placed its.used socket generation heap its.same its.uncounted)
    (other_bytes run segments its.listed placed its.used socket other))

-- the totals after a run is given up
pub totals_retired : {lists : List ListInfo} (run : Run) (segments : List Segment) (totals : List ℕ)
    → IsCountedRun lists segments run → All (IsPlaced lists) (rows_in segments) → run.socket < 32 → AreTotals segments totals
    → AreTotals (map (retired_segment run) segments) (set totals run.socket (get_or totals run.socket 0 - run.count * run.page))
totals_retired run segments totals its placed small are =
    set_place (total_of segments) (total_of (map (retired_segment run) segments)) totals 32 run.socket _ are small
    (shrunk _ _ _ _
    (total_retired run segments its.listed placed its.used run.socket its.counted
    ∙ ap (λ n. total_of (map (retired_segment run) segments) run.socket + n) (own_bytes run segments its.listed placed its.used))
    (total_at segments totals run.socket are small))
    (λ socket other.
    sym (no_rest _ _ _ (total_retired run segments its.listed placed its.used socket its.counted)
    (other_bytes run segments its.listed placed its.used socket other)))
