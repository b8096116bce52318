-- Busy elements: what joining leaves of them, and those of memzones among them.
use Rattle.std.proofs.Common.{◌≡◌, ℕ, ◌+◌, ◌<◌, ◌≤◌, ◌⊎◌, Bool, true, false, cond, not, List, [], ◌∷◌, ◌++◌, refl, sym, ap, ◌∙◌, inl, inr, arith, Contains, eqb}
use Rattle.std.proofs.lemmas.Bool.{and_left, and_right, cases_Bool, cond_both, false≢true, eq-eqb, ne_eqb, not-true}
use Rattle.std.proofs.lemmas.List.Elements.{filter-append}
use Rattle.std.specs.List.{AllByRecursion, filter}
use Rattle.hp_base.specs.declared.span.Span.{Span}
use Rattle.hp_base.specs.declared.span.SpanState.{SpanState}
use Rattle.hp_base.specs.declared.span.SpanState.TheVariants.{Free, Busy}
use Rattle.hp_heap.specs.PlainHeap.{PlainHeap, end_of, is_free, is_free_state, pad_of_state, data_address}
use Rattle.hp_heap.specs.Tiling.{IsElement, HasRoomFor, joins}
use Rattle.hp_heap.specs.Joining.{joined_up, joined_down, stretch_up, stretch_to, stretch_down, Stretch, has_data_at, is_zone_state, is_zone_range}
use Rattle.hp_heap.proofs.RangeLemmas.{AllByRecursion-front, AllByRecursion-back, rising-front, rising_before, rising_behind}
use Rattle.hp_heap.proofs.AllocFacts.ChoiceLaw.{AllByRecursion-contains}
use Rattle.hp_heap.proofs.CutFacts.Stretches.{joint}
use Rattle.hp_heap.proofs.Members.{AllByRecursion-each, filter_implied, filter_swapped}
use Rattle.hp_heap.proofs.FreeFacts.FreeTiling.{IsAmong}

abbrev pub busy : Span → Bool
busy range = not (is_free range)

-- whether an element has its data elsewhere
abbrev pub elsewhere : ℕ → Span → Bool
elsewhere address range = not (eqb (data_address range) address)

-- a stretch upwards takes free elements alone
pub busy_up : (x : Span) (ys : List Span) → is_free x ≡ true → filter busy (stretch_up x ys) ≡ filter busy ys
busy_up x [] free = rw free refl
busy_up x (n ∷ ys) free = cond_both (joins x n) (stretch_up (joined_up x n) ys) (x ∷ n ∷ ys) (λ zs. filter busy zs ≡ filter busy (n ∷ ys))
    (λ touch. busy_up (joined_up x n) ys free ∙ sym (rw (joint x n touch).free_second refl)) (λ apart. rw free refl)

-- and downwards
record IsDowned (xs : List Span) (s : Stretch) : Type 0 where
  same : filter busy s.left ≡ filter busy xs
  free : is_free s.range ≡ true

downed_to : (p : Span) (left : List Span) (r : Span) → is_free r ≡ true → IsDowned (p ∷ left) (stretch_to p left r)
downed_to p [] r free = cond_both (joins p r) (record { left = []; range = joined_down p r }) (record { left = p ∷ []; range = r }) (IsDowned (p ∷ []))
    (λ touch. record { same = sym (rw (joint p r touch).free refl); free = free }) (λ apart. record { same = refl; free = free })
downed_to p (o ∷ os) r free = record { same = refl; free = free }

downed : (xs : List Span) (x : Span) → is_free x ≡ true → IsDowned xs (stretch_down xs x)
downed [] x free = record { same = refl; free = free }
downed (p ∷ ps) x free =
    let rest = downed ps x free in
    let both = downed_to p (stretch_down ps x).left (stretch_down ps x).range rest.free in
    record { same = both.same ∙ ap (λ zs. cond (busy p) (p ∷ zs) zs) rest.same; free = both.free }

-- a joined stretch leaves the busy elements on both sides
pub busy_stretch : (xs ys : List Span) (x : Span) → is_free x ≡ true → filter busy ((stretch_down xs x).left ++ stretch_up (stretch_down xs x).range ys) ≡ filter busy (xs ++ ys)
busy_stretch xs ys x free =
    let down = downed xs x free in
    filter-append busy (stretch_down xs x).left (stretch_up (stretch_down xs x).range ys)
    ∙ ap (λ zs. zs ++ filter busy (stretch_up (stretch_down xs x).range ys)) down.same
    ∙ ap (λ zs. filter busy xs ++ zs) (busy_up (stretch_down xs x).range ys down.free)
    ∙ sym (filter-append busy xs ys)

-- a memzone's element is busy
zone_busy_state : (state : SpanState) → is_zone_state state ≡ true → not (is_free_state state) ≡ true
zone_busy_state (Free stamp) zone = absurd (false≢true zone)
zone_busy_state (Busy pad size tag) zone = refl

-- so the memzones' elements are found among the busy ones
pub zones_of_busy : (xs : List Span) → filter is_zone_range xs ≡ filter is_zone_range (filter busy xs)
zones_of_busy xs = sym (filter_swapped is_zone_range busy xs ∙ filter_implied is_zone_range busy xs (AllByRecursion-each (λ q. is_zone_range q ≡ true → busy q ≡ true) xs (λ q has zone. zone_busy_state q.state zone)))

-- the data of a busy element lie within it
data_state : (whole : ℕ) (state : SpanState) → not (is_free_state state) ≡ true → HasRoomFor whole state → pad_of_state state + 128 < whole
data_state whole (Free stamp) is room = absurd (false≢true is)
data_state whole (Busy pad size tag) is room = omega (arith, room.room, room.size_some)

pub data_within : (insertions : ℕ) (q : Span) → busy q ≡ true → IsElement insertions q → (q.addr < data_address q) × (data_address q < end_of q)
data_within insertions q is element = let inside = data_state q.whole q.state is element.busy in (omega arith, omega (arith, inside))

-- busy elements on both sides of one have their data elsewhere
module _ (heap : PlainHeap) (r : Span) (xs ys : List Span) (among : IsAmong heap r xs ys) (is_busy : busy r ≡ true) where
  own : (r.addr < data_address r) × (data_address r < end_of r)
  own = data_within heap.insertions r is_busy among.element

  pub before_elsewhere : AllByRecursion (λ q. busy q ≡ true → elsewhere (data_address r) q ≡ true) xs
  before_elsewhere = AllByRecursion-each (λ q. busy q ≡ true → elsewhere (data_address r) q ≡ true) xs (λ q has is.
      let element = AllByRecursion-contains (IsElement heap.insertions) xs q (AllByRecursion-front (IsElement heap.insertions) xs (r ∷ ys) among.tiling.elements) has in
      let inside = data_within heap.insertions q is element in
      let end = AllByRecursion-contains (λ (x : Span). end_of x ≤ r.addr) xs q (rising_before 0 r.addr xs (rising-front 0 xs (r ∷ ys) among.tiling.rising) among.low).1 has in
      rw (ne_eqb (data_address q) (data_address r) (λ same. omega (arith, same, inside.1, end, own.0))) refl)

  pub behind_elsewhere : (q : Span) → Contains ys q → busy q ≡ true → elsewhere (data_address r) q ≡ true
  behind_elsewhere q has is =
      let element = AllByRecursion-contains (IsElement heap.insertions) ys q (AllByRecursion-back (IsElement heap.insertions) xs (r ∷ ys) among.tiling.elements).1 has in
      let inside = data_within heap.insertions q is element in
      let begin = AllByRecursion-contains (λ (y : Span). end_of r ≤ y.addr) ys q (rising_behind (end_of r) ys among.high) has in
      rw (ne_eqb (data_address q) (data_address r) (λ same. omega (arith, same, inside.0, begin, own.1))) refl

  pub before_data : AllByRecursion (λ q. has_data_at (data_address r) q ≡ false) xs
  before_data = AllByRecursion-each (λ q. has_data_at (data_address r) q ≡ false) xs (λ q has. by_state q (cases_Bool (busy q))
      (AllByRecursion-contains (λ q. busy q ≡ true → elsewhere (data_address r) q ≡ true) xs q before_elsewhere has))
    where
      by_state : (q : Span) → (busy q ≡ true) ⊎ (busy q ≡ false) → (busy q ≡ true → elsewhere (data_address r) q ≡ true) → has_data_at (data_address r) q ≡ false
      by_state q (inl is) other = and_right _ _ (not-true (eqb (data_address q) (data_address r)) (other is))
      by_state q (inr free) other = and_left _ _ free

-- elements that are free or have their data there leave nothing
pub dropped : (address : ℕ) (mid : List Span) → AllByRecursion (λ q. (is_free q ≡ true) ⊎ (data_address q ≡ address)) mid → filter (elsewhere address) (filter busy mid) ≡ []
dropped address [] all = refl
dropped address (q ∷ mid) all = cond_both (busy q) (q ∷ filter busy mid) (filter busy mid) (λ zs. filter (elsewhere address) zs ≡ [])
    (λ is. at_address all.0 is (dropped address mid all.1)) (λ free. dropped address mid all.1)
  where
    at_address : (is_free q ≡ true) ⊎ (data_address q ≡ address) → busy q ≡ true → filter (elsewhere address) (filter busy mid) ≡ [] → filter (elsewhere address) (q ∷ filter busy mid) ≡ []
    at_address (inl free) is rest = absurd (false≢true (sym (not-true (is_free q) is) ∙ free))
    at_address (inr there) is rest = rw (eq-eqb (data_address q) address there) rest

-- so the others, elsewhere, are those on both sides
pub others_elsewhere : (address : ℕ) (xs mid ys : List Span) → AllByRecursion (λ q. (is_free q ≡ true) ⊎ (data_address q ≡ address)) mid
    → filter (elsewhere address) (filter busy (xs ++ (mid ++ ys))) ≡ filter (elsewhere address) (filter busy (xs ++ ys))
others_elsewhere address xs mid ys all =
    ap (λ zs. filter (elsewhere address) zs) (filter-append busy xs (mid ++ ys) ∙ ap (λ zs. filter busy xs ++ zs) (filter-append busy mid ys))
    ∙ filter-append (elsewhere address) (filter busy xs) (filter busy mid ++ filter busy ys)
    ∙ ap (λ zs. filter (elsewhere address) (filter busy xs) ++ zs) (filter-append (elsewhere address) (filter busy mid) (filter busy ys) ∙ ap (λ zs. zs ++ filter (elsewhere address) (filter busy ys)) (dropped address mid all))
    ∙ sym (filter-append (elsewhere address) (filter busy xs) (filter busy ys))
    ∙ ap (λ zs. filter (elsewhere address) zs) (sym (filter-append busy xs ys))

-- what is so of the busy elements is so of the memzones' among them
pub zones_elsewhere : (address : ℕ) (news olds : List Span) → filter (elsewhere address) (filter busy news) ≡ filter (elsewhere address) (filter busy olds)
    → filter (elsewhere address) (filter is_zone_range news) ≡ filter (elsewhere address) (filter is_zone_range olds)
zones_elsewhere address news olds same =
    ap (λ zs. filter (elsewhere address) zs) (zones_of_busy news) ∙ filter_swapped (elsewhere address) is_zone_range (filter busy news)
    ∙ ap (λ zs. filter is_zone_range zs) same
    ∙ sym (ap (λ zs. filter (elsewhere address) zs) (zones_of_busy olds) ∙ filter_swapped (elsewhere address) is_zone_range (filter busy olds))
