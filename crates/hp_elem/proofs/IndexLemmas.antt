-- What each call keeps of the order, the starts and the gaps.
use Rattle.std.proofs.Common.{◌≡◌, ℕ, ◌+◌, ◌-◌, ◌<◌, ◌≤◌, ◌^◌, List, [], ◌∷◌, ◌++◌, true, false, Option, Some, None, nat_eq, length, refl, sym, ap, ◌∙◌, subst, arith, append_assoc, length-append, eq-eqb}
use Rattle.hp_base.specs.declared.span.Span.{Span}
use Rattle.hp_base.specs.declared.span.SpanState.{SpanState}
use Rattle.hp_chain.specs.Chain.{Keyed, AreApart, has_key}
use Rattle.hp_chain.specs.Edits.{edited}
use Rattle.std.proofs.lemmas.Bool.{cond-true, cond-false, or_parts}
use Rattle.std.proofs.lemmas.Option.{same_Some}
use Rattle.hp_chain.proofs.Keys.{found_at, apart_middle}
use Rattle.hp_chain.proofs.EditLemmas.{edited-at}
use Rattle.hp_elem.specs.declared.node.Node.{Node}
use Rattle.hp_elem.specs.Items.{Items, IsAt, AreAt, end_of, lower_part, upper_part, joined, IsInside, Touches, Stands, at_key, cut_at, with_next_joined, restated, after_split, after_join, after_set}
use Rattle.hp_elem.specs.Order.{IsRising, KeysBelow, greatest_end}
use Rattle.hp_elem.specs.Index.{with_start, start_key, gap_starts, reach, IsIndexed, HasSpare}
use Rattle.hp_elem.proofs.OrderLemmas.{rising_bound, rising_front, rising_back, rising_whole, rising-cut, rising-joined, below_front, below_back, below_whole, below_more}
use Rattle.hp_elem.proofs.StartLemmas.{starts-valued, starts-added, starts-removed}
use Rattle.hp_elem.proofs.GapLemmas.{gaps-append, gaps-cut, gaps-joined}

-- an edit at the element that stands under a key
pub edit_is : (edit : Keyed Span → Items → Items) (P : Span → Type 0) (key : ℕ) (items : Items) (at : IsAt P key items) → AreApart items
    → edited key edit items ≡ at.front ++ edit at.found at.back
edit_is edit P key items at apart =
    let parts : AreApart (at.front ++ at.found ∷ at.back) = subst (λ (zs : Items). AreApart zs) at.is apart in
    ap (λ (zs : Items). edited key edit zs) at.is
    ∙ subst (λ (k : ℕ). edited k edit (at.front ++ at.found ∷ at.back) ≡ at.front ++ edit at.found at.back) at.same (edited-at edit at.front at.found at.back parts)

-- what an edit in the middle leaves of the index
middle : (key_end : ℕ) (starts new_starts : ℕ → Option ℕ) (gaps : List ℕ) (xs olds news : Items)
    → IsIndexed (xs ++ olds) key_end starts gaps → AreApart (xs ++ news) → KeysBelow key_end news → IsRising (reach 0 xs) news
    → new_starts ≡ start_key (xs ++ news) → gap_starts (reach 0 xs) news ≡ gap_starts (reach 0 xs) olds
    → IsIndexed (xs ++ news) key_end new_starts gaps
middle key_end starts new_starts gaps xs olds news indexed apart below rising started gapped = record {
  ordered = record {
    apart = apart;
    rising = rising_whole 0 xs news (rising_front 0 xs olds indexed.ordered.rising) rising;
    below = below_whole key_end xs news (below_front key_end xs olds indexed.ordered.below) below;
  };
  started = started;
  gapped = indexed.gapped ∙ gaps-append 0 xs olds ∙ ap (λ (zs : List ℕ). gap_starts 0 xs ++ zs) (sym gapped) ∙ sym (gaps-append 0 xs news);
}

-- a cut
pub indexed_split : (items : Items) (key_end : ℕ) (starts : ℕ → Option ℕ) (gaps : List ℕ) (key at new : ℕ)
    → IsIndexed items key_end starts gaps → IsAt (IsInside at) key items → new < key_end → AreApart (after_split key at new items)
    → IsIndexed (after_split key at new items) key_end (with_start at (Some new) starts) gaps
indexed_split items key_end starts gaps key at new indexed inside within apart =
    let xs : Items = inside.front in
    let e : Keyed Span = inside.found in
    let ys : Items = inside.back in
    let low : Keyed Span = record { key = e.key; value = lower_part at e.value } in
    let high : Keyed Span = record { key = new; value = upper_part at e.value } in
    let list : after_split key at new items ≡ xs ++ low ∷ high ∷ ys = edit_is (cut_at at new) (IsInside at) key items inside indexed.ordered.apart in
    let parts : IsIndexed (xs ++ e ∷ ys) key_end starts gaps = subst (λ (zs : Items). IsIndexed zs key_end starts gaps) inside.is indexed in
    let below = below_back key_end xs (e ∷ ys) parts.ordered.below in
    let rising = rising-cut (reach 0 xs) at new e ys inside.holds (rising_back 0 xs (e ∷ ys) parts.ordered.rising) in
    let whole = rising_whole 0 xs (low ∷ high ∷ ys) (rising_front 0 xs (e ∷ ys) parts.ordered.rising) rising in
    let front : Items = xs ++ low ∷ [] in
    let regroup : (zs : Items) → front ++ zs ≡ xs ++ low ∷ zs = λ zs. append_assoc xs (low ∷ []) zs in
    let added : start_key (front ++ high ∷ ys) ≡ with_start at (Some new) (start_key (front ++ ys)) =
    starts-added front high ys (subst (λ (zs : Items). IsRising 0 zs) (sym (regroup (high ∷ ys))) whole) in
    let started : with_start at (Some new) starts ≡ start_key (xs ++ low ∷ high ∷ ys) =
    ap (λ (table : ℕ → Option ℕ). with_start at (Some new) table)
    (parts.started ∙ sym (starts-valued xs e ys low.value refl) ∙ sym (ap (λ (zs : Items). start_key zs) (regroup ys)))
    ∙ sym added ∙ ap (λ (zs : Items). start_key zs) (regroup (high ∷ ys)) in
    subst (λ (zs : Items). IsIndexed zs key_end (with_start at (Some new) starts) gaps) (sym list)
    (middle key_end starts (with_start at (Some new) starts) gaps xs (e ∷ ys) (low ∷ high ∷ ys) parts (subst (λ (zs : Items). AreApart zs) list apart)
    (below.0, (within, below.1)) rising started (gaps-cut (reach 0 xs) at new e ys inside.holds))

pub length_split : (items : Items) (key at new : ℕ) → IsAt (IsInside at) key items → AreApart items → length (after_split key at new items) ≡ length items + 1
length_split items key at new inside apart =
    omega (
      arith,
      ap (λ (zs : Items). length zs) (edit_is (cut_at at new) (IsInside at) key items inside apart),
      ap (λ (zs : Items). length zs) inside.is,
      length-append inside.front (inside.found ∷ inside.back),
      length-append inside.front (cut_at at new inside.found inside.back),
    )

-- a join
abbrev pub first_at : (P : Span → Span → Type 0) (key : ℕ) (items : Items) → AreAt P key items → IsAt (λ _. Unit {0}) key items
first_at P key items two = record { front = two.front; found = two.found; back = two.next ∷ two.back; is = two.is; same = two.same; holds = tt }

pub join_is : (P : Span → Span → Type 0) (key : ℕ) (items : Items) (two : AreAt P key items) → AreApart items
    → after_join key items ≡ two.front ++ (record { key = two.found.key; value = joined two.found.value two.next.value }) ∷ two.back
join_is P key items two apart = edit_is with_next_joined (λ _. Unit {0}) key items (first_at P key items two) apart

pub indexed_join : (items : Items) (key_end : ℕ) (starts : ℕ → Option ℕ) (gaps : List ℕ) (key : ℕ) (two : AreAt Touches key items)
    → IsIndexed items key_end starts gaps → AreApart (after_join key items)
    → IsIndexed (after_join key items) key_end (with_start two.next.value.addr None starts) gaps
indexed_join items key_end starts gaps key two indexed apart =
    let xs : Items = two.front in
    let e : Keyed Span = two.found in
    let n : Keyed Span = two.next in
    let ys : Items = two.back in
    let both : Keyed Span = record { key = e.key; value = joined e.value n.value } in
    let list : after_join key items ≡ xs ++ both ∷ ys = join_is Touches key items two indexed.ordered.apart in
    let parts : IsIndexed (xs ++ e ∷ n ∷ ys) key_end starts gaps = subst (λ (zs : Items). IsIndexed zs key_end starts gaps) two.is indexed in
    let below = below_back key_end xs (e ∷ n ∷ ys) parts.ordered.below in
    let front : Items = xs ++ e ∷ [] in
    let regroup : (zs : Items) → front ++ zs ≡ xs ++ e ∷ zs = λ zs. append_assoc xs (e ∷ []) zs in
    let removed : start_key (front ++ ys) ≡ with_start n.value.addr None (start_key (front ++ n ∷ ys)) =
    starts-removed front n ys (subst (λ (zs : Items). IsRising 0 zs) (sym (regroup (n ∷ ys))) parts.ordered.rising) in
    let started : with_start n.value.addr None starts ≡ start_key (xs ++ both ∷ ys) =
    ap (λ (table : ℕ → Option ℕ). with_start n.value.addr None table) (parts.started ∙ sym (ap (λ (zs : Items). start_key zs) (regroup (n ∷ ys))))
    ∙ sym removed ∙ ap (λ (zs : Items). start_key zs) (regroup ys) ∙ sym (starts-valued xs e ys both.value refl) in
    subst (λ (zs : Items). IsIndexed zs key_end (with_start n.value.addr None starts) gaps) (sym list)
    (middle key_end starts (with_start n.value.addr None starts) gaps xs (e ∷ n ∷ ys) (both ∷ ys) parts (subst (λ (zs : Items). AreApart zs) list apart)
    (below.0, below.1.1) (rising-joined (reach 0 xs) e n ys two.holds (rising_back 0 xs (e ∷ n ∷ ys) parts.ordered.rising)) started
    (gaps-joined (reach 0 xs) e n ys two.holds))

pub length_join : (P : Span → Span → Type 0) (items : Items) (key : ℕ) → AreAt P key items → AreApart items → length (after_join key items) + 1 ≡ length items
length_join P items key two apart =
    omega (
      arith,
      ap (λ (zs : Items). length zs) (join_is P key items two apart),
      ap (λ (zs : Items). length zs) two.is,
      length-append two.front (two.found ∷ two.next ∷ two.back),
      length-append two.front ((record { key = two.found.key; value = joined two.found.value two.next.value }) ∷ two.back),
    )

-- the whole sizes of two that touch have a sum that fits, and so has the end of the first
pub touching_fits : (items : Items) (key : ℕ) (two : AreAt Touches key items) → IsRising 0 items
    → (two.found.value.whole + two.next.value.whole < 2 ^ 64) × (end_of two.found.value ≤ greatest_end)
touching_fits items key two rising =
    let parts = rising_back 0 two.front (two.found ∷ two.next ∷ two.back) (subst (λ (zs : Items). IsRising 0 zs) two.is rising) in
    let bound = rising_bound (end_of two.next.value) two.back parts.2.2 in
    (omega (arith, two.holds.adjacent, bound), omega (arith, two.holds.adjacent, bound))

-- another state
pub found_is : (key : ℕ) (items : Items) → has_key key items ≡ true → IsAt (λ _. Unit {0}) key items
found_is key items has = let here = found_at key items has in record { front = here.front; found = here.found; back = here.back; is = here.is; same = here.same; holds = tt }

pub indexed_set : (items : Items) (key_end : ℕ) (starts : ℕ → Option ℕ) (gaps : List ℕ) (key : ℕ) (state : SpanState)
    → IsIndexed items key_end starts gaps → has_key key items ≡ true → AreApart (after_set key state items)
    → IsIndexed (after_set key state items) key_end starts gaps
indexed_set items key_end starts gaps key state indexed has apart =
    let at = found_is key items has in
    let xs : Items = at.front in
    let e : Keyed Span = at.found in
    let ys : Items = at.back in
    let value : Span = record e.value { state = state } in
    let list : after_set key state items ≡ xs ++ (record { key = e.key; value = value }) ∷ ys = edit_is (restated state) (λ _. Unit {0}) key items at indexed.ordered.apart in
    let parts : IsIndexed (xs ++ e ∷ ys) key_end starts gaps = subst (λ (zs : Items). IsIndexed zs key_end starts gaps) at.is indexed in
    subst (λ (zs : Items). IsIndexed zs key_end starts gaps) (sym list)
    (middle key_end starts starts gaps xs (e ∷ ys) ((record { key = e.key; value = value }) ∷ ys) parts (subst (λ (zs : Items). AreApart zs) list apart)
    (below_back key_end xs (e ∷ ys) parts.ordered.below) (rising_back 0 xs (e ∷ ys) parts.ordered.rising)
    (parts.started ∙ sym (starts-valued xs e ys value refl)) refl)

pub length_set : (items : Items) (key : ℕ) (state : SpanState) → has_key key items ≡ true → AreApart items → length (after_set key state items) ≡ length items
length_set items key state has apart =
    let at = found_is key items has in
    omega (
      arith,
      ap (λ (zs : Items). length zs) (edit_is (restated state) (λ _. Unit {0}) key items at apart),
      ap (λ (zs : Items). length zs) at.is,
      length-append at.front (at.found ∷ at.back),
      length-append at.front (restated state at.found at.back),
    )

-- more room
pub indexed_more : (items : Items) (low high : ℕ) (starts new_starts : ℕ → Option ℕ) (gaps : List ℕ) → low ≤ high → new_starts ≡ starts → IsIndexed items low starts gaps → IsIndexed items high new_starts gaps
indexed_more items low high starts new_starts gaps within same indexed = record {
  ordered = record { apart = indexed.ordered.apart; rising = indexed.ordered.rising; below = below_more low high items within indexed.ordered.below };
  started = same ∙ indexed.started;
  gapped = indexed.gapped;
}

-- the element under a key is one
pub at_key-middle : (key : ℕ) (xs : Items) (e : Keyed Span) (ys : Items) → has_key key xs ≡ false → e.key ≡ key → at_key key (xs ++ e ∷ ys) ≡ Some e.value
at_key-middle key [] e ys lacks same = cond-true (nat_eq e.key key) (Some e.value) (at_key key ys) (eq-eqb e.key key same)
at_key-middle key (x ∷ xs) e ys lacks same =
    let parts = or_parts (nat_eq x.key key) (has_key key xs) lacks in
    cond-false (nat_eq x.key key) (Some x.value) (at_key key (xs ++ e ∷ ys)) parts.0 ∙ at_key-middle key xs e ys parts.1 same

pub at_key-found : (P : Span → Type 0) (key : ℕ) (items : Items) (at : IsAt P key items) → AreApart items → at_key key items ≡ Some at.found.value
at_key-found P key items at apart =
    let own = apart_middle at.front at.found at.back (subst (λ (zs : Items). AreApart zs) at.is apart) in
    ap (λ (zs : Items). at_key key zs) at.is
    ∙ at_key-middle key at.front at.found at.back (subst (λ (k : ℕ). has_key k at.front ≡ false) at.same own.0) at.same

pub stands_value : (P : Span → Type 0) (key : ℕ) (items : Items) (node : Node) (at : IsAt P key items) → AreApart items → Stands items key node → node.span ≡ at.found.value
stands_value P key items node at apart stands =
    let other : IsAt (λ _. Unit {0}) key items = record { front = stands.front; found = record { key = key; value = node.span }; back = stands.back; is = stands.is; same = refl; holds = tt } in
    same_Some node.span at.found.value (sym (at_key-found (λ _. Unit {0}) key items other apart) ∙ at_key-found P key items at apart)

-- what a closing of the elements owes after a cut, a join and another state
abbrev pub IsSound : Items → ℕ → (ℕ → Option ℕ) → List ℕ → ℕ → ℕ → ℕ → Type 0
IsSound items key_end starts gaps spare room capacity = IsIndexed items key_end starts gaps × HasSpare spare (length items) key_end room capacity

module _ (items news : Items) (key_end new_end : ℕ) (starts new_starts : ℕ → Option ℕ) (gaps : List ℕ) (spare room new_room capacity key : ℕ)
    (sound : IsSound items key_end starts gaps spare room capacity) (apart : AreApart news) (ends : new_end ≡ key_end) where
  pub sound_split : (at new : ℕ) → 0 < spare → IsAt (IsInside at) key items → new < key_end → news ≡ after_split key at new items
      → new_starts ≡ with_start at (Some new) starts → room ≤ new_room + 1 → IsSound news new_end new_starts gaps (spare - 1) new_room capacity
  sound_split at new left inside within is started rooms =
      let indexed : IsIndexed (after_split key at new items) key_end (with_start at (Some new) starts) gaps =
      indexed_split items key_end starts gaps key at new sound.0 inside within (subst (λ (zs : Items). AreApart zs) is apart) in
      let len : length news ≡ length items + 1 = ap (λ (zs : Items). length zs) is ∙ length_split items key at new inside sound.0.ordered.apart in (
        subst (λ (zs : Items). IsIndexed zs new_end new_starts gaps) (sym is)
            (subst (λ (end : ℕ). IsIndexed (after_split key at new items) end new_starts gaps) (sym ends)
            (subst (λ (table : ℕ → Option ℕ). IsIndexed (after_split key at new items) key_end table gaps) (sym started) indexed)),
        record {
          keys = omega (arith, len, left, ends, sound.1.keys);
          starts_fit = omega (arith, left, rooms, sound.1.starts_fit);
          gaps_fit = omega (arith, len, left, sound.1.gaps_fit);
        },
      )

  pub sound_join : (two : AreAt Touches key items) → news ≡ after_join key items → new_starts ≡ with_start two.next.value.addr None starts → room ≤ new_room
      → IsSound news new_end new_starts gaps spare new_room capacity
  sound_join two is started rooms =
      let indexed : IsIndexed (after_join key items) key_end (with_start two.next.value.addr None starts) gaps =
      indexed_join items key_end starts gaps key two sound.0 (subst (λ (zs : Items). AreApart zs) is apart) in
      let len : length news + 1 ≡ length items = ap (λ (zs : Items). length zs + 1) is ∙ length_join Touches items key two sound.0.ordered.apart in (
        subst (λ (zs : Items). IsIndexed zs new_end new_starts gaps) (sym is)
            (subst (λ (end : ℕ). IsIndexed (after_join key items) end new_starts gaps) (sym ends)
            (subst (λ (table : ℕ → Option ℕ). IsIndexed (after_join key items) key_end table gaps) (sym started) indexed)),
        record {
          keys = omega (arith, len, ends, sound.1.keys);
          starts_fit = omega (arith, rooms, sound.1.starts_fit);
          gaps_fit = omega (arith, len, sound.1.gaps_fit);
        },
      )

  pub sound_set : (state : SpanState) → has_key key items ≡ true → news ≡ after_set key state items → IsSound news new_end starts gaps spare room capacity
  sound_set state has is =
      let indexed : IsIndexed (after_set key state items) key_end starts gaps =
      indexed_set items key_end starts gaps key state sound.0 has (subst (λ (zs : Items). AreApart zs) is apart) in
      let len : length news ≡ length items = ap (λ (zs : Items). length zs) is ∙ length_set items key state has sound.0.ordered.apart in (
        subst (λ (zs : Items). IsIndexed zs new_end starts gaps) (sym is) (subst (λ (end : ℕ). IsIndexed (after_set key state items) end starts gaps) (sym ends) indexed),
        record {
          keys = omega (arith, len, ends, sound.1.keys);
          starts_fit = sound.1.starts_fit;
          gaps_fit = omega (arith, len, sound.1.gaps_fit);
        },
      )

-- and after a reservation
pub sound_reserve : (items news : Items) (key_end new_end : ℕ) (starts new_starts : ℕ → Option ℕ) (gaps new_gaps : List ℕ) (spare room capacity new_spare new_room new_capacity : ℕ)
    → IsSound items key_end starts gaps spare room capacity → news ≡ items → key_end ≤ new_end → new_starts ≡ starts → new_gaps ≡ gaps
    → length items + new_spare ≤ new_end → new_spare ≤ new_room → length items + new_spare ≤ new_capacity
    → IsSound news new_end new_starts new_gaps new_spare new_room new_capacity
sound_reserve items news key_end new_end starts new_starts gaps new_gaps spare room capacity new_spare new_room new_capacity sound is ends started gapped keys rooms capacities =
    let indexed = indexed_more items key_end new_end starts new_starts gaps ends started sound.0 in
    let len : length news ≡ length items = ap (λ (zs : Items). length zs) is in (
      subst (λ (zs : Items). IsIndexed zs new_end new_starts new_gaps) (sym is) (subst (λ (gs : List ℕ). IsIndexed items new_end new_starts gs) (sym gapped) indexed),
      record { keys = omega (arith, len, keys); starts_fit = rooms; gaps_fit = omega (arith, len, capacities) },
    )
