-- What each call keeps of the numbers.
use Rattle.std.proofs.Common.{◌≡◌, ℕ, ◌<◌, ◌≤◌, List, [], ◌∷◌, ◌++◌, true, false, Option, Some, None, nat_eq, length, refl, sym, ap, ◌∙◌, subst, arith, append_assoc, eq-eqb}
use Rattle.std.proofs.lemmas.Bool.{or_parts, or_from, cond-true}
use Rattle.hp_base.specs.declared.span.Span.{Span}
use Rattle.hp_base.specs.declared.span.SpanState.{SpanState}
use Rattle.hp_chain.specs.Chain.{Keyed, AreApart, has_key}
use Rattle.hp_chain.specs.Edits.{without_key}
use Rattle.hp_chain.proofs.Keys.{apart_middle, apart_without, lacks_parts, lacks_both}
use Rattle.hp_chain.proofs.EditLemmas.{without_key-at}
use Rattle.hp_elem.specs.Items.{Items, IsAt, AreAt, IsInside, lower_part, upper_part, joined, cut_at, with_next_joined, restated, after_split, after_join, after_set}
use Rattle.hp_elem.specs.Order.{IsOrdered, IsRising, KeysBelow}
use Rattle.hp_elem.specs.Index.{start_key}
use Rattle.hp_elem.proofs.StartLemmas.{starts-added}
use Rattle.hp_elem.specs.Tags.{number_of, number_at, with_entry, entry_of, tag_number, IsNoted}
use Rattle.hp_elem.proofs.OrderLemmas.{below_back}
use Rattle.hp_elem.proofs.IndexLemmas.{edit_is, first_at}
use Rattle.hp_elem.proofs.EntryLemmas.{entry-added, entry-valued, entry-removed, entry-kept}

-- one entry changes
pub noted_entry : (items news : Items) (key_end new_end : ℕ) (numbers new_numbers : List (Option ℕ)) (key : ℕ) (number : Option ℕ) → IsNoted items key_end numbers → new_end ≡ key_end
    → key < key_end → length new_numbers ≡ length numbers → (key < length numbers → number_at new_numbers ≡ with_entry key number (number_at numbers))
    → tag_number news ≡ with_entry key number (tag_number items) → IsNoted news new_end new_numbers
noted_entry items news key_end new_end numbers new_numbers key number noted ends below long written entry within =
    let fits : key_end ≤ length numbers = omega (arith, within, ends, long) in
    written (omega (arith, below, fits)) ∙ ap (λ (table : ℕ → Option ℕ). with_entry key number table) (noted fits) ∙ sym entry

-- more keys
pub noted_more : (items news : Items) (key_end new_end : ℕ) (numbers : List (Option ℕ)) → IsNoted items key_end numbers → news ≡ items → key_end ≤ new_end → IsNoted news new_end numbers
noted_more items news key_end new_end numbers noted is ends within =
    noted (omega (arith, ends, within)) ∙ ap (λ (zs : Items). tag_number zs) (sym is)

-- the key of an element is below the end of keys
pub at_below : (P : Span → Type 0) (key key_end : ℕ) (items : Items) (at : IsAt P key items) → IsOrdered items key_end → key < key_end
at_below P key key_end items at ordered =
    let below = below_back key_end at.front (at.found ∷ at.back) (subst (λ (zs : Items). KeysBelow key_end zs) at.is ordered.below) in
    omega (arith, below.0, at.same)

lacks_one : (key : ℕ) (e : Keyed Span) → nat_eq e.key key ≡ false → has_key key (e ∷ []) ≡ false
lacks_one key e differs = or_from (nat_eq e.key key) false differs refl

module _ (items : Items) (apart : AreApart items) where
  abbrev f : Span → Option ℕ
  f span = number_of span.state

  -- an element in another state
  pub number-set : (P : Span → Type 0) (key : ℕ) (state : SpanState) (at : IsAt P key items) → tag_number (after_set key state items) ≡ with_entry key (number_of state) (tag_number items)
  number-set P key state at =
      let parts : AreApart (at.front ++ at.found ∷ at.back) = subst (λ (zs : Items). AreApart zs) at.is apart in
      let new : Span = record at.found.value { state = state } in
      ap (λ (zs : Items). tag_number zs) (edit_is (restated state) P key items at apart)
      ∙ entry-valued f at.front at.found at.back parts new
      ∙ ap (λ (k : ℕ). with_entry k (number_of state) (tag_number (at.front ++ at.found ∷ at.back))) at.same
      ∙ ap (λ (zs : Items). with_entry key (number_of state) (tag_number zs)) (sym at.is)

  -- an element that is hidden
  pub number-hidden : (P : Span → Type 0) (key : ℕ) (at : IsAt P key items) → tag_number (without_key key items) ≡ with_entry key None (tag_number items)
  number-hidden P key at =
      let parts : AreApart (at.front ++ at.found ∷ at.back) = subst (λ (zs : Items). AreApart zs) at.is apart in
      ap (λ (k : ℕ). tag_number (without_key k items)) (sym at.same)
      ∙ ap (λ (zs : Items). tag_number (without_key at.found.key zs)) at.is
      ∙ ap (λ (zs : Items). tag_number zs) (without_key-at at.front at.found at.back parts)
      ∙ entry-removed f at.front at.found at.back parts
      ∙ ap (λ (k : ℕ). with_entry k None (tag_number (at.front ++ at.found ∷ at.back))) at.same
      ∙ ap (λ (zs : Items). with_entry key None (tag_number zs)) (sym at.is)

  -- an element more
  pub number-added : (news low high : Items) (e : Keyed Span) → items ≡ low ++ high → news ≡ low ++ e ∷ high → has_key e.key items ≡ false
      → tag_number news ≡ with_entry e.key (number_of e.value.state) (tag_number items)
  number-added news low high e is new_is lacks =
      let parts = lacks_parts e.key low high (subst (λ (zs : Items). has_key e.key zs ≡ false) is lacks) in
      ap (λ (zs : Items). tag_number zs) new_is ∙ entry-added f low e high parts.0
      ∙ ap (λ (zs : Items). with_entry e.key (number_of e.value.state) (tag_number zs)) (sym is)

  -- an element that is cut: both parts have its state
  pub number-split : (P : Span → Type 0) (key at_addr new : ℕ) (at : IsAt P key items) → has_key new items ≡ false
      → tag_number (after_split key at_addr new items) ≡ with_entry new (number_of at.found.value.state) (tag_number items)
  number-split P key at_addr new at lacks =
      let parts : AreApart (at.front ++ at.found ∷ at.back) = subst (λ (zs : Items). AreApart zs) at.is apart in
      let low : Keyed Span = record { key = at.found.key; value = lower_part at_addr at.found.value } in
      let high : Keyed Span = record { key = new; value = upper_part at_addr at.found.value } in
      let lacking = lacks_parts new at.front (at.found ∷ at.back) (subst (λ (zs : Items). has_key new zs ≡ false) at.is lacks) in
      let front_lacks : has_key new (at.front ++ low ∷ []) ≡ false = lacks_both new at.front (low ∷ []) lacking.0 (lacks_one new low (or_parts (nat_eq at.found.key new) (has_key new at.back) lacking.1).0) in
      ap (λ (zs : Items). tag_number zs) (edit_is (cut_at at_addr new) P key items at apart ∙ sym (append_assoc at.front (low ∷ []) (high ∷ at.back)))
      ∙ entry-added f (at.front ++ low ∷ []) high at.back front_lacks
      ∙ ap (λ (zs : Items). with_entry new (number_of at.found.value.state) (tag_number zs)) (append_assoc at.front (low ∷ []) at.back)
      ∙ ap (λ (table : ℕ → Option ℕ). with_entry new (number_of at.found.value.state) table) (entry-kept f at.front at.found at.back parts (lower_part at_addr at.found.value) refl)
      ∙ ap (λ (zs : Items). with_entry new (number_of at.found.value.state) (tag_number zs)) (sym at.is)

  -- the second of two elements
  pub second_at : (P : Span → Span → Type 0) (key : ℕ) (two : AreAt P key items) → IsAt (λ _. Unit {0}) two.next.key items
  second_at P key two = record {
    front = two.front ++ two.found ∷ [];
    found = two.next;
    back = two.back;
    is = two.is ∙ sym (append_assoc two.front (two.found ∷ []) (two.next ∷ two.back));
    same = refl;
    holds = tt;
  }

  pub second_start : (P : Span → Span → Type 0) (key : ℕ) (two : AreAt P key items) → IsRising 0 items → start_key items two.next.value.addr ≡ Some two.next.key
  second_start P key two rising =
      let front : Items = two.front ++ two.found ∷ [] in
      let is : items ≡ front ++ two.next ∷ two.back = two.is ∙ sym (append_assoc two.front (two.found ∷ []) (two.next ∷ two.back)) in
      let addr : ℕ = two.next.value.addr in
      ap (λ (zs : Items). start_key zs addr) is
      ∙ ap (λ (table : ℕ → Option ℕ). table addr) (starts-added front two.next two.back (subst (λ (zs : Items). IsRising 0 zs) is rising))
      ∙ cond-true (nat_eq addr addr) (Some two.next.key) (start_key (front ++ two.back) addr) (eq-eqb addr addr refl)

  -- two elements as one, with the state of the first
  pub number-joined : (P : Span → Span → Type 0) (key : ℕ) (two : AreAt P key items) → tag_number (after_join key items) ≡ with_entry two.next.key None (tag_number items)
  number-joined P key two =
      let at = first_at P key items two in
      let regrouped : (two.front ++ two.found ∷ []) ++ two.next ∷ two.back ≡ two.front ++ two.found ∷ two.next ∷ two.back = append_assoc two.front (two.found ∷ []) (two.next ∷ two.back) in
      let parts : AreApart ((two.front ++ two.found ∷ []) ++ two.next ∷ two.back) = subst (λ (zs : Items). AreApart zs) (two.is ∙ sym regrouped) apart in
      let without : AreApart (two.front ++ two.found ∷ two.back) =
      subst (λ (zs : Items). AreApart zs) (append_assoc two.front (two.found ∷ []) two.back) (apart_without (two.front ++ two.found ∷ []) two.next two.back parts) in
      ap (λ (zs : Items). tag_number zs) (edit_is with_next_joined (λ _. Unit {0}) key items at apart)
      ∙ entry-kept f two.front two.found two.back without (joined two.found.value two.next.value) refl
      ∙ ap (λ (zs : Items). tag_number zs) (sym (append_assoc two.front (two.found ∷ []) two.back))
      ∙ entry-removed f (two.front ++ two.found ∷ []) two.next two.back parts
      ∙ ap (λ (zs : Items). with_entry two.next.key None (tag_number zs)) (regrouped ∙ sym two.is)
