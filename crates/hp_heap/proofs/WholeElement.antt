-- A free element is taken out by its address.
use Rattle.std.proofs.Common.{◌≡◌, ℕ, ◌<◌, ◌≤◌, Bool, true, not, List, [], ◌∷◌, ◌++◌, Option, Some, None, IsSomeAnd, refl, sym, ap, subst, ◌∙◌, arith, eqb}
use Rattle.std.proofs.lemmas.Bool.{eq-eqb, ne_eqb}
use Rattle.std.proofs.lemmas.List.Elements.{filter-append}
use Rattle.std.specs.List.{AllByRecursion, filter, find}
use Rattle.std.specs.Option.{option_map}
use Rattle.hp_base.specs.declared.span.Span.{Span}
use Rattle.hp_base.specs.declared.span.SpanState.TheVariants.{Busy}
use Rattle.hp_base.specs.declared.tag.Tag.{Tag}
use Rattle.hp_chain.specs.Chain.{Keyed, AreApart}
use Rattle.hp_chain.specs.Edits.{without_key}
use Rattle.hp_elem.specs.Items.{Items, IsAt, contains, after_set, restated}
use Rattle.hp_heap.specs.PlainHeap.{end_of}
use Rattle.hp_heap.specs.Tiling.{IsRisingFrom, in_range}
use Rattle.hp_heap.specs.FreeSearch.{HasSpace}
use Rattle.hp_heap.specs.Joins.{HasRoom, IsJoinable}
use Rattle.hp_heap.specs.Headers.{IsFree, IsBusy, spans_of}
use Rattle.hp_heap.specs.ChunkKeeping.{IsFreeFrom}
use Rattle.hp_heap.proofs.RangeLemmas.{AllByRecursion-front, AllByRecursion-back, AllByRecursion-weaker, last_end, rising-front, rising-back, rising_before, rising_behind}
use Rattle.hp_heap.proofs.AllocFacts.SplitLemmas.{edited_in, without_in, spans-append}
use Rattle.hp_heap.proofs.AddingLemmas.{strictly}
use Rattle.hp_heap.proofs.FindingLemmas.{find-spans, key_found, IsKeyFound}

kept_all : (p : Span → Bool) (xs : List Span) → AllByRecursion (λ (x : Span). p x ≡ true) xs → filter p xs ≡ xs
kept_all p [] all = refl
kept_all p (x ∷ xs) all = rw all.0 (ap (λ (zs : List Span). x ∷ zs) (kept_all p xs all.1))

-- nothing is found where something is
pub none_there : (addr : ℕ) (o : Option Span) → o ≡ None → IsSomeAnd o (IsFreeFrom addr) → ⊥
none_there addr None is some = some
none_there addr (Some x) is some = absurd (some_none x is)
  where
    some_none : (x : Span) → Some x ≡ None → ⊥
    some_none x is = cc

module _ (addr key : ℕ) (items : Items) (is : option_map (λ (e : Keyed Span). e.key) (find (contains addr) items) ≡ Some key) (free : IsSomeAnd (find (in_range addr) (spans_of items)) (IsFreeFrom addr)) where
  abbrev found : IsKeyFound (contains addr) items key
  found = key_found (contains addr) items key is

  abbrev front : Items
  front = found.at.front

  abbrev e : Keyed Span
  e = found.at.found

  abbrev back : Items
  back = found.at.back

  whole : IsFreeFrom addr e.value
  whole = subst (λ (x : Keyed Span). IsFreeFrom addr x.value) (sym found.own)
      (subst (λ o. IsSomeAnd o (IsFreeFrom addr)) (find-spans (in_range addr) items ∙ ap (λ (o : Option (Keyed Span)). option_map (λ (x : Keyed Span). x.value) o) found.found) free)

  pub whole_free : IsAt IsFree key items
  whole_free = record { front = front; found = e; back = back; is = found.at.is; same = found.at.same; holds = whole.free }

  module _ (pad size : ℕ) (tag : Tag) (now : Items) (apart : AreApart items) (held : now ≡ after_set key (Busy pad size tag) items) where
    abbrev b : Keyed Span
    b = record { key = e.key; value = record e.value { state = Busy pad size tag } }

    held_is : now ≡ front ++ b ∷ back
    held_is = held ∙ edited_in (restated (Busy pad size tag)) key items front e back apart found.at.is found.at.same

    pub held_busy : IsAt IsBusy key now
    held_busy = record { front = front; found = b; back = back; is = held_is; same = found.at.same; holds = refl }

    -- what is left are the elements that begin elsewhere
    pub whole_left : (left : Items) → AreApart now → left ≡ without_key key now → IsJoinable (spans_of items) → spans_of left ≡ filter (λ (q : Span). not (eqb q.addr addr)) (spans_of items)
    whole_left left apart_now gone joinable =
        ap spans_of (gone ∙ without_in key now front b back apart_now held_is found.at.same)
        ∙ spans-append front back
        ∙ ap (λ (zs : List Span). zs ++ spans_of back) (sym (kept_all p (spans_of front) before))
        ∙ ap (λ (zs : List Span). filter p (spans_of front) ++ zs) (sym (kept_all p (spans_of back) behind) ∙ sym at_it)
        ∙ sym (filter-append p (spans_of front) (e.value ∷ spans_of back))
        ∙ ap (filter p) (sym spans_are)
      where
        p : Span → Bool
        p = λ q. not (eqb q.addr addr)

        spans_are : spans_of items ≡ spans_of front ++ (e.value ∷ spans_of back)
        spans_are = ap spans_of found.at.is ∙ spans-append front (e ∷ back)

        rises : IsRisingFrom 0 (spans_of front ++ (e.value ∷ spans_of back))
        rises = subst (λ zs. IsRisingFrom 0 zs) spans_are joinable.rising

        room : HasRoom (spans_of front ++ (e.value ∷ spans_of back))
        room = subst HasRoom spans_are joinable.room

        tail : IsRisingFrom (last_end 0 (spans_of front)) (e.value ∷ spans_of back)
        tail = rising-back 0 (spans_of front) (e.value ∷ spans_of back) rises

        other : (q : Span) → (q.addr ≡ addr → ⊥) → p q ≡ true
        other q differ = ap not (ne_eqb q.addr addr differ)

        before : AllByRecursion (λ (q : Span). p q ≡ true) (spans_of front)
        before = AllByRecursion-weaker (λ (q : Span). q.addr < e.value.addr) (λ (q : Span). p q ≡ true) (λ q lower. other q (λ same. omega (arith, lower, same, whole.begins))) (spans_of front)
            (strictly (spans_of front) e.value.addr (rising_before 0 e.value.addr (spans_of front) (rising-front 0 (spans_of front) (e.value ∷ spans_of back) rises) tail.0).1
            (AllByRecursion-front HasSpace (spans_of front) (e.value ∷ spans_of back) room))

        behind : AllByRecursion (λ (q : Span). p q ≡ true) (spans_of back)
        behind = AllByRecursion-weaker (λ (q : Span). end_of e.value ≤ q.addr) (λ (q : Span). p q ≡ true)
            (λ q higher. other q (λ same. omega (arith, higher, same, whole.begins, (AllByRecursion-back HasSpace (spans_of front) (e.value ∷ spans_of back) room).0.some))) (spans_of back)
            (rising_behind (end_of e.value) (spans_of back) tail.1)

        at_it : filter p (e.value ∷ spans_of back) ≡ filter p (spans_of back)
        at_it = let same : eqb e.value.addr addr ≡ true = eq-eqb e.value.addr addr whole.begins in rw same refl
