-- Each edit of elements under keys keeps their tie to the free lists, as a record.
use Rattle.std.proofs.Common.{◌≡◌, ℕ, ◌+◌, ◌<◌, ◌≤◌, ◌^◌, Bool, true, false, cond, [], ◌∷◌, ◌++◌, length, refl, sym, ap, subst, ◌∙◌, arith, leb}
use Rattle.std.proofs.lemmas.Bool.{leb-true}
use Rattle.std.specs.List.{AllByRecursion}
use Rattle.hp_base.specs.declared.span.Span.{Span}
use Rattle.hp_base.specs.declared.span.SpanState.TheVariants.{Free, Busy}
use Rattle.hp_chain.specs.Chain.{Keyed, AreApart}
use Rattle.hp_chain.specs.Edits.{without_key}
use Rattle.hp_elem.specs.Items.{Items, IsAt, AreAt, Stands, after_split, after_join, after_set, after_add, cut_at, with_next_joined, restated, lower_part, upper_part, joined}
use Rattle.hp_elem.specs.Order.{KeysBelow, IsRising}
use Rattle.hp_elem.specs.View.{ElemsView}
use Rattle.hp_elem.specs.declared.node.Node.{Node}
use Rattle.hp_freelist.specs.Lists.{FreeLists, is_listed, with_head, without}
use Rattle.hp_heap.specs.PlainHeap.{is_free, stamp_of}
use Rattle.hp_heap.specs.Headers.{IsFree, IsBusy, CanSplit, CanJoin, CanInsert}
use Rattle.hp_heap.specs.Tie.{IsTied, AreTied, spare_of}
use Rattle.hp_heap.specs.declared.totals.Totals.{Totals}
use Rattle.hp_heap.specs.Totals.{bytes, AreTotals, AreKept}
use Rattle.hp_heap.proofs.FreeFacts.NewestLemmas.{AreBusy, busy_stamp}
use Rattle.hp_heap.proofs.TieLemmas.{tied_busy, tied_leaves, tied_head, busy_unlisted}
use Rattle.hp_heap.proofs.HistoryFacts.TotalsLemmas.{AreWithin, bytes_added, bytes_within, one_free, none_free, free_among, totals_moved, totals_busy, totals_within}
use Rattle.hp_heap.proofs.AllocFacts.SplitLemmas.{edited_in, without_in, added_in, holds_of, same_split}
use Rattle.hp_heap.proofs.RangeLemmas.{AllByRecursion-append, AllByRecursion-front, AllByRecursion-back, AllByRecursion-weaker}

abbrev pub AreStamped : ℕ → Items → Type 0
AreStamped stamps items = AllByRecursion (λ (e : Keyed Span). stamp_of e.value ≤ stamps) items

busy_stamped : (stamps : ℕ) (es : Items) → AreBusy es → AreStamped stamps es
busy_stamped stamps es busy = AllByRecursion-weaker (λ (e : Keyed Span). is_free e.value ≡ false) (λ (e : Keyed Span). stamp_of e.value ≤ stamps) (λ e is. omega (arith, busy_stamp e.value is)) es busy

-- other elements in the place of some: what holds of each
replaced_all : (P : Keyed Span → Type 0) (xs es more ys : Items) → AllByRecursion P (xs ++ (es ++ ys)) → AllByRecursion P more → AllByRecursion P (xs ++ (more ++ ys))
replaced_all P xs es more ys all now =
    AllByRecursion-append P xs (more ++ ys) (AllByRecursion-front P xs (es ++ ys) all)
    (AllByRecursion-append P more ys now (AllByRecursion-back P es ys (AllByRecursion-back P xs (es ++ ys) all)))

-- busy elements in the place of busy ones
ties_busy : (old new : ElemsView) (lists : FreeLists) (xs es more ys : Items) → AreTied old lists → old.items ≡ xs ++ (es ++ ys) → new.items ≡ xs ++ (more ++ ys) → AreBusy es → AreBusy more
    → KeysBelow lists.room more → AreApart new.items → new.stamps ≡ old.stamps → AreTied new lists
ties_busy old new lists xs es more ys tied was is busy now_busy below apart stamps = record {
  apart = apart;
  count = tied.count;
  tied = subst (λ (zs : Items). IsTied zs lists.lists) (sym is) (tied_busy xs es more ys lists.lists busy now_busy (subst (λ (zs : Items). IsTied zs lists.lists) was tied.tied));
  stamps = subst (λ (n : ℕ). AreStamped n new.items) (sym stamps)
      (subst (λ (zs : Items). AreStamped old.stamps zs) (sym is)
      (replaced_all (λ (e : Keyed Span). stamp_of e.value ≤ old.stamps) xs es more ys (subst (λ (zs : Items). AreStamped old.stamps zs) was tied.stamps) (busy_stamped old.stamps more now_busy)));
  places = subst (λ (zs : Items). KeysBelow lists.room zs) (sym is)
      (replaced_all (λ (e : Keyed Span). e.key < lists.room) xs es more ys (subst (λ (zs : Items). KeysBelow lists.room zs) was tied.places) below);
}

-- the key of an element has its place in the lists
key_below : (bound : ℕ) (items xs : Items) (e : Keyed Span) (ys : Items) → items ≡ xs ++ e ∷ ys → KeysBelow bound items → e.key < bound
key_below bound items xs e ys is below = (AllByRecursion-back (λ (o : Keyed Span). o.key < bound) xs (e ∷ ys) (subst (λ (zs : Items). KeysBelow bound zs) is below)).0

-- the element of a header, with what holds of it
pub at_header : (P : Span → Type 0) (key : ℕ) (items : Items) (node : Node) → AreApart items → Stands items key node → IsAt P key items → P node.span
at_header P key items node apart stands at = holds_of P key items stands.front (record { key = key; value = node.span }) stands.back apart stands.is refl at

module _ (old new : ElemsView) (lists : FreeLists) (sums now : Totals) (kept : AreKept old lists sums) (apart : AreApart new.items) (stamps : new.stamps ≡ old.stamps) (free : now.free ≡ sums.free)
    (frees : now.frees ≡ sums.frees) (key : ℕ) where
  tied : AreTied old lists
  tied = kept.tied

  -- busy elements in the place of busy ones
  keeps_busy : (xs es more ys : Items) → old.items ≡ xs ++ (es ++ ys) → new.items ≡ xs ++ (more ++ ys) → AreBusy es → AreBusy more → KeysBelow lists.room more
      → now.total + bytes es ≡ sums.total + bytes more → AreKept new lists now
  keeps_busy xs es more ys was is busy now_busy below total = record {
    tied = ties_busy old new lists xs es more ys kept.tied was is busy now_busy below apart stamps;
    sums = totals_busy sums now old.items new.items xs es more ys kept.sums was is busy now_busy total free frees;
  }

  pub keeps-set : (pad size : ℕ) (tag : _) → now.total ≡ sums.total → IsAt IsBusy key old.items → new.items ≡ after_set key (Busy pad size tag) old.items → AreKept new lists now
  keeps-set pad size tag total at is =
      let e : Keyed Span = record { key = at.found.key; value = record at.found.value { state = Busy pad size tag } } in
      keeps_busy at.front (at.found ∷ []) (e ∷ []) at.back at.is
      (is ∙ edited_in (restated (Busy pad size tag)) key old.items at.front at.found at.back kept.tied.apart at.is at.same)
      (at.holds, tt) (refl, tt) (key_below lists.room old.items at.front at.found at.back at.is kept.tied.places, tt) (omega (arith, total))

  pub keeps-split : (at_addr new_key : ℕ) → now.total ≡ sums.total → IsAt (CanSplit at_addr) key old.items → new_key < lists.room → new.items ≡ after_split key at_addr new_key old.items → AreKept new lists now
  keeps-split at_addr new_key total at below is =
      let lower : Keyed Span = record { key = at.found.key; value = lower_part at_addr at.found.value } in
      let upper : Keyed Span = record { key = new_key; value = upper_part at_addr at.found.value } in
      keeps_busy at.front (at.found ∷ []) (lower ∷ upper ∷ []) at.back at.is
      (is ∙ edited_in (cut_at at_addr new_key) key old.items at.front at.found at.back kept.tied.apart at.is at.same)
      (at.holds.busy, tt) (at.holds.busy, (at.holds.busy, tt)) (key_below lists.room old.items at.front at.found at.back at.is kept.tied.places, (below, tt))
      (omega (arith, total, at.holds.inside.above, at.holds.inside.below))

  pub keeps-join : now.total ≡ sums.total → AreAt CanJoin key old.items → new.items ≡ after_join key old.items → AreKept new lists now
  keeps-join total at is =
      let one : Keyed Span = record { key = at.found.key; value = joined at.found.value at.next.value } in
      keeps_busy at.front (at.found ∷ at.next ∷ []) (one ∷ []) at.back at.is
      (is ∙ edited_in with_next_joined key old.items at.front at.found (at.next ∷ at.back) kept.tied.apart at.is at.same)
      (at.holds.busy, (at.holds.second_busy, tt)) (at.holds.busy, tt) (key_below lists.room old.items at.front at.found (at.next ∷ at.back) at.is kept.tied.places, tt) (omega (arith, total))

  pub keeps-hide : (node : Node) → Stands old.items key node → now.total + node.span.whole ≡ sums.total → IsAt IsBusy key old.items → new.items ≡ without_key key old.items → AreKept new lists now
  keeps-hide node stands total at is =
      let own : Keyed Span = record { key = key; value = node.span } in
      keeps_busy stands.front (own ∷ []) [] stands.back stands.is (is ∙ without_in key old.items stands.front own stands.back kept.tied.apart stands.is refl)
      (at_header IsBusy key old.items node kept.tied.apart stands at, tt) tt tt (omega (arith, total))

  pub keeps-add : (span : Span) → now.total ≡ sums.total + span.whole → IsBusy span → key < lists.room → new.items ≡ after_add (record { key = key; value = span }) old.items → AreKept new lists now
  keeps-add span total busy below is =
      let new_one : Keyed Span = record { key = key; value = span } in
      let at = added_in new_one old.items in
      keeps_busy at.front [] (new_one ∷ []) at.back at.is (is ∙ at.now) tt (busy, tt) (below, tt) (omega (arith, total))

-- the bytes with an element more
pub added_within : (old new : ElemsView) (sums : Totals) (sums_are : AreTotals old.items sums) (key : ℕ) (span : Span) → new.items ≡ after_add (record { key = key; value = span }) old.items
    → IsRising 0 new.items → sums.total + span.whole < 2 ^ 64
added_within old new sums sums_are key span is rising =
    let new_one : Keyed Span = record { key = key; value = span } in
    let at = added_in new_one old.items in
    omega (arith, bytes_added sums old.items new.items at.front new_one at.back sums_are at.is (is ∙ at.now), bytes_within new.items rising)

-- a free element becomes busy
ties-take : (old new : ElemsView) (lists left : FreeLists) (key pad size : ℕ) (tag : _) → AreTied old lists → IsAt IsFree key old.items → AreApart new.items → new.stamps ≡ old.stamps
    → left.lists ≡ without key lists.lists → left.room ≡ lists.room → length left.lists ≡ 13 → new.items ≡ after_set key (Busy pad size tag) old.items → AreTied new left
ties-take old new lists left key pad size tag tied at apart stamps removed room count is =
    let b : Keyed Span = record { key = at.found.key; value = record at.found.value { state = Busy pad size tag } } in
    let now : new.items ≡ at.front ++ b ∷ at.back = is ∙ edited_in (restated (Busy pad size tag)) key old.items at.front at.found at.back tied.apart at.is at.same in
    record {
      apart = apart;
      count = count;
      tied = subst (λ (ls : _). IsTied new.items ls) (sym (removed ∙ ap (λ (k : ℕ). without k lists.lists) (sym at.same)))
          (subst (λ (zs : Items). IsTied zs (without at.found.key lists.lists)) (sym now)
          (tied_leaves at.front at.found b at.back lists.lists (subst AreApart at.is tied.apart) refl (subst (λ (zs : Items). IsTied zs lists.lists) at.is tied.tied)));
      stamps = subst (λ (n : ℕ). AreStamped n new.items) (sym stamps)
          (subst (λ (zs : Items). AreStamped old.stamps zs) (sym now)
          (replaced_all (λ (e : Keyed Span). stamp_of e.value ≤ old.stamps) at.front (at.found ∷ []) (b ∷ []) at.back (subst (λ (zs : Items). AreStamped old.stamps zs) at.is tied.stamps) (omega arith, tt)));
      places = subst (λ (n : ℕ). KeysBelow n new.items) (sym room)
          (subst (λ (zs : Items). KeysBelow lists.room zs) (sym now)
          (replaced_all (λ (e : Keyed Span). e.key < lists.room) at.front (at.found ∷ []) (b ∷ []) at.back (subst (λ (zs : Items). KeysBelow lists.room zs) at.is tied.places)
          (key_below lists.room old.items at.front at.found at.back at.is tied.places, tt)));
    }

-- its bytes are among those that are kept
pub taken_among : (old : ElemsView) (lists : FreeLists) (sums : Totals) (key : ℕ) (node : Node) → AreKept old lists sums → IsAt IsFree key old.items → Stands old.items key node
    → (node.span.whole ≤ sums.free) × (1 ≤ sums.frees)
taken_among old lists sums key node kept at stands = free_among sums old.items kept.sums key node stands (at_header IsFree key old.items node kept.tied.apart stands at)

pub keeps-take : (old new : ElemsView) (lists left : FreeLists) (sums now : Totals) (key pad size : ℕ) (tag : _) (node : Node) → AreKept old lists sums → IsAt IsFree key old.items → Stands old.items key node
    → AreApart new.items → new.stamps ≡ old.stamps → left.lists ≡ without key lists.lists → left.room ≡ lists.room → length left.lists ≡ 13 → new.items ≡ after_set key (Busy pad size tag) old.items
    → now.total ≡ sums.total → now.free + node.span.whole ≡ sums.free → now.frees + 1 ≡ sums.frees → AreKept new left now
keeps-take old new lists left sums now key pad size tag node kept at stands apart stamps removed room count is total free frees =
    let own : Keyed Span = record { key = key; value = node.span } in
    let b : Keyed Span = record { key = key; value = record node.span { state = Busy pad size tag } } in
    let was = one_free own (at_header IsFree key old.items node kept.tied.apart stands at) in
    let come = none_free (b ∷ []) (refl, tt) in
    record {
      tied = ties-take old new lists left key pad size tag kept.tied at apart stamps removed room count is;
      sums = totals_moved sums now old.items new.items stands.front (own ∷ []) (b ∷ []) stands.back kept.sums stands.is
          (is ∙ edited_in (restated (Busy pad size tag)) key old.items stands.front own stands.back kept.tied.apart stands.is refl)
          (record { total = omega (arith, total); free = omega (arith, free, was.0, come.0); frees = omega (arith, frees, was.1, come.1) });
    }

-- a busy element becomes free, with the next stamp
pub record IsInserted (old new : ElemsView) (lists left : FreeLists) (key whole : ℕ) : Type 0 where
  pub apart : AreApart new.items
  pub stamps : new.stamps ≡ old.stamps + 1
  pub items : new.items ≡ after_set key (Free (old.stamps + 1)) old.items
  pub headed : left.lists ≡ with_head key whole lists.lists
  pub room : left.room ≡ lists.room
  pub count : length left.lists ≡ 13

ties-insert : (old new : ElemsView) (lists left : FreeLists) (key : ℕ) (node : Node) → AreTied old lists → IsAt CanInsert key old.items → Stands old.items key node
    → IsInserted old new lists left key node.span.whole → AreTied new left
ties-insert old new lists left key node tied at stands now =
    let one = same_split at.front at.found at.back stands.front (record { key = key; value = node.span }) stands.back (subst AreApart at.is tied.apart) (sym at.is ∙ stands.is) at.same in
    let whole_is : node.span.whole ≡ at.found.value.whole = ap (λ (o : Keyed Span). o.value.whole) (sym one.found) in
    let f : Keyed Span = record { key = at.found.key; value = record at.found.value { state = Free (old.stamps + 1) } } in
    let is : new.items ≡ at.front ++ f ∷ at.back = now.items ∙ edited_in (restated (Free (old.stamps + 1))) key old.items at.front at.found at.back tied.apart at.is at.same in
    let under = subst (λ (zs : Items). AreStamped old.stamps zs) at.is tied.stamps in
    let others : AllByRecursion (λ (o : Keyed Span). stamp_of o.value < old.stamps + 1) (at.front ++ at.back) =
    AllByRecursion-weaker (λ (e : Keyed Span). stamp_of e.value ≤ old.stamps) (λ (o : Keyed Span). stamp_of o.value < old.stamps + 1) (λ e lower. omega (arith, lower)) (at.front ++ at.back)
    (replaced_all (λ (e : Keyed Span). stamp_of e.value ≤ old.stamps) at.front (at.found ∷ []) [] at.back under tt) in
    let more : AreStamped (old.stamps + 1) (at.front ++ at.found ∷ at.back) =
    AllByRecursion-weaker (λ (e : Keyed Span). stamp_of e.value ≤ old.stamps) (λ (e : Keyed Span). stamp_of e.value ≤ old.stamps + 1) (λ e lower. omega (arith, lower)) (at.front ++ at.found ∷ at.back) under in
    record {
      apart = now.apart;
      count = now.count;
      tied = subst (λ (ls : _). IsTied new.items ls) (sym (now.headed ∙ ap (λ (k : ℕ). with_head k node.span.whole lists.lists) (sym at.same) ∙ ap (λ (w : ℕ). with_head at.found.key w lists.lists) whole_is))
          (subst (λ (zs : Items). IsTied zs (with_head at.found.key at.found.value.whole lists.lists)) (sym is)
          (tied_head at.front at.found f at.back lists.lists tied.count at.holds.busy refl others (subst (λ (zs : Items). IsTied zs lists.lists) at.is tied.tied)));
      stamps = subst (λ (n : ℕ). AreStamped n new.items) (sym now.stamps)
          (subst (λ (zs : Items). AreStamped (old.stamps + 1) zs) (sym is)
          (replaced_all (λ (e : Keyed Span). stamp_of e.value ≤ old.stamps + 1) at.front (at.found ∷ []) (f ∷ []) at.back more (omega arith, tt)));
      places = subst (λ (n : ℕ). KeysBelow n new.items) (sym now.room)
          (subst (λ (zs : Items). KeysBelow lists.room zs) (sym is)
          (replaced_all (λ (e : Keyed Span). e.key < lists.room) at.front (at.found ∷ []) (f ∷ []) at.back (subst (λ (zs : Items). KeysBelow lists.room zs) at.is tied.places)
          (key_below lists.room old.items at.front at.found at.back at.is tied.places, tt)));
    }

-- the sums with an element that became free
pub inserted_sums : (old new : ElemsView) (lists : FreeLists) (sums now : Totals) (key stamp : ℕ) (node : Node) → AreKept old lists sums → IsAt CanInsert key old.items → Stands old.items key node
    → new.items ≡ after_set key (Free stamp) old.items → now.total ≡ sums.total → now.free ≡ sums.free + node.span.whole → now.frees ≡ sums.frees + 1 → AreTotals new.items now
inserted_sums old new lists sums now key stamp node kept at stands is total free frees =
    let own : Keyed Span = record { key = key; value = node.span } in
    let f : Keyed Span = record { key = key; value = record node.span { state = Free stamp } } in
    let was = none_free (own ∷ []) ((at_header CanInsert key old.items node kept.tied.apart stands at).busy, tt) in
    let come = one_free f refl in
    totals_moved sums now old.items new.items stands.front (own ∷ []) (f ∷ []) stands.back kept.sums stands.is
    (is ∙ edited_in (restated (Free stamp)) key old.items stands.front own stands.back kept.tied.apart stands.is refl)
    (record { total = omega (arith, total); free = omega (arith, free, was.0, come.0); frees = omega (arith, frees, was.1, come.1) })

pub inserted_within : (old new : ElemsView) (lists : FreeLists) (sums : Totals) (key stamp : ℕ) (node : Node) → AreKept old lists sums → IsAt CanInsert key old.items → Stands old.items key node
    → new.items ≡ after_set key (Free stamp) old.items → IsRising 0 new.items → AreWithin (record { total = sums.total; free = sums.free + node.span.whole; frees = sums.frees + 1 })
inserted_within old new lists sums key stamp node kept at stands is rising =
    let now : Totals = record { total = sums.total; free = sums.free + node.span.whole; frees = sums.frees + 1 } in
    totals_within now new.items rising (inserted_sums old new lists sums now key stamp node kept at stands is refl refl refl)

pub keeps-insert : (old new : ElemsView) (lists left : FreeLists) (sums now : Totals) (key : ℕ) (node : Node) → AreKept old lists sums → IsAt CanInsert key old.items → Stands old.items key node
    → IsInserted old new lists left key node.span.whole → now.total ≡ sums.total → now.free ≡ sums.free + node.span.whole → now.frees ≡ sums.frees + 1 → AreKept new left now
keeps-insert old new lists left sums now key node kept at stands is total free frees = record {
  tied = ties-insert old new lists left key node kept.tied at stands is;
  sums = inserted_sums old new lists sums now key (old.stamps + 1) node kept at stands is.items total free frees;
}

-- before an insertion the key is on no list
pub insert_unlisted : (old : ElemsView) (lists : FreeLists) (key : ℕ) → AreTied old lists → IsAt CanInsert key old.items → is_listed key lists.lists ≡ false
insert_unlisted old lists key tied at =
    subst (λ (k : ℕ). is_listed k lists.lists ≡ false) at.same
    (busy_unlisted at.front at.found at.back lists.lists tied.count (subst AreApart at.is tied.apart) at.holds.busy (subst (λ (zs : Items). IsTied zs lists.lists) at.is tied.tied))

pub insert_below : (old : ElemsView) (lists : FreeLists) (key : ℕ) → AreTied old lists → IsAt CanInsert key old.items → key < lists.room
insert_below old lists key tied at = subst (λ (k : ℕ). k < lists.room) at.same (key_below lists.room old.items at.front at.found at.back at.is tied.places)

-- where there is room, each key that may come has its place
pub room_of : (elems : ElemsView) (lists : FreeLists) → 0 < spare_of elems lists → elems.key_end ≤ lists.room
room_of elems lists some = by_test (leb elems.key_end lists.room) refl some
  where
    by_test : (b : Bool) → leb elems.key_end lists.room ≡ b → 0 < cond b elems.spare 0 → elems.key_end ≤ lists.room
    by_test true within some = leb-true elems.key_end lists.room within
    by_test false beyond some = absurd (omega (arith, some))

pub spare_is : (elems : ElemsView) (lists : FreeLists) → 0 < spare_of elems lists → spare_of elems lists ≡ elems.spare
spare_is elems lists some = by_test (leb elems.key_end lists.room) some
  where
    by_test : (b : Bool) → 0 < cond b elems.spare 0 → cond b elems.spare 0 ≡ elems.spare
    by_test true some = refl
    by_test false some = absurd (omega (arith, some))

pub insert_least : (old : ElemsView) (key : ℕ) (node : Node) → AreApart old.items → IsAt CanInsert key old.items → Stands old.items key node → 192 ≤ node.span.whole
insert_least old key node apart at stands = (holds_of CanInsert key old.items stands.front (record { key = key; value = node.span }) stands.back apart stands.is refl at).least
