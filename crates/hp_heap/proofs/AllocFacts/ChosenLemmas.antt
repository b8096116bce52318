-- What a search finds is the choice.
use Rattle.std.proofs.Common.{◌≡◌, ℕ, ◌≤◌, Bool, true, false, cond, ◌&&◌, List, [], ◌∷◌, ◌++◌, refl, sym, ap, subst, ◌∙◌, arith, inl, inr, Option, Some, None, is_some, unwrap_or, Contains, count_by, eq-eqb}
use Rattle.std.proofs.lemmas.Bool.{cases_Bool, and_parts, false≢true, false_from_ne_true, both_ways}
use Rattle.std.specs.List.{reduce}
use Rattle.std.specs.Option.{option_and_then}
use Rattle.hp_base.specs.declared.span.Span.{Span}
use Rattle.hp_base.specs.declared.chunk.Chunk.{Chunk}
use Rattle.hp_base.specs.declared.tag.Tag.{Tag}
use Rattle.hp_base.specs.declared.request.Request.{Request}
use Rattle.hp_chain.specs.Chain.{Keyed, AreApart}
use Rattle.hp_elem.specs.Items.{Items, Stands}
use Rattle.hp_elem.specs.declared.node.Node.{Node}
use Rattle.hp_heap.specs.declared.choice.Need.{Need}
use Rattle.hp_heap.specs.PlainHeap.{PlainHeap, is_free, stamp_of}
use Rattle.hp_heap.specs.Lists.{range_class}
use Rattle.hp_heap.specs.Tiling.{IsTiled, has_stamp}
use Rattle.hp_base.specs.Flags.{is_hint, is_fitting_page}
use Rattle.hp_heap.specs.Choice.{is_attached, is_candidate, candidates, of_fitting_pages, fitting_or_hinted, eligible, precedes, sooner, chosen}
use Rattle.hp_heap.specs.Placing.{place_in, pieces_of, insertions_of, replaced, placed, after_choice, after_alloc, allocated}
use Rattle.hp_heap.specs.Headers.{HeadersView, spans_of}
use Rattle.hp_heap.specs.FreeSearch.{has_place, is_usable, is_suitable, HasNoneBy, IsFirstBy, FindsFirstSuitable, FindsChoice}
use Rattle.hp_heap.specs.declared.body.Body.TheInside.{Inside}
use Rattle.hp_heap.specs.Inside.{plain_of, IsHeap}
use Rattle.hp_heap.specs.Allocating.{IsPlacedAt, IsLeft, IsAllocated}
use Rattle.hp_heap.proofs.AllocFacts.ChoiceLaw.{Contains-here, Contains-filter, Contains-none, Contains-parts, AllByRecursion-contains, IsNotBefore, precedes-else, IsFirstOf, IsReduced, reduce-sooner}
use Rattle.hp_heap.proofs.Members.{Contains-kept, Contains-image, Contains-imaged, counted_once}
use Rattle.hp_heap.proofs.AllocFacts.AllocLaw.{parted}
use Rattle.hp_heap.proofs.RangeLemmas.{replaced-at}
use Rattle.hp_heap.proofs.AllocFacts.SplitLemmas.{holds_of, spans-append}
use Rattle.hp_heap.proofs.CutFacts.CutLemmas.{node_at}

-- a computed choice is the element under a key
pub record IsTakenBy (items : Items) (key : ℕ) (o : Option Span) : Type 0 where
  pub found : Keyed Span
  pub among : Contains items found
  pub same : found.key ≡ key
  pub chosen : o ≡ Some found.value

-- the element that was found is the one that a computed choice among those that pass takes
module _ (items : Items) (ranges : List Span) (is : spans_of items ≡ ranges) (stamps : (stamp : ℕ) → count_by (has_stamp stamp) ranges ≤ 1) (test : Span → Bool) (zs : List Span)
    (kept : (x : Span) → Contains zs x → (is_free x ≡ true) × (test x ≡ true) × Contains ranges x)
    (keeps : (x : Span) → is_free x ≡ true → test x ≡ true → Contains ranges x → Contains zs x) where
  keyed_of : (x : Span) → Contains ranges x → (e : Keyed Span) × Contains items e × (e.value ≡ x)
  keyed_of x has = Contains-imaged (λ (e : Keyed Span). e.value) items x (subst (λ (l : List Span). Contains l x) (sym is) has)

  none_kept : HasNoneBy test items → zs ≡ []
  none_kept none = by_list zs (λ x has. has)
    where
      by_list : (l : List Span) → ((x : Span) → Contains l x → Contains zs x) → l ≡ []
      by_list [] sub = refl
      by_list (x ∷ l) sub =
          let (free, passes, has) = kept x (sub x (Contains-here x l)) in
          let (e, among, value) = keyed_of x has in
          absurd (both_ways (test e.value) (none e among (ap is_free value ∙ free)) (ap test value ∙ passes))

  with_stamp : (x : Span) → is_free x ≡ true → has_stamp (stamp_of x) x ≡ true
  with_stamp x free = rw (free, eq-eqb (stamp_of x) (stamp_of x) refl) refl

  first_kept : (key : ℕ) → IsFirstBy test items key → IsTakenBy items key (reduce sooner zs)
  first_kept key first = by_reduced (reduce sooner zs) (reduce-sooner zs)
    where
      x : Span
      x = first.found.value

      in_ranges : Contains ranges x
      in_ranges = subst (λ (l : List Span). Contains l x) is (Contains-image (λ (e : Keyed Span). e.value) items first.found first.among)

      own : Contains zs x
      own = keeps x first.free first.passes in_ranges

      same_as : (r : Span) → IsFirstOf zs r → r ≡ x
      same_as r of_all =
          let (free, passes, has) = kept r of_all.among in
          let (e, among, value) = keyed_of r has in
          let not_sooner : precedes r x ≡ false = false_from_ne_true (precedes r x)
          (λ before. both_ways (test e.value) (first.before e among (ap is_free value ∙ free) (ap (λ (s : Span). precedes s x) value ∙ before)) (ap test value ∙ passes)) in
          let one = precedes-else r x not_sooner in
          let other = AllByRecursion-contains (λ y. IsNotBefore y r) zs x of_all.least own in
          let level : range_class r ≡ range_class x = omega (arith, one.class, other.class) in
          let stamp : stamp_of r ≡ stamp_of x = omega (arith, one.stamp level, other.stamp (sym level)) in
          counted_once (has_stamp (stamp_of x)) ranges r x (stamps (stamp_of x)) (subst (λ (n : ℕ). has_stamp n r ≡ true) stamp (with_stamp r free), has) (with_stamp x first.free, in_ranges)

      by_reduced : (o : Option Span) → IsReduced zs o → IsTakenBy items key o
      by_reduced None none = absurd (Contains-none x (subst (λ (l : List Span). Contains l x) none own))
      by_reduced (Some r) of_all = record { found = first.found; among = first.among; same = first.same; chosen = ap (λ (s : Span). Some s) (same_as r of_all) }

-- what a request finds in a heap
module _ (heap : PlainHeap) (tiled : IsTiled heap) (participant : ℕ) (request : Request) (items : Items) (is : spans_of items ≡ heap.ranges) where
  abbrev need : Need
  need = record { request = request; any_page = false; participant = participant; any_chunk = is_some heap.serves }

  abbrev any_need : Need
  any_need = record { request = request; any_page = true; participant = participant; any_chunk = is_some heap.serves }

  abbrev all : List Span
  all = candidates participant request heap

  -- a candidate has a place and may be used
  of_candidate : (x : Span) → Contains all x → (is_free x ≡ true) × (has_place request x ≡ true) × (is_usable heap.chunks need x.list ≡ true) × Contains heap.ranges x
  unfolding is_attached
  of_candidate x has =
      let found = Contains-filter (is_candidate participant request heap) heap.ranges x has in
      let tests = and_parts _ _ found.0 in
      let more = and_parts _ _ tests.1 in
      (tests.0, more.1, more.0, found.1)

  candidate_of : (x : Span) → is_free x ≡ true → has_place request x ≡ true → is_usable heap.chunks need x.list ≡ true → Contains heap.ranges x → Contains all x
  unfolding is_attached
  candidate_of x free placed usable has = Contains-kept (is_candidate participant request heap) heap.ranges x (rw (free, usable, placed) refl) has

  abbrev fits : Span → Bool
  fits x = is_fitting_page request.flags x.page

  fit_kept : (x : Span) → Contains (of_fitting_pages request all) x → (is_free x ≡ true) × (is_suitable heap.chunks need x ≡ true) × Contains heap.ranges x
  fit_kept x has =
      let found = Contains-filter fits all x has in
      let (free, place, usable, in_ranges) = of_candidate x found.1 in
      (free, rw (place, found.0, usable) refl, in_ranges)

  fit_keeps : (x : Span) → is_free x ≡ true → is_suitable heap.chunks need x ≡ true → Contains heap.ranges x → Contains (of_fitting_pages request all) x
  fit_keeps x free suits has =
      let tests = and_parts _ _ suits in
      let more = and_parts _ _ tests.0 in
      Contains-kept fits all x more.1 (candidate_of x free more.0 tests.1 has)

  true_or : (a b : Bool) → (a && true) ≡ true → a ≡ true
  true_or true b is = refl
  true_or false b is = absurd (false≢true is)

  any_kept : (x : Span) → Contains all x → (is_free x ≡ true) × (is_suitable heap.chunks any_need x ≡ true) × Contains heap.ranges x
  any_kept x has =
      let (free, place, usable, in_ranges) = of_candidate x has in
      (free, rw (place, usable) refl, in_ranges)

  any_keeps : (x : Span) → is_free x ≡ true → is_suitable heap.chunks any_need x ≡ true → Contains heap.ranges x → Contains all x
  any_keeps x free suits has =
      let tests = and_parts _ _ suits in
      candidate_of x free (and_parts _ _ tests.0).0 tests.1 has

  -- the choice is what is under a key, or there is none
  abbrev pub IsChosen : Option ℕ → Option Span → Type 0
  IsChosen None o = o ≡ None
  IsChosen (Some key) o = IsTakenBy items key o

  abbrev chosen_of : List Span → Option Span
  chosen_of fit = reduce sooner (fitting_or_hinted request all fit)

  -- some fit
  of_some : (key : ℕ) → IsFirstBy (is_suitable heap.chunks need) items key → IsChosen (Some key) (chosen_of (of_fitting_pages request all))
  of_some key first =
      let taken = first_kept items heap.ranges is tiled.tiling.stamps (is_suitable heap.chunks need) (of_fitting_pages request all) fit_kept fit_keeps key first in
      by_list (of_fitting_pages request all) taken
    where
      by_list : (l : List Span) → IsTakenBy items key (reduce sooner l) → IsTakenBy items key (chosen_of l)
      by_list [] taken = absurd (omega (arith, none_some taken.chosen))
        where
          none_some : {x : Span} → None ≡ Some x → 1 ≤ 0
          none_some off = cc
      by_list (y ∷ l) taken = taken

  -- none fits
  none_fits : HasNoneBy (is_suitable heap.chunks need) items → of_fitting_pages request all ≡ []
  none_fits none = none_kept items heap.ranges is tiled.tiling.stamps (is_suitable heap.chunks need) (of_fitting_pages request all) fit_kept fit_keeps none

  strictly_none : HasNoneBy (is_suitable heap.chunks need) items → is_hint request.flags ≡ false → chosen_of (of_fitting_pages request all) ≡ None
  strictly_none none off = ap chosen_of (none_fits none) ∙ ap (λ (b : Bool). reduce sooner (cond b all [])) off

  hinted : HasNoneBy (is_suitable heap.chunks need) items → is_hint request.flags ≡ true → chosen_of (of_fitting_pages request all) ≡ reduce sooner all
  hinted none on = ap chosen_of (none_fits none) ∙ ap (λ (b : Bool). reduce sooner (cond b all [])) on

  of_any : (found : Option ℕ) → FindsFirstSuitable heap.chunks any_need items found → IsChosen found (reduce sooner all)
  of_any None none = ap (λ (l : List Span). reduce sooner l) (none_kept items heap.ranges is tiled.tiling.stamps (is_suitable heap.chunks any_need) all any_kept any_keeps none)
  of_any (Some key) first = first_kept items heap.ranges is tiled.tiling.stamps (is_suitable heap.chunks any_need) all any_kept any_keeps key first

  by_fitting : (fitting found : Option ℕ) → FindsFirstSuitable heap.chunks need items fitting → (is_some fitting ≡ true → found ≡ fitting) → (is_some fitting ≡ false → is_hint request.flags ≡ false → found ≡ None)
      → (is_some fitting ≡ false → is_hint request.flags ≡ true → FindsFirstSuitable heap.chunks any_need items found) → IsChosen found (chosen_of (of_fitting_pages request all))
  by_fitting (Some key) found first some strict hint = subst (λ (o : Option ℕ). IsChosen o (chosen_of (of_fitting_pages request all))) (sym (some refl)) (of_some key first)
  by_fitting None found none some strict hint = elim (cases_Bool (is_hint request.flags)) [
    | inl on ↦ subst (λ (o : Option Span). IsChosen found o) (sym (hinted none on)) (of_any found (hint refl on))
    | inr off ↦ subst (λ (o : Option ℕ). IsChosen o (chosen_of (of_fitting_pages request all))) (sym (strict refl off)) (strictly_none none off)
  ]

  -- what the search finds is the choice
  pub search_is : (found : Option ℕ) → FindsChoice heap.chunks need items found → IsChosen found (chosen participant request heap)
  unfolding chosen eligible
  search_is found finds = by_fitting finds.fitting found finds.first finds.some finds.strict finds.hinted

-- what was found for a request
pub record IsFoundFor (request : Request) (items : Items) (key : ℕ) : Type 0 where
  pub found : Keyed Span
  pub among : Contains items found
  pub same : found.key ≡ key
  pub free : is_free found.value ≡ true
  pub place : has_place request found.value ≡ true

found_for : (chunks : List Chunk) (its : Need) (items : Items) (key : ℕ) → IsFirstBy (is_suitable chunks its) items key → IsFoundFor its.request items key
found_for chunks its items key first = record { found = first.found; among = first.among; same = first.same; free = first.free; place = (and_parts _ _ (and_parts _ _ first.passes).0).0 }

same_key : (key other : ℕ) → Some key ≡ Some other → other ≡ key
same_key key other is = cc

pub found_of : (chunks : List Chunk) (its : Need) (items : Items) (key : ℕ) → FindsChoice chunks its items (Some key) → IsFoundFor its.request items key
found_of chunks its items key finds = by_fitting finds.fitting finds.first finds.some finds.strict finds.hinted
  where
    by_fitting : (fitting : Option ℕ) → FindsFirstSuitable chunks its items fitting → (is_some fitting ≡ true → Some key ≡ fitting) → (is_some fitting ≡ false → is_hint its.request.flags ≡ false → Some key ≡ None)
        → (is_some fitting ≡ false → is_hint its.request.flags ≡ true → FindsFirstSuitable chunks (record its { any_page = true }) items (Some key)) → IsFoundFor its.request items key
    by_fitting (Some other) first some strict hint = found_for chunks its items key (subst (λ (k : ℕ). IsFirstBy (is_suitable chunks its) items k) (same_key key other (some refl)) first)
    by_fitting None none some strict hint = elim (cases_Bool (is_hint its.request.flags)) [
      | inl on ↦ found_for chunks (record its { any_page = true }) items key (hint refl on)
      | inr off ↦ absurd (omega (arith, none_is (strict refl off)))
    ]
      where
        none_is : Some key ≡ None → 1 ≤ 0
        none_is is = cc

-- of the header under its key
pub record IsFoundNode (request : Request) (node : Node) : Type 0 where
  pub free : is_free node.span ≡ true
  pub place : has_place request node.span ≡ true

pub found_node : (request : Request) (items : Items) (key : ℕ) (node : Node) → AreApart items → IsFoundFor request items key → Stands items key node → IsFoundNode request node
found_node request items key node apart found stands =
    let (front, back, is) = Contains-parts items found.found found.among in
    let one : found.found.value ≡ node.span = holds_of (λ span. span ≡ node.span) key items front found.found back apart is found.same (node_at items key node stands) in
    record { free = ap is_free (sym one) ∙ found.free; place = ap (has_place request) (sym one) ∙ found.place }

-- what an allocation leaves is the heap after it
pub record IsAfter (heap : PlainHeap) (participant : ℕ) (request : Request) (tag : Tag) (new : HeadersView) (result : Option ℕ) : Type 0 where
  pub ranges : spans_of new.items ≡ (after_alloc participant request tag heap).ranges
  pub insertions : new.insertions ≡ (after_alloc participant request tag heap).insertions
  pub address : result ≡ allocated participant request heap

module _ (heap : PlainHeap) (tiled : IsTiled heap) (participant : ℕ) (request : Request) (tag : Tag) (old new : HeadersView) (apart : AreApart old.items)
    (is : spans_of old.items ≡ heap.ranges) (insertions : old.insertions ≡ heap.insertions) where
  abbrev its_need : Need
  its_need = record { request = request; any_page = false; participant = participant; any_chunk = is_some heap.serves }

  left_after : IsLeft heap.chunks its_need old new → IsAfter heap participant request tag new None
  unfolding after_alloc allocated
  left_after left =
      let none : chosen participant request heap ≡ None = search_is heap tiled participant request old.items is None left.choice in
      record {
        ranges = ap spans_of left.items ∙ is ∙ ap (λ (o : Option Span). (after_choice o request tag heap).ranges) (sym none);
        insertions = left.insertions ∙ insertions ∙ ap (λ (o : Option Span). (after_choice o request tag heap).insertions) (sym none);
        address = ap (λ (o : Option Span). option_and_then (place_in request) o) (sym none);
      }

  placed_after : (address : ℕ) → IsPlacedAt heap.chunks its_need tag old new address → IsAfter heap participant request tag new (Some address)
  unfolding after_alloc allocated placed
  placed_after address at =
      let cut = at.cut in
      let taken = search_is heap tiled participant request old.items is (Some at.key) at.choice in
      let (front, back, parts) = Contains-parts old.items taken.found taken.among in
      let one : taken.found.value ≡ cut.found.value =
      holds_of (λ span. span ≡ cut.found.value) at.key old.items front taken.found back apart parts taken.same (record { front = cut.front; found = cut.found; back = cut.back; is = cut.is; same = cut.same; holds = refl }) in
      let choice : chosen participant request heap ≡ Some cut.found.value = taken.chosen ∙ ap (λ (s : Span). Some s) one in
      let whole : heap.ranges ≡ spans_of cut.front ++ (cut.found.value ∷ spans_of cut.back) = sym is ∙ ap spans_of cut.is ∙ spans-append cut.front (cut.found ∷ cut.back) in
      let part = parted heap cut.found.value (spans_of cut.front) (spans_of cut.back) tiled whole in
      record {
        ranges = cut.spans
            ∙ ap (λ (n : ℕ). spans_of cut.front ++ (pieces_of cut.found.value address request.size tag n ++ spans_of cut.back)) insertions
            ∙ sym (replaced-at cut.found.value.addr (pieces_of cut.found.value address request.size tag heap.insertions) (spans_of cut.front) cut.found.value (spans_of cut.back) part.below refl)
            ∙ ap (λ zs. replaced cut.found.value.addr (pieces_of cut.found.value address request.size tag heap.insertions) zs) (sym whole)
            ∙ ap (λ (o : Option ℕ). replaced cut.found.value.addr (pieces_of cut.found.value (unwrap_or o 0) request.size tag heap.insertions) heap.ranges) (sym at.place)
            ∙ ap (λ (o : Option Span). (after_choice o request tag heap).ranges) (sym choice);
        insertions = cut.insertions
            ∙ ap (λ (n : ℕ). insertions_of cut.found.value address request.size n) insertions
            ∙ ap (λ (o : Option ℕ). insertions_of cut.found.value (unwrap_or o 0) request.size heap.insertions) (sym at.place)
            ∙ ap (λ (o : Option Span). (after_choice o request tag heap).insertions) (sym choice);
        address = sym at.place ∙ ap (λ (o : Option Span). option_and_then (place_in request) o) (sym choice);
      }

  pub allocated_after : (result : Option ℕ) → IsAllocated heap.chunks its_need tag old new result → IsAfter heap participant request tag new result
  allocated_after None left = left_after left
  allocated_after (Some address) at = placed_after address at

-- the same, of the fields of a heap
pub alloc_after : (a : Inside) (participant : ℕ) (request : Request) (tag : Tag) (chunks : List Chunk) (any : Bool) (new : HeadersView) (result : Option ℕ) → IsHeap a → chunks ≡ a.chunks.items → any ≡ is_some a.serves
    → IsAllocated chunks (record { request = request; any_page = false; participant = participant; any_chunk = any }) tag a.headers new result → IsAfter (plain_of a) participant request tag new result
alloc_after a participant request tag chunks any new result heap same_chunks same_any allocation =
    allocated_after (plain_of a) heap.tiled participant request tag a.headers new heap.apart heap.ranges heap.insertions result
    (subst (λ (b : Bool). IsAllocated (plain_of a).chunks (record { request = request; any_page = false; participant = participant; any_chunk = b }) tag a.headers new result)
    (same_any ∙ ap (λ (o : Option ℕ). is_some o) (sym heap.serves))
    (subst (λ (l : List Chunk). IsAllocated l (record { request = request; any_page = false; participant = participant; any_chunk = any }) tag a.headers new result) (same_chunks ∙ heap.chunks) allocation))
