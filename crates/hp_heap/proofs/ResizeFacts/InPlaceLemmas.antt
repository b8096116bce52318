-- A resize over elements under keys, step by step.
use Rattle.std.proofs.Common.{◌≡◌, ℕ, ◌+◌, ◌-◌, ◌<◌, ◌≤◌, ◌^◌, ◌&&◌, Bool, true, false, cond, List, [], ◌∷◌, ◌++◌, refl, sym, ap, subst, ◌∙◌, arith, Some, None, leb}
use Rattle.std.proofs.lemmas.Bool.{and_parts, leb-true, leb-false}
use Rattle.hp_base.specs.declared.span.Span.{Span}
use Rattle.hp_base.specs.declared.span.SpanState.{SpanState}
use Rattle.hp_base.specs.declared.span.SpanState.TheVariants.{Free, Busy}
use Rattle.hp_base.specs.declared.tag.Tag.{Tag}
use Rattle.hp_chain.specs.Chain.{Keyed, AreApart}
use Rattle.hp_chain.specs.Edits.{edited}
use Rattle.hp_elem.specs.Items.{Items, IsAt, AreAt, Stands, restated, after_set, after_join}
use Rattle.hp_elem.specs.declared.node.Node.{Node}
use Rattle.hp_elem.proofs.IndexLemmas.{edit_is, join_is}
use Rattle.hp_heap.specs.PlainHeap.{end_of, is_free_state, pad_of_state}
use Rattle.hp_heap.specs.Tiling.{HasRoomFor, IsRisingFrom}
use Rattle.hp_heap.specs.Placing.{count_if}
use Rattle.hp_heap.specs.Resizing.{bytes_needed, bytes_together, is_next_free, with_size, resized}
use Rattle.hp_heap.specs.Headers.{HeadersView, spans_of, IsBusy, CanJoin}
use Rattle.hp_heap.specs.Cutting.{CanCutBehind, behind_if}
use Rattle.hp_heap.specs.Joins.{CanStretch}
use Rattle.hp_heap.specs.Finding.{IsOfHeap}
use Rattle.hp_heap.specs.InPlace.{IsSomeSize, IsGrowing, sized, first_free, has_rest, with_rest_if, KeepsBytes, TakesNext, LacksBytes}
use Rattle.hp_heap.proofs.RangeLemmas.{rising-back}
use Rattle.hp_heap.proofs.AllocFacts.SplitLemmas.{holds_of}
use Rattle.hp_heap.proofs.FreeFacts.JoiningLemmas.{spans-append, none_first, own_of, at_of, HasFirst, first, up_parts, above_is, above_can}
use Rattle.hp_heap.proofs.FindingLemmas.{own_element, own_space}
use Rattle.hp_heap.proofs.ResizeFacts.ResizeTiling.{free_resized}

-- a pad is small
pad_below : (whole : ℕ) (state : SpanState) → HasRoomFor whole state → pad_of_state state < 192
pad_below whole (Free stamp) room = omega arith
pad_below whole (Busy pad size tag) room = room.pad_small

-- what an element of a heap needs for a size is a number of 64 bits
pub need_fits : (headers : HeadersView) (key size : ℕ) (node : Node) → IsOfHeap headers → Stands headers.items key node → IsSomeSize size → bytes_needed node.span size < 2 ^ 64
need_fits headers key size node of_heap stands asked =
    omega (arith, pad_below node.span.whole node.span.state (own_element headers key node of_heap stands).busy, asked.most)

-- an element under a key with another size
pub sized_at : (P : Span → Type 0) (key size : ℕ) (items : Items) (at : IsAt P key items) → AreApart items
    → edited key (sized size) items ≡ at.front ++ (record { key = at.found.key; value = resized at.found.value at.found.value.whole size }) ∷ at.back
sized_at P key size items at apart = edit_is (sized size) P key items at apart

pub set_is : (key size pad old : ℕ) (tag : Tag) (items : Items) (node : Node) → AreApart items → Stands items key node → node.span.state ≡ Busy pad old tag
    → after_set key (Busy pad size tag) items ≡ edited key (sized size) items
set_is key size pad old tag items node apart stands is =
    edit_is (restated (Busy pad size tag)) (λ _. Unit {0}) key items (at_of key items node stands) apart
    ∙ ap (λ (s : SpanState). stands.front ++ (record { key = key; value = record node.span { state = s } }) ∷ stands.back) (sym (ap (λ (s : SpanState). with_size size s) is))
    ∙ sym (sized_at (λ _. Unit {0}) key size items (at_of key items node stands) apart)

-- the size is had in the element's own bytes
pub keeps_bytes : (key size : ℕ) (old new : HeadersView) (node : Node) → AreApart old.items → Stands old.items key node → bytes_needed node.span size ≤ node.span.whole
    → new.items ≡ edited key (sized size) old.items → new.insertions ≡ old.insertions → KeepsBytes key size old new
keeps_bytes key size old new node apart stands fits is count = record {
  front = stands.front;
  found = own_of key node;
  back = stands.back;
  is = stands.is;
  same = refl;
  fits = fits;
  spans = ap spans_of (is ∙ sized_at (λ _. Unit {0}) key size old.items (at_of key old.items node stands) apart)
      ∙ spans-append stands.front ((record { key = key; value = resized node.span node.span.whole size }) ∷ stands.back);
  insertions = count;
}

-- the element has too few bytes for it
pub grows_at : (key size : ℕ) (items : Items) (node : Node) → AreApart items → IsAt IsBusy key items → Stands items key node → node.span.whole < bytes_needed node.span size
    → IsAt (λ span. IsGrowing span size) key items
grows_at key size items node apart at stands more = record {
  front = stands.front;
  found = own_of key node;
  back = stands.back;
  is = stands.is;
  same = refl;
  holds = record { busy = holds_of IsBusy key items stands.front (own_of key node) stands.back apart stands.is refl at; more = more };
}

-- two elements as one, cut behind what the first needs
module _ (r n : Span) (key size : ℕ) where
  abbrev pub pair : Keyed Span
  pair = record { key = key; value = record r { whole = r.whole + n.whole } }

  abbrev pub sized_pair : Keyed Span
  sized_pair = record { key = key; value = resized pair.value (r.whole + n.whole) size }

  abbrev pieces_of_pair : ℕ → ℕ → ℕ → Items → List Span
  pieces_of_pair stamp low high rest =
      record r { whole = low; state = with_size size r.state } ∷ (record r { addr = r.addr + bytes_needed r size; whole = high; state = Free stamp } ∷ spans_of rest)

  pub cut_pair : (b : Bool) (new stamp : ℕ) (rest : Items)
      → spans_of (behind_if b (r.addr + bytes_needed r size) new stamp sized_pair rest) ≡ with_rest_if b r n size stamp ++ spans_of rest
  cut_pair true new stamp rest =
      ap (λ (low : ℕ). pieces_of_pair stamp low (r.addr + (r.whole + n.whole) - (r.addr + bytes_needed r size)) rest) (own_bytes (bytes_needed r size))
      ∙ ap (λ (high : ℕ). pieces_of_pair stamp (bytes_needed r size) high rest) (rest_bytes (bytes_needed r size))
    where
      own_bytes : (need : ℕ) → r.addr + need - r.addr ≡ need
      own_bytes need = omega arith

      rest_bytes : (need : ℕ) → r.addr + (r.whole + n.whole) - (r.addr + need) ≡ r.whole + n.whole - need
      rest_bytes need = omega arith
  cut_pair false new stamp rest = refl

module _ (headers : HeadersView) (key size : ℕ) (node : Node) (of_heap : IsOfHeap headers) (growing : IsAt (λ span. IsGrowing span size) key headers.items) (stands : Stands headers.items key node) where
  pub own : IsGrowing node.span size
  own = holds_of (λ span. IsGrowing span size) key headers.items stands.front (own_of key node) stands.back of_heap.apart stands.is refl growing

  pub can_stretch : IsAt CanStretch key headers.items
  can_stretch = record {
    front = stands.front;
    found = own_of key node;
    back = stands.back;
    is = stands.is;
    same = refl;
    holds = record { busy = own.busy; least = (own_element headers key node of_heap stands).size.least; end = (own_space headers key node of_heap stands).end };
  }

  pub own_end : end_of node.span < 2 ^ 64
  own_end = omega (arith, (own_space headers key node of_heap stands).end)

  lacks_bytes : bytes_together node.span (first_free node.span (spans_of stands.back)) < bytes_needed node.span size → LacksBytes key size headers headers
  lacks_bytes lacks = record { front = stands.front; found = own_of key node; back = stands.back; is = stands.is; same = refl; lacks = lacks; items = refl; insertions = refl }

  -- there is none behind it
  pub lacks_last : node.next ≡ None → LacksBytes key size headers headers
  lacks_last is =
      let none : stands.back ≡ [] = none_first stands.back (sym stands.next ∙ is) in
      lacks_bytes (subst (λ (zs : Items). bytes_together node.span (first_free node.span (spans_of zs)) < bytes_needed node.span size) (sym none) own.more)

  -- there is one behind it
  module _ (next : ℕ) (above : Node) (is : node.next ≡ Some next) (there : Stands headers.items next above) where
    abbrev top : HasFirst stands.back next
    top = first headers.items key node of_heap.apart can_stretch stands next above is there

    top_is : above.span ≡ top.first.value
    top_is = above_is headers.items key node of_heap.apart can_stretch stands next above is there

    abbrev second : Keyed Span
    second = record { key = next; value = above.span }

    second_is : second ≡ top.first
    second_is = ap (λ (k : ℕ). record { key = k; value = above.span }) (sym top.same) ∙ ap (λ (s : Span). record { key = top.first.key; value = s }) top_is

    parts : headers.items ≡ stands.front ++ own_of key node ∷ second ∷ top.back
    parts = up_parts headers.items key node of_heap.apart can_stretch stands next above is there
        ∙ ap (λ (e : Keyed Span). stands.front ++ own_of key node ∷ e ∷ top.back) (sym second_is)

    pub sum_fits : node.span.whole + above.span.whole < 2 ^ 64
    sum_fits =
        let rising = rising-back 0 (spans_of stands.front) (node.span ∷ (above.span ∷ spans_of top.back))
        (subst (λ zs. IsRisingFrom 0 zs) (ap spans_of parts ∙ spans-append stands.front (own_of key node ∷ second ∷ top.back)) of_heap.joinable.rising) in
        omega (arith, rising.1.0, (own_space headers next above of_heap there).end)

    -- it is no free one, or the two have too few bytes
    pub lacks_beside : (need : ℕ) → need ≡ bytes_needed node.span size → (is_next_free node.span above.span && leb need (node.span.whole + above.span.whole)) ≡ false → LacksBytes key size headers headers
    lacks_beside need need_is test =
        lacks_bytes (subst (λ (zs : Items). bytes_together node.span (first_free node.span (spans_of zs)) < bytes_needed node.span size) (sym back_is)
        (by_test (is_next_free node.span above.span) (subst (λ (k : ℕ). (is_next_free node.span above.span && leb k (node.span.whole + above.span.whole)) ≡ false) need_is test)))
      where
        back_is : stands.back ≡ second ∷ top.back
        back_is = top.is ∙ ap (λ (e : Keyed Span). e ∷ top.back) (sym second_is)

        by_test : (b : Bool) → (b && leb (bytes_needed node.span size) (node.span.whole + above.span.whole)) ≡ false
            → bytes_together node.span (cond b (Some above.span) None) < bytes_needed node.span size
        by_test true few = leb-false (bytes_needed node.span size) (node.span.whole + above.span.whole) few
        by_test false few = own.more

    -- or it is taken
    module _ (need : ℕ) (need_is : need ≡ bytes_needed node.span size) (test : (is_next_free node.span above.span && leb need (node.span.whole + above.span.whole)) ≡ true) where
      pub beside : is_next_free node.span above.span ≡ true
      beside = (and_parts (is_next_free node.span above.span) (leb need (node.span.whole + above.span.whole)) test).0

      pub enough : need ≤ node.span.whole + above.span.whole
      enough = leb-true need (node.span.whole + above.span.whole) (and_parts (is_next_free node.span above.span) (leb need (node.span.whole + above.span.whole)) test).1

      pub need_ends : node.span.addr + need < 2 ^ 64
      need_ends =
          let rising = rising-back 0 (spans_of stands.front) (node.span ∷ (above.span ∷ spans_of top.back))
          (subst (λ zs. IsRisingFrom 0 zs) (ap spans_of parts ∙ spans-append stands.front (own_of key node ∷ second ∷ top.back)) of_heap.joinable.rising) in
          omega (arith, enough, rising.1.0, (own_space headers next above of_heap there).end)

      module _ (state : SpanState) (one : HeadersView) (busy : is_free_state state ≡ false) (one_is : one.items ≡ after_set next state headers.items) (one_apart : AreApart one.items) where
        abbrev pub can_join : AreAt CanJoin key one.items
        can_join = above_can headers.items key node of_heap.apart can_stretch stands next above is there state one.items busy one_is beside

        module _ (two : HeadersView) (two_is : two.items ≡ after_join key one.items) (two_apart : AreApart two.items) where
          pub joined_parts : two.items ≡ stands.front ++ pair node.span above.span key size ∷ top.back
          joined_parts = two_is ∙ join_is CanJoin key one.items can_join one_apart
              ∙ ap (λ (w : ℕ). stands.front ++ (record { key = key; value = record node.span { whole = node.span.whole + w } }) ∷ top.back) (ap (λ (s : Span). s.whole) (sym top_is))

          abbrev pub pair_at : IsAt IsBusy key two.items
          pair_at = record { front = stands.front; found = pair node.span above.span key size; back = top.back; is = joined_parts; same = refl; holds = own.busy }

          module _ (three : HeadersView) (three_is : three.items ≡ edited key (sized size) two.items) (three_apart : AreApart three.items) where
            pub sized_parts : three.items ≡ stands.front ++ sized_pair node.span above.span key size ∷ top.back
            sized_parts = three_is ∙ sized_at IsBusy key size two.items pair_at two_apart

            abbrev pub can_cut : IsAt (CanCutBehind (leb 192 (node.span.whole + above.span.whole - need)) (node.span.addr + need)) key three.items
            can_cut = record {
              front = stands.front;
              found = sized_pair node.span above.span key size;
              back = top.back;
              is = sized_parts;
              same = refl;
              holds = record {
                busy = free_resized size node.span.state ∙ own.busy;
                inside = λ off. record { above = omega (arith, need_is); below = omega (arith, leb-true 192 (node.span.whole + above.span.whole - need) off) };
                least = λ off. omega (arith, leb-true 192 (node.span.whole + above.span.whole - need) off);
              };
            }

            pub takes_next : (four : HeadersView) (fresh : ℕ) → three.insertions ≡ headers.insertions
                → four.items ≡ edited key (behind_if (leb 192 (node.span.whole + above.span.whole - need)) (node.span.addr + need) fresh (three.insertions + 1)) three.items
                → four.insertions ≡ three.insertions + count_if (leb 192 (node.span.whole + above.span.whole - need)) → TakesNext key size headers four
            takes_next four fresh count four_is more = record {
              front = stands.front;
              found = own_of key node;
              next = second;
              back = top.back;
              is = parts;
              same = refl;
              beside = beside;
              more = own.more;
              fits = omega (arith, enough, need_is);
              spans = ap spans_of cut_parts
                  ∙ spans-append stands.front (cut_items (leb 192 (node.span.whole + above.span.whole - need)) need (three.insertions + 1))
                  ∙ ap (λ (k : ℕ). spans_of stands.front ++ spans_of (cut_items (leb 192 (node.span.whole + above.span.whole - k)) k (three.insertions + 1))) need_is
                  ∙ ap (λ (m : ℕ). spans_of stands.front ++ spans_of (cut_items (has_rest node.span above.span size) (bytes_needed node.span size) (m + 1))) count
                  ∙ ap (λ zs. spans_of stands.front ++ zs) (cut_pair node.span above.span key size (has_rest node.span above.span size) fresh (headers.insertions + 1) top.back);
              insertions = more
                  ∙ ap (λ (k : ℕ). three.insertions + count_if (leb 192 (node.span.whole + above.span.whole - k))) need_is
                  ∙ ap (λ (m : ℕ). m + count_if (has_rest node.span above.span size)) count;
            }
              where
                cut_items : Bool → ℕ → ℕ → Items
                cut_items b k stamp = behind_if b (node.span.addr + k) fresh stamp (sized_pair node.span above.span key size) top.back

                cut_parts : four.items ≡ stands.front ++ cut_items (leb 192 (node.span.whole + above.span.whole - need)) need (three.insertions + 1)
                cut_parts = four_is
                    ∙ edit_is (behind_if (leb 192 (node.span.whole + above.span.whole - need)) (node.span.addr + need) fresh (three.insertions + 1))
                    (CanCutBehind (leb 192 (node.span.whole + above.span.whole - need)) (node.span.addr + need)) key three.items can_cut three_apart
