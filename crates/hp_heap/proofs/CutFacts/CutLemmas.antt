-- A request is cut out of a free element, step by step.
use Rattle.std.proofs.Common.{◌≡◌, ℕ, ◌+◌, ◌-◌, ◌<◌, ◌≤◌, Bool, true, false, cond, List, [], ◌∷◌, ◌++◌, refl, sym, ap, ◌∙◌, arith, append_assoc}
use Rattle.std.proofs.lemmas.Bool.{ltb-true, leb-true}
use Rattle.hp_base.specs.declared.span.Span.{Span}
use Rattle.hp_base.specs.declared.span.SpanState.TheVariants.{Free, Busy}
use Rattle.hp_base.specs.declared.tag.Tag.{Tag}
use Rattle.hp_chain.specs.Chain.{Keyed, AreApart}
use Rattle.hp_chain.specs.Edits.{edited}
use Rattle.hp_elem.specs.Items.{Items, IsAt, Stands, after_set, after_split, cut_at, restated, lower_part, upper_part}
use Rattle.hp_elem.specs.declared.node.Node.{Node}
use Rattle.hp_heap.specs.PlainHeap.{end_of, freed}
use Rattle.hp_heap.specs.Placing.{has_rest_before, has_rest_behind, busy_start, pieces_with, pieces_of, insertions_of, count_if}
use Rattle.hp_heap.specs.Headers.{CanInsert, spans_of}
use Rattle.hp_heap.specs.Cutting.{IsCarving, CanCutBehind, CanCutBefore, behind_if, before_if}
use Rattle.hp_heap.proofs.AllocFacts.SplitLemmas.{edited_in, holds_of, spans-append}

-- where nothing is cut off all stays
pub behind_none : (P : Span → Type 0) (some : Bool) (at new stamp key : ℕ) (items : Items) → some ≡ false → AreApart items → IsAt P key items → items ≡ edited key (behind_if some at new stamp) items
behind_none P some at new stamp key items none apart here =
    here.is ∙ ap (λ (b : Bool). here.front ++ behind_if b at new stamp here.found here.back) (sym none)
    ∙ sym (edited_in (behind_if some at new stamp) key items here.front here.found here.back apart here.is here.same)

pub before_none : (P : Span → Type 0) (some : Bool) (at new stamp key : ℕ) (items : Items) → some ≡ false → AreApart items → IsAt P key items → items ≡ edited key (before_if some at new stamp) items
before_none P some at new stamp key items none apart here =
    here.is ∙ ap (λ (b : Bool). here.front ++ before_if b at new stamp here.found here.back) (sym none)
    ∙ sym (edited_in (before_if some at new stamp) key items here.front here.found here.back apart here.is here.same)

module _ (old cut : Items) (some : Bool) (at new key : ℕ) (off : some ≡ true) (apart : AreApart old) (cut_apart : AreApart cut) (is : cut ≡ after_split key at new old) where
  -- the part behind
  module _ (here : IsAt (CanCutBehind some at) key old) where
    abbrev lower : Keyed Span
    lower = record { key = here.found.key; value = lower_part at here.found.value }

    abbrev upper : Keyed Span
    upper = record { key = new; value = upper_part at here.found.value }

    now : cut ≡ (here.front ++ lower ∷ []) ++ upper ∷ here.back
    now = is ∙ edited_in (cut_at at new) key old here.front here.found here.back apart here.is here.same ∙ sym (append_assoc here.front (lower ∷ []) (upper ∷ here.back))

    pub behind_busy : IsAt CanInsert new cut
    behind_busy = record { front = here.front ++ lower ∷ []; found = upper; back = here.back; is = now; same = refl; holds = record { busy = here.holds.busy; least = here.holds.least off } }

    pub behind_done : (stamp : ℕ) → after_set new (Free stamp) cut ≡ edited key (behind_if some at new stamp) old
    behind_done stamp =
        edited_in (restated (Free stamp)) new cut (here.front ++ lower ∷ []) upper here.back cut_apart now refl
        ∙ append_assoc here.front (lower ∷ []) ((record { key = new; value = freed stamp (upper_part at here.found.value) }) ∷ here.back)
        ∙ ap (λ (b : Bool). here.front ++ behind_if b at new stamp here.found here.back) (sym off)
        ∙ sym (edited_in (behind_if some at new stamp) key old here.front here.found here.back apart here.is here.same)

  -- the part before
  module _ (here : IsAt (CanCutBefore some at) key old) where
    abbrev lower_rest : Keyed Span
    lower_rest = record { key = here.found.key; value = lower_part at here.found.value }

    abbrev upper_busy : Keyed Span
    upper_busy = record { key = new; value = upper_part at here.found.value }

    now_before : cut ≡ here.front ++ lower_rest ∷ upper_busy ∷ here.back
    now_before = is ∙ edited_in (cut_at at new) key old here.front here.found here.back apart here.is here.same

    pub before_busy : IsAt CanInsert key cut
    before_busy = record { front = here.front; found = lower_rest; back = upper_busy ∷ here.back; is = now_before; same = here.same; holds = record { busy = here.holds.busy; least = here.holds.least off } }

    pub before_done : (stamp : ℕ) → after_set key (Free stamp) cut ≡ edited key (before_if some at new stamp) old
    before_done stamp =
        edited_in (restated (Free stamp)) key cut here.front lower_rest (upper_busy ∷ here.back) cut_apart now_before here.same
        ∙ ap (λ (b : Bool). here.front ++ before_if b at new stamp here.found here.back) (sym off)
        ∙ sym (edited_in (before_if some at new stamp) key old here.front here.found here.back apart here.is here.same)

-- where something is cut off, it may be
pub may_split_behind : (some : Bool) (at key : ℕ) (items : Items) → some ≡ true → IsAt (CanCutBehind some at) key items → IsAt (Rattle.hp_heap.specs.Headers.CanSplit at) key items
may_split_behind some at key items off here =
    record { front = here.front; found = here.found; back = here.back; is = here.is; same = here.same; holds = record { busy = here.holds.busy; inside = here.holds.inside off } }

pub may_split_before : (some : Bool) (at key : ℕ) (items : Items) → some ≡ true → IsAt (CanCutBefore some at) key items → IsAt (Rattle.hp_heap.specs.Headers.CanSplit at) key items
may_split_before some at key items off here =
    record { front = here.front; found = here.found; back = here.back; is = here.is; same = here.same; holds = record { busy = here.holds.busy; inside = here.holds.inside off } }

-- the busy element without the part behind, and what is then behind it
module _ (r : Span) (d size n key new later : ℕ) (tag : Tag) (carving : IsCarving r d size) (F B : Bool) where
  abbrev pub taken : Keyed Span
  taken = record { key = key; value = record r { state = Busy (d - 128 - busy_start F r d) size tag } }

  abbrev pub kept_one : Keyed Span
  kept_one = cond B (record taken { value = lower_part (d + size) taken.value }) taken

  abbrev pub behind_it : Items → Items
  behind_it back = cond B ((record { key = new; value = freed (n + 1) (upper_part (d + size) taken.value) }) ∷ back) back

-- the steps' elements are the pieces
module _ (r : Span) (d size n key new later : ℕ) (tag : Tag) (carving : IsCarving r d size) where
  same_whole : (addr state_pad w v : ℕ) → w ≡ v → ◌≡◌ {A = Span} (record r { addr = addr; whole = w; state = Busy state_pad size tag }) (record r { addr = addr; whole = v; state = Busy state_pad size tag })
  same_whole addr state_pad w v is = ap (λ (k : ℕ). record r { addr = addr; whole = k; state = Busy state_pad size tag }) is

  behind_split : (F B : Bool) (back : Items) → behind_if B (d + size) new (n + 1) (taken r d size n key new later tag carving F B) back ≡ kept_one r d size n key new later tag carving F B ∷ behind_it r d size n key new later tag carving F B back
  behind_split F true back = refl
  behind_split F false back = refl

  pub carved : (F B : Bool) (back : Items)
      → spans_of (before_if F (d - 128) later (n + count_if B + 1) (kept_one r d size n key new later tag carving F B) (behind_it r d size n key new later tag carving F B back)) ≡ pieces_with F B r d size tag n ++ spans_of back
  carved true true back =
      ap (λ (s : Span). record r { whole = d - 128 - r.addr; state = Free (n + 1 + 1) } ∷ s ∷ (record r { addr = d + size; whole = end_of r - (d + size); state = Free (n + 1) } ∷ spans_of back))
      (same_whole (d - 128) (d - 128 - (d - 128)) (r.addr + (d + size - r.addr) - (d - 128)) (d + size - (d - 128)) (omega (arith, carving.within.before)))
  carved true false back = refl
  carved false true back = refl
  carved false false back =
      ap (λ (s : Span). s ∷ spans_of back) (same_whole r.addr (d - 128 - r.addr) r.whole (end_of r - r.addr) (omega arith))

  -- after the three steps
  pub carved_items : (F B : Bool) (old one two three front back : Items) (e : Keyed Span) → AreApart old → AreApart one → AreApart two → old ≡ front ++ e ∷ back → e.key ≡ key → e.value ≡ r
      → one ≡ after_set key (Busy (d - 128 - busy_start F r d) size tag) old
      → two ≡ edited key (behind_if B (d + size) new (n + 1)) one
      → three ≡ edited key (before_if F (d - 128) later (n + count_if B + 1)) two
      → F ≡ has_rest_before r d → B ≡ has_rest_behind r d size
      → spans_of three ≡ spans_of front ++ (pieces_of r d size tag n ++ spans_of back)
  unfolding pieces_of
  carved_items F B old one two three front back e apart one_apart two_apart is same value first second third before behind =
      let t : Keyed Span = taken r d size n key new later tag carving F B in
      let k : Keyed Span = kept_one r d size n key new later tag carving F B in
      let one_is : one ≡ front ++ t ∷ back = first ∙ edited_in (restated (Busy (d - 128 - busy_start F r d) size tag)) key old front e back apart is same
      ∙ ap (λ (o : Keyed Span). front ++ o ∷ back) (element_is e t same (ap (λ (s : Span). record s { state = Busy (d - 128 - busy_start F r d) size tag }) value)) in
      let two_is : two ≡ front ++ k ∷ behind_it r d size n key new later tag carving F B back =
      second ∙ edited_in (behind_if B (d + size) new (n + 1)) key one front t back one_apart one_is refl ∙ ap (λ (zs : Items). front ++ zs) (behind_split F B back) in
      let three_is : three ≡ front ++ before_if F (d - 128) later (n + count_if B + 1) k (behind_it r d size n key new later tag carving F B back) =
      third ∙ edited_in (before_if F (d - 128) later (n + count_if B + 1)) key two front k (behind_it r d size n key new later tag carving F B back) two_apart two_is (kept_key B) in
      ap spans_of three_is
      ∙ spans-append front (before_if F (d - 128) later (n + count_if B + 1) k (behind_it r d size n key new later tag carving F B back))
      ∙ ap (λ (zs : List Span). spans_of front ++ zs) (carved F B back)
      ∙ ap (λ (b : Bool). spans_of front ++ (pieces_with b B r d size tag n ++ spans_of back)) before
      ∙ ap (λ (b : Bool). spans_of front ++ (pieces_with (has_rest_before r d) b r d size tag n ++ spans_of back)) behind
    where
      element_is : (e t : Keyed Span) → e.key ≡ t.key → (record e.value { state = t.value.state }) ≡ t.value → (record { key = e.key; value = record e.value { state = t.value.state } }) ≡ t
      element_is e t same value = ap (λ (k : ℕ). record { key = k; value = record e.value { state = t.value.state } }) same ∙ ap (λ (s : Span). record { key = t.key; value = s }) value

      kept_key : (b : Bool) → (kept_one r d size n key new later tag carving F b).key ≡ key
      kept_key true = refl
      kept_key false = refl

  -- the conditions of the second and the third
  pub may_cut_behind : (F B : Bool) (old one : Items) → AreApart old → IsAt (λ span. span ≡ r) key old → one ≡ after_set key (Busy (d - 128 - busy_start F r d) size tag) old → B ≡ has_rest_behind r d size
      → IsAt (CanCutBehind B (d + size)) key one
  may_cut_behind F B old one apart here first behind = record {
    front = here.front;
    found = record { key = here.found.key; value = record here.found.value { state = Busy (d - 128 - busy_start F r d) size tag } };
    back = here.back;
    is = first ∙ edited_in (restated (Busy (d - 128 - busy_start F r d) size tag)) key old here.front here.found here.back apart here.is here.same;
    same = here.same;
    holds = record {
      busy = refl;
      inside = λ off. record { above = omega (arith, carving.within.before, addr_is); below = omega (arith, more off, addr_is, whole_is) };
      least = λ off. omega (arith, more off, addr_is, whole_is);
    };
  }
    where
      addr_is : here.found.value.addr ≡ r.addr
      addr_is = ap (λ (s : Span). s.addr) here.holds

      whole_is : here.found.value.whole ≡ r.whole
      whole_is = ap (λ (s : Span). s.whole) here.holds

      more : B ≡ true → 192 < end_of r - (d + size)
      more off = ltb-true 192 (end_of r - (d + size)) (sym behind ∙ off)

  pub may_cut_before : (F B : Bool) (old one two : Items) → AreApart old → AreApart one → IsAt (λ span. span ≡ r) key old → one ≡ after_set key (Busy (d - 128 - busy_start F r d) size tag) old
      → two ≡ edited key (behind_if B (d + size) new (n + 1)) one → F ≡ has_rest_before r d → IsAt (CanCutBefore F (d - 128)) key two
  may_cut_before F B old one two apart one_apart here first second before =
      let t : Keyed Span = record { key = here.found.key; value = record here.found.value { state = Busy (d - 128 - busy_start F r d) size tag } } in
      let one_is : one ≡ here.front ++ t ∷ here.back = first ∙ edited_in (restated (Busy (d - 128 - busy_start F r d) size tag)) key old here.front here.found here.back apart here.is here.same in
      by_behind B t refl addr_is whole_is (second ∙ edited_in (behind_if B (d + size) new (n + 1)) key one here.front t here.back one_apart one_is here.same) here.same
    where
      addr_is : here.found.value.addr ≡ r.addr
      addr_is = ap (λ (s : Span). s.addr) here.holds

      whole_is : here.found.value.whole ≡ r.whole
      whole_is = ap (λ (s : Span). s.whole) here.holds

      room : F ≡ true → 192 ≤ d - 128 - r.addr
      room off = leb-true 192 (d - 128 - r.addr) (sym before ∙ off)

      by_behind : (b : Bool) (t : Keyed Span) → Rattle.hp_heap.specs.PlainHeap.is_free t.value ≡ false → t.value.addr ≡ r.addr → t.value.whole ≡ r.whole
          → two ≡ here.front ++ behind_if b (d + size) new (n + 1) t here.back → t.key ≡ key → IsAt (CanCutBefore F (d - 128)) key two
      by_behind true t busy addr whole is same = record {
        front = here.front;
        found = record t { value = lower_part (d + size) t.value };
        back = (record { key = new; value = freed (n + 1) (upper_part (d + size) t.value) }) ∷ here.back;
        is = is;
        same = same;
        holds = record {
          busy = busy;
          inside = λ off. record { above = omega (arith, room off, addr); below = omega (arith, addr, carving.within.before, carving.some) };
          least = λ off. omega (arith, room off, addr);
        };
      }
      by_behind false t busy addr whole is same = record {
        front = here.front;
        found = t;
        back = here.back;
        is = is;
        same = same;
        holds = record {
          busy = busy;
          inside = λ off. record { above = omega (arith, room off, addr); below = omega (arith, addr, whole, carving.within.before, carving.within.behind, carving.some) };
          least = λ off. omega (arith, room off, addr);
        };
      }

-- the header of the element that is cut
pub carving_of : (items : Items) (key : ℕ) (node : Node) (address size : ℕ) → AreApart items → IsAt (λ span. IsCarving span address size) key items → Stands items key node → IsCarving node.span address size
carving_of items key node address size apart at stands =
    holds_of (λ span. IsCarving span address size) key items stands.front (record { key = key; value = node.span }) stands.back apart stands.is refl at

pub node_at : (items : Items) (key : ℕ) (node : Node) → Stands items key node → IsAt (λ span. span ≡ node.span) key items
node_at items key node stands = record { front = stands.front; found = record { key = key; value = node.span }; back = stands.back; is = stands.is; same = refl; holds = refl }

-- the insertions after the three steps
pub carved_insertions : (F B : Bool) (e r : Span) (d size n one two three : ℕ) → e ≡ r → one ≡ n → two ≡ one + count_if B → three ≡ two + count_if F → F ≡ has_rest_before r d → B ≡ has_rest_behind r d size
    → three ≡ insertions_of e d size n
unfolding insertions_of
carved_insertions F B e r d size n one two three same first second third before behind =
    third ∙ ap (λ (k : ℕ). k + count_if F) (second ∙ ap (λ (k : ℕ). k + count_if B) first)
    ∙ ap (λ (b : Bool). n + count_if B + count_if b) before
    ∙ ap (λ (b : Bool). n + count_if b + count_if (has_rest_before r d)) behind
    ∙ ap (λ (s : Span). n + count_if (has_rest_behind s d size) + count_if (has_rest_before s d)) (sym same)
