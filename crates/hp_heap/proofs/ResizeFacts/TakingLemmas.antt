-- A stretch of pages is taken out of a free element, step by step.
use Rattle.std.proofs.Common.{◌≡◌, ℕ, ◌+◌, ◌-◌, ◌<◌, ◌≤◌, Bool, true, false, cond, List, [], ◌∷◌, ◌++◌, refl, sym, ap, ◌∙◌, arith, append_assoc, nat_lt}
use Rattle.std.proofs.lemmas.Bool.{ltb-true}
use Rattle.hp_base.specs.declared.span.Span.{Span}
use Rattle.hp_base.specs.declared.span.SpanState.{SpanState}
use Rattle.hp_base.specs.declared.span.SpanState.TheVariants.{Free}
use Rattle.hp_chain.specs.Chain.{Keyed, AreApart}
use Rattle.hp_chain.specs.Edits.{edited, without_key}
use Rattle.hp_elem.specs.Items.{Items, IsAt, after_set, restated, lower_part, upper_part}
use Rattle.hp_heap.specs.PlainHeap.{end_of, is_free, is_free_state, freed}
use Rattle.hp_heap.specs.Placing.{only_if, count_if}
use Rattle.hp_heap.specs.Cut.{IsRest, rests_of}
use Rattle.hp_heap.specs.Headers.{IsBusy, spans_of}
use Rattle.hp_heap.specs.Cutting.{CanCutBehind, CanCutBefore, behind_if, before_if}
use Rattle.hp_heap.specs.PageCutting.{CanTakeOut, bare_cut}
use Rattle.hp_heap.proofs.AllocFacts.SplitLemmas.{edited_in, without_in, spans-append}

-- a rest that is something is large enough
some_rest : (rest : ℕ) → IsRest rest → 0 < rest → 192 ≤ rest
some_rest rest (Rattle.std.proofs.Common.inl none) some = absurd (omega (arith, none, some))
some_rest rest (Rattle.std.proofs.Common.inr large) some = large

-- the parts of an element that is made busy: the stretch, what is behind it and what is before it
module _ (r : Span) (state : SpanState) (from to n key new middle : ℕ) where
  abbrev held : Keyed Span
  held = record { key = key; value = record r { state = state } }

  abbrev kept_part : Bool → Keyed Span
  kept_part B = cond B (record held { value = lower_part to held.value }) held

  abbrev behind_part : Bool → Items → Items
  behind_part B back = cond B ((record { key = new; value = freed (n + 1) (upper_part to held.value) }) ∷ back) back

  abbrev front_part : Bool → Bool → Items
  front_part F B = cond F ((record { key = key; value = freed (n + count_if B + 1) (lower_part from (kept_part B).value) }) ∷ []) []

  abbrev middle_part : Bool → Bool → Keyed Span
  middle_part F B = record { key = middle; value = cond F (upper_part from (kept_part B).value) (kept_part B).value }

  held_is : (e : Keyed Span) → e.key ≡ key → e.value ≡ r → (record { key = e.key; value = record e.value { state = state } }) ≡ held
  held_is e same value =
      ap (λ (k : ℕ). record { key = k; value = record e.value { state = state } }) same
      ∙ ap (λ (s : Span). record { key = key; value = record s { state = state } }) value

  kept_key : (B : Bool) → (kept_part B).key ≡ key
  kept_key true = refl
  kept_key false = refl

  behind_split : (B : Bool) (back : Items) → behind_if B to new (n + 1) held back ≡ kept_part B ∷ behind_part B back
  behind_split true back = refl
  behind_split false back = refl

  before_split : (F B : Bool) (tail : Items) → (F ≡ false → middle ≡ key)
      → before_if F from middle (n + count_if B + 1) (kept_part B) tail ≡ front_part F B ++ middle_part F B ∷ tail
  before_split true true tail stays = refl
  before_split true false tail stays = refl
  before_split false true tail stays = ap (λ (k : ℕ). (record { key = k; value = lower_part to held.value }) ∷ tail) (sym (stays refl))
  before_split false false tail stays = ap (λ (k : ℕ). (record { key = k; value = held.value }) ∷ tail) (sym (stays refl))

  -- the elements after each step
  module _ (F B : Bool) (front back : Items) where
    pub held_items : (old one : Items) (e : Keyed Span) → AreApart old → old ≡ front ++ e ∷ back → e.key ≡ key → e.value ≡ r → one ≡ after_set key state old → one ≡ front ++ held ∷ back
    held_items old one e apart is same value taken =
        taken ∙ edited_in (restated state) key old front e back apart is same ∙ ap (λ (o : Keyed Span). front ++ o ∷ back) (held_is e same value)

    pub behind_items : (one two : Items) → AreApart one → one ≡ front ++ held ∷ back → two ≡ edited key (behind_if B to new (n + 1)) one → two ≡ front ++ kept_part B ∷ behind_part B back
    behind_items one two apart is cut =
        cut ∙ edited_in (behind_if B to new (n + 1)) key one front held back apart is refl ∙ ap (λ (zs : Items). front ++ zs) (behind_split B back)

    pub before_items : (two three : Items) → AreApart two → two ≡ front ++ kept_part B ∷ behind_part B back → three ≡ edited key (before_if F from middle (n + count_if B + 1)) two
        → (F ≡ false → middle ≡ key) → three ≡ (front ++ front_part F B) ++ middle_part F B ∷ behind_part B back
    before_items two three apart is cut stays =
        cut ∙ edited_in (before_if F from middle (n + count_if B + 1)) key two front (kept_part B) (behind_part B back) apart is (kept_key B)
        ∙ ap (λ (zs : Items). front ++ zs) (before_split F B (behind_part B back) stays)
        ∙ sym (append_assoc front (front_part F B) (middle_part F B ∷ behind_part B back))

    pub hidden_items : (three four : Items) → AreApart three → three ≡ (front ++ front_part F B) ++ middle_part F B ∷ behind_part B back → four ≡ without_key middle three
        → four ≡ (front ++ front_part F B) ++ behind_part B back
    hidden_items three four apart is hidden = hidden ∙ without_in middle three (front ++ front_part F B) (middle_part F B) (behind_part B back) apart is refl

  -- the rests
  abbrev rests_with : Bool → Bool → List Span
  rests_with F B =
      only_if F (record r { whole = from - r.addr; state = Free (n + count_if B + 1) })
      ++ only_if B (record r { addr = to; whole = end_of r - to; state = Free (n + 1) })

  parts_are : (F B : Bool) (back : Items) → spans_of (front_part F B) ++ spans_of (behind_part B back) ≡ rests_with F B ++ spans_of back
  parts_are true true back = refl
  parts_are true false back = refl
  parts_are false true back = refl
  parts_are false false back = refl

  pub left_spans : (F B : Bool) (front back four : Items) → F ≡ nat_lt r.addr from → B ≡ nat_lt to (end_of r) → four ≡ (front ++ front_part F B) ++ behind_part B back
      → spans_of four ≡ spans_of front ++ (rests_of (bare_cut r from to) n ++ spans_of back)
  left_spans F B front back four before behind is =
      ap spans_of is ∙ spans-append (front ++ front_part F B) (behind_part B back)
      ∙ ap (λ (zs : List Span). zs ++ spans_of (behind_part B back)) (spans-append front (front_part F B))
      ∙ append_assoc (spans_of front) (spans_of (front_part F B)) (spans_of (behind_part B back))
      ∙ ap (λ (zs : List Span). spans_of front ++ zs) (parts_are F B back)
      ∙ ap (λ (b : Bool). spans_of front ++ (rests_with b B ++ spans_of back)) before
      ∙ ap (λ (b : Bool). spans_of front ++ (rests_with (nat_lt r.addr from) b ++ spans_of back)) behind

  -- each step may be done
  module _ (busy : is_free_state state ≡ false) (can : CanTakeOut from to r) (front back : Items) where
    pub may_cut_behind : (B : Bool) (one : Items) → one ≡ front ++ held ∷ back → B ≡ nat_lt to (end_of r) → IsAt (CanCutBehind B to) key one
    may_cut_behind B one is test = record {
      front = front;
      found = held;
      back = back;
      is = is;
      same = refl;
      holds = record {
        busy = busy;
        inside = λ on. record { above = omega (arith, can.cut.some, can.cut.before); below = ltb-true to (end_of r) (sym test ∙ on) };
        least = λ on. some_rest (end_of r - to) can.cut.rest_behind (let less : to < end_of r = ltb-true to (end_of r) (sym test ∙ on) in omega (arith, less));
      };
    }

    kept_busy : (B : Bool) → is_free (kept_part B).value ≡ false
    kept_busy true = busy
    kept_busy false = busy

    kept_addr : (B : Bool) → (kept_part B).value.addr ≡ r.addr
    kept_addr true = refl
    kept_addr false = refl

    kept_end : (B : Bool) → to ≤ end_of (kept_part B).value
    kept_end true = omega (arith, can.cut.some, can.cut.before)
    kept_end false = can.cut.behind

    pub may_cut_before : (F B : Bool) (two : Items) → two ≡ front ++ kept_part B ∷ behind_part B back → F ≡ nat_lt r.addr from → IsAt (CanCutBefore F from) key two
    may_cut_before F B two is test = record {
      front = front;
      found = kept_part B;
      back = behind_part B back;
      is = is;
      same = kept_key B;
      holds = record {
        busy = kept_busy B;
        inside = λ on. record { above = (let less : r.addr < from = ltb-true r.addr from (sym test ∙ on) in omega (arith, less, kept_addr B)); below = omega (arith, can.cut.some, kept_end B) };
        least = λ on. (let less : r.addr < from = ltb-true r.addr from (sym test ∙ on) in
            let large : 192 ≤ from - r.addr = some_rest (from - r.addr) can.cut.rest_before (omega (arith, less)) in
            omega (arith, large, kept_addr B));
      };
    }

    middle_busy : (F B : Bool) → is_free (middle_part F B).value ≡ false
    middle_busy true B = kept_busy B
    middle_busy false B = kept_busy B

    pub may_hide : (F B : Bool) (three : Items) → three ≡ (front ++ front_part F B) ++ middle_part F B ∷ behind_part B back → IsAt IsBusy middle three
    may_hide F B three is = record { front = front ++ front_part F B; found = middle_part F B; back = behind_part B back; is = is; same = refl; holds = middle_busy F B }
