-- How elements are found under keys.
use Rattle.std.proofs.Common.{◌≡◌, ℕ, ◌+◌, ◌-◌, ◌<◌, ◌≤◌, ◌^◌, ◌⊎◌, inl, inr, Bool, true, false, [], ◌∷◌, ◌++◌, Option, Some, None, refl, sym, ap, subst, ◌∙◌, arith, nat_eq}
use Rattle.std.proofs.lemmas.Bool.{cond-true, cond-false, and_parts, eqb-true, eqb-false, false≢true, cases_lt, not-true}
use Rattle.std.proofs.lemmas.Option.{same_Some, none-some}
use Rattle.std.specs.List.{find, AllByRecursion}
use Rattle.std.specs.Option.{option_map}
use Rattle.hp_base.specs.declared.span.Span.{Span}
use Rattle.hp_base.specs.declared.span.SpanState.{SpanState}
use Rattle.hp_base.specs.declared.span.SpanState.TheVariants.{Free, Busy}
use Rattle.hp_chain.specs.Chain.{Keyed, AreApart, has_key}
use Rattle.hp_elem.specs.declared.node.Node.{Node}
use Rattle.hp_elem.specs.Items.{Items, IsAt, Stands, begins_at, key_from}
use Rattle.hp_elem.proofs.ChainLemmas.{has_at}
use Rattle.hp_heap.specs.PlainHeap.{end_of, is_free, data_address, pad_of_state}
use Rattle.hp_heap.specs.Tiling.{IsElement, IsRisingFrom, HasRoomFor}
use Rattle.hp_heap.specs.FreeSearch.{HasSpace}
use Rattle.hp_heap.specs.Joining.{has_data_at}
use Rattle.hp_heap.specs.Headers.{HeadersView, spans_of}
use Rattle.hp_heap.specs.Finding.{IsOfHeap, HasDataAt, LacksData, FindsPadded, FindsData}
use Rattle.hp_heap.proofs.RangeLemmas.{AllByRecursion-back}
use Rattle.hp_heap.proofs.HistoryFacts.BusyLemmas.{data_within, busy}
use Rattle.hp_heap.proofs.FreeFacts.JoiningLemmas.{spans-append, one_value}

-- an element that a search finds, with what stands on both sides of it
pub record IsFoundBy (p : Keyed Span → Bool) (items : Items) (e : Keyed Span) : Type 0 where
  pub front : Items
  pub back : Items
  pub is : items ≡ front ++ e ∷ back
  pub passes : p e ≡ true

pub found_by : (p : Keyed Span → Bool) (items : Items) (e : Keyed Span) → find p items ≡ Some e → IsFoundBy p items e
found_by p [] e is = absurd (none-some e is)
found_by p (x ∷ xs) e is = by_test (p x) refl (found_by p xs e)
  where
    by_test : (b : Bool) → p x ≡ b → (find p xs ≡ Some e → IsFoundBy p xs e) → IsFoundBy p (x ∷ xs) e
    by_test true passes more =
        let same : x ≡ e = same_Some x e (sym (cond-true (p x) (Some x) (find p xs) passes) ∙ is) in
        record { front = []; back = xs; is = ap (λ (y : Keyed Span). y ∷ xs) same; passes = subst (λ (y : Keyed Span). p y ≡ true) same passes }
    by_test false fails more =
        let rest = more (sym (cond-false (p x) (Some x) (find p xs) fails) ∙ is) in
        record { front = x ∷ rest.front; back = rest.back; is = ap (λ (zs : Items). x ∷ zs) rest.is; passes = rest.passes }

-- a search among elements is one under their keys
pub find-spans : (q : Span → Bool) (items : Items) → find q (spans_of items) ≡ option_map (λ (e : Keyed Span). e.value) (find (λ e. q e.value) items)
find-spans q [] = refl
find-spans q (x ∷ xs) = by_test (q x.value) refl (find-spans q xs)
  where
    by_test : (b : Bool) → q x.value ≡ b → find q (spans_of xs) ≡ option_map (λ (e : Keyed Span). e.value) (find (λ e. q e.value) xs) → find q (spans_of (x ∷ xs)) ≡ option_map (λ (e : Keyed Span). e.value) (find (λ e. q e.value) (x ∷ xs))
    by_test true is more =
        cond-true (q x.value) (Some x.value) (find q (spans_of xs)) is
        ∙ sym (ap (λ (o : Option (Keyed Span)). option_map (λ (e : Keyed Span). e.value) o) (cond-true (q x.value) (Some x) (find (λ (e : Keyed Span). q e.value) xs) is))
    by_test false is more =
        cond-false (q x.value) (Some x.value) (find q (spans_of xs)) is ∙ more
        ∙ sym (ap (λ (o : Option (Keyed Span)). option_map (λ (e : Keyed Span). e.value) o) (cond-false (q x.value) (Some x) (find (λ (e : Keyed Span). q e.value) xs) is))

-- the key that a search gives is that of what it found
keyed_some : (key : ℕ) (o : Option (Keyed Span)) → option_map (λ (e : Keyed Span). e.key) o ≡ Some key → (e : Keyed Span) × (o ≡ Some e) × (e.key ≡ key)
keyed_some key None is = absurd (none-some key is)
keyed_some key (Some e) is = (e, refl, same_Some e.key key is)

keyed_none : (o : Option (Keyed Span)) → option_map (λ (e : Keyed Span). e.key) o ≡ None → o ≡ None
keyed_none None is = refl
keyed_none (Some e) is = absurd (none-some e.key (sym is))

pub found_none : (p : Keyed Span → Bool) (items : Items) → option_map (λ (e : Keyed Span). e.key) (find p items) ≡ None → find p items ≡ None
found_none p items is = keyed_none (find p items) is

pub record IsKeyFound (p : Keyed Span → Bool) (items : Items) (key : ℕ) : Type 0 where
  pub e : Keyed Span
  pub found : find p items ≡ Some e
  pub same : e.key ≡ key
  pub at : IsAt (λ _. Unit {0}) key items
  pub own : at.found ≡ e

pub key_found : (p : Keyed Span → Bool) (items : Items) (key : ℕ) → option_map (λ (e : Keyed Span). e.key) (find p items) ≡ Some key → IsKeyFound p items key
key_found p items key is =
    let (e, found, same) = keyed_some key (find p items) is in
    let parts = found_by p items e found in
    record { e = e; found = found; same = same; at = record { front = parts.front; found = e; back = parts.back; is = parts.is; same = same; holds = tt }; own = refl }

pub key_known : (p : Keyed Span → Bool) (items : Items) (key : ℕ) → option_map (λ (e : Keyed Span). e.key) (find p items) ≡ Some key → has_key key items ≡ true
key_known p items key is = has_at (λ _. Unit {0}) key items (key_found p items key is).at

-- and its header has what was found
pub key_value : (p : Keyed Span → Bool) (items : Items) (key : ℕ) (node : Node) (found : IsKeyFound p items key) → AreApart items → Stands items key node → node.span ≡ found.e.value
key_value p items key node found apart stands =
    one_value (λ _. Unit {0}) (λ _. Unit {0}) key items (record { front = stands.front; found = record { key = key; value = node.span }; back = stands.back; is = stands.is; same = refl; holds = tt }) found.at apart
    ∙ ap (λ (e : Keyed Span). e.value) found.own

-- the data of a busy element lie within it
holds_data : (insertions addr : ℕ) (q : Span) → IsElement insertions q → has_data_at addr q ≡ true → (q.addr < addr) × (addr < end_of q)
holds_data insertions addr q element is =
    let parts = and_parts (busy q) (nat_eq (data_address q) addr) is in
    let inside = data_within insertions q parts.0 element in
    let same : data_address q ≡ addr = eqb-true (data_address q) addr parts.1 in
    (omega (arith, inside.0, same), omega (arith, inside.1, same))

-- an element with its data at an address, behind a pad, begins in front of pad and header
begins : (addr pad : ℕ) (q : Span) → has_data_at addr q ≡ true → pad_of_state q.state ≡ pad → q.addr + pad + 128 ≡ addr
begins addr pad q is padded = omega (arith, eqb-true (data_address q) addr (and_parts (busy q) (nat_eq (data_address q) addr) is).1, padded)

-- of elements from an address on none has its data behind a pad that begins below
lacks_above : (addr pad from : ℕ) (items : Items) → addr < from + pad + 128 → IsRisingFrom from (spans_of items) → LacksData addr pad items
lacks_above addr pad from [] below rising = tt
lacks_above addr pad from (x ∷ xs) below rising = (
  λ is padded. omega (arith, begins addr pad x.value is padded, below, rising.0),
  lacks_above addr pad (end_of x.value) xs (omega (arith, below, rising.0)) rising.1,
)

-- nor where none begins there
lacks_start : (addr pad start : ℕ) (items : Items) → start + pad + 128 ≡ addr → find (begins_at start) items ≡ None → LacksData addr pad items
lacks_start addr pad start [] here none = tt
lacks_start addr pad start (x ∷ xs) here none = by_test (nat_eq x.value.addr start) refl (lacks_start addr pad start xs here)
  where
    by_test : (b : Bool) → nat_eq x.value.addr start ≡ b → (find (begins_at start) xs ≡ None → LacksData addr pad xs) → LacksData addr pad (x ∷ xs)
    by_test true is more = absurd (none-some x (sym none ∙ cond-true (nat_eq x.value.addr start) (Some x) (find (begins_at start) xs) is))
    by_test false differs more = (
      λ is padded. eqb-false x.value.addr start differs (omega (arith, begins addr pad x.value is padded, here)),
      more (sym (cond-false (nat_eq x.value.addr start) (Some x) (find (begins_at start) xs) differs) ∙ none),
    )

-- nor where the one that begins there has none
lacks_other : (insertions addr pad start from : ℕ) (items : Items) (e : Keyed Span) → start + pad + 128 ≡ addr → IsRisingFrom from (spans_of items) → AllByRecursion (IsElement insertions) (spans_of items)
    → find (begins_at start) items ≡ Some e → has_data_at addr e.value ≡ false → LacksData addr pad items
lacks_other insertions addr pad start from [] e here rising elements found lacks = tt
lacks_other insertions addr pad start from (x ∷ xs) e here rising elements found lacks =
    by_test (nat_eq x.value.addr start) refl (λ rest. lacks_other insertions addr pad start (end_of x.value) xs e here rising.1 elements.1 rest lacks)
  where
    by_test : (b : Bool) → nat_eq x.value.addr start ≡ b → (find (begins_at start) xs ≡ Some e → LacksData addr pad xs) → LacksData addr pad (x ∷ xs)
    by_test true is more =
        let same : x ≡ e = same_Some x e (sym (cond-true (nat_eq x.value.addr start) (Some x) (find (begins_at start) xs) is) ∙ found) in
        let own : has_data_at addr x.value ≡ false = ap (λ (y : Keyed Span). has_data_at addr y.value) same ∙ lacks in
        (λ has padded. false≢true (sym own ∙ has), lacks_above addr pad (end_of x.value) xs (omega (arith, eqb-true x.value.addr start is, here, elements.0.size.least)) rising.1)
    by_test false differs more = (
      λ is padded. eqb-false x.value.addr start differs (omega (arith, begins addr pad x.value is padded, here)),
      more (sym (cond-false (nat_eq x.value.addr start) (Some x) (find (begins_at start) xs) differs) ∙ found),
    )

-- what a search finds from an address on begins there or above
found_above : (p : Keyed Span → Bool) (from : ℕ) (items : Items) (e : Keyed Span) → IsRisingFrom from (spans_of items) → find p items ≡ Some e → from ≤ e.value.addr
found_above p from [] e rising found = absurd (none-some e found)
found_above p from (x ∷ xs) e rising found = by_test (p x) refl (λ rest. found_above p (end_of x.value) xs e rising.1 rest)
  where
    by_test : (b : Bool) → p x ≡ b → (find p xs ≡ Some e → end_of x.value ≤ e.value.addr) → from ≤ e.value.addr
    by_test true is more =
        let same : x ≡ e = same_Some x e (sym (cond-true (p x) (Some x) (find p xs) is) ∙ found) in
        omega (arith, rising.0, ap (λ (y : Keyed Span). y.value.addr) same)
    by_test false is more = omega (arith, rising.0, more (sym (cond-false (p x) (Some x) (find p xs) is) ∙ found))

-- the one that begins there and has its data at the address is what a search by that finds
found_first : (insertions addr start from : ℕ) (items : Items) (e : Keyed Span) → IsRisingFrom from (spans_of items) → AllByRecursion (IsElement insertions) (spans_of items)
    → find (begins_at start) items ≡ Some e → has_data_at addr e.value ≡ true → e.value.addr < addr → find (has_data_at addr) (spans_of items) ≡ Some e.value
found_first insertions addr start from [] e rising elements found has below = absurd (none-some e found)
found_first insertions addr start from (x ∷ xs) e rising elements found has below =
    by_test (nat_eq x.value.addr start) refl (λ rest. found_first insertions addr start (end_of x.value) xs e rising.1 elements.1 rest has below)
  where
    by_test : (b : Bool) → nat_eq x.value.addr start ≡ b → (find (begins_at start) xs ≡ Some e → find (has_data_at addr) (spans_of xs) ≡ Some e.value)
        → find (has_data_at addr) (spans_of (x ∷ xs)) ≡ Some e.value
    by_test true is more =
        let same : x ≡ e = same_Some x e (sym (cond-true (nat_eq x.value.addr start) (Some x) (find (begins_at start) xs) is) ∙ found) in
        cond-true (has_data_at addr x.value) (Some x.value) (find (has_data_at addr) (spans_of xs)) (ap (λ (y : Keyed Span). has_data_at addr y.value) same ∙ has)
        ∙ ap (λ (y : Keyed Span). Some y.value) same
    by_test false differs more =
        let rest = sym (cond-false (nat_eq x.value.addr start) (Some x) (find (begins_at start) xs) differs) ∙ found in
        cond-false (has_data_at addr x.value) (Some x.value) (find (has_data_at addr) (spans_of xs)) (elsewhere rest (has_data_at addr x.value) refl) ∙ more rest
      where
        elsewhere : find (begins_at start) xs ≡ Some e → (b : Bool) → has_data_at addr x.value ≡ b → has_data_at addr x.value ≡ false
        elsewhere rest false fails = fails
        elsewhere rest true passes =
            absurd (omega (arith, (holds_data insertions addr x.value elements.0 passes).1, found_above (begins_at start) (end_of x.value) xs e rising.1 rest, below))

-- a pad is none, one line or two
lacks_padded : (insertions addr : ℕ) (items : Items) → AllByRecursion (IsElement insertions) (spans_of items) → LacksData addr 0 items → LacksData addr 64 items → LacksData addr 128 items
    → find (has_data_at addr) (spans_of items) ≡ None
lacks_padded insertions addr [] elements none one two = refl
lacks_padded insertions addr (x ∷ xs) elements none one two =
    cond-false (has_data_at addr x.value) (Some x.value) (find (has_data_at addr) (spans_of xs)) (elsewhere (has_data_at addr x.value) refl)
    ∙ lacks_padded insertions addr xs elements.1 none.1 one.1 two.1
  where
    small : (whole : ℕ) (state : SpanState) → HasRoomFor whole state → (pad_of_state state ≡ 0) ⊎ ((pad_of_state state ≡ 64) ⊎ (pad_of_state state ≡ 128))
    small whole (Free stamp) room = inl refl
    small whole (Busy pad size tag) room = elim (cases_lt pad 64) [
      | inl low ↦ inl (omega (arith, low, room.pad_lines))
      | inr high ↦ elim (cases_lt pad 128) [
        | inl low ↦ inr (inl (omega (arith, low, high, room.pad_lines)))
        | inr top ↦ inr (inr (omega (arith, top, room.pad_small, room.pad_lines)))
      ]
    ]

    elsewhere : (b : Bool) → has_data_at addr x.value ≡ b → has_data_at addr x.value ≡ false
    elsewhere false fails = fails
    elsewhere true passes = elim (small x.value.whole x.value.state elements.0.busy) [
      | inl padless ↦ absurd (none.0 passes padless)
      | inr some ↦ elim some [
        | inl line ↦ absurd (one.0 passes line)
        | inr lines ↦ absurd (two.0 passes lines)
      ]
    ]

-- what a search by data finds
module _ (headers : HeadersView) (addr : ℕ) (of_heap : IsOfHeap headers) where
  pub data_of : (result : Option ℕ) → LacksData addr 0 headers.items → LacksData addr 64 headers.items → FindsPadded addr 128 headers.items result → FindsData addr headers.items result
  data_of None none one two = lacks_padded headers.insertions addr headers.items of_heap.elements none one two
  data_of (Some key) none one has = has

  module _ (pad : ℕ) where
    pub data_low : addr < 128 + pad → LacksData addr pad headers.items
    data_low low = lacks_above addr pad 0 headers.items (omega (arith, low)) of_heap.joinable.rising

    pub data_none : 128 + pad ≤ addr → key_from (addr - (128 + pad)) headers.items ≡ None → LacksData addr pad headers.items
    data_none high is = lacks_start addr pad (addr - (128 + pad)) headers.items (omega (arith, high)) (found_none (begins_at (addr - (128 + pad))) headers.items is)

    module _ (key : ℕ) (node : Node) (high : 128 + pad ≤ addr) (is : key_from (addr - (128 + pad)) headers.items ≡ Some key) (stands : Stands headers.items key node) where
      found : IsKeyFound (begins_at (addr - (128 + pad))) headers.items key
      found = key_found (begins_at (addr - (128 + pad))) headers.items key is

      value : node.span ≡ found.e.value
      value = key_value (begins_at (addr - (128 + pad))) headers.items key node found of_heap.apart stands

      pub data_other : has_data_at addr node.span ≡ false → LacksData addr pad headers.items
      data_other fails = lacks_other headers.insertions addr pad (addr - (128 + pad)) 0 headers.items found.e (omega (arith, high)) of_heap.joinable.rising of_heap.elements found.found
          (ap (λ (s : Span). has_data_at addr s) (sym value) ∙ fails)

      pub data_here : has_data_at addr node.span ≡ true → HasDataAt addr headers.items key
      data_here passes =
          let element : IsElement headers.insertions node.span = (AllByRecursion-back (IsElement headers.insertions) (spans_of stands.front) (node.span ∷ spans_of stands.back)
          (subst (λ zs. AllByRecursion (IsElement headers.insertions) zs) (ap spans_of stands.is ∙ spans-append stands.front (record { key = key; value = node.span } ∷ stands.back)) of_heap.elements)).0 in
          record {
            front = stands.front;
            found = record { key = key; value = node.span };
            back = stands.back;
            is = stands.is;
            same = refl;
            busy = not-true (is_free node.span) (and_parts (busy node.span) (nat_eq (data_address node.span) addr) passes).0;
            found_is =
                found_first headers.insertions addr (addr - (128 + pad)) 0 headers.items found.e of_heap.joinable.rising of_heap.elements found.found
                (ap (λ (s : Span). has_data_at addr s) (sym value) ∙ passes)
                (omega (arith, (holds_data headers.insertions addr node.span element passes).0, ap (λ (s : Span). s.addr) value))
                ∙ ap (λ (s : Span). Some s) (sym value);
          }

-- an element of a heap, and where its data are
module _ (headers : HeadersView) (key : ℕ) (node : Node) (of_heap : IsOfHeap headers) (stands : Stands headers.items key node) where
  pub own_element : IsElement headers.insertions node.span
  own_element = (AllByRecursion-back (IsElement headers.insertions) (spans_of stands.front) (node.span ∷ spans_of stands.back)
      (subst (λ zs. AllByRecursion (IsElement headers.insertions) zs) (ap spans_of stands.is ∙ spans-append stands.front (record { key = key; value = node.span } ∷ stands.back)) of_heap.elements)).0

  pub own_space : HasSpace node.span
  own_space = (AllByRecursion-back HasSpace (spans_of stands.front) (node.span ∷ spans_of stands.back)
      (subst (λ zs. AllByRecursion HasSpace zs) (ap spans_of stands.is ∙ spans-append stands.front (record { key = key; value = node.span } ∷ stands.back)) of_heap.joinable.room)).0

  pub data_fits : data_address node.span < 2 ^ 64
  data_fits = fits node.span.state refl
    where
      fits : (state : SpanState) → node.span.state ≡ state → data_address node.span < 2 ^ 64
      fits (Free stamp) free = let pad : pad_of_state node.span.state ≡ 0 = ap pad_of_state free in omega (arith, pad, own_element.size.least, own_space.end)
      fits (Busy pad size tag) held =
          let room : HasRoomFor node.span.whole (Busy pad size tag) = subst (λ (s : SpanState). HasRoomFor node.span.whole s) held own_element.busy in
          let pads : pad_of_state node.span.state ≡ pad = ap pad_of_state held in
          omega (arith, pads, room.room, own_space.end)
