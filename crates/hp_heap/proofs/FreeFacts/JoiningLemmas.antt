-- How a busy element becomes free as one with its free neighbours, over elements under keys.
use Rattle.std.proofs.Common.{◌≡◌, ℕ, ◌<◌, ◌≤◌, ◌^◌, Bool, true, false, cond, List, [], ◌∷◌, ◌++◌, Some, None, refl, sym, ap, subst, ◌∙◌, arith, append_assoc}
use Rattle.std.proofs.lemmas.Bool.{cond-true, cond-false}
use Rattle.std.proofs.lemmas.Option.{same_Some, none-some}
use Rattle.std.proofs.lemmas.List.{map-append}
use Rattle.std.specs.List.{AllByRecursion}
use Rattle.hp_base.specs.declared.span.Span.{Span}
use Rattle.hp_base.specs.declared.span.SpanState.{SpanState}
use Rattle.hp_base.specs.declared.span.SpanState.TheVariants.{Free}
use Rattle.hp_chain.specs.Chain.{Keyed, AreApart, has_key, first_key}
use Rattle.hp_chain.specs.Edits.{edited}
use Rattle.hp_elem.specs.declared.node.Node.{Node}
use Rattle.hp_elem.specs.Items.{Items, IsAt, AreAt, Stands, Touches, joined, restated, after_set, after_join}
use Rattle.hp_elem.proofs.IndexLemmas.{edit_is, stands_value, join_is, at_key-found}
use Rattle.hp_elem.proofs.ChainLemmas.{has_at}
use Rattle.hp_elem.proofs.EndLemmas.{HasLast, last_of, none_last}
use Rattle.hp_heap.specs.PlainHeap.{end_of, is_free, is_free_state, freed}
use Rattle.hp_heap.specs.Tiling.{joins, IsRisingFrom, IsApart}
use Rattle.hp_heap.specs.Joining.{stretch_up, stretch_down, with_stretch, Stretch}
use Rattle.hp_heap.specs.Headers.{spans_of, IsFree, CanJoin, CanInsert}
use Rattle.hp_heap.specs.Joins.{CanStretch, CanInsertJoined, IsJoinable, IsLowered, with_upper}
use Rattle.hp_heap.specs.FreeSearch.{HasSpace}
use Rattle.hp_heap.proofs.RangeLemmas.{last_end, rising-front, rising-back, rising_before, rising_behind, IsApart-front, IsApart-back, AllByRecursion-weaker, AllByRecursion-front, AllByRecursion-back}
use Rattle.hp_heap.proofs.CutFacts.Stretches.{joint, stretch_up-once, stretch_down-once}
use Rattle.hp_heap.proofs.FreeFacts.FreeTiling.{with_stretch-at}

-- elements with bytes that end by an address begin below it
strictly_below : (xs : List Span) (at : ℕ) → AllByRecursion (λ x. end_of x ≤ at) xs → AllByRecursion HasSpace xs → AllByRecursion (λ x. x.addr < at) xs
strictly_below [] at ends some = tt
strictly_below (x ∷ xs) at ends some = (omega (arith, ends.0, some.0.some), strictly_below xs at ends.1 some.1)

-- the elements of two parts
pub spans-append : (xs ys : Items) → spans_of (xs ++ ys) ≡ spans_of xs ++ spans_of ys
spans-append xs ys = map-append (λ (e : Keyed Span). e.value) xs ys

-- the first key of a list is that of its first element
pub record HasFirst (xs : Items) (key : ℕ) : Type 0 where
  pub first : Keyed Span
  pub back : Items
  pub is : xs ≡ first ∷ back
  pub same : first.key ≡ key

pub first_of : (xs : Items) (key : ℕ) → first_key xs None ≡ Some key → HasFirst xs key
first_of [] key is = absurd (none-some key is)
first_of (x ∷ xs) key is = record { first = x; back = xs; is = refl; same = same_Some x.key key is }

pub none_first : (xs : Items) → first_key xs None ≡ None → xs ≡ []
none_first [] is = refl
none_first (x ∷ xs) is = absurd (none-some x.key (sym is))

-- an element under its key
abbrev pub own_of : ℕ → Node → Keyed Span
own_of key node = record { key = key; value = node.span }

abbrev pub at_of : (key : ℕ) (items : Items) (node : Node) → Stands items key node → IsAt (λ _. Unit {0}) key items
at_of key items node stands = record { front = stands.front; found = own_of key node; back = stands.back; is = stands.is; same = refl; holds = tt }

-- an element that was joined to another, and is free for it, as another element that will be free
abbrev pub busied : SpanState → Keyed Span → Keyed Span
busied state e = record e { value = record e.value { state = state } }

-- one element stands under a key
pub one_value : (P Q : Span → Type 0) (key : ℕ) (items : Items) (one : IsAt P key items) (other : IsAt Q key items) → AreApart items → one.found.value ≡ other.found.value
one_value P Q key items one other apart =
    same_Some one.found.value other.found.value (sym (at_key-found P key items one apart) ∙ at_key-found Q key items other apart)

-- a busy element may become free among elements that tile
pub can_insert_joined : (key : ℕ) (items : Items) → IsAt CanInsert key items → AreApart items → IsJoinable (spans_of items) → CanInsertJoined key items
can_insert_joined key items at apart joinable = record {
  apart = apart;
  at = record { front = at.front; found = at.found; back = at.back; is = at.is; same = at.same; holds = record { busy = at.holds.busy; least = at.holds.least; end = space.end } };
  joinable = joinable;
}
  where
    space : HasSpace at.found.value
    space = (AllByRecursion-back HasSpace (spans_of at.front) (at.found.value ∷ spans_of at.back)
        (subst (λ zs. AllByRecursion HasSpace zs) (ap spans_of at.is ∙ spans-append at.front (at.found ∷ at.back)) joinable.room)).0

-- the key below is in use
pub last_known : (items : Items) (key : ℕ) (node : Node) (prev : ℕ) → Stands items key node → node.prev ≡ Some prev → has_key prev items ≡ true
last_known items key node prev stands is =
    let last = last_of stands.front prev (sym stands.prev ∙ is) in
    has_at (λ _. Unit {0}) prev items (record {
      front = last.front;
      found = last.last;
      back = own_of key node ∷ stands.back;
      is = stands.is ∙ ap (λ (zs : Items). zs ++ own_of key node ∷ stands.back) last.is ∙ append_assoc last.front (last.last ∷ []) (own_of key node ∷ stands.back);
      same = last.same;
      holds = tt;
    })

-- downwards
module _ (items : Items) (key : ℕ) (node : Node) (can : CanInsertJoined key items) (stands : Stands items key node) where
  pub own_can : CanStretch node.span
  own_can = subst (λ (s : Span). CanStretch s) (sym (stands_value CanStretch key items node can.at can.apart stands)) can.at.holds

  same_items : (left : Items) → ((stamp : ℕ) → stretch_down (spans_of stands.front) (freed stamp node.span) ≡ record { left = spans_of stands.front; range = freed stamp node.span })
      → IsLowered key items key items
  same_items left down = record {
    front = stands.front;
    found = own_of key node;
    back = stands.back;
    is = stands.is;
    same = refl;
    left = stands.front;
    lowered = own_of key node;
    new_is = stands.is;
    result_is = refl;
    can = own_can;
    down = down;
  }

  -- there is none below
  pub lowered_first : node.prev ≡ None → IsLowered key items key items
  lowered_first is =
      let none : stands.front ≡ [] = none_last stands.front (sym stands.prev ∙ is) in
      same_items stands.front (λ stamp. subst (λ (zs : Items). stretch_down (spans_of zs) (freed stamp node.span) ≡ record { left = spans_of zs; range = freed stamp node.span }) (sym none) refl)

  -- there is one below
  module _ (prev : ℕ) (below : Node) (is : node.prev ≡ Some prev) (there : Stands items prev below) where
    abbrev last : HasLast stands.front prev
    last = last_of stands.front prev (sym stands.prev ∙ is)

    parts : items ≡ last.front ++ last.last ∷ own_of key node ∷ stands.back
    parts = stands.is ∙ ap (λ (zs : Items). zs ++ own_of key node ∷ stands.back) last.is ∙ append_assoc last.front (last.last ∷ []) (own_of key node ∷ stands.back)

    abbrev at_last : IsAt (λ _. Unit {0}) prev items
    at_last = record { front = last.front; found = last.last; back = own_of key node ∷ stands.back; is = parts; same = last.same; holds = tt }

    value_is : below.span ≡ last.last.value
    value_is = stands_value (λ _. Unit {0}) prev items below at_last can.apart there

    spans_parts : spans_of items ≡ spans_of last.front ++ (last.last.value ∷ (node.span ∷ spans_of stands.back))
    spans_parts = ap spans_of parts ∙ spans-append last.front (last.last ∷ own_of key node ∷ stands.back)

    pub below_ends : end_of below.span ≤ 2 ^ 63
    below_ends =
        let rising : IsRisingFrom 0 (spans_of last.front ++ (last.last.value ∷ (node.span ∷ spans_of stands.back))) = subst (λ zs. IsRisingFrom 0 zs) spans_parts can.joinable.rising in
        let back = rising-back 0 (spans_of last.front) (last.last.value ∷ (node.span ∷ spans_of stands.back)) rising in
        let touch : end_of last.last.value ≤ node.span.addr = back.1.0 in
        let same : end_of below.span ≡ end_of last.last.value = ap end_of value_is in
        omega (arith, touch, same, own_can.end)

    -- the front without its last element is apart with it
    front_apart : IsApart (spans_of last.front ++ (last.last.value ∷ []))
    front_apart =
        let whole : IsApart (spans_of stands.front ++ (node.span ∷ spans_of stands.back)) = subst (λ zs. IsApart zs) (ap spans_of stands.is ∙ spans-append stands.front (own_of key node ∷ stands.back)) can.joinable.apart in
        subst (λ zs. IsApart zs) (ap spans_of last.is ∙ spans-append last.front (last.last ∷ [])) (IsApart-front (spans_of stands.front) (node.span ∷ spans_of stands.back) whole)

    -- and it stays
    pub lowered_beside : joins below.span (freed 0 node.span) ≡ false → IsLowered key items key items
    lowered_beside apart = same_items stands.front down
      where
        down : (stamp : ℕ) → stretch_down (spans_of stands.front) (freed stamp node.span) ≡ record { left = spans_of stands.front; range = freed stamp node.span }
        down stamp =
            let front : spans_of stands.front ≡ spans_of last.front ++ (last.last.value ∷ []) = ap spans_of last.is ∙ spans-append last.front (last.last ∷ []) in
            let no : joins last.last.value (freed stamp node.span) ≡ false = subst (λ (s : Span). joins s (freed 0 node.span) ≡ false) value_is apart in
            ap (λ zs. stretch_down zs (freed stamp node.span)) front
            ∙ stretch_down-once false (spans_of last.front) last.last.value (freed stamp node.span) no front_apart
            ∙ ap (λ zs. record { left = zs; range = freed stamp node.span }) (sym front)

    -- or it is joined
    pub below_free : joins below.span (freed 0 node.span) ≡ true → IsAt IsFree prev items
    below_free touch = record {
      front = last.front;
      found = last.last;
      back = own_of key node ∷ stands.back;
      is = parts;
      same = last.same;
      holds = subst (λ (s : Span). is_free s ≡ true) value_is (joint below.span (freed 0 node.span) touch).free;
    }

    module _ (state : SpanState) (mid : Items) (busy : is_free_state state ≡ false) (mid_is : mid ≡ after_set prev state items) (touch : joins below.span (freed 0 node.span) ≡ true) where
      pub mid_parts : mid ≡ last.front ++ busied state last.last ∷ own_of key node ∷ stands.back
      mid_parts = mid_is ∙ edit_is (restated state) (λ _. Unit {0}) prev items at_last can.apart

      pub touching : Touches (busied state last.last).value node.span
      touching =
          let facts = joint last.last.value (freed 0 node.span) (subst (λ (s : Span). joins s (freed 0 node.span) ≡ true) value_is touch) in
          record { adjacent = facts.touch; same_list = facts.list }

      abbrev pub below_can : AreAt CanJoin prev mid
      below_can = record {
        front = last.front;
        found = busied state last.last;
        next = own_of key node;
        back = stands.back;
        is = mid_parts;
        same = last.same;
        holds = record { busy = busy; second_busy = own_can.busy; touches = touching };
      }

      pub lowered_taken : (news : Items) → AreApart mid → news ≡ after_join prev mid → IsLowered key items prev news
      lowered_taken news mid_apart new_is = record {
        front = stands.front;
        found = own_of key node;
        back = stands.back;
        is = stands.is;
        same = refl;
        left = last.front;
        lowered = record { key = last.last.key; value = joined (busied state last.last).value node.span };
        new_is = new_is ∙ join_is CanJoin prev mid below_can mid_apart;
        result_is = last.same;
        can = record { busy = busy; least = omega (arith, own_can.least); end = omega (arith, own_can.end, touching.adjacent) };
        down = down;
      }
        where
          down : (stamp : ℕ) → stretch_down (spans_of stands.front) (freed stamp node.span)
              ≡ record { left = spans_of last.front; range = freed stamp (joined (busied state last.last).value node.span) }
          down stamp =
              let front : spans_of stands.front ≡ spans_of last.front ++ (last.last.value ∷ []) = ap spans_of last.is ∙ spans-append last.front (last.last ∷ []) in
              let yes : joins last.last.value (freed stamp node.span) ≡ true = subst (λ (s : Span). joins s (freed 0 node.span) ≡ true) value_is touch in
              ap (λ zs. stretch_down zs (freed stamp node.span)) front
              ∙ stretch_down-once true (spans_of last.front) last.last.value (freed stamp node.span) yes front_apart

-- upwards
module _ (items : Items) (key : ℕ) (node : Node) (apart : AreApart items) (at : IsAt CanStretch key items) (stands : Stands items key node) where
  pub upper_own : CanStretch node.span
  upper_own = subst (λ (s : Span). CanStretch s) (sym (stands_value CanStretch key items node at apart stands)) at.holds

  pub upper_end : end_of node.span < 2 ^ 64
  upper_end = omega (arith, upper_own.end)

  upper_is : edited key with_upper items ≡ stands.front ++ with_upper (own_of key node) stands.back
  upper_is = edit_is with_upper (λ _. Unit {0}) key items (at_of key items node stands) apart

  -- there is none above
  pub raised_last : node.next ≡ None → items ≡ edited key with_upper items
  raised_last is =
      let none : stands.back ≡ [] = none_first stands.back (sym stands.next ∙ is) in
      stands.is ∙ ap (λ (zs : Items). stands.front ++ own_of key node ∷ zs) none
      ∙ sym (upper_is ∙ ap (λ (zs : Items). stands.front ++ with_upper (own_of key node) zs) none)

  -- there is one above
  module _ (next : ℕ) (above : Node) (is : node.next ≡ Some next) (there : Stands items next above) where
    abbrev pub first : HasFirst stands.back next
    first = first_of stands.back next (sym stands.next ∙ is)

    pub up_parts : items ≡ stands.front ++ own_of key node ∷ first.first ∷ first.back
    up_parts = stands.is ∙ ap (λ (zs : Items). stands.front ++ own_of key node ∷ zs) first.is

    up_next : items ≡ (stands.front ++ own_of key node ∷ []) ++ first.first ∷ first.back
    up_next = up_parts ∙ sym (append_assoc stands.front (own_of key node ∷ []) (first.first ∷ first.back))

    abbrev at_first : IsAt (λ _. Unit {0}) next items
    at_first = record { front = stands.front ++ own_of key node ∷ []; found = first.first; back = first.back; is = up_next; same = first.same; holds = tt }

    pub above_is : above.span ≡ first.first.value
    above_is = stands_value (λ _. Unit {0}) next items above at_first apart there

    -- and it stays
    pub raised_beside : joins (freed 0 node.span) above.span ≡ false → items ≡ edited key with_upper items
    raised_beside stays =
        let other : joins (freed 0 node.span) first.first.value ≡ false = subst (λ (s : Span). joins (freed 0 node.span) s ≡ false) above_is stays in
        up_parts ∙ sym (upper_is ∙ ap (λ (zs : Items). stands.front ++ with_upper (own_of key node) zs) first.is
        ∙ ap (λ (b : Bool). stands.front ++ cond b (record { key = key; value = joined node.span first.first.value } ∷ first.back) (own_of key node ∷ first.first ∷ first.back)) other)

    -- or it is joined
    pub above_free : joins (freed 0 node.span) above.span ≡ true → IsAt IsFree next items
    above_free touch = record {
      front = stands.front ++ own_of key node ∷ [];
      found = first.first;
      back = first.back;
      is = up_next;
      same = first.same;
      holds = subst (λ (s : Span). is_free s ≡ true) above_is (joint (freed 0 node.span) above.span touch).free_second;
    }

    module _ (state : SpanState) (mid : Items) (busy : is_free_state state ≡ false) (mid_is : mid ≡ after_set next state items) (touch : joins (freed 0 node.span) above.span ≡ true) where
      pub up_mid : mid ≡ stands.front ++ own_of key node ∷ busied state first.first ∷ first.back
      up_mid = mid_is ∙ edit_is (restated state) (λ _. Unit {0}) next items at_first apart ∙ append_assoc stands.front (own_of key node ∷ []) (busied state first.first ∷ first.back)

      pub yes : joins (freed 0 node.span) first.first.value ≡ true
      yes = subst (λ (s : Span). joins (freed 0 node.span) s ≡ true) above_is touch

      abbrev pub above_can : AreAt CanJoin key mid
      above_can =
          let facts = joint (freed 0 node.span) first.first.value yes in
          record {
            front = stands.front;
            found = own_of key node;
            next = busied state first.first;
            back = first.back;
            is = up_mid;
            same = refl;
            holds = record { busy = upper_own.busy; second_busy = busy; touches = record { adjacent = facts.touch; same_list = facts.list } };
          }

      pub raised_taken : (news : Items) → AreApart mid → news ≡ after_join key mid → news ≡ edited key with_upper items
      raised_taken news mid_apart new_is =
          new_is ∙ join_is CanJoin key mid above_can mid_apart
          ∙ sym (upper_is ∙ ap (λ (zs : Items). stands.front ++ with_upper (own_of key node) zs) first.is
          ∙ ap (λ (b : Bool). stands.front ++ cond b (record { key = key; value = joined node.span first.first.value } ∷ first.back) (own_of key node ∷ first.first ∷ first.back)) yes)

-- what an element is with the one above it
pub record IsRaised (e : Keyed Span) (back : Items) : Type 0 where
  pub raised : Keyed Span
  pub rest : Items
  pub is : with_upper e back ≡ raised ∷ rest
  pub same : raised.key ≡ e.key
  pub can : CanInsert raised.value
  pub up : (stamp : ℕ) → stretch_up (freed stamp e.value) (spans_of back) ≡ freed stamp raised.value ∷ spans_of rest

pub raised_of : (e : Keyed Span) (back : Items) → CanStretch e.value → IsApart (spans_of back) → IsRaised e back
raised_of e [] can apart = record { raised = e; rest = []; is = refl; same = refl; can = record { busy = can.busy; least = can.least }; up = λ stamp. refl }
raised_of e (n ∷ es) can apart = by_test (joins (freed 0 e.value) n.value) refl
  where
    by_test : (b : Bool) → joins (freed 0 e.value) n.value ≡ b → IsRaised e (n ∷ es)
    by_test true is = record {
      raised = record e { value = joined e.value n.value };
      rest = es;
      is = cond-true (joins (freed 0 e.value) n.value) (record e { value = joined e.value n.value } ∷ es) (e ∷ n ∷ es) is;
      same = refl;
      can = record { busy = can.busy; least = omega (arith, can.least) };
      up = λ stamp. stretch_up-once true (freed stamp e.value) n.value (spans_of es) is apart;
    }
    by_test false is = record {
      raised = e;
      rest = n ∷ es;
      is = cond-false (joins (freed 0 e.value) n.value) (record e { value = joined e.value n.value } ∷ es) (e ∷ n ∷ es) is;
      same = refl;
      can = record { busy = can.busy; least = can.least };
      up = λ stamp. stretch_up-once false (freed stamp e.value) n.value (spans_of es) is apart;
    }

-- the whole
module _ (key : ℕ) (items : Items) (lowest : ℕ) (mid : Items) (can : CanInsertJoined key items) (low : IsLowered key items lowest mid) (mid_apart : AreApart mid) where
  old_spans : spans_of items ≡ spans_of low.front ++ (low.found.value ∷ spans_of low.back)
  old_spans = ap spans_of low.is ∙ spans-append low.front (low.found ∷ low.back)

  pub back_apart : IsApart (spans_of low.back)
  back_apart = IsApart-back (spans_of low.front ++ (low.found.value ∷ [])) (spans_of low.back)
      (subst (λ zs. IsApart zs) (old_spans ∙ sym (append_assoc (spans_of low.front) (low.found.value ∷ []) (spans_of low.back))) can.joinable.apart)

  abbrev pub lowest_at : IsAt CanStretch lowest mid
  lowest_at = record { front = low.left; found = low.lowered; back = low.back; is = low.new_is; same = low.result_is; holds = low.can }

  abbrev high : IsRaised low.lowered low.back
  high = raised_of low.lowered low.back low.can back_apart

  module _ (top : Items) (top_is : top ≡ edited lowest with_upper mid) where
    pub top_parts : top ≡ low.left ++ high.raised ∷ high.rest
    top_parts = top_is ∙ edit_is with_upper CanStretch lowest mid lowest_at mid_apart ∙ ap (λ (zs : Items). low.left ++ zs) high.is

    abbrev pub top_at : IsAt CanInsert lowest top
    top_at = record { front = low.left; found = high.raised; back = high.rest; is = top_parts; same = high.same ∙ low.result_is; holds = high.can }

    pub inserted_joined : (stamp : ℕ) (news : Items) → AreApart top → news ≡ after_set lowest (Free stamp) top
        → (front back : Items) (e : Keyed Span) → items ≡ front ++ e ∷ back → e.key ≡ key → spans_of news ≡ with_stretch (freed stamp e.value) (spans_of items)
    inserted_joined stamp news top_apart new_is front back e is same =
        new_spans ∙ sym stretch ∙ ap (λ (s : Span). with_stretch (freed stamp s) (spans_of items)) one
      where
        x : Span
        x = freed stamp low.found.value

        one : low.found.value ≡ e.value
        one = one_value (λ _. Unit {0}) (λ _. Unit {0}) key items (record { front = low.front; found = low.found; back = low.back; is = low.is; same = low.same; holds = tt })
            (record { front = front; found = e; back = back; is = is; same = same; holds = tt }) can.apart

        new_spans : spans_of news ≡ spans_of low.left ++ (freed stamp high.raised.value ∷ spans_of high.rest)
        new_spans = ap spans_of (new_is ∙ edit_is (restated (Free stamp)) CanInsert lowest top top_at top_apart)
            ∙ spans-append low.left (busied (Free stamp) high.raised ∷ high.rest)

        rising : IsRisingFrom 0 (spans_of low.front ++ (low.found.value ∷ spans_of low.back))
        rising = subst (λ zs. IsRisingFrom 0 zs) old_spans can.joinable.rising

        some : AllByRecursion HasSpace (spans_of low.front ++ (low.found.value ∷ spans_of low.back))
        some = subst (λ zs. AllByRecursion HasSpace zs) old_spans can.joinable.room

        own_some : 0 < low.found.value.whole
        own_some = (AllByRecursion-back HasSpace (spans_of low.front) (low.found.value ∷ spans_of low.back) some).0.some

        tail : IsRisingFrom (last_end 0 (spans_of low.front)) (low.found.value ∷ spans_of low.back)
        tail = rising-back 0 (spans_of low.front) (low.found.value ∷ spans_of low.back) rising

        under : AllByRecursion (λ z. z.addr < low.found.value.addr) (spans_of low.front)
        under = strictly_below (spans_of low.front) low.found.value.addr (rising_before 0 low.found.value.addr (spans_of low.front) (rising-front 0 (spans_of low.front) (low.found.value ∷ spans_of low.back) rising) tail.0).1
            (AllByRecursion-front HasSpace (spans_of low.front) (low.found.value ∷ spans_of low.back) some)

        over : AllByRecursion (λ y. low.found.value.addr < y.addr) (spans_of low.back)
        over = AllByRecursion-weaker (λ (y : Span). end_of low.found.value ≤ y.addr) (λ y. low.found.value.addr < y.addr) (λ y behind. omega (arith, own_some)) (spans_of low.back) (rising_behind (end_of low.found.value) (spans_of low.back) tail.1)

        stretch : with_stretch x (spans_of items) ≡ spans_of low.left ++ (freed stamp high.raised.value ∷ spans_of high.rest)
        stretch = ap (λ zs. with_stretch x zs) old_spans
            ∙ with_stretch-at x low.found.value (spans_of low.front) (spans_of low.back) refl under over
            ∙ ap (λ (s : Stretch). s.left ++ stretch_up s.range (spans_of low.back)) (low.down stamp)
            ∙ ap (λ zs. spans_of low.left ++ zs) (high.up stamp)
