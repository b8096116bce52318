-- What each call of the chain makes of its list.
use Rattle.std.proofs.Common.{◌≡◌, ℕ, ◌+◌, ◌-◌, [], ◌∷◌, ◌++◌, true, Option, Some, None, IsSome, refl, sym, ap, ◌∙◌, subst, append_assoc, append-nil}
use Rattle.std.proofs.lemmas.Option.{same_Some}
use Rattle.std.proofs.lemmas.Bool.{false≢true}
use Rattle.slab.specs.Slab.{Slab, get, slab_len, ContainsKey}
use Rattle.hp_base.specs.declared.span.Span.{Span}
use Rattle.hp_base.specs.declared.span.SpanState.{SpanState}
use Rattle.hp_chain.specs.Chain.{Keyed, Place, AreApart, first_key, last_key, has_key}
use Rattle.hp_chain.specs.Writes.{with_next, with_prev, with_place}
use Rattle.hp_chain.specs.Edits.{without_key}
use Rattle.hp_chain.proofs.Keys.{last_key-append, found_at, has_key_back, has_key-own}
use Rattle.hp_chain.proofs.EditLemmas.{edited-at, without_key-at}
use Rattle.hp_elem.specs.declared.node.Node.{Node}
use Rattle.hp_elem.specs.Items.{Items, IsAt, AreAt, IsBetween, IsInside, HasKey, after_split, after_join, after_set, before, lower_part, upper_part, joined, cut_at, with_next_joined, restated}
use Rattle.hp_elem.specs.Links.{place_of, place_at, items_of, IsLinked, IsKnown, Keeps, CanUnlink, IsUnlinked, end_unless, resized, with_whole, with_state}
use Rattle.hp_elem.specs.Links as links
use Rattle.hp_elem.proofs.LinkedLemmas.{known, known_option, header_at, front_keys, back_keys, linked_added, linked_removed, linked_valued}

-- more room changes no link
pub linked_roomier : (slots : Slab Node) (capacity : ℕ) (first last : Option ℕ) → IsLinked slots first last (items_of slots first)
    → IsLinked (record slots { capacity = capacity }) first last (items_of (record slots { capacity = capacity }) first)
linked_roomier slots capacity first last linked =
    record { spelled = linked.spelled; apart = linked.apart; begins = linked.begins; ends = linked.ends; counted = linked.counted }

-- a key that an element stands under is one of the list
pub has_at : (P : Span → Type 0) (key : ℕ) (items : Items) → IsAt P key items → has_key key items ≡ true
has_at P key items at =
    subst (λ (zs : Items). has_key key zs ≡ true) (sym at.is)
    (subst (λ (k : ℕ). has_key k (at.front ++ at.found ∷ at.back) ≡ true) at.same (has_key_back at.found.key at.front (at.found ∷ at.back) (has_key-own at.found at.back)))

-- no key of the headers that there were is new
pub none_before : (old new : Slab Node) (key : ℕ) → ((other : ℕ) → ContainsKey old other → ContainsKey new other) → get new key ≡ None → get old key ≡ None
none_before old new key kept none =
    let P : Option Node → Type 0 = λ slot. (ContainsKey old key → ⊥) → (IsSome slot → ContainsKey old key) → slot ≡ None in
    let not_there : ContainsKey old key → ⊥ = λ there. false≢true (subst (λ (slot : Option Node). IsSome slot) none (kept key there)) in
    (elim (get old key) as P [ None ↦ λ absent lift. refl | (Some node) ↦ λ absent lift. absurd (absent (lift refl)) ]) not_there (λ there. there)

-- an element added before another one, or after all
pub before_is : (front back : Items) (next : Option ℕ) (e : Keyed Span) → next ≡ first_key back None → AreApart (front ++ back) → before next e (front ++ back) ≡ front ++ e ∷ back
before_is front [] next e is apart =
    ap (λ (o : Option ℕ). before o e (front ++ [])) is ∙ ap (λ (zs : Items). zs ++ e ∷ []) (append-nil front)
before_is front (b ∷ back) next e is apart =
    ap (λ (o : Option ℕ). before o e (front ++ b ∷ back)) is ∙ edited-at (λ x xs. e ∷ x ∷ xs) front b back apart

pub between_keys : (items : Items) (prev next : Option ℕ) → IsBetween items prev next → HasKey next items → HasKey prev items
between_keys items prev next between has k is =
    let front_has : has_key k between.front ≡ true = Rattle.hp_chain.proofs.Keys.last_key_among between.front k (sym between.last ∙ is) in
    subst (λ (zs : Items). has_key k zs ≡ true) (sym between.is) (Rattle.hp_chain.proofs.Keys.has_key_front k between.front between.back front_has)

pub linked_inserted : (old new : Slab Node) (first last prev next : Option ℕ) (items : Items) (e : Keyed Span)
    → IsLinked old first last items → IsBetween items prev next → get old e.key ≡ None → slab_len new ≡ slab_len old + 1
    → place_at new ≡ with_prev next (Some e.key) (with_next prev (Some e.key) (with_place e.key (Some (record { prev = prev; next = next; value = e.value })) (place_at old)))
    → IsLinked new (end_unless prev first (Some e.key)) (end_unless next last (Some e.key)) (before next e items)
linked_inserted old new first last prev next items e linked between none len places =
    let front : Items = between.front in
    let back : Items = between.back in
    let parts : IsLinked old first last (front ++ back) = subst (λ (zs : Items). IsLinked old first last zs) between.is linked in
    let P : Option ℕ → Option ℕ → Type 0 = λ before_it behind_it.
    place_at new ≡ with_prev behind_it (Some e.key) (with_next before_it (Some e.key) (with_place e.key (Some (record { prev = before_it; next = behind_it; value = e.value })) (place_at old))) in
    let placed : P (last_key None front) (first_key back None) = subst (λ (o : Option ℕ). P (last_key None front) o) between.first (subst (λ (o : Option ℕ). P o next) between.last places) in
    let added = linked_added old new first last front e back parts none len placed in
    let list : before next e items ≡ front ++ e ∷ back = ap (λ (zs : Items). before next e zs) between.is ∙ before_is front back next e between.first parts.apart in
    subst (λ (zs : Items). IsLinked new (end_unless prev first (Some e.key)) (end_unless next last (Some e.key)) zs) (sym list)
    (subst (λ (o : Option ℕ). IsLinked new (end_unless prev first (Some e.key)) (end_unless o last (Some e.key)) (front ++ e ∷ back)) (sym between.first)
    (subst (λ (o : Option ℕ). IsLinked new (end_unless o first (Some e.key)) (end_unless (first_key back None) last (Some e.key)) (front ++ e ∷ back)) (sym between.last) added))

-- the place before a key, or after all
pub between_last : (slots : Slab Node) (first last : Option ℕ) (items : Items) (next : Option ℕ) → IsLinked slots first last items → next ≡ None → IsBetween items last next
between_last slots first last items next linked is = record { front = items; back = []; is = sym (append-nil items); last = linked.ends; first = is }

pub between_at : (slots : Slab Node) (first last : Option ℕ) (items : Items) (key : ℕ) (node : Node) (next : Option ℕ)
    → IsLinked slots first last items → next ≡ Some key → has_key key items ≡ true → get slots key ≡ Some node → IsBetween items node.prev next
between_at slots first last items key node next linked is has stored =
    let here = found_at key items has in
    let place = header_at slots first last here.front here.found here.back node (subst (λ (zs : Items). IsLinked slots first last zs) here.is linked)
    (subst (λ (k : ℕ). get slots k ≡ Some node) (sym here.same) stored) in
    record { front = here.front; back = here.found ∷ here.back; is = here.is; last = ap (λ (p : Place Span). p.prev) place; first = is ∙ ap Some (sym here.same) }

-- another state
pub linked_set : (old new : Slab Node) (first last : Option ℕ) (items : Items) (key : ℕ) (state : SpanState)
    → IsLinked old first last items → has_key key items ≡ true → slab_len new ≡ slab_len old → place_at new ≡ with_state key state (place_at old)
    → IsLinked new first last (after_set key state items)
linked_set old new first last items key state linked has len places =
    let here = found_at key items has in
    let e : Keyed Span = here.found in
    let parts : IsLinked old first last (here.front ++ e ∷ here.back) = subst (λ (zs : Items). IsLinked old first last zs) here.is linked in
    let value : Span = record e.value { state = state } in
    let valued = linked_valued old new first last here.front e here.back value (links.restated state) parts len
    (subst (λ (k : ℕ). place_at new ≡ with_state k state (place_at old)) (sym here.same) places) (λ prev next. refl) in
    let list : after_set key state items ≡ here.front ++ (record { key = e.key; value = value }) ∷ here.back =
    ap (λ (zs : Items). after_set key state zs) here.is
    ∙ subst (λ (k : ℕ). after_set k state (here.front ++ e ∷ here.back) ≡ here.front ++ restated state e here.back) here.same (edited-at (restated state) here.front e here.back parts.apart) in
    subst (λ (zs : Items). IsLinked new first last zs) (sym list) valued

-- a cut
pub linked_split : (old mid new : Slab Node) (first last : Option ℕ) (items : Items) (key at second : ℕ) (node : Node) (upper : Span)
    → IsLinked old first last items → IsAt (IsInside at) key items → get old key ≡ Some node
    → slab_len mid ≡ slab_len old → place_at mid ≡ with_whole key (at - node.span.addr) (place_at old)
    → get mid second ≡ None → slab_len new ≡ slab_len mid + 1
    → place_at new ≡ with_prev node.next (Some second) (with_next (Some key) (Some second) (with_place second (Some (record { prev = Some key; next = node.next; value = upper })) (place_at mid)))
    → upper ≡ upper_part at node.span
    → IsLinked new first (end_unless node.next last (Some second)) (after_split key at second items)
linked_split old mid new first last items key at second node upper linked inside stored mid_len mid_places none len places is =
    let xs : Items = inside.front in
    let e : Keyed Span = inside.found in
    let ys : Items = inside.back in
    let parts : IsLinked old first last (xs ++ e ∷ ys) = subst (λ (zs : Items). IsLinked old first last zs) inside.is linked in
    let place = header_at old first last xs e ys node parts (subst (λ (k : ℕ). get old k ≡ Some node) (sym inside.same) stored) in
    let span_is : node.span ≡ e.value = ap (λ (p : Place Span). p.value) place in
    let next_is : node.next ≡ first_key ys None = ap (λ (p : Place Span). p.next) place in
    let low : Keyed Span = record { key = e.key; value = lower_part at e.value } in
    let high : Keyed Span = record { key = second; value = upper_part at e.value } in
    let mid_placed : place_at mid ≡ with_whole e.key (at - e.value.addr) (place_at old) =
    subst (λ (s : Span). place_at mid ≡ with_whole e.key (at - s.addr) (place_at old)) span_is
    (subst (λ (k : ℕ). place_at mid ≡ with_whole k (at - node.span.addr) (place_at old)) (sym inside.same) mid_places) in
    let cut = linked_valued old mid first last xs e ys low.value (resized (at - e.value.addr)) parts mid_len mid_placed (λ prev next. refl) in
    let front : Items = xs ++ low ∷ [] in
    let regroup : (zs : Items) → front ++ zs ≡ xs ++ low ∷ zs = λ zs. append_assoc xs (low ∷ []) zs in
    let cut_parts : IsLinked mid first last (front ++ ys) = subst (λ (zs : Items). IsLinked mid first last zs) (sym (regroup ys)) cut in
    let last_is : last_key None front ≡ Some e.key = last_key-append None xs (low ∷ []) in
    let P : Option ℕ → Option ℕ → Span → Type 0 = λ before_it behind_it value.
    place_at new ≡ with_prev behind_it (Some second) (with_next before_it (Some second) (with_place second (Some (record { prev = before_it; next = behind_it; value = value })) (place_at mid))) in
    let placed : P (last_key None front) (first_key ys None) high.value =
    subst (λ (v : Span). P (last_key None front) (first_key ys None) v) (is ∙ ap (λ (s : Span). upper_part at s) span_is)
    (subst (λ (o : Option ℕ). P (last_key None front) o upper) next_is
    (subst (λ (o : Option ℕ). P o node.next upper) (ap Some (sym inside.same) ∙ sym last_is) places)) in
    let added = linked_added mid new first last front high ys cut_parts none len placed in
    let first_is : end_unless (last_key None front) first (Some second) ≡ first = ap (λ (o : Option ℕ). end_unless o first (Some second)) last_is in
    let list : after_split key at second items ≡ front ++ high ∷ ys =
    ap (λ (zs : Items). after_split key at second zs) inside.is
    ∙ subst (λ (k : ℕ). after_split k at second (xs ++ e ∷ ys) ≡ xs ++ cut_at at second e ys) inside.same (edited-at (cut_at at second) xs e ys parts.apart)
    ∙ sym (regroup (high ∷ ys)) in
    subst (λ (zs : Items). IsLinked new first (end_unless node.next last (Some second)) zs) (sym list)
    (subst (λ (o : Option ℕ). IsLinked new first (end_unless o last (Some second)) (front ++ high ∷ ys)) (sym next_is)
    (subst (λ (o : Option ℕ). IsLinked new o (end_unless (first_key ys None) last (Some second)) (front ++ high ∷ ys)) first_is added))

-- an element can be unlinked
unlinkable : (slots : Slab Node) (first last : Option ℕ) (xs : Items) (e : Keyed Span) (ys : Items) → IsLinked slots first last (xs ++ e ∷ ys) → CanUnlink slots e.key
unlinkable slots first last xs e ys linked =
    let all : Items = xs ++ e ∷ ys in
    record {
      here = known slots first last all e.key linked (has_key_back e.key xs (e ∷ ys) (has_key-own e ys));
      prev = λ node is. subst (λ (o : Option ℕ). IsKnown slots o) (sym (ap (λ (p : Place Span). p.prev) (header_at slots first last xs e ys node linked is)))
          (known_option slots first last all (last_key None xs) linked (front_keys xs e ys));
      next = λ node is. subst (λ (o : Option ℕ). IsKnown slots o) (sym (ap (λ (p : Place Span). p.next) (header_at slots first last xs e ys node linked is)))
          (known_option slots first last all (first_key ys None) linked (back_keys xs e ys));
    }

pub can_unlink : (slots : Slab Node) (first last : Option ℕ) (items : Items) (key : ℕ) → IsLinked slots first last items → has_key key items ≡ true → CanUnlink slots key
can_unlink slots first last items key linked has =
    let here = found_at key items has in
    subst (λ (k : ℕ). CanUnlink slots k) here.same
    (unlinkable slots first last here.front here.found here.back (subst (λ (zs : Items). IsLinked slots first last zs) here.is linked))

-- an element taken out
unlinked : (old new : Slab Node) (first last : Option ℕ) (xs : Items) (e : Keyed Span) (ys : Items) (node : Node)
    → IsLinked old first last (xs ++ e ∷ ys) → get old e.key ≡ Some node → slab_len new + 1 ≡ slab_len old → IsUnlinked old new e.key
    → IsLinked new (end_unless node.prev first node.next) (end_unless node.next last node.prev) (xs ++ ys)
unlinked old new first last xs e ys node linked stored len places =
    let place = header_at old first last xs e ys node linked stored in
    let prev_is : node.prev ≡ last_key None xs = ap (λ (p : Place Span). p.prev) place in
    let next_is : node.next ≡ first_key ys None = ap (λ (p : Place Span). p.next) place in
    let P : Option ℕ → Option ℕ → Type 0 = λ prev next. place_at new ≡ with_place e.key None (with_prev next prev (with_next prev next (place_at old))) in
    let Q : Option ℕ → Option ℕ → Type 0 = λ prev next. IsLinked new (end_unless prev first next) (end_unless next last prev) (xs ++ ys) in
    let placed : P (last_key None xs) (first_key ys None) = subst (λ (o : Option ℕ). P (last_key None xs) o) next_is (subst (λ (o : Option ℕ). P o node.next) prev_is (places node stored)) in
    let removed : Q (last_key None xs) (first_key ys None) = linked_removed old new first last xs e ys linked len placed in
    subst (λ (o : Option ℕ). Q o node.next) (sym prev_is) (subst (λ (o : Option ℕ). Q (last_key None xs) o) (sym next_is) removed)

pub linked_hidden : (old new : Slab Node) (first last : Option ℕ) (items : Items) (key : ℕ) (node : Node)
    → IsLinked old first last items → has_key key items ≡ true → get old key ≡ Some node → slab_len new + 1 ≡ slab_len old → IsUnlinked old new key
    → IsLinked new (end_unless node.prev first node.next) (end_unless node.next last node.prev) (without_key key items)
linked_hidden old new first last items key node linked has stored len places =
    let here = found_at key items has in
    let parts : IsLinked old first last (here.front ++ here.found ∷ here.back) = subst (λ (zs : Items). IsLinked old first last zs) here.is linked in
    let list : without_key key items ≡ here.front ++ here.back =
    ap (λ (zs : Items). without_key key zs) here.is
    ∙ subst (λ (k : ℕ). without_key k (here.front ++ here.found ∷ here.back) ≡ here.front ++ here.back) here.same (without_key-at here.front here.found here.back parts.apart) in
    subst (λ (zs : Items). IsLinked new (end_unless node.prev first node.next) (end_unless node.next last node.prev) zs) (sym list)
    (unlinked old new first last here.front here.found here.back node parts
    (subst (λ (k : ℕ). get old k ≡ Some node) (sym here.same) stored) len (subst (λ (k : ℕ). IsUnlinked old new k) (sym here.same) places))

-- the next of the first of two
pub next_at : (slots : Slab Node) (first last : Option ℕ) (P : Span → Span → Type 0) (key : ℕ) (items : Items) (node : Node) (two : AreAt P key items)
    → IsLinked slots first last items → get slots key ≡ Some node → (node.next ≡ Some two.next.key) × (node.span ≡ two.found.value)
next_at slots first last P key items node two linked stored =
    let place = header_at slots first last two.front two.found (two.next ∷ two.back) node (subst (λ (zs : Items). IsLinked slots first last zs) two.is linked)
    (subst (λ (k : ℕ). get slots k ≡ Some node) (sym two.same) stored) in
    (ap (λ (p : Place Span). p.next) place, ap (λ (p : Place Span). p.value) place)

-- what holds of the element under a key holds of its header
pub holds_at : (slots : Slab Node) (first last : Option ℕ) (P : Span → Type 0) (key : ℕ) (items : Items) (node : Node)
    → IsLinked slots first last items → IsAt P key items → get slots key ≡ Some node → P node.span
holds_at slots first last P key items node linked at stored =
    let place = header_at slots first last at.front at.found at.back node (subst (λ (zs : Items). IsLinked slots first last zs) at.is linked)
    (subst (λ (k : ℕ). get slots k ≡ Some node) (sym at.same) stored) in
    subst P (sym (ap (λ (p : Place Span). p.value) place)) at.holds

-- the first of two, and the second, are keys of the list
pub has_first : (P : Span → Span → Type 0) (key : ℕ) (items : Items) → AreAt P key items → has_key key items ≡ true
has_first P key items two = has_at (λ _. Unit {0}) key items (record { front = two.front; found = two.found; back = two.next ∷ two.back; is = two.is; same = two.same; holds = tt })

pub has_second : (P : Span → Span → Type 0) (key : ℕ) (items : Items) (two : AreAt P key items) → has_key two.next.key items ≡ true
has_second P key items two =
    has_at (λ _. Unit {0}) two.next.key items (record {
      front = two.front ++ two.found ∷ [];
      found = two.next;
      back = two.back;
      is = two.is ∙ sym (append_assoc two.front (two.found ∷ []) (two.next ∷ two.back));
      same = refl;
      holds = tt;
    })

pub second_is : (P : Span → Span → Type 0) (key : ℕ) (items : Items) (two : AreAt P key items) → IsAt (λ span. span ≡ two.next.value) two.next.key items
second_is P key items two = record {
  front = two.front ++ two.found ∷ [];
  found = two.next;
  back = two.back;
  is = two.is ∙ sym (append_assoc two.front (two.found ∷ []) (two.next ∷ two.back));
  same = refl;
  holds = refl;
}

-- the two have different keys
pub first_differs : (P : Span → Span → Type 0) (key : ℕ) (items : Items) (two : AreAt P key items) → AreApart items → key ≡ two.next.key → ⊥
first_differs P key items two apart same =
    let own = Rattle.hp_chain.proofs.Keys.apart_middle two.front two.found (two.next ∷ two.back) (subst (λ (zs : Items). AreApart zs) two.is apart) in
    Rattle.std.proofs.lemmas.Bool.both_ways (has_key two.found.key (two.next ∷ two.back)) own.1
    (subst (λ (k : ℕ). has_key k (two.next ∷ two.back) ≡ true) (sym (two.same ∙ same)) (has_key-own two.next two.back))

-- a join
pub linked_joined : (old cut new : Slab Node) (first last : Option ℕ) (items : Items) (key other : ℕ) (node taken : Node) (P : Span → Span → Type 0)
    → IsLinked old first last items → AreAt P key items → get old key ≡ Some node → node.next ≡ Some other → get old other ≡ Some taken
    → slab_len cut + 1 ≡ slab_len old → IsUnlinked old cut other
    → slab_len new ≡ slab_len cut → place_at new ≡ with_whole key (node.span.whole + taken.span.whole) (place_at cut)
    → IsLinked new first (end_unless taken.next last (Some key)) (after_join key items)
linked_joined old cut new first last items key other node taken P linked two stored next_is taken_stored cut_len cut_places len places =
    let xs : Items = two.front in
    let e : Keyed Span = two.found in
    let n : Keyed Span = two.next in
    let ys : Items = two.back in
    let parts : IsLinked old first last (xs ++ e ∷ n ∷ ys) = subst (λ (zs : Items). IsLinked old first last zs) two.is linked in
    let beside = next_at old first last P key items node two linked stored in
    let other_is : other ≡ n.key = same_Some other n.key (sym next_is ∙ beside.0) in
    let front : Items = xs ++ e ∷ [] in
    let regroup : (zs : Items) → front ++ zs ≡ xs ++ e ∷ zs = λ zs. append_assoc xs (e ∷ []) zs in
    let cut_parts : IsLinked old first last (front ++ n ∷ ys) = subst (λ (zs : Items). IsLinked old first last zs) (sym (regroup (n ∷ ys))) parts in
    let n_stored : get old n.key ≡ Some taken = subst (λ (k : ℕ). get old k ≡ Some taken) other_is taken_stored in
    let place = header_at old first last front n ys taken cut_parts n_stored in
    let prev_is : taken.prev ≡ Some key = ap (λ (p : Place Span). p.prev) place ∙ last_key-append None xs (e ∷ []) ∙ ap Some two.same in
    let span_is : taken.span ≡ n.value = ap (λ (p : Place Span). p.value) place in
    let out = unlinked old cut first last front n ys taken cut_parts n_stored cut_len (subst (λ (k : ℕ). IsUnlinked old cut k) other_is cut_places) in
    let ends : IsLinked cut first (end_unless taken.next last (Some key)) (front ++ ys) =
    subst (λ (o : Option ℕ). IsLinked cut (end_unless o first taken.next) (end_unless taken.next last o) (front ++ ys)) prev_is out in
    let left : IsLinked cut first (end_unless taken.next last (Some key)) (xs ++ e ∷ ys) =
    subst (λ (zs : Items). IsLinked cut first (end_unless taken.next last (Some key)) zs) (regroup ys) ends in
    let placed : place_at new ≡ with_whole e.key (e.value.whole + n.value.whole) (place_at cut) =
    subst (λ (v : Span). place_at new ≡ with_whole e.key (e.value.whole + v.whole) (place_at cut)) span_is
    (subst (λ (v : Span). place_at new ≡ with_whole e.key (v.whole + taken.span.whole) (place_at cut)) beside.1
    (subst (λ (k : ℕ). place_at new ≡ with_whole k (node.span.whole + taken.span.whole) (place_at cut)) (sym two.same) places)) in
    let both : Span = joined e.value n.value in
    let valued = linked_valued cut new first (end_unless taken.next last (Some key)) xs e ys both (resized (e.value.whole + n.value.whole)) left len placed (λ prev next. refl) in
    let list : after_join key items ≡ xs ++ (record { key = e.key; value = both }) ∷ ys =
    ap (λ (zs : Items). after_join key zs) two.is
    ∙ subst (λ (k : ℕ). after_join k (xs ++ e ∷ n ∷ ys) ≡ xs ++ with_next_joined e (n ∷ ys)) two.same (edited-at with_next_joined xs e (n ∷ ys) parts.apart) in
    subst (λ (zs : Items). IsLinked new first (end_unless taken.next last (Some key)) zs) (sym list) valued
