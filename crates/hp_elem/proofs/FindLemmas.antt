-- The numbers of a chain's elements, as they are filed one by one and as a search finds them.
use Rattle.std.proofs.Common.{◌≡◌, ◌≢◌, ℕ, zero, suc, ◌+◌, ◌%◌, ◌<◌, ◌≤◌, List, [], ◌∷◌, ◌++◌, true, false, Bool, Option, Some, None, nat_eq, length, get_or, replicate, refl, sym, ap, ◌∙◌, subst, cond, not, eq-eqb, arith, inl, inr, append_assoc, append-nil, length-append, ◌⊎◌}
use Rattle.std.proofs.lemmas.Bool.{cases_Bool, cond-true, cond-false, eqb-true, false≢true, and_parts, or_parts}
use Rattle.std.proofs.lemmas.List.{get_or-replicate, length-replicate}
use Rattle.std.proofs.lemmas.Option.{none-some, same_Some}
use Rattle.hp_base.specs.declared.span.Span.{Span}
use Rattle.hp_base.specs.declared.span.SpanState.{SpanState}
use Rattle.hp_base.specs.declared.span.SpanState.TheVariants.{Free, Busy}
use Rattle.hp_base.specs.declared.tag.Tag.{Tag}
use Rattle.hp_chain.specs.Chain.{Keyed, Places, AreApart, first_key, has_key}
use Rattle.hp_chain.proofs.Keys.{apart_middle, has_key_back, has_key-own}
use Rattle.hp_elem.specs.declared.link.Link.{Link}
use Rattle.hp_elem.specs.declared.node.Node.{Node}
use Rattle.hp_elem.specs.Items.{Items, Stands, is_tagged_state}
use Rattle.hp_elem.specs.Order.{IsOrdered, KeysBelow}
use Rattle.hp_elem.specs.Tags.{place_at, number_in, number_at, numbers_of, number_of, with_entry, entry_of, tag_number, tagged_start, falls, IsBucket, AreFiled, list_from}
use Rattle.hp_elem.proofs.OrderLemmas.{below_back}
use Rattle.hp_elem.proofs.EntryLemmas.{entry-added, entry-middle}
use Rattle.hp_elem.proofs.FilingLemmas.{numbers_are, key_within}
use Rattle.hp_elem.proofs.LowestLemmas.{bucket_is, entry_has, none_entry, stands_entry}

-- links of which none has a number
unlinked_at : (links : List Link) (n : ℕ) (key : ℕ) → links ≡ replicate n (record { prev = None; next = None; number = None }) → number_at (numbers_of links) key ≡ None
unlinked_at links n key is =
    ap (λ (all : List Link). number_at (numbers_of all) key) is ∙ each n key
  where
    each : (n key : ℕ) → number_at (numbers_of (replicate n (record { prev = None; next = None; number = None }))) key ≡ None
    each zero key = refl
    each (suc n) zero = refl
    each (suc n) (suc key) = each n key

pub unlinked_numbers : (links : List Link) (n : ℕ) → links ≡ replicate n (record { prev = None; next = None; number = None }) → (key : ℕ) → number_at (numbers_of links) key ≡ None
unlinked_numbers links n is key = unlinked_at links n key is

pub unlinked_filed : (links : List Link) (firsts : List (Option ℕ)) (n : ℕ) → links ≡ replicate n (record { prev = None; next = None; number = None }) → firsts ≡ replicate n None → AreFiled links firsts
unlinked_filed links firsts n links_are firsts_are =
    let count : length firsts ≡ n = ap (λ (fs : List (Option ℕ)). length fs) firsts_are ∙ length-replicate n None in
    record {
      count = count ∙ sym (ap (λ (ls : List Link). length ls) links_are ∙ length-replicate n (record { prev = None; next = None; number = None }));
      buckets = λ bucket below. record {
        list = [];
        head = ap (λ (fs : List (Option ℕ)). get_or fs bucket None) firsts_are ∙ get_or-replicate n bucket None None (omega (arith, below, count));
        spelled = tt;
        apart = tt;
        exact = λ key. sym (ap (λ (number : Option ℕ). falls (length firsts) bucket number)
            (sym (ap (λ (table : ℕ → Option ℕ). table key) (numbers_are links)) ∙ unlinked_at links n key links_are));
      };
    }

-- the elements in front of a key are filed, so many
pub record IsFilling (items : Items) (table : ℕ → Option ℕ) (next : Option ℕ) (done : ℕ) : Type 0 where
  pub front : Items
  pub back : Items
  pub is : items ≡ front ++ back
  pub first : next ≡ first_key back None
  pub count : length front ≡ done
  pub numbers : table ≡ tag_number front

-- what stands after a key
behind : ℕ → Items → Items
behind key [] = []
behind key (e ∷ es) = cond (nat_eq e.key key) es (behind key es)

behind-at : (xs : Items) (e : Keyed Span) (ys : Items) → has_key e.key xs ≡ false → behind e.key (xs ++ e ∷ ys) ≡ ys
unfolding behind
behind-at [] e ys lacks = cond-true (nat_eq e.key e.key) ys (behind e.key ys) (eq-eqb e.key e.key refl)
behind-at (x ∷ xs) e ys lacks =
    let parts = or_parts (nat_eq x.key e.key) (has_key e.key xs) lacks in
    cond-false (nat_eq x.key e.key) (xs ++ e ∷ ys) (behind e.key (xs ++ e ∷ ys)) parts.0 ∙ behind-at xs e ys parts.1

same_back : (items xs : Items) (e : Keyed Span) (ys us : Items) (f : Keyed Span) (vs : Items) → AreApart items → items ≡ xs ++ e ∷ ys → items ≡ us ++ f ∷ vs → e.key ≡ f.key → ys ≡ vs
same_back items xs e ys us f vs apart one other same =
    sym (behind-at xs e ys (apart_middle xs e ys (subst (λ (zs : Items). AreApart zs) one apart)).0)
    ∙ ap (λ (zs : Items). behind e.key zs) (sym one) ∙ ap (λ (k : ℕ). behind k items) same ∙ ap (λ (zs : Items). behind f.key zs) other
    ∙ behind-at us f vs (apart_middle us f vs (subst (λ (zs : Items). AreApart zs) other apart)).0

module _ (items : Items) (table : ℕ → Option ℕ) (next : Option ℕ) (done : ℕ) (filling : IsFilling items table next done) where
  rest_has : (back : Items) (key : ℕ) → first_key back None ≡ Some key → (e : Keyed Span) × (rest : Items) × (back ≡ e ∷ rest) × (e.key ≡ key)
  rest_has [] key is = absurd (none-some key is)
  rest_has (e ∷ rest) key is = (e, rest, refl, same_Some e.key key is)

  whole : (key : ℕ) → next ≡ Some key → (e : Keyed Span) × (rest : Items) × (items ≡ filling.front ++ e ∷ rest) × (e.key ≡ key)
  whole key is =
      let split = rest_has filling.back key (sym filling.first ∙ is) in
      (split.0, split.1, filling.is ∙ ap (λ (zs : Items). filling.front ++ zs) split.2, split.3)

  pub filling_has : (key : ℕ) → next ≡ Some key → has_key key items ≡ true
  filling_has key is =
      let split = whole key is in
      subst (λ (zs : Items). has_key key zs ≡ true) (sym split.2)
      (has_key_back key filling.front (split.0 ∷ split.1)
      (subst (λ (k : ℕ). has_key k (split.0 ∷ split.1) ≡ true) split.3 (has_key-own split.0 split.1)))

  pub filling_below : (key key_end : ℕ) → next ≡ Some key → IsOrdered items key_end → key < key_end
  filling_below key key_end is ordered =
      let split = whole key is in
      let below = below_back key_end filling.front (split.0 ∷ split.1) (subst (λ (zs : Items). KeysBelow key_end zs) split.2 ordered.below) in
      omega (arith, below.0, split.3)

  pub filled_more : (key : ℕ) (new : ℕ → Option ℕ) (node : Node) → next ≡ Some key → AreApart items → Stands items key node
      → new ≡ with_entry key (number_of node.span.state) table → IsFilling items new node.next (done + 1)
  filled_more key new node is apart stands filed =
      let split = whole key is in
      let e : Keyed Span = split.0 in
      let rest : Items = split.1 in
      let own : Keyed Span = record { key = key; value = node.span } in
      let middle = apart_middle filling.front e rest (subst (λ (zs : Items). AreApart zs) split.2 apart) in
      let value_is : number_of node.span.state ≡ number_of e.value.state =
      sym (stands_entry (λ (span : Span). number_of span.state) key items node apart stands)
      ∙ ap (λ (k : ℕ). tag_number items k) (sym split.3)
      ∙ ap (λ (zs : Items). tag_number zs e.key) split.2
      ∙ entry-middle (λ (span : Span). number_of span.state) filling.front e rest (subst (λ (zs : Items). AreApart zs) split.2 apart) in
      record {
        front = filling.front ++ e ∷ [];
        back = rest;
        is = split.2 ∙ sym (append_assoc filling.front (e ∷ []) rest);
        first = stands.next ∙ ap (λ (zs : Items). first_key zs None) (same_back items stands.front own stands.back filling.front e rest apart stands.is split.2 (sym split.3));
        count = length-append filling.front (e ∷ []) ∙ ap (λ (n : ℕ). n + 1) filling.count;
        numbers = filed
            ∙ ap (λ (k : ℕ). with_entry k (number_of node.span.state) table) (sym split.3)
            ∙ ap (λ (n : Option ℕ). with_entry e.key n table) value_is
            ∙ ap (λ (t : ℕ → Option ℕ). with_entry e.key (number_of e.value.state) t) (filling.numbers ∙ ap (λ (zs : Items). tag_number zs) (sym (append-nil filling.front)))
            ∙ sym (entry-added (λ (span : Span). number_of span.state) filling.front e [] middle.0);
      }

  -- where nothing is after, all are filed
  none_behind : (back : Items) → first_key back None ≡ None → back ≡ []
  none_behind [] is = refl
  none_behind (e ∷ rest) is = absurd (none-some e.key (sym is))

  filled_by : filling.back ≡ [] → table ≡ tag_number items
  filled_by none =
      filling.numbers ∙ ap (λ (zs : Items). tag_number zs) (sym (filling.is ∙ ap (λ (zs : Items). filling.front ++ zs) none ∙ append-nil filling.front))

  pub filled_none : next ≡ None → table ≡ tag_number items
  filled_none is = filled_by (none_behind filling.back (sym filling.first ∙ is))

  no_length : (back : Items) → length back ≡ 0 → back ≡ []
  no_length [] is = refl
  no_length (e ∷ rest) is = absurd (omega (arith, is))

  pub filled_all : length items ≤ done → table ≡ tag_number items
  filled_all within =
      filled_by (no_length filling.back
      (omega (arith, ap (λ (zs : Items). length zs) filling.is, length-append filling.front filling.back, filling.count, within)))

-- an element with a tag has its number
tagged_state : (state : SpanState) (zone : Bool) (number : ℕ) → is_tagged_state zone number state ≡ true → number_of state ≡ Some number
tagged_state (Free stamp) zone number is = absurd (false≢true is)
tagged_state (Busy pad size tag) zone number is =
    ap Some (eqb-true tag.number number (and_parts (cond zone tag.zone (not tag.zone)) (nat_eq tag.number number) is).1)

pub tagged_number : (zone : Bool) (number key addr : ℕ) (items : Items) → entry_of (tagged_start zone number) items key ≡ Some addr → tag_number items key ≡ Some number
tagged_number zone number key addr [] is = absurd (none-some addr is)
tagged_number zone number key addr (e ∷ es) is = elim (cases_Bool (nat_eq key e.key)) [
  | inl same ↦
      let start : tagged_start zone number e.value ≡ Some addr = sym (cond-true (nat_eq key e.key) (tagged_start zone number e.value) (entry_of (tagged_start zone number) es key) same) ∙ is in
      cond-true (nat_eq key e.key) (number_of e.value.state) (tag_number es key) same ∙ elim (cases_Bool (is_tagged_state zone number e.value.state)) [
        | inl tagged ↦ tagged_state e.value.state zone number tagged
        | inr other ↦ absurd (none-some addr (sym (cond-false (is_tagged_state zone number e.value.state) (Some e.value.addr) None other) ∙ start))
      ]
  | inr differs ↦
      cond-false (nat_eq key e.key) (number_of e.value.state) (tag_number es key) differs
      ∙ tagged_number zone number key addr es (sym (cond-false (nat_eq key e.key) (tagged_start zone number e.value) (entry_of (tagged_start zone number) es key) differs) ∙ is)
]

-- so one with another number does not count
pub no_start : (zone : Bool) (number key : ℕ) (items : Items) → tag_number items key ≢ Some number → entry_of (tagged_start zone number) items key ≡ None
no_start zone number key items differs =
    none_entry (entry_of (tagged_start zone number) items key) (λ addr is. differs (tagged_number zone number key addr items is))

falls_some : (count bucket : ℕ) (number : Option ℕ) → falls count bucket number ≡ true → (n : ℕ) × (number ≡ Some n)
falls_some count bucket None is = absurd (false≢true is)
falls_some count bucket (Some n) is = (n, refl)

module _ (links : List Link) (firsts : List (Option ℕ)) (items : Items) (zone : Bool) (number : ℕ) (filed : AreFiled links firsts)
    (numbers : number_at (numbers_of links) ≡ tag_number items) where
  pub in_links : number_in (place_at links) ≡ tag_number items
  in_links = sym (numbers_are links) ∙ numbers

  -- where there is no bucket, no element has a tag
  pub none_tagged : length firsts ≡ 0 → (key : ℕ) → entry_of (tagged_start zone number) items key ≡ None
  none_tagged none key = elim (cases_entry (entry_of (tagged_start zone number) items key)) [
    | inl is ↦ is
    | inr some ↦
        let has : tag_number items key ≡ Some number = tagged_number zone number key some.0 items some.1 in
        let within = key_within links firsts filed key number (ap (λ (table : ℕ → Option ℕ). table key) in_links ∙ has) in
        absurd (omega (arith, within, filed.count, none))
  ]
    where
      cases_entry : (entry : Option ℕ) → (entry ≡ None) ⊎ ((addr : ℕ) × (entry ≡ Some addr))
      cases_entry None = inl refl
      cases_entry (Some addr) = inr (addr, refl)

  module _ (bucket : ℕ) (first : Option ℕ) (below : bucket < length firsts) (first_is : first ≡ get_or firsts bucket None) where
    list_is : list_from links first ≡ (filed.buckets bucket below).list
    list_is = ap (λ (key : Option ℕ). list_from links key) first_is ∙ bucket_is links (length firsts) bucket (get_or firsts bucket None) (filed.buckets bucket below)

    pub all_in : bucket ≡ number % length firsts → (key addr : ℕ) → entry_of (tagged_start zone number) items key ≡ Some addr → has_key key (list_from links first) ≡ true
    all_in is key addr entry =
        let has : number_in (place_at links) key ≡ Some number = ap (λ (table : ℕ → Option ℕ). table key) in_links ∙ tagged_number zone number key addr items entry in
        ap (λ zs. has_key key zs) list_is ∙ (filed.buckets bucket below).exact key
        ∙ ap (λ (n : Option ℕ). falls (length firsts) bucket n) has ∙ eq-eqb (number % length firsts) bucket (sym is)

    pub all_known : (key : ℕ) → has_key key (list_from links first) ≡ true → has_key key items ≡ true
    all_known key has =
        let fell = sym ((filed.buckets bucket below).exact key) ∙ sym (ap (λ zs. has_key key zs) list_is) ∙ has in
        let some = falls_some (length firsts) bucket (number_in (place_at links) key) fell in
        entry_has (λ (span : Span). number_of span.state) key some.0 items (sym (ap (λ (table : ℕ → Option ℕ). table key) in_links) ∙ some.1)
