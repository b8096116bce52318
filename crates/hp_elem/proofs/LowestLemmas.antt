-- The walk along a bucket, and that the lowest element with a tag is the first one by address.
use Rattle.std.proofs.Common.{◌≡◌, ◌≢◌, ℕ, zero, suc, ◌+◌, ◌-◌, ◌<◌, ◌≤◌, List, [], ◌∷◌, ◌++◌, true, false, Bool, Option, Some, None, nat_eq, nat_le, ltb, option_map, length, get_or, refl, sym, ap, ap₂, ◌∙◌, subst, cond, eq-eqb, arith, inl, inr, ◌⊎◌}
use Rattle.std.proofs.lemmas.Bool.{cases_Bool, cond-true, cond-false, eqb-true, eqb-false, ne_eqb, or_cases, or_right, false≢true, ltb-true, ltb-false, both_ways}
use Rattle.std.proofs.lemmas.Option.{none-some, same_Some}
use Rattle.hp_base.specs.declared.span.Span.{Span}
use Rattle.hp_chain.specs.Chain.{Keyed, Place, Places, AreApart, has_key, visit, walk}
use Rattle.hp_chain.proofs.Keys.{has_key-own}
use Rattle.hp_chain.proofs.Walks.{walk-none, walk-some, walk_is, length_spelled}
use Rattle.hp_elem.specs.declared.link.Link.{Link}
use Rattle.hp_elem.specs.declared.lowest.Lowest.{Lowest}
use Rattle.hp_elem.specs.declared.node.Node.{Node}
use Rattle.hp_elem.specs.Items.{Items, Stands, end_of, is_tagged, is_tagged_state, first_tagged}
use Rattle.hp_elem.specs.Order.{IsRising}
use Rattle.hp_elem.specs.Tags.{place_of, place_at, number_in, kept, number_of, with_entry, entry_of, tag_number, tagged_start, falls, IsBucket, list_from, IsLowest}
use Rattle.hp_elem.specs.Lowest.{lower_of, with_start, IsUnder, HasEntry, IsSoFar}
use Rattle.hp_elem.proofs.SearchLemmas.{found-here, found-later}
use Rattle.hp_elem.proofs.EntryLemmas.{entry-same, entry-other, entry-own, entry_lacks, entry-middle}
use Rattle.hp_elem.proofs.FilingLemmas.{place_within, read_place}

-- the entry of an element that stands
pub stands_entry : (f : Span → Option ℕ) (key : ℕ) (items : Items) (node : Node) → AreApart items → Stands items key node → entry_of f items key ≡ f node.span
stands_entry f key items node apart stands =
    let e : Keyed Span = record { key = key; value = node.span } in
    ap (λ (zs : Items). entry_of f zs key) stands.is ∙ entry-middle f stands.front e stands.back (subst (λ (zs : Items). AreApart zs) stands.is apart)

-- a key that has an entry is that of an element
pub entry_has : (f : Span → Option ℕ) (key entry : ℕ) (items : Items) → entry_of f items key ≡ Some entry → has_key key items ≡ true
entry_has f key entry items is = elim (cases_Bool (has_key key items)) [
  | inl has ↦ has
  | inr lacks ↦ absurd (none-some entry (sym (entry_lacks f key items lacks) ∙ is))
]

-- what is left of a walk
module _ (links : List Link) where
  pub left_none : (n : ℕ) (next : Option ℕ) → next ≡ None → walk (place_at links) n next ≡ []
  left_none n next is = ap (λ (key : Option ℕ). walk (place_at links) n key) is ∙ walk-none (λ (place : Place (Option ℕ)). place.next) (place_at links) n

  nothing_at : (n key : ℕ) → place_at links key ≡ None → walk (place_at links) n (Some key) ≡ []
  nothing_at zero key is = refl
  nothing_at (suc n) key is =
      ap (λ (slot : Option (Place (Option ℕ))). visit (λ (place : Place (Option ℕ)). place.next) key slot (λ (other : Option ℕ). walk (place_at links) n other)) is

  pub left_missing : (read : List Link) (n key : ℕ) (next : Option ℕ) → read ≡ links → next ≡ Some key → false ≡ ltb key (length read) → walk (place_at links) n next ≡ []
  left_missing read n key next same is missing =
      ap (λ (k : Option ℕ). walk (place_at links) n k) is
      ∙ nothing_at n key (subst (λ (all : List Link). place_at all key ≡ None) same (unread read key (ltb-false key (length read) (sym missing))))
    where
      unread : (all : List Link) (k : ℕ) → length all ≤ k → place_at all k ≡ None
      unread [] k beyond = refl
      unread (first ∷ rest) zero beyond = absurd (omega (arith, beyond))
      unread (first ∷ rest) (suc k) beyond = unread rest k (omega (arith, beyond))

  pub left_over : (n : ℕ) (next : Option ℕ) → n ≡ 0 → walk (place_at links) n next ≡ []
  left_over n next is = ap (λ (m : ℕ). walk (place_at links) m next) is

  -- one step, as it is read
  pub stepped : (read : List Link) (len step key : ℕ) (next : Option ℕ) (link : Link) → read ≡ links → step < len → next ≡ Some key
      → true ≡ ltb key (length read) → link ≡ get_or read key link
      → walk (place_at links) (len - step) next ≡ record { key = key; value = link.number } ∷ walk (place_at links) (len - (step + 1)) link.next
  stepped read len step key next link same more is within found =
      let rest : ℕ = len - (step + 1) in
      let enough : len - step ≡ suc rest = omega (arith, more) in
      let stands : place_at links key ≡ Some (place_of link) =
      subst (λ (all : List Link). place_at all key ≡ Some (place_of link)) same (read_place read key link (ltb-true key (length read) (sym within)) found) in
      ap₂ (λ (n : ℕ) (k : Option ℕ). walk (place_at links) n k) enough is
      ∙ walk-some (λ (place : Place (Option ℕ)). place.next) (place_at links) rest key (place_of link) stands

  -- the number of a link, as it is read
  pub read_number : (read : List Link) (key : ℕ) (link : Link) → read ≡ links → true ≡ ltb key (length read) → link ≡ get_or read key link
      → number_in (place_at links) key ≡ link.number
  read_number read key link same within found =
      ap (λ (slot : Option (Place (Option ℕ))). kept slot)
      (subst (λ (all : List Link). place_at all key ≡ Some (place_of link)) same (read_place read key link (ltb-true key (length read) (sym within)) found))

  -- a bucket is the walk from its first key
  pub bucket_is : (count bucket : ℕ) (first : Option ℕ) (own : IsBucket (place_at links) count bucket first) → list_from links first ≡ own.list
  bucket_is count bucket first own =
      ap (λ (key : Option ℕ). list_from links key) own.head
      ∙ walk_is (place_at links) (length links) None own.list (length_spelled (place_at links) (length links) None own.list None (place_within links) own.apart own.spelled) own.spelled

-- a step of the walk
under_own : (table : ℕ → Option ℕ) (key addr entry : ℕ) → table key ≡ Some addr → table key ≡ Some entry → addr ≤ entry
under_own table key addr entry is other = let same : addr ≡ entry = same_Some addr entry (sym is ∙ other) in omega (arith, same)

-- what the lower one of two owes
record Lowers (table : ℕ → Option ℕ) (best new : Option Lowest) (key : ℕ) : Type 0 where
  entry : HasEntry table new
  under : (addr : ℕ) → IsUnder best addr → IsUnder new addr
  own : (addr : ℕ) → table key ≡ Some addr → IsUnder new addr

lowers_known : (table : ℕ → Option ℕ) (best : Option Lowest) (key addr : ℕ) → HasEntry table best → table key ≡ Some addr → Lowers table best (lower_of best key addr) key
lowers_known table None key addr has is = record { entry = is; under = λ a none. absurd none; own = λ a same. under_own table key addr a is same }
lowers_known table (Some best) key addr has is =
    let new : Lowest = record { key = key; addr = addr } in
    let P : Bool → Type 0 = λ b. Lowers table (Some best) (cond b (Some best) (Some new)) key in
    elim (cases_Bool (nat_le best.addr addr)) [
      | inl low ↦
          let below : best.addr ≤ addr = grind (arith, low) in
          let kept_it : Lowers table (Some best) (Some best) key =
          record { entry = has; under = λ a under. under; own = λ a same. let own_is = under_own table key addr a is same in omega (arith, below, own_is) } in
          subst P (sym low) kept_it
      | inr high ↦
          let above : addr < best.addr = grind (arith, high) in
          let lowered : Lowers table (Some best) (Some new) key =
          record { entry = is; under = λ a under. omega (arith, above, under); own = λ a same. under_own table key addr a is same } in
          subst P (sym high) lowered
    ]

lowers : (table : ℕ → Option ℕ) (best : Option Lowest) (key : ℕ) (entry : Option ℕ) → HasEntry table best → table key ≡ entry
    → Lowers table best (with_start best key entry) key
lowers table best key None has is = record { entry = has; under = λ a under. under; own = λ a same. absurd (none-some a (sym is ∙ same)) }
lowers table best key (Some addr) has is = lowers_known table best key addr has is

-- where it begins that counts only if it is busy with the tag, is where it begins
pub start_counts : (best : Option Lowest) (key addr : ℕ) (b : Bool) → with_start best key (cond b (Some addr) None) ≡ cond b (lower_of best key addr) best
start_counts best key addr true = refl
start_counts best key addr false = refl

module _ (table : ℕ → Option ℕ) (items : Items) (best : Option Lowest) (left : List (Keyed (Option ℕ))) (so_far : IsSoFar table items best left) where
  pub so_far_step : (key : ℕ) (tag : Option ℕ) (rest : List (Keyed (Option ℕ))) → left ≡ (record { key = key; value = tag }) ∷ rest
      → IsSoFar table items (with_start best key (table key)) rest
  so_far_step key tag rest is =
      let low = lowers table best key (table key) so_far.entry refl in
      let new : Option Lowest = with_start best key (table key) in
      record {
        entry = low.entry;
        rest = λ k addr has. elim (so_far.rest k addr has) as (λ _. (has_key k rest ≡ true) ⊎ IsUnder new addr) [
          | inl among ↦ elim (or_cases (nat_eq key k) (has_key k rest) (subst (λ (zs : List (Keyed (Option ℕ))). has_key k zs ≡ true) is among)) as (λ _. (has_key k rest ≡ true) ⊎ IsUnder new addr) [
            | inl same ↦ inr (low.own addr (subst (λ (m : ℕ). table m ≡ Some addr) (sym (eqb-true key k same)) has))
            | inr later ↦ inl later
          ]
          | inr under ↦ inr (low.under addr under)
        ];
        known = λ k has. so_far.known k (subst (λ (zs : List (Keyed (Option ℕ))). has_key k zs ≡ true) (sym is) (or_right (nat_eq key k) (has_key k rest) has));
      }

  pub so_far_known : (key : ℕ) (tag : Option ℕ) (rest : List (Keyed (Option ℕ))) → left ≡ (record { key = key; value = tag }) ∷ rest → has_key key items ≡ true
  so_far_known key tag rest is =
      so_far.known key (subst (λ (zs : List (Keyed (Option ℕ))). has_key key zs ≡ true) (sym is) (has_key-own (record { key = key; value = tag }) rest))

-- where nothing is left, it is the lowest
pub none_entry : (entry : Option ℕ) → ((addr : ℕ) → entry ≡ Some addr → ⊥) → entry ≡ None
none_entry None never = refl
none_entry (Some addr) never = absurd (never addr refl)

ended : (table : ℕ → Option ℕ) (items : Items) (best : Option Lowest) → IsSoFar table items best [] → IsLowest table (option_map (λ (b : Lowest). b.key) best)
ended table items None so_far = λ key. none_entry (table key) (λ addr is. elim (so_far.rest key addr is) [ inl among ↦ false≢true among | inr none ↦ none ])
ended table items (Some best) so_far =
    (best.addr, so_far.entry, λ other entry is. elim (so_far.rest other entry is) [ inl among ↦ absurd (false≢true among) | inr under ↦ under ])

pub so_far_ended : (table : ℕ → Option ℕ) (items : Items) (best : Option Lowest) (left : List (Keyed (Option ℕ))) (key : Option ℕ) → IsSoFar table items best left → left ≡ []
    → key ≡ option_map (λ (b : Lowest). b.key) best → IsLowest table key
so_far_ended table items best left key so_far is key_is =
    subst (λ (k : Option ℕ). IsLowest table k) (sym key_is) (ended table items best (subst (λ (zs : List (Keyed (Option ℕ))). IsSoFar table items best zs) is so_far))

-- the starts of elements with a tag
module _ (zone : Bool) (number : ℕ) where
  abbrev starts : Items → ℕ → Option ℕ
  starts items = entry_of (tagged_start zone number) items

  start_is : (b : Bool) (addr entry : ℕ) → cond b (Some addr) None ≡ Some entry → addr ≡ entry
  start_is true addr entry is = same_Some addr entry is
  start_is false addr entry is = absurd (none-some entry is)

  above : (from : ℕ) (xs : Items) (key addr : ℕ) → IsRising from xs → starts xs key ≡ Some addr → from ≤ addr
  above from [] key addr rising is = absurd (none-some addr is)
  above from (x ∷ xs) key addr rising is = elim (cases_Bool (nat_eq key x.key)) [
    | inl same ↦
        let at : x.value.addr ≡ addr = start_is (is_tagged_state zone number x.value.state) x.value.addr addr (sym (cond-true (nat_eq key x.key) (tagged_start zone number x.value) (starts xs key) same) ∙ is) in
        omega (arith, at, rising.0)
    | inr differs ↦
        let later = above (end_of x.value) xs key addr rising.2 (sym (cond-false (nat_eq key x.key) (tagged_start zone number x.value) (starts xs key) differs) ∙ is) in
        omega (arith, later, rising.0)
  ]

  lowest_here : (from : ℕ) (e : Keyed Span) (es : Items) → IsRising from (e ∷ es) → is_tagged zone number e ≡ true → (result : Option ℕ) → IsLowest (starts (e ∷ es)) result → result ≡ Some e.key
  lowest_here from e es rising tagged None lowest =
      absurd (none-some e.value.addr (sym (lowest e.key) ∙ entry-same e.key (tagged_start zone number e.value) (starts es) ∙ cond-true (is_tagged zone number e) (Some e.value.addr) None tagged))
  lowest_here from e es rising tagged (Some key) lowest =
      let own : starts (e ∷ es) e.key ≡ Some e.value.addr = entry-same e.key (tagged_start zone number e.value) (starts es) ∙ cond-true (is_tagged zone number e) (Some e.value.addr) None tagged in
      let least : lowest.0 ≤ e.value.addr = lowest.2 e.key e.value.addr own in
      elim (cases_Bool (nat_eq key e.key)) [
        | inl same ↦ ap Some (eqb-true key e.key same)
        | inr differs ↦
            let later = above (end_of e.value) es key lowest.0 rising.2 (sym (cond-false (nat_eq key e.key) (tagged_start zone number e.value) (starts es key) differs) ∙ lowest.1) in
            absurd (omega (arith, later, least, rising.1))
      ]

  -- the lowest element with the tag is the first one by address
  pub lowest_first : (from : ℕ) (items : Items) (result : Option ℕ) → IsRising from items → AreApart items → IsLowest (starts items) result → result ≡ first_tagged zone number items
  lowest_first from [] None rising apart lowest = refl
  lowest_first from [] (Some key) rising apart lowest = absurd (none-some lowest.0 lowest.1)
  lowest_first from (e ∷ es) result rising apart lowest = elim (cases_Bool (is_tagged zone number e)) [
    | inl tagged ↦ lowest_here from e es rising tagged result lowest ∙ sym (found-here (is_tagged zone number) e es tagged)
    | inr other ↦
        let none : tagged_start zone number e.value ≡ starts es e.key =
        cond-false (is_tagged zone number e) (Some e.value.addr) None other ∙ sym (entry_lacks (tagged_start zone number) e.key es apart.0) in
        lowest_first (end_of e.value) es result rising.2 apart.1
        (subst (λ (table : ℕ → Option ℕ). IsLowest table result) (entry-own e.key (tagged_start zone number e.value) (starts es) none) lowest)
        ∙ sym (found-later (is_tagged zone number) e es other)
  ]
