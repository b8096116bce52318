-- Links in buckets: what is read of a key, and what stands once a number is filed or taken out.
use Rattle.std.proofs.Common.{◌≡◌, ◌≢◌, ℕ, zero, suc, ◌%◌, ◌<◌, ◌≤◌, List, [], ◌∷◌, ◌++◌, true, false, Bool, Option, Some, None, IfSome, is_none, nat_eq, option_map, slice_get, length, get_or, set, refl, sym, ap, ◌∙◌, subst, cond, eq-eqb, arith, inl, inr}
use Rattle.std.proofs.lemmas.Bool.{cases_Bool, cond-true, cond-false, eqb-true, eqb-false, or_right}
use Rattle.std.proofs.lemmas.List.{length-set, get_or-set_same, set-get_or}
use Rattle.std.proofs.lemmas.Option.{none-some, same_Some, slice_get_within, slice_get-get_or}
use Rattle.hp_chain.specs.Chain.{Keyed, Place, Places, Spells, first_key, last_key, has_key}
use Rattle.hp_chain.specs.Writes.{with_next, with_prev, with_place}
use Rattle.hp_chain.proofs.Keys.{IsFound, found_at, has_key_front, has_key_back, first_key_among, last_key_among}
use Rattle.hp_chain.proofs.Spelling.{middle_place}
use Rattle.hp_chain.proofs.Walks.{spelled_place}
use Rattle.hp_elem.specs.declared.link.Link.{Link}
use Rattle.hp_elem.specs.Tags.{place_of, place_at, kept, number_in, number_at, numbers_of, with_entry, falls, IsBucket, AreBuckets, AreFiled, IsLinkOf}
use Rattle.hp_elem.proofs.BucketLemmas.{headed_memory, headed_numbers, headed, headed_beside, empty_place, bridged_memory, bridged_numbers, bridged, bridged_beside, changed_bucket}

-- what is read under a key stands there
pub read_place : (links : List Link) (key : ℕ) (link : Link) → key < length links → link ≡ get_or links key link → place_at links key ≡ Some (place_of link)
read_place [] key link within is = absurd (omega (arith, within))
read_place (first ∷ links) zero link within is = ap (λ (l : Link). Some (place_of l)) (sym is)
read_place (first ∷ links) (suc key) link within is = read_place links key link (omega (arith, within)) is

-- only keys below the number of links have anything
within_slot : (links : List Link) (key : ℕ) (slot : Option Link) (place : Place (Option ℕ)) → slice_get links key ≡ slot → option_map place_of slot ≡ Some place → key < length links
within_slot links key None place is has = absurd (none-some place has)
within_slot links key (Some link) place is has = slice_get_within links key link is

pub place_within : (links : List Link) (key : ℕ) (place : Place (Option ℕ)) → place_at links key ≡ Some place → key < length links
place_within links key place has = within_slot links key (slice_get links key) place refl has

-- a write of a link
set_other : (links : List Link) (key other : ℕ) (link : Link) → other ≢ key → place_at (set links key link) other ≡ place_at links other
set_other [] key other link differs = refl
set_other (first ∷ links) zero zero link differs = absurd (differs refl)
set_other (first ∷ links) zero (suc other) link differs = refl
set_other (first ∷ links) (suc key) zero link differs = refl
set_other (first ∷ links) (suc key) (suc other) link differs = set_other links key other link (λ same. differs (ap suc same))

set_same : (links : List Link) (key : ℕ) (link : Link) → key < length links → place_at (set links key link) key ≡ Some (place_of link)
set_same [] key link within = absurd (omega (arith, within))
set_same (first ∷ links) zero link within = refl
set_same (first ∷ links) (suc key) link within = set_same links key link (omega (arith, within))

set_at : (links : List Link) (key other : ℕ) (link : Link) → key < length links → place_at (set links key link) other ≡ with_place key (Some (place_of link)) (place_at links) other
set_at links key other link within = elim (cases_Bool (nat_eq other key)) [
  | inl same ↦
      ap (λ (k : ℕ). place_at (set links key link) k) (eqb-true other key same) ∙ set_same links key link within
      ∙ sym (cond-true (nat_eq other key) (Some (place_of link)) (place_at links other) same)
  | inr differs ↦ set_other links key other link (eqb-false other key differs) ∙ sym (cond-false (nat_eq other key) (Some (place_of link)) (place_at links other) differs)
]

pub place-set : (links : List Link) (key : ℕ) (link : Link) → key < length links → place_at (set links key link) ≡ with_place key (Some (place_of link)) (place_at links)
place-set links key link within = λ i other. set_at links key other link within i

-- the numbers of the links
numbers_at : (links : List Link) (key : ℕ) → number_at (numbers_of links) key ≡ number_in (place_at links) key
numbers_at [] key = refl
numbers_at (first ∷ links) zero = refl
numbers_at (first ∷ links) (suc key) = numbers_at links key

pub numbers_are : (links : List Link) → number_at (numbers_of links) ≡ number_in (place_at links)
numbers_are links = λ i key. numbers_at links key i

-- a key with a number has a link
number_slot : (slot : Option (Place (Option ℕ))) (number : ℕ) → kept slot ≡ Some number → (place : Place (Option ℕ)) × (slot ≡ Some place)
number_slot None number is = absurd (none-some number is)
number_slot (Some place) number is = (place, refl)

if_some_from : (key : Option ℕ) (P : ℕ → Type 0) → ((k : ℕ) → key ≡ Some k → P k) → IfSome key P
if_some_from None P holds = tt
if_some_from (Some k) P holds = holds k refl

-- the first key of a bucket without one of its keys
last_some : (key : ℕ) (xs : List (Keyed (Option ℕ))) → is_none (last_key (Some key) xs) ≡ false
last_some key [] = refl
last_some key (x ∷ xs) = last_some x.key xs

led_is : (firsts : List (Option ℕ)) (bucket : ℕ) (front : List (Keyed (Option ℕ))) (e : Keyed (Option ℕ)) (back : List (Keyed (Option ℕ)))
    → get_or firsts bucket None ≡ first_key (front ++ e ∷ back) None
    → cond (is_none (last_key None front)) (set firsts bucket (first_key back None)) firsts ≡ set firsts bucket (first_key (front ++ back) None)
led_is firsts bucket [] e back head = refl
led_is firsts bucket (x ∷ front) e back head =
    ap (λ (b : Bool). cond b (set firsts bucket (first_key back None)) firsts) (last_some x.key front)
    ∙ sym (set-get_or firsts bucket None) ∙ ap (λ (key : Option ℕ). set firsts bucket key) head

module _ (links : List Link) (firsts : List (Option ℕ)) (filed : AreFiled links firsts) where
  -- the keys of a bucket have links
  pub bucket_within : (count bucket : ℕ) (first : Option ℕ) (own : IsBucket (place_at links) count bucket first) (key : ℕ) → has_key key own.list ≡ true → key < length links
  bucket_within count bucket first own key has =
      let here = spelled_place (place_at links) None own.list None key own.spelled has in place_within links key here.0 here.1

  -- so has the first one
  pub first_within : (room bucket : ℕ) (first : Option ℕ) → room ≡ length links → bucket < length firsts → first ≡ get_or firsts bucket None → IfSome first (λ k. k < room)
  first_within room bucket first long below is =
      let own = filed.buckets bucket below in
      if_some_from first (λ k. k < room)
      (λ k same. let inside = bucket_within (length firsts) bucket (get_or firsts bucket None) own k (first_key_among own.list k (sym own.head ∙ sym is ∙ same)) in omega (arith, inside, long))

  module _ (key number : ℕ) (is : number_in (place_at links) key ≡ Some number) where
    pub key_within : key < length links
    key_within = let slot = number_slot (place_at links key) number is in place_within links key slot.0 slot.1

    abbrev bucket : ℕ
    bucket = number % length firsts

    pub bucket_below : bucket < length firsts
    bucket_below = omega (arith, key_within, filed.count)

    abbrev own : IsBucket (place_at links) (length firsts) bucket (get_or firsts bucket None)
    own = filed.buckets bucket bucket_below

    own_key : has_key key own.list ≡ true
    own_key = own.exact key ∙ ap (λ (n : Option ℕ). falls (length firsts) bucket n) is ∙ eq-eqb bucket bucket refl

    abbrev here : IsFound key own.list
    here = found_at key own.list own_key

    in_own : (k : ℕ) → has_key k (here.front ++ here.found ∷ here.back) ≡ true → has_key k own.list ≡ true
    in_own k has = subst (λ (zs : List (Keyed (Option ℕ))). has_key k zs ≡ true) (sym here.is) has

    own_prev : (k : ℕ) → last_key None here.front ≡ Some k → has_key k own.list ≡ true
    own_prev k same = in_own k (has_key_front k here.front (here.found ∷ here.back) (last_key_among here.front k same))

    own_next : (k : ℕ) → first_key here.back None ≡ Some k → has_key k own.list ≡ true
    own_next k same = in_own k (has_key_back k here.front (here.found ∷ here.back) (or_right (nat_eq here.found.key k) (has_key k here.back) (first_key_among here.back k same)))

    abbrev place_here : Place (Option ℕ)
    place_here = record { prev = last_key None here.front; next = first_key here.back None; value = here.found.value }

    link_is : (link : Place (Option ℕ)) → place_at links key ≡ Some link → link ≡ place_here
    link_is link stands =
        same_Some link place_here
        (sym stands ∙ subst (λ (k : ℕ). place_at links k ≡ Some place_here) here.same
        (middle_place (place_at links) None here.front here.found here.back None (subst (λ (zs : List (Keyed (Option ℕ))). Spells (place_at links) None zs None) here.is own.spelled)))

    -- what is read of such a key
    pub link_is_of : (room : ℕ) (link : Link) → room ≡ length links → link ≡ get_or links key link → IsLinkOf links room key link
    link_is_of room link long read =
        let stands : place_at links key ≡ Some (place_of link) = read_place links key link key_within read in
        let same = link_is (place_of link) stands in
        let inside : (k : ℕ) → has_key k own.list ≡ true → k < room = λ k has. let below = bucket_within (length firsts) bucket (get_or firsts bucket None) own k has in omega (arith, below, long) in
        record {
          stands = stands;
          within = omega (arith, key_within, long);
          prev = if_some_from link.prev (λ k. k < room) (λ k some. inside k (own_prev k (sym (ap (λ (p : Place (Option ℕ)). p.prev) same) ∙ some)));
          next = if_some_from link.next (λ k. k < room) (λ k some. inside k (own_next k (sym (ap (λ (p : Place (Option ℕ)). p.next) same) ∙ some)));
        }

    -- the key is out of its bucket
    pub taken_out : (new : List Link) (led : List (Option ℕ)) (link : Place (Option ℕ)) → place_at links key ≡ Some link → length new ≡ length links
        → place_at new ≡ with_place key (Some (record { prev = None; next = None; value = None })) (with_prev link.next link.prev (with_next link.prev link.next (place_at links)))
        → led ≡ cond (is_none link.prev) (set firsts (number % length firsts) link.next) firsts
        → AreFiled new led × (number_in (place_at new) ≡ with_entry key None (number_in (place_at links)))
    taken_out new led link stands long written leads =
        let at : Places (Option ℕ) = place_at links in
        let first : Option ℕ = get_or firsts bucket None in
        let same = link_is link stands in
        let memory : ℕ → Place (Option ℕ) → Places (Option ℕ) = λ k p. with_place k (Some (record { prev = None; next = None; value = None })) (with_prev p.next p.prev (with_next p.prev p.next at)) in
        let new_is : place_at new ≡ bridged_memory at (length firsts) bucket first own here.front here.found here.back here.is =
        written ∙ ap (λ (p : Place (Option ℕ)). memory key p) same ∙ ap (λ (k : ℕ). memory k place_here) (sym here.same) in
        let left : Option ℕ = first_key (here.front ++ here.back) None in
        let led_as : led ≡ set firsts bucket left =
        leads ∙ ap (λ (p : Place (Option ℕ)). cond (is_none p.prev) (set firsts bucket p.next) firsts) same
        ∙ led_is firsts bucket here.front here.found here.back (own.head ∙ ap (λ (zs : List (Keyed (Option ℕ))). first_key zs None) here.is) in
        let changed = changed_bucket (bridged_memory at (length firsts) bucket first own here.front here.found here.back here.is) firsts bucket left bucket_below
        (bridged at (length firsts) bucket first own here.front here.found here.back here.is)
        (λ other within differs.
        bridged_beside at (length firsts) bucket first own here.front here.found here.back here.is other (get_or firsts other None) differs own_prev own_next
        (subst (λ (k : ℕ). has_key k own.list ≡ true) (sym here.same) own_key) (filed.buckets other within)) in (
          record {
            count = ap (λ (fs : List (Option ℕ)). length fs) led_as ∙ length-set firsts bucket left ∙ filed.count ∙ sym long;
            buckets = subst (λ (fs : List (Option ℕ)). AreBuckets (place_at new) fs) (sym led_as) (subst (λ (m : Places (Option ℕ)). AreBuckets m (set firsts bucket left)) (sym new_is) changed);
          },
          ap (λ (m : Places (Option ℕ)). number_in m) new_is ∙ bridged_numbers at (length firsts) bucket first own here.front here.found here.back here.is
              ∙ ap (λ (k : ℕ). with_entry k None (number_in at)) here.same,
        )

  -- a key is filed under a number
  pub filed_put : (middle new : List Link) (key number count : ℕ) (first : Option ℕ) → number_in (place_at links) key ≡ None → key < length links → length new ≡ length links
      → count ≡ length firsts → first ≡ get_or firsts (number % count) None
      → place_at middle ≡ with_prev first (Some key) (place_at links)
      → place_at new ≡ with_place key (Some (record { prev = None; next = first; value = Some number })) (place_at middle)
      → AreFiled new (set firsts (number % count) (Some key)) × (number_in (place_at new) ≡ with_entry key (Some number) (number_in (place_at links)))
  filed_put middle new key number count first none within long count_is first_is middle_is new_is =
      let at : Places (Option ℕ) = place_at links in
      let bucket : ℕ = number % length firsts in
      let below : bucket < length firsts = omega (arith, within, filed.count) in
      let head : Option ℕ = get_or firsts bucket None in
      let head_is : first ≡ head = first_is ∙ ap (λ (n : ℕ). get_or firsts (number % n) None) count_is in
      let own : IsBucket at (length firsts) bucket head = filed.buckets bucket below in
      let slot : Option ℕ → Option (Place (Option ℕ)) = λ next. Some (record { prev = None; next = next; value = Some number }) in
      let written : place_at new ≡ headed_memory at (length firsts) bucket head key number own none refl =
      new_is ∙ ap (λ (m : Places (Option ℕ)). with_place key (slot first) m) middle_is
      ∙ ap (λ (next : Option ℕ). with_place key (slot next) (with_prev next (Some key) at)) head_is in
      let changed = changed_bucket (headed_memory at (length firsts) bucket head key number own none refl) firsts bucket (Some key) below (headed at (length firsts) bucket head key number own none refl)
      (λ other inside differs. headed_beside at (length firsts) bucket head key number own none refl other (get_or firsts other None) differs (filed.buckets other inside)) in (
        record {
          count = length-set firsts (number % count) (Some key) ∙ filed.count ∙ sym long;
          buckets = subst (λ (n : ℕ). AreBuckets (place_at new) (set firsts (number % n) (Some key))) (sym count_is)
              (subst (λ (m : Places (Option ℕ)). AreBuckets m (set firsts bucket (Some key))) (sym written) changed);
        },
        ap (λ (m : Places (Option ℕ)). number_in m) written ∙ headed_numbers at (length firsts) bucket head key number own none refl,
      )
