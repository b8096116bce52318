-- A key leaves its list.
use Rattle.std.proofs.Common.{◌≡◌, ◌≢◌, ℕ, ◌+◌, ◌<◌, ◌≤◌, List, [], ◌∷◌, ◌++◌, true, false, Bool, Option, Some, None, is_none, IfSome}
use Rattle.std.proofs.Common.{nat_eq, if◌then◌else◌, length, get_or, set, refl, sym, ap, ◌∙◌, subst, arith, inl, inr}
use Rattle.std.proofs.lemmas.Bool.{cases_eq, false_from_ne_true}
use Rattle.std.proofs.lemmas.List.{same_lists, length-map, length-set, get_or-map, get_or-set_same, get_or-set_other, get_or_default}
use Rattle.std.proofs.lemmas.List.{set-get_or}
use Rattle.std.proofs.lemmas.Option.{same_Some}
use Rattle.hp_base.specs.declared.round.TheConstants.{HEADER, LINE}
use Rattle.hp_chain.specs.Chain.{Keyed, Place, Places, first_key, last_key, has_key, Spells}
use Rattle.hp_chain.specs.Writes.{with_next, with_prev}
use Rattle.hp_chain.specs.Edits.{without_key}
use Rattle.hp_chain.proofs.Keys.{found_at, has_key-own, has_key_front, has_key_back, apart_without, first_key_among, last_key_among}
use Rattle.std.proofs.lemmas.Bool.{or_right}
use Rattle.hp_chain.proofs.Spelling.{middle_place}
use Rattle.hp_chain.proofs.Links.{next_beside, prev_beside}
use Rattle.hp_chain.proofs.Changes.{spells-bridged}
use Rattle.hp_chain.proofs.EditLemmas.{without_key-at, without_key-lacking}
use Rattle.hp_freelist.specs.declared.link.Link.{Link}
use Rattle.hp_freelist.specs.Lists.{list_class, list_at, is_listed, without}
use Rattle.hp_freelist.specs.Heads.{head_at}
use Rattle.hp_freelist.specs.Links.{place_of, place_at, IsOfClass, IsListLinked, IsLinked, IsLinkOf}
use Rattle.hp_freelist.proofs.RoomLemmas.{read_place}
use Rattle.hp_freelist.proofs.LinkedLemmas.{middle_holds, others_hold, place_within, filed_place, one_class, beside_others, step, listed_at}

-- what holds of a value that an option has
if_some_from : (key : Option ℕ) (P : ℕ → Type 0) → ((k : ℕ) → key ≡ Some k → P k) → IfSome key P
if_some_from None P holds = tt
if_some_from (Some k) P holds = holds k refl

-- the first key of a list without one of its elements
last_some : (key : ℕ) (xs : List (Keyed ℕ)) → is_none (last_key (Some key) xs) ≡ false
last_some key [] = refl
last_some key (x ∷ xs) = last_some x.key xs

led : (firsts : List (Option ℕ)) (class : ℕ) (front : List (Keyed ℕ)) (e : Keyed ℕ) (back : List (Keyed ℕ))
    → head_at firsts class ≡ first_key (front ++ e ∷ back) None
    → (if is_none (last_key None front) then set firsts class (first_key back None) else firsts) ≡ set firsts class (first_key (front ++ back) None)
led firsts class [] e back head = refl
led firsts class (x ∷ front) e back head =
    ap (λ (b : Bool). if b then set firsts class (first_key back None) else firsts) (last_some x.key front)
    ∙ sym (set-get_or firsts class None) ∙ ap (λ (key : Option ℕ). set firsts class key) head

module _ (old new : List Link) (firsts led_firsts : List (Option ℕ)) (lists : List (List (Keyed ℕ))) (linked : IsLinked old firsts lists) where
  module _ (class : ℕ) (below : class < 13) (front : List (Keyed ℕ)) (e : Keyed ℕ) (back : List (Keyed ℕ)) (is : list_at lists class ≡ front ++ e ∷ back) where
    in_list : (key : ℕ) → has_key key (front ++ e ∷ back) ≡ true → has_key key (list_at lists class) ≡ true
    in_list key has = subst (λ (zs : List (Keyed ℕ)). has_key key zs ≡ true) (sym is) has

    was : IsListLinked old class (head_at firsts class) (front ++ e ∷ back)
    was = subst (λ (zs : List (Keyed ℕ)). IsListLinked old class (head_at firsts class) zs) is (linked.linked class below)

    -- the other lists lack the key, and so stay
    without_is : without e.key lists ≡ set lists class (front ++ back)
    without_is =
        same_lists (without e.key lists) (set lists class (front ++ back)) (length-map lists (without_key e.key) ∙ sym (length-set lists class (front ++ back)))
        (λ other d within.
        let counted : other < length lists = omega (arith, within, length-map lists (without_key e.key)) in
        get_or-map (without_key e.key) lists other [] d counted ∙ elim (cases_eq other class) [
          | inl same ↦
              ap (λ (k : ℕ). without_key e.key (list_at lists k)) same ∙ ap (λ (zs : List (Keyed ℕ)). without_key e.key zs) is ∙ without_key-at front e back was.apart
              ∙ sym (ap (λ (k : ℕ). get_or (set lists class (front ++ back)) k d) same ∙ get_or-set_same lists class (front ++ back) d (omega (arith, below, linked.count)))
          | inr differs ↦
              without_key-lacking e.key (list_at lists other)
              (false_from_ne_true (has_key e.key (list_at lists other))
              (λ has. differs (one_class old firsts lists linked e.key other class (omega (arith, counted, linked.count)) below has (in_list e.key (has_key_back e.key front (e ∷ back) (has_key-own e back))))))
              ∙ get_or_default lists other [] d counted ∙ sym (get_or-set_other lists class other (front ++ back) d differs)
        ])

    -- without an element the two beside it name each other
    removed_at : place_at new ≡ with_prev (first_key back None) (last_key None front) (with_next (last_key None front) (first_key back None) (place_at old))
        → led_firsts ≡ (if is_none (last_key None front) then set firsts (list_class e.value) (first_key back None) else firsts)
        → IsLinked new led_firsts (without e.key lists)
    removed_at written leads =
        let prev : Option ℕ = last_key None front in
        let next : Option ℕ = first_key back None in
        let of_class = middle_holds (IsOfClass class) front e back was.classed in
        let changed : IsListLinked new class (first_key (front ++ back) None) (front ++ back) = record {
          head = refl;
          spelled = subst (λ (at : Places ℕ). Spells at None (front ++ back) None) (sym written) (spells-bridged (place_at old) front e back was.apart was.spelled);
          apart = apart_without front e back was.apart;
          classed = others_hold (IsOfClass class) front e back was.classed;
        } in
        let own_prev : (k : ℕ) → prev ≡ Some k → has_key k (list_at lists class) ≡ true = λ k same. in_list k (has_key_front k front (e ∷ back) (last_key_among front k same)) in
        let own_next : (k : ℕ) → next ≡ Some k → has_key k (list_at lists class) ≡ true =
        λ k same. in_list k (has_key_back k front (e ∷ back) (or_right (nat_eq e.key k) (has_key k back) (first_key_among back k same))) in
        let others : (other : ℕ) → other < 13 → other ≢ class → Spells (place_at new) None (list_at lists other) None = λ other within differs.
        subst (λ (at : Places ℕ). Spells at None (list_at lists other) None) (sym written)
        (prev_beside (with_next prev next (place_at old)) None (list_at lists other) None next prev (beside_others old firsts lists linked class other next below within differs own_next)
        (next_beside (place_at old) None (list_at lists other) None prev next (beside_others old firsts lists linked class other prev below within differs own_prev)
        (linked.linked other within).spelled)) in
        let firsts_is : set firsts class (first_key (front ++ back) None) ≡ led_firsts =
        sym (leads ∙ ap (λ (k : ℕ). if is_none prev then set firsts k next else firsts) of_class.is ∙ led firsts class front e back was.head) in
        subst (λ (heads : List (Option ℕ)). IsLinked new heads (without e.key lists)) firsts_is
        (subst (λ (all : List (List (Keyed ℕ))). IsLinked new (set firsts class (first_key (front ++ back) None)) all) (sym without_is)
        (step old new firsts lists class (first_key (front ++ back) None) (front ++ back) below linked changed others))

  -- what stands under a key that is listed
  pub record IsListed (key : ℕ) : Type 0 where
    pub class : ℕ
    pub below : class < 13
    pub front : List (Keyed ℕ)
    pub found : Keyed ℕ
    pub back : List (Keyed ℕ)
    pub is : list_at lists class ≡ front ++ found ∷ back
    pub same : found.key ≡ key

  pub listed : (key : ℕ) → is_listed key lists ≡ true → IsListed key
  listed key has =
      let here = listed_at key lists has in
      let split = found_at key (list_at lists here.0) here.2 in
      record { class = here.0; below = omega (arith, here.1, linked.count); front = split.front; found = split.found; back = split.back; is = split.is; same = split.same }

  module _ (key : ℕ) (has : is_listed key lists ≡ true) where
    place_here : Place ℕ
    place_here = let here = listed key has in record { prev = last_key None here.front; next = first_key here.back None; value = here.found.value }

  -- what is read under such a key
  module _ (key : ℕ) (has : is_listed key lists ≡ true) (link : Place ℕ) (stands : place_at old key ≡ Some link) where
    link_is : link ≡ place_here key has
    unfolding place_here
    link_is =
        let here = listed key has in
        let spelled = (was here.class here.below here.front here.found here.back here.is).spelled in
        same_Some link (place_here key has)
        (sym stands ∙ subst (λ (k : ℕ). place_at old k ≡ Some (place_here key has)) here.same (middle_place (place_at old) None here.front here.found here.back None spelled))

    key_within : (k : ℕ) → has_key k (list_at lists (listed key has).class) ≡ true → k < length old
    key_within k own =
        let here = listed key has in
        let filed = filed_place old here.class (head_at firsts here.class) (list_at lists here.class) k (linked.linked here.class here.below) own in
        place_within old k filed.0 filed.1

    pub prev_within : IfSome link.prev (λ k. k < length old)
    unfolding place_here
    prev_within =
        let here = listed key has in
        subst (λ (place : Place ℕ). IfSome place.prev (λ k. k < length old)) (sym link_is)
        (if_some_from (last_key None here.front) (λ k. k < length old)
        (λ k same. key_within k (in_list here.class here.below here.front here.found here.back here.is k (has_key_front k here.front (here.found ∷ here.back) (last_key_among here.front k same)))))

    pub next_within : IfSome link.next (λ k. k < length old)
    unfolding place_here
    next_within =
        let here = listed key has in
        subst (λ (place : Place ℕ). IfSome place.next (λ k. k < length old)) (sym link_is)
        (if_some_from (first_key here.back None) (λ k. k < length old)
        (λ k same. key_within k (in_list here.class here.below here.front here.found here.back here.is k
        (has_key_back k here.front (here.found ∷ here.back) (or_right (nat_eq here.found.key k) (has_key k here.back) (first_key_among here.back k same))))))

    pub least_whole : HEADER + LINE ≤ link.value
    unfolding place_here
    least_whole =
        let here = listed key has in
        let of_class = middle_holds (IsOfClass here.class) here.front here.found here.back (was here.class here.below here.front here.found here.back here.is).classed in
        subst (λ (place : Place ℕ). HEADER + LINE ≤ place.value) (sym link_is) of_class.least

    pub removed : place_at new ≡ with_prev link.next link.prev (with_next link.prev link.next (place_at old))
        → led_firsts ≡ (if is_none link.prev then set firsts (list_class link.value) link.next else firsts)
        → IsLinked new led_firsts (without key lists)
    unfolding place_here
    removed =
        let here = listed key has in
        let Q : Place ℕ → Type 0 = λ place.
        place_at new ≡ with_prev place.next place.prev (with_next place.prev place.next (place_at old))
        → led_firsts ≡ (if is_none place.prev then set firsts (list_class place.value) place.next else firsts)
        → IsLinked new led_firsts (without key lists) in
        subst Q (sym link_is)
        (λ written leads. subst (λ (k : ℕ). IsLinked new led_firsts (without k lists)) here.same (removed_at here.class here.below here.front here.found here.back here.is written leads))

  -- a key that is listed has a link
  pub listed_within : (key : ℕ) → is_listed key lists ≡ true → key < length old
  listed_within key has =
      let here = listed_at key lists has in
      let below : here.0 < 13 = omega (arith, here.1, linked.count) in
      let filed = filed_place old here.0 (head_at firsts here.0) (list_at lists here.0) key (linked.linked here.0 below) here.2 in
      place_within old key filed.0 filed.1

  pub link_is_of : (room key : ℕ) (link : Link) → room ≡ length old → is_listed key lists ≡ true → link ≡ get_or old key link
      → IsLinkOf old room key link
  link_is_of room key link long has read =
      let stands : place_at old key ≡ Some (place_of link) = read_place old key link (listed_within key has) read in
      record {
        stands = stands;
        prev = subst (λ (n : ℕ). IfSome link.prev (λ k. k < n)) (sym long) (prev_within key has (place_of link) stands);
        next = subst (λ (n : ℕ). IfSome link.next (λ k. k < n)) (sym long) (next_within key has (place_of link) stands);
        least = least_whole key has (place_of link) stands;
      }
