-- A number comes into its bucket, and out of it; the other buckets stay.
use Rattle.std.proofs.Common.{◌≡◌, ◌≢◌, ℕ, ◌%◌, ◌<◌, List, [], ◌∷◌, ◌++◌, true, false, Bool, Option, Some, None, nat_eq, ◌||◌, option_map, length, get_or, set, refl, sym, ap, ◌∙◌, subst, cond, eq-eqb, arith, inl, inr}
use Rattle.std.proofs.lemmas.Bool.{cases_Bool, cases_eq, cond-true, cond-false, eqb-true, eqb-false, ne_eqb, false≢true}
use Rattle.std.proofs.lemmas.List.{length-set, get_or-set_same, get_or-set_other}
use Rattle.hp_chain.specs.Chain.{Keyed, Place, Places, Spells, AreApart, first_key, last_key, has_key}
use Rattle.hp_chain.specs.Writes.{to_next, to_prev, with_next, with_prev, with_place}
use Rattle.hp_chain.specs.Edits.{without_key}
use Rattle.hp_chain.proofs.Keys.{IsBeside, apart_middle, apart_without, lacks_both, first_key_among}
use Rattle.hp_chain.proofs.Links.{next_beside, prev_beside, place_beside}
use Rattle.hp_chain.proofs.Changes.{spells-headed, spells-hidden}
use Rattle.hp_chain.proofs.EditLemmas.{without_key-at, has_key-without_other}
use Rattle.hp_elem.specs.Tags.{kept, number_in, with_entry, falls, IsBucket, AreBuckets}
use Rattle.hp_elem.proofs.EntryLemmas.{entry-same, entry-other}

-- what a write leaves of the numbers
kept-next : (next : Option ℕ) (slot : Option (Place (Option ℕ))) → kept (option_map (to_next next) slot) ≡ kept slot
kept-next next None = refl
kept-next next (Some place) = refl

kept-prev : (prev : Option ℕ) (slot : Option (Place (Option ℕ))) → kept (option_map (to_prev prev) slot) ≡ kept slot
kept-prev prev None = refl
kept-prev prev (Some place) = refl

kept_either : (b : Bool) (changed slot : Option (Place (Option ℕ))) → kept changed ≡ kept slot → kept (cond b changed slot) ≡ kept slot
kept_either true changed slot same = same
kept_either false changed slot same = refl

kept-cond : (b : Bool) (one other : Option (Place (Option ℕ))) → kept (cond b one other) ≡ cond b (kept one) (kept other)
kept-cond true one other = refl
kept-cond false one other = refl

pub number-next : (key next : Option ℕ) (at : Places (Option ℕ)) → number_in (with_next key next at) ≡ number_in at
number-next None next at = refl
number-next (Some key) next at = λ i other. (kept_either (nat_eq other key) (option_map (to_next next) (at other)) (at other) (kept-next next (at other))) i

pub number-prev : (key prev : Option ℕ) (at : Places (Option ℕ)) → number_in (with_prev key prev at) ≡ number_in at
number-prev None prev at = refl
number-prev (Some key) prev at = λ i other. (kept_either (nat_eq other key) (option_map (to_prev prev) (at other)) (at other) (kept-prev prev (at other))) i

pub number-placed : (key : ℕ) (place : Place (Option ℕ)) (at : Places (Option ℕ)) → number_in (with_place key (Some place) at) ≡ with_entry key place.value (number_in at)
number-placed key place at i other = kept-cond (nat_eq other key) (Some place) (at other) i

-- a number falls into one bucket
falls_once : (count bucket other : ℕ) (number : Option ℕ) → falls count bucket number ≡ true → other ≢ bucket → falls count other number ≡ false
falls_once count bucket other None is differs = absurd (false≢true is)
falls_once count bucket other (Some number) is differs = ne_eqb (number % count) other (λ same. differs (sym same ∙ eqb-true (number % count) bucket is))

-- a bucket stays where what changes is not in it
stays : (at new : Places (Option ℕ)) (count bucket key : ℕ) (first entry : Option ℕ) (was : IsBucket at count bucket first) → Spells new None was.list None
    → number_in new ≡ with_entry key entry (number_in at) → falls count bucket (number_in at key) ≡ false → falls count bucket entry ≡ false → IsBucket new count bucket first
stays at new count bucket key first entry was spelled numbers before after = record {
  list = was.list;
  head = was.head;
  spelled = spelled;
  apart = was.apart;
  exact = λ k. was.exact k ∙ sym (ap (λ (table : ℕ → Option ℕ). falls count bucket (table k)) numbers ∙ elim (cases_Bool (nat_eq k key)) [
    | inl same ↦
        ap (λ (n : Option ℕ). falls count bucket n) (cond-true (nat_eq k key) entry (number_in at k) same)
        ∙ after ∙ sym (subst (λ (m : ℕ). falls count bucket (number_in at m) ≡ false) (sym (eqb-true k key same)) before)
    | inr differs ↦ ap (λ (n : Option ℕ). falls count bucket n) (cond-false (nat_eq k key) entry (number_in at k) differs)
  ]);
}

-- keys of one bucket are beside another
beside : (at : Places (Option ℕ)) (count bucket other : ℕ) (first other_first key : Option ℕ) (own : IsBucket at count bucket first) (was : IsBucket at count other other_first)
    → other ≢ bucket → ((k : ℕ) → key ≡ Some k → has_key k own.list ≡ true) → IsBeside key was.list
beside at count bucket other first other_first key own was differs among k is =
    was.exact k ∙ falls_once count bucket other (number_in at k) (sym (own.exact k) ∙ among k is) differs

module _ (at : Places (Option ℕ)) (count bucket : ℕ) (first : Option ℕ) (key number : ℕ) (own : IsBucket at count bucket first)
    (none : number_in at key ≡ None) (is : number % count ≡ bucket) where
  abbrev pub headed_memory : Places (Option ℕ)
  headed_memory = with_place key (Some (record { prev = None; next = first; value = Some number })) (with_prev first (Some key) at)

  pub headed_numbers : number_in headed_memory ≡ with_entry key (Some number) (number_in at)
  headed_numbers =
      number-placed key (record { prev = None; next = first; value = Some number }) (with_prev first (Some key) at)
      ∙ ap (λ (table : ℕ → Option ℕ). with_entry key (Some number) table) (number-prev first (Some key) at)

  lacks : has_key key own.list ≡ false
  lacks = own.exact key ∙ ap (λ (n : Option ℕ). falls count bucket n) none

  -- a key comes to the head of its bucket
  pub headed : IsBucket headed_memory count bucket (Some key)
  headed =
      let e : Keyed (Option ℕ) = record { key = key; value = Some number } in
      let here : Option ℕ → Places (Option ℕ) = λ next. with_place key (Some (record { prev = None; next = next; value = Some number })) (with_prev next (Some key) at) in
      record {
        list = e ∷ own.list;
        head = refl;
        spelled = subst (λ (next : Option ℕ). Spells (here next) None (e ∷ own.list) None) (sym own.head) (spells-headed at e own.list own.apart lacks own.spelled);
        apart = (lacks, own.apart);
        exact = λ k. elim (cases_Bool (nat_eq k key)) [
          | inl same ↦
              ap (λ (b : Bool). b || has_key k own.list) (eq-eqb key k (sym (eqb-true k key same)))
              ∙ sym (ap (λ (table : ℕ → Option ℕ). falls count bucket (table k)) headed_numbers
              ∙ ap (λ (n : Option ℕ). falls count bucket n) (cond-true (nat_eq k key) (Some number) (number_in at k) same)
              ∙ eq-eqb (number % count) bucket is)
          | inr differs ↦
              ap (λ (b : Bool). b || has_key k own.list) (ne_eqb key k (λ same. eqb-false k key differs (sym same)))
              ∙ own.exact k
              ∙ sym (ap (λ (table : ℕ → Option ℕ). falls count bucket (table k)) headed_numbers
              ∙ ap (λ (n : Option ℕ). falls count bucket n) (cond-false (nat_eq k key) (Some number) (number_in at k) differs))
        ];
      }

  -- the others stay
  pub headed_beside : (other : ℕ) (other_first : Option ℕ) → other ≢ bucket → IsBucket at count other other_first → IsBucket headed_memory count other other_first
  headed_beside other other_first differs was =
      let before : falls count other (number_in at key) ≡ false = ap (λ (n : Option ℕ). falls count other n) none in
      stays at headed_memory count other key other_first (Some number) was
      (place_beside (with_prev first (Some key) at) None was.list None key (Some (record { prev = None; next = first; value = Some number })) (was.exact key ∙ before)
      (prev_beside at None was.list None first (Some key)
      (beside at count bucket other first other_first first own was differs (λ k same. first_key_among own.list k (sym own.head ∙ same))) was.spelled))
      headed_numbers before (ne_eqb (number % count) other (λ same. differs (sym same ∙ is)))

module _ (at : Places (Option ℕ)) (count bucket : ℕ) (first : Option ℕ) (own : IsBucket at count bucket first)
    (xs : List (Keyed (Option ℕ))) (e : Keyed (Option ℕ)) (ys : List (Keyed (Option ℕ))) (split : own.list ≡ xs ++ e ∷ ys) where
  abbrev pub empty_place : Place (Option ℕ)
  empty_place = record { prev = None; next = None; value = None }

  abbrev pub bridged_memory : Places (Option ℕ)
  bridged_memory = with_place e.key (Some empty_place) (with_prev (first_key ys None) (last_key None xs) (with_next (last_key None xs) (first_key ys None) at))

  pub bridged_numbers : number_in bridged_memory ≡ with_entry e.key None (number_in at)
  bridged_numbers =
      let linked : Places (Option ℕ) = with_next (last_key None xs) (first_key ys None) at in
      number-placed e.key empty_place (with_prev (first_key ys None) (last_key None xs) linked)
      ∙ ap (λ (table : ℕ → Option ℕ). with_entry e.key None table)
      (number-prev (first_key ys None) (last_key None xs) linked ∙ number-next (last_key None xs) (first_key ys None) at)

  parts : AreApart (xs ++ e ∷ ys)
  parts = subst (λ (zs : List (Keyed (Option ℕ))). AreApart zs) split own.apart

  -- a key leaves its bucket
  pub bridged : IsBucket bridged_memory count bucket (first_key (xs ++ ys) None)
  bridged =
      let middle = apart_middle xs e ys parts in
      record {
        list = xs ++ ys;
        head = refl;
        spelled = spells-hidden at xs e ys parts (subst (λ (zs : List (Keyed (Option ℕ))). Spells at None zs None) split own.spelled) (Some empty_place);
        apart = apart_without xs e ys parts;
        exact = λ k. elim (cases_Bool (nat_eq k e.key)) [
          | inl same ↦
              subst (λ (m : ℕ). has_key m (xs ++ ys) ≡ false) (sym (eqb-true k e.key same)) (lacks_both e.key xs ys middle.0 middle.1)
              ∙ sym (ap (λ (table : ℕ → Option ℕ). falls count bucket (table k)) bridged_numbers
              ∙ ap (λ (n : Option ℕ). falls count bucket n) (cond-true (nat_eq k e.key) None (number_in at k) same))
          | inr differs ↦
              sym (ap (λ (zs : List (Keyed (Option ℕ))). has_key k zs) (without_key-at xs e ys parts))
              ∙ has_key-without_other e.key k (xs ++ e ∷ ys) differs
              ∙ sym (ap (λ (zs : List (Keyed (Option ℕ))). has_key k zs) split)
              ∙ own.exact k
              ∙ sym (ap (λ (table : ℕ → Option ℕ). falls count bucket (table k)) bridged_numbers
              ∙ ap (λ (n : Option ℕ). falls count bucket n) (cond-false (nat_eq k e.key) None (number_in at k) differs))
        ];
      }

  -- the others stay
  pub bridged_beside : (other : ℕ) (other_first : Option ℕ) → other ≢ bucket → ((k : ℕ) → last_key None xs ≡ Some k → has_key k own.list ≡ true)
      → ((k : ℕ) → first_key ys None ≡ Some k → has_key k own.list ≡ true) → has_key e.key own.list ≡ true
      → IsBucket at count other other_first → IsBucket bridged_memory count other other_first
  bridged_beside other other_first differs own_prev own_next own_key was =
      let prev : Option ℕ = last_key None xs in
      let next : Option ℕ = first_key ys None in
      let before : falls count other (number_in at e.key) ≡ false = falls_once count bucket other (number_in at e.key) (sym (own.exact e.key) ∙ own_key) differs in
      stays at bridged_memory count other e.key other_first None was
      (place_beside (with_prev next prev (with_next prev next at)) None was.list None e.key (Some empty_place) (was.exact e.key ∙ before)
      (prev_beside (with_next prev next at) None was.list None next prev (beside at count bucket other first other_first next own was differs own_next)
      (next_beside at None was.list None prev next (beside at count bucket other first other_first prev own was differs own_prev) was.spelled)))
      bridged_numbers before refl

-- one bucket changes, and the others stay
pub changed_bucket : (new : Places (Option ℕ)) (firsts : List (Option ℕ)) (bucket : ℕ) (first : Option ℕ) → bucket < length firsts → IsBucket new (length firsts) bucket first
    → ((other : ℕ) → other < length firsts → other ≢ bucket → IsBucket new (length firsts) other (get_or firsts other None))
    → AreBuckets new (set firsts bucket first)
changed_bucket new firsts bucket first below changed others other within =
    let count_is : length (set firsts bucket first) ≡ length firsts = length-set firsts bucket first in
    let inside : other < length firsts = omega (arith, within, count_is) in
    subst (λ (count : ℕ). IsBucket new count other (get_or (set firsts bucket first) other None)) (sym count_is)
    (elim (cases_eq other bucket) [
      | inl is ↦
          let P : ℕ → Type 0 = λ k. IsBucket new (length firsts) k (get_or (set firsts bucket first) k None) in
          let there : P bucket = subst (λ (key : Option ℕ). IsBucket new (length firsts) bucket key) (sym (get_or-set_same firsts bucket first None below)) changed in
          subst P (sym is) there
      | inr differs ↦ subst (λ (key : Option ℕ). IsBucket new (length firsts) other key) (sym (get_or-set_other firsts bucket other first None differs)) (others other inside differs)
    ])
