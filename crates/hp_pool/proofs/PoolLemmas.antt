-- The list of pools after a change of one of them, and where a pool stands in it.
use Rattle.std.proofs.Common.{subst, is_some, ◌≡◌, ℕ, zero, suc, ◌+◌, ◌<◌, ◌≤◌, true, false, List, [], ◌∷◌, ◌++◌, length, get_or, set, Option, Some, None, IfSome, IfNone, position, slice_get, ◌==◌, sym, ◌∙◌, ap, refl, arith, inl, inr}
use Rattle.std.specs.List.{position_or_len}
use Rattle.std.specs.Option.{option_or}
use Rattle.std.proofs.lemmas.Bool.{cases_eq, cases_lt, and_parts, eq-eqb, eqb-true, false_from_ne_true, lt-ltb, le-ltb}
use Rattle.std.proofs.lemmas.Bool.Decides.{nat_tests}
use Rattle.std.proofs.lemmas.Option.{get_or_from_slice_get, slice_get-get_or, slice_get_past, slice_get_within}
use Rattle.std.proofs.lemmas.List.{get_or-set_other, get_or-set_same, get_or_default, length-set}
use Rattle.std.proofs.lemmas.List.Folds.{find_at, find-set, find_past, find-append}
use Rattle.std.proofs.lemmas.List.Quantifiers.{all_pairs_push}
use Rattle.std.proofs.lemmas.List.Sums.{fails_before_first, passes_at_first, position_or_len_is}
use Rattle.hp_pool.specs.declared.pool.Pool.{Pool}
use Rattle.hp_pool.specs.Pools.{is_of, pool_of, AreSingle, IsCounted, IsOther, KeepsOthers, Takes, Gives, with_fewer, with_more, HasOut, Adds}
use Rattle.hp_pool.specs.Place.{IsPlaceOf}

-- the place that the first pool of this socket and page size is found at
pub place_found : (pools : List Pool) (socket page : ℕ) (place : Option ℕ)
    → place ≡ position (is_of socket page) pools → IfSome place (IsPlaceOf pools socket page)
place_found pools socket page None is = tt
place_found pools socket page (Some place) is =
    elim (cases_lt (position_or_len (is_of socket page) pools) (length pools)) [
      | inl within ↦
          let here : Some place ≡ Some (position_or_len (is_of socket page) pools)
          = rw (lt-ltb (position_or_len (is_of socket page) pools) (length pools) within) at is in
          let first : place ≡ position_or_len (is_of socket page) pools = cc in
          let stands : pool_of pools socket page
          ≡ slice_get pools (position_or_len (is_of socket page) pools)
          = find_at (is_of socket page) pools in
          record { within = omega arith; first = first; here = rw first stands }
      | inr past ↦
          let none : Some place ≡ None
          = rw (le-ltb (position_or_len (is_of socket page) pools) (length pools) past) at is in
          cc
    ]

-- where no place is found there is no such pool
pub place_missing : (pools : List Pool) (socket page : ℕ) (place : Option ℕ)
    → place ≡ position (is_of socket page) pools → IfNone place (pool_of pools socket page ≡ None)
place_missing pools socket page (Some place) is = tt
place_missing pools socket page None is =
    elim (cases_lt (position_or_len (is_of socket page) pools) (length pools)) [
      | inl within ↦
          let some : None ≡ Some (position_or_len (is_of socket page) pools)
          = rw (lt-ltb (position_or_len (is_of socket page) pools) (length pools) within) at is in
          cc
      | inr past ↦
          find_at (is_of socket page) pools ∙ slice_get_past pools (position_or_len (is_of socket page) pools) past
    ]

-- a pool of one socket and page size is of no other
other_is_not : (pool : Pool) (socket page other_socket other_page : ℕ)
    → is_of socket page pool ≡ true → IsOther socket page other_socket other_page
    → is_of other_socket other_page pool ≡ false
other_is_not pool socket page other_socket other_page this other = grind (arith, nat_tests)

-- one pool of the list is changed, and keeps its socket and page size
pub record ChangesAt (old new : List Pool) (socket page : ℕ) (before after : Pool) : Type 0 where
  pub was : pool_of old socket page ≡ Some before
  pub is : pool_of new socket page ≡ Some after
  pub others : KeepsOthers old new socket page

-- a write at the place of a pool changes that pool alone
pub ChangesAt-set : (pools : List Pool) (socket page place : ℕ) (before after : Pool)
    → IsPlaceOf pools socket page place → before ≡ get_or pools place before
    → after.socket ≡ before.socket → after.page ≡ before.page
    → ChangesAt pools (set pools place after) socket page before after
ChangesAt-set pools socket page place before after at read same_socket same_page =
    let there : before ≡ get_or pools (position_or_len (is_of socket page) pools) before
    = rw at.first at read in
    let inside : position_or_len (is_of socket page) pools < length pools = omega (arith, at.within) in
    let passes : is_of socket page before ≡ true
    = let P : Pool → Type 0 = λ pool. is_of socket page pool ≡ true in
    subst P (sym there) (passes_at_first (is_of socket page) pools before inside) in
    let still_passes : is_of socket page after ≡ true = rw (same_socket, same_page) passes in
    record {
      was = find_at (is_of socket page) pools
          ∙ slice_get-get_or pools (position_or_len (is_of socket page) pools) before inside
          ∙ ap Some (sym there);
      is = find-set (is_of socket page) pools place after at.first at.within still_passes;
      others = λ s p other.
          let fails : is_of s p (get_or pools place before) ≡ false
          = let P : Pool → Type 0 = λ pool. is_of s p pool ≡ false in
          subst P read (other_is_not before socket page s p passes other) in
          find_past (is_of s p) pools place after before fails (other_is_not after socket page s p still_passes other);
    }

-- the pool read at its place is the pool of its socket and page size
pub pool_here : (pools : List Pool) (socket page place : ℕ) (pool : Pool)
    → IsPlaceOf pools socket page place → pool ≡ get_or pools place pool
    → pool_of pools socket page ≡ Some pool
pool_here pools socket page place pool at read =
    (ChangesAt-set pools socket page place pool pool at read refl refl).was

-- pages that are out of a pool are out of the pool read at its place
pub out_here : (pools : List Pool) (socket page n place : ℕ) (pool : Pool)
    → IsPlaceOf pools socket page place → pool ≡ get_or pools place pool
    → HasOut pools socket page n → pool.free + n ≤ pool.pages
out_here pools socket page n place pool at read out =
    rw (pool_here pools socket page place pool at read) at out

-- a write of n free pages less at the place of a pool takes n from it
pub Takes-set : (pools : List Pool) (socket page n place : ℕ) (pool : Pool)
    → IsPlaceOf pools socket page place → pool ≡ get_or pools place pool → n ≤ pool.free
    → Takes pools (set pools place (with_fewer n pool)) socket page n
Takes-set pools socket page n place pool at read fits =
    let changes : ChangesAt pools (set pools place (with_fewer n pool)) socket page pool (with_fewer n pool)
    = ChangesAt-set pools socket page place pool (with_fewer n pool) at read refl refl in
    record {
      enough = rw changes.was fits;
      this_pool = rw (changes.was, changes.is);
      other_pools = changes.others;
    }

-- a write of n free pages more at the place of a pool gives n to it
pub Gives-set : (pools : List Pool) (socket page n place : ℕ) (pool : Pool)
    → IsPlaceOf pools socket page place → pool ≡ get_or pools place pool
    → Gives pools (set pools place (with_more n pool)) socket page n
Gives-set pools socket page n place pool at read =
    let changes : ChangesAt pools (set pools place (with_more n pool)) socket page pool (with_more n pool)
    = ChangesAt-set pools socket page place pool (with_more n pool) at read refl refl in
    record {
      this_pool = rw (changes.was, changes.is);
      other_pools = changes.others;
    }

-- nothing beside an option leaves it
option_or-None : (pool : Option Pool) → option_or pool None ≡ pool
option_or-None None = refl
option_or-None (Some pool) = refl

-- a pool that is pushed where there was none of its socket and page size is added
pub Adds-push : (pools : List Pool) (pool : Pool) → pool_of pools pool.socket pool.page ≡ None
    → pool.free ≡ pool.pages → Adds pools (pools ++ pool ∷ []) pool.socket pool.page pool.pages
Adds-push pools pool none all_free =
    let passes : is_of pool.socket pool.page pool ≡ true = grind (arith, nat_tests) in
    record {
      this_pool = find-append (is_of pool.socket pool.page) pools (pool ∷ []) ∙ rw (none, passes, all_free);
      other_pools = λ s p other.
          let fails : is_of s p pool ≡ false = other_is_not pool pool.socket pool.page s p passes other in
          find-append (is_of s p) pools (pool ∷ []) ∙ rw fails (option_or-None (pool_of pools s p));
    }

-- a fact about the case that no place was found, where none was
pub none_found : (place : Option ℕ) (fact : Type 0) → false ≡ is_some place → IfNone place fact → fact
none_found None fact missing holds = holds
none_found (Some place) fact missing holds = cc

-- a write that keeps the socket and the page size of a pool keeps those of each
keys_set : (pools : List Pool) (place k : ℕ) (before after d : Pool) → place < length pools → before ≡ get_or pools place before
    → after.socket ≡ before.socket → after.page ≡ before.page
    → ((get_or (set pools place after) k d).socket ≡ (get_or pools k d).socket) × ((get_or (set pools place after) k d).page ≡ (get_or pools k d).page)
keys_set pools place k before after d within read socket page =
    elim (cases_eq k place) [
      | inl same ↦
          let new : get_or (set pools place after) k d ≡ after
          = ap (λ n. get_or (set pools place after) n d) same ∙ get_or-set_same pools place after d within in
          let old : get_or pools k d ≡ before
          = ap (λ n. get_or pools n d) same ∙ (get_or_default pools place d before within ∙ sym read) in (
            ap (λ (pool : Pool). pool.socket) new ∙ (socket ∙ sym (ap (λ (pool : Pool). pool.socket) old)),
            ap (λ (pool : Pool). pool.page) new ∙ (page ∙ sym (ap (λ (pool : Pool). pool.page) old)),
          )
      | inr other ↦
          let same = get_or-set_other pools place k after d other in
          (ap (λ (pool : Pool). pool.socket) same, ap (λ (pool : Pool). pool.page) same)
    ]

-- it leaves no two pools of one socket and page size
pub AreSingle-set : (pools : List Pool) (place : ℕ) (before after : Pool) → place < length pools → before ≡ get_or pools place before
    → after.socket ≡ before.socket → after.page ≡ before.page → AreSingle pools → AreSingle (set pools place after)
AreSingle-set pools place before after within read socket page old =
    λ i j d rises inside both.
    let one = keys_set pools place i before after d within read socket page in
    let other = keys_set pools place j before after d within read socket page in
    old i j d rises (omega (arith, inside, length-set pools place after))
    (sym other.0 ∙ (both.0 ∙ one.0), sym other.1 ∙ (both.1 ∙ one.1))

-- nor does a pool that comes where there was none of its socket and page size
pub AreSingle-push : (pools : List Pool) (pool : Pool) → pool_of pools pool.socket pool.page ≡ None → AreSingle pools → AreSingle (pools ++ pool ∷ [])
AreSingle-push pools pool none old =
    all_pairs_push (λ one other. IsOther one.socket one.page other.socket other.page) pools pool old
    (λ k d within both.
    let passes : is_of pool.socket pool.page (get_or pools k d) ≡ true
    = rw (eq-eqb (get_or pools k d).socket pool.socket (sym both.0), eq-eqb (get_or pools k d).page pool.page (sym both.1)) refl in
    elim (cases_lt (position_or_len (is_of pool.socket pool.page) pools) (length pools)) [
      | inl inside ↦
          let here = slice_get-get_or pools (position_or_len (is_of pool.socket pool.page) pools) pool inside in
          let found = find_at (is_of pool.socket pool.page) pools in
          absurd (cc)
      | inr past ↦
          let fails = fails_before_first (is_of pool.socket pool.page) pools k d (omega (arith, past, within)) in
          absurd (cc)
    ])

-- the pool at a place is that of its socket and page size
pub single_here : (pools : List Pool) (place : ℕ) (pool : Pool) → AreSingle pools → slice_get pools place ≡ Some pool
    → pool_of pools pool.socket pool.page ≡ Some pool
single_here pools place pool single here =
    let within = slice_get_within pools place pool here in
    let at : get_or pools place pool ≡ pool = get_or_from_slice_get pools place pool pool here in
    let passes : is_of pool.socket pool.page (get_or pools place pool) ≡ true
    = ap (is_of pool.socket pool.page) at ∙ rw (eq-eqb pool.socket pool.socket refl, eq-eqb pool.page pool.page refl) refl in
    let first : position_or_len (is_of pool.socket pool.page) pools ≡ place
    = position_or_len_is (is_of pool.socket pool.page) pools place pool (omega (arith, within))
    (λ k before.
    false_from_ne_true (is_of pool.socket pool.page (get_or pools k pool))
    (λ is.
    let parts = and_parts ((get_or pools k pool).socket == pool.socket) ((get_or pools k pool).page == pool.page) is in
    single k place pool before within (
      ap (λ (p : Pool). p.socket) at ∙ sym (eqb-true (get_or pools k pool).socket pool.socket parts.0),
      ap (λ (p : Pool). p.page) at ∙ sym (eqb-true (get_or pools k pool).page pool.page parts.1),
    )))
    (λ inside. passes) in
    find_at (is_of pool.socket pool.page) pools ∙ (ap (slice_get pools) first ∙ here)

-- a pool that comes has no more free pages than pages
pub IsCounted-push : (pools : List Pool) (pool : Pool) → pool.free ≤ pool.pages → IsCounted pools → IsCounted (pools ++ pool ∷ [])
IsCounted-push [] pool fits all = (fits, tt)
IsCounted-push (first ∷ pools) pool fits all = (all.0, IsCounted-push pools pool fits all.1)

-- nor does a pool that is written
pub IsCounted-set : (pools : List Pool) (place : ℕ) (pool : Pool) → pool.free ≤ pool.pages → IsCounted pools → IsCounted (set pools place pool)
IsCounted-set [] place pool fits all = tt
IsCounted-set (first ∷ pools) zero pool fits all = (fits, all.1)
IsCounted-set (first ∷ pools) (suc place) pool fits all = (all.0, IsCounted-set pools place pool fits all.1)

-- the pool that is read at a place has none
pub counted_here : (pools : List Pool) (place : ℕ) (d : Pool) → place < length pools → IsCounted pools → (get_or pools place d).free ≤ (get_or pools place d).pages
counted_here [] place d within all = absurd (omega (arith, within))
counted_here (first ∷ pools) zero d within all = all.0
counted_here (first ∷ pools) (suc place) d within all = counted_here pools place d (omega (arith, within)) all.1
