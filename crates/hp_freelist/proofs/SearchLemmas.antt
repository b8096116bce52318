-- A search along the links, and over the lists from a class upwards.
use Rattle.std.proofs.Common.{◌≡◌, ℕ, zero, suc, ◌+◌, ◌-◌, ◌<◌, ◌≤◌, List, [], ◌∷◌, ◌++◌, true, false, Bool, nat_eq, Option, Some, None}
use Rattle.std.proofs.Common.{is_some, length, get_or, flat_map, ltb, refl, sym, ap, ap₂, ◌∙◌, subst, arith, inl, inr}
use Rattle.std.proofs.lemmas.Bool.{or_left, or_right, ltb-true, ltb-false, false≢true}
use Rattle.std.proofs.lemmas.List.{get_or-map, length-map}
use Rattle.std.proofs.lemmas.Option.{none-some}
use Rattle.hp_chain.specs.Chain.{Keyed, Place, has_key, visit, walk}
use Rattle.hp_chain.proofs.Keys.{has_key-own}
use Rattle.hp_chain.proofs.Walks.{walk-none, walk-some}
use Rattle.hp_freelist.specs.declared.link.Link.{Link}
use Rattle.hp_freelist.specs.Lists.{list_at, is_listed}
use Rattle.hp_freelist.specs.Heads.{head_at, IsNext, NoneFrom}
use Rattle.hp_freelist.specs.Links.{place_of, place_at, list_from, lists_of}
use Rattle.hp_freelist.specs.Search.{keys_of, keys_from, IsFirstPassing}
use Rattle.hp_freelist.proofs.RoomLemmas.{read_place, unread_place}

-- what is left of a walk: nothing where there is no key, or no link of it, and else the key and what its link leads to
module _ (links : List Link) where
  pub left_none : (n : ℕ) (next : Option ℕ) → next ≡ None → walk (place_at links) n next ≡ []
  left_none n next is = ap (λ (key : Option ℕ). walk (place_at links) n key) is ∙ walk-none (λ (place : Place ℕ). place.next) (place_at links) n

  nothing_at : (n key : ℕ) → place_at links key ≡ None → walk (place_at links) n (Some key) ≡ []
  nothing_at zero key is = refl
  nothing_at (suc n) key is =
      ap (λ (slot : Option (Place ℕ)). visit (λ (place : Place ℕ). place.next) key slot (λ (other : Option ℕ). walk (place_at links) n other)) is

  pub left_missing : (read : List Link) (n key : ℕ) (next : Option ℕ) → read ≡ links → next ≡ Some key → false ≡ ltb key (length read)
      → walk (place_at links) n next ≡ []
  left_missing read n key next same is missing =
      ap (λ (k : Option ℕ). walk (place_at links) n k) is
      ∙ nothing_at n key (subst (λ (all : List Link). place_at all key ≡ None) same (unread_place read key (ltb-false key (length read) (sym missing))))

  -- one step of a walk, as it is read
  pub stepped : (read : List Link) (len step key : ℕ) (next : Option ℕ) (link : Link) → read ≡ links → step < len → next ≡ Some key
      → true ≡ ltb key (length read) → link ≡ get_or read key link
      → walk (place_at links) (len - step) next ≡ record { key = key; value = link.whole } ∷ walk (place_at links) (len - (step + 1)) link.next
  stepped read len step key next link same more is within found =
      let rest : ℕ = len - (step + 1) in
      let enough : len - step ≡ suc rest = omega (arith, more) in
      let stands : place_at links key ≡ Some (place_of link) =
      subst (λ (all : List Link). place_at all key ≡ Some (place_of link)) same (read_place read key link (ltb-true key (length read) (sym within)) found) in
      ap₂ (λ (n : ℕ) (k : Option ℕ). walk (place_at links) n k) enough is
      ∙ walk-some (λ (place : Place ℕ). place.next) (place_at links) rest key (place_of link) stands

  -- so the key that is read is of what is left, and so are those after it
  module _ (read : List Link) (len step key : ℕ) (next : Option ℕ) (link : Link) (same : read ≡ links) (more : step < len) (is : next ≡ Some key)
      (within : true ≡ ltb key (length read)) (found : link ≡ get_or read key link) where
    pub has_read : has_key key (walk (place_at links) (len - step) next) ≡ true
    has_read =
        subst (λ (zs : List (Keyed ℕ)). has_key key zs ≡ true) (sym (stepped read len step key next link same more is within found))
        (has_key-own (record { key = key; value = link.whole }) (walk (place_at links) (len - (step + 1)) link.next))

    pub has_behind : (other : ℕ) → has_key other (walk (place_at links) (len - (step + 1)) link.next) ≡ true
        → has_key other (walk (place_at links) (len - step) next) ≡ true
    has_behind other has =
        subst (λ (zs : List (Keyed ℕ)). has_key other zs ≡ true) (sym (stepped read len step key next link same more is within found))
        (or_right (nat_eq key other) (has_key other (walk (place_at links) (len - (step + 1)) link.next)) has)

-- the search goes on after keys that do not pass, and ends at one that does
module _ (test : ℕ → Bool → Type 0) where
  pub passed_over : (keys more : List ℕ) (found : Option ℕ) → IsFirstPassing test keys None → IsFirstPassing test more found
      → IsFirstPassing test (keys ++ more) found
  passed_over [] more found none later = later
  passed_over (key ∷ keys) more found (inl passes) later = absurd (none-some key passes.1)
  passed_over (key ∷ keys) more found (inr fails) later = inr (fails.0, passed_over keys more found fails.1 later)

  pub found_first : (keys more : List ℕ) (key : ℕ) → IsFirstPassing test keys (Some key) → IsFirstPassing test (keys ++ more) (Some key)
  found_first [] more key is = absurd (none-some key (sym is))
  found_first (first ∷ keys) more key (inl passes) = inl passes
  found_first (first ∷ keys) more key (inr fails) = inr (fails.0, found_first keys more key fails.1)

  -- the same, where it is asked whether something was found
  pub goes_on : (keys more : List ℕ) (found later : Option ℕ) → is_some found ≡ false → IsFirstPassing test keys found
      → IsFirstPassing test more later → IsFirstPassing test (keys ++ more) later
  goes_on keys more None later none here there = passed_over keys more later here there
  goes_on keys more (Some key) later none here there = absurd (false≢true (sym none))

  pub ends : (keys more : List ℕ) (found : Option ℕ) → is_some found ≡ true → IsFirstPassing test keys found
      → IsFirstPassing test (keys ++ more) found
  ends keys more None some here = absurd (false≢true some)
  ends keys more (Some key) some here = found_first keys more key here

-- the keys from a class upwards, where the lists below a class are empty
pub keys_at : (lists : List (List (Keyed ℕ))) (from class : ℕ) → from ≤ class → class < length lists
    → ((other : ℕ) → from ≤ other → other < class → list_at lists other ≡ [])
    → keys_from from lists ≡ keys_of (list_at lists class) ++ keys_from (suc class) lists
keys_at [] from class upwards within empty = absurd (omega (arith, within))
keys_at (list ∷ lists) (suc from) zero upwards within empty = absurd (omega (arith, upwards))
keys_at (list ∷ lists) (suc from) (suc class) upwards within empty =
    keys_at lists from class (omega (arith, upwards)) (omega (arith, within)) (λ other above below. empty (suc other) (omega (arith, above)) (omega (arith, below)))
keys_at (list ∷ lists) zero zero upwards within empty = refl
keys_at (list ∷ lists) zero (suc class) upwards within empty =
    ap (λ (zs : List (Keyed ℕ)). keys_of zs ++ flat_map keys_of lists) (empty zero (omega arith) (omega arith))
    ∙ keys_at lists zero class (omega arith) (omega (arith, within)) (λ other above below. empty (suc other) (omega arith) (omega (arith, below)))

-- no keys, where the lists from a class upwards are empty
pub no_keys : (lists : List (List (Keyed ℕ))) (from : ℕ) → ((other : ℕ) → from ≤ other → other < length lists → list_at lists other ≡ [])
    → keys_from from lists ≡ []
no_keys [] zero empty = refl
no_keys [] (suc from) empty = refl
no_keys (list ∷ lists) (suc from) empty = no_keys lists from (λ other above below. empty (suc other) (omega (arith, above)) (omega (arith, below)))
no_keys (list ∷ lists) zero empty =
    ap (λ (zs : List (Keyed ℕ)). keys_of zs ++ flat_map keys_of lists) (empty zero (omega arith) (omega arith))
    ∙ no_keys lists zero (λ other above below. empty (suc other) (omega arith) (omega (arith, below)))

-- a key of one list is listed
pub listed_from : (key : ℕ) (lists : List (List (Keyed ℕ))) (class : ℕ) → has_key key (list_at lists class) ≡ true
    → is_listed key lists ≡ true
listed_from key [] class has = has
listed_from key (list ∷ lists) zero has = or_left (has_key key list) (is_listed key lists) has
listed_from key (list ∷ lists) (suc class) has = or_right (has_key key list) (is_listed key lists) (listed_from key lists class has)

-- the lists of the walks, one by one
module _ (links : List Link) (firsts : List (Option ℕ)) where
  pub walked_at : (class : ℕ) → class < length firsts → list_at (lists_of links firsts) class ≡ list_from links (head_at firsts class)
  walked_at class within = get_or-map (list_from links) firsts class None [] within

  pub walked_empty : (class : ℕ) → class < length firsts → head_at firsts class ≡ None → list_at (lists_of links firsts) class ≡ []
  walked_empty class within none =
      walked_at class within ∙ ap (λ (key : Option ℕ). list_from links key) none ∙ walk-none (λ (place : Place ℕ). place.next) (place_at links) (length links)

  -- the keys from the next class that has one, and the keys where no class has one
  module _ (count : length firsts ≡ 13) where
    pub keys_next : (from class : ℕ) → IsNext firsts from class
        → keys_from from (lists_of links firsts) ≡ keys_of (list_from links (head_at firsts class)) ++ keys_from (class + 1) (lists_of links firsts)
    keys_next from class next =
        let within : class < length firsts = omega (arith, count, next.within) in
        keys_at (lists_of links firsts) from class next.upwards (omega (arith, within, length-map firsts (list_from links)))
        (λ other upwards below. walked_empty other (omega (arith, below, within)) (next.lower other upwards below))
        ∙ ap₂ (λ (zs : List (Keyed ℕ)) (n : ℕ). keys_of zs ++ keys_from n (lists_of links firsts)) (walked_at class within) (let more : suc class ≡ class + 1 = omega arith in more)

    pub keys_none : (from : ℕ) → NoneFrom firsts from → keys_from from (lists_of links firsts) ≡ []
    keys_none from none =
        no_keys (lists_of links firsts) from
        (λ other upwards below.
        let within : other < length firsts = omega (arith, below, length-map firsts (list_from links)) in
        walked_empty other within (none other upwards (omega (arith, within, count))))

-- one list of a search over the lists
module _ (test : ℕ → Bool → Type 0) (links : List Link) (firsts : List (Option ℕ)) (count : length firsts ≡ 13) (from class : ℕ) (first found : Option ℕ)
    (next : IsNext firsts from class) (is : first ≡ head_at firsts class) (here : IsFirstPassing test (keys_of (list_from links first)) found) where
  in_class : IsFirstPassing test (keys_of (list_from links (head_at firsts class))) found
  in_class = subst (λ (key : Option ℕ). IsFirstPassing test (keys_of (list_from links key)) found) is here

  pub search_ends : true ≡ is_some found → IsFirstPassing test (keys_from from (lists_of links firsts)) found
  search_ends some =
      subst (λ (keys : List ℕ). IsFirstPassing test keys found) (sym (keys_next links firsts count from class next))
      (ends test (keys_of (list_from links (head_at firsts class))) (keys_from (class + 1) (lists_of links firsts)) found (sym some) in_class)

  pub search_goes_on : false ≡ is_some found → (later : Option ℕ)
      → IsFirstPassing test (keys_from (class + 1) (lists_of links firsts)) later
      → IsFirstPassing test (keys_from from (lists_of links firsts)) later
  search_goes_on none later there =
      subst (λ (keys : List ℕ). IsFirstPassing test keys later) (sym (keys_next links firsts count from class next))
      (goes_on test (keys_of (list_from links (head_at firsts class))) (keys_from (class + 1) (lists_of links firsts)) found later (sym none) in_class there)
