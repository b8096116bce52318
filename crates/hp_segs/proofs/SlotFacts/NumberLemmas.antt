-- The numbers of lists at the places of their sockets and page sizes.
use Rattle.std.proofs.Common.{◌≡◌, ◌≢◌, ◌∙◌, ℕ, ◌+◌, ◌*◌, ◌<◌, ◌≤◌, Bool, true, false, ◌==◌, cond, not, ltb, List, [], ◌∷◌, ◌++◌, length, get_or, set, replicate, Option, Some, None, IsSome, IsTrue, is_some, ⊎_elim, inl, inr, refl, ap, sym, arith, get_or-set_same}
use Rattle.std.specs.List.{All, list_any, position, position_or_len}
use Rattle.std.specs.Option.{option_map, option_or}
use Rattle.std.proofs.lemmas.Bool.{cases_eq, cases_lt, and_parts, eqb-true, eq-eqb, ne_eqb, lt-ltb, le-ltb, false_from_ne_true}
use Rattle.std.proofs.lemmas.List.{get_or-replicate, get_or-set_other, length-append, length-replicate, length-set}
use Rattle.std.proofs.lemmas.List.Elements.{All-nil, All-push}
use Rattle.std.proofs.lemmas.List.Folds.{list_any_none, position_or_len_push}
use Rattle.std.proofs.lemmas.List.Quantifiers.{position-Some}
use Rattle.std.proofs.lemmas.List.Sums.{fails_before_first, prefix_len-le-length}
use Rattle.hp_base.specs.Pages.{is_page_size, page_sizes}
use Rattle.hp_segs.specs.ListNumbers.{AreNumbered, number_place}
use Rattle.hp_segs.specs.Lists.{is_list_of, list_number}
use Rattle.hp_segs.specs.declared.list_info.ListInfo.{ListInfo}

-- the place, where it is one of so many
abbrev first_of : ℕ → ℕ → Option ℕ
first_of place n = cond (ltb place n) (Some place) None

first_push : (place n : ℕ) (passes : Bool) → place ≤ n
    → first_of (cond (place == n) (n + cond passes 0 1) place) (n + 1) ≡ option_or (first_of place n) (cond passes (Some n) None)
first_push place n passes low =
    elim (cases_lt place n) [
      | inl within ↦
          rw (ne_eqb place n (λ same. omega (arith, same, within)), lt-ltb place (n + 1) (omega (arith, within)), lt-ltb place n within) refl
      | inr past ↦ rw (eq-eqb place n (omega (arith, low, past)), le-ltb place n past) (behind passes)
    ]
  where
    behind : (passes : Bool) → first_of (n + cond passes 0 1) (n + 1) ≡ option_or None (cond passes (Some n) None)
    behind true =
        let none : n + 0 ≡ n = omega arith in
        ap (λ k. first_of k (n + 1)) none ∙ rw (lt-ltb n (n + 1) (omega arith)) refl
    behind false = rw (le-ltb (n + 1) (n + 1) (omega arith)) refl

-- where the first one stands when one more comes
pub position_push : {X : Type 0} (p : X → Bool) (xs : List X) (x : X)
    → position p (xs ++ x ∷ []) ≡ option_or (position p xs) (cond (p x) (Some (length xs)) None)
position_push p xs x =
    ap (λ k. first_of k (length (xs ++ x ∷ []))) (position_or_len_push p xs x)
    ∙ ap (λ n. first_of (cond (position_or_len p xs == length xs) (length xs + cond (p x) 0 1) (position_or_len p xs)) n) (length-append xs (x ∷ []))
    ∙ first_push (position_or_len p xs) (length xs) (p x) (prefix_len-le-length (λ y. not (p y)) xs)

-- the place has a socket and a page size
pub record IsPlace (socket page place : ℕ) : Type 0 where
  pub size : ℕ
  pub low : socket < 32
  pub small : size < 8
  pub is : place ≡ socket * 8 + size
  pub its_page : get_or page_sizes size 0 ≡ page

pub place_parts : (socket page place : ℕ) → number_place socket page ≡ Some place → IsPlace socket page place
place_parts socket page place is =
    elim (cases_lt socket 32) [
      | inl low ↦ of_size low (position (λ (size : ℕ). size == page) page_sizes) refl (rw (lt-ltb socket 32 low) at is)
      | inr high ↦ let none : None ≡ Some place = rw (le-ltb socket 32 high) at is in absurd (cc)
    ]
  where
    of_size : socket < 32 → (size : Option ℕ) → position (λ (size : ℕ). size == page) page_sizes ≡ size
        → option_map (λ (size : ℕ). socket * 8 + size) size ≡ Some place → IsPlace socket page place
    of_size low None at is = absurd (cc)
    of_size low (Some size) at is =
        let first = position-Some (λ (size : ℕ). size == page) page_sizes size 0 at in
        record {
          size = size;
          low = low;
          small = first.0;
          is = cc;
          its_page = eqb-true (get_or page_sizes size 0) page first.1;
        }

-- a place is that of one socket and one page size
pub one_place : (socket page other_socket other_page place : ℕ) → number_place socket page ≡ Some place → number_place other_socket other_page ≡ Some place
    → (socket ≡ other_socket) × (page ≡ other_page)
one_place socket page other_socket other_page place is other_is =
    let its = place_parts socket page place is in
    let other = place_parts other_socket other_page place other_is in
    let same : its.size ≡ other.size = omega (arith, its.is, its.small, other.is, other.small) in
    (omega (arith, its.is, its.small, other.is, other.small), sym its.its_page ∙ ap (λ n. get_or page_sizes n 0) same ∙ other.its_page)

pub place_below : (socket page place : ℕ) → number_place socket page ≡ Some place → place < 256
place_below socket page place is = let its = place_parts socket page place is in omega (arith, its.is, its.low, its.small)

-- each socket and page size of a pool has a place
pub has_place : (socket page : ℕ) → socket < 32 → IsTrue (is_page_size page) → IsSome (number_place socket page)
has_place socket page low is =
    elim (cases_lt (position_or_len (λ (size : ℕ). size == page) page_sizes) 8) [
      | inl within ↦
          rw (lt-ltb socket 32 low, lt-ltb (position_or_len (λ (size : ℕ). size == page) page_sizes) 8 within) refl
      | inr past ↦
          let none : list_any (λ (size : ℕ). size == page) page_sizes ≡ false =
          list_any_none (λ (size : ℕ). size == page) page_sizes
          (λ k d inside. fails_before_first (λ (size : ℕ). size == page) page_sizes k d (omega (arith, past, inside))) in
          absurd (cc)
    ]

-- no list, and no number
pub none_numbered : AreNumbered [] (replicate 256 None)
none_numbered = record {
  long = length-replicate {A = Option ℕ} 256 None;
  placed = All-nil (λ (info : ListInfo). IsSome (number_place info.socket info.page));
  number = λ socket page place is. get_or-replicate {A = Option ℕ} 256 place None None (place_below socket page place is);
}

module _ (lists : List ListInfo) (numbers : List (Option ℕ)) (info : ListInfo) (place : ℕ) (is : number_place info.socket info.page ≡ Some place)
    (old : AreNumbered lists numbers) where
  -- what is no list of a socket and a page size leaves their number
  apart : (socket page other : ℕ) → number_place socket page ≡ Some other → other ≢ place → list_number (lists ++ info ∷ []) socket page ≡ list_number lists socket page
  apart socket page other its differs =
      let not_it : is_list_of socket page info ≡ false =
      false_from_ne_true (is_list_of socket page info)
      (λ it.
      let parts = and_parts (info.socket == socket) (info.page == page) it in
      let same : number_place socket page ≡ Some place =
      ap (λ (s : ℕ). number_place s page) (sym (eqb-true info.socket socket parts.0))
      ∙ (ap (λ (p : ℕ). number_place info.socket p) (sym (eqb-true info.page page parts.1)) ∙ is) in
      differs (cc)) in
      position_push (is_list_of socket page) lists info
      ∙ ap (λ (b : Bool). option_or (position (is_list_of socket page) lists) (cond b (Some (length lists)) None)) not_it
      ∙ none_more (position (is_list_of socket page) lists)
    where
      none_more : (o : Option ℕ) → option_or o None ≡ o
      none_more None = refl
      none_more (Some n) = refl

  -- the list is one of its socket and page size
  its_own : (socket page : ℕ) → number_place socket page ≡ Some place → is_list_of socket page info ≡ true
  its_own socket page its =
      let same = one_place info.socket info.page socket page place is its in
      rw (eq-eqb info.socket socket same.0, eq-eqb info.page page same.1) refl

  placed : All (λ (info : ListInfo). IsSome (number_place info.socket info.page)) (lists ++ info ∷ [])
  placed = All-push (λ (info : ListInfo). IsSome (number_place info.socket info.page)) lists info old.placed (ap is_some is)

  -- the first list of its socket and page size comes, and its number
  pub numbered_first : get_or numbers place None ≡ None → AreNumbered (lists ++ info ∷ []) (set numbers place (Some (length lists)))
  numbered_first none = record {
    long = length-set numbers place (Some (length lists)) ∙ old.long;
    placed = placed;
    number = λ socket page other its.
        ⊎_elim
        (λ same.
        let here : number_place socket page ≡ Some place = its ∙ ap (λ (n : ℕ). Some n) same in
        let before : list_number lists socket page ≡ None = sym (old.number socket page place here) ∙ none in
        ap (λ (n : ℕ). get_or (set numbers place (Some (length lists))) n None) same
        ∙ get_or-set_same numbers place (Some (length lists)) None (omega (arith, old.long, place_below info.socket info.page place is))
        ∙ sym
        (position_push (is_list_of socket page) lists info
        ∙ (ap (λ (b : Bool). option_or (position (is_list_of socket page) lists) (cond b (Some (length lists)) None)) (its_own socket page here)
        ∙ ap (λ (o : Option ℕ). option_or o (Some (length lists))) before)))
        (λ differs.
        get_or-set_other numbers place other (Some (length lists)) None differs
        ∙ (old.number socket page other its ∙ sym (apart socket page other its differs)))
        (cases_eq other place);
  }

  -- another one comes
  pub numbered_again : (first : ℕ) → get_or numbers place None ≡ Some first → AreNumbered (lists ++ info ∷ []) numbers
  numbered_again first some = record {
    long = old.long;
    placed = placed;
    number = λ socket page other its.
        ⊎_elim
        (λ same.
        let here : number_place socket page ≡ Some place = its ∙ ap (λ (n : ℕ). Some n) same in
        let before : list_number lists socket page ≡ Some first = sym (old.number socket page place here) ∙ some in
        old.number socket page other its
        ∙ (before
        ∙ sym
        (position_push (is_list_of socket page) lists info
        ∙ ap (λ (o : Option ℕ). option_or o (cond (is_list_of socket page info) (Some (length lists)) None)) before)))
        (λ differs. old.number socket page other its ∙ sym (apart socket page other its differs))
        (cases_eq other place);
  }

  pub numbered_beside : get_or numbers place None ≢ None → AreNumbered (lists ++ info ∷ []) numbers
  numbered_beside some = by (get_or numbers place None) refl
    where
      by : (number : Option ℕ) → get_or numbers place None ≡ number → AreNumbered (lists ++ info ∷ []) numbers
      by None at = absurd (some at)
      by (Some n) at = numbered_again n at

-- where a socket and a page size have no place there is no list of theirs
pub none_placed : (lists : List ListInfo) (numbers : List (Option ℕ)) (socket page : ℕ) → AreNumbered lists numbers → number_place socket page ≡ None
    → list_number lists socket page ≡ None
none_placed lists numbers socket page old none = by (list_number lists socket page) refl
  where
    no_list : ListInfo
    no_list = record { socket = 0; page = 0; base = 0; slots = 0 }

    by : (number : Option ℕ) → list_number lists socket page ≡ number → number ≡ None
    by None is = refl
    by (Some n) is =
        let first = position-Some (is_list_of socket page) lists n no_list is in
        let info : ListInfo = get_or lists n no_list in
        let it : is_list_of socket page info ≡ true = first.1 in
        let parts = and_parts (info.socket == socket) (info.page == page) it in
        let some = old.placed n no_list first.0 in
        let same : number_place info.socket info.page ≡ None =
        ap (λ (s : ℕ). number_place s info.page) (eqb-true info.socket socket parts.0)
        ∙ (ap (λ (p : ℕ). number_place socket p) (eqb-true info.page page parts.1) ∙ none) in
        absurd (cc)
