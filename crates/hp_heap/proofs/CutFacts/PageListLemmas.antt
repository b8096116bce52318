-- The segment lists of a heap's pages, after one of them was noted, and where they stand.
use Rattle.std.proofs.Common.{◌≡◌, ◌≢◌, ℕ, ◌<◌, true, false, List, [], ◌∷◌, ◌++◌, length, get_or, set, Option, Some, None, IfSome, IfNone, position, slice_get, sym, subst, ◌∙◌, ap, refl, arith, inl, inr}
use Rattle.std.specs.List.{position_or_len}
use Rattle.std.specs.Option.{option_or}
use Rattle.std.proofs.lemmas.Bool.{cases_lt, lt-ltb, le-ltb, eq-eqb, eqb-true, ne_eqb}
use Rattle.std.proofs.lemmas.Option.{slice_get-get_or, slice_get_past}
use Rattle.std.proofs.lemmas.List.Folds.{find_at, find-set, find_past, find-append}
use Rattle.std.proofs.lemmas.List.Sums.{passes_at_first}
use Rattle.hp_base.specs.declared.row.Run.{Run}
use Rattle.hp_heap.specs.declared.page_list.PageList.{PageList}
use Rattle.hp_heap.specs.PageLists.{is_of, list_at, list_of_run, IsPlaceOf, IsNoted}

-- the place that the first entry of a list is found at
pub place_found : (lists : List PageList) (list : ℕ) (place : Option ℕ) → place ≡ position (is_of list) lists → IfSome place (IsPlaceOf lists list)
place_found lists list None is = tt
place_found lists list (Some place) is =
    elim (cases_lt (position_or_len (is_of list) lists) (length lists)) [
      | inl within ↦
          let here : Some place ≡ Some (position_or_len (is_of list) lists) = rw (lt-ltb (position_or_len (is_of list) lists) (length lists) within) at is in
          let first : place ≡ position_or_len (is_of list) lists = cc in
          let stands : list_at list lists ≡ slice_get lists (position_or_len (is_of list) lists) = find_at (is_of list) lists in
          record { within = omega arith; first = first; here = rw first stands }
      | inr past ↦
          let none : Some place ≡ None = rw (le-ltb (position_or_len (is_of list) lists) (length lists) past) at is in
          cc
    ]

-- where no place is found there is no entry
pub place_missing : (lists : List PageList) (list : ℕ) (place : Option ℕ) → place ≡ position (is_of list) lists → IfNone place (list_at list lists ≡ None)
place_missing lists list (Some place) is = tt
place_missing lists list None is =
    elim (cases_lt (position_or_len (is_of list) lists) (length lists)) [
      | inl within ↦
          let some : None ≡ Some (position_or_len (is_of list) lists) = rw (lt-ltb (position_or_len (is_of list) lists) (length lists) within) at is in
          cc
      | inr past ↦ find_at (is_of list) lists ∙ slice_get_past lists (position_or_len (is_of list) lists) past
    ]

-- an entry of one list is none of another
is_own : (entry : PageList) → is_of entry.list entry ≡ true
is_own entry = eq-eqb entry.list entry.list refl

is_other : (entry : PageList) (list : ℕ) → list ≢ entry.list → is_of list entry ≡ false
is_other entry list other = ne_eqb entry.list list (λ same. other (sym same))

module _ (lists : List PageList) (list place : ℕ) (at : IsPlaceOf lists list place) where
  inside : position_or_len (is_of list) lists < length lists
  inside = omega (arith, at.within, at.first)

  -- the entry there is of the list
  passes_here : (d : PageList) → is_of list (get_or lists place d) ≡ true
  passes_here d = subst (λ (i : ℕ). is_of list (get_or lists i d) ≡ true) (sym at.first) (passes_at_first (is_of list) lists d inside)

  pub entry_here : (entry : PageList) → entry ≡ get_or lists place entry → list_at list lists ≡ Some entry
  entry_here entry read = at.here ∙ slice_get-get_or lists place entry at.within ∙ ap Some (sym read)

  -- an entry was written there
  pub noted_set : (run : Run) → list ≡ run.list → IsNoted run lists (set lists place (list_of_run run))
  noted_set run same = record {
    own = subst (λ (l : ℕ). list_at l (set lists place (list_of_run run)) ≡ Some (list_of_run run)) same
        (find-set (is_of list) lists place (list_of_run run) at.first at.within (eq-eqb run.list list (sym same)));
    others = λ other differs.
        let there : is_of list (get_or lists place (list_of_run run)) ≡ true = passes_here (list_of_run run) in
        let its : (get_or lists place (list_of_run run)).list ≡ list = eqb-true (get_or lists place (list_of_run run)).list list there in
        find_past (is_of other) lists place (list_of_run run) (list_of_run run)
        (is_other (get_or lists place (list_of_run run)) other (λ e. differs (e ∙ its ∙ same)))
        (is_other (list_of_run run) other differs);
  }

option_or-None : (o : Option PageList) → option_or o None ≡ o
option_or-None None = refl
option_or-None (Some entry) = refl

-- an entry was pushed where there was none of its list
pub noted_push : (lists : List PageList) (run : Run) → list_at run.list lists ≡ None → IsNoted run lists (lists ++ list_of_run run ∷ [])
noted_push lists run none = record {
  own = find-append (is_of run.list) lists (list_of_run run ∷ []) ∙ rw (none, is_own (list_of_run run)) refl;
  others = λ other differs. find-append (is_of other) lists (list_of_run run ∷ []) ∙ rw (is_other (list_of_run run) other differs) (option_or-None (list_at other lists));
}
