-- Memzones that are found, and what reserving and freeing leave of them.
use Rattle.std.proofs.Common.{◌≡◌, ◌≢◌, ℕ, ◌+◌, ◌-◌, ◌<◌, ◌≤◌, Bool, true, false, not, List, [], ◌∷◌, ◌++◌, length, suc, get_or, take, drop, sym, ap, ◌∙◌, subst, refl, inl, inr, arith}
use Rattle.std.specs.List.{filter, remove}
use Rattle.std.specs.Str.{bytes_eq}
use Rattle.std.proofs.lemmas.Bool.{cases_lt}
use Rattle.std.proofs.lemmas.List.{get_or_append_left, get_or_push, length_push, get_or-take, get_or-drop, drop_more, length-take-le, length-drop, take-append-drop}
use Rattle.std.proofs.lemmas.List.Edits.{length-remove, get_or-remove_below, get_or-remove_above}
use Rattle.std.proofs.lemmas.List.Elements.{All-get_or, All-from_get_or, filter-append}
use Rattle.std.proofs.lemmas.Slice.Eq.{bytes_eq-Decides}
use Rattle.hp_zone.specs.Zones.{AreApart, IsNotFound, has_name, without}
use Rattle.hp_zone.specs.declared.zone.Zone.{Zone}
use Rattle.hp_zone.proofs.IndexLemmas.{filter_all}

-- a zone has its name, and no other
pub has_its_name : (zone : Zone) (text : List ℕ) → zone.name ≡ text → has_name text zone ≡ true
has_its_name zone text same = (bytes_eq-Decides zone.name text).1 same

pub has_no_other : (zone : Zone) (text : List ℕ) → zone.name ≢ text → has_name text zone ≡ false
has_no_other zone text other = false_else (bytes_eq zone.name text) (λ same. other ((bytes_eq-Decides zone.name text).0 same))
  where
    false_else : (b : Bool) → (b ≢ true) → b ≡ false
    false_else true not_true = absurd (not_true refl)
    false_else false not_true = refl

-- a zone whose name is not found goes last, and no name is that of two
pub AreApart-push : (zones : List Zone) (zone : Zone) → AreApart zones → IsNotFound zones zone.name → AreApart (zones ++ zone ∷ [])
AreApart-push zones zone apart fresh i k d in_i in_k same =
    let long : length (zones ++ zone ∷ []) ≡ length zones + 1 = length_push zones zone in
    let other : (j : ℕ) → j < length zones → (get_or zones j d).name ≢ zone.name = λ j in_j. All-get_or (λ z. z.name ≢ zone.name) zones j d in_j fresh in
    let old : (j : ℕ) → j < length zones → get_or (zones ++ zone ∷ []) j d ≡ get_or zones j d = λ j in_j. get_or_append_left zones (zone ∷ []) d j in_j in
    let last : (j : ℕ) → j ≡ length zones → get_or (zones ++ zone ∷ []) j d ≡ zone = λ j is. get_or_push zones zone d j (sym is) in
    elim (cases_lt i (length zones)) [
      | inl low_i ↦
          elim (cases_lt k (length zones)) [
            | inl low_k ↦ apart i k d low_i low_k (rw (old i low_i, old k low_k) at same)
            | inr high_k ↦ absurd (other i low_i (rw (old i low_i, last k (omega (arith, long))) at same))
          ]
      | inr high_i ↦
          elim (cases_lt k (length zones)) [
            | inl low_k ↦ absurd (other k low_k (sym (rw (last i (omega (arith, long)), old k low_k) at same)))
            | inr high_k ↦ omega (arith, long)
          ]
    ]

-- without one zone no name is that of two either
pub AreApart-remove : (zones : List Zone) (at : ℕ) → at < length zones → AreApart zones → AreApart (remove zones at)
AreApart-remove zones at within apart i k d in_i in_k same =
    let long : length (remove zones at) + 1 ≡ length zones = length-remove zones at within in
    let below : (j : ℕ) → j < at → get_or (remove zones at) j d ≡ get_or zones j d = λ j lower. get_or-remove_below zones at d j lower within in
    let above : (j : ℕ) → at ≤ j → get_or (remove zones at) j d ≡ get_or zones (j + 1) d = λ j from. get_or-remove_above zones at d j from within in
    elim (cases_lt i at) [
      | inl low_i ↦
          elim (cases_lt k at) [
            | inl low_k ↦ apart i k d (omega arith) (omega arith) (rw (below i low_i, below k low_k) at same)
            | inr high_k ↦ let is : i ≡ k + 1 = apart i (k + 1) d (omega arith) (omega (arith, long)) (rw (below i low_i, above k high_k) at same) in omega arith
          ]
      | inr high_i ↦
          elim (cases_lt k at) [
            | inl low_k ↦ let is : i + 1 ≡ k = apart (i + 1) k d (omega (arith, long)) (omega arith) (rw (above i high_i, below k low_k) at same) in omega arith
            | inr high_k ↦ let is : i + 1 ≡ k + 1 = apart (i + 1) (k + 1) d (omega (arith, long)) (omega (arith, long)) (rw (above i high_i, above k high_k) at same) in omega arith
          ]
    ]

-- the zones without that of a name are those without the one that has it
pub remove_is_without : (zones : List Zone) (at : ℕ) (text : List ℕ) (d : Zone) → at < length zones → AreApart zones
    → (get_or zones at d).name ≡ text → remove zones at ≡ without text zones
remove_is_without zones at text d within apart named =
    let passes : (j : ℕ) → j < length zones → j ≢ at → not (has_name text (get_or zones j d)) ≡ true
    = λ j in_j other. ap not (has_no_other (get_or zones j d) text (λ same. other (apart j at d in_j within (same ∙ sym named)))) in
    let front : filter (λ zone. not (has_name text zone)) (take at zones) ≡ take at zones
    = filter_all (λ zone. not (has_name text zone)) (take at zones) (All-from_get_or (λ zone. not (has_name text zone) ≡ true) (take at zones) d (λ j in_j.
    let short : length (take at zones) ≡ at = length-take-le at zones (omega arith) in
    let lower : j < at = omega (arith, short, in_j) in
    rw (get_or-take at zones j d lower) (passes j (omega arith) (λ same. omega arith)))) in
    let back : filter (λ zone. not (has_name text zone)) (drop (at + 1) zones) ≡ drop (at + 1) zones
    = filter_all (λ zone. not (has_name text zone)) (drop (at + 1) zones) (All-from_get_or (λ zone. not (has_name text zone) ≡ true) (drop (at + 1) zones) d (λ j in_j.
    let short : length (drop (at + 1) zones) ≡ length zones - (at + 1) = length-drop (at + 1) zones in
    rw (get_or-drop (at + 1) zones j d) (passes (at + 1 + j) (omega (arith, short, in_j)) (λ same. omega arith)))) in
    let here : has_name text (get_or zones at d) ≡ true = has_its_name (get_or zones at d) text named in
    let parts : take at zones ++ (get_or zones at d ∷ drop (at + 1) zones) ≡ zones
    = ap (λ rest. take at zones ++ rest) (sym (drop_more zones at d within)) ∙ take-append-drop at zones in
    let whole : filter (λ zone. not (has_name text zone)) (take at zones ++ (get_or zones at d ∷ drop (at + 1) zones)) ≡ take at zones ++ drop (at + 1) zones
    = filter-append (λ zone. not (has_name text zone)) (take at zones) (get_or zones at d ∷ drop (at + 1) zones) ∙ rw (here, front, back) refl in
    let P : ℕ → Type 0 = λ n. take at zones ++ drop n zones ≡ without text zones in
    subst P {x = at + 1} {y = suc at} (omega arith) (sym (ap (filter (λ zone. not (has_name text zone))) (sym parts) ∙ whole))
