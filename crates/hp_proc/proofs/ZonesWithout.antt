-- What freeing a memzone leaves of them: those before it and those behind it.
use Rattle.std.proofs.Common.{◌≡◌, ◌≢◌, ℕ, ◌+◌, ◌-◌, ◌<◌, Bool, true, false, not, List, [], ◌∷◌, ◌++◌, length, get_or, take, drop, sym, ap, ◌∙◌, refl, arith}
use Rattle.std.specs.List.{All, filter}
use Rattle.std.specs.Str.{bytes_eq}
use Rattle.std.proofs.lemmas.List.{get_or-take, get_or-drop, drop_more, length-take-le, length-drop, take-append-drop}
use Rattle.std.proofs.lemmas.List.Elements.{All-from_get_or, All-head, All-tail, filter-append}
use Rattle.std.proofs.lemmas.Slice.Eq.{bytes_eq-Decides}
use Rattle.hp_zone.specs.Zones.{AreApart, has_name, without}
use Rattle.hp_zone.specs.declared.zone.Zone.{Zone}

-- a zone has its name, and no other
has_its_name : (zone : Zone) (text : List ℕ) → zone.name ≡ text → has_name text zone ≡ true
has_its_name zone text same = (bytes_eq-Decides zone.name text).1 same

has_no_other : (zone : Zone) (text : List ℕ) → zone.name ≢ text → has_name text zone ≡ false
has_no_other zone text other = false_else (bytes_eq zone.name text) (λ same. other ((bytes_eq-Decides zone.name text).0 same))
  where
    false_else : (b : Bool) → (b ≢ true) → b ≡ false
    false_else true not_true = absurd (not_true refl)
    false_else false not_true = refl

-- a filter keeps a list of which each element passes
filter_all : {X : Type 0} (p : X → Bool) (xs : List X) → All (λ x. p x ≡ true) xs → filter p xs ≡ xs
filter_all p [] all = refl
filter_all p (x ∷ xs) all =
    rw (All-head (λ y. p y ≡ true) x xs all) (ap (λ rest. x ∷ rest) (filter_all p xs (All-tail (λ y. p y ≡ true) x xs all)))

-- the zones without that of a name are those without the one that has it
pub left_without : (zones : List Zone) (at : ℕ) (text : List ℕ) (d : Zone) → at < length zones → AreApart zones
    → (get_or zones at d).name ≡ text → take at zones ++ drop (at + 1) zones ≡ without text zones
left_without zones at text d within apart named =
    let passes : (j : ℕ) → j < length zones → j ≢ at → not (has_name text (get_or zones j d)) ≡ true
    = λ j in_j other. ap not (has_no_other (get_or zones j d) text (λ same. other (apart j at d in_j within (same ∙ sym named)))) in
    let front : filter (λ zone. not (has_name text zone)) (take at zones) ≡ take at zones
    = filter_all (λ zone. not (has_name text zone)) (take at zones) (All-from_get_or (λ zone. not (has_name text zone) ≡ true) (take at zones) d (λ j in_j.
    let short : length (take at zones) ≡ at = length-take-le at zones (omega arith) in
    let lower : j < at = omega (arith, short, in_j) in
    rw (get_or-take at zones j d lower) (passes j (omega arith) (λ same. omega arith)))) in
    let back : filter (λ zone. not (has_name text zone)) (drop (at + 1) zones) ≡ drop (at + 1) zones
    = filter_all (λ zone. not (has_name text zone)) (drop (at + 1) zones) (All-from_get_or (λ zone. not (has_name text zone) ≡ true) (drop (at + 1) zones) d (λ j in_j.
    let short : length (drop (at + 1) zones) ≡ length zones - (at + 1) = length-drop (at + 1) zones in
    rw (get_or-drop (at + 1) zones j d) (passes (at + 1 + j) (omega (arith, short, in_j)) (λ same. omega arith)))) in
    let here : has_name text (get_or zones at d) ≡ true = has_its_name (get_or zones at d) text named in
    let parts : take at zones ++ (get_or zones at d ∷ drop (at + 1) zones) ≡ zones
    = ap (λ rest. take at zones ++ rest) (sym (drop_more zones at d within)) ∙ take-append-drop at zones in
    let whole : filter (λ zone. not (has_name text zone)) (take at zones ++ (get_or zones at d ∷ drop (at + 1) zones)) ≡ take at zones ++ drop (at + 1) zones
    = filter-append (λ zone. not (has_name text zone)) (take at zones) (get_or zones at d ∷ drop (at + 1) zones) ∙ rw (here, front, back) refl in
    sym (ap (filter (λ zone. not (has_name text zone))) (sym parts) ∙ whole)
