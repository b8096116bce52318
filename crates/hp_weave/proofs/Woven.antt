-- Items of participants in the order of who is next.
use Rattle.std.proofs.Common.{◌≡◌, ◌≢◌, ℕ, eqb, eq-eqb, ne_eqb, List, [], ◌∷◌, ◌++◌, map, drop, take, length, refl, sym, ap, ◌∙◌, ⊎_elim, arith}
use Rattle.std.specs.List.{filter}
use Rattle.std.proofs.lemmas.Bool.{cond-true, cond-false, cases_eq}
use Rattle.std.proofs.lemmas.List.{map-append}
use Rattle.hp_weave.specs.Laws.{IsWoven}
use Rattle.hp_weave.specs.Weaving.{without_first, woven}

head_of : {B : Type 0} → B → List B → B
head_of other [] = other
head_of other (one ∷ rest) = one

module _ {A B : Type 0} where
  map_first : (told : A → B) (items : List A) → map told (take 1 items) ≡ take 1 (map told items)
  map_first told [] = refl
  map_first told (item ∷ items) = refl

  map_rest : (told : A → B) (items : List A) → map told (drop 1 items) ≡ drop 1 (map told items)
  map_rest told [] = refl
  map_rest told (item ∷ items) = refl

  -- what is told of each item, where the first one of a participant is taken
  told_without : (told : A → B) (who : ℕ) (items : ℕ → List A) (other : ℕ)
      → map told (without_first who items other) ≡ without_first who (λ w. map told (items w)) other
  told_without told who items other = ⊎_elim
      (λ same.
      ap (map told) (cond-true (eqb other who) (drop 1 (items other)) (items other) (eq-eqb other who same)) ∙ map_rest told (items other)
      ∙ sym (cond-true (eqb other who) (drop 1 (map told (items other))) (map told (items other)) (eq-eqb other who same)))
      (λ apart.
      ap (map told) (cond-false (eqb other who) (drop 1 (items other)) (items other) (ne_eqb other who apart))
      ∙ sym (cond-false (eqb other who) (drop 1 (map told (items other))) (map told (items other)) (ne_eqb other who apart)))
      (cases_eq other who)

  pub woven_told : (told : A → B) (whos : List ℕ) (items : ℕ → List A)
      → map told (woven whos items) ≡ woven whos (λ who. map told (items who))
  woven_told told [] items = refl
  woven_told told (who ∷ whos) items =
      map-append told (take 1 (items who)) (woven whos (without_first who items))
      ∙ (λ i. map_first told (items who) i ++ woven_told told whos (without_first who items) i)
      ∙ ap (λ (left : ℕ → List B). take 1 (map told (items who)) ++ woven whos left) (λ i other. told_without told who items other i)

  -- the first item of a participant whose next line is this one
  record Splits (line : A → B) (one : B) (rest : List B) (items : List A) : Type 0 where
    first : A
    others : List A
    are : items ≡ first ∷ others
    line_is : line first ≡ one
    rest_are : map line others ≡ rest

  splits : (line : A → B) (one : B) (rest : List B) (items : List A) → map line items ≡ one ∷ rest → Splits line one rest items
  unfolding head_of
  splits line one rest [] is = absurd (let long = ap length is in omega (arith, long))
  splits line one rest (item ∷ items) is = record {
    first = item;
    others = items;
    are = refl;
    line_is = ap (head_of one) is;
    rest_are = ap (drop 1) is;
  }

  none_left : (line : A → B) (items : List A) → map line items ≡ [] → [] ≡ items
  none_left line [] is = refl
  none_left line (item ∷ items) is = absurd (let long = ap length is in omega (arith, long))

  module _ (line : A → B) (participant : B → ℕ) where
    abbrev lines_of : ℕ → List B → List B
    lines_of who lines = filter (λ one. eqb (participant one) who) lines

    abbrev items_of : ℕ → List A → List A
    items_of who all = filter (λ item. eqb (participant (line item)) who) all

    lines_of-first : (one : B) (lines : List B) → lines_of (participant one) (one ∷ lines) ≡ one ∷ lines_of (participant one) lines
    lines_of-first one lines =
        cond-true (eqb (participant one) (participant one)) (one ∷ lines_of (participant one) lines) (lines_of (participant one) lines)
        (eq-eqb (participant one) (participant one) refl)

    lines_of-other : (one : B) (lines : List B) (other : ℕ) → other ≢ participant one → lines_of other (one ∷ lines) ≡ lines_of other lines
    lines_of-other one lines other apart =
        cond-false (eqb (participant one) other) (one ∷ lines_of other lines) (lines_of other lines)
        (ne_eqb (participant one) other (λ same. apart (sym same)))

    pub weaves : (lines : List B) (items : ℕ → List A) → ((who : ℕ) → map line (items who) ≡ lines_of who lines)
        → IsWoven line participant lines items (woven (map participant lines) items)
    weaves [] items told = record { in_order = refl; own = λ who. none_left line (items who) (told who) }
    weaves (one ∷ lines) items told =
        let who : ℕ = participant one in
        let split : Splits line one (lines_of who lines) (items who) =
        splits line one (lines_of who lines) (items who) (told who ∙ lines_of-first one lines) in
        let next : ℕ → List A = without_first who items in
        let here : (other : ℕ) → other ≡ who → next other ≡ split.others = λ other same.
        cond-true (eqb other who) (drop 1 (items other)) (items other) (eq-eqb other who same)
        ∙ ap (λ (w : ℕ). drop 1 (items w)) same ∙ ap (drop 1) split.are in
        let else : (other : ℕ) → other ≢ who → next other ≡ items other = λ other apart.
        cond-false (eqb other who) (drop 1 (items other)) (items other) (ne_eqb other who apart) in
        let left : (other : ℕ) → map line (next other) ≡ lines_of other lines = λ other. ⊎_elim
        (λ same. ap (map line) (here other same) ∙ split.rest_are ∙ ap (λ (w : ℕ). lines_of w lines) (sym same))
        (λ apart. ap (map line) (else other apart) ∙ told other ∙ lines_of-other one lines other apart)
        (cases_eq other who) in
        let more = weaves lines next left in
        let rest : List A = woven (map participant lines) next in
        let first : take 1 (items who) ++ rest ≡ split.first ∷ rest = ap (λ (l : List A). take 1 l ++ rest) split.are in
        let its : participant (line split.first) ≡ who = ap participant split.line_is in
        record {
          in_order = ap (map line) first ∙ (λ i. split.line_is i ∷ more.in_order i);
          own = λ other. ap (items_of other) first ∙ ⊎_elim
              (λ same.
              cond-true (eqb (participant (line split.first)) other) (split.first ∷ items_of other rest) (items_of other rest)
              (eq-eqb (participant (line split.first)) other (its ∙ sym same))
              ∙ ap (λ (l : List A). split.first ∷ l) (more.own other ∙ here other same)
              ∙ sym split.are ∙ ap items (sym same))
              (λ apart.
              cond-false (eqb (participant (line split.first)) other) (split.first ∷ items_of other rest) (items_of other rest)
              (ne_eqb (participant (line split.first)) other (λ is. apart (sym is ∙ its)))
              ∙ more.own other ∙ else other apart)
              (cases_eq other who);
        }
