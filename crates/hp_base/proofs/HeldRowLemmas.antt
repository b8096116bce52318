-- Rows, of which none is there twice.
use Rattle.std.proofs.Common.{◌≡◌, ◌≤◌, ◌<◌, ℕ, zero, suc, ◌+◌, Bool, true, false, not, ◌==◌, cond, List, [], ◌∷◌, ◌++◌, filter, length, take, drop, append_assoc, refl, ap, ◌∙◌, sym, subst, arith, inl, inr, count_by}
use Rattle.std.specs.List.{list_any}
use Rattle.std.proofs.lemmas.Bool.{cases_Bool, and_from, and_parts, eq-eqb, eqb-true, or_parts}
use Rattle.std.proofs.lemmas.List.{take-append-drop}
use Rattle.std.proofs.lemmas.List.Sums.{count_by-le-length, length-filter, sum_by-append, sum_by-cons}
use Rattle.hp_base.specs.HeldRows.{AreOnce}
use Rattle.hp_base.specs.Mapping.{AreApart, Held, has_addr, is_row, owned}
use Rattle.hp_base.specs.MemMapping.{without_all}
use Rattle.hp_base.specs.declared.row.Row.{Row}

abbrev one_if : Bool → ℕ
one_if b = cond b 1 0

count_cons : (p : Row → Bool) (row : Row) (rows : List Row) → count_by p (row ∷ rows) ≡ one_if (p row) + count_by p rows
count_cons p row rows = sum_by-cons (λ x. one_if (p x)) row rows

count_append : (p : Row → Bool) (xs ys : List Row) → count_by p (xs ++ ys) ≡ count_by p xs + count_by p ys
count_append p xs ys = sum_by-append (λ x. one_if (p x)) xs ys

-- rows among which a row is not stay as they are without it
none_counted : (row : Row) (rows : List Row) → count_by (is_row row) rows ≡ 0 → filter (λ other. not (is_row row other)) rows ≡ rows
none_counted row [] none = refl
none_counted row (other ∷ rows) none =
    elim (cases_Bool (is_row row other)) [
      | inl is ↦ absurd (omega (arith, none, count_cons (is_row row) other rows, ap one_if is))
      | inr differs ↦
          let rest : count_by (is_row row) rows ≡ 0 = omega (arith, none, count_cons (is_row row) other rows) in
          ap (λ b. cond (not b) (other ∷ filter (λ other. not (is_row row other)) rows) (filter (λ other. not (is_row row other)) rows)) differs
          ∙ ap (λ kept. other ∷ kept) (none_counted row rows rest)
    ]

-- a row of which there are not two goes, and the others stay
pub taken_out : (row other : Row) (front back : List Row) → is_row row other ≡ true → count_by (is_row row) (front ++ other ∷ back) ≤ 1
    → filter (λ x. not (is_row row x)) (front ++ other ∷ back) ≡ front ++ back
taken_out row other [] back is once =
    ap (λ b. cond (not b) (other ∷ filter (λ x. not (is_row row x)) back) (filter (λ x. not (is_row row x)) back)) is
    ∙ none_counted row back (omega (arith, once, count_cons (is_row row) other back, ap one_if is))
taken_out row other (x ∷ front) back is once =
    let all = count_cons (is_row row) x (front ++ other ∷ back) in
    let here = count_append (is_row row) front (other ∷ back) in
    let its_own = count_cons (is_row row) other back in
    elim (cases_Bool (is_row row x)) [
      | inl also ↦ absurd (omega (arith, once, all, here, its_own, ap one_if is, ap one_if also))
      | inr differs ↦
          ap (λ b. cond (not b) (x ∷ filter (λ y. not (is_row row y)) (front ++ other ∷ back)) (filter (λ y. not (is_row row y)) (front ++ other ∷ back)))
          differs
          ∙ ap (λ rows. x ∷ rows) (taken_out row other front back is (omega (arith, once, all)))
    ]

-- a row that is not there takes nothing out
pub not_there : (row : Row) (rows : List Row) → list_any (is_row row) rows ≡ false → rows ≡ filter (λ x. not (is_row row x)) rows
not_there row [] none = refl
not_there row (x ∷ rows) none =
    let parts = or_parts (is_row row x) _ none in
    sym (ap (λ b. cond (not b) (x ∷ filter (λ y. not (is_row row y)) rows) (filter (λ y. not (is_row row y)) rows)) parts.0
    ∙ ap (λ kept. x ∷ kept) (sym (not_there row rows parts.1)))

-- two rows that are the same in all fields are one
pub same_row : (row other : Row) → is_row row other ≡ true → row ≡ other
same_row row other is =
    let addr = and_parts (other.addr == row.addr) _ is in
    let page = and_parts (other.page == row.page) _ addr.1 in
    let socket = and_parts (other.socket == row.socket) _ page.1 in
    let list = and_parts (other.list == row.list) _ socket.1 in
    let slot = and_parts (other.slot == row.slot) (other.generation == row.generation) list.1 in
    sym (ap (λ n. record { addr = n; page = other.page; socket = other.socket; list = other.list; slot = other.slot; generation = other.generation })
    (eqb-true _ _ addr.0)
    ∙ (ap (λ n. record { addr = row.addr; page = n; socket = other.socket; list = other.list; slot = other.slot; generation = other.generation })
    (eqb-true _ _ page.0)
    ∙ (ap (λ n. record { addr = row.addr; page = row.page; socket = n; list = other.list; slot = other.slot; generation = other.generation })
    (eqb-true _ _ socket.0)
    ∙ (ap (λ n. record { addr = row.addr; page = row.page; socket = row.socket; list = n; slot = other.slot; generation = other.generation })
    (eqb-true _ _ list.0)
    ∙ (ap (λ n. record { addr = row.addr; page = row.page; socket = row.socket; list = row.list; slot = n; generation = other.generation })
    (eqb-true _ _ slot.0)
    ∙ ap (λ n. record { addr = row.addr; page = row.page; socket = row.socket; list = row.list; slot = row.slot; generation = n })
    (eqb-true _ _ slot.1))))))

-- without a row none is there twice
pub once_without : (row : Row) (rows now : List Row) → AreOnce rows → now ≡ filter (λ other. not (is_row row other)) rows → AreOnce now
once_without row rows now once is_now other =
    let before = once other in
    omega (arith, before, fewer rows, ap (count_by (is_row other)) is_now)
  where
    fewer : (xs : List Row) → count_by (is_row other) (filter (λ x. not (is_row row x)) xs) ≤ count_by (is_row other) xs
    fewer [] = omega arith
    fewer (x ∷ xs) =
        elim (cases_Bool (is_row row x)) [
          | inl is ↦
              let out : filter (λ x. not (is_row row x)) (x ∷ xs) ≡ filter (λ x. not (is_row row x)) xs =
              ap (λ b. cond (not b) (x ∷ filter (λ x. not (is_row row x)) xs) (filter (λ x. not (is_row row x)) xs)) is in
              omega (arith, ap (count_by (is_row other)) out, fewer xs, count_cons (is_row other) x xs)
          | inr differs ↦
              let kept : filter (λ x. not (is_row row x)) (x ∷ xs) ≡ x ∷ filter (λ x. not (is_row row x)) xs =
              ap (λ b. cond (not b) (x ∷ filter (λ x. not (is_row row x)) xs) (filter (λ x. not (is_row row x)) xs)) differs in
              omega (
                arith,
                ap (count_by (is_row other)) kept,
                fewer xs,
                count_cons (is_row other) x xs,
                count_cons (is_row other) x (filter (λ x. not (is_row row x)) xs),
              )
        ]

-- a row whose address none has is not there
unheld : (row other : Row) (rows : List Row) → is_row other row ≡ true → list_any (λ (one : Held). has_addr row.addr one.row) (owned rows) ≡ false
    → count_by (is_row other) rows ≡ 0
unheld row other [] is none = refl
unheld row other (one ∷ rows) is none =
    let parts = or_parts (has_addr row.addr one) _ none in
    let rest = unheld row other rows is parts.1 in
    elim (cases_Bool (is_row other one)) [
      | inr differs ↦ omega (arith, rest, count_cons (is_row other) one rows, ap one_if differs)
      | inl also ↦ absurd (both parts.0 also)
    ]
  where
    both : has_addr row.addr one ≡ false → is_row other one ≡ true → ⊥
    both away also =
        let first = and_parts (row.addr == other.addr) _ is in
        let second = and_parts (one.addr == other.addr) _ also in
        let same : one.addr ≡ row.addr = eqb-true _ _ second.0 ∙ sym (eqb-true _ _ first.0) in
        let wrong : true ≡ false = sym (eq-eqb one.addr row.addr same) ∙ away in
        cc

-- with one more none is there twice
pub once_more : (row : Row) (rows now : List Row) → AreOnce rows → list_any (λ (one : Held). has_addr row.addr one.row) (owned rows) ≡ false
    → now ≡ rows ++ row ∷ [] → AreOnce now
once_more row rows now once none is_now other =
    let before = once other in
    let both = count_append (is_row other) rows (row ∷ []) in
    let last = count_cons (is_row other) row [] in
    elim (cases_Bool (is_row other row)) [
      | inl is ↦ omega (arith, ap (count_by (is_row other)) is_now, both, last, unheld row other rows is none, ap one_if is)
      | inr differs ↦ omega (arith, ap (count_by (is_row other)) is_now, both, last, before, ap one_if differs)
    ]

-- rows of which no two have one address are there once
pub once_apart : (rows : List Row) → AreApart rows → AreOnce rows
once_apart rows apart row = omega (arith, apart row.addr, fewer rows)
  where
    fewer : (xs : List Row) → count_by (is_row row) xs ≤ count_by (has_addr row.addr) xs
    fewer [] = omega arith
    fewer (x ∷ xs) =
        let rest = fewer xs in
        let one = count_cons (is_row row) x xs in
        let other = count_cons (has_addr row.addr) x xs in
        elim (cases_Bool (is_row row x)) [
          | inl is ↦ omega (arith, rest, one, other, ap one_if is, ap one_if (and_parts (x.addr == row.addr) _ is).0)
          | inr differs ↦ omega (arith, rest, one, other, ap one_if differs)
        ]

-- and so are some of them with the first ones of the others
pub apart_first : (held rows : List Row) (n : ℕ) → AreApart (held ++ rows) → AreApart (held ++ take n rows)
apart_first held rows n apart addr =
    let parts : held ++ rows ≡ (held ++ take n rows) ++ drop n rows =
    ap (λ (l : List Row). held ++ l) (sym (take-append-drop n rows)) ∙ sym (append_assoc held (take n rows) (drop n rows)) in
    omega (arith, apart addr, ap (count_by (has_addr addr)) parts, count_append (has_addr addr) (held ++ take n rows) (drop n rows))

-- without some rows none is there twice
pub once_without_all : (gone rows : List Row) → AreOnce rows → AreOnce (without_all gone rows)
once_without_all [] rows once = once
once_without_all (row ∷ gone) rows once =
    once_without_all gone (filter (λ other. not (is_row row other)) rows) (once_without row rows _ once refl)

pub fewer_without : (gone rows : List Row) → length (without_all gone rows) ≤ length rows
fewer_without [] rows = omega arith
fewer_without (row ∷ gone) rows =
    let p = λ (other : Row). not (is_row row other) in
    omega (arith, fewer_without gone (filter p rows), length-filter p rows, count_by-le-length p rows)

is_itself : (row : Row) → is_row row row ≡ true
is_itself row =
    and_from _ _ (eq-eqb row.addr row.addr refl) (and_from _ _ (eq-eqb row.page row.page refl) (and_from _ _ (eq-eqb row.socket row.socket refl)
    (and_from _ _ (eq-eqb row.list row.list refl)
    (and_from _ _ (eq-eqb row.slot row.slot refl) (eq-eqb row.generation row.generation refl)))))

-- rows that stand together go, and the others stay
pub taken_together : (front gone back : List Row) → AreOnce (front ++ (gone ++ back)) → without_all gone (front ++ (gone ++ back)) ≡ front ++ back
taken_together front [] back once = refl
taken_together front (row ∷ gone) back once =
    let out = taken_out row row front (gone ++ back) (is_itself row) (once row) in
    ap (without_all gone) out ∙ taken_together front gone back (once_without row _ _ once (sym out))
