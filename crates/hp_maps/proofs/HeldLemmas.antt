-- What is held of rows at their own places, and what is left of it once rows are unmapped.
use Rattle.std.proofs.Common.{◌≡◌, ◌≤◌, ℕ, ◌==◌, Bool, true, false, not, ◌&&◌, ◌||◌, cond, List, [], ◌∷◌, ◌++◌, filter, length, drop, refl, ap, ◌∙◌, sym, arith, inl, inr, count_by}
use Rattle.std.specs.List.{All, list_any}
use Rattle.std.proofs.lemmas.Bool.{cases_Bool, eqb-true, eq-eqb, and_parts, and_from, and_left, or_parts, or_right}
use Rattle.std.proofs.lemmas.List.Elements.{All-nil, All-cons, All-weaker}
use Rattle.std.proofs.lemmas.List.Elements.{filter-append}
use Rattle.std.proofs.lemmas.List.{drop_all}
use Rattle.std.proofs.lemmas.Map.Views.{any-filter_same}
use Rattle.hp_base.specs.Mapping.{AreApart, ArePlaced, Held, at_own_place, has_addr, held_after, is_row, own_place, owned, without_row, without_rows}
use Rattle.hp_base.specs.declared.map_answer.MapAnswer.{MapAnswer}
use Rattle.hp_base.specs.declared.map_answer.MapAnswer.TheVariants.{At, Refused}
use Rattle.hp_base.specs.declared.row.Row.{Row}
use Rattle.hp_log.proofs.Counts.{count_append, count_cons}
use Rattle.hp_maps.specs.Unmapping.{AreHeld, held_own, is_own}
use Rattle.hp_maps.proofs.ListFacts.{filter_keeps, filter_drops, filter_agree, filter_twice, uncounted}

-- the row is among these
abbrev pub has_row : List Row → Row → Bool
has_row rows row = list_any (λ other. is_row other row) rows

row_made : (addr page socket list slot generation : ℕ) (row : Row) → row.addr ≡ addr → row.page ≡ page → row.socket ≡ socket
    → row.list ≡ list → row.slot ≡ slot → row.generation ≡ generation
    → row ≡ record { addr = addr; page = page; socket = socket; list = list; slot = slot; generation = generation }
row_made addr page socket list slot generation row a p s l t g =
    let d1 : row ≡ record row { addr = addr } = ap (λ (v : ℕ). record row { addr = v }) a in
    let d2 = ap (λ (v : ℕ). record row { addr = addr; page = v }) p in
    let d3 = ap (λ (v : ℕ). record row { addr = addr; page = page; socket = v }) s in
    let d4 = ap (λ (v : ℕ). record row { addr = addr; page = page; socket = socket; list = v }) l in
    let d5 = ap (λ (v : ℕ). record row { addr = addr; page = page; socket = socket; list = list; slot = v }) t in
    let d6 = ap (λ (v : ℕ). record row { addr = addr; page = page; socket = socket; list = list; slot = slot; generation = v }) g in
    d1 ∙ (d2 ∙ (d3 ∙ (d4 ∙ (d5 ∙ d6))))

-- a row is another where all its fields are
pub same_row : (row other : Row) → is_row row other ≡ true → other ≡ row
same_row row other same =
    let p1 = and_parts (other.addr == row.addr) _ same in
    let p2 = and_parts (other.page == row.page) _ p1.1 in
    let p3 = and_parts (other.socket == row.socket) _ p2.1 in
    let p4 = and_parts (other.list == row.list) _ p3.1 in
    let p5 = and_parts (other.slot == row.slot) (other.generation == row.generation) p4.1 in
    row_made row.addr row.page row.socket row.list row.slot row.generation other (eqb-true _ _ p1.0) (eqb-true _ _ p2.0) (eqb-true _ _ p3.0)
    (eqb-true _ _ p4.0) (eqb-true _ _ p5.0) (eqb-true _ _ p5.1)

pub row_itself : (row : Row) → is_row row row ≡ true
row_itself row =
    and_from _ _ (eq-eqb row.addr row.addr refl) (and_from _ _ (eq-eqb row.page row.page refl) (and_from _ _ (eq-eqb row.socket row.socket refl)
    (and_from _ _ (eq-eqb row.list row.list refl) (and_from _ _ (eq-eqb row.slot row.slot refl) (eq-eqb row.generation row.generation refl)))))

-- to take a row out of rows is to take it out of what is held of them
pub owned_without : (row : Row) (rows : List Row) → owned (filter (λ other. not (is_row row other)) rows) ≡ without_row row (owned rows)
owned_without row [] = refl
owned_without row (other ∷ rows) = elim (cases_Bool (is_row row other)) [
  | inl same ↦ grind (arith, same, owned_without row rows)
  | inr apart ↦ grind (arith, apart, owned_without row rows)
]

neither : (a b : Bool) → (not a && not b) ≡ not (a || b)
neither true b = refl
neither false b = refl

every : {X : Type 0} (P : X → Type 0) → ((x : X) → P x) → (xs : List X) → All P xs
every P each xs = λ k d within. each _

-- rows that are unmapped leave the others
pub owned_without_rows : (gone rows : List Row) → without_rows gone (owned rows) ≡ owned (filter (λ row. not (has_row gone row)) rows)
owned_without_rows [] rows = ap owned (sym (filter_keeps (λ row. true) rows (every (λ row. true ≡ true) (λ row. refl) rows)))
owned_without_rows (row ∷ gone) rows =
    ap (without_rows gone) (sym (owned_without row rows))
    ∙ (owned_without_rows gone (filter (λ other. not (is_row row other)) rows)
    ∙ ap owned (filter_twice (λ other. not (has_row gone other)) (λ other. not (is_row row other)) rows
    ∙ filter_agree _ (λ other. not (has_row (row ∷ gone) other)) rows
    (every _ (λ other. neither (is_row row other) (has_row gone other)) rows)))

-- each of the rows is among them
pub all_there : (rows : List Row) → All (λ row. has_row rows row ≡ true) rows
all_there [] = All-nil (λ row. has_row [] row ≡ true)
all_there (row ∷ rows) =
    All-cons (λ other. has_row (row ∷ rows) other ≡ true) row rows
    (ap (λ b. b || has_row rows row) (row_itself row))
    (All-weaker (λ other. has_row rows other ≡ true) (λ other. has_row (row ∷ rows) other ≡ true)
    (λ other there. or_right (is_row row other) (has_row rows other) there) rows (all_there rows))

pub has_passing : (p : Row → Bool) (rows : List Row) (row : Row) → has_row rows row ≡ true → has_row (filter p rows) row ≡ p row
has_passing p rows row there =
    any-filter_same (λ other. is_row other row) p (p row) (λ other same. ap p (sym (same_row other row same))) rows
    ∙ (ap (λ b. p row && b) there ∙ and_true (p row))
  where
    and_true : (b : Bool) → (b && true) ≡ b
    and_true true = refl
    and_true false = refl

-- the rows that pass a test are unmapped, and the others stay
pub without_passing : (p : Row → Bool) (rows : List Row) → without_rows (filter p rows) (owned rows) ≡ owned (filter (λ row. not (p row)) rows)
without_passing p rows =
    owned_without_rows (filter p rows) rows
    ∙ ap owned (filter_agree _ (λ row. not (p row)) rows
    (All-weaker (λ row. has_row rows row ≡ true) (λ row. not (has_row (filter p rows) row) ≡ not (p row))
    (λ row there. ap not (has_passing p rows row there)) rows (all_there rows)))

-- a row that is among others has an address of theirs
addr_there : (rows : List Row) (row : Row) → has_row rows row ≡ true → list_any (has_addr row.addr) rows ≡ true
addr_there [] row there = there
addr_there (other ∷ rows) row there =
    elim (cases_Bool (is_row other row)) [
      | inl same ↦
          let its : (other.addr == row.addr) ≡ true = eq-eqb other.addr row.addr (sym (ap (λ (r : Row). r.addr) (same_row other row same))) in
          ap (λ b. b || list_any (has_addr row.addr) rows) its
      | inr apart ↦
          let rest : has_row rows row ≡ true = sym (ap (λ b. b || has_row rows row) apart) ∙ there in
          or_right (has_addr row.addr other) _ (addr_there rows row rest)
    ]

abbrev one_if : Bool → ℕ
one_if b = cond b 1 0

-- rows of their own addresses: those in front are none of those after
none_behind : (xs ys : List Row) → AreApart (xs ++ ys) → All (λ row. has_row ys row ≡ false) xs
none_behind [] ys apart = All-nil (λ row. has_row ys row ≡ false)
none_behind (x ∷ xs) ys apart =
    All-cons (λ row. has_row ys row ≡ false) x xs
    (elim (cases_Bool (has_row ys x)) [
      | inl there ↦ absurd (
          let itself : one_if (x.addr == x.addr) ≡ 1 = ap one_if (eq-eqb x.addr x.addr refl) in
          let none : count_by (has_addr x.addr) ys ≡ 0 =
          omega (arith, apart x.addr, count_cons (has_addr x.addr) x (xs ++ ys), count_append (has_addr x.addr) xs ys, itself) in
          let never = uncounted (has_addr x.addr) ys none in
          let some = addr_there ys x there in
          let wrong : true ≡ false = sym some ∙ never in
          true_is_not_false wrong)
      | inr apart ↦ apart
    ])
    (none_behind xs ys (λ addr. omega (arith, apart addr, count_cons (has_addr addr) x (xs ++ ys))))
  where
    true_is_not_false : true ≡ false → ⊥
    true_is_not_false wrong = cc

-- rows that are unmapped after others leave those
pub without_behind : (xs ys : List Row) → AreApart (xs ++ ys) → without_rows ys (owned (xs ++ ys)) ≡ owned xs
without_behind xs ys apart =
    owned_without_rows ys (xs ++ ys)
    ∙ ap owned (filter-append (λ row. not (has_row ys row)) xs ys
    ∙ (ap (λ l. l ++ filter (λ row. not (has_row ys row)) ys)
    (filter_keeps (λ row. not (has_row ys row)) xs
    (All-weaker (λ row. has_row ys row ≡ false) (λ row. not (has_row ys row) ≡ true) (λ row none. ap not none) xs (none_behind xs ys apart)))
    ∙ (ap (λ l. xs ++ l) (filter_drops (λ row. not (has_row ys row)) ys
    (All-weaker (λ row. has_row ys row ≡ true) (λ row. not (has_row ys row) ≡ false) (λ row there. ap not there) ys (all_there ys)))
    ∙ append_nothing xs)))
  where
    append_nothing : (l : List Row) → l ++ [] ≡ l
    append_nothing [] = refl
    append_nothing (x ∷ l) = ap (λ rest. x ∷ rest) (append_nothing l)

-- all that is held is at its own place
pub all_placed : (rows : List Row) → ArePlaced (owned rows)
all_placed [] = All-nil (λ one. one.got ≡ own_place one.row)
all_placed (row ∷ rows) = All-cons (λ (one : Held). one.got ≡ own_place one.row) (at_own_place row) (owned rows) refl (all_placed rows)

-- each of the rows is held, where they are what is held
any_held : (row : Row) (rows : List Row) → list_any (λ (one : Held). is_row one.row row) (owned rows) ≡ has_row rows row
any_held row [] = refl
any_held row (other ∷ rows) = ap (λ b. is_row other row || b) (any_held row rows)

pub all_held : (rows : List Row) (held : List Held) → held ≡ owned rows → AreHeld held rows
all_held rows held is_held =
    All-weaker (λ row. has_row rows row ≡ true) (λ row. list_any (λ (one : Held). is_row one.row row) held ≡ true)
    (λ row there. ap (λ (h : List Held). list_any (λ (one : Held). is_row one.row row) h) is_held ∙ (any_held row rows ∙ there)) rows (all_there rows)

-- what is held of rows has an address where the rows have it
pub held_addr : (addr : ℕ) (rows : List Row) → list_any (λ (one : Held). has_addr addr one.row) (owned rows) ≡ list_any (has_addr addr) rows
held_addr addr [] = refl
held_addr addr (row ∷ rows) = ap (λ b. has_addr addr row || b) (held_addr addr rows)

-- a row that is unmapped where no other has its address leaves what was held
pub without_last : (row : Row) (last : Held) (held : List Held) → last.row ≡ row
    → list_any (λ (one : Held). has_addr row.addr one.row) held ≡ false → without_row row (held ++ last ∷ []) ≡ held
without_last row last [] its_row none =
    ap (λ b. cond (not b) (last ∷ []) []) (ap (λ r. is_row row r) its_row ∙ row_itself row)
without_last row last (one ∷ held) its_row none =
    let parts = or_parts (has_addr row.addr one.row) _ none in
    let here : has_addr row.addr one.row ≡ false = parts.0 in
    let rest = parts.1 in
    let other : is_row row one.row ≡ false = and_left (has_addr row.addr one.row) _ here in
    ap (λ b. cond (not b) (one ∷ without_row row (held ++ last ∷ [])) (without_row row (held ++ last ∷ []))) other
    ∙ ap (λ l. one ∷ l) (without_last row last held its_row rest)

pub without_unheld : (row : Row) (held : List Held) → list_any (λ (one : Held). has_addr row.addr one.row) held ≡ false
    → without_row row held ≡ held
without_unheld row [] none = refl
without_unheld row (one ∷ held) none =
    let parts = or_parts (has_addr row.addr one.row) _ none in
    let here : has_addr row.addr one.row ≡ false = parts.0 in
    let rest = parts.1 in
    let other : is_row row one.row ≡ false = and_left (has_addr row.addr one.row) _ here in
    ap (λ b. cond (not b) (one ∷ without_row row held) (without_row row held)) other
    ∙ ap (λ l. one ∷ l) (without_unheld row held rest)

-- a row that came out elsewhere, or nowhere, is out again once it is unmapped
pub own_undone : (row : Row) (got : MapAnswer) (held mapped undone : List Held)
    → list_any (λ (one : Held). has_addr row.addr one.row) held ≡ false → mapped ≡ held_after row got held → is_own row got ≡ false
    → undone ≡ without_row row mapped → undone ≡ held_own row got held
own_undone row (At addr page socket) held mapped undone apart is_mapped other is_undone =
    is_undone ∙ (ap (without_row row) is_mapped ∙ (without_last row _ held refl apart ∙ sym (ap (λ b. cond b (held ++ at_own_place row ∷ []) held) other)))
own_undone row Refused held mapped undone apart is_mapped other is_undone =
    is_undone ∙ (ap (without_row row) is_mapped ∙ without_unheld row held apart)

-- at the end of a walk over rows, in which those that pass are unmapped
pub unmapped_passing : (p : Row → Bool) (rows : List Row) (at : ℕ) (now first : List Held) → length rows ≤ at
    → without_rows (filter p rows) first ≡ owned (filter (λ row. not (p row)) rows)
    → without_rows (filter p (drop at rows)) now ≡ without_rows (filter p rows) first → now ≡ owned (filter (λ row. not (p row)) rows)
unmapped_passing p rows at now first past lacks same =
    let none : without_rows (filter p (drop at rows)) now ≡ now = ap (λ l. without_rows (filter p l) now) (drop_all at rows past) in
    sym none ∙ (same ∙ lacks)
