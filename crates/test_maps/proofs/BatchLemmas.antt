-- A mapper that holds no row may be asked to map one, and rows that rise after it.
use Rattle.std.proofs.Common.{◌≡◌, ◌≤◌, ◌<◌, ℕ, ◌+◌, ◌==◌, ◌||◌, ◌^◌, Bool, true, false, cond, nat_lt, List, [], ◌∷◌, length, refl, ap, ◌∙◌, sym, subst, arith, inl, inr, count_by}
use Rattle.std.specs.List.{All}
use Rattle.std.proofs.lemmas.Bool.{and_parts, cases_Bool, eqb-true, ltb-true}
use Rattle.std.proofs.lemmas.List.Elements.{All-cons, All-nil}
use Rattle.hp_base.specs.Mapping.{AreApart, CanMap, CanMapAll, Held, IsWithin, at_own_place, has_addr, held_after, own_place}
use Rattle.hp_base.specs.declared.map_answer.MapAnswer.{MapAnswer}
use Rattle.hp_base.specs.declared.map_answer.MapAnswer.TheVariants.{At, Refused}
use Rattle.hp_base.specs.declared.row.Row.{Row}
use Rattle.hp_log.proofs.Counts.{count_cons}
use Rattle.hp_maps.specs.Unmapping.{is_own}
use Rattle.test_maps.specs.Batch.{are_rising, goes_up}

abbrev IsPlaced : Held → Type 0
IsPlaced one = one.got ≡ own_place one.row

near : (low : ℕ) (row : Row) → goes_up low row ≡ true → IsWithin row
near low row up =
    let parts = and_parts (nat_lt low row.addr) _ up in
    let small = and_parts (nat_lt row.addr (2 ^ 40)) (nat_lt row.page (2 ^ 40)) parts.1 in
    omega (arith, ltb-true row.addr (2 ^ 40) small.0, ltb-true row.page (2 ^ 40) small.1)

above : (low : ℕ) (row : Row) → goes_up low row ≡ true → low < row.addr
above low row up = ltb-true low row.addr (and_parts (nat_lt low row.addr) _ up).0

all_near : (low : ℕ) (rows : List Row) → are_rising low rows ≡ true → All IsWithin rows
all_near low [] rising = All-nil IsWithin
all_near low (row ∷ rows) rising =
    let parts = and_parts (goes_up low row) (are_rising row.addr rows) rising in
    All-cons IsWithin row rows (near low row parts.0) (all_near row.addr rows parts.1)

-- rows that rise from an address on have none that is no higher
none_below : (low : ℕ) (rows : List Row) (addr : ℕ) → are_rising low rows ≡ true → addr ≤ low → count_by (has_addr addr) rows ≡ 0
none_below low [] addr rising below = refl
none_below low (row ∷ rows) addr rising below =
    let parts = and_parts (goes_up low row) (are_rising row.addr rows) rising in
    let up = above low row parts.0 in
    let rest = none_below row.addr rows addr parts.1 (omega (arith, below, up)) in
    let one = count_cons (has_addr addr) row rows in
    elim (cases_Bool (row.addr == addr)) [
      | inl same ↦ absurd (omega (arith, eqb-true row.addr addr same, below, up))
      | inr differs ↦ omega (arith, rest, one, ap {B = ℕ} (λ b. cond b 1 0) differs)
    ]

at_most_one : (b : Bool) → cond {A = ℕ} b 1 0 ≤ 1
at_most_one true = omega arith
at_most_one false = omega arith

-- rows that rise after a row have each an address of their own
rising_apart : (row : Row) (rows : List Row) → are_rising row.addr rows ≡ true → AreApart (row ∷ rows)
rising_apart row [] rising addr = omega (arith, count_cons (has_addr addr) row [], at_most_one (row.addr == addr))
rising_apart row (next ∷ rows) rising addr =
    let parts = and_parts (goes_up row.addr next) (are_rising next.addr rows) rising in
    let later = rising_apart next rows parts.1 addr in
    let one = count_cons (has_addr addr) row (next ∷ rows) in
    elim (cases_Bool (row.addr == addr)) [
      | inl same ↦
          let none = none_below row.addr (next ∷ rows) addr rising (omega (arith, eqb-true row.addr addr same)) in
          omega (arith, none, one, ap {B = ℕ} (λ b. cond b 1 0) same)
      | inr differs ↦ omega (arith, one, later, ap {B = ℕ} (λ b. cond b 1 0) differs)
    ]

-- the first row may be mapped
pub can_be_first : (row : Row) (held : List Held) (answers : List MapAnswer) (capacity : ℕ) → held ≡ [] → answers ≡ [] → capacity ≡ 8
    → goes_up 0 row ≡ true → CanMap row held capacity (length answers)
can_be_first row held answers capacity none uncalled room up =
    subst (λ (h : List Held). CanMap row h capacity (length answers)) (sym none) (record {
      apart = refl;
      placed = All-nil IsPlaced;
      room = omega (arith, room);
      countable = omega (arith, ap length uncalled);
      within = near 0 row up;
    })

-- an answer that is the row's own place
own_answer : (row : Row) (got : MapAnswer) → is_own row got ≡ true → got ≡ own_place row
own_answer row (At addr page socket) own =
    let parts = and_parts (addr == row.addr) _ own in
    let parts2 = and_parts (page == row.page) (socket == row.socket) parts.1 in
    let a : addr ≡ row.addr = eqb-true _ _ parts.0 in
    let p : page ≡ row.page = eqb-true _ _ parts2.0 in
    let s : socket ≡ row.socket = eqb-true _ _ parts2.1 in
    cc
own_answer row Refused own = cc

-- and is what is held, where it came out at its own place
pub one_held : (row : Row) (got : MapAnswer) (held now : List Held) → held ≡ [] → is_own row got ≡ true → now ≡ held_after row got held
    → now ≡ at_own_place row ∷ []
one_held row got held now none own is_now =
    is_now ∙ (ap (held_after row got) none ∙ ap (λ (g : MapAnswer). held_after row g []) (own_answer row got own))

-- rows that rise after it may be mapped
pub can_come_after : (row : Row) (rows : List Row) (held : List Held) (capacity calls : ℕ) → held ≡ at_own_place row ∷ [] → capacity ≡ 8 → calls ≡ 1
    → length rows ≤ 7 → are_rising row.addr rows ≡ true → CanMapAll rows held capacity calls
can_come_after row rows held capacity calls is_held room one few rising =
    subst (λ (h : List Held). CanMapAll rows h capacity calls) (sym is_held) (record {
      apart = rising_apart row rows rising;
      placed = All-cons IsPlaced (at_own_place row) [] refl (All-nil IsPlaced);
      room = omega (arith, room, few);
      countable = omega (arith, one, few);
      within = all_near row.addr rows rising;
    })

-- and so may one of them
pub can_be_second : (row next : Row) (held : List Held) (capacity calls : ℕ) → held ≡ at_own_place row ∷ [] → capacity ≡ 8 → calls ≡ 1
    → goes_up row.addr next ≡ true → CanMap next held capacity calls
can_be_second row next held capacity calls is_held room one up =
    subst (λ (h : List Held). CanMap next h capacity calls) (sym is_held) (record {
      apart = elim (cases_Bool (row.addr == next.addr)) [
        | inl same ↦ absurd (omega (arith, eqb-true row.addr next.addr same, above row.addr next up))
        | inr differs ↦ ap (λ b. b || false) differs
      ];
      placed = All-cons IsPlaced (at_own_place row) [] refl (All-nil IsPlaced);
      room = omega (arith, room);
      countable = omega (arith, one);
      within = near row.addr next up;
    })
