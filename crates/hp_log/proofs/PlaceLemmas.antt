-- Rows and runs at their places: which slots lie side by side, and that no two have one address.
use Rattle.std.proofs.Common.{◌≡◌, ◌∙◌, ℕ, zero, suc, ◌+◌, ◌*◌, ◌<◌, ◌≤◌, List, [], ◌∷◌, Some, inl, inr, ap, sym, subst, arith}
use Rattle.std.specs.List.{All, slice_get}
use Rattle.std.proofs.Math.Nat.{add-mul, eq_of_mul-eq-mul_right, mul-le-mul_right, suc-mul}
use Rattle.std.proofs.lemmas.Bool.{cases_eq}
use Rattle.std.proofs.lemmas.List.Elements.{All-head, All-tail}
use Rattle.hp_base.specs.declared.row.Row.{Row}
use Rattle.hp_base.specs.declared.row.Run.{Run}
use Rattle.hp_log.specs.Log.{run_in, table_at}
use Rattle.hp_log.specs.Places.{ArePlacesApart, IsRowOf, IsRunOf, IsSmallPlace, ListPlace, place_end}
use Rattle.hp_log.specs.Rows.{row_of}
use Rattle.hp_log.specs.declared.log_record.LogRecord.{LogRecord}
use Rattle.hp_log.proofs.TableLemmas.{all_table_at}

-- the rows of a run are at their slots' places
pub row_of_place : (lists : List ListPlace) (run : Run) (generation k : ℕ) → IsRunOf lists run → k < run.count
    → IsRowOf lists (row_of run generation k)
row_of_place lists run generation k at below = record {
  place = at.place;
  its_list = at.its_list;
  within = omega (arith, at.within);
  addr = ap (λ p. run.addr + k * p) at.size ∙ omega (arith, at.addr, add-mul run.first k at.place.page);
  size = at.size;
}

-- and so are all rows of a table, where the runs of its log are of the lists
pub placed_at : (lists : List ListPlace) (records : List LogRecord) (n : ℕ) → All (λ entry. IsRunOf lists (run_in entry)) records
    → All (IsRowOf lists) (table_at records n)
placed_at lists records n runs =
    all_table_at (IsRowOf lists) (IsRunOf lists) (λ run generation k at below. row_of_place lists run generation k at below) records n runs

-- what holds of all lists holds of one of them
pub at_list : (P : ListPlace → Type 0) (lists : List ListPlace) (list : ℕ) (place : ListPlace) → All P lists → slice_get lists list ≡ Some place
    → P place
at_list P [] list place all here = cc
at_list P (first ∷ lists) zero place all here =
    let same : first ≡ place = cc in
    subst P same (All-head P first lists all)
at_list P (first ∷ lists) (suc list) place all here = at_list P lists list place (All-tail P first lists all) here

-- rows of one list have one place
same_place : (lists : List ListPlace) (row other : Row) → (at : IsRowOf lists row) → (there : IsRowOf lists other) → other.list ≡ row.list
    → there.place ≡ at.place
same_place lists row other at there same =
    let both : Some there.place ≡ Some at.place = sym there.its_list ∙ (ap (slice_get lists) same ∙ at.its_list) in
    cc

-- in a list the next address is that of the next slot, and the other way round
pub next_slot : (lists : List ListPlace) (row next : Row) → All IsSmallPlace lists → IsRowOf lists row → IsRowOf lists next
    → next.list ≡ row.list → next.addr ≡ row.addr + row.page → next.slot ≡ row.slot + 1
next_slot lists row next small at there list behind =
    let page = at.place.page in
    let place = same_place lists row next at there list in
    let some : 0 < page = (at_list IsSmallPlace lists row.list at.place small at.its_list).paged in
    let addr : next.addr ≡ at.place.base + next.slot * page = subst (λ (p : ListPlace). next.addr ≡ p.base + next.slot * p.page) place there.addr in
    eq_of_mul-eq-mul_right page some next.slot (row.slot + 1)
    (omega (arith, addr, behind, at.addr, at.size, add-mul row.slot 1 page))

pub next_addr : (lists : List ListPlace) (row next : Row) → IsRowOf lists row → IsRowOf lists next
    → next.list ≡ row.list → next.slot ≡ row.slot + 1 → next.addr ≡ row.addr + row.page
next_addr lists row next at there list slot =
    let page = at.place.page in
    let place = same_place lists row next at there list in
    let addr : next.addr ≡ at.place.base + next.slot * page = subst (λ (p : ListPlace). next.addr ≡ p.base + next.slot * p.page) place there.addr in
    let product : next.slot * page ≡ (row.slot + 1) * page = ap (λ s. s * page) slot in
    omega (arith, addr, product, at.addr, at.size, add-mul row.slot 1 page)

-- a row lies within its list
pub within_place : (lists : List ListPlace) (row : Row) → All IsSmallPlace lists → (at : IsRowOf lists row)
    → (at.place.base ≤ row.addr) × (row.addr < place_end at.place)
within_place lists row small at =
    let page = at.place.page in
    let some : 0 < page = (at_list IsSmallPlace lists row.list at.place small at.its_list).paged in
    let most : suc row.slot * page ≤ at.place.slots * page = mul-le-mul_right page at.within in
    (omega (arith, at.addr), omega (arith, at.addr, most, suc-mul row.slot page, some))

-- rows of one address are at one slot
pub one_place : (lists : List ListPlace) (row other : Row) → All IsSmallPlace lists → ArePlacesApart lists → IsRowOf lists row → IsRowOf lists other
    → other.addr ≡ row.addr → (other.list ≡ row.list) × (other.slot ≡ row.slot)
one_place lists row other small apart at there same =
    elim (cases_eq other.list row.list) [
      | inl list ↦
          let page = at.place.page in
          let place = same_place lists row other at there list in
          let some : 0 < page = (at_list IsSmallPlace lists row.list at.place small at.its_list).paged in
          let addr : other.addr ≡ at.place.base + other.slot * page =
          subst (λ (p : ListPlace). other.addr ≡ p.base + other.slot * p.page) place there.addr in
          (list, eq_of_mul-eq-mul_right page some other.slot row.slot (omega (arith, addr, same, at.addr)))
      | inr different ↦
          let here = within_place lists row small at in
          let away = within_place lists other small there in
          absurd (elim (apart other.list row.list there.place at.place different there.its_list at.its_list) [
            | inl before ↦ omega (arith, before, here.0, away.1, same)
            | inr behind ↦ omega (arith, behind, away.0, here.1, same)
          ])
    ]
