-- Rows and pages: a page that is a row's has its numbers, and the pages of a run are those at its slots.
use Rattle.std.proofs.Common.{◌≡◌, ◌==◌, ◌∙◌, ℕ, ◌+◌, ◌*◌, true, refl, sym, eq-eqb}
use Rattle.std.proofs.lemmas.Bool.{and_from, and_parts, eqb-true}
use Rattle.hp_base.specs.declared.row.Row.{Row}
use Rattle.hp_base.specs.declared.row.Run.{Run}
use Rattle.hp_heap.specs.Growing.{run_page}
use Rattle.hp_heap.specs.PlainHeap.{HeapPage}
use Rattle.hp_heap.proofs.Growths.{same_page}
use Rattle.hp_log.specs.Rows.{at_slot, is_row_at, row_of}
use Rattle.hp_hall.specs.Holding.{is_page_of}

-- the numbers of a row are those of a page
pub record HasNumbersOf (page : HeapPage) (row : Row) : Type 0 where
  pub list : row.list ≡ page.list
  pub slot : row.slot ≡ page.slot
  pub addr : row.addr ≡ page.addr
  pub page_size : row.page ≡ page.page
  pub socket : row.socket ≡ page.socket

pub numbers_of : (row : Row) (page : HeapPage) → is_page_of row page ≡ true → HasNumbersOf page row
numbers_of row page is =
    let list = and_parts (page.list == row.list) _ is in
    let slot = and_parts (page.slot == row.slot) _ list.1 in
    let addr = and_parts (page.addr == row.addr) _ slot.1 in
    let size = and_parts (page.page == row.page) (page.socket == row.socket) addr.1 in
    record {
      list = sym (eqb-true page.list row.list list.0);
      slot = sym (eqb-true page.slot row.slot slot.0);
      addr = sym (eqb-true page.addr row.addr addr.0);
      page_size = sym (eqb-true page.page row.page size.0);
      socket = sym (eqb-true page.socket row.socket size.1);
    }

pub numbers_at : (run : Run) (n : ℕ) (row : Row) → is_row_at run n row ≡ true → HasNumbersOf (run_page run n) row
numbers_at run n row is =
    let list = and_parts (row.list == run.list) _ is in
    let slot = and_parts (row.slot == run.first + n) _ list.1 in
    let addr = and_parts (row.addr == run.addr + n * run.page) _ slot.1 in
    let size = and_parts (row.page == run.page) (row.socket == run.socket) addr.1 in
    record {
      list = eqb-true row.list run.list list.0;
      slot = eqb-true row.slot (run.first + n) slot.0;
      addr = eqb-true row.addr (run.addr + n * run.page) addr.0;
      page_size = eqb-true row.page run.page size.0;
      socket = eqb-true row.socket run.socket size.1;
    }

-- a row with the numbers of a run's page is at its place
pub at_place : (run : Run) (n : ℕ) (row : Row) → HasNumbersOf (run_page run n) row → is_row_at run n row ≡ true
at_place run n row is =
    and_from (row.list == run.list) _ (eq-eqb row.list run.list is.list)
    (and_from (row.slot == run.first + n) _ (eq-eqb row.slot (run.first + n) is.slot)
    (and_from (row.addr == run.addr + n * run.page) _ (eq-eqb row.addr (run.addr + n * run.page) is.addr)
    (and_from (row.page == run.page) _ (eq-eqb row.page run.page is.page_size) (eq-eqb row.socket run.socket is.socket))))

pub at_its_slot : (run : Run) (n : ℕ) (row : Row) → HasNumbersOf (run_page run n) row → at_slot run.list (run.first + n) row ≡ true
at_its_slot run n row is =
    and_from (row.list == run.list) (row.slot == run.first + n) (eq-eqb row.list run.list is.list) (eq-eqb row.slot (run.first + n) is.slot)

-- a row has the numbers of one page alone
pub one_page : (row : Row) (page other : HeapPage) → HasNumbersOf page row → HasNumbersOf other row → page ≡ other
one_page row page other here there =
    same_page page.addr other.addr page.page other.page page.list other.list page.slot other.slot page.socket other.socket
    (sym here.addr ∙ there.addr) (sym here.page_size ∙ there.page_size) (sym here.list ∙ there.list) (sym here.slot ∙ there.slot)
    (sym here.socket ∙ there.socket)

-- the row of a run's slot has its page
pub own_page : (run : Run) (generation n : ℕ) → is_page_of (row_of run generation n) (run_page run n) ≡ true
own_page run generation n =
    and_from (run.list == run.list) _ (eq-eqb run.list run.list refl)
    (and_from (run.first + n == run.first + n) _ (eq-eqb (run.first + n) (run.first + n) refl)
    (and_from (run.addr + n * run.page == run.addr + n * run.page) _ (eq-eqb (run.addr + n * run.page) (run.addr + n * run.page) refl)
    (and_from (run.page == run.page) _ (eq-eqb run.page run.page refl) (eq-eqb run.socket run.socket refl))))
