-- The Retiring runs are held, and all of them go.
use Rattle.std.proofs.Common.{◌≡◌, ◌≤◌, ◌∙◌, ap, arith, length, refl, vec_capacity}
use Rattle.hp_segs.specs.TableLayout.{removed_all}
use Rattle.hp_segs.proofs.RowTables.KeptSteps.{kept_dropped}
use Rattle.hp_segs.proofs.RetiredRuns.RemoveAllLemmas.{table_dropped}
use Rattle.hp_segs.proofs.RowTables.TableRuns.{retiring_uncounted}
use Rattle.hp_segs.proofs.segs.Segs.drop_retiring.Goals as goal

pub remove_all-requires-clause-uncounted : goal.remove_all-requires-clause-uncounted
remove_all-requires-clause-uncounted c = rw (c.as_slice.ensures.value, c.deref_mut-parts.ensures.value) (retiring_uncounted c.self.invariant.sound.rows)

pub invariant_of-self : goal.invariant_of-self
invariant_of-self c =
    let s = c.self.inside.parts.value in
    let may = rw (← c.self.view_is) at c.requires.may in
    let table =
    (rw c.deref_mut-parts.ensures.value at c.remove_all.ensures)
    ∙ (ap (λ runs. removed_all runs s.table) (rw c.deref_mut-parts.ensures.value at c.as_slice.ensures.value) ∙ table_dropped s.retiring.items s.table c.self.invariant.sound.rows.retired) in
    let room : vec_capacity s.retiring ≤ vec_capacity c.clear.new.self = omega (arith, rw c.deref_mut-parts.ensures.value at c.clear.ensures.capacity) in
    let long : c.len.result ≡ length s.retiring.items = omega (arith, rw c.deref_mut-parts.ensures.value at c.len.ensures, s.retiring.ok) in
    rw (table, c.clear.ensures.items, long, c.deref_mut-parts.ensures.value) (kept_dropped room c.self.invariant may)

pub returns-clause-step : goal.returns-clause-step
returns-clause-step c =
    let s = c.self.inside.parts.value in
    let table =
    (rw c.deref_mut-parts.ensures.value at c.remove_all.ensures)
    ∙ (ap (λ runs. removed_all runs s.table) (rw c.deref_mut-parts.ensures.value at c.as_slice.ensures.value) ∙ table_dropped s.retiring.items s.table c.self.invariant.sound.rows.retired) in
    let long : c.len.result ≡ length s.retiring.items = omega (arith, rw c.deref_mut-parts.ensures.value at c.len.ensures, s.retiring.ok) in
    rw (← c.self.view_is, table, c.clear.ensures.items, long, c.deref_mut-parts.ensures.value) refl
