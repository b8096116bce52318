-- The list of the ask, its pages, and the plan by them.
use Rattle.std.proofs.Common.{◌^◌, ◌∙◌, sym, arith, subst, IsTrue}
use Rattle.hp_base.specs.Pages.{is_page_size}
use Rattle.hp_segs.specs.Lists.{lists_of}
use Rattle.hp_segs.specs.SegsView.{rows_in}
use Rattle.hp_segs.specs.TableLayout.{IsFitList}
use Rattle.hp_segs.specs.declared.list_info.ListInfo.{ListInfo}
use Rattle.hp_segs.proofs.SlotFacts.ListsLemmas.{length_lists_from}
use Rattle.hp_segs.proofs.SlotFacts.PlanLemmas.{numbered_list, pages_some, planned_few, planned_enough}
use Rattle.hp_segs.proofs.RowTables.TableUse.{at_place}
use Rattle.hp_segs.proofs.segs.plan.plan_in.Goals as goal

abbrev none : ListInfo
none = record { socket = 0; page = 0; base = 0; slots = 0 }

pub pages_left-have-requires : goal.pages_left-have-requires
pages_left-have-requires c =
    let found = numbered_list c.args.table.now.pools c.args.ask.now.socket c.args.ask.now.page c.args.list none c.requires.listed in
    omega (arith, found.within, length_lists_from (2 ^ 32) c.args.table.now.pools)

pub pages_for-need-requires : goal.pages_for-need-requires
pages_for-need-requires c =
    let found = numbered_list c.args.table.now.pools c.args.ask.now.socket c.args.ask.now.page c.args.list none c.requires.listed in
    let fit = at_place IsFitList (lists_of c.args.table.now.pools) c.args.list _ c.lists-lists.ensures.fit found.here in
    subst (λ page. IsTrue (is_page_size page)) found.its_page fit.page

pub returns-then-have-need : goal.returns-then-have-need
returns-then-have-need c =
    let found = numbered_list c.args.table.now.pools c.args.ask.now.socket c.args.ask.now.page c.args.list none c.requires.listed in
    rw (c.pages_left-have.ensures, c.pages_for-need.ensures.number)
    (planned_few c.args.ask.now c.args.table.now.pools (rows_in c.args.table.now.segments) c.args.list _ found.here
    (rw (← c.pages_left-have.ensures, ← c.pages_for-need.ensures.number) c.if-have-need.true))

pub plan_slots-requires : goal.plan_slots-requires
plan_slots-requires c =
    let found = numbered_list c.args.table.now.pools c.args.ask.now.socket c.args.ask.now.page c.args.list none c.requires.listed in
    let fit = at_place IsFitList (lists_of c.args.table.now.pools) c.args.list _ c.lists-lists.ensures.fit found.here in
    let is : IsTrue (is_page_size c.args.ask.now.page) = subst (λ page. IsTrue (is_page_size page)) found.its_page fit.page in
    rw c.lists-lists.ensures.lists
    (record {
      listed = found.here;
      fit = fit;
      some = rw c.pages_for-need.ensures.number (pages_some c.args.ask.now.request c.args.ask.now.page is);
    })

pub returns : goal.returns
returns c =
    let found = numbered_list c.args.table.now.pools c.args.ask.now.socket c.args.ask.now.page c.args.list none c.requires.listed in
    let plan = rw (c.lists-lists.ensures.lists, c.pages_for-need.ensures.number) at c.plan_slots.ensures in
    plan
    ∙ sym
    (planned_enough c.args.ask.now c.args.table.now.pools (rows_in c.args.table.now.segments) c.args.list _ found.here
    (rw (← c.pages_left-have.ensures, ← c.pages_for-need.ensures.number) c.if-have-need.false))
