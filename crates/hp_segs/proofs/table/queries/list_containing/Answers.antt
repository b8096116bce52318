-- One list more does not contain the address.
use Rattle.std.proofs.Common.{◌≡◌, ◌<◌, ◌∙◌, ap, sym, arith, get_or, length, inl, inr}
use Rattle.std.proofs.lemmas.Bool.{cases_lt}
use Rattle.std.proofs.lemmas.List.{get_or_default}
use Rattle.hp_segs.specs.TableLayout.{list_contains}
use Rattle.hp_segs.specs.declared.list_info.ListInfo.{ListInfo}
use Rattle.hp_segs.proofs.QueryLemmas.{get_within}
use Rattle.hp_segs.proofs.table.queries.list_containing.Goals as goal

abbrev none : ListInfo
none = record { socket = 0; page = 0; base = 0; slots = 0 }

pub loop-list-init : goal.loop-list-init
loop-list-init c = λ k d below. absurd (omega (arith, below))

pub returns-then-list_contains-clause-some : goal.returns-then-list_contains-clause-some
returns-then-list_contains-clause-some c =
    let within = c.loop-list-test.true in
    let inside : c.loop-list.list < length c.args.lists.now = omega (arith, within) in
    rw (get_within c.args.lists.now c.loop-list.list none inside)
    (ap (list_contains c.args.addr) (get_or_default c.args.lists.now c.loop-list.list none _ inside)
    ∙ (sym c.list_contains.ensures ∙ c.if-list_contains.true))

pub loop-list-preserved : goal.loop-list-preserved
loop-list-preserved c = λ k d below.
    elim (cases_lt k c.loop-list.list) [
      | inl before ↦ c.loop-list.invariant k d before
      | inr behind ↦
          let same : k ≡ c.loop-list.list = omega (arith, below, behind) in
          ap (λ i. list_contains c.args.addr (get_or c.args.lists.now i d)) same
          ∙ (ap (list_contains c.args.addr) (get_or_default c.args.lists.now c.loop-list.list d _ (omega (arith, c.loop-list-test.true)))
          ∙ (sym c.list_contains.ensures ∙ c.if-list_contains.false))
    ]

pub returns-clause-none : goal.returns-clause-none
returns-clause-none c = λ k d within. c.loop-list.invariant k d (omega (arith, within, c.loop-list-test.false))
