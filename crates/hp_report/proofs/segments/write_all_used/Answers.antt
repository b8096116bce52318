use Rattle.std.proofs.Common.{◌<◌, ◌^◌, length, get_or, refl, rules, arith}
use Rattle.std.proofs.Math.Facts.{Fits-of_lt}
use Rattle.std.proofs.lemmas.Option.{slice_get-get_or}
use Rattle.hp_segs.specs.Lists.{lists_of}
use Rattle.hp_segs.specs.declared.list_info.ListInfo.{ListInfo}
use Rattle.hp_segs.proofs.SlotFacts.ListsApart.{list_fits}
use Rattle.hp_segs.proofs.SlotFacts.ListsLemmas.{length_lists_from}
use Rattle.hp_report.specs.SegmentTexts.{used_text}
use Rattle.hp_report.proofs.AddingLemmas.{exits, goes_on}
use Rattle.hp_report.proofs.NumberedLemmas.{numbered-here}
use Rattle.hp_report.proofs.segments.write_all_used.Goals as goal

pub overflow_cast-list : goal.overflow_cast-list
overflow_cast-list g c =
    let pools = c.args.segs.now.pools in
    let within : c.loop-list.list < length (lists_of pools) = search rules in
    Fits-of_lt (omega (arith, within, length_lists_from (2 ^ 32) pools, c.requires.limits.few))

pub write_used-requires : goal.write_used-requires
write_used-requires g c =
    let pools = c.args.segs.now.pools in
    let list = c.loop-list.list in
    let within : list < length (lists_of pools) = search rules in
    let none : ListInfo = record { socket = 0; page = 0; base = 0; slots = 0 } in
    let fit = list_fits pools list (get_or (lists_of pools) list none) c.requires.limits (slice_get-get_or (lists_of pools) list none within) in
    record { below = rw c.lists-info-items.ensures (omega (arith, fit.below)) }

pub loop-list-preserved : goal.loop-list-preserved
loop-list-preserved g c =
    let segs = c.args.segs.now in
    let list = c.loop-list.list in
    let within : list < length (lists_of segs.pools) = search rules in
    goes_on _ _ c.loop-list.invariant (rw c.lists-info-items.ensures at c.in_ok-write_used.ensures)
    (numbered-here (lists_of segs.pools) list (used_text segs.segments) list _ _ within refl)

pub returns-in_err-write_used : goal.returns-in_err-write_used
returns-in_err-write_used g c =
    let segs = c.args.segs.now in
    let list = c.loop-list.list in
    let within : list < length (lists_of segs.pools) = search rules in
    exits _ _ c.from_residual.result _ c.loop-list.invariant (rw c.lists-info-items.ensures at c.in_err-write_used.ensures)
    (numbered-here (lists_of segs.pools) list (used_text segs.segments) list _ _ within refl) c.from_residual.ensures.1 (λ other same. same)
