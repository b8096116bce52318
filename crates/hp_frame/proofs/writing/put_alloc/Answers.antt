use Rattle.hp_frame.proofs.PartLemmas.{Puts-then}
use Rattle.hp_frame.proofs.writing.put_alloc.Goals as goal

pub returns-clause-param : goal.returns-clause-param
returns-clause-param c =
    let number = Puts-then c.put_u8-at.ensures c.put_u64-at.ensures in
    let heap = Puts-then number c.put_u32-at.ensures in
    let socket = Puts-then heap c.put_u32-at-2.ensures in
    let page = Puts-then socket c.put_u64-at-2.ensures in
    let size = Puts-then page c.put_u64-at-3.ensures in
    let align = Puts-then size c.put_u64-at-4.ensures in
    let bound = Puts-then align c.put_u64-at-5.ensures in
    rw c.in-Alloc.is (Puts-then bound c.put_u32.ensures)
