use Rattle.hp_frame.proofs.PartLemmas.{Puts-then}
use Rattle.hp_frame.proofs.writing.put_param.Goals as goal

pub returns-in-Free-clause-param : goal.returns-in-Free-clause-param
returns-in-Free-clause-param c =
    let number = Puts-then c.put_u8-at.ensures c.put_u64-at.ensures in
    let heap = Puts-then number c.put_u32-at.ensures in
    let address = Puts-then heap c.put_u64-at-in-Free.ensures in
    rw c.in-Free.is (Puts-then address c.put_u64.ensures)

pub returns-in-Sync-clause-param : goal.returns-in-Sync-clause-param
returns-in-Sync-clause-param c = rw c.in-Sync.is (Puts-then c.put_u64-at-in-Sync.ensures c.put_u8.ensures)

pub returns-in-Answer-clause-param : goal.returns-in-Answer-clause-param
returns-in-Answer-clause-param c =
    let number = Puts-then c.put_u8-at-in-Answer.ensures c.put_u64-at-in-Answer.ensures in
    let what = Puts-then number c.put_u8-at-in-Answer-2.ensures in
    rw c.in-Answer.is (Puts-then what c.put_u8-in-Answer.ensures)
