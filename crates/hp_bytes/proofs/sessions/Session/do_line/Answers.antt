-- Each line but a `new` is done alike under each number.
use Rattle.std.proofs.lemmas.Result.{IfOk-weaker}
use Rattle.hp_bytes.proofs.sessions.Session.do_line.Goals as goal

pub returns-in-Put : goal.returns-in-Put
returns-in-Put c = rw c.in-Put.is (c.put.ensures c.args.number c.requires.session)

pub returns-in-Copy : goal.returns-in-Copy
returns-in-Copy c = rw c.in-Copy.is (c.copy.ensures c.args.number c.requires.session)

pub returns-in-Get : goal.returns-in-Get
returns-in-Get c = rw c.in-Get.is (IfOk-weaker c.get.result _ _ (λ given does. does c.args.number c.requires.session) c.get.ensures)

pub returns-in-Drop : goal.returns-in-Drop
returns-in-Drop c = rw c.in-Drop.is (c.release.ensures c.args.number c.requires.session)
