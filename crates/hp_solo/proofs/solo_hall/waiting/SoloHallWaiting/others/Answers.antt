-- Those on one side have served, and then that was noted.
use Rattle.hp_plain.specs.Course.{course_then}
use Rattle.hp_solo.specs.SoloCourse.{later_then}
use Rattle.hp_solo.proofs.Sequenced.{yielded}
use Rattle.hp_solo.proofs.SoloIdles.{idles_yield}
use Rattle.hp_solo.proofs.solo_hall.waiting.SoloHallWaiting.others.Goals as goal

pub returns-clause-goes_on : goal.returns-clause-goes_on
returns-clause-goes_on g c =
    let old = c.args.self.now in
    let between = c.serve_beside-moved.new.self in
    let new = c.note_yield.new.self in
    let beside = c.serve_beside-moved.ensures in
    let noted = c.note_yield.ensures in
    record {
      plain = course_then old.plain between.plain new.plain beside.served.serving.course noted.course;
      servers = later_then old between new beside.served.serving.course beside.later noted.later;
      sequence =
          yielded c.args.me c.args.above c.serve_beside-moved.result old between new c.requires.serves beside.served beside.visits noted.plain
          noted.servers;
    }

pub returns-clause-idles : goal.returns-clause-idles
returns-clause-idles g c =
    idles_yield c.args.me c.args.above c.serve_beside-moved.result c.args.self.now c.serve_beside-moved.new.self c.note_yield.new.self
    (returns-clause-goes_on g c) c.serve_beside-moved.ensures.served.serving c.note_yield.ensures.plain
