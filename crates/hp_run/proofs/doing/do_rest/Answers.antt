-- All serve on, and have done the same lines.
use Rattle.hp_run.proofs.Coming.{given_by}
use Rattle.hp_run.proofs.Resting.{rests_so}
use Rattle.hp_run.proofs.doing.do_rest.Goals as goal

pub returns-clause-done : goal.returns-clause-done
returns-clause-done g c = λ workload lines answers runnable was.
    (rests_so workload lines answers c.args.hall.now c.drain.new.self c.line_law.ensures.rests c.drops_law.ensures.rests
    c.shown_law.ensures.rests c.in_time_law.ensures.rests c.judged_law.ensures.rests (given_by workload runnable) was
    c.drain.ensures.course c.drain.ensures.later c.drain.ensures.drains c.drain.ensures.home c.sound.ensures c.in_ok-all_going.ensures).0

pub returns-clause-may_fail : goal.returns-clause-may_fail
returns-clause-may_fail g c =
    let was = c.requires.so_far in
    (rests_so was.0 was.1 was.2 c.args.hall.now c.drain.new.self c.line_law.ensures.rests c.drops_law.ensures.rests
    c.shown_law.ensures.rests c.in_time_law.ensures.rests c.judged_law.ensures.rests (given_by was.0 was.3) was.4
    c.drain.ensures.course c.drain.ensures.later c.drain.ensures.drains c.drain.ensures.home c.sound.ensures c.in_ok-all_going.ensures).1
