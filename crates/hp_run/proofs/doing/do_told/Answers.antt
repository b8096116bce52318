-- A line is done, and told.
use Rattle.std.proofs.Common.{◌≡◌, ◌∙◌, ℕ, ◌+◌, ◌<◌, ap, sym, subst, arith}
use Rattle.hp_hall.specs.HallCalls.{HasLoadedLines, HasStored, MayStore}
use Rattle.hp_hall.specs.HallState.{IsBusy}
use Rattle.hp_hall.specs.Measures.{pending_at}
use Rattle.hp_serve.specs.Clocks.{IsOneClock}
use Rattle.hp_serve.proofs.Rising.{one_clock}
use Rattle.hp_solo.specs.Solo.{IsAway, SoloView, server_at}
use Rattle.hp_solo.specs.SoloCourse.{solo_then}
use Rattle.hp_solo.specs.SoloState.{solo_state}
use Rattle.hp_run.proofs.ToldLine.{found_is, may_tell, ready_loaded, told_again, told_clock, told_line, told_lines}
use Rattle.hp_run.proofs.doing.do_told.Goals as goal

-- the clock of one thread
solo_clock : IsOneClock {T = SoloView} pending_at (λ hall. IsBusy (solo_state hall))
solo_clock =
    let one : IsOneClock {T = SoloView} pending_at (λ hall. ⊥) = one_clock in
    record { reads = one.reads; free = λ hall busy. busy.2 }

pub load_done-done-requires : goal.load_done-done-requires
load_done-done-requires g c =
    let again = c.do_line.ensures.ready in
    let mid = solo_state c.do_line.new.hall in
    record {
      serves = subst mid.serves (sym c.requires.own) again.ready.idle.serves;
      declared = subst (λ (n : ℕ). n < mid.count) (sym c.requires.own) again.ready.idle.declared;
    }

pub store_done-requires : goal.store_done-requires
store_done-requires g c =
    let me = c.args.participant.now.party.me in
    let mid = c.do_line.new.hall in
    let loaded = c.load_done-done.new.self in
    let found = c.load_done-done.result in
    let again = c.do_line.ensures.ready in
    let looked : HasLoadedLines me me found (solo_state mid) (solo_state loaded) =
    subst (λ (n : ℕ). HasLoadedLines n n found (solo_state mid) (solo_state loaded)) c.requires.own c.load_done-done.ensures.loaded in
    record {
      serves = subst (λ (n : ℕ). IsAway (server_at loaded.servers n)) (sym c.requires.own)
          (ready_loaded me found c.args.participant.now c.do_line.new.self c.args.hall.now mid loaded loaded c.args.line.now c.in_ok-answer.answer
          c.in_ok-answer.ensures.does again c.do_line.ensures.goes_on looked).idle.serves;
      may = subst (λ (n : ℕ). MayStore n (found + 1) (solo_state loaded)) (sym c.requires.own)
          (may_tell me found c.args.participant.now c.do_line.new.self c.args.hall.now mid loaded loaded c.args.line.now c.in_ok-answer.answer
          c.in_ok-answer.ensures.does again c.do_line.ensures.goes_on looked);
    }

pub returns-in_err-answer-clause-clock : goal.returns-in_err-answer-clause-clock
returns-in_err-answer-clause-clock g c = c.do_line.ensures.clock solo_clock

pub overflow_add-done : goal.overflow_add-done
overflow_add-done g c =
    let me = c.args.participant.now.party.me in
    let mid = c.do_line.new.hall in
    let loaded = c.load_done-done.new.self in
    let found = c.load_done-done.result in
    let looked : HasLoadedLines me me found (solo_state mid) (solo_state loaded) =
    subst (λ (n : ℕ). HasLoadedLines n n found (solo_state mid) (solo_state loaded)) c.requires.own c.load_done-done.ensures.loaded in
    omega (
      arith,
      found_is me found c.args.participant.now c.do_line.new.self c.args.hall.now mid loaded loaded c.args.line.now c.in_ok-answer.answer
          c.in_ok-answer.ensures.does c.do_line.ensures.ready c.do_line.ensures.goes_on looked,
      c.requires.few,
    )

pub returns : goal.returns
returns g c =
    let me = c.args.participant.now.party.me in
    let old = c.args.participant.now in
    let new = c.do_line.new.self in
    let from = c.args.hall.now in
    let mid = c.do_line.new.hall in
    let loaded = c.load_done-done.new.self in
    let to = c.store_done.new.self in
    let found = c.load_done-done.result in
    let line = c.args.line.now in
    let given = c.in_ok-answer.answer in
    let does = c.in_ok-answer.ensures.does in
    let again = c.do_line.ensures.ready in
    let course = c.do_line.ensures.goes_on in
    let looked : HasLoadedLines me me found (solo_state mid) (solo_state loaded) =
    subst (λ (n : ℕ). HasLoadedLines n n found (solo_state mid) (solo_state loaded)) c.requires.own c.load_done-done.ensures.loaded in
    let told : HasStored me (found + 1) (solo_state loaded) (solo_state to) =
    subst (λ (n : ℕ). HasStored n (found + 1) (solo_state loaded) (solo_state to)) c.requires.own c.store_done.ensures.stored in
    record {
      does = told_line me found old new from mid loaded to line given does again course looked told;
      lines = told_lines me found old new from mid loaded to line given does again course looked told;
      clock = omega (
        arith,
        told_clock me found old new from mid loaded to line given does again course looked told,
        c.do_line.ensures.clock solo_clock,
      );
      ready = told_again me found old new from mid loaded to line given does again course looked told;
      goes_on = solo_then from mid to course (solo_then mid loaded to c.load_done-done.ensures.goes_on c.store_done.ensures.goes_on);
    }
