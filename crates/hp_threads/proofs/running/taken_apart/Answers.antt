-- One more of those that came home is taken apart.
use Rattle.std.proofs.Common.{◌∙◌, ◌<◌, ◌++◌, List, map, length, vec_len, refl, ap, arith}
use Rattle.hp_board.specs.SeatView.{SeatView}
use Rattle.hp_mail.specs.PassView.{PassView}
use Rattle.hp_stats.specs.StatViews as stats
use Rattle.hp_threads.specs.declared.working.Worked.{Worked}
use Rattle.hp_threads.specs.Running.{told_of, watched_of}
use Rattle.hp_threads.proofs.Handing.{apart_more, first_told, watched_more}
use Rattle.hp_threads.proofs.running.taken_apart.Goals as goal

pub loop-worked-preserved : goal.loop-worked-preserved
loop-worked-preserved c =
    let was = c.loop-worked.invariant in
    let left : List Worked = c.loop-worked.worked.items in
    let rest : List Worked = c.remove-seat.new.self.items in
    let left_some : 0 < vec_len c.loop-worked.worked = grind (arith, c.loop-worked-test.ensures) in
    let some : 0 < length left = omega (arith, left_some, c.loop-worked.worked.ok.0) in
    record {
      passes =
          ap (λ (all : List (List PassView)). all ++ map (λ (one : Worked). one.passes.items) rest) c.push_reserved.ensures.items
          ∙ first_told (λ (one : Worked). one.passes.items) c.loop-worked.all_passes.items _ left rest c.remove-seat.result _ some
          c.remove-seat.ensures.value c.remove-seat.ensures.items c.of.ensures was.passes;
      seats =
          ap (λ (all : List SeatView). all ++ map (λ (one : Worked). one.seat) rest) c.push_reserved-in-loop-worked.ensures.items
          ∙ first_told (λ (one : Worked). one.seat) c.loop-worked.seats.items _ left rest c.remove-seat.result _ some c.remove-seat.ensures.value
          c.remove-seat.ensures.items refl was.seats;
      stats =
          ap (λ (all : List stats.PassView). all ++ map (λ (one : Worked). one.stats) rest) c.push_reserved-in-loop-worked-5.ensures.items
          ∙ first_told (λ (one : Worked). one.stats) c.loop-worked.all_stats.items _ left rest c.remove-seat.result _ some
          c.remove-seat.ensures.value c.remove-seat.ensures.items refl was.stats;
      done =
          apart_more c.loop-worked.answers.items c.push_reserved-in-loop-worked-2.new.self.items c.loop-worked.tables.items
          c.push_reserved-in-loop-worked-3.new.self.items c.in-Some.told.answers c.in-Some.told.table left rest c.remove-seat.result _
          c.push_reserved-in-loop-worked-2.ensures.items c.push_reserved-in-loop-worked-3.ensures.items
          (omega (arith, was.count, c.loop-worked.answers.ok.0, c.loop-worked.tables.ok.0)) some c.remove-seat.ensures.value
          c.remove-seat.ensures.items (ap told_of c.in-Some.is) was.done;
      watched =
          watched_more c.loop-worked.watchers.items c.push_reserved-in-loop-worked-4.new.self.items c.in-Some.told.watchers left rest
          c.remove-seat.result _ c.push_reserved-in-loop-worked-4.ensures.items some c.remove-seat.ensures.value c.remove-seat.ensures.items
          (ap watched_of c.in-Some.is) was.watched;
      answered = omega (arith, was.answered, c.push_reserved-in-loop-worked-2.ensures.len, c.remove-seat.ensures.len);
      count = omega (arith, was.count, c.push_reserved-in-loop-worked-2.ensures.len, c.push_reserved-in-loop-worked-3.ensures.len);
      passed = omega (arith, was.passed, c.push_reserved.ensures.len, c.push_reserved-in-loop-worked-2.ensures.len);
      watching = omega (arith, was.watching, c.push_reserved-in-loop-worked-2.ensures.len, c.push_reserved-in-loop-worked-4.ensures.len);
      reading = omega (arith, was.reading, c.push_reserved-in-loop-worked-2.ensures.len, c.push_reserved-in-loop-worked-5.ensures.len);
      seated = omega (arith, was.seated, c.push_reserved-in-loop-worked.ensures.len, c.push_reserved-in-loop-worked-2.ensures.len);
      passes_room = omega (arith, was.passes_room, c.push_reserved.ensures.capacity);
      seats_room = omega (arith, was.seats_room, c.push_reserved-in-loop-worked.ensures.capacity);
      answers_room = omega (arith, was.answers_room, c.push_reserved-in-loop-worked-2.ensures.capacity);
      tables_room = omega (arith, was.tables_room, c.push_reserved-in-loop-worked-3.ensures.capacity);
      watchers_room = omega (arith, was.watchers_room, c.push_reserved-in-loop-worked-4.ensures.capacity);
      stats_room = omega (arith, was.stats_room, c.push_reserved-in-loop-worked-5.ensures.capacity);
    }
