use Rattle.std.proofs.Common.{◌∙◌, ℕ, Some, sym, ap, subst, lit<}
use Rattle.hp_board.specs.Giving.{IsGiveAt}
use Rattle.hp_hall.specs.declared.kept.Kept.{Kept}
use Rattle.hp_board.specs.Knowing.{knows_of}
use Rattle.hp_board.specs.Views.{without}
use Rattle.hp_board.specs.declared.view.Mine.{Mine}
use Rattle.hp_board.proofs.KeptAt.{heap_kept}
use Rattle.test_board.specs.Asking.{IsRefusedIn}
use Rattle.test_board.proofs.AskLemmas.{asking_on, gives_refused, took_heap}
use Rattle.test_board.proofs.PlayLemmas.{took_playing}
use Rattle.test_board.proofs.tests.turn.asker.ask_for_a_page.Goals as goal

pub arm-requires-clause-playing : goal.arm-requires-clause-playing
arm-requires-clause-playing g c =
    let heap = heap_kept c.args.seat.mine.opening 0 c.take-kept.result (lit< tt) c.take-kept.ensures.handed.at in
    took_playing c.args.board.now.id c.args.seat c.take-kept.new.seat c.args.maps c.take-kept.result heap.0 c.requires.playing c.take-kept.ensures.board c.take-kept.ensures.taken heap.1

pub arm-requires-clause-asks : goal.arm-requires-clause-asks
arm-requires-clause-asks g c =
    let heap = heap_kept c.args.seat.mine.opening 0 c.take-kept.result (lit< tt) c.take-kept.ensures.handed.at in
    let new = c.requires.new in (
      heap.0,
      took_heap c.args.seat.mine c.take-kept.new.seat.mine c.take-kept.result heap.0 c.requires.first new.0 new.1 new.2 new.3 c.requires.unclaimed heap.1 c.take-kept.ensures.handed c.take-kept.ensures.taken,
    )

pub loop-init : goal.loop-init
loop-init g c =
    let heap = heap_kept c.args.seat.mine.opening 0 c.take-kept.result (lit< tt) c.take-kept.ensures.handed.at in
    let new = c.requires.new in
    let was =
    took_heap c.args.seat.mine c.take-kept.new.seat.mine c.take-kept.result heap.0 c.requires.first new.0 new.1 new.2 new.3 c.requires.unclaimed heap.1 c.take-kept.ensures.handed c.take-kept.ensures.taken in
    record {
      playing = c.arm.ensures.playing;
      from = c.in-Some.ensures.from;
      asking = (heap.0, heap.1, c.in-Some.ensures.asks heap.0 was);
    }

pub loop-preserved : goal.loop-preserved
loop-preserved g c =
    let asking = c.loop.invariant.asking in
    record {
      playing = c.obey-looked.ensures.playing;
      from = c.loop.invariant.from;
      asking = (asking.0, asking.1, asking_on asking.0 (Some c.in-Some.ask) c.loop.seat.mine c.obey-looked.new.seat.mine asking.2 c.obey-looked.ensures.turned);
    }

pub give-requires-clause-gives : goal.give-requires-clause-gives
give-requires-clause-gives g c =
    let asking = c.loop.invariant.asking in
    let now = asking_on asking.0 (Some c.in-Some.ask) c.loop.seat.mine c.obey-looked.new.seat.mine asking.2 c.obey-looked.ensures.turned in
    let refused : IsRefusedIn c.obey-looked.new.seat.mine.heard c.loop.seat.mine.who c.in-Some.ask.number = c.obey-looked.ensures.refused (c.is_over.ensures c.if-is_over.true) in
    subst (λ (kept : Kept). IsGiveAt (knows_of c.obey-looked.new.seat.mine) 0 kept) (sym asking.1)
    (gives_refused asking.0 c.in-Some.ask c.obey-looked.new.seat.mine now c.loop.invariant.from
    (subst (λ (who : ℕ). IsRefusedIn c.obey-looked.new.seat.mine.heard who c.in-Some.ask.number) (sym c.obey-looked.ensures.turned.who) refused))

pub returns-then-is_over : goal.returns-then-is_over
returns-then-is_over g c =
    let asking = c.loop.invariant.asking in
    let now = asking_on asking.0 (Some c.in-Some.ask) c.loop.seat.mine c.obey-looked.new.seat.mine asking.2 c.obey-looked.ensures.turned in
    let playing = c.obey-looked.ensures.playing in
    record {
      back = record {
        board_is = c.give.ensures.board ∙ playing.board_is;
        three = ap (λ (m : Mine). m.opening.participants) c.give.ensures.given ∙ playing.three;
        who_is = ap (λ (m : Mine). m.who) c.give.ensures.given ∙ now.who;
        held = ap (λ (m : Mine). m.held) c.give.ensures.given ∙ ap (without 0) now.held;
      };
    }
