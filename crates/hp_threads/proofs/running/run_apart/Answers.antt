-- What all leave is what their promises and the closed board say.
use Rattle.std.proofs.Common.{◌≡◌, ◌∙◌, List, length, sym, ap, subst}
use Rattle.std.specs.List.{All}
use Rattle.atomic_table.specs.Seated.{TableId}
use Rattle.hp_mail.specs.PassView.{MailboxView}
use Rattle.hp_stats.specs.StatViews as stats
use Rattle.hp_proc.specs.ParticipantView.{ParticipantView}
use Rattle.hp_threads.specs.Running.{AllHavePromised}
use Rattle.hp_threads.specs.Workers.{AreWorkers}
use Rattle.hp_threads.proofs.Countings.{pens_of}
use Rattle.hp_threads.proofs.Ends.{all_free, answered_declared, answered_lines, everyone, few_answered, woven_by}
use Rattle.hp_threads.proofs.Seating.{are_workers, seats_many, stats_many}
use Rattle.hp_threads.proofs.running.run_apart.Goals as goal

pub opened-requires : goal.opened-requires
opened-requires g c = record { given = c.requires.can.given; values = c.requires.values }

pub seated-requires : goal.seated-requires
seated-requires g c =
    let stage = c.in_ok-board.ensures in
    record {
      seats = seats_many _ _ _ _ _ _ _ stage ∙ sym c.requires.count;
      passes = stage.placed.count ∙ sym c.requires.count;
      stats = stats_many _ _ _ _ _ _ _ stage ∙ sym c.requires.count;
    }

pub all_home-requires-clause-boxed : goal.all_home-requires-clause-boxed
all_home-requires-clause-boxed g c κs lives =
    ap (λ (boxes : List MailboxView). length boxes) c.deref.ensures.value ∙ c.in_ok-board.ensures.boxed

pub all_home-requires-clause-lines : goal.all_home-requires-clause-lines
all_home-requires-clause-lines g c κs lives = c.requires.can.lines

pub all_home-requires-clause-few : goal.all_home-requires-clause-few
all_home-requires-clause-few g c κs lives = c.requires.can.few

pub all_home-requires-clause-workers : goal.all_home-requires-clause-workers
all_home-requires-clause-workers g c κs lives =
    subst
    (λ (boxes : List MailboxView). AreWorkers c.args.workload.now c.in_ok-board.field-0.board boxes c.in_ok-board.field-0.cells
    c.in_ok-workers.workers.items)
    (sym c.deref.ensures.value)
    (are_workers _ _ _ _ _ _ _ c.in_ok-board.ensures c.args.newcomers.items c.requires.count c.requires.newcomers
    c.in_ok-workers.workers.items c.in_ok-workers.ensures.newcomers c.in_ok-workers.ensures.seats c.in_ok-workers.ensures.passes
    c.in_ok-workers.ensures.stats)

pub woven-requires : goal.woven-requires
woven-requires g c =
    let opens = c.in_ok-board.ensures.opens in
    let promised = c.in_ok-seats.ensures in
    record {
      few = few_answered _ _ opens.count _ _ _ _ _ _ promised c.requires.can.lines _ _ c.deref-2.ensures.value c.deref-3.ensures.value opens.few;
      declared = answered_declared _ _ opens.count _ _ _ _ _ _ promised c.requires.can.lines _ _ c.deref-2.ensures.value c.deref-3.ensures.value;
      count = answered_lines _ _ opens.count _ _ _ _ _ _ promised c.requires.can.lines _ _ c.deref-2.ensures.value c.deref-3.ensures.value;
    }

pub close-heaps-requires-clause-free : goal.close-heaps-requires-clause-free
close-heaps-requires-clause-free g c = all_free _ _ c.in_ok-board.ensures.opens.count _ _ _ _ _ _ c.in_ok-seats.ensures

pub close-heaps-requires-clause-everyone : goal.close-heaps-requires-clause-everyone
close-heaps-requires-clause-everyone g c = everyone _ _ c.in_ok-board.ensures.opens.count _ _ _ _ _ _ c.in_ok-seats.ensures

pub count_all-requires : goal.count_all-requires
count_all-requires g c =
    let cells_are = c.in_ok-board.ensures.cells_are in
    record {
      pens = pens_of c.in_ok-board.field-0.board.opening c.in_ok-board.field-0.cells _ _ c.close-heaps.ensures.heaps cells_are;
      passes = subst (λ (cells : List TableId). All (λ (pass : stats.PassView). pass.cells ≡ cells) c.in_ok-seats.field-0.stats.items) cells_are
          c.in_ok-seats.ensures.cells;
    }

pub returns : goal.returns
returns g c =
    let opens = c.in_ok-board.ensures.opens in
    let board = c.in_ok-board.field-0.board in
    let home = c.in_ok-seats.field-0 in
    let promised = c.in_ok-seats.ensures in
    let left = c.close-heaps.ensures in
    record {
      board = board;
      opens = opens;
      seats = home.seats.items;
      by = home.answers.items;
      stat_passes = home.stats.items;
      promised = subst
          (λ (firsts : List ParticipantView). AllHavePromised c.args.workload.now board firsts home.seats.items home.answers.items
          home.tables.items home.watchers.items home.stats.items)
          c.in_ok-workers.ensures.newcomers promised;
      in_order =
          woven_by _ _ opens.count _ _ _ _ _ _ promised c.requires.can.lines _ _ c.deref-2.ensures.value c.deref-3.ensures.value _
          c.in_ok-answers.ensures;
      pens = c.close-heaps.result.pens.items;
      heaps_are = left.heaps;
      published = c.count_all.ensures;
      calls = left.calls;
      segs_are = left.segs;
      tables_are = left.tables;
      noted = left.noted;
      owned = left.owned;
      names_are = left.names;
      moved = left.moved;
    }
