-- It served once.
use Rattle.hp_proc.proofs.HandFacts.Holds.{again_by}
use Rattle.hp_proc.proofs.LinesInHall.{idle_can}
use Rattle.hp_threads.proofs.WorkSteps.{serve_goes}
use Rattle.hp_threads.proofs.serving.serve.Goals as goal

pub serve-requires : goal.serve-requires
serve-requires g c = record { can = idle_can c.requires.ready.idle }

pub returns : goal.returns
returns g c =
    let is = c.serve.ensures in
    let served = is.served in
    record {
      still = record {
        again = (again_by c.args.participant.now c.serve.new.self is.alone.stays is.context c.requires.ready).again;
        context = is.context;
        lines = is.alone.stays.waits.parts.lines;
      };
      goes = serve_goes c.serve.result c.args.participant.now c.serve.new.self served.0 served.1 served.2 is.alone.stays is.context;
      goes_on = is.goes_on;
    }
