use Rattle.std.proofs.Common.{map}
use Rattle.thm_run.specs.Handing.{listeners_in}
use Rattle.thm_run.specs.SoFar.{first_segs}
use Rattle.thm_causes.specs.Counting.{LosesNothing}
use Rattle.thm_causes.specs.Threads.{TimeoutsArePlanned}
use Rattle.hp_run.specs.Ending.{AreAsMay, IsHeardEnd, AllCaughtUp, IsSoloRunEnd}
use Rattle.hp_run.proofs.Coming.{first_stays, opens_so}
use Rattle.hp_run.proofs.FailureLemmas.{named_all}
use Rattle.hp_run.proofs.OpeningLemmas.{if_both, if_three}
use Rattle.hp_run.proofs.WantLemmas.{wants_so}
use Rattle.hp_run.proofs.running.run_lines.Goals as goal

pub run_in-requires-clause-first : goal.run_in-requires-clause-first
run_in-requires-clause-first g c =
    let workload = c.args.workload.now in
    opens_so workload (map g.M.Mapper.may_fail c.args.mappers.items) c.in_ok-contexts.contexts c.come_all.new.hall c.line_law.ensures.opens
    c.drops_law.ensures.opens c.shown_law.ensures.opens c.judged_law.ensures.opens c.counted_law.ensures.opens c.requires.runnable
    (first_stays workload c.in_ok-hall.hall c.come_all.new.hall c.in_ok-hall.ensures.0 c.in_ok-_unused.ensures.plain)
    c.in_ok-_unused.ensures.come c.in_ok-contexts.ensures

pub returns-clause-end : goal.returns-clause-end
returns-clause-end g c =
    let workload = c.args.workload.now in
    let mappers = map g.M.Mapper.may_fail c.args.mappers.items in
    let servers = c.come_all.new.hall.servers in
    let by_plan =
    if_both (λ left. TimeoutsArePlanned workload left.segs.asks)
    (λ left. LosesNothing workload.plan.items → AllCaughtUp left.segs left.tables.items) c.run_in.result c.run_in.ensures.timeouts
    c.run_in.ensures.all_caught_up in
    if_three (λ left. IsHeardEnd workload left.answers.items left.heaps.items left.segs left.tables.items (listeners_in left.watchers.items) left.names)
    (λ left. AreAsMay workload servers left.answers.items left.segs)
    (λ left. TimeoutsArePlanned workload left.segs.asks
    × (LosesNothing workload.plan.items → AllCaughtUp left.segs left.tables.items))
    (λ left. IsSoloRunEnd workload mappers left.answers.items left.heaps.items left.segs left.tables.items (listeners_in left.watchers.items) left.names)
    c.run_in.result
    (λ left heard named by_plan.
    let end = heard.end in
    let are_named = named_all workload mappers servers left.answers.items left.segs c.in_ok-_unused.ensures.come named in
    record {
      run = record {
        end = end.end;
        names_end = heard.names_end;
        watched = heard.watched;
        statistics = heard.statistics;
        named = are_named;
        agreed = record {
          alike = c.alike_law.ensures.at_end workload left.answers.items left.heaps.items left.segs left.tables.items end.end;
          pages = c.alike_law.ensures.pages workload left.answers.items left.heaps.items left.segs left.tables.items end.end;
          attached = c.alike_law.ensures.attached workload left.answers.items left.heaps.items left.segs left.tables.items end.end;
          restored = c.restoring_law.ensures.tables left.segs end.end.segs_sound;
        };
        nothing_found = λ who below.
            c.none_law.ensures.nothing_found workload left.answers.items left.heaps.items left.segs left.tables.items end.end who below;
        restored = record {
          calls = heard.calls;
          leads = heard.leads;
          growths = c.restoring_law.ensures.along heard.calls (first_segs workload) heard.opens;
          answering = c.restoring_law.ensures.at_end workload left.answers.items left.heaps.items left.segs left.tables.items end.end;
        };
      };
      in_order = heard.in_order;
      alone = end.alone;
      timeouts = by_plan.0;
      all_caught_up = by_plan.1;
      exhausted = wants_so workload mappers left.answers.items left.heaps.items left.segs left.tables.items end.end are_named by_plan.0
          c.none_law.ensures.exhausted;
      notices = heard.notices;
      drops = heard.drops;
      shown = heard.shown;
      granted = heard.granted;
      judged = heard.judged;
      counted = heard.counted;
    }) c.run_in.ensures.end c.run_in.ensures.named by_plan
