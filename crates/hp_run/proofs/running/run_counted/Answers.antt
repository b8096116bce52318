use Rattle.std.proofs.Common.{sym, ◌∙◌}
use Rattle.std.proofs.lemmas.Option.{same_Some}
use Rattle.hp_run.proofs.running.run_counted.Goals as goal

pub unreachable-requires : goal.unreachable-requires
unreachable-requires g c = c.in_default.not-Some _ (c.counts.ensures ∙ c.in_ok-left.ensures.counts)

pub returns : goal.returns
returns g c =
    let left = c.in_ok-left.left in
    record {
      answers = left.answers.items;
      names = left.names;
      tables = left.tables.items;
      watchers = left.watchers.items;
      end = c.in_ok-left.ensures.end;
      named = c.in_ok-left.ensures.names;
      counts = same_Some _ _ (sym c.in-Some.is ∙ c.counts.ensures ∙ c.in_ok-left.ensures.counts);
    }
