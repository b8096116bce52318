use Rattle.std.proofs.Common.{◌-◌, refl, ap, ◌∙◌, arith}
use Rattle.hp_heap.specs.declared.body.Body.TheInside.{Inside}
use Rattle.hp_heap.specs.declared.entry.Entry.{Entry}
use Rattle.hp_heap.specs.declared.entry.HeapCall.TheVariants.{Stats}
use Rattle.hp_heap.specs.declared.entry.HeapAnswer.TheVariants.{Statistics}
use Rattle.hp_heap.specs.Statistics.{statistics_of, statistics_of_ranges}
use Rattle.hp_heap.specs.Step.{after, answer_of}
use Rattle.hp_heap.specs.History.{after_entry}
use Rattle.hp_heap.specs.Inside.{plain_of}
use Rattle.hp_heap.proofs.QuestionLemmas.{IsAsked, asked}
use Rattle.hp_heap.proofs.HistoryFacts.HeapLaw.{next_heap, next_call}
use Rattle.hp_heap.proofs.body.Body.stats.Goals as goal
use Rattle.hp_heap.proofs.body.Body.stats.Goals.{After-self-1}

-- the fields afterwards, and the entry
after_call : After-self-1 → Inside
after_call c = record c.self.inside { history = c.record.new.history; spare = c.self.inside.spare - 1 }

entry_of : After-self-1 → Entry
entry_of c = record { caller = c.args.caller; call = Stats; answer = Statistics c.statistics-stats.result }

is_asked : (c : After-self-1) → IsAsked c.self.inside (after_call c) (entry_of c)
unfolding after_call entry_of after_entry after answer_of statistics_of
is_asked c = record {
  step = refl;
  legal = record { allowed = tt; answered = ap (λ s. Statistics s) (c.statistics-stats.ensures ∙ ap (λ zs. statistics_of_ranges zs) c.self.invariant.ranges) };
  others = refl;
  history = c.record.ensures.entry;
  spare = omega (arith, c.requires.spare, ap (λ v. v.spare) c.self.view_is);
  len = c.record.ensures.len;
  room = c.record.ensures.room;
}

pub invariant_of-self : goal.invariant_of-self
unfolding after_call
invariant_of-self c = next_heap c.self.inside (after_call c) (entry_of c) (plain_of c.self.inside) c.self.invariant (asked c.self.inside (after_call c) (entry_of c) c.self.invariant (is_asked c))

pub returns : goal.returns
unfolding after_call entry_of
returns c =
    next_call c.self.inside (after_call c) (entry_of c) (plain_of c.self.inside) c.self.invariant (asked c.self.inside (after_call c) (entry_of c) c.self.invariant (is_asked c)) c.args.self.now c.self.view_is
    (omega (arith, c.requires.spare, ap (λ v. v.spare) c.self.view_is))
