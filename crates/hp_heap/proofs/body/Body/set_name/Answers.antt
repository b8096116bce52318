use Rattle.std.proofs.Common.{◌-◌, Some, refl, ap, arith}
use Rattle.hp_heap.specs.declared.body.Body.TheInside.{Inside}
use Rattle.hp_heap.specs.declared.entry.Entry.{Entry}
use Rattle.hp_heap.specs.declared.entry.HeapCall.TheVariants.{Name}
use Rattle.hp_heap.specs.declared.entry.HeapAnswer.TheVariants.{Done}
use Rattle.hp_heap.specs.Step.{after, after_name, answer_of}
use Rattle.hp_heap.specs.History.{after_entry}
use Rattle.hp_heap.specs.Inside.{plain_of}
use Rattle.hp_heap.proofs.HistoryFacts.HeapLaw.{IsNext, next_heap, next_call}
use Rattle.hp_heap.proofs.ChunkFacts.BesideLemmas.{beside, renamed}
use Rattle.hp_heap.proofs.body.Body.set_name.Goals as goal
use Rattle.hp_heap.proofs.body.Body.set_name.Goals.{After-self-3-1}

-- the fields afterwards, and the entry
after_call : After-self-3-1 → Inside
after_call c = record c.self.inside { name = Some c.args.name; socket = c.args.socket; history = c.record.new.history; spare = c.self.inside.spare - 1 }

entry_of : After-self-3-1 → Entry
entry_of c = record { caller = c.args.caller; call = Name c.args.name c.args.socket; answer = Done }

is_next : (c : After-self-3-1) → IsNext c.self.inside (after_call c) (entry_of c) (after_name (Some c.args.name) c.args.socket (plain_of c.self.inside))
unfolding after_call entry_of after_entry after after_name answer_of
is_next c =
    beside c.self.inside (after_call c) (entry_of c) (after_name (Some c.args.name) c.args.socket (plain_of c.self.inside)) c.self.invariant
    (record { others = refl; history = c.record.ensures.entry; spare = omega (arith, c.requires, ap (λ v. v.spare) c.self.view_is); len = c.record.ensures.len; room = c.record.ensures.room; chunk_len = refl; chunk_room = refl })
    (renamed c.self.inside (after_call c) (entry_of c) (Some c.args.name) c.args.socket c.self.invariant refl (record { allowed = tt; answered = refl }) refl refl refl)

pub invariant_of-self : goal.invariant_of-self
unfolding after_call
invariant_of-self c = next_heap c.self.inside (after_call c) (entry_of c) (after_name (Some c.args.name) c.args.socket (plain_of c.self.inside)) c.self.invariant (is_next c)

pub returns : goal.returns
unfolding after_call entry_of
returns c =
    next_call c.self.inside (after_call c) (entry_of c) (after_name (Some c.args.name) c.args.socket (plain_of c.self.inside)) c.self.invariant (is_next c) c.args.self.now c.self.view_is
    (omega (arith, c.requires, ap (λ v. v.spare) c.self.view_is))
