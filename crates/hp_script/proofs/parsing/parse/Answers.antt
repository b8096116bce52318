-- What holds of what was read holds of the workload.
use Rattle.hp_script.proofs.PoolLemmas.{reading_pools}
use Rattle.hp_script.proofs.LineLemmas.{reading_lines}
use Rattle.hp_script.proofs.FactLemmas.{reading_facts}
use Rattle.hp_script.proofs.MadeLemmas.{reading_made}
use Rattle.hp_script.proofs.SetupFacts.{reading_setup}
use Rattle.std.proofs.Common.{length}
use Rattle.hp_script.specs.Spans.{all_tokens}
use Rattle.hp_script.proofs.SpanLemmas.{reading_slices, slices_lent}
use Rattle.hp_script.proofs.parsing.parse.Goals as goal

pub returns-in-Ok-clause-pools : goal.returns-in-Ok-clause-pools
returns-in-Ok-clause-pools c = rw c.finish.ensures.read.pools (reading_pools c.args.bytes c.in-Ok.reader c.in-Ok.ensures)

pub returns-in-Ok-clause-lines : goal.returns-in-Ok-clause-lines
returns-in-Ok-clause-lines c = rw c.finish.ensures.read.lines (reading_lines c.args.bytes c.in-Ok.reader c.in-Ok.ensures)

pub returns-in-Ok-clause-acts : goal.returns-in-Ok-clause-acts
returns-in-Ok-clause-acts c = rw c.finish.ensures.read.lines (reading_facts c.args.bytes c.in-Ok.reader c.in-Ok.ensures).acts

pub returns-in-Ok-clause-awaits : goal.returns-in-Ok-clause-awaits
returns-in-Ok-clause-awaits c =
    rw (c.finish.ensures.read.lines, c.finish.ensures.read.participants) (reading_facts c.args.bytes c.in-Ok.reader c.in-Ok.ensures).awaits

pub returns-in-Ok-clause-plan : goal.returns-in-Ok-clause-plan
returns-in-Ok-clause-plan c =
    rw (c.finish.ensures.read.plan, c.finish.ensures.read.participants) (reading_setup c.args.bytes c.in-Ok.reader c.in-Ok.ensures).plan

pub returns-in-Ok-clause-sockets : goal.returns-in-Ok-clause-sockets
returns-in-Ok-clause-sockets c = rw c.finish.ensures.read.sockets (reading_setup c.args.bytes c.in-Ok.reader c.in-Ok.ensures).sockets

pub returns-in-Ok-clause-absent : goal.returns-in-Ok-clause-absent
returns-in-Ok-clause-absent c =
    rw (c.finish.ensures.read.absent, c.finish.ensures.read.participants) (reading_setup c.args.bytes c.in-Ok.reader c.in-Ok.ensures).absent

pub returns-in-Ok-clause-labels : goal.returns-in-Ok-clause-labels
returns-in-Ok-clause-labels c = rw c.finish.ensures.read.lines (reading_made c.args.bytes c.in-Ok.reader c.in-Ok.ensures)

pub returns-in-Ok-clause-read : goal.returns-in-Ok-clause-read
returns-in-Ok-clause-read c = record { at = c.args.bytes.ref_ptr; read = c.in-Ok.reader; whole = c.in-Ok.ensures; workload_is = c.finish.ensures.read }

pub returns-in-Ok-clause-lent : goal.returns-in-Ok-clause-lent
returns-in-Ok-clause-lent c =
    rw c.finish.ensures.read.lines (slices_lent c.args.bytes 0 (length c.args.bytes.now) (all_tokens c.in-Ok.reader.lines) (reading_slices c.args.bytes c.in-Ok.reader c.in-Ok.ensures))
