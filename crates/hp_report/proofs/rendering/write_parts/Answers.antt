use Rattle.std.proofs.Common.{[], ◌++◌, refl}
use Rattle.std.specs.Prelude.{codes}
use Rattle.hp_report.specs.KnownNames.{known}
use Rattle.hp_report.proofs.AddingLemmas.{added_page, begins, ends, exits, exits_here, goes_on}
use Rattle.hp_report.proofs.PartsLemmas.{behind_answers, behind_heaps, behind_log, behind_tables, from_answers, from_heaps, from_log}
use Rattle.hp_report.proofs.rendering.write_parts.Goals as goal

pub returns-in_err-write_answers : goal.returns-in_err-write_answers
returns-in_err-write_answers g c =
    let ended = c.args.ended.now in
    let names = known c.args.names.now in
    exits _ (behind_answers names ended) c.from_residual.result _ (begins _ _) (rw (c.as_slice-lines.ensures.value, c.as_slice-answers.ensures.value) at c.in_err-write_answers.ensures) (from_answers names ended) c.from_residual.ensures.1 (λ other same. same)

pub returns-in_err-write_memory : goal.returns-in_err-write_memory
returns-in_err-write_memory g c =
    let ended = c.args.ended.now in
    let names = known c.args.names.now in
    let answered = goes_on _ (behind_answers names ended) (begins _ _) (rw (c.as_slice-lines.ensures.value, c.as_slice-answers.ensures.value) at c.in_ok-write_answers.ensures) (from_answers names ended) in
    exits _ (behind_heaps ended) c.from_residual-in_err-write_memory.result _ answered (rw c.as_slice-heaps.ensures.value at c.in_err-write_memory.ensures) (from_heaps names ended) c.from_residual-in_err-write_memory.ensures.1 (λ other same. same)

pub returns-in_err-write_log : goal.returns-in_err-write_log
returns-in_err-write_log g c =
    let ended = c.args.ended.now in
    let names = known c.args.names.now in
    let answered = goes_on _ (behind_answers names ended) (begins _ _) (rw (c.as_slice-lines.ensures.value, c.as_slice-answers.ensures.value) at c.in_ok-write_answers.ensures) (from_answers names ended) in
    let remembered = goes_on _ (behind_heaps ended) answered (rw c.as_slice-heaps.ensures.value at c.in_ok-write_memory.ensures) (from_heaps names ended) in
    exits _ (behind_log ended) c.from_residual-in_err-write_log.result _ remembered c.in_err-write_log.ensures (from_log ended) c.from_residual-in_err-write_log.ensures.1 (λ other same. same)

pub returns-in_err-write_tables : goal.returns-in_err-write_tables
returns-in_err-write_tables g c =
    let ended = c.args.ended.now in
    let names = known c.args.names.now in
    let answered = goes_on _ (behind_answers names ended) (begins _ _) (rw (c.as_slice-lines.ensures.value, c.as_slice-answers.ensures.value) at c.in_ok-write_answers.ensures) (from_answers names ended) in
    let remembered = goes_on _ (behind_heaps ended) answered (rw c.as_slice-heaps.ensures.value at c.in_ok-write_memory.ensures) (from_heaps names ended) in
    let logged = goes_on _ (behind_log ended) remembered c.in_ok-write_log.ensures (from_log ended) in
    exits _ (behind_tables ended) c.from_residual-in_err-write_tables.result _ logged (rw c.as_slice-tables.ensures.value at c.in_err-write_tables.ensures) refl c.from_residual-in_err-write_tables.ensures.1 (λ other same. same)

pub returns-in_err-write_events : goal.returns-in_err-write_events
returns-in_err-write_events g c =
    let ended = c.args.ended.now in
    let names = known c.args.names.now in
    let answered = goes_on _ (behind_answers names ended) (begins _ _) (rw (c.as_slice-lines.ensures.value, c.as_slice-answers.ensures.value) at c.in_ok-write_answers.ensures) (from_answers names ended) in
    let remembered = goes_on _ (behind_heaps ended) answered (rw c.as_slice-heaps.ensures.value at c.in_ok-write_memory.ensures) (from_heaps names ended) in
    let logged = goes_on _ (behind_log ended) remembered c.in_ok-write_log.ensures (from_log ended) in
    let tabled = goes_on _ (behind_tables ended) logged (rw c.as_slice-tables.ensures.value at c.in_ok-write_tables.ensures) refl in
    exits _ (codes "end\n" ++ []) c.from_residual-in_err-write_events.result _ tabled (rw c.as_slice-watchers.ensures.value at c.in_err-write_events.ensures) refl c.from_residual-in_err-write_events.ensures.1 (λ other same. same)

pub returns-in_err-put : goal.returns-in_err-put
returns-in_err-put g c =
    let ended = c.args.ended.now in
    let names = known c.args.names.now in
    let answered = goes_on _ (behind_answers names ended) (begins _ _) (rw (c.as_slice-lines.ensures.value, c.as_slice-answers.ensures.value) at c.in_ok-write_answers.ensures) (from_answers names ended) in
    let remembered = goes_on _ (behind_heaps ended) answered (rw c.as_slice-heaps.ensures.value at c.in_ok-write_memory.ensures) (from_heaps names ended) in
    let logged = goes_on _ (behind_log ended) remembered c.in_ok-write_log.ensures (from_log ended) in
    let tabled = goes_on _ (behind_tables ended) logged (rw c.as_slice-tables.ensures.value at c.in_ok-write_tables.ensures) refl in
    let told = goes_on _ (codes "end\n" ++ []) tabled (rw c.as_slice-watchers.ensures.value at c.in_ok-write_events.ensures) refl in
    exits_here c.put.new.self c.from_residual-in_err-put.result told c.from_residual-in_err-put.ensures.1

pub returns : goal.returns
returns g c =
    let ended = c.args.ended.now in
    let names = known c.args.names.now in
    let answered = goes_on _ (behind_answers names ended) (begins _ _) (rw (c.as_slice-lines.ensures.value, c.as_slice-answers.ensures.value) at c.in_ok-write_answers.ensures) (from_answers names ended) in
    let remembered = goes_on _ (behind_heaps ended) answered (rw c.as_slice-heaps.ensures.value at c.in_ok-write_memory.ensures) (from_heaps names ended) in
    let logged = goes_on _ (behind_log ended) remembered c.in_ok-write_log.ensures (from_log ended) in
    let tabled = goes_on _ (behind_tables ended) logged (rw c.as_slice-tables.ensures.value at c.in_ok-write_tables.ensures) refl in
    let told = goes_on _ (codes "end\n" ++ []) tabled (rw c.as_slice-watchers.ensures.value at c.in_ok-write_events.ensures) refl in
    ends (goes_on (codes "end\n") [] told (added_page _ _ _ _ (codes "end\n") c.in_ok-put.ensures) refl) refl
