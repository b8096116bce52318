use Rattle.std.proofs.Common.{◌<◌, ◌≤◌, length, ap, sym, arith}
use Rattle.hp_report.proofs.NameLemmas.{kept_here, kept_past}
use Rattle.hp_report.proofs.names.Names.of.Goals as goal

pub returns-then-number-len : goal.returns-then-number-len
returns-then-number-len c =
    let names = c.args.self.now.names in
    let within : c.args.tag.number < length names.items = omega (arith, c.if-number-len.true, c.len.ensures, names.ok.0) in
    kept_here names.items c.args.tag.number c.index.result.now within (ap (λ name. name.now) c.index.ensures)

pub returns-else-number-len : goal.returns-else-number-len
returns-else-number-len c =
    let names = c.args.self.now.names in
    let past : length names.items ≤ c.args.tag.number = omega (arith, c.if-number-len.false, c.len.ensures, names.ok.0) in
    sym (kept_past names.items c.args.tag.number past)
