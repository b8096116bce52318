-- An element has its data in the store or not.
use Rattle.std.proofs.Common.{◌≡◌, Bool, true, false, cond, sym, ap, ◌∙◌, rules}
use Rattle.std.specs.Prelude.{Some, None, length}
use Rattle.hp_bytes.specs.Stores.{lies_in}
use Rattle.hp_bytes.specs.Parts.{IsPartFrom}
use Rattle.hp_bytes.specs.declared.fault.ByteFault.TheVariants.{Outside}
use Rattle.hp_bytes.proofs.StoreLemmas.{no_size, size_fault, size_there}
use Rattle.hp_bytes.proofs.store.Store.part_at.Goals as goal

pub returns-in_default-clause-refused : goal.returns-in_default-clause-refused
returns-in_default-clause-refused c = no_size c.args.heap.now.plain c.args.addr c.args.self.now c.in_default.ensures

pub returns-in-Some-part_of-clause-refused : goal.returns-in-Some-part_of-clause-refused
returns-in-Some-part_of-clause-refused c =
    let lies : lies_in c.args.addr c.in-Some.size c.args.self.now ≡ true = sym (search rules) in
    sym (size_fault c.args.heap.now.plain c.args.addr c.in-Some.size c.args.self.now c.in-Some.ensures ∙ ap (λ (b : Bool). cond b None (Some (Outside c.args.addr))) lies)

pub returns-in-Some-part_of-clause-part : goal.returns-in-Some-part_of-clause-part
returns-in-Some-part_of-clause-part c =
    let part : IsPartFrom c.args.self.now.base (length c.args.self.now.bytes) c.args.addr c.in-Some.size c.in-Some-part_of.part = search rules in
    record { from = part.from; len = part.len ∙ size_there c.args.heap.now.plain c.args.addr c.in-Some.size c.in-Some.ensures; within = part.within }

pub returns-in-None-clause-refused : goal.returns-in-None-clause-refused
returns-in-None-clause-refused c =
    let lies : lies_in c.args.addr c.in-Some.size c.args.self.now ≡ false = sym (search rules) in
    sym (size_fault c.args.heap.now.plain c.args.addr c.in-Some.size c.args.self.now c.in-Some.ensures ∙ ap (λ (b : Bool). cond b None (Some (Outside c.args.addr))) lies)
