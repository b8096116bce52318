use Rattle.std.proofs.Common.{length, ap, ◌∙◌, arith}
use Rattle.std.proofs.lemmas.List.{length_push}
use Rattle.hp_mempool.specs.PassView.{PassView}
use Rattle.hp_mempool.proofs.RoundLemmas.{gathered_all, gathered_one, gathers, last_worker, worker_of}
use Rattle.hp_mempool.proofs.sharing.gathered.Goals as goal

pub loop-other-init : goal.loop-other-init
loop-other-init c = record {
  gathered = gathers c.args.pool.now c.args.first.places (length c.args.back.items) c.args.first c.requires.first;
  back = c.requires.back;
}

pub join-requires-clause-pool : goal.join-requires-clause-pool
join-requires-clause-pool c = c.loop-other.invariant.gathered.of

pub join-requires-clause-other : goal.join-requires-clause-other
join-requires-clause-other c =
    worker_of c.args.pool.now c.args.first.places (length c.pop.new.self.items) c.in-Some.other
    (last_worker c.args.pool.now c.args.first.places c.loop-other.back.items c.pop.new.self.items c.in-Some.other c.in-Some.ensures.items c.loop-other.invariant.back).0

pub join-requires-clause-none : goal.join-requires-clause-none
join-requires-clause-none c =
    ap (λ (p : PassView). p.has)
    (last_worker c.args.pool.now c.args.first.places c.loop-other.back.items c.pop.new.self.items c.in-Some.other c.in-Some.ensures.items c.loop-other.invariant.back).0

pub loop-other-preserved : goal.loop-other-preserved
loop-other-preserved c =
    let rest = c.pop.new.self.items in
    let last = last_worker c.args.pool.now c.args.first.places c.loop-other.back.items rest c.in-Some.other c.in-Some.ensures.items c.loop-other.invariant.back in
    record {
      gathered = gathered_one c.args.pool.now c.args.first.places (length rest) (length c.loop-other.back.items) c.loop-other.first c.join.new.pass c.in-Some.other
          c.loop-other.invariant.gathered (ap length c.in-Some.ensures.items ∙ length_push rest c.in-Some.other) last.0 c.join.ensures;
      back = last.1;
    }

pub loop-other-smaller : goal.loop-other-smaller
loop-other-smaller c =
    let long = ap length c.in-Some.ensures.items in
    let push = length_push c.pop.new.self.items c.in-Some.other in
    omega (arith, long, push)

pub returns-clause-pool : goal.returns-clause-pool
returns-clause-pool c = c.loop-other.invariant.gathered.of

pub returns-clause-whole : goal.returns-clause-whole
returns-clause-whole c =
    gathered_all c.args.pool.now c.loop-other.first (length c.loop-other.back.items) c.loop-other.invariant.gathered
    (let none = c.in_default.ensures.cases.0 in let same = c.loop-other.back.ok.0 in omega (arith, none, same))

pub returns-clause-none : goal.returns-clause-none
returns-clause-none c = c.loop-other.invariant.gathered.none
