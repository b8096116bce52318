use Rattle.std.proofs.Common.{◌≡◌, ◌*◌, ℕ, ap, subst, arith}
use Rattle.hp_mempool.specs.Asked.{asked_of, stride_of}
use Rattle.hp_mempool.specs.Objects.{IsLaid}
use Rattle.hp_mempool.proofs.FaultOrder.{is_right}
use Rattle.hp_mempool.proofs.ObjectLemmas.{are_apart, lie_in}
use Rattle.hp_mempool.proofs.pool.Pool.new.Goals as goal

pub made-requires-clause-some : goal.made-requires-clause-some
made-requires-clause-some c = (is_right (asked_of c.args.n c.args.size c.args.cache c.args.zone.now.len) c.in_ok-stride.ensures.acceptable).0

pub made-requires-clause-fits : goal.made-requires-clause-fits
made-requires-clause-fits c =
    let right = is_right (asked_of c.args.n c.args.size c.args.cache c.args.zone.now.len) c.in_ok-stride.ensures.acceptable in
    let fits = right.1 in
    let same : c.args.n * c.in_ok-stride.stride ≡ c.args.n * stride_of c.args.size = ap (λ (s : ℕ). c.args.n * s) c.in_ok-stride.ensures.stride_is in
    let room = c.requires in
    omega (arith, fits, same, room)

pub returns-in-Ok-clause-within : goal.returns-in-Ok-clause-within
returns-in-Ok-clause-within c =
    let right = is_right (asked_of c.args.n c.args.size c.args.cache c.args.zone.now.len) c.in_ok-stride.ensures.acceptable in
    let laid = subst (λ (s : ℕ). IsLaid c.in-Ok.made.0 c.args.zone.now.addr c.args.n c.args.size s) c.in_ok-stride.ensures.stride_is c.in-Ok.ensures.made in
    lie_in c.in-Ok.made.0 c.args.zone.now.addr c.args.n c.args.size laid c.args.zone.now.len right.1

pub returns-in-Ok-clause-apart : goal.returns-in-Ok-clause-apart
returns-in-Ok-clause-apart c =
    let laid = subst (λ (s : ℕ). IsLaid c.in-Ok.made.0 c.args.zone.now.addr c.args.n c.args.size s) c.in_ok-stride.ensures.stride_is c.in-Ok.ensures.made in
    are_apart c.in-Ok.made.0 c.args.zone.now.addr c.args.n c.args.size laid
