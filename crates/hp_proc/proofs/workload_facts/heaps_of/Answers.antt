use Rattle.std.proofs.Common.{◌+◌, ap, ◌∙◌, sym, subst, arith}
use Rattle.hp_proc.proofs.SocketHeapLemmas.{AreHeapsBelow, below_none, below_passed, below_more, below_all}
use Rattle.hp_proc.proofs.workload_facts.heaps_of.Goals.{then-names_socket+in_ok-push, else-names_socket}
use Rattle.hp_proc.proofs.workload_facts.heaps_of.Goals as goal

pub loop-socket-init : goal.loop-socket-init
loop-socket-init c = below_none c.args.pools.now c.in_ok-heaps.heaps.items c.in_ok-heaps.ensures.items

pub overflow_cast-index : goal.overflow_cast-index
overflow_cast-index c = record { fits = omega (arith, c.len-index.ensures, c.loop-socket.invariant.few, c.loop-socket-test.true) }

pub loop-socket-preserved : goal.loop-socket-preserved
loop-socket-preserved c =
    elim c.if-names_socket.branch [
      | then-names_socket+in_ok-push w ↦
          subst
          (λ heaps. AreHeapsBelow c.args.pools.now heaps (c.loop-socket.socket + 1))
          (sym (ap (λ heaps. heaps.items) w.heaps-is ∙ w.in_ok-push.ensures.items))
          (below_more c.args.pools.now c.loop-socket.heaps.items c.loop-socket.socket w.len-index.result c.loop-socket.invariant
          (sym c.names_socket.ensures ∙ w.if-names_socket.true) (omega (arith, w.len-index.ensures)))
      | else-names_socket w ↦
          subst
          (λ heaps. AreHeapsBelow c.args.pools.now heaps (c.loop-socket.socket + 1))
          (sym (ap (λ heaps. heaps.items) w.heaps-is))
          (below_passed c.args.pools.now c.loop-socket.heaps.items c.loop-socket.socket c.loop-socket.invariant
          (sym c.names_socket.ensures ∙ w.if-names_socket.false))
    ]

pub returns : goal.returns
returns c =
    below_all c.args.pools.now c.loop-socket.heaps.items c.loop-socket.socket c.loop-socket.invariant
    (omega (arith, c.loop-socket-test.false, c.loop-socket.auto.socket-end))
