use Rattle.std.proofs.Common.{◌≡◌, ◌∷◌, ◌++◌, [], List, ℕ, ap, ◌∙◌, sym, filter, true, false, arith}
use Rattle.std.specs.List.{range_with_len}
use Rattle.std.proofs.lemmas.List.{append-nil}
use Rattle.hp_proc.specs.Heaps.{names_socket}
use Rattle.hp_run.proofs.OpeningLemmas.{named_more}
use Rattle.hp_run.proofs.opening.sockets_of.Goals.{then-names_socket+in_ok-push, else-names_socket}
use Rattle.hp_run.proofs.opening.sockets_of.Goals as goal

pub loop-socket-preserved : goal.loop-socket-preserved
loop-socket-preserved c =
    let pools = c.args.pools.now in
    let socket = c.loop-socket.socket in
    elim c.if-names_socket.branch [
      | then-names_socket+in_ok-push w ↦
          ap (λ sockets. sockets.items) w.sockets-is
          ∙ w.in_ok-push.ensures.items
          ∙ ap (λ (sockets : List ℕ). sockets ++ socket ∷ []) c.loop-socket.invariant
          ∙ sym (named_more pools socket true (sym c.names_socket.ensures ∙ w.if-names_socket.true))
      | else-names_socket w ↦
          ap (λ sockets. sockets.items) w.sockets-is
          ∙ c.loop-socket.invariant
          ∙ sym (named_more pools socket false (sym c.names_socket.ensures ∙ w.if-names_socket.false)
          ∙ append-nil (filter (names_socket pools) (range_with_len 0 socket)))
    ]

pub returns : goal.returns
returns c =
    let all : c.loop-socket.socket ≡ 32 = omega (arith, c.loop-socket-test.false, c.loop-socket.auto.socket-end) in
    c.loop-socket.invariant ∙ ap (λ (n : ℕ). filter (names_socket c.args.pools.now) (range_with_len 0 n)) all
