-- What those weigh who serve in one thread: one that served, and what a jump of the clock leaves.
use Rattle.std.proofs.Common.{◌≡◌, ℕ, zero, suc, ◌+◌, ◌<◌, ◌≤◌, Bool, List, [], ◌∷◌, get_or, set, Option, Some, None, refl, sym, ap, subst, ◌∙◌, ⊎_elim, arith}
use Rattle.std.specs.List.{slice_get, sum_by}
use Rattle.std.proofs.lemmas.List.Sums.{sum_by-cons, sum_by-le-sum_by, sum_by-set}
use Rattle.std.proofs.lemmas.Option.{get_or_from_slice_get, same_Some, slice_get_within}
use Rattle.hp_core.specs.Core.{Core, due_of}
use Rattle.hp_hall.proofs.AsksOfHalls.Pending.{pending_falls, pending_later, pending_past}
use Rattle.hp_plain.specs.HallView.{HallView}
use Rattle.hp_hall.specs.Measures.{boxes_measure, counted, pending_at}
use Rattle.hp_serve.specs.Falling.{if_moved, own_measure}
use Rattle.hp_serve.specs.Party.{Party, due_in}
use Rattle.hp_solo.specs.Solo.{IsNextDue, IsPendingDue, AloneView, due_at, party_in, party_measure, server_at, server_measure, servers_measure}

-- a sum falls where no term rises and one falls
sum_falls : {X : Type 0} (f g : X → ℕ) (xs : List X) (i : ℕ) (x : X) → ((y : X) → f y ≤ g y) → slice_get xs i ≡ Some x → f x + 1 ≤ g x
    → sum_by f xs + 1 ≤ sum_by g xs
sum_falls f g [] i x all there falls = cc
sum_falls f g (y ∷ xs) zero x all there falls =
    let head : f y + 1 ≤ g y = subst (λ z. f z + 1 ≤ g z) (sym (same_Some y x there)) falls in
    omega (arith, head, sum_by-cons f y xs, sum_by-cons g y xs, sum_by-le-sum_by f g xs all)
sum_falls f g (y ∷ xs) (suc i) x all there falls =
    omega (arith, all y, sum_by-cons f y xs, sum_by-cons g y xs, sum_falls f g xs i x all there falls)

counted_falls : (clock next : ℕ) (due : Option ℕ) → clock ≤ next → counted (pending_at next) due ≤ counted (pending_at clock) due
counted_falls clock next None later = omega arith
counted_falls clock next (Some due) later = pending_falls clock next due later

core_falls : (clock next : ℕ) (core : Option Core) → clock ≤ next → own_measure 1 (pending_at next) core ≤ own_measure 1 (pending_at clock) core
core_falls clock next None later = omega arith
core_falls clock next (Some core) later = omega (arith, counted_falls clock next (due_of core.deadline core.phase) later)

party_falls : (clock next : ℕ) (party : Option Party) → clock ≤ next → party_measure (pending_at next) party ≤ party_measure (pending_at clock) party
party_falls clock next None later = omega arith
party_falls clock next (Some party) later = core_falls clock next party.core later

server_falls : (clock next : ℕ) (server : AloneView) → clock ≤ next → server_measure (pending_at next) server ≤ server_measure (pending_at clock) server
server_falls clock next server later = omega (arith, party_falls clock next server.party later)

-- at its deadline what is under way weighs one less
core_due : (clock next : ℕ) (core : Option Core) → clock < next → due_in core ≡ Some next
    → own_measure 1 (pending_at next) core + 1 ≤ own_measure 1 (pending_at clock) core
core_due clock next None later due = cc
core_due clock next (Some core) later due =
    let due_is : due_of core.deadline core.phase ≡ Some next = due in
    let now : counted (pending_at next) (due_of core.deadline core.phase) ≡ 0 =
    ap (counted (pending_at next)) due_is ∙ pending_past next next (omega arith) in
    let before : counted (pending_at clock) (due_of core.deadline core.phase) ≡ 1 =
    ap (counted (pending_at clock)) due_is ∙ pending_later clock next later in
    omega arith

party_due : (clock next : ℕ) (party : Option Party) → clock < next → due_at party ≡ Some next
    → party_measure (pending_at next) party + 1 ≤ party_measure (pending_at clock) party
party_due clock next None later due = cc
party_due clock next (Some party) later due = core_due clock next party.core later due

-- who has a deadline is there
due_there : (servers : List AloneView) (who : ℕ) (next : ℕ) (server : Option AloneView) → server_at servers who ≡ server
    → due_at (party_in server) ≡ Some next → (there : AloneView) × (server_at servers who ≡ Some there) × (due_at there.party ≡ Some next)
due_there servers who next None is due = cc
due_there servers who next (Some server) is due = (server, is, due)

pub servers_due : (clock next : ℕ) (servers : List AloneView) → IsPendingDue clock servers next
    → servers_measure (pending_at next) servers + 1 ≤ servers_measure (pending_at clock) servers
servers_due clock next servers is =
    let later = is.2 in
    let there = due_there servers is.0 next (server_at servers is.0) refl is.1 in
    sum_falls (server_measure (pending_at next)) (server_measure (pending_at clock)) servers is.0 there.0
    (λ server. server_falls clock next server (omega arith)) there.1
    (omega (arith, party_due clock next there.0.party later there.2))

-- a jump to the next deadline makes what is awaited smaller
pub jump_falls : (clock next until : ℕ) (servers : List AloneView) → IsNextDue clock servers until next
    → servers_measure (pending_at next) servers + pending_at next until + 1 ≤ servers_measure (pending_at clock) servers + pending_at clock until
jump_falls clock next until servers is =
    let all : servers_measure (pending_at next) servers ≤ servers_measure (pending_at clock) servers =
    sum_by-le-sum_by (server_measure (pending_at next)) (server_measure (pending_at clock)) servers
    (λ server. server_falls clock next server (omega (arith, is.later))) in
    ⊎_elim
    (λ (same : next ≡ until). omega (arith, all, pending_past next until (omega arith), pending_later clock until (omega (arith, is.later))))
    (λ (of : IsPendingDue clock servers next).
    omega (arith, servers_due clock next servers of, pending_falls clock next until (omega (arith, is.later))))
    is.whose

-- one that served weighs as it does now, and all others as before
served_weighs : (pending : ℕ → ℕ) (servers : List AloneView) (number : ℕ) (server after : AloneView) → slice_get servers number ≡ Some server
    → servers_measure pending (set servers number after) + server_measure pending server ≡ servers_measure pending servers + server_measure pending after
served_weighs pending servers number server after there =
    let put = sum_by-set (server_measure pending) servers number after server (slice_get_within servers number server there) in
    let was : get_or servers number server ≡ server = get_or_from_slice_get servers number server server there in
    omega (arith, put, ap (server_measure pending) was)

-- by as much as one that served weighs less, all weigh less
pub served_falls : (old new : HallView) (servers : List AloneView) (number : ℕ) (server after : AloneView) (moved : Bool)
    → slice_get servers number ≡ Some server → new.clock ≡ old.clock
    → boxes_measure new.boxes + server_measure (pending_at new.clock) after + if_moved moved
    ≤ boxes_measure old.boxes + server_measure (pending_at old.clock) server
    → boxes_measure new.boxes + servers_measure (pending_at new.clock) (set servers number after) + if_moved moved
    ≤ boxes_measure old.boxes + servers_measure (pending_at old.clock) servers
served_falls old new servers number server after moved there clock falls =
    let one : server_measure (pending_at new.clock) after ≡ server_measure (pending_at old.clock) after =
    ap (λ (at : ℕ). server_measure (pending_at at) after) clock in
    let all : servers_measure (pending_at new.clock) (set servers number after) ≡ servers_measure (pending_at old.clock) (set servers number after) =
    ap (λ (at : ℕ). servers_measure (pending_at at) (set servers number after)) clock in
    omega (arith, falls, one, all, served_weighs (pending_at old.clock) servers number server after there)
