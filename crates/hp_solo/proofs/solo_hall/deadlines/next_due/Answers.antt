-- The least deadline as far as one more participant, and as far as all.
use Rattle.std.proofs.Common.{◌≡◌, ℕ, ◌+◌, ◌<◌, ◌≤◌, ◌⊎◌, List, get_or, length, Option, Some, None, refl, sym, ap, subst, ◌∙◌, ⊎_elim, inr, arith}
use Rattle.std.proofs.lemmas.Bool.{cases_lt}
use Rattle.std.proofs.lemmas.Option.{slice_get-get_or, slice_get_within}
use Rattle.hp_solo.specs.Solo.{IsPendingDue, IsSooner, AloneView, due_at, party_at, party_in, server_at}
use Rattle.hp_solo.proofs.solo_hall.deadlines.next_due.Goals as goal

-- the one at an index
due_here : (servers : List AloneView) (number : ℕ) (server : AloneView) → number < length servers → server ≡ get_or servers number server
    → due_at (party_at servers number) ≡ due_at server.party
due_here servers number server below is =
    ap (λ (o : Option AloneView). due_at (party_in o)) (slice_get-get_or servers number server below ∙ ap Some (sym is))

-- who has a deadline is one of them
due_below : (servers : List AloneView) (who due : ℕ) (server : Option AloneView) → server_at servers who ≡ server
    → due_at (party_in server) ≡ Some due → who < length servers
due_below servers who due None is some = cc
due_below servers who due (Some server) is some = slice_get_within servers who server is

next_whose : (clock next until sooner : ℕ) (servers : List AloneView) (number : ℕ) (due : Option ℕ) → due_at (party_at servers number) ≡ due
    → IsSooner clock next due sooner → (next ≡ until) ⊎ IsPendingDue clock servers next → (sooner ≡ until) ⊎ IsPendingDue clock servers sooner
next_whose clock next until sooner servers number due here is whose =
    ⊎_elim
    (λ (same : sooner ≡ next). subst (λ (n : ℕ). (n ≡ until) ⊎ IsPendingDue clock servers n) (sym same) whose)
    (λ (some : due ≡ Some sooner). inr (number, here ∙ some, is.later))
    is.whose

next_least : (clock next sooner : ℕ) (servers : List AloneView) (number : ℕ) (due : Option ℕ) → due_at (party_at servers number) ≡ due
    → IsSooner clock next due sooner
    → ((who other : ℕ) → who < number → due_at (party_at servers who) ≡ Some other → clock < other → next ≤ other)
    → (who other : ℕ) → who < number + 1 → due_at (party_at servers who) ≡ Some other → clock < other → sooner ≤ other
next_least clock next sooner servers number due here is least who other below some later =
    ⊎_elim
    (λ (before : who < number). omega (arith, least who other before some later, is.within))
    (λ (past : number ≤ who).
    let same : who ≡ number = omega (arith, below, past) in
    is.least other (sym here ∙ ap (λ (n : ℕ). due_at (party_at servers n)) (sym same) ∙ some) later)
    (cases_lt who number)

pub loop-number-preserved : goal.loop-number-preserved
loop-number-preserved g c =
    let servers = c.args.servers.now in
    let number = c.loop-number.number in
    let next = c.loop-number.next in
    let sooner = c.sooner-next.result in
    let here = due_here servers number c.index-servers-number.result c.loop-number-test.true c.index-servers-number.is ∙ sym c.due-due.ensures in
    let is = c.sooner-next.ensures in
    let before = c.loop-number.invariant in
    record {
      later = is.later;
      within = omega (arith, is.within, before.within);
      whose = next_whose c.args.clock next c.args.until sooner servers number c.due-due.result here is before.whose;
      least = next_least c.args.clock next sooner servers number c.due-due.result here is before.least;
    }

pub returns : goal.returns
returns g c =
    let servers = c.args.servers.now in
    let before = c.loop-number.invariant in
    record {
      later = before.later;
      within = before.within;
      whose = before.whose;
      least = λ due is.
          let below = due_below servers is.0 due (server_at servers is.0) refl is.1 in
          before.least is.0 due (omega (arith, below, c.loop-number-test.false)) is.1 is.2;
    }
