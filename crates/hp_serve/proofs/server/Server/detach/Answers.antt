-- One that left the roster has no table.
use Rattle.std.proofs.Common.{◌≡◌, ◌∙◌, ℕ, [], false, List, length, refl, ap, sym, subst, arith}
use Rattle.std.specs.Prelude.{◌≢◌}
use Rattle.hp_base.specs.Telling.{Listener}
use Rattle.hp_events.specs.Watchers.{WatchersView}
use Rattle.hp_hall.proofs.HallStates.{others_same, parts_same, slots_same}
use Rattle.hp_maps.specs.Events.{IsToldByAddress}
use Rattle.hp_maps.specs.MapsView.{MapsView}
use Rattle.hp_serve.specs.Attaching.{HasLeftIn, after_detaching}
use Rattle.hp_serve.specs.InHall.{IsTiedIn, marked_in}
use Rattle.hp_serve.specs.Party.{Party}
use Rattle.hp_serve.specs.Tied.{IsTiedAs, no_chunks}
use Rattle.hp_hall.specs.Holding.{HeapPart}
use Rattle.hp_serve.proofs.AttachedTold.{left_so}
use Rattle.hp_serve.proofs.Tying.{tied_marks}
use Rattle.hp_serve.proofs.Waits.{on_err}
use Rattle.hp_serve.proofs.server.Server.detach.Goals as goal

pub detach-requires-clause-tied : goal.detach-requires-clause-tied
detach-requires-clause-tied g c =
    let old = g.H.Hall.state c.args.hall.now in
    let was = subst (λ (party : Party). IsTiedIn party.me party old) (sym c.self.view_is) c.requires.tied in
    let left = subst (λ (party : Party). (heap : ℕ) → marked_in party.me old heap ≡ []) (sym c.self.view_is) c.requires.left in
    tied_marks (old.seen c.self.inside.me) (old.own c.self.inside.me) (marked_in c.self.inside.me old) no_chunks c.self.inside.joined
    c.self.inside.maps (λ heap. sym (left heap)) was.table

-- there is room for as many events as it has rows
pub detach-requires-clause-room : goal.detach-requires-clause-room
detach-requires-clause-room g c =
    let spare : c.reserve.new.self.spare ≡ _ = ap (λ (watchers : WatchersView). watchers.spare) c.in_ok-reserve.ensures.ok in
    omega (arith, spare, ap length c.rows-rows.ensures.rows)

pub returns-clause-ok : goal.returns-clause-ok
returns-clause-ok g c =
    let old = g.H.Hall.state c.args.hall.now in
    let new = g.H.Hall.state c.detach.new.hall in
    let same : c.reserve.new.self.listeners ≡ c.self.inside.watchers.listeners =
    ap (λ (watchers : WatchersView). watchers.listeners) c.in_ok-reserve.ensures.ok in
    let left : List Listener → Party → Party = λ heard party. after_detaching heard party in
    record {
      told = subst (λ (party : Party). IsToldByAddress party.maps.rows party.listeners c.detach.new.watchers.listeners) c.self.view_is
          (subst (λ (heard : List Listener). IsToldByAddress c.self.inside.maps.rows heard c.detach.new.watchers.listeners) same
          c.detach.ensures.told);
      after_is = ap (λ (maps : MapsView). record {
        me = c.self.inside.me;
        socket = c.self.inside.socket;
        joined = false;
        maps = maps;
        listeners = c.detach.new.watchers.listeners;
        plan = c.self.inside.plan.now;
        deadline = c.self.inside.deadline;
        core = c.self.inside.coordinator;
        asked = c.self.inside.asked;
        answered = c.self.inside.answered;
        sent = c.self.inside.sent;
      }) c.detach.ensures.maps ∙ ap (left c.detach.new.watchers.listeners) c.self.view_is;
      left = subst (λ (who : ℕ). HasLeftIn who old new) (ap (λ (party : Party). party.me) c.self.view_is) c.detach.ensures.left;
    }

pub returns-clause-tied : goal.returns-clause-tied
returns-clause-tied g c =
    let me = c.self.inside.me in
    let old = g.H.Hall.state c.args.hall.now in
    let new = g.H.Hall.state c.detach.new.hall in
    let was = subst (λ (party : Party). (heap : ℕ) → marked_in party.me old heap ≡ []) (sym c.self.view_is) c.requires.left in
    let left : (heap : ℕ) → marked_in me new heap ≡ [] =
    λ heap. ap (λ (part : HeapPart). part.marked) (c.detach.ensures.stays.part heap) ∙ was heap in
    subst (λ (who : ℕ). IsTiedAs (new.seen who) (new.own who) (marked_in who new) (new.joined who) false c.detach.new.table)
    (ap (λ (party : Party). party.me) c.self.view_is) (record {
      table = tied_marks (new.seen me) (new.own me) no_chunks (marked_in me new) false c.detach.new.table left c.detach.ensures.tied;
      same = c.detach.ensures.left.roster;
      left = λ gone. left;
    })

-- there was no room to tell, and nothing was done
pub returns-in_err-reserve-clause-err : goal.returns-in_err-reserve-clause-err
returns-in_err-reserve-clause-err g c = on_err c.from_residual.result _ (
  left_so c.self.inside.maps c.reserve.new.self.listeners c.self.view_is refl
      (ap (λ (watchers : WatchersView). watchers.listeners) c.in_err-reserve.ensures.err),
  subst (λ (party : Party). party.listeners ≢ []) c.self.view_is c.in_err-reserve.ensures.watched,
  refl,
)

pub returns-in_err-reserve-clause-tied : goal.returns-in_err-reserve-clause-tied
returns-in_err-reserve-clause-tied g c =
    subst (λ (party : Party). IsTiedIn c.args.self.now.me party (g.H.Hall.state c.args.hall.now))
    (sym (left_so c.self.inside.maps c.reserve.new.self.listeners c.self.view_is refl
    (ap (λ (watchers : WatchersView). watchers.listeners) c.in_err-reserve.ensures.err))) c.requires.tied

pub returns-in_err-reserve-clause-stays : goal.returns-in_err-reserve-clause-stays
returns-in_err-reserve-clause-stays g c =
    let old = g.H.Hall.state c.args.hall.now in
    let me = c.args.self.now.me in
    let parts = parts_same me old in
    record { slots = slots_same old; part = parts.part; lines = parts.lines; others = others_same me old; measure = omega arith }
