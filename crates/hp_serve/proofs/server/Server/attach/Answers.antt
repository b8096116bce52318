-- One that was out is in the roster where it has a table.
use Rattle.std.proofs.Common.{◌≡◌, ◌∙◌, ℕ, Bool, [], ap, sym, subst}
use Rattle.std.specs.Prelude.{◌≢◌}
use Rattle.hp_base.specs.Mapping.{is_done}
use Rattle.hp_serve.specs.Attaching.{LooksIn}
use Rattle.hp_serve.specs.InHall.{IsTiedIn, marked_in}
use Rattle.hp_serve.specs.Party.{Party}
use Rattle.hp_serve.specs.Tied.{IsTied, IsTiedAs, no_chunks}
use Rattle.hp_hall.specs.Holding.{HeapPart}
use Rattle.hp_serve.proofs.Attached.{came_in}
use Rattle.hp_serve.proofs.Tying.{tied_marks}
use Rattle.hp_serve.specs.SegmentSlot.{StaysButRoster}
use Rattle.hp_serve.proofs.AttachedTold.{attached_in, left_so, tied_looking}
use Rattle.hp_serve.proofs.Waits.{on_err}
use Rattle.hp_serve.proofs.server.Server.attach.Goals as goal

pub attach-requires-clause-tied : goal.attach-requires-clause-tied
attach-requires-clause-tied g c =
    let old = g.H.Hall.state c.args.hall.now in
    let was = subst (λ (party : Party). IsTiedIn party.me party old) (sym c.self.view_is) c.requires.tied in
    let out = ap (λ (party : Party). party.joined) c.self.view_is ∙ c.requires.out in
    tied_marks (old.seen c.self.inside.me) (old.own c.self.inside.me) (marked_in c.self.inside.me old) no_chunks c.self.inside.joined
    c.self.inside.maps (λ heap. sym (was.left out heap)) was.table

pub returns-clause-ok : goal.returns-clause-ok
returns-clause-ok g c =
    attached_in c.self.view_is c.requires.secondary c.requires.out c.requires.tied c.in_ok-caught.ensures.ok c.is_done-self-inside.ensures

pub returns-clause-tied : goal.returns-clause-tied
returns-clause-tied g c =
    let old = g.H.Hall.state c.args.hall.now in
    let new = g.H.Hall.state c.attach.new.hall in
    let at = c.in_ok-caught.ensures.ok in
    let was = subst (λ (party : Party). IsTiedIn party.me party old) (sym c.self.view_is) c.requires.tied in
    let out = ap (λ (party : Party). party.joined) c.self.view_is ∙ c.requires.out in
    let me = c.self.inside.me in
    let left : (heap : ℕ) → marked_in me new heap ≡ [] =
    λ heap. ap (λ (part : HeapPart). part.marked) (c.attach.ensures.stays.part heap) ∙ was.left out heap in
    let noted : is_done c.in_ok-caught.caught ≡ c.is_done-self-inside.result = sym c.is_done-self-inside.ensures in
    subst (λ (who : ℕ). IsTiedAs (new.seen who) (new.own who) (marked_in who new) (new.joined who) c.is_done-self-inside.result c.attach.new.maps)
    (ap (λ (party : Party). party.me) c.self.view_is)
    (record {
      table = tied_marks (new.seen me) (new.own me) no_chunks (marked_in me new) c.is_done-self-inside.result c.attach.new.maps left
          (subst (λ (joined : Bool). IsTied (new.seen me) (new.own me) no_chunks joined c.attach.new.maps) noted at.tied);
      same = came_in (old.joined me) c.self.inside.joined (new.joined me) (is_done c.in_ok-caught.caught) was.same out at.roster ∙ noted;
      left = λ gone. left;
    })

-- there was no room to tell
pub returns-in_err-caught-clause-err : goal.returns-in_err-caught-clause-err
returns-in_err-caught-clause-err g c =
    let old = g.H.Hall.state c.args.hall.now in
    let new = g.H.Hall.state c.attach.new.hall in
    let is = c.in_err-caught.ensures.err in
    on_err c.from_residual.result _ (
      left_so c.attach.new.maps c.attach.new.watchers.listeners c.self.view_is is.0 is.1,
      subst (λ (party : Party). party.listeners ≢ []) c.self.view_is is.2,
      subst (λ (who : ℕ). LooksIn who old new) (ap (λ (party : Party). party.me) c.self.view_is) is.3,
    )

pub returns-in_err-caught-clause-tied : goal.returns-in_err-caught-clause-tied
returns-in_err-caught-clause-tied g c =
    let old = g.H.Hall.state c.args.hall.now in
    let new = g.H.Hall.state c.attach.new.hall in
    let me = ap (λ (party : Party). party.me) c.self.view_is in
    let is = c.in_err-caught.ensures.err in
    subst (λ (party : Party). IsTiedIn c.args.self.now.me party new)
    (sym (left_so c.attach.new.maps c.attach.new.watchers.listeners c.self.view_is is.0 is.1))
    (tied_looking c.args.self.now c.requires.tied
    (subst (λ (who : ℕ). StaysButRoster who old new) me c.attach.ensures.stays)
    (subst (λ (who : ℕ). LooksIn who old new) me is.3))
