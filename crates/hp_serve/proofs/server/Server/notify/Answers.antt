-- The table is tied along the reading of the clock, and the steps follow one another.
use Rattle.std.proofs.Common.{◌≡◌, ◌∙◌, List, [], ◌∷◌, refl, ◌+◌, ◌≤◌, ◌⊎◌, inl, inr, ℕ, true, Some, None, ap, sym, subst, arith}
use Rattle.std.specs.Prelude.{◌^◌}
use Rattle.std.proofs.lemmas.Bool.{cases_lt}
use Rattle.hp_hall.specs.Mail.{MailStep, Notes}
use Rattle.hp_hall.specs.declared.note.Note.TheVariants.{Read}
use Rattle.hp_serve.specs.AskSteps.{StopsNotifying, waits_until}
use Rattle.hp_serve.specs.Party.{IsSameParty, Party}
use Rattle.hp_serve.specs.Waiting.{IsWaited}
use Rattle.hp_serve.proofs.AskingFacts.AskDone.{does_notify, stops_notifying}
use Rattle.hp_serve.proofs.AskingFacts.AskedAlong.{on_err_any}
use Rattle.hp_serve.proofs.Rising.{wait_rises}
use Rattle.hp_hall.specs.HallState.{Did, IsBusy, Stays}
use Rattle.hp_hall.proofs.HallStates.{did_same, did_then, may_still, stays_then, waits_by}
use Rattle.hp_serve.specs.InHall.{CanServe, StaysIn}
use Rattle.hp_serve.proofs.InHalls.{as_then, in_same, parts_marks, tied_later}
use Rattle.hp_serve.proofs.server.Server.notify.Goals as goal

pub send_notice-requires : goal.send_notice-requires
send_notice-requires g c = record { serves = c.requires.can.may.serves; me = c.requires.can.may.declared; tied = c.requires.can.tied }

pub now-since-requires : goal.now-since-requires
now-since-requires g c =
    let who = ap (λ (party : Party). party.me) c.self-2.view_is ∙ ap (λ (party : Party). party.me) c.send_notice.ensures.sent in
    record {
      serves = subst (λ (who : ℕ). (g.H.Hall.state c.send_notice.new.hall).serves who) (sym who)
          (c.send_notice.ensures.stays.others.later.serves c.args.self.now.me c.requires.can.may.serves);
    }

pub wait-requires : goal.wait-requires
wait-requires g c =
    let party = c.args.self.now in
    let me = party.me in
    let old = g.H.Hall.state c.args.hall.now in
    let late = g.H.Hall.state c.now-since.new.self in
    let who = ap (λ (party : Party). party.me) c.send_notice.ensures.sent in
    let read : Stays me (g.H.Hall.state c.send_notice.new.hall) late =
    subst (λ (who : ℕ). Stays who (g.H.Hall.state c.send_notice.new.hall) late) (ap (λ (party : Party). party.me) c.self-2.view_is ∙ who)
    c.now-since.ensures.stays in
    let stays = stays_then c.send_notice.ensures.stays read in
    let tied = tied_later me c.send_notice.new.self read.others.later read.mine.parts.joined read.mine.own (parts_marks read.mine.parts) c.send_notice.ensures.tied in
    record {
      may_ask = c.requires.may_ask;
      can = subst (λ (who : ℕ). CanServe who c.send_notice.new.self late) (sym who)
          (record { may = may_still stays.slots stays.others.later c.requires.can.may; tied = tied });
    }

pub returns-clause-stays : goal.returns-clause-stays
returns-clause-stays g c =
    let party = c.args.self.now in
    let me = party.me in
    let old = g.H.Hall.state c.args.hall.now in
    let late = g.H.Hall.state c.now-since.new.self in
    let who = ap (λ (party : Party). party.me) c.send_notice.ensures.sent in
    let read : Stays me (g.H.Hall.state c.send_notice.new.hall) late =
    subst (λ (who : ℕ). Stays who (g.H.Hall.state c.send_notice.new.hall) late) (ap (λ (party : Party). party.me) c.self-2.view_is ∙ who)
    c.now-since.ensures.stays in
    let stays = stays_then c.send_notice.ensures.stays read in
    let tied = tied_later me c.send_notice.new.self read.others.later read.mine.parts.joined read.mine.own (parts_marks read.mine.parts) c.send_notice.ensures.tied in
    let sent : StaysIn me party c.send_notice.new.self old late = record {
      same = subst (IsSameParty party) (sym c.send_notice.ensures.sent) (record { me = refl; socket = refl; plan = refl; deadline = refl });
      tied = tied;
      waits = waits_by stays;
    } in
    as_then sent
    (subst (λ (who : ℕ). StaysIn who c.send_notice.new.self c.wait.new.self late (g.H.Hall.state c.wait.new.hall)) who c.wait.ensures.stays)

pub returns-clause-goes_on : goal.returns-clause-goes_on
returns-clause-goes_on g c =
    g.met.H.Hall.goes_on_then _ _ _ c.send_notice.ensures.goes_on
    (g.met.H.Hall.goes_on_then _ _ _ c.now-since.ensures.goes_on c.wait.ensures.goes_on)

pub returns-in_err-_reading-clause-stays : goal.returns-in_err-_reading-clause-stays
returns-in_err-_reading-clause-stays g c =
    let party = c.args.self.now in
    let me = party.me in
    let old = g.H.Hall.state c.args.hall.now in
    let late = g.H.Hall.state c.now-since.new.self in
    let who = ap (λ (party : Party). party.me) c.send_notice.ensures.sent in
    let read : Stays me (g.H.Hall.state c.send_notice.new.hall) late =
    subst (λ (who : ℕ). Stays who (g.H.Hall.state c.send_notice.new.hall) late) (ap (λ (party : Party). party.me) c.self-2.view_is ∙ who)
    c.now-since.ensures.stays in
    let stays = stays_then c.send_notice.ensures.stays read in
    let tied = tied_later me c.send_notice.new.self read.others.later read.mine.parts.joined read.mine.own (parts_marks read.mine.parts) c.send_notice.ensures.tied in
    let sent : StaysIn me party c.send_notice.new.self old late = record {
      same = subst (IsSameParty party) (sym c.send_notice.ensures.sent) (record { me = refl; socket = refl; plan = refl; deadline = refl });
      tied = tied;
      waits = waits_by stays;
    } in
    as_then sent
    (subst (λ (who : ℕ). StaysIn who c.send_notice.new.self c.wait.new.self late (g.H.Hall.state c.wait.new.hall)) who c.wait.ensures.stays)

pub returns-in_err-_reading-clause-goes_on : goal.returns-in_err-_reading-clause-goes_on
returns-in_err-_reading-clause-goes_on g c =
    g.met.H.Hall.goes_on_then _ _ _ c.send_notice.ensures.goes_on
    (g.met.H.Hall.goes_on_then _ _ _ c.now-since.ensures.goes_on c.wait.ensures.goes_on)

pub returns-in_default-clause-stays : goal.returns-in_default-clause-stays
returns-in_default-clause-stays g c = in_same c.args.self.now.me c.args.self.now (g.H.Hall.state c.args.hall.now) c.requires.can.tied

pub returns-clause-did : goal.returns-clause-did
returns-clause-did g c =
    let party = c.args.self.now in
    let me = party.me in
    let sent = c.send_notice.ensures.did in
    let since = c.now-since.result in
    let waited = c.in_ok-_reading.ensures.turned in
    let who = ap (λ (party : Party). party.me) c.send_notice.ensures.sent in
    let count =
    (g.met.H.Hall.goes_on_later _ _ (g.met.H.Hall.goes_on_then _ _ _ c.send_notice.ensures.goes_on c.now-since.ensures.goes_on)).count in
    let number : c.in-Some.number ≡ party.asked + 1 = c.in-Some.ensures.1 ∙ ap (λ (party : Party). party.asked + 1) c.self.view_is in (
      _,
      did_then sent.3
          (did_then
          (subst (λ (who : ℕ). Did who (Notes (Read since) ∷ []) (g.H.Hall.state c.send_notice.new.hall) (g.H.Hall.state c.now-since.new.self))
          (ap (λ (party : Party). party.me) c.self-2.view_is ∙ who) c.now-since.ensures.did)
          (subst (λ who. Did who waited.0 (g.H.Hall.state c.now-since.new.self) (g.H.Hall.state c.wait.new.hall)) who waited.1)),
      does_notify (g.H.Hall.state c.args.hall.now).count party c.send_notice.new.self c.wait.new.self c.args.heap c.in-Some.number
          c.args.run.now sent.0
          sent.1 since c.in_ok-_reading._reading waited.0 number c.send_notice.ensures.sent sent.2
          (subst (λ until. IsWaited (g.J.Judge.denies c.args.judge.now)
          (g.H.Hall.state c.args.hall.now).count until true c.send_notice.new.self c.wait.new.self waited.0
          (Some c.in_ok-_reading._reading)) c.waits_until-until.ensures
          (subst (λ count. IsWaited (g.J.Judge.denies c.args.judge.now) count c.waits_until-until.result true c.send_notice.new.self
          c.wait.new.self waited.0
          (Some c.in_ok-_reading._reading)) count waited.2)),
    )

pub returns-clause-clock : goal.returns-clause-clock
returns-clause-clock g c =
    let party = c.args.self.now in
    let mid = (g.H.Hall.state c.now-since.new.self).clock in
    let new = (g.H.Hall.state c.wait.new.hall).clock in
    let since = c.now-since.result in
    wait_rises g.H.Hall.pending (λ hall. IsBusy (g.H.Hall.state hall)) since party.deadline (g.H.Hall.state c.args.hall.now).clock mid new
    (c.now-since.ensures.stays.others.clock ∙ c.send_notice.ensures.stays.others.clock) (c.now-since.ensures.reached since (omega arith))
    (subst (λ (until : ℕ). (new ≡ mid) ⊎ (new ≤ until))
    (c.waits_until-until.ensures ∙ ap (λ (party : Party). waits_until since party.deadline) c.send_notice.ensures.sent) c.wait.ensures.clock)

pub returns-in_err-_reading-clause-clock : goal.returns-in_err-_reading-clause-clock
returns-in_err-_reading-clause-clock g c =
    let party = c.args.self.now in
    let mid = (g.H.Hall.state c.now-since.new.self).clock in
    let new = (g.H.Hall.state c.wait.new.hall).clock in
    let since = c.now-since.result in
    wait_rises g.H.Hall.pending (λ hall. IsBusy (g.H.Hall.state hall)) since party.deadline (g.H.Hall.state c.args.hall.now).clock mid new
    (c.now-since.ensures.stays.others.clock ∙ c.send_notice.ensures.stays.others.clock) (c.now-since.ensures.reached since (omega arith))
    (subst (λ (until : ℕ). (new ≡ mid) ⊎ (new ≤ until))
    (c.waits_until-until.ensures ∙ ap (λ (party : Party). waits_until since party.deadline) c.send_notice.ensures.sent) c.wait.ensures.clock)

-- somebody stopped while it waited
pub returns-in_err-_reading-clause-err : goal.returns-in_err-_reading-clause-err
returns-in_err-_reading-clause-err g c =
    let party = c.args.self.now in
    let me = party.me in
    let old = g.H.Hall.state c.args.hall.now in
    let new = g.H.Hall.state c.wait.new.hall in
    let sent = c.send_notice.ensures.did in
    let since = c.now-since.result in
    let waited = c.in_err-_reading.ensures.turned in
    let who = ap (λ (party : Party). party.me) c.send_notice.ensures.sent in
    let count =
    (g.met.H.Hall.goes_on_later _ _ (g.met.H.Hall.goes_on_then _ _ _ c.send_notice.ensures.goes_on c.now-since.ensures.goes_on)).count in
    let number : c.in-Some.number ≡ party.asked + 1 = c.in-Some.ensures.1 ∙ ap (λ (party : Party). party.asked + 1) c.self.view_is in
    let stopped : (steps : List MailStep) × Did me steps old new
    × StopsNotifying (g.J.Judge.denies c.args.judge.now) old.count party c.wait.new.self c.args.heap c.args.run.now steps = (
      _,
      did_then sent.3
          (did_then
          (subst (λ (who : ℕ). Did who (Notes (Read since) ∷ []) (g.H.Hall.state c.send_notice.new.hall) (g.H.Hall.state c.now-since.new.self))
          (ap (λ (party : Party). party.me) c.self-2.view_is ∙ who) c.now-since.ensures.did)
          (subst (λ who. Did who waited.0 (g.H.Hall.state c.now-since.new.self) new) who waited.1)),
      stops_notifying old.count party c.send_notice.new.self c.wait.new.self c.args.heap c.in-Some.number c.args.run.now sent.0 sent.1 since
          waited.0 number c.send_notice.ensures.sent sent.2
          (subst (λ until. IsWaited (g.J.Judge.denies c.args.judge.now) old.count until true c.send_notice.new.self c.wait.new.self
          waited.0 None) c.waits_until-until.ensures
          (subst (λ count. IsWaited (g.J.Judge.denies c.args.judge.now) count c.waits_until-until.result true c.send_notice.new.self
          c.wait.new.self waited.0 None) count
          waited.2)),
    ) in
    on_err_any _ _ stopped

-- its numbers have come to an end
pub returns-in_default-clause-err : goal.returns-in_default-clause-err
returns-in_default-clause-err g c =
    let party = c.args.self.now in
    let old = g.H.Hall.state c.args.hall.now in
    let asked = ap (λ (party : Party). party.asked) c.self.view_is in
    let ended : 2 ^ 64 ≤ party.asked + 1 =
    elim (cases_lt (party.asked + 1) (2 ^ 64)) [
      | inl below ↦ absurd (c.in_default.ensures (omega (arith, below, asked)))
      | inr past ↦ past
    ] in (
      [],
      did_same party.me old,
      StopsNotifying.no_number ended refl refl,
    )
