-- Who has gone may wait, and may be armed.
use Rattle.std.proofs.Common.{◌<◌, ℕ, length, ap, sym, subst, arith}
use Rattle.hp_base.specs.declared.limits.TheConstants.{MAX_HEAPS}
use Rattle.hp_plain.specs.HallView.{HallView, IsHome, slot_at}
use Rattle.hp_serve.specs.Party.{Party}
use Rattle.hp_solo.specs.Solo.{IsTiedAt}
use Rattle.hp_solo.specs.SoloAsks.{MayBeginToAsk}
use Rattle.hp_solo.proofs.SoloWaits.{waits_first}
use Rattle.test_solo.proofs.solo_hall.playing.go_and_come.Goals as goal

pub do_line-done-requires : goal.do_line-done-requires
do_line-done-requires c =
    let hall = c.away.new.self in
    let party = c.as_mut-party.result.now.server in
    let at : IsTiedAt hall.plain c.args.me party =
    subst (λ (party : Party). IsTiedAt hall.plain c.args.me party) (sym (ap (λ (it : _). it.server) c.as_mut-party.ensures.value))
    c.in-Some.ensures.tied in
    record {
      few = omega (arith, at.number, c.requires.me);
      may = waits_first hall c.args.me party
          (subst (λ (plain : HallView). c.args.me < length plain.owns) (sym c.away.ensures.plain) (omega (arith, c.requires.me, c.requires.two)))
          c.away.ensures.away
          (subst (λ (plain : HallView). IsHome (slot_at plain MAX_HEAPS)) (sym c.away.ensures.plain) c.requires.home) at;
      begins = subst (λ (who : ℕ). MayBeginToAsk hall.plain who) (sym at.number)
          (subst (λ (plain : HallView). MayBeginToAsk plain c.args.me) (sym c.away.ensures.plain) c.requires.begins);
      first = c.requires.first;
    }
