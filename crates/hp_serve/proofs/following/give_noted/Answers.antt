-- A failure is noted, or nothing.
use Rattle.std.proofs.Common.{◌∙◌, false, refl, ap, sym, subst}
use Rattle.hp_hall.proofs.Formed.{ranges_given}
use Rattle.hp_hall.specs.Giving.{Knows}
use Rattle.hp_core.proofs.GivingLemmas.{catches_note}
use Rattle.hp_core.specs.Giving.{OnlyNotes}
use Rattle.hp_hall.specs.HallState.{known_to}
use Rattle.hp_hall.specs.Standings.{LeavesStanding}
use Rattle.hp_segs.specs.SegsView.{SegsView, is_member}
use Rattle.hp_serve.specs.SegmentSlot.{GivesBack}
use Rattle.hp_serve.proofs.AskingFacts.Noting.{catching_leaves, gives_in_place, noted_gives}
use Rattle.hp_serve.proofs.Standing.{behind_same}
use Rattle.hp_serve.proofs.following.give_noted.Goals as goal

pub give_segments-requires : goal.give_segments-requires
give_segments-requires g c =
    let me = c.args.me in
    let old = g.H.Hall.state c.args.hall.now in
    let has = c.requires.has in
    let given = c.follow-reply.new.segs in
    let leaves : LeavesStanding c.args.segs given =
    subst (LeavesStanding c.args.segs) (sym c.follow-reply.ensures.step) (catching_leaves me c.args.caught.now c.args.segs) in
    let notes : OnlyNotes c.args.segs given =
    subst (OnlyNotes c.args.segs) (sym c.follow-reply.ensures.step) (catches_note me c.args.caught.now c.args.segs c.requires.member) in
    let unnamed : Knows = record (known_to me old) { naming = false } in
    record {
      serves = has.serves;
      gives = gives_in_place (known_to me old) c.args.segs given has.taken (noted_gives (known_to me old) c.args.segs given notes leaves.sound);
      same = behind_same me (old.part me) c.args.segs given has.standing leaves.standing (leaves.armed me)
          (ranges_given unnamed c.args.segs given (noted_gives unnamed c.args.segs given notes leaves.sound).form refl);
    }

pub returns-clause-log : goal.returns-clause-log
returns-clause-log g c =
    let notes = catches_note c.args.me c.args.caught.now c.args.segs c.requires.member in
    sym c.give_segments.ensures.back.gave.log ∙ ap (λ (segs : SegsView). segs.log) c.follow-reply.ensures.step ∙ notes.log

pub returns-clause-back : goal.returns-clause-back
returns-clause-back g c =
    let me = c.args.me in
    let old = g.H.Hall.state c.args.hall.now in
    let new = g.H.Hall.state c.give_segments.new.hall in
    let step = c.follow-reply.ensures.step in
    let notes = catches_note me c.args.caught.now c.args.segs c.requires.member in
    let back = c.give_segments.ensures.back in
    let roster = ap (λ (segs : SegsView). is_member segs.roster me) step ∙ ap (λ roster. is_member roster me) notes.roster in
    record {
      back = subst (λ (segs : SegsView). GivesBack me segs old new) step back;
      parts = record { part = c.give_segments.ensures.part; joined = back.gave.joined ∙ roster ∙ c.requires.has.roster; lines = back.gave.lines };
    }
