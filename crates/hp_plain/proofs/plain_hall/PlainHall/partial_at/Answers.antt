use Rattle.std.proofs.Common.{◌≡◌, ◌∙◌, ◌<◌, ℕ, List, length, refl, set, sym, ap, subst, arith}
use Rattle.std.proofs.lemmas.List.{get_or_default}
use Rattle.hp_hall.specs.Mail.{MailStep, Notes}
use Rattle.hp_hall.specs.Own.{Own, after_ack, after_partial}
use Rattle.hp_hall.specs.declared.note.Note.TheVariants.{Unmapped}
use Rattle.hp_plain.specs.HallInside.{hall_view}
use Rattle.hp_plain.specs.HallSteps.{after_unmapping}
use Rattle.hp_plain.specs.HallView.{HallView, own_at, seen_in}
use Rattle.hp_plain.proofs.HallsNoted.{hall_own, own_unmapped, seen_of}
use Rattle.hp_plain.proofs.plain_hall.PlainHall.partial_at.Goals as goal

pub invariant_of-self : goal.invariant_of-self
invariant_of-self c =
    let me = c.args.me in
    let hall : HallView = hall_view c.self.inside in
    let own : Own = after_partial (length (seen_in hall)) (own_at hall me) in
    let declared : me < length hall.owns = subst (λ (h : HallView). me < length h.owns) (sym c.self.view_is) c.requires in
    let log = ap length (seen_of hall c.index.result.now c.self.invariant.hall c.index.ensures) in
    let same : c.note_unmapped.new.self ≡ own =
    c.note_unmapped.ensures ∙ ap (λ (records : ℕ). after_partial records c.index_mut.result.now) (c.records-records.ensures ∙ log)
    ∙ ap (after_partial (length (seen_in hall))) (c.index_mut.ensures.value ∙ get_or_default hall.owns me c.index_mut.result.now (after_ack 0) declared) in
    record {
      hall = hall_own hall _ me own me (Notes Unmapped) c.self.invariant.hall refl refl c.with_note.ensures refl refl refl
          (ap (set hall.owns me) same) declared (omega arith) (own_unmapped hall me c.self.invariant.hall declared);
      emptied = c.self.invariant.emptied;
      room = c.self.invariant.room;
    }

pub returns : goal.returns
returns c =
    let me = c.args.me in
    let hall : HallView = hall_view c.self.inside in
    let own : Own = after_partial (length (seen_in hall)) (own_at hall me) in
    let declared : me < length hall.owns = subst (λ (h : HallView). me < length h.owns) (sym c.self.view_is) c.requires in
    let log = ap length (seen_of hall c.index.result.now c.self.invariant.hall c.index.ensures) in
    let same : c.note_unmapped.new.self ≡ own =
    c.note_unmapped.ensures ∙ ap (λ (records : ℕ). after_partial records c.index_mut.result.now) (c.records-records.ensures ∙ log)
    ∙ ap (after_partial (length (seen_in hall))) (c.index_mut.ensures.value ∙ get_or_default hall.owns me c.index_mut.result.now (after_ack 0) declared) in
    ap (λ (own : Own). record hall { owns = set hall.owns me own; mail = c.with_note.result }) same
    ∙ ap (λ (mail : List (ℕ × MailStep)). record hall { owns = set hall.owns me own; mail = mail }) c.with_note.ensures
    ∙ ap (after_unmapping me) c.self.view_is
