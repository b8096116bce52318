-- The look-up is participant 0's own step.
use Rattle.std.proofs.Common.{Bool, List, [], ◌∷◌, sym, ap, subst, if◌then◌else◌}
use Rattle.std.proofs.lemmas.Bool.{lt-ltb}
use Rattle.hp_hall.proofs.HallStates.{stays_same}
use Rattle.hp_hall.specs.HallState.{Did}
use Rattle.hp_hall.specs.Mail.{MailStep, Notes}
use Rattle.hp_hall.specs.declared.note.Note.TheVariants.{Loaded}
use Rattle.hp_serve.proofs.polling.load_number.Goals as goal

pub returns-then-member-count-clause-did : goal.returns-then-member-count-clause-did
returns-then-member-count-clause-did g c =
    let loaded : MailStep = Notes (Loaded c.args.member c.load_ack.result) in
    let declared = lt-ltb c.args.member c.args.count c.if-member-count.true in
    subst (λ (steps : List MailStep). Did 0 steps (g.H.Hall.state c.args.hall.now) (g.H.Hall.state c.load_ack.new.self))
    (ap (λ (declared : Bool). if declared then loaded ∷ [] else []) (sym declared)) c.load_ack.ensures.did

pub returns-else-member-count-clause-stays : goal.returns-else-member-count-clause-stays
returns-else-member-count-clause-stays g c = stays_same 0 (g.H.Hall.state c.args.hall.now)
