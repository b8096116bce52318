-- The clock stands, or jumps to a deadline that is still to come, and that is noted.
use Rattle.std.proofs.Common.{ap, ◌∙◌, arith}
use Rattle.hp_hall.proofs.AsksOfHalls.Pending.{pending_falls}
use Rattle.hp_plain.specs.HallSteps.{after_pause}
use Rattle.hp_plain.specs.HallView.{HallView}
use Rattle.hp_hall.specs.Mail.{Notes}
use Rattle.hp_hall.specs.declared.note.Note.TheVariants.{Paused}
use Rattle.hp_solo.specs.Solo.{SoloView}
use Rattle.hp_solo.proofs.Sequenced.{paused}
use Rattle.hp_solo.proofs.SoloSteps.{did_apart}
use Rattle.hp_solo.proofs.SoloCalls.{goes_on}
use Rattle.hp_solo.proofs.SoloIdles.{idles_pause}
use Rattle.hp_solo.proofs.SoloTurns.{pause_falls, solo_paused}
use Rattle.hp_solo.proofs.solo_hall.waiting.SoloHallWaiting.pause.Goals as goal

pub invariant_of-self : goal.invariant_of-self
invariant_of-self g c =
    solo_paused c.self.inside.plain c.pause.new.self c.self.inside.servers.items c.args.me c.args.moved c.args.until c.reading_behind-reading.result
    c.pause.ensures.hall c.self.invariant

pub returns-clause-falls : goal.returns-clause-falls
returns-clause-falls g c =
    let me = c.args.me in
    let moved = c.args.moved in
    let until = c.args.until in
    let reading = c.reading_behind-reading.result in
    let new : SoloView = record { plain = c.pause.new.self; servers = c.self.inside.servers.items } in
    pause_falls c.args.self.now new me moved until reading c.requires.before c.reading_behind-reading.ensures.still
    c.reading_behind-reading.ensures.next
    (c.pause.ensures.hall ∙ ap (λ (hall : SoloView). after_pause me moved until reading hall.plain) c.self.view_is)
    (ap (λ (hall : SoloView). hall.servers) c.self.view_is)

pub returns-clause-lower : goal.returns-clause-lower
returns-clause-lower g c = λ deadline.
    let later = c.pause.ensures.course.clock in
    pending_falls c.args.self.now.plain.clock c.pause.new.self.clock deadline
    (omega (arith, later, ap (λ (hall : SoloView). hall.plain.clock) c.self.view_is))

pub returns-clause-goes_on : goal.returns-clause-goes_on
returns-clause-goes_on g c =
    let me = c.args.me in
    let moved = c.args.moved in
    let until = c.args.until in
    let reading = c.reading_behind-reading.result in
    let new : SoloView = record { plain = c.pause.new.self; servers = c.self.inside.servers.items } in
    goes_on c.args.self.now c.self.inside.plain c.self.inside.servers.items c.self.view_is me c.requires.serves c.pause.new.self
    c.pause.ensures.course
    (did_apart c.self.inside.plain c.pause.new.self me (Notes (Paused moved until)) (ap (λ (hall : HallView). hall.mail) c.pause.ensures.hall))
    (paused me c.args.self.now new c.requires.serves moved until reading
    (c.pause.ensures.hall ∙ ap (λ (hall : SoloView). after_pause me moved until reading hall.plain) c.self.view_is)
    (ap (λ (hall : SoloView). hall.servers) c.self.view_is) c.reading_behind-reading.ensures.still c.reading_behind-reading.ensures.next)

pub returns-clause-idles : goal.returns-clause-idles
returns-clause-idles g c =
    let me = c.args.me in
    let moved = c.args.moved in
    let until = c.args.until in
    let reading = c.reading_behind-reading.result in
    let new : SoloView = record { plain = c.pause.new.self; servers = c.self.inside.servers.items } in
    idles_pause me moved until reading c.args.self.now new (returns-clause-goes_on g c)
    (c.pause.ensures.hall ∙ ap (λ (hall : SoloView). after_pause me moved until reading hall.plain) c.self.view_is)
