use Rattle.std.proofs.Common.{refl}
use Rattle.hp_hall.specs.declared.note.Note.TheVariants.{Yielded}
use Rattle.hp_plain.proofs.Stepped.{makes_note}
use Rattle.hp_plain.proofs.plain_hall.PlainHall.note_yield.Goals as goal

pub returns-clause-course : goal.returns-clause-course
returns-clause-course c =
    (makes_note c.args.self.now c.note.new.self c.args.me (Yielded c.args.above c.args.moved) c.note.ensures c.requires.declared
    (record { shows = tt; clock = refl; numbers = refl }) tt refl).makes.course
