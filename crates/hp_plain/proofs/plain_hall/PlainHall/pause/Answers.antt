use Rattle.std.proofs.Common.{◌∙◌}
use Rattle.hp_plain.specs.HallInside.{hall_view}
use Rattle.hp_plain.proofs.Owned.{course_pause}
use Rattle.hp_plain.proofs.plain_hall.PlainHall.pause.Goals as goal

pub returns-clause-course : goal.returns-clause-course
returns-clause-course c =
    course_pause c.args.self.now (hall_view c.self.inside) c.args.me c.args.moved c.args.until c.args.reading
    (c.self.view_is ∙ c.note.ensures) c.requires.declared c.requires.goes_on
