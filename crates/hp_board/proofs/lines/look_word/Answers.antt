use Rattle.std.proofs.Common.{arith, refl}
use mathlib.Core.Option.{none}
use Rattle.hp_board.proofs.StepsOfSeats.DoneSteps.{looks_up}
use Rattle.hp_board.proofs.lines.look_word.Goals as goal

pub load-lines-requires : goal.load-lines-requires
load-lines-requires c = (c.requires.table, omega arith, looks_up _ _ _ _ _ c.args.participant none c.requires.one refl c.requires.declared)

pub overflow_cast-result : goal.overflow_cast-result
overflow_cast-result c = record { fits = (c.load-lines.ensures.2.told c.args.participant refl).few }

pub returns-clause-looked : goal.returns-clause-looked
returns-clause-looked c = (c.load-lines.ensures.2.told c.args.participant refl).looked

pub returns-clause-own : goal.returns-clause-own
returns-clause-own c = (c.load-lines.ensures.2.told c.args.participant refl).own
