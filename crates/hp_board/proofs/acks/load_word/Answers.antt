use Rattle.std.proofs.Common.{arith, refl}
use mathlib.Core.Option.{none}
use Rattle.hp_board.proofs.StepsOfSeats.AckSteps.{loads}
use Rattle.hp_board.proofs.acks.load_word.Goals as goal

pub load-requires : goal.load-requires
load-requires c = (c.requires.table, omega arith, loads _ _ _ _ _ c.args.participant none c.requires.one refl c.requires.declared)

pub returns-clause-loaded : goal.returns-clause-loaded
returns-clause-loaded c = (c.load.ensures.2.told c.args.participant refl).loaded

pub returns-clause-own : goal.returns-clause-own
returns-clause-own c = (c.load.ensures.2.told c.args.participant refl).own
