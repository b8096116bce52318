use Rattle.std.proofs.Common.{rules, ◌∙◌}
use mathlib.Core.Option.{none}
use Rattle.hp_board.proofs.StepsOfSeats.GiveSteps.{gives_back}
use Rattle.hp_board.proofs.Told.{given_agrees, given_mapped}
use Rattle.hp_board.proofs.steps.unlock_word.Goals as goal

pub store-requires : goal.store-requires
store-requires c = let token = c.args.token.now in (
  c.exchange.ensures.0 ∙ c.requires.table,
  search rules,
  gives_back _ _ _ _ token.me.0 _ c.args.kept _ none c.exchange.ensures.3 c.requires.slots.2 c.requires.slots.0 c.requires.one c.requires.gives c.sound.ensures,
)

pub returns-clause-agreed : goal.returns-clause-agreed
returns-clause-agreed c = given_agrees _ _ _ _ c.args.token.now.me.0 c.args.kept _ c.store.ensures.2 c.exchange.ensures.3

pub returns-clause-mapped : goal.returns-clause-mapped
returns-clause-mapped c = given_mapped _ _ _ _ c.args.token.now.me.0 c.args.kept _ c.store.ensures.2 c.exchange.ensures.3
