use Rattle.std.proofs.Common.{subst}
use Rattle.std.specs.Prelude.{IfSome, length}
use Rattle.hp_core.specs.Conditions.{NamesParticipants}
use Rattle.hp_serve.specs.Coordinating.{IsTrueOf}
use Rattle.hp_serve.proofs.AskingFacts.Noting.{leaves_itself}
use Rattle.test_board.proofs.PlayLemmas.{noted_none}
use Rattle.test_board.proofs.tests.turn.leader.handed.Goals as goal

pub returns-in_default-clause-gives : goal.returns-in_default-clause-gives
returns-in_default-clause-gives c = λ knows known. (noted_none c.args.segs.now).gives knows

pub returns-in_default-clause-leaves : goal.returns-in_default-clause-leaves
returns-in_default-clause-leaves c = leaves_itself c.args.segs.now

pub step-said-requires-clause-names : goal.step-said-requires-clause-names
step-said-requires-clause-names c = subst (λ event. IfSome event NamesParticipants) c.in-Some.is c.requires.names

pub returns-clause-gives : goal.returns-clause-gives
returns-clause-gives c = λ knows known.
    c.step-said.ensures.gives knows (subst (λ event. IfSome event (IsTrueOf knows.noted (length c.args.segs.now.log))) c.in-Some.is known)
