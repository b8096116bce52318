use Rattle.test_board.proofs.tests.turn.leader.ask_of.Goals as goal

pub returns-in_default-clause-known : goal.returns-in_default-clause-known
returns-in_default-clause-known c = λ noted records. tt

pub returns-then-not-is_declared-clause-known : goal.returns-then-not-is_declared-clause-known
returns-then-not-is_declared-clause-known c = λ noted records. tt

pub returns-clause-known : goal.returns-clause-known
returns-clause-known c = λ noted records. tt

pub returns-clause-names : goal.returns-clause-names
returns-clause-names c = c.is_declared.ensures c.if-not-is_declared.false
