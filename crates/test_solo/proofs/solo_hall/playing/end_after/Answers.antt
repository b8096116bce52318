use Rattle.test_solo.proofs.solo_hall.playing.end_after.Goals as goal

pub go_and_come-requires-clause-begins : goal.go_and_come-requires-clause-begins
go_and_come-requires-clause-begins c = c.in_ok-hall.ensures.begins c.args.me
