-- A new table is known.
use Rattle.test_maps.proofs.KnownLemmas.{known_new}
use Rattle.test_maps.proofs.tests.play.play_over.Goals as goal

pub go_on-requires : goal.go_on-requires
go_on-requires c = known_new c.in_ok-maps.maps _ _ c.args.records.now c.in_ok-maps.ensures c.requires
