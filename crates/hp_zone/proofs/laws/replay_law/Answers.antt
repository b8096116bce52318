use Rattle.hp_zone.proofs.ReplayLemmas.{directory_replays, zones_replay}
use Rattle.hp_zone.proofs.laws.replay_law.Goals as goal

pub returns : goal.returns
returns c = record { zones = zones_replay; directory = directory_replays }
