-- What a hall hands a line, as lines know it: the rule "Lines" of docs/PARTICIPANTS.md.
use Rattle.hp_stats.specs.declared.stat_pair.StatPair.{StatPair}
use Rattle.hp_zone.specs.declared.names.Names.{Names as NamesView}
use Rattle.hp_proc.specs.Doing.{Counted}
use Rattle.hp_proc.specs.SharedNames.{SharedNames}

-- names by all their changes so far
abbrev pub shared_of : NamesView → SharedNames
shared_of names = record { zones = names.zones.log; heaps = names.heaps.log }

-- statistics with the count of entries after which they are
abbrev pub counted_in : StatPair → Counted
counted_in pair = record { entries = pair.entries; stats = pair.stats }
