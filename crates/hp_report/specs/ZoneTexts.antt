-- The memzones as the report shows them.
use Rattle.std.specs.Prelude.{List, ◌++◌, codes, ℕ}
use Rattle.std.specs.List.{flat_map}
use Rattle.hp_script.specs.Answers.{address_text, number_text}
use Rattle.hp_zone.specs.declared.zone.Zone.{Zone}

-- a memzone: its name, its address, its length, its socket and the index of its heap
abbrev pub zone_line : Zone → List ℕ
zone_line zone =
    codes "zone" ++ codes " " ++ zone.name ++ address_text zone.addr ++ number_text zone.len ++ number_text zone.socket ++ number_text zone.heap
    ++ codes "\n"

-- the memzones in the order of their reservation
abbrev pub zones_text : List Zone → List ℕ
zones_text zones = flat_map zone_line zones
