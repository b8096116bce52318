-- Worked values: lines of external heaps that find no place, over one socket with four pages of 2M.
use Rattle.std.proofs.Common.{◌≡◌, refl, ap, sym, ℕ, ◌+◌, ◌*◌, ◌^◌, [], ◌∷◌, map}
use Rattle.std.specs.Prelude.{Result, Err}
use Rattle.std.specs.List.{range_with_len}
use Rattle.hp_script.specs.declared.answer.Answer.TheVariants as answer
use Rattle.hp_script.specs.declared.line.Act.TheVariants as act
use Rattle.hp_segs.specs.declared.fault.RangeFault.{RangeFault}
use Rattle.hp_segs.specs.declared.fault.RangeFault.TheVariants as range
use Rattle.hp_zone.specs.Directory as directory
use Rattle.hp_zone.specs.declared.name_change.NameChange.TheVariants.{Named}
use Rattle.hp_proc.specs.LineTrees.{doing_of}
use Rattle.hp_proc.specs.ClaimedMemory.{claims_in, plan_in}
use Rattle.hp_proc.specs.Doing.{Doing, Goes, Leads}
use Rattle.hp_proc.specs.Doing.Done.{NamesRead, RangePlanned}
use Rattle.hp_proc.specs.ExternalLines.{adding}
use Rattle.hp_proc.specs.SharedNames.{SharedNames, heaps_in, next_index}
use Rattle.hp_proc.proofs.WorkedLines.WorkedExternal.{adds, base, ext, facts, line_of, named, page_power, part, pools}

-- `heap`: each of the 32 heaps has a name
abbrev crowded : SharedNames
crowded = record { zones = []; heaps = map (λ (index : ℕ). Named index (255 + index) (index ∷ [])) (range_with_len 1 31) }

no_index_left : Leads (doing_of (line_of 0 (act.Heap (part ext))) (act.Heap (part ext)) (facts [])) (NamesRead crowded ∷ [])
    (Doing.Ended answer.NoSpace)
unfolding Goes Leads doing_of directory.socket_name heaps_in next_index
no_index_left = (crowded, refl, refl)

-- `add`: the memory has one page more than a list may have
abbrev too_long : ℕ
too_long = 8193 * 2 ^ 21

too_many_pages : plan_in pools named base too_long (2 ^ 21) ≡ Err range.NoSpace
unfolding plan_in claims_in
too_many_pages = rw page_power refl

no_list_for_memory : Leads (doing_of (line_of 0 (adds too_long)) (adds too_long) (facts []))
    (NamesRead named ∷ RangePlanned base too_long (2 ^ 21) (Err range.NoSpace) ∷ []) (Doing.Ended answer.NoSpace)
unfolding Goes Leads doing_of directory.socket_name heaps_in
no_list_for_memory = (named, refl, (Err range.NoSpace, refl, refl))
