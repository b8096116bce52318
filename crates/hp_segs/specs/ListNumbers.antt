-- Where the number of a pool's list is kept, so that no look-up goes over the lists. No public clause cites this module.
use Rattle.std.specs.Prelude.{◌≡◌, ℕ, ◌+◌, ◌*◌, ◌==◌, nat_lt, List, Option, Some, None, IsSome, length, slice_index_or, if◌then◌else◌}
use Rattle.std.specs.List.{All, position}
use Rattle.std.specs.Option.{option_map}
use Rattle.hp_base.specs.Pages.{page_sizes}
use Rattle.hp_segs.specs.Lists.{list_number}
use Rattle.hp_segs.specs.declared.list_info.ListInfo.{ListInfo}

-- the place of a socket below 32 and one of the eight page sizes; others have none
abbrev pub number_place : ℕ → ℕ → Option ℕ
number_place socket page =
    if nat_lt socket 32 then option_map (λ size. socket * 8 + size) (position (λ size. size == page) page_sizes) else None

-- each list has a place, and at each place stands the number of the first list of its socket and page size
pub record AreNumbered (lists : List ListInfo) (numbers : List (Option ℕ)) : Type 0 where
  pub long : length numbers ≡ 256
  pub placed : All (λ info. IsSome (number_place info.socket info.page)) lists
  pub number : (socket page place : ℕ) → number_place socket page ≡ Some place → slice_index_or numbers place None ≡ list_number lists socket page
