-- The lists of pools, place by place.
use Rattle.std.proofs.Common.{◌≡◌, ℕ, zero, suc, ◌^◌, List, [], ◌∷◌, length, Some, refl, ap, sym}
use Rattle.std.specs.List.{slice_get}
use Rattle.hp_base.specs.declared.pool_line.PoolLine.{PoolLine}
use Rattle.hp_segs.specs.Lists.{list_after, end_of, lists_from, lists_of}
use Rattle.hp_segs.specs.declared.list_info.ListInfo.{ListInfo}

-- the list of a place is that of the pool of that place
pub record IsListOf (line : PoolLine) (info : ListInfo) : Type 0 where
  pub socket : info.socket ≡ line.socket
  pub page : info.page ≡ line.page
  pub slots : info.slots ≡ line.slots

pub record HasLine (pools : List PoolLine) (list : ℕ) (info : ListInfo) : Type 0 where
  pub line : PoolLine
  pub its_line : slice_get pools list ≡ Some line
  pub alike : IsListOf line info

pub length_lists_from : (end : ℕ) (pools : List PoolLine) → length (lists_from end pools) ≡ length pools
length_lists_from end [] = refl
length_lists_from end (line ∷ pools) = ap suc (length_lists_from (end_of (list_after line end)) pools)

pub line_of_from : (end : ℕ) (pools : List PoolLine) (list : ℕ) (info : ListInfo) → slice_get (lists_from end pools) list ≡ Some info
    → HasLine pools list info
line_of_from end [] list info here = cc
line_of_from end (line ∷ pools) zero info here =
    let same : list_after line end ≡ info = cc in
    record {
      line = line;
      its_line = refl;
      alike = record { socket = ap (λ i. i.socket) (sym same); page = ap (λ i. i.page) (sym same); slots = ap (λ i. i.slots) (sym same) };
    }
line_of_from end (line ∷ pools) (suc list) info here =
    let rest = line_of_from (end_of (list_after line end)) pools list info here in
    record { line = rest.line; its_line = rest.its_line; alike = rest.alike }

pub line_of_list : (pools : List PoolLine) (list : ℕ) (info : ListInfo) → slice_get (lists_of pools) list ≡ Some info
    → HasLine pools list info
line_of_list pools list info here = line_of_from (2 ^ 32) pools list info here
