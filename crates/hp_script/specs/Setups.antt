-- What setup lines add to what was read, and their refusals along the text.
use Rattle.std.specs.Prelude.{ℕ, ◌+◌, Bool, nat_lt, nat_le, [], ◌∷◌, ◌++◌, length, slice_set, replicate, Some, None, is_some, unwrap_or, Result, Ok}
use Rattle.std.specs.List.{list_any}
use Rattle.hp_base.specs.declared.pool_line.PoolLine.{PoolLine}
use Rattle.hp_base.specs.declared.plan_entry.MsgKind.{MsgKind}
use Rattle.hp_base.specs.declared.plan_entry.PlanEntry.TheVariants as plan
use Rattle.hp_script.specs.Judge.{◌>>=◌, refuse}
use Rattle.hp_script.specs.Marks.{is_marked, with_mark}
use Rattle.hp_script.specs.Counts.{segments_of, is_same_pool, message_event, mapping_event, is_planned}
use Rattle.hp_script.specs.declared.bad_kind.BadKind.{BadKind}
use Rattle.hp_script.specs.declared.bad_kind.BadKind.TheVariants as bad
use Rattle.hp_script.specs.declared.shape.Setup.{Setup}
use Rattle.hp_script.specs.declared.shape.Setup.TheVariants.{Participants, Absent, Socket, Deadline, Pool, Message, Mapping}
use Rattle.hp_script.specs.declared.reader.Reader.{Reader}

-- before the first line nothing is said
abbrev pub nothing : Reader
nothing =
    record { participants = None; absent = 0; placed = 0; sockets = replicate 16 0; deadline = None; pools = []; plan = []; lines = [] }

-- a participant is not declared: by default there is participant 0 alone
abbrev pub is_strange : Reader → ℕ → Bool
is_strange read party = nat_le (unwrap_or read.participants 1) party

-- `participants`, at most once
unfoldable pub set_participants : Reader → ℕ → Result Reader BadKind
set_participants read count = do
  once ← refuse (is_some read.participants) bad.Duplicate
  Ok (record read { participants = Some count })

-- `absent`, at most once for a participant
unfoldable pub set_absent : Reader → ℕ → Result Reader BadKind
set_absent read party = do
  once ← refuse (is_marked read.absent party) bad.Duplicate
  declared ← refuse (is_strange read party) bad.Unknown
  Ok (record read { absent = with_mark read.absent party })

-- `socket`, at most once for a participant
unfoldable pub set_socket : Reader → ℕ → ℕ → Result Reader BadKind
set_socket read party socket = do
  once ← refuse (is_marked read.placed party) bad.Duplicate
  declared ← refuse (is_strange read party) bad.Unknown
  Ok (record read { placed = with_mark read.placed party; sockets = slice_set read.sockets party socket })

-- `deadline`, at most once
unfoldable pub set_deadline : Reader → ℕ → Result Reader BadKind
set_deadline read ms = do
  once ← refuse (is_some read.deadline) bad.Duplicate
  Ok (record read { deadline = Some ms })

-- `pool`, at most once for a socket and page; at most 128 lists, and 16,384 segments
unfoldable pub add_pool : Reader → PoolLine → Result Reader BadKind
add_pool read pool = do
  once ← refuse (list_any (is_same_pool pool) read.pools) bad.Duplicate
  lists ← refuse (nat_le 128 (length read.pools)) bad.Limit
  segments ← refuse (nat_lt 16384 (segments_of read.pools + pool.slots)) bad.Limit
  Ok (record read { pools = read.pools ++ pool ∷ [] })

-- `lose` and `repeat`: at most one plan line for a message
unfoldable pub add_message : Reader → ℕ → MsgKind → ℕ → ℕ → Bool → Result Reader BadKind
add_message read number kind party k twice = do
  once ← refuse (is_planned read.plan (message_event kind party k)) bad.Duplicate
  declared ← refuse (is_strange read party) bad.Unknown
  Ok (record read { plan = read.plan ++ plan.Message kind party k twice number ∷ [] })

-- `refuse` and `elsewhere`: at most one plan line for a mapping call
unfoldable pub add_mapping : Reader → ℕ → ℕ → ℕ → Bool → Result Reader BadKind
add_mapping read number party call elsewhere = do
  once ← refuse (is_planned read.plan (mapping_event party call)) bad.Duplicate
  declared ← refuse (is_strange read party) bad.Unknown
  Ok (record read { plan = read.plan ++ plan.Mapping party call elsewhere number ∷ [] })

abbrev pub setup_step : Reader → ℕ → Setup → Result Reader BadKind
setup_step read number (Participants count) = set_participants read count
setup_step read number (Absent party) = set_absent read party
setup_step read number (Socket party socket) = set_socket read party socket
setup_step read number (Deadline ms) = set_deadline read ms
setup_step read number (Pool pool) = add_pool read pool
setup_step read number (Message kind party k twice) = add_message read number kind party k twice
setup_step read number (Mapping party call elsewhere) = add_mapping read number party call elsewhere

-- a setup line stands before the first participant line
unfoldable pub set_up : Reader → ℕ → Setup → Result Reader BadKind
set_up read number setup = do
  order ← refuse (nat_lt 0 (length read.lines)) bad.Order
  setup_step read number setup
