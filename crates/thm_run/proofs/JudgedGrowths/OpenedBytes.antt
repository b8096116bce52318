-- What a judge was asked of when a growth opened is what its socket has with the run: the bytes of the rows that the log shows then.
use Rattle.std.proofs.Common.{◌≡◌, ◌==◌, ◌∙◌, ℕ, zero, suc, ◌+◌, ◌*◌, Bool, true, false, ◌&&◌, if◌then◌else◌, List, [], ◌∷◌, ◌++◌, length, get_or, None, Ok, refl, ap, sym, arith, eq-eqb}
use Rattle.std.specs.List.{All}
use Rattle.std.proofs.lemmas.Bool.{and_parts, eqb-true}
use Rattle.std.proofs.lemmas.List.Elements.{All-head, All-tail}
use Rattle.std.proofs.lemmas.List.Quantifiers.{position-Some}
use Rattle.std.proofs.lemmas.List.Sums.{sum_by-append, sum_by-cons}
use Rattle.std.proofs.lemmas.Option.{get_or_from_slice_get}
use Rattle.hp_base.specs.declared.row.Row.{Row}
use Rattle.hp_base.specs.declared.row.Run.{Run}
use Rattle.hp_core.specs.Starting.{total_with}
use Rattle.hp_log.proofs.LogLemmas.{table_of_push}
use Rattle.hp_log.specs.Log.{table_of}
use Rattle.hp_log.specs.Rows.{row_of, rows_below, rows_of}
use Rattle.hp_log.specs.declared.log_record.LogRecord.TheVariants.{Add}
use Rattle.hp_segs.proofs.SlotFacts.PlannedLemmas.{open_plan}
use Rattle.hp_segs.specs.Lists.{is_list_of, lists_of}
use Rattle.hp_segs.specs.Plan.{IsFirstFor, plan_of}
use Rattle.hp_segs.specs.Refusals.{bytes_on}
use Rattle.hp_segs.specs.SegsView.{SegsView, counted_bytes, is_counted, is_opened, is_retiring, rows_in, total_of}
use Rattle.hp_segs.specs.Sound.{IsSound}
use Rattle.hp_segs.specs.SoundRows.{growth_run, in_runs}
use Rattle.hp_segs.specs.Steps.{after_open}
use Rattle.hp_segs.specs.declared.ask.Ask.{Ask}
use Rattle.hp_segs.specs.declared.list_info.ListInfo.{ListInfo}
use Rattle.hp_segs.specs.declared.row_state.RowState.{RowState}
use Rattle.hp_segs.specs.declared.row_state.RowState.TheVariants.{Agreed, Opened, Owned, Retiring}
use Rattle.hp_segs.specs.declared.row_state.Segment.{Segment}

-- the bytes of a row, where it is of the socket
abbrev bytes_of : ℕ → Row → ℕ
bytes_of socket row = if row.socket == socket then row.page else 0

counts : (state : RowState) → is_opened state ≡ false → is_retiring state ≡ false → is_counted state ≡ true
counts Opened settled stays = cc
counts (Agreed heap) settled stays = refl
counts (Owned heap) settled stays = refl
counts Retiring settled stays = cc

bytes_at : (here counted : Bool) (page : ℕ) → counted ≡ true → (if here && counted then page else 0) ≡ (if here then page else 0)
bytes_at true counted page is = ap (λ b. if b then page else 0) is
bytes_at false counted page is = refl

-- where no row is Opened or Retiring, all bytes of a socket count
all_count : (segments : List Segment) (socket : ℕ) → All (λ segment. is_opened segment.state ≡ false) segments
    → All (λ segment. is_retiring segment.state ≡ false) segments → total_of segments socket ≡ bytes_on (rows_in segments) socket
all_count [] socket settled stays = refl
all_count (segment ∷ segments) socket settled stays =
    let here : counted_bytes socket segment ≡ bytes_of socket segment.row =
    bytes_at (segment.row.socket == socket) (is_counted segment.state) segment.row.page
    (counts segment.state (All-head (λ segment. is_opened segment.state ≡ false) segment segments settled)
    (All-head (λ segment. is_retiring segment.state ≡ false) segment segments stays)) in
    let rest = all_count segments socket (All-tail (λ segment. is_opened segment.state ≡ false) segment segments settled)
    (All-tail (λ segment. is_retiring segment.state ≡ false) segment segments stays) in
    omega (
      arith,
      here,
      rest,
      sum_by-cons (counted_bytes socket) segment segments,
      sum_by-cons (bytes_of socket) segment.row (rows_in segments),
    )

-- the rows of a run of the socket have its bytes
run_bytes : (run : Run) (generation socket n : ℕ) → run.socket ≡ socket → bytes_on (rows_below run generation n) socket ≡ n * run.page
run_bytes run generation socket zero same = omega arith
run_bytes run generation socket (suc n) same =
    let rest = run_bytes run generation socket n same in
    let here : bytes_of socket (row_of run generation n) ≡ run.page =
    ap (λ (own : Bool). if own then run.page else 0) (eq-eqb run.socket socket same) in
    let last : bytes_on (row_of run generation n ∷ []) socket ≡ bytes_of socket (row_of run generation n) + 0 =
    sum_by-cons (bytes_of socket) (row_of run generation n) [] in
    omega (
      arith,
      rest,
      here,
      last,
      sum_by-append (bytes_of socket) (rows_below run generation n) (row_of run generation n ∷ []),
    )

-- a run that is planned is of the ask's socket
its_socket : (segs : SegsView) (ask : Ask) (run : Run) (rows : List Row) → IsFirstFor segs.pools rows ask run → run.socket ≡ ask.socket
its_socket segs ask run rows first =
    let lists = lists_of segs.pools in
    let found = position-Some (is_list_of ask.socket ask.page) lists first.list first.info first.its_list in
    let own : get_or lists first.list first.info ≡ first.info =
    get_or_from_slice_get lists first.list first.info first.info first.its_info in
    let parts =
    and_parts ((get_or lists first.list first.info).socket == ask.socket) ((get_or lists first.list first.info).page == ask.page) found.1 in
    ap (λ (run : Run). run.socket) first.its_run
    ∙ ap (λ (info : ListInfo). info.socket) (sym own)
    ∙ eqb-true (get_or lists first.list first.info).socket ask.socket parts.0

pub opened_bytes : (segs : SegsView) (ask : Ask) (run : Run) → IsSound segs → segs.growth ≡ None → segs.retiring ≡ []
    → plan_of ask segs ≡ Ok run → total_with ask run segs ≡ bytes_on (table_of (after_open ask run segs).log) ask.socket
opened_bytes segs ask run sound alone none plan =
    let settled : All (λ segment. is_opened segment.state ≡ false) segs.segments =
    λ k d within. sound.rows.opened k d within ∙ ap (λ g. in_runs (growth_run g) (get_or segs.segments k d).row) alone in
    let stays : All (λ segment. is_retiring segment.state ≡ false) segs.segments =
    λ k d within. sound.rows.retired k d within ∙ ap (λ runs. in_runs runs (get_or segs.segments k d).row) none in
    let generation : ℕ = length segs.log + 1 in
    let bytes : total_of segs.segments ask.socket ≡ bytes_on (table_of segs.log) ask.socket =
    all_count segs.segments ask.socket settled stays ∙ ap (λ rows. bytes_on rows ask.socket) sound.rows.table.table in
    let socket : run.socket ≡ ask.socket =
    its_socket segs ask run (rows_in segs.segments) (open_plan segs ask run sound.rows.table.limits plan).planned.first in
    let table : table_of (segs.log ++ Add run ask.heap ∷ []) ≡ table_of segs.log ++ rows_of run generation =
    table_of_push segs.log (Add run ask.heap) in
    let both : bytes_on (table_of segs.log ++ rows_of run generation) ask.socket
    ≡ bytes_on (table_of segs.log) ask.socket + bytes_on (rows_of run generation) ask.socket =
    sum_by-append (bytes_of ask.socket) (table_of segs.log) (rows_of run generation) in
    omega (
      arith,
      bytes,
      ap (λ rows. bytes_on rows ask.socket) table,
      both,
      run_bytes run generation ask.socket run.count socket,
    )
