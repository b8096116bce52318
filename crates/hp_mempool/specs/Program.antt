-- The program: its words, what it writes, and how it ends.
use Rattle.std.specs.Prelude.{◌≡◌, ℕ, ◌*◌, ◌<◌, ◌≤◌, ◌==◌, Bool, true, false, List, [], ◌++◌, length, codes, Option, Some, None, slice_index_or, if◌then◌else◌}
use Rattle.std.specs.Fmt.{decimal}
use Rattle.hp_base.specs.declared.status.Status.{Status}
use Rattle.hp_base.specs.declared.status.Status.TheVariants as status
use Rattle.hp_command.specs.Words.{number_within, values_of}
use Rattle.hp_command.specs.Writing.{Holds, HoldsFront}
use Rattle.hp_mempool.specs.declared.judging.TheConstants.{MAX_CACHE, MAX_OBJECTS}
use Rattle.hp_mempool.specs.declared.load.Load.{Load}
use Rattle.hp_mempool.specs.declared.load.TheConstants.{MAX_ROUNDS, MAX_WORKERS}
use Rattle.hp_mempool.specs.declared.report.Report.{Report}

-- within the ranges of the program's words
pub record IsLoad (load : Load) : Type 0 where
  pub some_workers : 0 < load.workers
  pub few_workers : load.workers ≤ MAX_WORKERS
  pub few_rounds : load.rounds ≤ MAX_ROUNDS
  pub some_objects : 0 < load.objects
  pub few_objects : load.objects ≤ MAX_OBJECTS
  pub few_places : load.cache ≤ MAX_CACHE

abbrev pub load_from : Option ℕ → Option ℕ → Option ℕ → Option ℕ → Option Load
load_from (Some workers) (Some rounds) (Some objects) (Some cache) = Some (record { workers = workers; rounds = rounds; objects = objects; cache = cache })
load_from _ _ _ _ = None

-- what the words ask for: workers, rounds, objects and places of a cache, each in decimal digits and within its range
unfoldable pub load_of : List (List ℕ) → Option Load
load_of words =
    if length (values_of words) == 4
    then load_from (number_within 1 MAX_WORKERS (slice_index_or (values_of words) 0 [])) (number_within 1 MAX_ROUNDS (slice_index_or (values_of words) 1 []))
    (number_within 1 MAX_OBJECTS (slice_index_or (values_of words) 2 [])) (number_within 0 MAX_CACHE (slice_index_or (values_of words) 3 []))
    else None

-- a report as it is written: how many objects there are, how many calls there were, and how many objects came back
abbrev pub report_text : Report → List ℕ
report_text report =
    codes "objects " ++ decimal report.objects ++ codes "\ncalls " ++ decimal report.calls ++ codes "\nhome " ++ decimal report.home ++ codes "\n"

-- what there is to say of an exercise: each worker makes a call a round, and all objects come back
abbrev pub report_of : Load → Report
report_of load = record { objects = load.objects; calls = load.workers * load.rounds; home = load.objects }

-- what is written of an exercise
abbrev pub text_of : Load → List ℕ
text_of load = report_text (report_of load)

abbrev pub usage_text : List ℕ
usage_text = codes "usage: heappool <workers> <rounds> <objects> <cache>\n"

-- a text was written with a status, or a front of it before the sink failed
abbrev pub IsPut : Status → List ℕ → Option (List ℕ) → Option (List ℕ) → Type 0 → Status → Type 0
IsPut ended text held held' failed status.WriteFault = HoldsFront held held' text × failed
IsPut ended text held held' failed result = (result ≡ ended) × Holds held held' text

-- a text was written with a status, or a front of it before the sink failed, or nothing, as memory ran out
abbrev pub IsPutUnlessShort : Status → List ℕ → Option (List ℕ) → Option (List ℕ) → Type 0 → Status → Type 0
IsPutUnlessShort ended text held held' failed status.OutOfMemory = held' ≡ held
IsPutUnlessShort ended text held held' failed result = IsPut ended text held held' failed result

abbrev pub is_write_fault : Status → Bool
is_write_fault status.WriteFault = true
is_write_fault _ = false

-- What a call of the program does: an exercise where its words ask for one, and else it writes the usage, and needs no memory for that.
abbrev pub Ends : Option Load → Option (List ℕ) → Option (List ℕ) → Type 0 → Status → Type 0
Ends (Some load) held held' failed result = IsPutUnlessShort status.Ok (text_of load) held held' failed result
Ends None held held' failed result = IsPut status.Usage usage_text held held' failed result
