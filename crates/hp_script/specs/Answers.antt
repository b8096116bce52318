-- The texts of answers.
use Rattle.std.specs.Prelude.{ℕ, List, [], ◌++◌, codes, false}
use Rattle.std.specs.Fmt.{decimal, radix_digits}
use Rattle.hp_base.specs.declared.stats.Stats.{Stats}
use Rattle.hp_base.specs.declared.request.BadRequest.{BadRequest}
use Rattle.hp_base.specs.declared.request.BadRequest.TheVariants as request
use Rattle.hp_script.specs.declared.answer.Answer.{Answer}
use Rattle.hp_script.specs.declared.answer.Answer.TheVariants as answer

-- why a request is refused
abbrev pub bad_words : BadRequest → List ℕ
bad_words request.Zero = codes "bad zero"
bad_words request.Overflow = codes "bad overflow"
bad_words request.Align = codes "bad align"
bad_words request.Bound = codes "bad bound"

-- the words of an answer, without its numbers
abbrev pub answer_word : Answer → List ℕ
answer_word answer.Done = codes "ok"
answer_word (answer.Address addr) = codes "ok"
answer_word (answer.Found addr len) = codes "ok"
answer_word (answer.Records records) = codes "ok"
answer_word (answer.Socket socket) = codes "ok"
answer_word answer.None = codes "none"
answer_word answer.NoHeap = codes "noheap"
answer_word (answer.BadRequest kind) = bad_words kind
answer_word answer.NameTooLong = codes "namelong"
answer_word answer.Exists = codes "exists"
answer_word answer.NoSpace = codes "nospace"
answer_word answer.BadAlign = codes "badalign"
answer_word answer.BadBound = codes "badbound"
answer_word answer.NoElement = codes "noelem"
answer_word answer.IsZone = codes "iszone"
answer_word answer.Yes = codes "yes"
answer_word answer.No = codes "no"
answer_word answer.NotFound = codes "notfound"
answer_word answer.Already = codes "already"
answer_word (answer.Refused call) = codes "refused"
answer_word answer.BadName = codes "badname"
answer_word answer.SocketHeap = codes "socketheap"
answer_word (answer.BusyChunks chunks) = codes "busy"
answer_word (answer.BusyAddress addr) = codes "busy"
answer_word answer.BadRange = codes "badrange"
answer_word (answer.Overlaps addr) = codes "overlaps"
answer_word answer.NoChunk = codes "nochunk"
answer_word (answer.Attached participant) = codes "attached"
answer_word answer.NotAttached = codes "notattached"
answer_word (answer.InUse addr) = codes "inuse"
answer_word answer.Full = codes "full"
answer_word (answer.Statistics stats) = []
answer_word answer.Detached = codes "detached"

-- an address, with its blank in front
abbrev pub address_text : ℕ → List ℕ
address_text addr = codes " 0x" ++ radix_digits 16 false addr

-- a number, with its blank in front
abbrev pub number_text : ℕ → List ℕ
number_text n = codes " " ++ decimal n

-- the numbers of bytes in a heap
abbrev pub bytes_text : Stats → List ℕ
bytes_text stats =
    codes "total" ++ number_text stats.total ++ codes " free" ++ number_text stats.free
    ++ codes " used" ++ number_text stats.used ++ codes " greatest" ++ number_text stats.greatest

-- the numbers of elements in a heap
abbrev pub elements_text : Stats → List ℕ
elements_text stats = codes " busy" ++ number_text stats.busy ++ codes " frees" ++ number_text stats.frees

-- the statistics of a heap
abbrev pub stats_text : Stats → List ℕ
stats_text stats = bytes_text stats ++ elements_text stats

-- the numbers of an answer, each after a blank, and the words between them
abbrev pub answer_numbers : Answer → List ℕ
answer_numbers (answer.Address addr) = address_text addr
answer_numbers (answer.Found addr len) = address_text addr ++ number_text len
answer_numbers (answer.Records records) = number_text records
answer_numbers (answer.Socket socket) = number_text socket
answer_numbers (answer.Refused call) = number_text call
answer_numbers (answer.BusyChunks chunks) = number_text chunks
answer_numbers (answer.BusyAddress addr) = address_text addr
answer_numbers (answer.Overlaps addr) = address_text addr
answer_numbers (answer.Attached participant) = number_text participant
answer_numbers (answer.InUse addr) = address_text addr
answer_numbers (answer.Statistics stats) = stats_text stats
answer_numbers _ = []

-- the text of an answer: its words, and its numbers
abbrev pub answer_text : Answer → List ℕ
answer_text answer = answer_word answer ++ answer_numbers answer
