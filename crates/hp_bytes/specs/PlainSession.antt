-- The plain session, which has no addresses but those that its heap answers: the rule "Session" of docs/BYTES.md.
use Rattle.std.specs.Prelude.{◌≡◌, ℕ, ◌+◌, Bool, true, false, List, [], ◌∷◌, length, take, drop, min, replicate, nat_lt, Option, Some, None, is_some, if◌then◌else◌}
use Rattle.std.specs.Cmp.Lexicographic.{slice_cmp}
use Rattle.std.specs.FinMap as map
use Rattle.std.specs.Ordering.{nat_cmp}
use Rattle.std.specs.Str.{bytes_eq}
use Rattle.hex.specs.Hex.{encode_lower}
use Rattle.hp_base.specs.Requests.{refusal_of, rounded_size}
use Rattle.hp_base.specs.declared.request.BadRequest.{BadRequest}
use Rattle.hp_base.specs.declared.request.Request.{Request}
use Rattle.hp_base.specs.declared.row.Run.{Run}
use Rattle.hp_base.specs.declared.tag.Tag.{Tag}
use Rattle.hp_heap.specs.PlainHeap.{PlainHeap, opening_heap}
use Rattle.hp_heap.specs.Growing.{after_grow}
use Rattle.hp_heap.specs.Joining.{after_free}
use Rattle.hp_heap.specs.Placing.{after_alloc, allocated}
use Rattle.hp_heap.specs.Step.{found}
use Rattle.hp_bytes.specs.Written.{written_over}
use Rattle.hp_bytes.specs.declared.answer.Answer.{Answer}
use Rattle.hp_bytes.specs.declared.answer.Answer.TheVariants as answer
use Rattle.hp_bytes.specs.declared.line.Line.{Line}
use Rattle.hp_bytes.specs.declared.line.Line.TheVariants as line

-- what a label has: the number of the line of its `new`, and bytes
pub record Held : Type 0 where
  pub number : ℕ
  pub bytes : List ℕ

-- a heap, and what each live label has
pub record PlainSession : Type 0 where
  pub heap : PlainHeap
  pub labels : map.FinMap (slice_cmp nat_cmp) Held

-- the memory of a session: four pages of 2 MiB, from 0x100000000 on
abbrev pub session_run : Run
session_run = record { list = 0; first = 0; count = 4; addr = 0x100000000; page = 0x200000; socket = 0 }

-- a session before its first line: that memory is in its heap, and no label is live
abbrev pub opening_session : PlainSession
opening_session = record { heap = after_grow session_run (opening_heap 0 (Some 0)); labels = map.empty }

-- the tag of the element that the line with a number makes
abbrev pub tag_of : ℕ → Tag
tag_of number = record { who = 0; zone = false; number = number }

-- what a line does: its answer, and the session that it leaves
pub record Done : Type 0 where
  pub answer : Answer
  pub next : PlainSession

-- nothing but an answer
abbrev pub stays : PlainSession → Answer → Done
stays now given = record { answer = given; next = now }

-- other bytes for a label
abbrev pub with_held : List ℕ → Held → PlainSession → PlainSession
with_held label held now = record now { labels = map.insert now.labels label held }

-- `new`: the heap allocates for the line, and the label has zeros where an address comes
abbrev pub given_address : ℕ → List ℕ → Request → Option ℕ → PlainSession → Done
given_address number label request None now =
    record { answer = answer.Nothing; next = record now { heap = after_alloc 0 request (tag_of number) now.heap } }
given_address number label request (Some addr) now = record {
  answer = answer.At addr;
  next = record {
    heap = after_alloc 0 request (tag_of number) now.heap;
    labels = map.insert now.labels label (record { number = number; bytes = replicate request.size 0 });
  };
}

-- the accepted request for so many bytes, with no alignment, no bound and no flags asked for
pub record IsSizeRequest (asked : ℕ) (request : Request) : Type 0 where
  pub size : request.size ≡ rounded_size asked
  pub align : request.align ≡ 64
  pub bound : request.bound ≡ 0
  pub flags : request.flags ≡ 0

abbrev pub IsAllocated : ℕ → List ℕ → ℕ → Option BadRequest → PlainSession → Done → Type 0
IsAllocated number label size (Some why) now done = done ≡ stays now (answer.Bad why)
IsAllocated number label size None now done =
    (request : Request) × IsSizeRequest size request × (done ≡ given_address number label request (allocated 0 request now.heap) now)

abbrev pub IsMade : ℕ → List ℕ → ℕ → Bool → PlainSession → Done → Type 0
IsMade number label size true now done = done ≡ stays now answer.Exists
IsMade number label size false now done = IsAllocated number label size (refusal_of size 0 0) now done

-- `put`: so many bytes from an index on become one byte
abbrev pub put_done : List ℕ → ℕ → ℕ → ℕ → Option Held → PlainSession → Done
put_done label at byte len None now = stays now answer.NoLabel
put_done label at byte len (Some held) now =
    if nat_lt (length held.bytes) (at + len) then stays now (answer.Range (length held.bytes))
    else record {
      answer = answer.Done;
      next = with_held label (record held { bytes = written_over at (replicate len byte) held.bytes }) now;
    }

-- `copy`: the first bytes of one go over those of the other, as many as both have
abbrev pub copied : List ℕ → Held → Held → PlainSession → Done
copied to source target now = record {
  answer = answer.Done;
  next = with_held to (record target { bytes = written_over 0 (take (min (length source.bytes) (length target.bytes)) source.bytes) target.bytes }) now;
}

abbrev pub copy_done : List ℕ → List ℕ → Option Held → Option Held → PlainSession → Done
copy_done from to None target now = stays now answer.NoLabel
copy_done from to (Some source) None now = stays now answer.NoLabel
copy_done from to (Some source) (Some target) now =
    if bytes_eq from to then stays now answer.Same else copied to source target now

-- `get`: so many bytes from an index on
abbrev pub get_done : ℕ → ℕ → Option Held → PlainSession → Done
get_done at len None now = stays now answer.NoLabel
get_done at len (Some held) now =
    if nat_lt (length held.bytes) (at + len) then stays now (answer.Range (length held.bytes))
    else stays now (answer.Bytes (encode_lower (take len (drop at held.bytes))))

-- the heap without the element whose tag has a number
abbrev pub without_at : Option ℕ → PlainHeap → PlainHeap
without_at None heap = heap
without_at (Some addr) heap = after_free addr false heap

abbrev pub without_element : ℕ → PlainHeap → PlainHeap
without_element number heap = without_at (found (tag_of number) heap) heap

-- `drop`: the heap frees the element whose tag has the label's number, and the label has nothing
abbrev pub drop_done : List ℕ → Option Held → PlainSession → Done
drop_done label None now = stays now answer.NoLabel
drop_done label (Some held) now = record {
  answer = answer.Done;
  next = record { heap = without_element held.number now.heap; labels = map.remove now.labels label };
}

-- what the line with a number does
abbrev pub IsDone : ℕ → Line → PlainSession → Done → Type 0
IsDone number (line.New label size) now done = IsMade number label size (is_some (map.get now.labels label)) now done
IsDone number (line.Put label at byte len) now done = done ≡ put_done label at byte len (map.get now.labels label) now
IsDone number (line.Copy from to) now done = done ≡ copy_done from to (map.get now.labels from) (map.get now.labels to) now
IsDone number (line.Get label at len) now done = done ≡ get_done at len (map.get now.labels label) now
IsDone number (line.Drop label) now done = done ≡ drop_done label (map.get now.labels label) now

-- one line more is done, and the others after it
pub record IsDoneFirst (number : ℕ) (first : Line) (now : PlainSession) (answers : List Answer) (others : PlainSession → List Answer → Type 0)
    : Type 0 where
  pub done : Done
  pub first_done : IsDone number first now done
  pub more : List Answer
  pub answers_are : answers ≡ done.answer ∷ more
  pub others_done : others done.next more

-- the answers to lines, numbered from a number on, from a session on
abbrev pub AreAnswers : ℕ → List Line → PlainSession → List Answer → Type 0
AreAnswers number [] now answers = answers ≡ []
AreAnswers number (first ∷ others) now answers = IsDoneFirst number first now answers (AreAnswers (number + 1) others)
