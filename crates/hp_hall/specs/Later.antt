-- Values later on: what a value that is given keeps of the one in place of which it comes. The rules "What a hall shows" of docs/HALLS.md
-- and "Moves" of docs/BOARD.md.
use Rattle.std.specs.Prelude.{◌≡◌, List, ◌++◌}
use Rattle.hp_heap.specs.declared.entry.Entry.{Entry}
use Rattle.hp_heap.specs.History.{HeapView}
use Rattle.hp_log.specs.declared.log_record.LogRecord.{LogRecord}
use Rattle.hp_segs.specs.Moved.{Leads, SegsCall}
use Rattle.hp_segs.specs.SegsView.{SegsView}
use Rattle.hp_segs.specs.declared.outcome.AskLog.{AskLog}
use Rattle.hp_zone.specs.declared.names.Names.{Names as NamesView}
use Rattle.hp_hall.specs.Named.{NamesGoOn, seen_of_names}
use Rattle.hp_hall.specs.Views.{AreOfOneKind}
use Rattle.hp_hall.specs.declared.kept.Kept.{Kept}

-- a heap later on: it opened alike, and its history begins with the earlier one
pub record IsLaterHeap (old new : HeapView) : Type 0 where
  pub index : new.plain.index ≡ old.plain.index
  pub serves : new.plain.serves ≡ old.plain.serves
  pub more : List Entry
  pub history : new.history ≡ old.history ++ more

-- a segment value later on: it moved by calls under their conditions, and its log and its outcomes begin with the earlier ones
pub record IsLaterSegs (old new : SegsView) : Type 0 where
  pub calls : List SegsCall
  pub leads : Leads calls old new
  pub more : List LogRecord
  pub log : new.log ≡ old.log ++ more
  pub outcomes : List AskLog
  pub asks : new.asks ≡ old.asks ++ outcomes

-- names later on: the sockets are the same, and both logs begin with the earlier ones
abbrev pub AreLaterNames : NamesView → NamesView → Type 0
AreLaterNames old new = NamesGoOn (seen_of_names old) (seen_of_names new)

-- a value later on, as one of the same kind
abbrev pub IsLaterKept : Kept → Kept → Type 0
IsLaterKept = AreOfOneKind (λ old new. IsLaterHeap old.heap new.heap) IsLaterSegs AreLaterNames
