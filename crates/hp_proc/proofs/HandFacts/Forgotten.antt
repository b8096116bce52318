-- A participant whose table lost the rows of a chunk, that counted the call, and forgot the chunk.
use Rattle.std.proofs.Common.{◌∙◌, ◌≡◌, Bool, List, Some, ap, subst, sym, true, ℕ}
use Rattle.hp_base.specs.Flags.{has_bit}
use Rattle.hp_base.specs.declared.chunk.Chunk.{Chunk}
use Rattle.hp_base.specs.declared.tag.Caller.{Caller}
use Rattle.hp_events.specs.declared.validator.Validator.{Validator}
use Rattle.hp_external.specs.Attaching.{IsOwnChunkAt, Leaves}
use Rattle.hp_heap.specs.History.{HeapView}
use Rattle.hp_maps.specs.MapsView.{MapsView}
use Rattle.hp_proc.specs.Contexts.{Context, with_chunks}
use Rattle.hp_proc.specs.LeavesChunks.{having_left}
use Rattle.hp_proc.specs.OwnChunks.{without_own_chunk}
use Rattle.hp_proc.specs.ParticipantView.{ParticipantView, after_call, noting_chunks, participant_of, with_party}
use Rattle.hp_proc.specs.declared.own_chunk.OwnChunk.{OwnChunk}
use Rattle.hp_serve.specs.Party.{Party, with_maps}

module _ {lent after party : Party} {mine its : List (Validator Bool)} (context : Context) {inside behind : Context} {old counted : ParticipantView}
    (boxed : participant_of lent mine context ≡ old) (only : after ≡ with_maps after.maps lent)
    (count : counted ≡ after_call (participant_of after mine context)) (seen : participant_of party its inside ≡ counted) (chunk : OwnChunk)
    (forgot : behind ≡ with_chunks (without_own_chunk chunk inside.standing.chunks) inside) where
  abbrev new : ParticipantView
  new = participant_of party its behind

  -- it forgets the chunk; it has that table
  abbrev forgetting : ParticipantView → ParticipantView
  forgetting doer = noting_chunks (without_own_chunk chunk doer.context.standing.chunks) doer

  abbrev with_table : MapsView → ParticipantView → ParticipantView
  with_table maps doer = with_party (with_maps maps doer.party) doer

  forgets : new ≡ forgetting (after_call (with_table after.maps old))
  forgets =
      ap (λ (context : Context). participant_of party its context) forgot
      ∙ (ap forgetting seen
      ∙ (ap forgetting count
      ∙ (ap (λ (party : Party). forgetting (after_call (participant_of party mine context))) only
      ∙ ap (λ (doer : ParticipantView). forgetting (after_call (with_table after.maps doer))) boxed)))

  pub maps_are : new.party.maps ≡ after.maps
  maps_are = ap (λ (doer : ParticipantView). doer.party.maps) forgets

  pub maps_were : lent.maps ≡ old.party.maps
  maps_were = ap (λ (doer : ParticipantView). doer.party.maps) boxed

  pub is_left : new ≡ having_left chunk new old
  is_left = forgets ∙ ap (λ (maps : MapsView). forgetting (after_call (with_table maps old))) (sym maps_are)

-- the chunk that it left had its mark
same_chunk : {one other : Chunk} → Some one ≡ Some other → one ≡ other
same_chunk is = cc

pub had_mark : (who : ℕ) {caller : Caller} {addr len : ℕ} {heap heap' : HeapView} {maps maps' : MapsView} → IsOwnChunkAt who addr len heap.plain
    → (leaves : Leaves caller addr len heap heap' maps maps') → has_bit leaves.chunk.attached who ≡ true
had_mark who own leaves =
    subst (λ (chunk : Chunk). has_bit chunk.attached who ≡ true) (same_chunk (sym own.1 ∙ leaves.there)) own.2
