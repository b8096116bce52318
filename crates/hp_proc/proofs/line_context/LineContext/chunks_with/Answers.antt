-- With one more at its place each stands before those after it.
use Rattle.std.proofs.Common.{ap, subst, sym, ◌∙◌}
use Rattle.hp_proc.proofs.OwnNotes.{own_with}
use Rattle.hp_proc.specs.Contexts.{Context}
use Rattle.hp_proc.specs.OwnChunks.{AreOwnChunks, with_own_chunk}
use Rattle.hp_proc.proofs.line_context.LineContext.chunks_with.Goals as goal

pub returns-clause-are : goal.returns-clause-are
returns-clause-are c =
    c.in_ok-chunks.ensures
    ∙ ap (with_own_chunk c.args.chunk)
    (c.as_slice.ensures.value ∙ ap (λ (context : Context). context.standing.chunks) c.self.view_is)

pub returns-clause-sound : goal.returns-clause-sound
returns-clause-sound c =
    subst AreOwnChunks (sym (c.in_ok-chunks.ensures ∙ ap (with_own_chunk c.args.chunk) c.as_slice.ensures.value))
    (own_with c.args.chunk c.self.inside.chunks.items c.requires.few c.self.invariant.1)
