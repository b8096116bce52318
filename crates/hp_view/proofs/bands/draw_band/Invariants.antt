use Rattle.std.proofs.Common.{◌≡◌, ◌++◌, ◌<◌, drop, get_or, length}
use Rattle.hp_view.specs.Bands.{band_after, band_by}
use Rattle.hp_view.specs.declared.line.Line.TheVariants as line
use Rattle.hp_view.proofs.bands.draw_band.Given as goal

-- what is drawn and what is left are together what is to be drawn
abbrev pub invariant-loop-i : goal.invariant-loop-i
invariant-loop-i l = record {
  within : l.at < length l.elements;
  drawn : l.page ++ band_after l.band (get_or l.elements l.at line.Other) l.mark (drop l.i l.elements) ≡ l.fn.page ++ band_by l.band l.elements;
}
