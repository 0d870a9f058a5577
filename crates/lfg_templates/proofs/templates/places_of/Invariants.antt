use Rattle.std.proofs.Common.{take}
use Rattle.lfg_templates.specs.Places.{ArePlaces}
use Rattle.lfg_templates.proofs.templates.places_of.Given as goal

abbrev pub invariant-loop-place : goal.invariant-loop-place
invariant-loop-place l = ArePlaces (take l.place l.templates) l.places
