use Rattle.std.proofs.Common.{◌≡◌, ◌+◌, drop}
use Rattle.lfg_packed.specs.Words.{form_place}
use Rattle.lfg_instant.proofs.words.place_of.Given as goal

abbrev pub invariant-loop-place : goal.invariant-loop-place
invariant-loop-place l = record { place : form_place l.forms l.form ≡ l.place + form_place (drop l.place l.forms) l.form }
