use Rattle.std.proofs.Common.{◌≡◌, ℕ, ◌≤◌, List, [], ◌∷◌, Some, length, refl, ap, sym, subst, ◌∙◌}
use Rattle.std.specs.Prelude.{◌≢◌, IfErr}
use Rattle.lfg_model.specs.Lists.{here}
use Rattle.lfg_model.specs.Output.{readings, joined, sentences_of, AreAccepted, AreReadings, AreSections, ComesTo, to_sentences, IsOutput}
use Rattle.lfg_io.specs.Shelf.{file_in}
use Rattle.xle_run.proofs.CauseLaws.{refused_file}
use Rattle.xle_run.specs.Loads.{IsFile, GivesText}
use Rattle.xle_run.proofs.CommandLaws.{no_text_output, unwritten_all, unwritten_accepted}
use Rattle.xle_run.proofs.LoadLaws.{refuses_long_text, refuses_text}
use Rattle.lfg_model.specs.declared.status.Status.TheVariants.{WriteFault}
use Rattle.xle_run.specs.Writes.{PutsSections}
use Rattle.xle_run.proofs.WriteLaws.{puts_readings, room_readings, both_accepted, taken, at_refused, refused_puts, refused_taken, refused_not_write, refused_reached, unwritten_refused, unwritten_read}
use Rattle.xle_run.proofs.readings.readings_by.Goals as goal

pub returns-in-Err-clause-failed : goal.returns-in-Err-clause-failed
returns-in-Err-clause-failed g c =
    refused_file c.args.sentences.now (c.args.sentences.now ∷ []) (g.F.Shelf.sure c.args.shelf.now) (g.F.Shelf.faults c.args.shelf.now)
    (g.F.Shelf.faults c.load_file.new.shelf) (g.F.Shelf.last_failed c.load_file.new.shelf) (g.O.Sink.faults c.args.out.now) (g.O.Sink.faults c.args.out.now) c.in-Err.status here c.in-Err.ensures.refused

pub returns-in-Err-clause-refused : goal.returns-in-Err-clause-refused
returns-in-Err-clause-refused g c files name told gives =
    no_text_output files name c.args.sentences.now (g.F.Shelf.sure c.args.shelf.now) (g.F.Shelf.faults c.args.shelf.now) (g.F.Shelf.faults c.load_file.new.shelf) (g.F.Shelf.last_failed c.load_file.new.shelf)
    c.args.grammar.now c.in-Err.status gives c.in-Err.ensures.refused (refuses_long_text files c.args.sentences.now c.in-Err.status (c.in-Err.ensures.long files told) c.in-Err.ensures.not_bad)

pub returns-clause-failed : goal.returns-clause-failed
returns-clause-failed g c =
    refused_file c.args.sentences.now (c.args.sentences.now ∷ []) (g.F.Shelf.sure c.args.shelf.now) (g.F.Shelf.faults c.args.shelf.now)
    (g.F.Shelf.faults c.load_file.new.shelf) (g.F.Shelf.last_failed c.load_file.new.shelf) (g.O.Sink.faults c.args.out.now) (g.O.Sink.faults c.args.out.now) c.bad_file.result here (c.bad_file.ensures.refused _ _ _ _)

pub returns-clause-refused : goal.returns-clause-refused
returns-clause-refused g c files name told gives =
    let file = subst (λ (bs : List ℕ). IsFile files c.args.sentences.now bs) (sym c.deref.ensures.value) (c.in-Ok.ensures.loaded files told) in
    no_text_output files name c.args.sentences.now (g.F.Shelf.sure c.args.shelf.now) (g.F.Shelf.faults c.args.shelf.now) (g.F.Shelf.faults c.load_file.new.shelf) (g.F.Shelf.last_failed c.load_file.new.shelf)
    c.args.grammar.now c.bad_file.result gives (c.bad_file.ensures.refused _ _ _ _)
    (refuses_text files c.args.sentences.now c.deref.result.now c.bad_file.result file c.in-None.ensures c.bad_file.ensures.fault c.bad_file.ensures.not_long)

pub returns-in-Some-clause-failed : goal.returns-in-Some-clause-failed
returns-in-Some-clause-failed g c =
    unwritten_all (Unit {0}) (c.args.sentences.now ∷ []) (g.F.Shelf.sure c.args.shelf.now) (g.F.Shelf.faults c.args.shelf.now) (g.F.Shelf.faults c.load_file.new.shelf) (g.F.Shelf.last_failed c.load_file.new.shelf)
    (g.O.Sink.faults c.args.out.now) (g.O.Sink.faults c.write_text.new.out) c.write_text.result c.write_text.ensures.unwritten

pub returns-in-Some-clause-refused : goal.returns-in-Some-clause-refused
returns-in-Some-clause-refused g c files name told gives =
    unwritten_accepted (Unit {0}) (λ st. IsOutput (file_in files) (Some (readings name c.args.sentences.now)) [] st)
    (g.O.Sink.faults c.args.out.now) (g.O.Sink.faults c.write_text.new.out) c.write_text.result c.write_text.ensures.unwritten

pub returns-in-Err-clause-untouched : goal.returns-in-Err-clause-untouched
returns-in-Err-clause-untouched g c = at_refused _ c.in-Err.status refl

pub returns-in-Err-clause-reached : goal.returns-in-Err-clause-reached
returns-in-Err-clause-reached g c files name told gives =
    refused_reached (Unit {0}) c.args.sentences.now (g.F.Shelf.sure c.args.shelf.now) (g.F.Shelf.faults c.args.shelf.now)
    (g.F.Shelf.faults c.load_file.new.shelf) (g.F.Shelf.last_failed c.load_file.new.shelf)
    (ComesTo (file_in files) (Some (readings name c.args.sentences.now))) c.in-Err.status c.in-Err.ensures.refused (to_sentences gives.there gives.thin)

pub returns-in-Err-clause-accepted : goal.returns-in-Err-clause-accepted
returns-in-Err-clause-accepted g c files name told gives =
    refused_taken (Unit {0}) c.args.sentences.now (g.F.Shelf.sure c.args.shelf.now) (g.F.Shelf.faults c.args.shelf.now)
    (g.F.Shelf.faults c.load_file.new.shelf) (g.F.Shelf.last_failed c.load_file.new.shelf)
    (AreAccepted (file_in files) (Some (readings name c.args.sentences.now))) c.in-Err.status c.in-Err.ensures.refused

pub returns-in-Err-clause-written : goal.returns-in-Err-clause-written
returns-in-Err-clause-written g c files name before told e gives =
    refused_puts (Unit {0}) c.args.sentences.now (g.F.Shelf.sure c.args.shelf.now) (g.F.Shelf.faults c.args.shelf.now)
    (g.F.Shelf.faults c.load_file.new.shelf) (g.F.Shelf.last_failed c.load_file.new.shelf) files (Some (readings name c.args.sentences.now)) before _ c.in-Err.status c.in-Err.ensures.refused e

pub returns-in-Err-clause-room : goal.returns-in-Err-clause-room
returns-in-Err-clause-room g c files name sections told gives out few =
    refused_not_write (Unit {0}) c.args.sentences.now (g.F.Shelf.sure c.args.shelf.now) (g.F.Shelf.faults c.args.shelf.now)
    (g.F.Shelf.faults c.load_file.new.shelf) (g.F.Shelf.last_failed c.load_file.new.shelf) c.in-Err.status c.in-Err.ensures.refused

pub returns-clause-untouched : goal.returns-clause-untouched
returns-clause-untouched g c = at_refused _ c.bad_file.result refl

pub returns-clause-reached : goal.returns-clause-reached
returns-clause-reached g c files name told gives =
    refused_reached (Unit {0}) c.args.sentences.now (g.F.Shelf.sure c.args.shelf.now) (g.F.Shelf.faults c.args.shelf.now)
    (g.F.Shelf.faults c.load_file.new.shelf) (g.F.Shelf.last_failed c.load_file.new.shelf)
    (ComesTo (file_in files) (Some (readings name c.args.sentences.now))) c.bad_file.result (c.bad_file.ensures.refused _ _ _ _) (to_sentences gives.there gives.thin)

pub returns-clause-accepted : goal.returns-clause-accepted
returns-clause-accepted g c files name told gives =
    refused_taken (Unit {0}) c.args.sentences.now (g.F.Shelf.sure c.args.shelf.now) (g.F.Shelf.faults c.args.shelf.now)
    (g.F.Shelf.faults c.load_file.new.shelf) (g.F.Shelf.last_failed c.load_file.new.shelf)
    (AreAccepted (file_in files) (Some (readings name c.args.sentences.now))) c.bad_file.result (c.bad_file.ensures.refused _ _ _ _)

pub returns-clause-written : goal.returns-clause-written
returns-clause-written g c files name before told e gives =
    refused_puts (Unit {0}) c.args.sentences.now (g.F.Shelf.sure c.args.shelf.now) (g.F.Shelf.faults c.args.shelf.now)
    (g.F.Shelf.faults c.load_file.new.shelf) (g.F.Shelf.last_failed c.load_file.new.shelf) files (Some (readings name c.args.sentences.now)) before _ c.bad_file.result (c.bad_file.ensures.refused _ _ _ _) e

pub returns-clause-room : goal.returns-clause-room
returns-clause-room g c files name sections told gives out few =
    refused_not_write (Unit {0}) c.args.sentences.now (g.F.Shelf.sure c.args.shelf.now) (g.F.Shelf.faults c.args.shelf.now)
    (g.F.Shelf.faults c.load_file.new.shelf) (g.F.Shelf.last_failed c.load_file.new.shelf) c.bad_file.result (c.bad_file.ensures.refused _ _ _ _)

pub returns-in-Some-clause-untouched : goal.returns-in-Some-clause-untouched
returns-in-Some-clause-untouched g c = unwritten_refused (Unit {0}) _ (g.O.Sink.faults c.args.out.now) (g.O.Sink.faults c.write_text.new.out) c.write_text.result c.write_text.ensures.unwritten

pub returns-in-Some-clause-reached : goal.returns-in-Some-clause-reached
returns-in-Some-clause-reached g c files name told gives =
    unwritten_read (Unit {0}) (ComesTo (file_in files) (Some (readings name c.args.sentences.now))) (g.O.Sink.faults c.args.out.now) (g.O.Sink.faults c.write_text.new.out) c.write_text.result c.write_text.ensures.unwritten

pub returns-in-Some-clause-accepted : goal.returns-in-Some-clause-accepted
returns-in-Some-clause-accepted g c files name told gives =
    let file = c.in-Ok.ensures.loaded files told in
    let given : GivesText files c.args.sentences.now c.deref.result.now = record { there = file.there ∙ ap Some (sym c.deref.ensures.value); thin = c.in-Some.ensures.1 } in
    let same : c.in-Some.text.now ≡ c.deref.result.now = c.in-Some.ensures.0 in
    taken (Unit {0}) _ c.write_text.result (both_accepted (Unit {0}) files name c.args.sentences.now c.deref.result.now c.args.grammar.now gives given)

pub returns-in-Some-clause-written : goal.returns-in-Some-clause-written
returns-in-Some-clause-written g c files name before told e gives =
    let file = c.in-Ok.ensures.loaded files told in
    let given : GivesText files c.args.sentences.now c.deref.result.now = record { there = file.there ∙ ap Some (sym c.deref.ensures.value); thin = c.in-Some.ensures.1 } in
    let same : c.in-Some.text.now ≡ c.deref.result.now = c.in-Some.ensures.0 in
    puts_readings (Unit {0}) files name c.args.sentences.now c.deref.result.now c.args.grammar.now gives given before (g.O.Sink.written c.write_text.new.out) c.write_text.result
    (subst (λ (bs : List ℕ). PutsSections c.args.grammar.now (sentences_of bs) before (g.O.Sink.written c.write_text.new.out) c.write_text.result) same (c.write_text.ensures.written before e))

pub returns-in-Some-clause-room : goal.returns-in-Some-clause-room
returns-in-Some-clause-room g c files name sections told gives out few =
    let file = c.in-Ok.ensures.loaded files told in
    let given : GivesText files c.args.sentences.now c.deref.result.now = record { there = file.there ∙ ap Some (sym c.deref.ensures.value); thin = c.in-Some.ensures.1 } in
    let same : c.in-Some.text.now ≡ c.deref.result.now = c.in-Some.ensures.0 in
    room_readings (Unit {0}) files name c.args.sentences.now c.deref.result.now c.args.grammar.now gives given sections (g.O.Sink.room c.args.out.now) c.write_text.result
    (subst (λ (bs : List ℕ). (all : List (List ℕ)) → AreSections (AreReadings c.args.grammar.now) 1 (sentences_of bs) all → length (joined all) ≤ g.O.Sink.room c.args.out.now → IfErr c.write_text.result (λ status. status ≢ WriteFault)) same c.write_text.ensures.room)
    out few
