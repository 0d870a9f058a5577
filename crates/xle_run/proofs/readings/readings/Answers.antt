use Rattle.std.proofs.Common.{[], ◌∷◌, Some, refl, ◌∙◌}
use Rattle.lfg_model.specs.Lists.{here}
use Rattle.lfg_io.specs.Shelf.{file_in}
use Rattle.lfg_model.specs.Output.{readings, AreAccepted, ComesTo, to_grammar}
use Rattle.xle_run.proofs.CauseLaws.{refused_file}
use Rattle.xle_run.proofs.CommandLaws.{no_grammar_output, later_failures}
use Rattle.xle_run.proofs.WriteLaws.{at_refused, refused_puts, refused_taken, refused_not_write, refused_reached}
use Rattle.xle_run.proofs.readings.readings.Goals as goal

pub returns-in-Err-clause-failed : goal.returns-in-Err-clause-failed
returns-in-Err-clause-failed g c =
    refused_file c.args.grammar.now (c.args.grammar.now ∷ c.args.sentences.now ∷ []) (g.F.Shelf.sure c.args.shelf.now) (g.F.Shelf.faults c.args.shelf.now)
    (g.F.Shelf.faults c.load_grammar.new.shelf) (g.F.Shelf.last_failed c.load_grammar.new.shelf) (g.O.Sink.faults c.args.out.now) (g.O.Sink.faults c.args.out.now) c.in-Err.status here c.in-Err.ensures.refused

pub returns-in-Err-clause-refused : goal.returns-in-Err-clause-refused
returns-in-Err-clause-refused g c files told =
    no_grammar_output files c.args.grammar.now c.args.sentences.now (g.F.Shelf.sure c.args.shelf.now) (g.F.Shelf.faults c.args.shelf.now)
    (g.F.Shelf.faults c.load_grammar.new.shelf) (g.F.Shelf.last_failed c.load_grammar.new.shelf) c.in-Err.status c.in-Err.ensures.refused (c.in-Err.ensures.refuses files told)

pub returns-in-Ok-clause-failed : goal.returns-in-Ok-clause-failed
returns-in-Ok-clause-failed g c =
    later_failures (Unit {0}) c.args.grammar.now c.args.sentences.now (g.F.Shelf.sure c.args.shelf.now) (g.F.Shelf.sure c.load_grammar.new.shelf)
    (g.F.Shelf.faults c.args.shelf.now) (g.F.Shelf.faults c.load_grammar.new.shelf) (g.F.Shelf.faults c.readings_by.new.shelf) (g.F.Shelf.last_failed c.readings_by.new.shelf)
    (g.O.Sink.faults c.args.out.now) (g.O.Sink.faults c.readings_by.new.out) c.readings_by.result c.in-Ok.ensures.sure_kept c.in-Ok.ensures.faults_kept c.readings_by.ensures.failed

pub returns-in-Ok-clause-refused : goal.returns-in-Ok-clause-refused
returns-in-Ok-clause-refused g c files told = c.readings_by.ensures.refused files c.args.grammar.now (c.in-Ok.ensures.files_kept ∙ told) (c.in-Ok.ensures.loaded files told)

pub returns-in-Err-clause-untouched : goal.returns-in-Err-clause-untouched
returns-in-Err-clause-untouched g c = at_refused _ c.in-Err.status refl

pub returns-in-Err-clause-reached : goal.returns-in-Err-clause-reached
returns-in-Err-clause-reached g c files told =
    refused_reached (Unit {0}) c.args.grammar.now (g.F.Shelf.sure c.args.shelf.now) (g.F.Shelf.faults c.args.shelf.now)
    (g.F.Shelf.faults c.load_grammar.new.shelf) (g.F.Shelf.last_failed c.load_grammar.new.shelf)
    (ComesTo (file_in files) (Some (readings c.args.grammar.now c.args.sentences.now))) c.in-Err.status c.in-Err.ensures.refused to_grammar

pub returns-in-Err-clause-accepted : goal.returns-in-Err-clause-accepted
returns-in-Err-clause-accepted g c files told =
    refused_taken (Unit {0}) c.args.grammar.now (g.F.Shelf.sure c.args.shelf.now) (g.F.Shelf.faults c.args.shelf.now)
    (g.F.Shelf.faults c.load_grammar.new.shelf) (g.F.Shelf.last_failed c.load_grammar.new.shelf)
    (AreAccepted (file_in files) (Some (readings c.args.grammar.now c.args.sentences.now))) c.in-Err.status c.in-Err.ensures.refused

pub returns-in-Err-clause-written : goal.returns-in-Err-clause-written
returns-in-Err-clause-written g c files before told e =
    refused_puts (Unit {0}) c.args.grammar.now (g.F.Shelf.sure c.args.shelf.now) (g.F.Shelf.faults c.args.shelf.now)
    (g.F.Shelf.faults c.load_grammar.new.shelf) (g.F.Shelf.last_failed c.load_grammar.new.shelf) files (Some (readings c.args.grammar.now c.args.sentences.now)) before _ c.in-Err.status c.in-Err.ensures.refused e

pub returns-in-Err-clause-room : goal.returns-in-Err-clause-room
returns-in-Err-clause-room g c files sections told out few =
    refused_not_write (Unit {0}) c.args.grammar.now (g.F.Shelf.sure c.args.shelf.now) (g.F.Shelf.faults c.args.shelf.now)
    (g.F.Shelf.faults c.load_grammar.new.shelf) (g.F.Shelf.last_failed c.load_grammar.new.shelf) c.in-Err.status c.in-Err.ensures.refused

pub returns-in-Ok-clause-reached : goal.returns-in-Ok-clause-reached
returns-in-Ok-clause-reached g c files told =
    c.readings_by.ensures.reached files c.args.grammar.now (c.in-Ok.ensures.files_kept ∙ told) (c.in-Ok.ensures.loaded files told)

pub returns-in-Ok-clause-accepted : goal.returns-in-Ok-clause-accepted
returns-in-Ok-clause-accepted g c files told =
    c.readings_by.ensures.accepted files c.args.grammar.now (c.in-Ok.ensures.files_kept ∙ told) (c.in-Ok.ensures.loaded files told)

pub returns-in-Ok-clause-written : goal.returns-in-Ok-clause-written
returns-in-Ok-clause-written g c files before told e =
    c.readings_by.ensures.written files c.args.grammar.now before (c.in-Ok.ensures.files_kept ∙ told) e (c.in-Ok.ensures.loaded files told)

pub returns-in-Ok-clause-room : goal.returns-in-Ok-clause-room
returns-in-Ok-clause-room g c files sections told out few =
    c.readings_by.ensures.room files c.args.grammar.now sections (c.in-Ok.ensures.files_kept ∙ told) (c.in-Ok.ensures.loaded files told) out few
