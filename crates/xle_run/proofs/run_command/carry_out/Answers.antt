use Rattle.std.proofs.Common.{◌≡◌, Option, Some, [], map, sym, subst}
use Rattle.std.specs.Prelude.{string_bytes, IfErr}
use Rattle.lfg_io.specs.Shelf.{file_in}
use Rattle.lfg_model.specs.declared.status.Status.TheVariants.{Done}
use Rattle.lfg_model.specs.Output.{Command, command_of, AreAccepted, ComesTo, IfReadFault, IsOutput}
use Rattle.xle_run.specs.Writes.{IfTaken, IfUnaccepted, Puts}
use Rattle.xle_run.specs.Commands.{command_view}
use Rattle.xle_run.proofs.CommandLaws.{failed_commands}
use Rattle.xle_run.proofs.run_command.carry_out.Goals as goal

pub returns-in-Some-clause-failed : goal.returns-in-Some-clause-failed
returns-in-Some-clause-failed g c =
    failed_commands (Unit {0}) (map string_bytes c.args.words.now) (command_view c.in-Some.command) (g.F.Shelf.sure c.args.shelf.now) (g.F.Shelf.faults c.args.shelf.now)
    (g.F.Shelf.faults c.readings.new.shelf) (g.F.Shelf.last_failed c.readings.new.shelf) (g.O.Sink.faults c.args.out.now) (g.O.Sink.faults c.readings.new.out) c.readings.result c.in-Some.ensures c.readings.ensures.failed

pub returns-in-Some-clause-usage : goal.returns-in-Some-clause-usage
returns-in-Some-clause-usage g c none =
    let said : command_of (map string_bytes c.args.words.now) ≡ Some (command_view c.in-Some.command) = c.in-Some.ensures in
    cc

pub returns-in-Some-clause-refused : goal.returns-in-Some-clause-refused
returns-in-Some-clause-refused g c files told =
    subst (λ (o : Option Command). IfErr c.readings.result (λ status. IfUnaccepted status (IsOutput (file_in files) o [] status))) (sym c.in-Some.ensures) (c.readings.ensures.refused files told)

pub returns-in-Some-clause-reached : goal.returns-in-Some-clause-reached
returns-in-Some-clause-reached g c files told =
    subst (λ (o : Option Command). IfErr c.readings.result (λ status. IfReadFault status (ComesTo (file_in files) o))) (sym c.in-Some.ensures) (c.readings.ensures.reached files told)

pub returns-in-Some-clause-accepted : goal.returns-in-Some-clause-accepted
returns-in-Some-clause-accepted g c files told =
    subst (λ (o : Option Command). IfTaken c.readings.result (AreAccepted (file_in files) o)) (sym c.in-Some.ensures) (c.readings.ensures.accepted files told)

pub returns-in-Some-clause-written : goal.returns-in-Some-clause-written
returns-in-Some-clause-written g c files before told e =
    subst (λ (o : Option Command). Puts files o before (g.O.Sink.written c.readings.new.out) c.readings.result) (sym c.in-Some.ensures) (c.readings.ensures.written files before told e)

pub returns-in-Some-clause-room : goal.returns-in-Some-clause-room
returns-in-Some-clause-room g c files sections told out few =
    c.readings.ensures.room files sections told (subst (λ (o : Option Command). IsOutput (file_in files) o sections Done) c.in-Some.ensures out) few

pub returns-in-None-clause-written : goal.returns-in-None-clause-written
returns-in-None-clause-written g c files before told e = tt
