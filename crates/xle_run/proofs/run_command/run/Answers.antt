use Rattle.std.proofs.Common.{◌≡◌, [], map, refl, inl, inr}
use Rattle.std.specs.Prelude.{string_bytes}
use Rattle.std.specs.List.{Contains}
use Rattle.lfg_io.specs.Counts.{Rose}
use Rattle.lfg_io.specs.Sink.{Appends, AppendsPrefix}
use Rattle.lfg_io.specs.declared.sink.SinkFault.{SinkFault}
use Rattle.lfg_io.specs.Shelf.{file_in}
use Rattle.lfg_model.specs.Output.{command_of, AreAccepted, IsFileOf, IsOutput, fault_line}
use Rattle.xle_run.proofs.CauseLaws.{at_read, at_long, at_bad, at_usage, at_write, never_done}
use Rattle.xle_run.proofs.CommandLaws.{told_by}
use Rattle.xle_run.proofs.RunLaws.{taken_at, from_refused, puts_memory, puts_cut, complete_at, long_output, bad_output}
use Rattle.xle_run.proofs.run_command.run.Goals as goal

pub returns-in-Ok-clause-usage : goal.returns-in-Ok-clause-usage
returns-in-Ok-clause-usage g c = ((λ e. cc), (λ n. let e = c.in-Ok.ensures.usage n in cc))

pub returns-in-Err-clause-usage : goal.returns-in-Err-clause-usage
returns-in-Err-clause-usage g c = (
  at_usage (map string_bytes c.args.words.now) (g.F.Shelf.sure c.args.shelf.now) (g.F.Shelf.faults c.args.shelf.now) (g.F.Shelf.faults c.carry_out.new.shelf) (g.F.Shelf.last_failed c.carry_out.new.shelf)
      (g.O.Sink.faults c.args.out.now) (g.O.Sink.faults c.carry_out.new.out) c.in-Err.status c.in-Err.ensures.failed,
  (λ n. let e = c.in-Err.ensures.usage n in cc),
)

pub returns-in-Err-clause-read_fault : goal.returns-in-Err-clause-read_fault
returns-in-Err-clause-read_fault g c =
    at_read (map string_bytes c.args.words.now) (g.F.Shelf.sure c.args.shelf.now) (g.F.Shelf.faults c.args.shelf.now) (g.F.Shelf.faults c.carry_out.new.shelf) (g.F.Shelf.last_failed c.carry_out.new.shelf)
    (g.O.Sink.faults c.args.out.now) (g.O.Sink.faults c.carry_out.new.out) (λ name. Rose (g.F.Shelf.faults c.args.shelf.now) (g.F.Shelf.faults c.carry_out.new.shelf)) c.in-Err.status c.in-Err.ensures.failed (λ name h. h.2)

pub returns-in-Err-clause-last_failed : goal.returns-in-Err-clause-last_failed
returns-in-Err-clause-last_failed g c =
    at_read (map string_bytes c.args.words.now) (g.F.Shelf.sure c.args.shelf.now) (g.F.Shelf.faults c.args.shelf.now) (g.F.Shelf.faults c.carry_out.new.shelf) (g.F.Shelf.last_failed c.carry_out.new.shelf)
    (g.O.Sink.faults c.args.out.now) (g.O.Sink.faults c.carry_out.new.out) (λ name. g.F.Shelf.last_failed c.carry_out.new.shelf ≡ name) c.in-Err.status c.in-Err.ensures.failed (λ name h. h.1)

pub returns-in-Err-clause-read_file : goal.returns-in-Err-clause-read_file
returns-in-Err-clause-read_file g c =
    at_read (map string_bytes c.args.words.now) (g.F.Shelf.sure c.args.shelf.now) (g.F.Shelf.faults c.args.shelf.now) (g.F.Shelf.faults c.carry_out.new.shelf) (g.F.Shelf.last_failed c.carry_out.new.shelf)
    (g.O.Sink.faults c.args.out.now) (g.O.Sink.faults c.carry_out.new.out) (IsFileOf (map string_bytes c.args.words.now)) c.in-Err.status c.in-Err.ensures.failed (λ name h. h.0)

pub returns-in-Err-clause-never_sure : goal.returns-in-Err-clause-never_sure
returns-in-Err-clause-never_sure g c =
    at_read (map string_bytes c.args.words.now) (g.F.Shelf.sure c.args.shelf.now) (g.F.Shelf.faults c.args.shelf.now) (g.F.Shelf.faults c.carry_out.new.shelf) (g.F.Shelf.last_failed c.carry_out.new.shelf)
    (g.O.Sink.faults c.args.out.now) (g.O.Sink.faults c.carry_out.new.out) (λ name. ¬ Contains (g.F.Shelf.sure c.args.shelf.now) name) c.in-Err.status c.in-Err.ensures.failed (λ name h. h.3)

pub returns-in-Err-clause-bad_file : goal.returns-in-Err-clause-bad_file
returns-in-Err-clause-bad_file g c =
    at_bad (map string_bytes c.args.words.now) (g.F.Shelf.sure c.args.shelf.now) (g.F.Shelf.faults c.args.shelf.now) (g.F.Shelf.faults c.carry_out.new.shelf) (g.F.Shelf.last_failed c.carry_out.new.shelf)
    (g.O.Sink.faults c.args.out.now) (g.O.Sink.faults c.carry_out.new.out) (λ name fault. IsFileOf (map string_bytes c.args.words.now) name) c.in-Err.status c.in-Err.ensures.failed (λ name fault h. h)

pub returns-in-Err-clause-long_file : goal.returns-in-Err-clause-long_file
returns-in-Err-clause-long_file g c =
    at_long (map string_bytes c.args.words.now) (g.F.Shelf.sure c.args.shelf.now) (g.F.Shelf.faults c.args.shelf.now) (g.F.Shelf.faults c.carry_out.new.shelf) (g.F.Shelf.last_failed c.carry_out.new.shelf)
    (g.O.Sink.faults c.args.out.now) (g.O.Sink.faults c.carry_out.new.out) (IsFileOf (map string_bytes c.args.words.now)) c.in-Err.status c.in-Err.ensures.failed (λ name h. h)

pub returns-in-Err-clause-write_fault : goal.returns-in-Err-clause-write_fault
returns-in-Err-clause-write_fault g c =
    at_write (map string_bytes c.args.words.now) (g.F.Shelf.sure c.args.shelf.now) (g.F.Shelf.faults c.args.shelf.now) (g.F.Shelf.faults c.carry_out.new.shelf) (g.F.Shelf.last_failed c.carry_out.new.shelf)
    (g.O.Sink.faults c.args.out.now) (g.O.Sink.faults c.carry_out.new.out) c.in-Err.status c.in-Err.ensures.failed

pub returns-in-Err-clause-quiet : goal.returns-in-Err-clause-quiet
returns-in-Err-clause-quiet g c e =
    absurd (never_done (map string_bytes c.args.words.now) (g.F.Shelf.sure c.args.shelf.now) (g.F.Shelf.faults c.args.shelf.now) (g.F.Shelf.faults c.carry_out.new.shelf) (g.F.Shelf.last_failed c.carry_out.new.shelf)
    (g.O.Sink.faults c.args.out.now) (g.O.Sink.faults c.carry_out.new.out) c.in-Err.status c.in-Err.ensures.failed e)

pub returns-in-Err-clause-told : goal.returns-in-Err-clause-told
returns-in-Err-clause-told g c n =
    let line = fault_line (map string_bytes c.args.words.now) c.in-Err.status in
    let A : Type 0 = Appends (g.E.Sink.written c.args.err.now) (g.E.Sink.written c.put_fault_line.new.err) line in
    let B : Type 0 = Rose (g.E.Sink.faults c.args.err.now) (g.E.Sink.faults c.put_fault_line.new.err) in
    let C : Type 0 = AppendsPrefix (g.E.Sink.written c.args.err.now) (g.E.Sink.written c.put_fault_line.new.err) line in
    told_by (Unit {0}) SinkFault A B C c.put_fault_line.result (c.put_fault_line.ensures.appended (map string_bytes c.args.words.now)) c.put_fault_line.ensures.rose
    (c.put_fault_line.ensures.cut (map string_bytes c.args.words.now))

pub returns-in-Ok-clause-accepted : goal.returns-in-Ok-clause-accepted
returns-in-Ok-clause-accepted g c files told at = c.in-Ok.ensures.accepted files told

pub returns-in-Err-clause-accepted : goal.returns-in-Err-clause-accepted
returns-in-Err-clause-accepted g c files told at = elim at [
  | inl e ↦ absurd (never_done (map string_bytes c.args.words.now) (g.F.Shelf.sure c.args.shelf.now) (g.F.Shelf.faults c.args.shelf.now) (g.F.Shelf.faults c.carry_out.new.shelf) (g.F.Shelf.last_failed c.carry_out.new.shelf)
      (g.O.Sink.faults c.args.out.now) (g.O.Sink.faults c.carry_out.new.out) c.in-Err.status c.in-Err.ensures.failed e)
  | inr e ↦ taken_at c.in-Err.status (AreAccepted (file_in files) (command_of (map string_bytes c.args.words.now))) (c.in-Err.ensures.accepted files told) e
]

pub returns-in-Err-clause-too_long : goal.returns-in-Err-clause-too_long
returns-in-Err-clause-too_long g c files told =
    long_output (λ s. IsOutput (file_in files) (command_of (map string_bytes c.args.words.now)) [] s) c.in-Err.status (c.in-Err.ensures.refused files told)

pub returns-in-Err-clause-not_accepted : goal.returns-in-Err-clause-not_accepted
returns-in-Err-clause-not_accepted g c files told =
    bad_output (λ s. IsOutput (file_in files) (command_of (map string_bytes c.args.words.now)) [] s) c.in-Err.status (c.in-Err.ensures.refused files told)

pub returns-in-Err-clause-reached : goal.returns-in-Err-clause-reached
returns-in-Err-clause-reached g c files told = c.in-Err.ensures.reached files told

pub returns-in-Ok-clause-done : goal.returns-in-Ok-clause-done
returns-in-Ok-clause-done g c files before told e done = c.in-Ok.ensures.written files before told e

pub returns-in-Err-clause-done : goal.returns-in-Err-clause-done
returns-in-Err-clause-done g c files before told e done =
    absurd (never_done (map string_bytes c.args.words.now) (g.F.Shelf.sure c.args.shelf.now) (g.F.Shelf.faults c.args.shelf.now) (g.F.Shelf.faults c.carry_out.new.shelf) (g.F.Shelf.last_failed c.carry_out.new.shelf)
    (g.O.Sink.faults c.args.out.now) (g.O.Sink.faults c.carry_out.new.out) c.in-Err.status c.in-Err.ensures.failed done)

pub returns-in-Ok-clause-refused : goal.returns-in-Ok-clause-refused
returns-in-Ok-clause-refused g c n m k = absurd (n refl)

pub returns-in-Err-clause-refused : goal.returns-in-Err-clause-refused
returns-in-Err-clause-refused g c n m k =
    from_refused (map string_bytes c.args.words.now) (g.F.Shelf.sure c.args.shelf.now) (g.F.Shelf.faults c.args.shelf.now) (g.F.Shelf.faults c.carry_out.new.shelf) (g.F.Shelf.last_failed c.carry_out.new.shelf)
    (g.O.Sink.faults c.args.out.now) (g.O.Sink.faults c.carry_out.new.out) _ c.in-Err.status c.in-Err.ensures.failed c.in-Err.ensures.untouched m k

pub returns-in-Ok-clause-memory : goal.returns-in-Ok-clause-memory
returns-in-Ok-clause-memory g c files before told e is = cc

pub returns-in-Err-clause-memory : goal.returns-in-Err-clause-memory
returns-in-Err-clause-memory g c files before told e is =
    puts_memory files (command_of (map string_bytes c.args.words.now)) before (g.O.Sink.written c.carry_out.new.out) c.in-Err.status is (c.in-Err.ensures.written files before told e)

pub returns-in-Ok-clause-cut : goal.returns-in-Ok-clause-cut
returns-in-Ok-clause-cut g c files before told e is = cc

pub returns-in-Err-clause-cut : goal.returns-in-Err-clause-cut
returns-in-Err-clause-cut g c files before told e is =
    puts_cut files (command_of (map string_bytes c.args.words.now)) before (g.O.Sink.written c.carry_out.new.out) c.in-Err.status is (c.in-Err.ensures.written files before told e)

pub returns-in-Ok-clause-room : goal.returns-in-Ok-clause-room
returns-in-Ok-clause-room g c files sections told out few is = cc

pub returns-in-Err-clause-room : goal.returns-in-Err-clause-room
returns-in-Err-clause-room g c files sections told out few = c.in-Err.ensures.room files sections told out few

pub returns-in-Ok-clause-complete : goal.returns-in-Ok-clause-complete
returns-in-Ok-clause-complete g c files told accepted n m = inl refl

pub returns-in-Err-clause-complete : goal.returns-in-Err-clause-complete
returns-in-Err-clause-complete g c files told accepted n m =
    complete_at (map string_bytes c.args.words.now) (g.F.Shelf.sure c.args.shelf.now) (g.F.Shelf.faults c.args.shelf.now) (g.F.Shelf.faults c.carry_out.new.shelf) (g.F.Shelf.last_failed c.carry_out.new.shelf)
    (g.O.Sink.faults c.args.out.now) (g.O.Sink.faults c.carry_out.new.out) files c.in-Err.status accepted n m c.in-Err.ensures.failed (c.in-Err.ensures.refused files told)
