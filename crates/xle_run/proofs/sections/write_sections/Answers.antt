use Rattle.std.proofs.Common.{map, arith}
use Rattle.lfg_model.proofs.ListLaws.{In-at, In-map}
use Rattle.xle_run.proofs.SectionLaws.{put_none, put_more_at, put_failed_at, put_all_at, room_none, room_more, room_failed}
use Rattle.xle_run.proofs.sections.write_sections.Goals as goal

pub loop-i-init : goal.loop-i-init
loop-i-init g c = record {
  faults = omega arith;
  put = λ before e. put_none c.args.grammar.now (map (λ s. s.now) c.args.sentences.now) before (g.O.Sink.written c.args.out.now) e;
  room = room_none (λ s. s.now) c.args.sentences.now c.args.grammar.now (g.O.Sink.room c.args.out.now);
}

pub write_section-requires-clause-sentence : goal.write_section-requires-clause-sentence
write_section-requires-clause-sentence g c = c.requires.sentences.each _ (In-map (λ s. s.now) (In-at c.args.sentences.now c.loop-i.i _ c.loop-i-test.true))

pub returns-in-Err-clause-written : goal.returns-in-Err-clause-written
returns-in-Err-clause-written g c before e =
    put_failed_at (λ s. s.now) c.args.sentences.now c.args.grammar.now before (Unit {0}) (Unit {0}) c.loop-i.i _ (g.O.Sink.written c.loop-i.out) (g.O.Sink.written c.write_section.new.out) c.in-Err.status c.loop-i-test.true
    (c.loop-i.invariant.put before e) c.in-Err.ensures.written

pub loop-i-preserved : goal.loop-i-preserved
loop-i-preserved g c = record {
  faults = omega (arith, c.in_default.ensures.later);
  put = λ before e. put_more_at (λ s. s.now) c.args.sentences.now c.args.grammar.now before c.loop-i.i _ (g.O.Sink.written c.loop-i.out) (g.O.Sink.written c.write_section.new.out) c.loop-i-test.true
      (c.loop-i.invariant.put before e) c.in_default.ensures.written;
  room = room_more (λ s. s.now) c.args.sentences.now c.args.grammar.now (Unit {0}) _ c.loop-i.i _ (g.O.Sink.room c.args.out.now) (g.O.Sink.room c.loop-i.out) (g.O.Sink.room c.write_section.new.out) c.loop-i-test.true c.loop-i.invariant.room
      c.in_default.ensures.room;
}

pub returns-in-Err-clause-room : goal.returns-in-Err-clause-room
returns-in-Err-clause-room g c all are few =
    room_failed (λ s. s.now) c.args.sentences.now c.args.grammar.now (Unit {0}) c.loop-i.i _ (g.O.Sink.room c.args.out.now) (g.O.Sink.room c.loop-i.out) (g.O.Sink.room c.write_section.new.out) c.in-Err.status c.loop-i-test.true c.loop-i.invariant.room
    c.in-Err.ensures.room all are few

pub returns-clause-written : goal.returns-clause-written
returns-clause-written g c before e =
    put_all_at (λ s. s.now) c.args.sentences.now c.args.grammar.now before c.loop-i.i (g.O.Sink.written c.loop-i.out) c.loop-i-test.false (c.loop-i.invariant.put before e)
