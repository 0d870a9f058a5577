use Rattle.std.proofs.Common.{rules, map}
use Rattle.lfg_model.specs.ThinText.{is_nothing, IsEnded, IsEntry}
use Rattle.xle_run.specs.Drafts.{entry_view}
use Rattle.xle_run.proofs.Rows.{started, turned, refused, pushed, ended}
use Rattle.xle_run.proofs.Forms.{ended_once}
use Rattle.xle_run.proofs.thin.sections.words_in.Goals as goal

pub loop-rest-init : goal.loop-rest-init
loop-rest-init c = started is_nothing (IsEnded IsEntry) entry_view c.args.entries.now c.new-words.result.items c.new-words.ensures.items

pub loop-rest-preserved : goal.loop-rest-preserved
loop-rest-preserved c =
    turned is_nothing (IsEnded IsEntry) c.args.entries.now c.loop-rest.rest.now c.in-Some.behind.now (map entry_view c.loop-rest.words.items) (map entry_view c.push.new.self.items) (entry_view c.in-Some.word) c.loop-rest.invariant (search rules)
    (rw c.in-Some.is at c.in_ok-word.ensures.read)
    (λ y b s. ended_once IsEntry c.loop-rest.rest.now y (entry_view c.in-Some.word) b c.in-Some.behind.now s (rw c.in-Some.is at c.in_ok-word.ensures.read))
    (pushed entry_view c.loop-rest.words.items c.push.new.self.items c.in-Some.word c.in_ok-push.ensures.items)

pub returns-in_default : goal.returns-in_default
returns-in_default c = refused is_nothing (IsEnded IsEntry) c.args.entries.now c.loop-rest.rest.now (map entry_view c.loop-rest.words.items) c.loop-rest.invariant (search rules) (rw c.in_default.is at c.in_ok-word.ensures.read)

pub returns : goal.returns
returns c = ended is_nothing (IsEnded IsEntry) c.args.entries.now c.loop-rest.rest.now (map entry_view c.loop-rest.words.items) c.loop-rest.invariant (search rules)
