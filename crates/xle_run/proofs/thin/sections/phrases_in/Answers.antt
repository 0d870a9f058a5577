use Rattle.std.proofs.Common.{rules, map}
use Rattle.lfg_model.specs.ThinText.{is_nothing, IsEnded, IsPhrase}
use Rattle.xle_run.specs.Drafts.{phrase_view}
use Rattle.xle_run.proofs.Rows.{started, turned, refused, pushed, ended}
use Rattle.xle_run.proofs.Forms.{ended_once}
use Rattle.xle_run.proofs.thin.sections.phrases_in.Goals as goal

pub loop-rest-init : goal.loop-rest-init
loop-rest-init c = started is_nothing (IsEnded IsPhrase) phrase_view c.args.entries.now c.new-phrases.result.items c.new-phrases.ensures.items

pub loop-rest-preserved : goal.loop-rest-preserved
loop-rest-preserved c =
    turned is_nothing (IsEnded IsPhrase) c.args.entries.now c.loop-rest.rest.now c.in-Some.behind.now (map phrase_view c.loop-rest.phrases.items) (map phrase_view c.push.new.self.items) (phrase_view c.in-Some.phrase) c.loop-rest.invariant (search rules)
    (rw c.in-Some.is at c.in_ok-phrase.ensures.read)
    (λ y b s. ended_once IsPhrase c.loop-rest.rest.now y (phrase_view c.in-Some.phrase) b c.in-Some.behind.now s (rw c.in-Some.is at c.in_ok-phrase.ensures.read))
    (pushed phrase_view c.loop-rest.phrases.items c.push.new.self.items c.in-Some.phrase c.in_ok-push.ensures.items)

pub returns-in_default : goal.returns-in_default
returns-in_default c = refused is_nothing (IsEnded IsPhrase) c.args.entries.now c.loop-rest.rest.now (map phrase_view c.loop-rest.phrases.items) c.loop-rest.invariant (search rules) (rw c.in_default.is at c.in_ok-phrase.ensures.read)

pub returns : goal.returns
returns c = ended is_nothing (IsEnded IsPhrase) c.args.entries.now c.loop-rest.rest.now (map phrase_view c.loop-rest.phrases.items) c.loop-rest.invariant (search rules)
