use Rattle.std.proofs.Common.{rules, ◌≡◌, ◌<◌, length, get_or, false}
use Rattle.lfg_templates.proofs.Reaching.{tied_more, reached_push}
use Rattle.lfg_templates.proofs.search.mark.Goals as goal

pub returns-clause-tied : goal.returns-clause-tied
returns-clause-tied c =
    let l : c.args.place < length c.args.marks.now.items = search rules in
    let e : get_or c.args.marks.now.items c.args.place false ≡ false = search rules in
    rw c.in_ok-push.ensures.items (tied_more (length c.args.marks.now.items) c.args.marks.now.items c.args.reached.now.items c.args.place c.requires l e)

pub returns-clause-reached : goal.returns-clause-reached
returns-clause-reached c = rw c.in_ok-push.ensures.items (reached_push (length c.args.marks.now.items) c.args.place c.args.reached.now.items)
