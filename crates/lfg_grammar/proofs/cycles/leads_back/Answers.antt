use Rattle.std.proofs.Common.{◌≡◌, ◌∙◌, ℕ, List, false, get_or, sym, subst, arith}
use Rattle.std.specs.Prelude.{◌↔◌}
use Rattle.std.proofs.lemmas.List.{get_or_read}
use Rattle.lfg_model.specs.Lists.{In}
use Rattle.lfg_rulegraph.specs.Followers.{IsAt}
use Rattle.lfg_grammar.proofs.CycleLaws.{reached_leads}
use Rattle.lfg_grammar.proofs.Reaching.{at_item}
use Rattle.lfg_grammar.proofs.cycles.leads_back.Goals as goal

pub returns : goal.returns
returns c =
    let read : c.index.result.now ≡ get_or c.in_ok-marks.marks.items c.args.place false = get_or_read c.in_ok-marks.marks.items _ _ (omega (arith, c.in_ok-marks.ensures.wide, c.requires)) c.index.ensures false in
    let row = at_item c.args.next.now c.args.place in
    let leads = reached_leads c.args.next.now c.args.place c.deref.result.now (λ j. subst (λ (xs : List ℕ). IsAt c.args.next.now c.args.place j ↔ In j xs) (sym c.deref.ensures.value) (row j c.index-next-place.result c.requires c.index-next-place.is)) c.args.place in
    let exact = c.in_ok-marks.ensures.exact c.args.place c.requires in
    ((λ yes. leads.0 (exact.0 (sym read ∙ yes))), (λ w. read ∙ exact.1 (leads.1 w)))
