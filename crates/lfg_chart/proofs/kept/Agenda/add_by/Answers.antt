use Rattle.std.proofs.Common.{arith, ℕ, ◌<◌, ◌≡◌, length, Some, None, get_or, sym, subst, ◌∙◌}
use Rattle.lfg_model.proofs.ListLaws.{In-at, In-nil}
use Rattle.lfg_model.proofs.OneTree.{same_some}
use Rattle.lfg_chart.specs.declared.kept.Span.{Span}
use Rattle.lfg_chart.specs.declared.links.Link.{Link}
use Rattle.lfg_chart.specs.Agenda.{IsDaughterAt, IsDaughterOver}
use Rattle.lfg_chart.proofs.AgendaLaws.{gathers_none, items_more}
use Rattle.lfg_chart.proofs.kept.Agenda.add_by.Goals as goal
use Rattle.lfg_chart.proofs.kept.Agenda.add_by.Goals.{in-Some+in_ok-add_over, in_default}

pub loop-link-init : goal.loop-link-init
loop-link-init c = record { agenda = c.requires.agenda; found = gathers_none c.args.self.now _ (λ x w. In-nil w.1) }

pub add_over-requires-clause-link : goal.add_over-requires-clause-link
add_over-requires-clause-link c = c.requires.links _ (In-at c.args.links.now c.loop-link.link-index (record { before = 0; item = 0; cat = None }) (omega arith))

pub loop-link-preserved : goal.loop-link-preserved
loop-link-preserved c =
    let t = c.args.table.now in
    let d : Link = record { before = 0; item = 0; cat = None } in
    let link : Link = get_or c.args.links.now c.loop-link.link-index d in
    let l : c.loop-link.link-index < length c.args.links.now = omega arith in
    let Q : Link → Span → Type 0 = λ y x. (below : ℕ) × (y.cat ≡ Some below) × ((at : ℕ) × (mid : ℕ) × IsDaughterAt t c.args.mother y below at mid x) in
    elim c.match-link.branch [
      | in-Some+in_ok-add_over w ↦ rw w.self-is (record {
        agenda = w.in_ok-add_over.ensures.agenda;
        found = items_more c.args.self.now c.loop-link.self w.add_over.new.self Q (IsDaughterOver t c.args.mother link w.in-Some.below t.size) c.args.links.now c.loop-link.link-index d l
            c.loop-link.invariant.found w.in_ok-add_over.ensures.found
            (λ x. (
              (λ q. (
                  let e : q.0 ≡ w.in-Some.below = same_some q.0 w.in-Some.below (sym q.1 ∙ w.in-Some.is) in
                  (q.2.0, q.2.2.read.end, (q.2.1, let P : ℕ → Type 0 = λ n. IsDaughterAt t c.args.mother link n q.2.0 q.2.1 x in subst P e q.2.2))
                  )),
              (λ r. (w.in-Some.below, w.in-Some.is, (r.0, r.2.0, r.2.1))),
            ));
      })
      | in_default w ↦ rw w.self-is (record {
        agenda = c.loop-link.invariant.agenda;
        found = items_more c.args.self.now c.loop-link.self c.loop-link.self Q (λ x. ⊥) c.args.links.now c.loop-link.link-index d l
            c.loop-link.invariant.found (gathers_none c.loop-link.self (λ x. ⊥) (λ x h. h)) (λ x. ((λ q. w.in_default.not-Some q.0 q.1), (λ h. absurd h)));
      })
    ]
