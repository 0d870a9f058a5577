use Rattle.std.proofs.Common.{◌∙◌, List, ap, sym, subst, arith}
use Rattle.lfg_context.specs.Seen.{Set}
use Rattle.lfg_packed.specs.Assignments.{picks_at}
use Rattle.lfg_instant.specs.Annotations.{ArePicks}
use Rattle.lfg_instant.specs.Sites.{site_of_key}
use Rattle.lfg_instant.specs.Junctions.{placed}
use Rattle.std.specs.Prelude.{map}
use Rattle.lfg_model.specs.Places.{places}
use Rattle.lfg_model.specs.Terms.{annotation_of}
use Rattle.lfg_instant.proofs.SiteLiterals.{its_site, picks_fit, instance_is, one_site}
use Rattle.lfg_instant.proofs.literals.add_literals.Goals as goal

pub returns-clause-each : goal.returns-clause-each
returns-clause-each c = λ a.
    (let g = c.args.grammar.now in
    let s = c.args.tokens.now in
    let cs = map placed c.args.junctions.now in
    let key = c.args.key.now in
    let its = its_site g s key c.requires.key in
    let same = c.schemata_at-schemata.ensures in
    let numbers = c.deref.ensures.value ∙ c.in_ok-numbers.ensures ∙ ap places same in
    let few = c.forms.ensures in
    let at = site_of_key key in
    let P : List (List Set) → Type 0 = λ z. ArePicks z a (picks_at g s cs a at) in
    let picked = subst P (sym c.deref-2.ensures.value) (c.in_ok-sets.ensures.each at its.1 numbers a) in
    one_site g s cs a key (annotation_of c.schemata_at-schemata.result.now) (record { up = key.edge; down = c.in_ok-down.down; site = c.in_ok-site.site }) c.deref-2.result.now c.args.ctx.now c.args.literals.now.items c.push_instances.new.literals.items
    same (instance_is g key c.in_ok-down.down c.in_ok-site.site c.in_ok-site.ensures c.in_ok-down.ensures)
    picked (picks_fit g s cs a at c.requires.loaded c.requires.junctions.choices its.0)
    (c.in_ok-push_instances.ensures.each (omega (arith, few, c.if-forms.false))))
