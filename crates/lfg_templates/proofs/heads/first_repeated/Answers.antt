use Rattle.std.proofs.Common.{rules, ◌≡◌, ◌+◌, arith, sym, refl, ◌∙◌, subst, List, Option, map, take}
use Rattle.std.proofs.lemmas.List.{take_all}
use Rattle.std.specs.Option.{option_map}
use Rattle.indexmap.specs.IndexMap.{Updates}
use Rattle.lfg_model.specs.Terms.{Name, same_name}
use Rattle.lfg_model.specs.TemplateRules as written
use Rattle.lfg_model.specs.TemplateRules.{Headed, Repeated, headed, head_entry, head_name}
use Rattle.lfg_templates.specs.Headings.{Tells}
use Rattle.lfg_templates.specs.Spots.{Finds}
use Rattle.lfg_templates.specs.Views.{head_of, spot_of}
use Rattle.lfg_templates.specs.declared.heads.Head.{Head}
use Rattle.lfg_templates.specs.declared.heads.Heading.{Heading}
use Rattle.lfg_templates.proofs.Firsts.{finds_nothing}
use Rattle.lfg_templates.proofs.Heading.{headed_more, heads_taken}
use Rattle.lfg_templates.proofs.HeadingLaws.{headings_none, headings_taken}
use Rattle.lfg_templates.proofs.heads.first_repeated.Goals as goal

pub loop-head-init : goal.loop-head-init
loop-head-init c = record { finds = finds_nothing head_entry head_name Repeated; told = headings_none c.new-headings.result c.new-headings.ensures.empty }

pub loop-head-preserved : goal.loop-head-preserved
loop-head-preserved c =
    let taken = heads_taken c.args.heads.now c.loop-head.head-index c.head-item.result c.loop-head-test.true c.head-item.is in
    let copy : c.in_ok-clone.field-0 ≡ c.head-item.result.name.now = search rules in
    let before : Tells (map head_of (take c.loop-head.head-index c.args.heads.now)) c.head-item.result.name.now c.copied-before.result =
    subst (λ (o : Option Heading). Tells (map head_of (take c.loop-head.head-index c.args.heads.now)) c.head-item.result.name.now o) (sym (c.copied-before.ensures ∙ c.get.ensures.value)) (c.loop-head.invariant.told c.head-item.result.name.now) in
    record {
      finds = subst (λ (hs : List Headed). Finds head_entry head_name Repeated hs (option_map spot_of c.in_ok-first.first)) (sym (headed_more c.args.heads.now c.loop-head.head-index c.head-item.result c.loop-head-test.true c.head-item.is))
          (c.in_ok-first.ensures (headed (map head_of (take c.loop-head.head-index c.args.heads.now))) (map head_of (take c.loop-head.head-index c.args.heads.now)) before c.loop-head.invariant.finds);
      told = headings_taken (map head_of (take c.loop-head.head-index c.args.heads.now)) (map head_of (take (c.loop-head.head-index + 1) c.args.heads.now)) (head_of c.head-item.result) c.loop-head.headings c.insert.new.self c.in_ok-clone.field-0 c.with_entry.result taken copy
          c.loop-head.invariant.told (c.with_entry.ensures (map head_of (take c.loop-head.head-index c.args.heads.now)) (head_of c.head-item.result) refl before) c.in_ok-insert.ensures.updates;
    }

pub returns : goal.returns
returns c = subst (λ (hs : List Head). Finds head_entry head_name Repeated (headed (map head_of hs)) (option_map spot_of c.loop-head.first)) (take_all c.loop-head.head-index c.args.heads.now (omega arith)) c.loop-head.invariant.finds
