use Rattle.std.proofs.Common.{map}
use Rattle.lfg_model.specs.DraftForms.{template_form, word_form}
use Rattle.lfg_model.specs.Templates.{end, ReadingBecomes}
use Rattle.lfg_templates.proofs.Eaching.{each_more}
use Rattle.lfg_templates.proofs.Measures.{In_item}
use Rattle.lfg_templates.proofs.plain.expand_readings.Goals as goal

pub loop-entry-init : goal.loop-entry-init
loop-entry-init c = rw c.new-out.ensures.items end

pub expand_reading-requires : goal.expand_reading-requires
expand_reading-requires c = c.requires c.entry-item.result (In_item c.args.entries.now c.loop-entry.entry-index c.entry-item.result c.entry-item.result c.loop-entry-test.true c.entry-item.is)

pub loop-entry-preserved : goal.loop-entry-preserved
loop-entry-preserved c = each_more (ReadingBecomes (map template_form c.args.templates.now)) word_form word_form c.args.entries.now c.loop-entry.entry-index c.entry-item.result c.loop-entry.out.items c.in_ok-expand_reading.field-0 c.push.new.self.items
    c.loop-entry-test.true c.entry-item.is c.in_ok-push.ensures.items c.loop-entry.invariant c.in_ok-expand_reading.ensures
