use Rattle.std.proofs.Common.{◌≡◌, List, ap, sym, subst}
use Rattle.lfg_terms.specs.declared.draft.Setting.{Setting}
use Rattle.lfg_model.specs.DraftForms.{plain_form}
use Rattle.lfg_model.specs.Settings.{IsDepth}
use Rattle.lfg_grammar.specs.Read.{AreRead}
use Rattle.lfg_grammar.proofs.PlainCalls.{plain_without}
use Rattle.lfg_grammar.proofs.RefusalLaws.{path_refusal, side_refusal}
use Rattle.lfg_grammar.proofs.load.grammar_of.Goals as goal

pub load_parts-requires-clause-no_calls : goal.load_parts-requires-clause-no_calls
load_parts-requires-clause-no_calls c = plain_without c.requires.is.draft c.args.plain.now c.requires.is.expanded.expands

pub returns-in-Err-clause-refused : goal.returns-in-Err-clause-refused
returns-in-Err-clause-refused c = λ bytes is.
    let read : AreRead c.args.plain.now.settings c.in-Ok.settings = subst (λ (ss : List Setting). AreRead ss c.in-Ok.settings) c.list.ensures c.in-Ok.ensures in
    path_refusal bytes (plain_form c.args.plain.now) c.in-Ok.settings.depth c.bad_path.result is read.depth c.bad_path.ensures

pub returns-in-Ok-assemble-clause-assembled : goal.returns-in-Ok-assemble-clause-assembled
returns-in-Ok-assemble-clause-assembled c = λ bytes is.
    let read : AreRead c.args.plain.now.settings c.in-Ok.settings = subst (λ (ss : List Setting). AreRead ss c.in-Ok.settings) c.list.ensures c.in-Ok.ensures in
    record { plain = plain_form c.args.plain.now; is_plain = is; assembles = c.in-Ok-assemble.ensures.grammar (plain_form c.args.plain.now) read c.in-Ok-load_parts.ensures }

pub returns-in-Err-assemble-clause-refused : goal.returns-in-Err-assemble-clause-refused
returns-in-Err-assemble-clause-refused c = λ bytes is.
    let read : AreRead c.args.plain.now.settings c.in-Ok.settings = subst (λ (ss : List Setting). AreRead ss c.in-Ok.settings) c.list.ensures c.in-Ok.ensures in
    side_refusal bytes (plain_form c.args.plain.now) c.in-Ok.settings.depth c.in-Ok-load_parts.parts c.in-Err-assemble.fault is read.depth c.in-Ok-load_parts.ensures (c.in-Err-assemble.ensures.fault (plain_form c.args.plain.now) c.in-Ok-load_parts.ensures)
