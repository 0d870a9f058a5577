use Rattle.std.proofs.Common.{◌≡◌, sym, subst, Option, Some, None}
use Rattle.lfg_model.specs.DraftForms.{plain_form}
use Rattle.lfg_model.specs.Loads.{draft_paths}
use Rattle.lfg_grammar.specs.BadPaths.{FoundBadPath}
use Rattle.lfg_grammar.specs.declared.bad_paths.BadPath.{BadPath}
use Rattle.lfg_grammar.specs.Parts.{IsPathFault, memory}
use Rattle.lfg_grammar.proofs.PartLaws.{some_bad, bad_fault}
use Rattle.lfg_grammar.proofs.parts.first_fault.Goals as goal

pub unreachable-requires : goal.unreachable-requires
unreachable-requires c =
    some_bad c.args.depth (draft_paths (plain_form c.args.plain.now)) c.requires.some
    (subst (λ (o : Option BadPath). FoundBadPath c.args.depth (draft_paths (plain_form c.args.plain.now)) o) c.in-Ok-None.field-0-is c.in-Ok-None.ensures)

pub returns-in-Ok-Some : goal.returns-in-Ok-Some
returns-in-Ok-Some c =
    rw c.path_fault.ensures (bad_fault c.args.depth (plain_form c.args.plain.now) c.in-Ok-Some.bad.entry c.in-Ok-Some.bad.fault
    (subst (λ (o : Option BadPath). FoundBadPath c.args.depth (draft_paths (plain_form c.args.plain.now)) o) c.in-Ok-Some.field-0-is c.in-Ok-Some.ensures))

pub returns-in-Err : goal.returns-in-Err
returns-in-Err c = memory
