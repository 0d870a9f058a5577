use Rattle.std.proofs.Common.{take}
use Rattle.lfg_model.specs.Loads.{LoadsAnnotation, LoadsBranches}
use Rattle.lfg_model.specs.RightSides.{draft_annotation_of}
use Rattle.lfg_model.specs.Terms.{annotation_of, branches_from}
use Rattle.lfg_grammar.proofs.Loading.{drafted}
use Rattle.lfg_grammar.proofs.annotations.+annotation.Given as goal

abbrev pub invariant-load_annotation-loop-schema : goal.invariant-load_annotation-loop-schema
invariant-load_annotation-loop-schema l = LoadsAnnotation l.depth (draft_annotation_of (take l.schema-index l.schemata)) (annotation_of l.out.items)

abbrev pub invariant-load_schema-loop-branch : goal.invariant-load_schema-loop-branch
invariant-load_schema-loop-branch l = LoadsBranches l.depth (drafted (take l.branch-index l.branch-items)) (branches_from l.out.items)
