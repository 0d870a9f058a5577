-- Where a part of an annotation has a path that fails, so has the whole.
use Rattle.std.proofs.Common.{ℕ, ◌≡◌, Option, Some, None, List, [], ◌∷◌, ◌++◌}
use Rattle.lfg_model.specs.Lists.{In}
use Rattle.lfg_model.specs.PathExpressions.{PathExpression}
use Rattle.lfg_model.proofs.ListLaws.{In-append_left, In-append_right}
use Rattle.lfg_regpath.specs.declared.fault.PathFault.{PathFault}
use Rattle.lfg_regpath.specs.declared.fault.PathFault.TheVariants as fault
use Rattle.lfg_grammar.specs.Answers.{SomeBad, FailsIn}

pub some_bad_more : (depth : ℕ) (ps qs : List PathExpression) → ((p : PathExpression) → In p ps → In p qs) → SomeBad depth ps → SomeBad depth qs
some_bad_more depth ps qs more b = record { path = b.path; among = more b.path b.among; bad = b.bad }

pub fails_more : (depth : ℕ) (ps qs : List PathExpression) (f : PathFault) → ((p : PathExpression) → In p ps → In p qs) → FailsIn depth ps f → FailsIn depth qs f
fails_more depth ps qs fault.TooManyPaths more b = some_bad_more depth ps qs more b
fails_more depth ps qs fault.NoPath more b = some_bad_more depth ps qs more b
fails_more depth ps qs fault.Memory more b = tt

pub fails_left : (depth : ℕ) (ps qs : List PathExpression) (f : PathFault) → FailsIn depth ps f → FailsIn depth (ps ++ qs) f
fails_left depth ps qs f b = fails_more depth ps (ps ++ qs) f (λ p i. In-append_left qs i) b

pub fails_right : (depth : ℕ) (ps qs : List PathExpression) (f : PathFault) → FailsIn depth qs f → FailsIn depth (ps ++ qs) f
fails_right depth ps qs f b = fails_more depth qs (ps ++ qs) f (λ p i. In-append_right ps i) b
