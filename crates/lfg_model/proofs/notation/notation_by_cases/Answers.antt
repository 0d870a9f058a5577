use Rattle.lfg_model.proofs.DraftsByCases.{drafts_by_cases}
use Rattle.lfg_model.proofs.PathCases.{paths_by_cases}
use Rattle.lfg_model.proofs.RightSideCases.{right_sides_by_cases}
use Rattle.lfg_model.proofs.SchemaCases.{annotations_by_cases}
use Rattle.lfg_model.proofs.notation.notation_by_cases.Goals as goal

pub returns-clause-paths : goal.returns-clause-paths
returns-clause-paths c = paths_by_cases

pub returns-clause-annotations : goal.returns-clause-annotations
returns-clause-annotations c = annotations_by_cases

pub returns-clause-right_sides : goal.returns-clause-right_sides
returns-clause-right_sides c = right_sides_by_cases

pub returns-clause-drafts : goal.returns-clause-drafts
returns-clause-drafts c = drafts_by_cases
