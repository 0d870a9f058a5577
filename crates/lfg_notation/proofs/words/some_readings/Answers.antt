use Rattle.std.proofs.Common.{rules, Option, List, subst}
use Rattle.lfg_model.specs.declared.notation.Separator.TheVariants.{Semicolon}
use Rattle.lfg_model.specs.DraftForms.{WordForm}
use Rattle.lfg_notation.specs.Reading.{Gives}
use Rattle.lfg_notation.specs.Views.{words_form}
use Rattle.lfg_notation.proofs.PieceLaws.{some_from_cut}
use Rattle.lfg_notation.proofs.words.some_readings.Goals as goal

pub returns : goal.returns
returns c = subst (λ (o : Option (List WordForm)). Gives words_form c.readings_of.result o) (some_from_cut c.args.number c.args.form.now Semicolon c.args.lexemes.now (search rules)) c.readings_of.ensures
