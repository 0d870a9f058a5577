use Rattle.lfg_rows.proofs.charts.counted.Goals as goal

pub returns-clause-loaded : goal.returns-clause-loaded
returns-clause-loaded g c = c.loaded_grammars_keep_the_conditions.ensures.loaded c.args.file.now c.in_ok-it.it.grammar c.in_ok-it.ensures.grammar
