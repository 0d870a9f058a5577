use Rattle.lfg_rows.proofs.charted.chart_of.Goals as goal

pub returns-in-Err-clause-fault : goal.returns-in-Err-clause-fault
returns-in-Err-clause-fault g c = c.in-Err.ensures.fault c.args.line.now

pub returns-in-Err-tokens_of-clause-fault : goal.returns-in-Err-tokens_of-clause-fault
returns-in-Err-tokens_of-clause-fault g c = c.in-Err-tokens_of.ensures.fault c.args.file.now

pub chart-requires-clause-loaded : goal.chart-requires-clause-loaded
chart-requires-clause-loaded g c = c.loaded_grammars_keep_the_conditions.ensures.loaded c.args.file.now c.in-Ok.grammar c.in-Ok.ensures.loads
