use Rattle.lfg_model.proofs.EdgesOnce as laws
use Rattle.lfg_model.proofs.chart_laws.no_edge_twice.Goals as goal

pub returns : goal.returns
returns c = record { once = laws.no_edge_twice; covers = laws.edges_cover_tokens }
