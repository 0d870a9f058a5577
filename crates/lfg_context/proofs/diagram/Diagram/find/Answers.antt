use Rattle.std.proofs.Common.{◌≡◌, ℕ, ◌<◌, length, get_or, sym}
use Rattle.std.specs.Prelude.{Option, None, Some, IfSome, IfNone, position}
use Rattle.std.specs.Map.{keys_of}
use Rattle.lfg_context.specs.Tables.{Entry}
use Rattle.lfg_context.specs.contracts.diagram.TestPartialEq.TheImpl as tests
use Rattle.lfg_context.proofs.Keys.{found_test, no_test}
use Rattle.lfg_context.proofs.diagram.Diagram.find.Goals as goal

pub returns-clause-found : goal.returns-clause-found
returns-clause-found c = by_result c.get_index_of.result c.get_index_of.ensures.index
  where
    by_result : (r : Option ℕ) → r ≡ position (tests.ghosts.eq c.args.test.now) (keys_of c.args.self.now.nodes.entries)
        → IfSome r (λ i. (i < length c.args.self.now.nodes.entries) × ((e : Entry) → e ≡ get_or c.args.self.now.nodes.entries i e → (e.0.choice ≡ c.args.test.now.choice) × (e.0.children.items ≡ c.args.test.now.children.items)))
    by_result None e = tt
    by_result (Some i) e = found_test c.args.self.now.nodes.entries c.args.test.now i (sym e)

pub returns-clause-fresh : goal.returns-clause-fresh
returns-clause-fresh c = by_result c.get_index_of.result c.get_index_of.ensures.index
  where
    by_result : (r : Option ℕ) → r ≡ position (tests.ghosts.eq c.args.test.now) (keys_of c.args.self.now.nodes.entries)
        → IfNone r ((i : ℕ) (e : Entry) → i < length c.args.self.now.nodes.entries → e ≡ get_or c.args.self.now.nodes.entries i e → e.0.choice ≡ c.args.test.now.choice → e.0.children.items ≡ c.args.test.now.children.items → ⊥)
    by_result None e = no_test c.args.self.now.nodes.entries c.args.test.now (sym e)
    by_result (Some i) e = tt
