use Rattle.lfg_solve.proofs.solution.Solution.agrees.Goals as goal

pub returns-in-Atom : goal.returns-in-Atom
returns-in-Atom c = λ ls y. rw c.in-Atom.is (c.reaches_atom.ensures ls y)

pub returns-in-Walk : goal.returns-in-Walk
returns-in-Walk c = λ ls y. rw c.in-Walk.is (c.agree.ensures ls y)
