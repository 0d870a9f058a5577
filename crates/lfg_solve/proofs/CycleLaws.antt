-- Steps down between the numbers of a solution are steps down between its nodes.
use Rattle.std.proofs.Common.{◌≡◌, ℕ, ◌<◌, Bool, IsTrue, List, length, Result, Ok, Err, refl, sym, subst, arith}
use Rattle.std.specs.Prelude.{◌↔◌, IfOk}
use Rattle.std.proofs.lemmas.Option.{slice_get_within}
use Rattle.std.specs.declared.alloc.AllocError.{AllocError}
use Rattle.lfg_terms.specs.declared.node.Node.{Node}
use Rattle.lfg_terms.specs.declared.literal.Literal.{Literal}
use Rattle.lfg_model.specs.Solve.{Step, by_arc, to_member, Below, one_step, more_steps, solution}
use Rattle.lfg_solve.specs.declared.solution.Solution.{Solution}
use Rattle.lfg_solve.specs.Descents as descents
use Rattle.lfg_solve.specs.Descents.{AreWithin, Descends, IsUnder, one, more}
use Rattle.lfg_solve.specs.Solves.{ClassOf, Solves}
use Rattle.lfg_solve.proofs.Numbered.{class_once, class_of_arc, class_of_member, arc_of_class, member_of_class}

module _ (ls : List Literal) (s : Solution) (y : Solves ls s) where
  abbrev DescendsHere : ℕ → ℕ → Type 0
  DescendsHere = Descends s.arcs.items s.members.items

  abbrev IsUnderHere : ℕ → ℕ → Type 0
  IsUnderHere = IsUnder s.arcs.items s.members.items

  -- a class goes by one of the numbers of the nodes
  number_within : (x : Node) (i : ℕ) → ClassOf s x i → i < length s.nodes.items
  number_within x i c =
      let l : i < length s.classes = slice_get_within s.classes i i (y.least.each c.number i c.class).1 in
      let e = y.covers in
      omega arith

  -- a step down is between two classes that have nodes
  ends_of_step : (i j : ℕ) → DescendsHere i j → ((x : Node) × ClassOf s x i) × ((t : Node) × ClassOf s t j)
  ends_of_step i j (descents.by_arc {arc} h e f) =
      let r = (y.arcs arc.from arc.attribute arc.to).0 h in
      ((r.0, subst (ClassOf s r.0) e r.2), (r.1, subst (ClassOf s r.1) f r.3))
  ends_of_step i j (descents.to_member {member} h e f) =
      let r = (y.members member.item member.set).0 h in
      ((r.1, subst (ClassOf s r.1) e r.3), (r.0, subst (ClassOf s r.0) f r.2))

  steps_within : AreWithin (length s.nodes.items) s.arcs.items s.members.items
  steps_within = record {
    each = λ i j d. let r = ends_of_step i j d in (number_within r.0.0 i r.0.1, number_within r.1.0 j r.1.1);
  }

  -- a step between numbers is one between the nodes of their classes
  step_of_numbers : (i j : ℕ) (x t : Node) → DescendsHere i j → ClassOf s x i → ClassOf s t j → Step (solution ls) x t
  step_of_numbers i j x t (descents.by_arc {arc} h e f) c d =
      by_arc (arc_of_class ls s y x arc.from arc.attribute t arc.to (subst (ClassOf s x) (sym e) c) (subst (ClassOf s t) (sym f) d) h)
  step_of_numbers i j x t (descents.to_member {member} h e f) c d =
      to_member (member_of_class ls s y x member.set t member.item (subst (ClassOf s x) (sym e) c) (subst (ClassOf s t) (sym f) d) h)

  below_of_numbers : {i j : ℕ} → IsUnderHere i j → (x t : Node) → ClassOf s x i → ClassOf s t j → Below (solution ls) x t
  below_of_numbers (one {i} {j} d) x t c e = one_step (step_of_numbers i j x t d c e)
  below_of_numbers (more {i} {k} {j} d u) x t c e =
      let r = ends_of_step i k d in
      more_steps (step_of_numbers i k x r.1.0 d c r.1.1) (below_of_numbers u r.1.0 t r.1.1 e)

  first_node : {i j : ℕ} → IsUnderHere i j → (x : Node) × ClassOf s x i
  first_node (one {i} {j} d) = (ends_of_step i j d).0
  first_node (more {i} {k} {j} d u) = (ends_of_step i k d).0

  -- and back
  numbers_of_step : {x t : Node} → Step (solution ls) x t → (i : ℕ) × (j : ℕ) × ClassOf s x i × ClassOf s t j × DescendsHere i j
  numbers_of_step {x} {t} (by_arc {a} h) = let r = class_of_arc ls s y x a t h in (r.0, r.1, r.2, r.3, descents.by_arc r.4 refl refl)
  numbers_of_step {x} {t} (to_member h) = let r = class_of_member ls s y x t h in (r.0, r.1, r.2, r.3, descents.to_member r.4 refl refl)

  numbers_of_below : {x t : Node} → Below (solution ls) x t → (i : ℕ) × (j : ℕ) × ClassOf s x i × ClassOf s t j × IsUnderHere i j
  numbers_of_below (one_step h) = let r = numbers_of_step h in (r.0, r.1, r.2, r.3, one r.4)
  numbers_of_below (more_steps {x} {z} {t} h b) =
      let r = numbers_of_step h in
      let q = numbers_of_below b in
      let e : r.1 ≡ q.0 = class_once ls s y z r.1 q.0 r.3 q.2 in
      (r.0, q.1, r.2, q.3, more (subst (λ (k : ℕ). DescendsHere r.0 k) e r.4) q.4)

  cycle_forth : ((i : ℕ) × IsUnderHere i i) → (x : Node) × Below (solution ls) x x
  cycle_forth u = let n = first_node u.1 in (n.0, below_of_numbers u.1 n.0 n.0 n.1 n.1)

  cycle_back : ((x : Node) × Below (solution ls) x x) → (i : ℕ) × IsUnderHere i i
  cycle_back b =
      let r = numbers_of_below b.1 in
      (r.0, subst (λ (k : ℕ). IsUnderHere r.0 k) (class_once ls s y b.0 r.1 r.0 r.3 r.2) r.4)

  cycle_by_numbers : (r : Bool) → (IsTrue r ↔ ((i : ℕ) × IsUnderHere i i)) → IsTrue r ↔ ((x : Node) × Below (solution ls) x x)
  cycle_by_numbers r t = (λ e. cycle_forth (t.0 e), λ b. t.1 (cycle_back b))

  pub cycle_answered : (r : Result Bool AllocError)
      → (AreWithin (length s.nodes.items) s.arcs.items s.members.items → IfOk r (λ found. IsTrue found ↔ ((i : ℕ) × IsUnder s.arcs.items s.members.items i i)))
      → IfOk r (λ found. IsTrue found ↔ ((x : Node) × Below (solution ls) x x))
  cycle_answered (Ok found) h = cycle_by_numbers found (h steps_within)
  cycle_answered (Err e) h = tt
