-- Walks from class to class, and from node to node.
use Rattle.std.proofs.Common.{◌≡◌, ℕ, ◌+◌, ◌<◌, ◌≤◌, ◌==◌, Bool, true, false, not, IsTrue, Option, Some, None, List, [], ◌∷◌, ◌++◌, length, take, drop, get_or, refl, sym, ap, subst, ◌∙◌, inl, inr, arith}
use Rattle.std.specs.Prelude.{◌↔◌, IfSome, IfNone, option_to_list}
use Rattle.std.proofs.lemmas.Bool.{false≢true}
use Rattle.std.proofs.lemmas.Bool.Decides.{nat_tests}
use Rattle.std.proofs.lemmas.List.{take_more, drop_more, drop_all}
use Rattle.lfg_terms.specs.declared.node.Node.{Node}
use Rattle.lfg_terms.specs.declared.literal.Walk.{Walk}
use Rattle.lfg_terms.specs.declared.literal.Target.{Target}
use Rattle.lfg_terms.specs.declared.literal.Target.TheVariants as target
use Rattle.lfg_terms.specs.declared.literal.Check.{Check}
use Rattle.lfg_terms.specs.declared.literal.Check.TheVariants as check
use Rattle.lfg_terms.specs.declared.literal.Literal.{Literal}
use Rattle.lfg_model.specs.declared.constant.Constant.{Constant}
use Rattle.lfg_model.specs.declared.constant.Constant.TheVariants as constant
use Rattle.lfg_terms.specs.declared.literal.Literal.TheVariants as literal
use Rattle.lfg_model.specs.Lists.{In, here}
use Rattle.lfg_model.specs.Literals.{checks, checks_of}
use Rattle.lfg_model.specs.Terms.{Name, Path}
use Rattle.lfg_model.specs.Solve as model
use Rattle.lfg_model.specs.Solve.{HasArc, HasValue, solution, LeadsTo, Reaches, Match, Agrees, LeadsSomewhere, Holds}
use Rattle.lfg_model.proofs.ListLaws.{In-nil, In-one, In-append_left, In-append_right, In-append_cases, In-take_more, In-flat_map}
use Rattle.lfg_model.proofs.SolutionLaws.{IsOfClasses, solution_of_classes}
use Rattle.lfg_solve.specs.declared.classes.Arc.{Arc}
use Rattle.lfg_solve.specs.declared.solution.Solution.{Solution}
use Rattle.lfg_solve.specs.declared.solution.Value.{Value}
use Rattle.lfg_solve.specs.Found.{SomeOf, EachOf, LeadsBy}
use Rattle.lfg_solve.specs.Solves.{ClassOf, Solves}
use Rattle.lfg_solve.specs.Walking.{HasArcTo, OneTarget, LeadsAlong, LeadsBySome, AreReached, IsAtomOf, IsAtomIn, AreMatching, Unless, AreReachedBy}
use Rattle.lfg_solve.proofs.Dividing.{In-read}
use Rattle.lfg_solve.proofs.Prefixes.{flat_map-take_more, take_whole}
use Rattle.lfg_solve.proofs.Numbered.{class_once, one_class, class_of_value, class_of_arc, value_of_class, arc_of_class, arc_from_class}

-- ---- arcs

pub arc_found : (arcs : List Arc) (i : ℕ) (a : Name) (k : ℕ) (arc : Arc) → k < length arcs → arc ≡ get_or arcs k arc → LeadsBy i a arc → HasArcTo arcs i a arc.to
arc_found arcs i a k arc l e h = subst (λ (r : Arc). In r arcs) (λ n. record { from = h.start n; attribute = h.name n; to = arc.to }) (In-read arcs k arc l e)

leads_by_arc : (arcs : List Arc) (i : ℕ) (a : Name) (j : ℕ) → HasArcTo arcs i a j → SomeOf (LeadsBy i a) arcs
leads_by_arc arcs i a j h = record { at = record { from = i; attribute = a; to = j }; listed = h; holds = record { start = refl; name = refl } }

-- ---- along a path

-- the rest leads on from the class to just where the path leads from the start
pub record LeadsOn (arcs : List Arc) (start : ℕ) (path : Path) (class : ℕ) (rest : Path) : Type 0 where
  pub forth : (k : ℕ) → LeadsAlong arcs class rest k → LeadsAlong arcs start path k
  pub back : OneTarget arcs → (k : ℕ) → LeadsAlong arcs start path k → LeadsAlong arcs class rest k

drop_read : {X : Type 0} (xs : List X) (k : ℕ) (x : X) → k < length xs → x ≡ get_or xs k x → drop k xs ≡ x ∷ drop (k + 1) xs
drop_read xs k x l e = drop_more xs k x l ∙ ap (λ z. z ∷ drop (k + 1) xs) (sym e)

pub LeadsOn-start : (arcs : List Arc) (start : ℕ) (path : Path) → LeadsOn arcs start path start path
LeadsOn-start arcs start path = record { forth = λ k h. h; back = λ one k h. h }

pub LeadsOn-step : (arcs : List Arc) (start : ℕ) (path : Path) (class n : ℕ) (a : Name) (next : ℕ) → n < length path → a ≡ get_or path n a
    → LeadsOn arcs start path class (drop n path) → HasArcTo arcs class a next → LeadsOn arcs start path next (drop (n + 1) path)
LeadsOn-step arcs start path class n a next l e on found = step (drop (n + 1) path) (rw (drop_read path n a l e) at on)
  where
    step : (rest : Path) → LeadsOn arcs start path class (a ∷ rest) → LeadsOn arcs start path next rest
    step rest on = record {
      forth = λ k h. on.forth k (next, found, h);
      back = λ one k h. let r = on.back one k h in subst (λ (j : ℕ). LeadsAlong arcs j rest k) (one.one class a r.0 next r.1 found) r.2;
    }

pub leads_nowhere : (arcs : List Arc) (start : ℕ) (path : Path) (class n : ℕ) (a : Name) → n < length path → a ≡ get_or path n a
    → LeadsOn arcs start path class (drop n path) → ¬ SomeOf (LeadsBy class a) arcs → OneTarget arcs → (k : ℕ) → ¬ LeadsAlong arcs start path k
leads_nowhere arcs start path class n a l e on none = stop (drop (n + 1) path) (rw (drop_read path n a l e) at on)
  where
    stop : (rest : Path) → LeadsOn arcs start path class (a ∷ rest) → OneTarget arcs → (k : ℕ) → ¬ LeadsAlong arcs start path k
    stop rest on one k h = let r = on.back one k h in none (leads_by_arc arcs class a r.0 r.1)

at_end : (arcs : List Arc) (start : ℕ) (path : Path) (class n : ℕ) → length path ≤ n → LeadsOn arcs start path class (drop n path) → LeadsOn arcs start path class []
at_end arcs start path class n l on = subst (λ (rest : Path). LeadsOn arcs start path class rest) (drop_all n path l) on

pub leads_to_end : (arcs : List Arc) (start : ℕ) (path : Path) (class n : ℕ) → length path ≤ n → LeadsOn arcs start path class (drop n path) → LeadsAlong arcs start path class
leads_to_end arcs start path class n l on = (at_end arcs start path class n l on).forth class refl

pub leads_only_there : (arcs : List Arc) (start : ℕ) (path : Path) (class n : ℕ) → length path ≤ n → LeadsOn arcs start path class (drop n path)
    → OneTarget arcs → (k : ℕ) → LeadsAlong arcs start path k → k ≡ class
leads_only_there arcs start path class n l on one k h = sym ((at_end arcs start path class n l on).back one k h)

-- ---- along each of some paths

pub AreReached-none : (arcs : List Arc) (i : ℕ) → AreReached arcs i [] []
AreReached-none arcs i = record { sound = λ k h. In-nil h; all = λ one k h. In-nil h.listed }

pub AreReached-read : (arcs : List Arc) (i : ℕ) (paths : List Path) (n : ℕ) (p : Path) (classes : List ℕ) (found : Option ℕ) → n < length paths → p ≡ get_or paths n p
    → IfSome found (LeadsAlong arcs i p) → IfSome found (λ to. OneTarget arcs → (k : ℕ) → LeadsAlong arcs i p k → k ≡ to)
    → IfNone found (OneTarget arcs → (k : ℕ) → ¬ LeadsAlong arcs i p k)
    → AreReached arcs i (take n paths) classes → AreReached arcs i (take (n + 1) paths) (classes ++ option_to_list found)
AreReached-read arcs i paths n p classes found l e leads only none r = record { sound = sound found leads; all = all found only none }
  where
    within : (q : Path) → In q (take n paths) → In q (take (n + 1) paths)
    within q h = rw (take_more paths n p l) (In-append_left (get_or paths n p ∷ []) h)

    last : In p (take (n + 1) paths)
    last = rw (take_more paths n p l) (In-append_right (take n paths) (rw (← e) here))

    sound : (found : Option ℕ) → IfSome found (LeadsAlong arcs i p) → (k : ℕ) → In k (classes ++ option_to_list found) → LeadsBySome arcs i (take (n + 1) paths) k
    sound found leads k h = elim (In-append_cases classes (option_to_list found) h) [
      | inl a ↦ let s = r.sound k a in record { path = s.path; listed = within s.path s.listed; leads = s.leads }
      | inr b ↦ new found leads b
    ]
      where
        new : (found : Option ℕ) → IfSome found (LeadsAlong arcs i p) → In k (option_to_list found) → LeadsBySome arcs i (take (n + 1) paths) k
        new None leads b = In-nil b
        new (Some to) leads b = record { path = p; listed = last; leads = subst (λ (m : ℕ). LeadsAlong arcs i p m) (sym (In-one b)) leads }

    all : (found : Option ℕ) → IfSome found (λ to. OneTarget arcs → (k : ℕ) → LeadsAlong arcs i p k → k ≡ to) → IfNone found (OneTarget arcs → (k : ℕ) → ¬ LeadsAlong arcs i p k)
        → OneTarget arcs → (k : ℕ) → LeadsBySome arcs i (take (n + 1) paths) k → In k (classes ++ option_to_list found)
    all found only none one k h = elim (In-take_more paths n p l h.listed) [
      | inl a ↦ In-append_left (option_to_list found) (r.all one k (record { path = h.path; listed = a; leads = h.leads }))
      | inr f ↦ In-append_right classes (new found only none (subst (λ (q : Path). LeadsAlong arcs i q k) (f ∙ sym e) h.leads))
    ]
      where
        new : (found : Option ℕ) → IfSome found (λ to. OneTarget arcs → (k : ℕ) → LeadsAlong arcs i p k → k ≡ to) → IfNone found (OneTarget arcs → (k : ℕ) → ¬ LeadsAlong arcs i p k)
            → LeadsAlong arcs i p k → In k (option_to_list found)
        new None only none g = absurd (none one k g)
        new (Some to) only none g = subst (λ (m : ℕ). In m (option_to_list (Some to))) (sym (only one k g)) here

-- ---- numbers and nodes

module _ (ls : List Literal) (s : Solution) (y : Solves ls s) where
  abbrev laws : IsOfClasses (solution ls)
  laws = solution_of_classes ls

  one_target : OneTarget s.arcs.items
  one_target = record { one = λ i a j k h g. one i a j k h g }
    where
      one : (i : ℕ) (a : Name) (j k : ℕ) → HasArcTo s.arcs.items i a j → HasArcTo s.arcs.items i a k → j ≡ k
      one i a j k h g =
          let r = (y.arcs i a j).0 h in
          let q = (y.arcs i a k).0 g in
          let e = (y.same r.1 q.1).0 (laws.arc_target r.0 a r.1 q.1 r.4 (arc_of_class ls s y r.0 i a q.1 k r.2 q.3 g)) in
          class_once ls s y r.1 j e.0 r.3 e.1 ∙ class_once ls s y q.1 e.0 k e.2 q.3

  leads_forth : (x : Node) (i : ℕ) (p : Path) (k : ℕ) → ClassOf s x i → LeadsAlong s.arcs.items i p k → (z : Node) × ClassOf s z k × LeadsTo (solution ls) x p z
  leads_forth x i [] k c e = (x, subst (λ (n : ℕ). ClassOf s x n) e c, one_class ls s y x x i c c)
  leads_forth x i (a ∷ p) k c h =
      let u = arc_from_class ls s y x i a h.0 c h.1 in
      let r = leads_forth u.0 h.0 p k u.1 h.2 in
      (r.0, r.1, (u.0, u.2, r.2))

  leads_back : (x : Node) (i : ℕ) (p : Path) (k : ℕ) (z : Node) → ClassOf s x i → ClassOf s z k → LeadsTo (solution ls) x p z → LeadsAlong s.arcs.items i p k
  leads_back x i [] k z c d e = let r = (y.same x z).0 e in class_once ls s y x i r.0 c r.1 ∙ class_once ls s y z r.0 k r.2 d
  leads_back x i (a ∷ p) k z c d h =
      let r = class_of_arc ls s y x a h.0 h.1 in
      (r.1, subst (λ (n : ℕ). HasArcTo s.arcs.items n a r.1) (class_once ls s y x r.0 i r.2 c) r.4, leads_back h.0 r.1 p k z r.3 d h.2)

  start_class : (x : Node) (p : Path) (z : Node) → LeadsTo (solution ls) x p z → (i : ℕ) × ClassOf s x i
  start_class x [] z e = let r = (y.same x z).0 e in (r.0, r.1)
  start_class x (a ∷ p) z h = let r = class_of_arc ls s y x a h.0 h.1 in (r.0, r.2)

  end_class : (x : Node) (p : Path) (z : Node) → LeadsTo (solution ls) x p z → (k : ℕ) × ClassOf s z k
  end_class x [] z e = let r = (y.same x z).0 e in (r.0, r.2)
  end_class x (a ∷ p) z h = end_class h.0 p z h.2

  pub reached_by_numbers : (walk : Walk) (i : ℕ) (classes : List ℕ) → ClassOf s walk.start i → AreReached s.arcs.items i walk.paths classes → AreReachedBy ls s walk classes
  reached_by_numbers walk i classes c r = record {
    sound = λ k h. let q = r.sound k h in let z = leads_forth walk.start i q.path k c q.leads in (z.0, z.1, (q.path, q.listed, z.2));
    all = λ k z d h. r.all one_target k (record { path = h.0; listed = h.1; leads = leads_back walk.start i h.0 k z c d h.2 });
  }

  pub none_reached : (walk : Walk) → ((i : ℕ) → ¬ ClassOf s walk.start i) → AreReachedBy ls s walk []
  none_reached walk none = record {
    sound = λ k h. In-nil h;
    all = λ k z d h. let r = start_class walk.start h.0 z h.2 in absurd (none r.0 r.1);
  }

  -- ---- what holds where walks lead

  atom_forth : (z : Node) (k : ℕ) (a : Name) → ClassOf s z k → SomeOf (IsAtomOf k a) s.values.items → HasValue ls z (constant.Atom a)
  atom_forth z k a d v = value_of_class ls s y z k (constant.Atom a) d (subst (λ (w : Value). In w s.values.items) (λ n. record { class = v.holds.of n; constant = v.holds.is n }) v.listed)

  atom_back : (z : Node) (k : ℕ) (a : Name) → ClassOf s z k → HasValue ls z (constant.Atom a) → SomeOf (IsAtomOf k a) s.values.items
  atom_back z k a d v =
      let r = class_of_value ls s y z (constant.Atom a) v in
      record { at = record { class = r.0; constant = constant.Atom a }; listed = r.2; holds = record { of = class_once ls s y z r.0 k r.1 d; is = refl } }

  match_forth : (z u : Node) (i j : ℕ) → ClassOf s z i → ClassOf s u j → AreMatching s.values.items i j → Match (solution ls) z u
  match_forth z u i j c d (inl e) = inl (one_class ls s y z u j (subst (λ (n : ℕ). ClassOf s z n) e c) d)
  match_forth z u i j c d (inr v) = inr (atom v.at.constant refl v.holds.shared)
    where
      atom : (b : Constant) → v.at.constant ≡ b → IsAtomIn s.values.items j b → (a : Name) × HasValue ls z (constant.Atom a) × HasValue ls u (constant.Atom a)
      atom (constant.Atom a) is t = (a, atom_forth z i a c (record { at = v.at; listed = v.listed; holds = record { of = v.holds.of; is = is } }), atom_forth u j a d t)
      atom (constant.Form f site index) is t = absurd t

  match_back : (z u : Node) (i j : ℕ) → ClassOf s z i → ClassOf s u j → Match (solution ls) z u → AreMatching s.values.items i j
  match_back z u i j c d (inl e) = let r = (y.same z u).0 e in inl (class_once ls s y z i r.0 c r.1 ∙ class_once ls s y u r.0 j r.2 d)
  match_back z u i j c d (inr (a, v, w)) =
      let r = class_of_value ls s y z (constant.Atom a) v in
      inr (record {
        at = record { class = r.0; constant = constant.Atom a };
        listed = r.2;
        holds = record { of = class_once ls s y z r.0 i r.1 c; shared = atom_back u j a d w };
      })

  pub agrees_by_numbers : (left right : Walk) (classes others : List ℕ) (r : Bool) → AreReachedBy ls s left classes → AreReachedBy ls s right others
      → (IsTrue r ↔ SomeOf (λ i. SomeOf (AreMatching s.values.items i) others) classes) → IsTrue r ↔ Agrees (solution ls) left (target.Walk right)
  agrees_by_numbers left right classes others r p q t = (λ h. forth (t.0 h), λ h. t.1 (back h))
    where
      forth : SomeOf (λ i. SomeOf (AreMatching s.values.items i) others) classes → Agrees (solution ls) left (target.Walk right)
      forth h =
          let z = p.sound h.at h.listed in
          let u = q.sound h.holds.at h.holds.listed in
          (z.0, u.0, z.2, u.2, match_forth z.0 u.0 h.at h.holds.at z.1 u.1 h.holds.holds)

      back : Agrees (solution ls) left (target.Walk right) → SomeOf (λ i. SomeOf (AreMatching s.values.items i) others) classes
      back h =
          let i = end_class left.start h.2.0 h.0 h.2.2 in
          let j = end_class right.start h.3.0 h.1 h.3.2 in
          record {
            at = i.0;
            listed = p.all i.0 h.0 i.1 h.2;
            holds = record { at = j.0; listed = q.all j.0 h.1 j.1 h.3; holds = match_back h.0 h.1 i.0 j.0 i.1 j.1 h.4 };
          }

  pub atom_by_numbers : (walk : Walk) (a : Name) (classes : List ℕ) (r : Bool) → AreReachedBy ls s walk classes
      → (IsTrue r ↔ SomeOf (λ i. SomeOf (IsAtomOf i a) s.values.items) classes) → IsTrue r ↔ Agrees (solution ls) walk (target.Atom a)
  atom_by_numbers walk a classes r p t = (λ h. forth (t.0 h), λ h. t.1 (back h))
    where
      forth : SomeOf (λ i. SomeOf (IsAtomOf i a) s.values.items) classes → Agrees (solution ls) walk (target.Atom a)
      forth h = let z = p.sound h.at h.listed in (z.0, z.2, atom_forth z.0 h.at a z.1 h.holds)

      back : Agrees (solution ls) walk (target.Atom a) → SomeOf (λ i. SomeOf (IsAtomOf i a) s.values.items) classes
      back h = let i = end_class walk.start h.1.0 h.0 h.1.2 in record { at = i.0; listed = p.all i.0 h.0 i.1 h.1; holds = atom_back h.0 i.0 a i.1 h.2 }

-- ---- constraints

pub somewhere_by_numbers : (ls : List Literal) (s : Solution) (walk : Walk) (classes : List ℕ) (r : Bool) → Solves ls s → AreReachedBy ls s walk classes → r ≡ (length classes == 0)
    → IsTrue (not r) ↔ LeadsSomewhere (solution ls) walk
somewhere_by_numbers ls s walk [] r y p e =
    rw e (
      (λ t. absurd (false≢true t)),
      (λ h. let k = end_class ls s y walk.start h.1.0 h.0 h.1.2 in In-nil (p.all k.0 h.0 k.1 h.1)),
    )
somewhere_by_numbers ls s walk (k ∷ classes) r y p e =
    let f : (length (k ∷ classes) == 0) ≡ false = grind (arith, nat_tests) in
    rw (e, f) ((λ t. let z = p.sound k here in (z.0, z.2)), (λ h. refl))

pub same_holds : (y : model.Solution) (negated : Bool) (w : Walk) (t : Target) (agrees r : Bool) → (IsTrue agrees ↔ Agrees y w t) → (IsTrue r ↔ Unless negated (IsTrue agrees)) → IsTrue r ↔ Holds y (check.Same negated w t)
same_holds y false w t agrees r p q = (λ h. p.0 (q.0 h), λ h. q.1 (p.1 h))
same_holds y true w t agrees r p q = (λ h a. q.0 h (p.1 a), λ h. q.1 (λ a. h (p.0 a)))

pub exists_holds : (y : model.Solution) (negated : Bool) (w : Walk) (leads r : Bool) → (IsTrue leads ↔ LeadsSomewhere y w) → (IsTrue r ↔ Unless negated (IsTrue leads)) → IsTrue r ↔ Holds y (check.Exists negated w)
exists_holds y false w leads r p q = (λ h. p.0 (q.0 h), λ h. q.1 (p.1 h))
exists_holds y true w leads r p q = (λ h a. q.0 h (p.1 a), λ h. q.1 (λ a. h (p.0 a)))

-- a literal that is a check, and one that is not
pub one_check : (P : Check → Type 0) (r : Bool) (k : Check) → (IsTrue r ↔ P k) → IsTrue r ↔ ((c : Check) → In c (k ∷ []) → P c)
one_check P r k t = ((λ h c i. subst (λ (d : Check). P d) (sym (In-one i)) (t.0 h)), (λ h. t.1 (h k here)))

pub no_check : (P : Check → Type 0) (l : Literal) → ((k : Check) → l ≡ literal.Check k → ⊥) → (c : Check) → In c (checks_of l) → P c
no_check P (literal.Equal a b) n c i = In-nil i
no_check P (literal.Value x a) n c i = In-nil i
no_check P (literal.Form x f site index) n c i = In-nil i
no_check P (literal.Member m x) n c i = In-nil i
no_check P (literal.Check k) n c i = absurd (n k refl)
no_check P (literal.Mark m) n c i = In-nil i

pub checks_read : (P : Check → Type 0) (ls : List Literal) (k : ℕ) (l : Literal) → k < length ls → l ≡ get_or ls k l
    → EachOf P (checks (take k ls)) → ((c : Check) → In c (checks_of l) → P c) → EachOf P (checks (take (k + 1) ls))
checks_read P ls k l b e h p = rw (flat_map-take_more checks_of ls k l b e) (record {
  each = λ c i. elim (In-append_cases (checks (take k ls)) (checks_of l) i) [ inl a ↦ h.each c a | inr n ↦ p c n ];
})

pub one_check_fails : (P : Check → Type 0) (ls : List Literal) (k : ℕ) (l : Literal) → k < length ls → l ≡ get_or ls k l
    → ¬ ((c : Check) → In c (checks_of l) → P c) → IsTrue false ↔ ((c : Check) → In c (checks ls) → P c)
one_check_fails P ls k l b e n = ((λ t. absurd (false≢true t)), (λ h. absurd (n (λ c i. h c (In-flat_map checks_of (In-read ls k l b e) i)))))

pub each_check : (P : Check → Type 0) (ls : List Literal) (k : ℕ) → length ls ≤ k → EachOf P (checks (take k ls)) → IsTrue true ↔ ((c : Check) → In c (checks ls) → P c)
each_check P ls k b h = ((λ t c i. h.each c (rw (take_whole k ls b) i)), (λ a. refl))
