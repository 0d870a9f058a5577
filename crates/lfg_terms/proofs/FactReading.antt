-- Facts' texts read back: two facts with one text under one table are one.
use Rattle.std.specs.Prelude.{◌≢◌, ◌⊎◌, decimal, IsSome}
use Rattle.std.proofs.Common.{◌≡◌, ℕ, suc, ◌+◌, ◌<◌, ◌^◌, List, [], ◌∷◌, ◌++◌, Option, Some, None, length, get_or, refl, ap, sym, subst, ◌∙◌, inl, inr, append_assoc, arith}
use Rattle.std.specs.List.{All}
use Rattle.std.specs.Ordering.{eq_by_cmp}
use Rattle.std.proofs.lemmas.List.Quantifiers.{position-Some}
use Rattle.lfg_terms.specs.Order.{node_cmp}
use Rattle.lfg_terms.specs.Texts.{colon, name_text, edge_text}
use Rattle.lfg_terms.specs.FactTexts.{hash, opening, closing, comma, slash, path_text, place_in, layer_text, node_text, arg_layer_text, arg_text, args_text, fact_text, IsListedLayer, IsListed, IsListedArgLayer, IsListedArg, IsPlacedLayer, IsPlacedNode, IsPlacedArgLayer, IsPlacedFact, IsNamedLayer, IsNamed, IsListedFact}
use Rattle.lfg_terms.specs.declared.node.Edge.{Edge}
use Rattle.lfg_terms.specs.declared.node.Fact.{Fact}
use Rattle.lfg_terms.specs.declared.node.Node.{Node, out-Node}
use Rattle.lfg_terms.specs.declared.node.Arg.{Arg, out-Arg}
use Rattle.lfg_terms.specs.declared.node.Arg.TheOpen.{Node-F, Arg-F}
use Rattle.lfg_terms.specs.declared.node.Arg.TheOpen as layer
use Rattle.lfg_terms.specs.declared.node.Arg.TheViews.{roll-Node, roll-Arg, roll-out-Node, roll-out-Arg}
use Rattle.lfg_terms.proofs.Reading.{Stops, StopsDigits, name_text_splits, decimal_splits, edge_text_splits}
use Rattle.lfg_terms.proofs.TextSteps.{tail_text, args_text-cons}
use Rattle.lfg_terms.proofs.Ties.{node_eq_same}

-- the text goes on with a comma or the closing bracket
abbrev Ends : List ℕ → Type 0
Ends r = (rest : List ℕ) × ((r ≡ comma ∷ rest) ⊎ (r ≡ closing ∷ rest))

ends_stops : (r : List ℕ) → Ends r → Stops r
ends_stops r (rest, inl e) = subst Stops (sym e) (refl, refl)
ends_stops r (rest, inr e) = subst Stops (sym e) (refl, refl)

ends_digits : (r : List ℕ) → Ends r → StopsDigits r
ends_digits r (rest, inl e) = let stops : StopsDigits (comma ∷ rest) = omega arith in subst StopsDigits (sym e) stops
ends_digits r (rest, inr e) = let stops : StopsDigits (closing ∷ rest) = omega arith in subst StopsDigits (sym e) stops

abbrev first_of : List ℕ → ℕ
first_of [] = 0
first_of (b ∷ bs) = b

abbrev behind_first : List ℕ → List ℕ
behind_first [] = []
behind_first (b ∷ bs) = bs

-- no other byte ends an argument
ends_other : (b : ℕ) (r s : List ℕ) → b ≢ comma → b ≢ closing → Ends r → r ≢ b ∷ s
ends_other b r s p q (rest, inl e) h = p (ap first_of (sym h ∙ e))
ends_other b r s p q (rest, inr e) h = q (ap first_of (sym h ∙ e))

comma_no_bracket : (r s : List ℕ) → comma ∷ r ≢ closing ∷ s
comma_no_bracket r s e = let heads : ◌≡◌ {A = ℕ} comma closing = ap first_of e in omega arith

ends_slash : (r s : List ℕ) → Ends r → r ≢ slash ∷ s
ends_slash r s = ends_other slash r s (λ e. omega arith) (λ e. omega arith)

ends_colon : (r s : List ℕ) → Ends r → r ≢ colon ∷ s
ends_colon r s = ends_other colon r s (λ e. omega arith) (λ e. omega arith)

ends_hash : (r s : List ℕ) → Ends r → r ≢ hash ∷ s
ends_hash r s = ends_other hash r s (λ e. omega arith) (λ e. omega arith)

-- an argument that its text tells
abbrev IsTellingLayer : Arg-F Arg Node → Type 0
IsTellingLayer l = IsPlacedArgLayer l × IsNamedLayer l

abbrev IsTellingArg : Arg → Type 0
IsTellingArg x = IsTellingLayer (out-Arg x)

-- ---- paths

path_stops : (p : List (List ℕ)) (r : List ℕ) → Stops r → Stops (path_text p ++ r)
path_stops [] r h = h
path_stops (v ∷ p) r h = (refl, refl)

path_digits : (p : List (List ℕ)) (r : List ℕ) → StopsDigits r → StopsDigits (path_text p ++ r)
path_digits [] r h = h
path_digits (v ∷ p) r h = let stops : StopsDigits (slash ∷ []) = omega arith in stops

path_text_splits : (p q : List (List ℕ)) (r s : List ℕ) → Ends r → Ends s → path_text p ++ r ≡ path_text q ++ s → (p ≡ q) × (r ≡ s)
path_text_splits [] [] r s h k e = (refl, e)
path_text_splits [] (w ∷ q) r s h k e = absurd (ends_slash r ((name_text w ++ path_text q) ++ s) h e)
path_text_splits (v ∷ p) [] r s h k e = absurd (ends_slash s ((name_text v ++ path_text p) ++ r) k (sym e))
path_text_splits (v ∷ p) (w ∷ q) r s h k e =
    let behind : (name_text v ++ path_text p) ++ r ≡ (name_text w ++ path_text q) ++ s = ap behind_first e in
    let name = name_text_splits v w (path_text p ++ r) (path_text q ++ s) (path_stops p r (ends_stops r h)) (path_stops q s (ends_stops s k))
    (sym (append_assoc (name_text v) (path_text p) r) ∙ behind ∙ append_assoc (name_text w) (path_text q) s) in
    let rest = path_text_splits p q r s h k name.1 in
    (λ i. name.0 i ∷ rest.0 i, rest.1)

-- ---- nodes

-- a name's text begins with no hash
name_no_hash : (v r s : List ℕ) → Stops r → r ≢ hash ∷ s → name_text v ++ r ≢ hash ∷ s
name_no_hash v r s h k e = k ((name_text_splits v [] r (hash ∷ s) h (refl, refl) e).1)

edge_regroup : (e : Edge) (r : List ℕ) → edge_text e ++ r ≡ name_text e.cat ++ (colon ∷ ((decimal e.from ++ colon ∷ decimal e.to) ++ r))
edge_regroup e r =
    append_assoc (name_text e.cat ++ colon ∷ decimal e.from) (colon ∷ decimal e.to) r ∙ append_assoc (name_text e.cat) (colon ∷ decimal e.from) (colon ∷ decimal e.to ++ r)
    ∙ ap (λ t. name_text e.cat ++ (colon ∷ t)) (sym (append_assoc (decimal e.from) (colon ∷ decimal e.to) r))

edge_no_hash : (e : Edge) (r s : List ℕ) → edge_text e ++ r ≢ hash ∷ s
edge_no_hash e r s h =
    name_no_hash e.cat (colon ∷ ((decimal e.from ++ colon ∷ decimal e.to) ++ r)) s (refl, refl) (λ k. let no : colon ≡ hash = ap first_of k in omega arith) (sym (edge_regroup e r) ∙ h)

-- what two nodes with one text share: their layer, or their place in the table
abbrev Alike : Option ℕ → Option ℕ → Node-F Arg Node → Node-F Arg Node → Type 0
Alike x y l k = (l ≡ k) ⊎ ((i : ℕ) × (x ≡ Some i) × (y ≡ Some i))

abbrev IsSmall : Option ℕ → Type 0
IsSmall None = Unit {0}
IsSmall (Some i) = i + 1 < 2 ^ 64

none_absent : IsSome {T = ℕ} None → ⊥
none_absent h = cc

layer_text_splits : (x y : Option ℕ) (l k : Node-F Arg Node) (r s : List ℕ) → IsSmall x → IsSmall y → IsListedLayer x l → IsListedLayer y k →
    IsPlacedLayer l → IsPlacedLayer k → Ends r → Ends s → layer_text x l ++ r ≡ layer_text y k ++ s → Alike x y l k × (r ≡ s)
layer_text_splits x y (layer.At e p) (layer.At f q) r s a b c d g h i j same =
    let edge = edge_text_splits e f (path_text p ++ r) (path_text q ++ s) g h (path_digits p r (ends_digits r i)) (path_digits q s (ends_digits s j))
    (sym (append_assoc (edge_text e) (path_text p) r) ∙ same ∙ append_assoc (edge_text f) (path_text q) s) in
    let path = path_text_splits p q r s i j edge.1 in
    (inl (λ z. layer.At (edge.0 z) (path.0 z)), path.1)
layer_text_splits x (Some n) (layer.At e p) (layer.New rule var binding) r s a b c d g h i j same =
    absurd (edge_no_hash e (path_text p ++ r) (decimal (n + 1) ++ s) (sym (append_assoc (edge_text e) (path_text p) r) ∙ same))
layer_text_splits x None (layer.At e p) (layer.New rule var binding) r s a b c d g h i j same = absurd (none_absent d)
layer_text_splits (Some n) y (layer.New rule var binding) (layer.At e p) r s a b c d g h i j same =
    absurd (edge_no_hash e (path_text p ++ s) (decimal (n + 1) ++ r) (sym (append_assoc (edge_text e) (path_text p) s) ∙ sym same))
layer_text_splits None y (layer.New rule var binding) (layer.At e p) r s a b c d g h i j same = absurd (none_absent c)
layer_text_splits None y (layer.New rule var binding) (layer.New rule' var' binding') r s a b c d g h i j same = absurd (none_absent c)
layer_text_splits (Some m) None (layer.New rule var binding) (layer.New rule' var' binding') r s a b c d g h i j same = absurd (none_absent d)
layer_text_splits (Some m) (Some n) (layer.New rule var binding) (layer.New rule' var' binding') r s a b c d g h i j same =
    let behind : decimal (m + 1) ++ r ≡ decimal (n + 1) ++ s = ap behind_first same in
    let number = decimal_splits (m + 1) (n + 1) r s a b (ends_digits r i) (ends_digits s j) behind in
    let e : n ≡ m = omega (arith, number.0) in
    (inr (m, refl, ap (λ z. Some z) e), number.1)

module _ (table : List Node) (small : length table < 2 ^ 64) where
  place_small : (n : Node) → IsSmall (place_in table n)
  place_small n = go (place_in table n) refl
    where
      go : (x : Option ℕ) → place_in table n ≡ x → IsSmall x
      go None e = tt
      go (Some i) e = let within : i < length table = (position-Some (eq_by_cmp node_cmp n) table i n e).0 in omega arith

  same_place : (a b : Node) (i : ℕ) → place_in table a ≡ Some i → place_in table b ≡ Some i → a ≡ b
  same_place a b i h k =
      let p : a ≡ get_or table i a = (node_eq_same a (get_or table i a)).0 (position-Some (eq_by_cmp node_cmp a) table i a h).1 in
      let q : b ≡ get_or table i a = (node_eq_same b (get_or table i a)).0 (position-Some (eq_by_cmp node_cmp b) table i a k).1 in
      p ∙ sym q

  node_text_splits : (a b : Node) (r s : List ℕ) → IsListed table a → IsListed table b → IsPlacedNode a → IsPlacedNode b → Ends r → Ends s →
      node_text table a ++ r ≡ node_text table b ++ s → (a ≡ b) × (r ≡ s)
  node_text_splits a b r s c d g h i j same =
      let both = layer_text_splits (place_in table a) (place_in table b) (out-Node a) (out-Node b) r s (place_small a) (place_small b) c d g h i j same in
      (go both.0, both.1)
    where
      go : Alike (place_in table a) (place_in table b) (out-Node a) (out-Node b) → a ≡ b
      go (inl e) = sym (roll-out-Node a) ∙ ap roll-Node e ∙ roll-out-Node b
      go (inr (i, h, k)) = same_place a b i h k

  -- an atom's text is no node's
  atom_no_node_layer : (v : List ℕ) (y : Option ℕ) (k : Node-F Arg Node) (r s : List ℕ) → IsListedLayer y k → Ends r → name_text v ++ r ≢ layer_text y k ++ s
  atom_no_node_layer v y (layer.At f q) r s d i same =
      ends_colon r ((decimal f.from ++ colon ∷ decimal f.to) ++ (path_text q ++ s)) i
      (name_text_splits v f.cat r (colon ∷ ((decimal f.from ++ colon ∷ decimal f.to) ++ (path_text q ++ s))) (ends_stops r i) (refl, refl)
      (same ∙ append_assoc (edge_text f) (path_text q) s ∙ edge_regroup f (path_text q ++ s))).1
  atom_no_node_layer v None (layer.New rule var binding) r s d i same = none_absent d
  atom_no_node_layer v (Some n) (layer.New rule var binding) r s d i same =
      name_no_hash v r (decimal (n + 1) ++ s) (ends_stops r i) (ends_hash r (decimal (n + 1) ++ s) i) same

  arg_layer_splits : (l k : Arg-F Arg Node) (r s : List ℕ) → IsListedArgLayer table l → IsListedArgLayer table k → IsTellingLayer l → IsTellingLayer k → Ends r → Ends s →
      arg_layer_text table l ++ r ≡ arg_layer_text table k ++ s → (l ≡ k) × (r ≡ s)
  arg_layer_splits (layer.Atom v) (layer.Atom w) r s c d g h i j same =
      let both = name_text_splits v w r s (ends_stops r i) (ends_stops s j) same in (ap (λ x. layer.Atom x) both.0, both.1)
  arg_layer_splits (layer.Atom v) (layer.Node b) r s c d g h i j same = absurd (atom_no_node_layer v (place_in table b) (out-Node b) r s d i same)
  arg_layer_splits (layer.Node a) (layer.Atom w) r s c d g h i j same = absurd (atom_no_node_layer w (place_in table a) (out-Node a) s r c j (sym same))
  arg_layer_splits (layer.Node a) (layer.Node b) r s c d g h i j same =
      let both = node_text_splits a b r s c d g.0 h.0 i j same in (ap (λ x. layer.Node x) both.0, both.1)

  arg_text_splits : (x y : Arg) (r s : List ℕ) → IsListedArg table x → IsListedArg table y → IsTellingArg x → IsTellingArg y → Ends r → Ends s →
      arg_text table x ++ r ≡ arg_text table y ++ s → (x ≡ y) × (r ≡ s)
  arg_text_splits x y r s c d g h i j same =
      let both = arg_layer_splits (out-Arg x) (out-Arg y) r s c d g h i j same in
      (sym (roll-out-Arg x) ∙ ap roll-Arg both.0 ∙ roll-out-Arg y, both.1)

  -- ---- lists of arguments, with the closing bracket behind them

  all_first : (P : Arg → Type 0) (x : Arg) (xs : List Arg) → All P (x ∷ xs) → P x
  all_first P x xs h = h 0 x (omega arith)

  all_rest : (P : Arg → Type 0) (x : Arg) (xs : List Arg) → All P (x ∷ xs) → All P xs
  all_rest P x xs h k d l = h (suc k) d (omega arith)

  tail_ends : (xs : List Arg) (r : List ℕ) → Ends (tail_text table xs ++ (closing ∷ r))
  tail_ends [] r = (r, inr refl)
  tail_ends (x ∷ xs) r = ((arg_text table x ++ tail_text table xs) ++ (closing ∷ r), inl refl)

  tail_text_splits : (xs ys : List Arg) (r s : List ℕ) → All (IsListedArg table) xs → All (IsListedArg table) ys → All IsTellingArg xs → All IsTellingArg ys →
      tail_text table xs ++ (closing ∷ r) ≡ tail_text table ys ++ (closing ∷ s) → (xs ≡ ys) × (r ≡ s)
  tail_text_splits [] [] r s c d g h same = (refl, ap behind_first same)
  tail_text_splits [] (y ∷ ys) r s c d g h same = absurd (comma_no_bracket (arg_text table y ++ tail_text table ys ++ (closing ∷ s)) r (sym same))
  tail_text_splits (x ∷ xs) [] r s c d g h same = absurd (comma_no_bracket ((arg_text table x ++ tail_text table xs) ++ (closing ∷ r)) s same)
  tail_text_splits (x ∷ xs) (y ∷ ys) r s c d g h same =
      let behind : (arg_text table x ++ tail_text table xs) ++ (closing ∷ r) ≡ (arg_text table y ++ tail_text table ys) ++ (closing ∷ s) = ap behind_first same in
      let one = arg_text_splits x y (tail_text table xs ++ (closing ∷ r)) (tail_text table ys ++ (closing ∷ s))
      (all_first (IsListedArg table) x xs c) (all_first (IsListedArg table) y ys d) (all_first IsTellingArg x xs g) (all_first IsTellingArg y ys h) (tail_ends xs r) (tail_ends ys s)
      (sym (append_assoc (arg_text table x) (tail_text table xs) (closing ∷ r)) ∙ behind ∙ append_assoc (arg_text table y) (tail_text table ys) (closing ∷ s)) in
      let rest = tail_text_splits xs ys r s (all_rest (IsListedArg table) x xs c) (all_rest (IsListedArg table) y ys d) (all_rest IsTellingArg x xs g) (all_rest IsTellingArg y ys h) one.1 in
      (λ i. one.0 i ∷ rest.0 i, rest.1)

  -- the text of no argument, and that of an argument with a name
  layer_no_end : (k : Arg-F Arg Node) (r s : List ℕ) → IsListedArgLayer table k → IsTellingLayer k → Ends s → closing ∷ r ≢ arg_layer_text table k ++ s
  layer_no_end (layer.Atom w) r s d h j same = h.1 (sym (name_text_splits [] w (closing ∷ r) s (refl, refl) (ends_stops s j) same).0)
  layer_no_end (layer.Node b) r s d h j same = atom_no_node_layer [] (place_in table b) (out-Node b) (closing ∷ r) s d (r, inr refl) same

  args_regroup : (x : Arg) (xs : List Arg) (r : List ℕ) → args_text table (x ∷ xs) ++ (closing ∷ r) ≡ arg_text table x ++ (tail_text table xs ++ (closing ∷ r))
  args_regroup x xs r = ap (λ t. t ++ (closing ∷ r)) (args_text-cons table x xs) ∙ append_assoc (arg_text table x) (tail_text table xs) (closing ∷ r)

  args_text_splits : (xs ys : List Arg) (r s : List ℕ) → All (IsListedArg table) xs → All (IsListedArg table) ys → All IsTellingArg xs → All IsTellingArg ys →
      args_text table xs ++ (closing ∷ r) ≡ args_text table ys ++ (closing ∷ s) → (xs ≡ ys) × (r ≡ s)
  args_text_splits [] [] r s c d g h same = (refl, ap behind_first same)
  args_text_splits [] (y ∷ ys) r s c d g h same =
      absurd (layer_no_end (out-Arg y) r (tail_text table ys ++ (closing ∷ s)) (all_first (IsListedArg table) y ys d) (all_first IsTellingArg y ys h) (tail_ends ys s)
      (same ∙ args_regroup y ys s))
  args_text_splits (x ∷ xs) [] r s c d g h same =
      absurd (layer_no_end (out-Arg x) s (tail_text table xs ++ (closing ∷ r)) (all_first (IsListedArg table) x xs c) (all_first IsTellingArg x xs g) (tail_ends xs r)
      (sym same ∙ args_regroup x xs r))
  args_text_splits (x ∷ xs) (y ∷ ys) r s c d g h same =
      let one = arg_text_splits x y (tail_text table xs ++ (closing ∷ r)) (tail_text table ys ++ (closing ∷ s))
      (all_first (IsListedArg table) x xs c) (all_first (IsListedArg table) y ys d) (all_first IsTellingArg x xs g) (all_first IsTellingArg y ys h) (tail_ends xs r) (tail_ends ys s)
      (sym (args_regroup x xs r) ∙ same ∙ args_regroup y ys s) in
      let rest = tail_text_splits xs ys r s (all_rest (IsListedArg table) x xs c) (all_rest (IsListedArg table) y ys d) (all_rest IsTellingArg x xs g) (all_rest IsTellingArg y ys h) one.1 in
      (λ i. one.0 i ∷ rest.0 i, rest.1)

  fact_regroup : (f : Fact) (r : List ℕ) → fact_text table f ++ r ≡ name_text f.rel ++ (opening ∷ (args_text table f.args ++ (closing ∷ r)))
  fact_regroup f r =
      append_assoc (name_text f.rel ++ opening ∷ args_text table f.args) (closing ∷ []) r ∙ append_assoc (name_text f.rel) (opening ∷ args_text table f.args) (closing ∷ r)

  -- a fact's text gives back the fact and what follows
  pub fact_text_splits : (f g : Fact) (r s : List ℕ) → IsListedFact table f → IsListedFact table g → IsPlacedFact f → IsPlacedFact g → IsNamed f → IsNamed g →
      fact_text table f ++ r ≡ fact_text table g ++ s → (f ≡ g) × (r ≡ s)
  fact_text_splits f g r s c d p q v w same =
      let rel = name_text_splits f.rel g.rel (opening ∷ (args_text table f.args ++ (closing ∷ r))) (opening ∷ (args_text table g.args ++ (closing ∷ s))) (refl, refl) (refl, refl)
      (sym (fact_regroup f r) ∙ same ∙ fact_regroup g s) in
      let args = args_text_splits f.args g.args r s c d (λ k x l. (p k x l, v k x l)) (λ k x l. (q k x l, w k x l)) (ap behind_first rel.1) in
      (λ i. record { rel = rel.0 i; args = args.0 i }, args.1)

  pub fact_text_injective : (f g : Fact) → IsListedFact table f → IsListedFact table g → IsPlacedFact f → IsPlacedFact g → IsNamed f → IsNamed g →
      fact_text table f ≡ fact_text table g → f ≡ g
  fact_text_injective f g c d p q v w same = (fact_text_splits f g [] [] c d p q v w (ap (λ t. t ++ []) same)).0
