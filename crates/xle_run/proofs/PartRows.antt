-- Parts behind parts, and the parts of a derivation as a list.
use Rattle.std.proofs.Common.{◌≡◌, ℕ, zero, suc, Some, None, ◌+◌, List, [], ◌∷◌, ◌++◌, refl, ◌∙◌, ap, add-zero, add-suc}
use Rattle.std.proofs.Math.Nat.{suc-add}
use Rattle.lfg_terms.specs.declared.grammar.Rule.{Rule}
use Rattle.lfg_terms.specs.declared.grammar.Grammar.{Grammar}
use Rattle.lfg_terms.specs.declared.tree.TokenForms.{TokenForms}
use Rattle.lfg_terms.specs.declared.tree.Part.{Part}
use Rattle.lfg_terms.specs.declared.tree.Derivation.{Derivation, None', Some', Row_of-Part, end_of-Part, more_of-Part, items-the_row-Part, items_hidden-the_row-Part-0}
use Rattle.lfg_terms.specs.declared.tree.Derivation.TheBlock.{hidden-the_row-Part-0}
use Rattle.lfg_model.specs.Terms.{Parts, no_part, empty, daughter, inner, tree_of, parts_of}
use Rattle.lfg_model.specs.Derive.{occurrences, Covers}
use Rattle.lfg_model.specs.ThinTrees.{numbers}
use Rattle.xle_run.specs.Search.{list_parts, part_before, joined}

row_parts : {n : _} (row : Row_of-Part n) → parts_of row ≡ list_parts (items-the_row-Part n row)
row_parts end_of-Part = refl
row_parts (more_of-Part occ picks None' rest) = ap (empty occ picks.items) (row_parts rest)
row_parts (more_of-Part occ picks (Some' held below) rest) = ap (daughter occ picks.items (tree_of below)) (row_parts rest)

pub same_inner : {cat cat' : _} (v : _) → cat ≡ cat' → inner cat (parts_of (hidden-the_row-Part-0 v)) ≡ inner cat' (list_parts v.items)
same_inner v e = let f = row_parts (hidden-the_row-Part-0 v) ∙ ap list_parts (items_hidden-the_row-Part-0 v) in λ i. inner (e i) (f i)

pub list_parts-push : (ps : List Part) (p : Part) → list_parts (ps ++ p ∷ []) ≡ joined (list_parts ps) (list_parts (p ∷ []))
list_parts-push [] p = refl
list_parts-push (q ∷ ps) p = ap (part_before q.occ q.picks.items q.below) (list_parts-push ps p) ∙ before_joined q.occ q.picks.items q.below (list_parts ps) (list_parts (p ∷ []))
  where
    before_joined : (occ : ℕ) (picks : List ℕ) (below : _) (qs rs : Parts) → part_before occ picks below (joined qs rs) ≡ joined (part_before occ picks below qs) rs
    before_joined occ picks None qs rs = refl
    before_joined occ picks (Some b) qs rs = refl

pub occurrences-joined : (ps qs : Parts) → occurrences (joined ps qs) ≡ occurrences ps ++ occurrences qs
occurrences-joined no_part qs = refl
occurrences-joined (empty occ picks rest) qs = ap (λ ns. occ ∷ ns) (occurrences-joined rest qs)
occurrences-joined (daughter occ picks below rest) qs = ap (λ ns. occ ∷ ns) (occurrences-joined rest qs)

pub Covers-joined : (g : Grammar) (s : List TokenForms) (r : Rule) (ps qs : Parts) (from mid to : ℕ) → Covers g s r ps from mid → Covers g s r qs mid to → Covers g s r (joined ps qs) from to
Covers-joined g s r no_part qs from mid to p q = rw p q
Covers-joined g s r (empty occ picks rest) qs from mid to p q = (p.0, Covers-joined g s r rest qs from mid to p.1 q)
Covers-joined g s r (daughter occ picks below rest) qs from mid to p q = (p.0, p.1, p.2, p.3, Covers-joined g s r rest qs p.1 mid to p.4 q)

pub numbers-push : (k n : ℕ) → numbers k (suc n) ≡ numbers k n ++ (k + n) ∷ []
numbers-push k zero = rw add-zero refl
numbers-push k (suc n) = rw (add-suc, ← suc-add) (ap (λ ns. k ∷ ns) (numbers-push (suc k) n))

pub same_daughter : (ps : Parts) {o o' : ℕ} {ks ks' : List ℕ} {d d' : Derivation} → o ≡ o' → ks ≡ ks' → d ≡ d' → joined ps (daughter o ks (tree_of d) no_part) ≡ joined ps (daughter o' ks' (tree_of d') no_part)
same_daughter ps e f h = λ i. joined ps (daughter (e i) (f i) (tree_of (h i)) no_part)
