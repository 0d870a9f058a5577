-- Lists that a loop makes of another list, element by element.
use Rattle.std.proofs.Common.{◌≡◌, ℕ, ◌+◌, ◌<◌, List, [], ◌∷◌, ◌++◌, length, map, get_or, take, sym, ◌∙◌, ap, subst}
use Rattle.std.proofs.lemmas.List.{map-append, take_more}
use Rattle.lfg_terms.specs.declared.node.Node.{Node}
use Rattle.lfg_model.specs.declared.constant.Constant.{Constant}
use Rattle.lfg_model.specs.Terms.{Name}
use Rattle.lfg_context.specs.Seen.{Set}
use Rattle.lfg_context.specs.Telling.{Tells, InSome}
use Rattle.lfg_unify.specs.Closures.{Row}
use Rattle.lfg_unify.specs.Clashes.{Clashes}
use Rattle.lfg_unify.specs.Collected.{placed_in, source_in, set_in}

pub map_more : {X Y : Type 0} (f : X → Y) (xs : List X) (n : ℕ) (d : X) (old new : List Y) (y : Y) → n < length xs → d ≡ get_or xs n d → old ≡ map f (take n xs) → new ≡ old ++ y ∷ [] → y ≡ f d
    → new ≡ map f (take (n + 1) xs)
map_more f xs n d old new y h e o p q =
    p ∙ ap (λ ys. ys ++ y ∷ []) o ∙ ap (λ z. map f (take n xs) ++ z ∷ []) (q ∙ ap f e) ∙ sym (map-append f (take n xs) (get_or xs n d ∷ [])) ∙ ap (map f) (sym (take_more xs n d h))

-- where the parts are equal, the clash is told of the other ones
pub tells_parts : (z : Set) (rows : List Row) (ns ms : List Node) (vs ws : List (Node × Constant × Set)) (xs ys : List (Node × Name × Node × Set)) (ss ts : List (Node × Node × Set))
    → ns ≡ ms → vs ≡ ws → xs ≡ ys → ss ≡ ts
    → Tells z (InSome (map (placed_in ns) vs) (Clashes rows (map (placed_in ns) vs) (map (source_in ns) xs) (map (set_in ns) ss)))
    → Tells z (InSome (map (placed_in ms) ws) (Clashes rows (map (placed_in ms) ws) (map (source_in ms) ys) (map (set_in ms) ts)))
tells_parts z rows ns ms vs ws xs ys ss ts e f g h t =
    subst (λ (us : List (Node × Node × Set)). Tells z (InSome (map (placed_in ms) ws) (Clashes rows (map (placed_in ms) ws) (map (source_in ms) ys) (map (set_in ms) us)))) h
    (subst (λ (us : List (Node × Name × Node × Set)). Tells z (InSome (map (placed_in ms) ws) (Clashes rows (map (placed_in ms) ws) (map (source_in ms) us) (map (set_in ms) ss)))) g
    (subst (λ (us : List (Node × Constant × Set)). Tells z (InSome (map (placed_in ms) us) (Clashes rows (map (placed_in ms) us) (map (source_in ms) xs) (map (set_in ms) ss)))) f
    (subst (λ (us : List Node). Tells z (InSome (map (placed_in us) vs) (Clashes rows (map (placed_in us) vs) (map (source_in us) xs) (map (set_in us) ss)))) e t)))
