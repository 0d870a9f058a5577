-- The first path that fails, where one more path comes behind.
use Rattle.std.proofs.Common.{◌≡◌, ℕ, ◌+◌, ◌<◌, ◌≤◌, inl, inr, Option, Some, None, List, [], ◌∷◌, ◌++◌, length, get_or, map, take, refl, sym, ap, ◌∙◌, subst, append_assoc, arith}
use Rattle.std.proofs.lemmas.List.{take_more, map-append}
use Rattle.lfg_model.specs.Lists.{In}
use Rattle.lfg_model.specs.Loads.{PathAt, path_entry, IsBadPath}
use Rattle.lfg_model.specs.TemplateRules.{FirstWritten, NoneHas}
use Rattle.lfg_model.proofs.ListLaws.{In-append_cases, In-nil, In-one}
use Rattle.lfg_regpath.specs.declared.fault.PathFault.{PathFault}
use Rattle.lfg_regpath.specs.declared.fault.PathFault.TheVariants.{TooManyPaths, NoPath, Memory}
use Rattle.lfg_templates.proofs.Firsts.{first_least, none_joined}
use Rattle.lfg_grammar.specs.declared.bad_paths.BadPath.{BadPath}
use Rattle.lfg_grammar.specs.declared.bad_paths.WrittenPath.{WrittenPath}
use Rattle.lfg_grammar.specs.BadPaths.{written_at, FailsSo, IsFirstBad, FoundBadPath}

-- ---- the first of two lists, one behind the other

module _ {X : Type 0} (entry : X → ℕ) (P : X → Type 0) where
  left_first : (xs ys : List X) (x : X) → FirstWritten entry P xs x → ((y : X) → In y ys → P y → entry x ≤ entry y) → FirstWritten entry P (xs ++ ys) x
  left_first xs ys x f h = record {
    front = f.front;
    back = f.back ++ ys;
    is = ap (λ (zs : List X). zs ++ ys) f.is ∙ append_assoc f.front (x ∷ f.back) ys;
    has = f.has;
    before = f.before;
    behind = λ y i p. elim (In-append_cases f.back ys i) [ inl a ↦ f.behind y a p | inr b ↦ h y b p ];
  }

  right_first : (xs ys : List X) (y : X) → FirstWritten entry P ys y → ((x : X) → In x xs → P x → entry y < entry x) → FirstWritten entry P (xs ++ ys) y
  right_first xs ys y f h = record {
    front = xs ++ f.front;
    back = f.back;
    is = ap (λ (zs : List X). xs ++ zs) f.is ∙ sym (append_assoc xs f.front (y ∷ f.back));
    has = f.has;
    before = λ x i p. elim (In-append_cases xs f.front i) [ inl a ↦ h x a p | inr b ↦ f.before x b p ];
    behind = f.behind;
  }

-- ---- one more path

is_bad : (depth : ℕ) (x : PathAt) (f : PathFault) → FailsSo depth x f → IsBadPath depth x
is_bad depth x TooManyPaths h = inl h
is_bad depth x NoPath h = inr h
is_bad depth x Memory h = absurd h

alone : (depth : ℕ) (x : PathAt) → IsBadPath depth x → FirstWritten path_entry (IsBadPath depth) (x ∷ []) x
alone depth x p = record { front = []; back = []; is = refl; has = p; before = λ y i q. In-nil i; behind = λ y i q. In-nil i }

module _ (depth : ℕ) (xs : List PathAt) (x : PathAt) where
  -- none came before
  pub bad_alone : (entry : ℕ) (f : PathFault) → NoneHas (IsBadPath depth) xs → x.entry ≡ entry → FailsSo depth x f → IsFirstBad depth (xs ++ x ∷ []) entry f
  bad_alone entry f n e h = record {
    path = x;
    is_first = right_first path_entry (IsBadPath depth) xs (x ∷ []) x (alone depth x (is_bad depth x f h)) (λ y i p. absurd (n y i p));
    at = e;
    fails = h;
  }

  -- it is of an earlier entry
  pub bad_before : (first entry : ℕ) (g f : PathFault) → IsFirstBad depth xs first g → x.entry ≡ entry → FailsSo depth x f → entry < first → IsFirstBad depth (xs ++ x ∷ []) entry f
  bad_before first entry g f b e h l = record {
    path = x;
    is_first = right_first path_entry (IsBadPath depth) xs (x ∷ []) x (alone depth x (is_bad depth x f h))
        (λ y i p. let m = first_least path_entry (IsBadPath depth) xs b.path b.is_first y i p in let a = b.at in omega arith);
    at = e;
    fails = h;
  }

  -- it is of the same entry or a later one
  pub bad_behind : (first entry : ℕ) (g : PathFault) → IsFirstBad depth xs first g → x.entry ≡ entry → first ≤ entry → IsFirstBad depth (xs ++ x ∷ []) first g
  bad_behind first entry g b e l = record {
    path = b.path;
    is_first = left_first path_entry (IsBadPath depth) xs (x ∷ []) b.path b.is_first (λ y i p. let s : path_entry y ≡ path_entry x = ap path_entry (In-one i) in let a = b.at in omega arith);
    at = b.at;
    fails = b.fails;
  }

  -- it does not fail
  pub good_behind : (o : Option BadPath) → FoundBadPath depth xs o → (IsBadPath depth x → ⊥) → FoundBadPath depth (xs ++ x ∷ []) o
  good_behind None n q = none_joined path_entry (IsBadPath depth) xs (x ∷ []) n (λ y i p. q (subst (IsBadPath depth) (In-one i) p))
  good_behind (Some b) h q = record {
    path = h.path;
    is_first = left_first path_entry (IsBadPath depth) xs (x ∷ []) h.path h.is_first (λ y i p. absurd (q (subst (IsBadPath depth) (In-one i) p)));
    at = h.at;
    fails = h.fails;
  }

-- ---- the loop

-- one more path, read by its place
pub one_more : (ws : List WrittenPath) (i : ℕ) (w : WrittenPath) → i < length ws → w ≡ get_or ws i w → map written_at (take (i + 1) ws) ≡ map written_at (take i ws) ++ written_at w ∷ []
one_more ws i w l e =
    ap (map written_at) (take_more ws i w l ∙ ap (λ (v : WrittenPath). take i ws ++ v ∷ []) (sym e))
    ∙ map-append written_at (take i ws) (w ∷ [])
