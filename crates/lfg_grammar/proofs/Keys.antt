-- Settings, one after the other.
use Rattle.std.proofs.Common.{◌≡◌, ℕ, ◌<◌, ◌≤◌, ◌+◌, ◌⊎◌, inl, inr, Bool, true, false, cond, ◌&&◌, ◌==◌, Option, Some, None, List, [], ◌∷◌, ◌++◌, length, get_or, take, drop, map, refl, sym, ap, ◌∙◌, subst, arith, suc, add-one}
use Rattle.std.proofs.Math.Seq.{drop-cons}
use Rattle.std.proofs.lemmas.Bool.{eqb-true}
use Rattle.std.proofs.lemmas.List.{take_more, map-append, drop_all}
use Rattle.lfg_terms.specs.declared.draft.Setting.{Setting}
use Rattle.lfg_model.specs.Firsts.{First, first, behind}
use Rattle.lfg_model.specs.Lists.{In, here, later}
use Rattle.lfg_model.specs.Settings.{Placed, placed_from, placed, IsBadSetting, IsOutOfRange, HasBadSetting, bad_setting, greatest_of, words_set}
use Rattle.lfg_model.specs.TemplateRules.{NoneHas}
use Rattle.lfg_model.specs.Terms.{Name, same_name}
use Rattle.lfg_model.proofs.ListLaws.{In-append_left, In-append_right, In-append_cases, In-cons_cases, In-one}

-- one more of a list behind those before it
pub mapped_more : {X Y : Type 0} (f : X → Y) (xs : List X) (i : ℕ) (x : X) → i < length xs → x ≡ get_or xs i x → map f (take (i + 1) xs) ≡ map f (take i xs) ++ f x ∷ []
mapped_more {X} {Y} f xs i x l e = ap (map f) (take_more xs i x l ∙ ap (λ (z : X). take i xs ++ z ∷ []) (sym e)) ∙ map-append f (take i xs) (x ∷ [])

pub in_more : {X Y : Type 0} (f : X → Y) (k : Y) (xs : List X) (i : ℕ) (x : X) → i < length xs → x ≡ get_or xs i x → In k (map f (take (i + 1) xs)) → In k (map f (take i xs)) ⊎ (k ≡ f x)
in_more {X} {Y} f k xs i x l e h = elim (In-append_cases (map f (take i xs)) (f x ∷ []) (subst (λ (ys : List Y). In k ys) (mapped_more f xs i x l e) h)) [ inl a ↦ inl a | inr b ↦ inr (In-one b) ]

pub more_in : {X Y : Type 0} (f : X → Y) (k : Y) (xs : List X) (i : ℕ) (x : X) → i < length xs → x ≡ get_or xs i x → In k (map f (take i xs)) ⊎ (k ≡ f x) → In k (map f (take (i + 1) xs))
more_in {X} {Y} f k xs i x l e h =
    subst (λ (ys : List Y). In k ys) (sym (mapped_more f xs i x l e))
    (elim h [ inl a ↦ In-append_left (f x ∷ []) a | inr b ↦ In-append_right (map f (take i xs)) (subst (λ (y : Y). In k (y ∷ [])) b here) ])

-- what stands at a place, and behind it
pub opened : {X : Type 0} (xs : List X) (i : ℕ) (x : X) → i < length xs → x ≡ get_or xs i x → drop i xs ≡ x ∷ drop (i + 1) xs
opened {X} xs i x l e = rw add-one (drop-cons xs i x l ∙ ap (λ (z : X). z ∷ drop (suc i) xs) (sym e))

-- ---- the first that is at fault

-- behind the settings before this place: the keys that came, and what is known of the rest tells of all
pub record IsRest (ss : List Setting) (i : ℕ) : Type 0 where
  pub earlier : List Name
  pub keys : (k : Name) → (In k earlier → In k (map (λ s. s.key) (take i ss))) × (In k (map (λ s. s.key) (take i ss)) → In k earlier)
  pub none : NoneHas IsBadSetting (placed_from earlier (drop i ss)) → NoneHas IsBadSetting (placed ss)
  pub one : (p : Placed) → First IsBadSetting (placed_from earlier (drop i ss)) p → First IsBadSetting (placed ss) p

pub rest_none : (ss : List Setting) → IsRest ss 0
rest_none ss = record { earlier = []; keys = λ k. (λ h. h, λ h. h); none = λ h. h; one = λ p f. f }

module _ (ss : List Setting) (i : ℕ) (s : Setting) (l : i < length ss) (e : s ≡ get_or ss i s) where
  split : (earlier : List Name) → placed_from earlier (drop i ss) ≡ record { setting = s; earlier = earlier } ∷ placed_from (s.key ∷ earlier) (drop (i + 1) ss)
  split earlier = ap (placed_from earlier) (opened ss i s l e)

  -- the setting at this place is the first
  pub found : (r : IsRest ss i) → IsBadSetting (record { setting = s; earlier = r.earlier }) → (p : Placed) × First IsBadSetting (placed ss) p × (p.setting.entry ≡ s.entry)
  found r b =
      let p : Placed = record { setting = s; earlier = r.earlier } in
      (p, r.one p (subst (λ (ps : List Placed). First IsBadSetting ps p) (sym (split r.earlier)) (first b)), refl)

  pub found_key : IsRest ss i → In s.key (map (λ x. x.key) (take i ss)) → (p : Placed) × First IsBadSetting (placed ss) p × (p.setting.entry ≡ s.entry)
  found_key r h = found r (inl ((r.keys s.key).1 h))

  pub found_number : IsRest ss i → IsOutOfRange (greatest_of s.key) s.words → (p : Placed) × First IsBadSetting (placed ss) p × (p.setting.entry ≡ s.entry)
  found_number r h = found r (inr h)

  keys_more : (earlier : List Name) → ((k : Name) → (In k earlier → In k (map (λ x. x.key) (take i ss))) × (In k (map (λ x. x.key) (take i ss)) → In k earlier))
      → (k : Name) → (In k (s.key ∷ earlier) → In k (map (λ x. x.key) (take (i + 1) ss))) × (In k (map (λ x. x.key) (take (i + 1) ss)) → In k (s.key ∷ earlier))
  keys_more earlier keys k = (to, from)
    where
      to : In k (s.key ∷ earlier) → In k (map (λ x. x.key) (take (i + 1) ss))
      to h = more_in (λ (x : Setting). x.key) k ss i s l e (elim (In-cons_cases h) [ inl a ↦ inr a | inr b ↦ inl ((keys k).0 b) ])

      from : In k (map (λ x. x.key) (take (i + 1) ss)) → In k (s.key ∷ earlier)
      from h = elim (in_more (λ (x : Setting). x.key) k ss i s l e h) [ inl a ↦ later ((keys k).1 a) | inr b ↦ subst (λ (n : Name). In k (n ∷ earlier)) b here ]

  none_of : {P : Placed → Type 0} {p : Placed} {ps : List Placed} → ¬ P p → NoneHas P ps → NoneHas P (p ∷ ps)
  none_of n h x here b = n b
  none_of n h x (later j) b = h x j b

  -- it is not at fault, and the rest is one less
  pub rest_more : IsRest ss i → ¬ In s.key (map (λ x. x.key) (take i ss)) → ¬ IsOutOfRange (greatest_of s.key) s.words → IsRest ss (i + 1)
  rest_more r nokey nonumber =
      let good : ¬ IsBadSetting (record { setting = s; earlier = r.earlier }) = λ b. elim b [ inl h ↦ nokey ((r.keys s.key).0 h) | inr h ↦ nonumber h ] in
      record {
        earlier = s.key ∷ r.earlier;
        keys = keys_more r.earlier r.keys;
        none = λ h. r.none (subst (NoneHas IsBadSetting) (sym (split r.earlier)) (none_of good h));
        one = λ p f. r.one p (subst (λ (ps : List Placed). First IsBadSetting ps p) (sym (split r.earlier)) (behind good f));
      }

pub rest_done : (ss : List Setting) (i : ℕ) → length ss ≤ i → IsRest ss i → NoneHas IsBadSetting (placed ss)
rest_done ss i l r = r.none (subst (λ (xs : List Setting). NoneHas IsBadSetting (placed_from r.earlier xs)) (sym (drop_all i ss l)) (λ p j b. elim j [ ]))

-- ---- what is set

pub set_here : (key : Name) (ss : List Setting) (i : ℕ) (s : Setting) → i < length ss → s ≡ get_or ss i s → same_name s.key key ≡ true → words_set key (drop i ss) ≡ Some s.words
set_here key ss i s l e t = ap (words_set key) (opened ss i s l e) ∙ ap (λ (b : Bool). cond b (Some s.words) (words_set key (drop (i + 1) ss))) t

pub set_later : (key : Name) (ss : List Setting) (i : ℕ) (s : Setting) → i < length ss → s ≡ get_or ss i s → same_name s.key key ≡ false → words_set key (drop i ss) ≡ words_set key (drop (i + 1) ss)
set_later key ss i s l e t = ap (words_set key) (opened ss i s l e) ∙ ap (λ (b : Bool). cond b (Some s.words) (words_set key (drop (i + 1) ss))) t

equal_names : (xs ys : Name) → same_name xs ys ≡ true → xs ≡ ys
equal_names [] [] e = refl
equal_names [] (y ∷ ys) e = absurd (let no : ⊥ = cc in no)
equal_names (x ∷ xs) [] e = absurd (let no : ⊥ = cc in no)
equal_names (x ∷ xs) (y ∷ ys) e = let p = and-true (x == y) (same_name xs ys) e in let h : x ≡ y = eqb-true x y p.0 in let t : xs ≡ ys = equal_names xs ys p.1 in cc
  where
    and-true : (b c : Bool) → (b && c) ≡ true → (b ≡ true) × (c ≡ true)
    and-true true c h = (refl, h)
    and-true false c h = absurd (let no : ⊥ = cc in no)

-- the number of a key that is set is in range
pub good_words : (key : Name) (greatest : ℕ) (ss : List Setting) (earlier words : List Name) → NoneHas IsBadSetting (placed_from earlier ss) → greatest_of key ≡ Some greatest → words_set key ss ≡ Some words → ¬ IsOutOfRange (Some greatest) words
good_words key greatest [] earlier words good g w bad = let no : ⊥ = cc in no
good_words key greatest (s ∷ ss) earlier words good g w bad = at (same_name s.key key) refl w (λ f. good_words key greatest ss (s.key ∷ earlier) words (λ p i b. good p (later i) b) g f bad)
  where
    at : (b : Bool) → same_name s.key key ≡ b → cond b (Some s.words) (words_set key ss) ≡ Some words → (words_set key ss ≡ Some words → ⊥) → ⊥
    at true t f go =
        let k : s.key ≡ key = equal_names s.key key t in
        let v : s.words ≡ words = cc in
        let h : greatest_of s.key ≡ Some greatest = ap greatest_of k ∙ g in
        let out : IsOutOfRange (greatest_of s.key) s.words = rw (h, v) bad in
        good (record { setting = s; earlier = earlier }) here (inr out)
    at false t f go = go f

-- where no entry is at fault and none sets the root, that is the fault
pub at_entry : (ss : List Setting) (n : ℕ) → (p : Placed) × First IsBadSetting (placed ss) p × (p.setting.entry ≡ n) → HasBadSetting ss n
at_entry ss n f = subst (λ (m : ℕ). HasBadSetting ss m) f.2 (bad_setting f.1)
