-- Sums over entries: those before an entry, and those up to it.
use Rattle.std.proofs.Common.{◌≡◌, ℕ, zero, suc, ◌+◌, ◌<◌, ◌≤◌, Bool, true, false, cond, nat_lt, Option, Some, None, List, [], ◌∷◌, ◌++◌, length, map, take, drop, get_or, fold, refl, sym, ap, ◌∙◌, arith}
use Rattle.std.proofs.lemmas.Bool.{ltb-true, ltb-false}
use Rattle.std.proofs.lemmas.List.{map-append}
use Rattle.std.proofs.lemmas.List.Sorted.{sum_by-IsPermutation}
use Rattle.std.specs.List.{sum_by}
use Rattle.std.specs.List.Sorted.{IsPermutation, IsNonDecreasingBy}
use Rattle.std.specs.Option.{MatchOption}
use Rattle.lfg_terms.specs.declared.draft.Draft.{Draft}
use Rattle.lfg_terms.specs.declared.draft.DraftRule.{DraftRule}
use Rattle.lfg_terms.specs.declared.draft.LexEntry.{LexEntry}
use Rattle.lfg_terms.specs.declared.draft.Template.{Template}
use Rattle.lfg_model.specs.DraftForms.{draft_form, rule_form, template_form, word_form}
use Rattle.lfg_model.specs.Lists.{In, here, later}
use Rattle.lfg_model.specs.TemplateRules.{Weight, size_before, Passes, whole_size, schema_limit}
use Rattle.lfg_model.proofs.ListLaws.{In-place, In-nil}
use Rattle.lfg_templates.specs.declared.totals.Weight as held
use Rattle.lfg_templates.specs.Counts.{call_count, rule_count, reading_count, draft_counts, capped, capped_weight, summed}
use Rattle.lfg_templates.specs.Views.{weight_of}
use Rattle.lfg_templates.proofs.Counting.{summed_split, summed_more}

fold_from : {X : Type 0} (f : X → ℕ) (n : ℕ) (xs : List X) → fold (λ a x. a + f x) n xs ≡ n + summed f xs
fold_from f n [] = omega arith
fold_from f n (x ∷ xs) = let r = fold_from f (n + f x) xs in omega (arith, r)

pub sum_is : {X : Type 0} (f : X → ℕ) (xs : List X) → sum_by f xs ≡ summed f xs
sum_is f xs = let r = fold_from f 0 xs in omega (arith, r)

summed_map : {X Y : Type 0} (f : Y → ℕ) (g : X → Y) (xs : List X) → summed f (map g xs) ≡ summed (λ x. f (g x)) xs
summed_map f g [] = refl
summed_map f g (x ∷ xs) = ap (λ (n : ℕ). f (g x) + n) (summed_map f g xs)

pub maps : {X Y Z W : Type 0} (f : Z → W) (g : Y → Z) (h : X → Y) (xs : List X) → map (λ x. f (g (h x))) xs ≡ map f (map g (map h xs))
maps f g h [] = refl
maps {W = W} f g h (x ∷ xs) = ap (λ (ws : List W). f (g (h x)) ∷ ws) (maps f g h xs)

-- ---- one sum within another

part_at : (n e s : ℕ) (b : Bool) → nat_lt n e ≡ b → (cond b s 0 ≤ s) × ((e ≤ n → cond b s 0 ≡ 0) × (n < e → cond b s 0 ≡ s))
part_at n e s true h = (omega arith, (λ l. absurd (let m = ltb-true n e h in let no : ⊥ = omega arith in no), λ l. refl))
part_at n e s false h = (omega arith, (λ l. refl, λ l. absurd (let m = ltb-false n e h in let no : ⊥ = omega arith in no)))

part_le : (e : ℕ) (xs : List held.Weight) → summed (λ w. cond (nat_lt w.entry e) w.size 0) xs ≤ summed (λ w. w.size) xs
part_le e [] = omega arith
part_le e (x ∷ xs) = let r = part_le e xs in let p = (part_at x.entry e x.size (nat_lt x.entry e) refl).0 in omega (arith, r, p)

part_zero : (e : ℕ) (xs : List held.Weight) → ((x : held.Weight) → In x xs → e ≤ x.entry) → summed (λ w. cond (nat_lt w.entry e) w.size 0) xs ≡ 0
part_zero e [] h = refl
part_zero e (x ∷ xs) h =
    let r = part_zero e xs (λ y i. h y (later i)) in
    let p = (part_at x.entry e x.size (nat_lt x.entry e) refl).1.0 (h x here) in
    omega (arith, r, p)

part_whole : (e : ℕ) (xs : List held.Weight) → ((x : held.Weight) → In x xs → x.entry < e) → summed (λ w. cond (nat_lt w.entry e) w.size 0) xs ≡ summed (λ w. w.size) xs
part_whole e [] h = refl
part_whole e (x ∷ xs) h =
    let r = part_whole e xs (λ y i. h y (later i)) in
    let p = (part_at x.entry e x.size (nat_lt x.entry e) refl).1.1 (h x here) in
    omega (arith, r, p)

-- ---- an element of an ascending list, those before it and those behind it

In_drop : (xs : List held.Weight) (i : ℕ) (x : held.Weight) → In x (drop i xs) → (k : ℕ) × (i ≤ k) × (k < length xs) × ((d : held.Weight) → get_or xs k d ≡ x)
In_drop xs zero x h = let p = In-place h in (p.0, omega arith, p.1, p.2)
In_drop [] (suc i) x h = In-nil h
In_drop (y ∷ xs) (suc i) x h = let p = In_drop xs i x h in (suc p.0, let l = p.1 in omega arith, let l = p.2 in omega arith, p.3)

In_front : (xs : List held.Weight) (i : ℕ) (x : held.Weight) → In x (take i xs) → (k : ℕ) × (k < i) × (k < length xs) × ((d : held.Weight) → get_or xs k d ≡ x)
In_front xs zero x h = In-nil h
In_front [] (suc i) x h = In-nil h
In_front (y ∷ xs) (suc i) x here = (0, omega arith, omega arith, λ d. refl)
In_front (y ∷ xs) (suc i) x (later h) = let p = In_front xs i x h in (suc p.0, let l = p.1 in omega arith, let l = p.2 in omega arith, p.3)

pub get_or_same : (xs : List held.Weight) (i : ℕ) (d : held.Weight) → i < length xs → get_or xs i d ≡ get_or xs i (get_or xs i d)
get_or_same [] i d l = absurd (let no : ⊥ = omega arith in no)
get_or_same (x ∷ xs) zero d l = refl
get_or_same (x ∷ xs) (suc i) d l = get_or_same xs i d (omega arith)

module _ (ws : List held.Weight) (up : IsNonDecreasingBy (λ w. w.entry) ws) (i : ℕ) (d : held.Weight) (l : i < length ws) where
  behind : (x : held.Weight) → In x (drop i ws) → (get_or ws i d).entry ≤ x.entry
  behind x h = let p = In_drop ws i x h in let m = up i p.0 d p.1 p.2 in let e : (get_or ws p.0 d).entry ≡ x.entry = ap (λ (w : held.Weight). w.entry) (p.3 d) in omega (arith, m, e)

  before : (x : held.Weight) → In x (take (i + 1) ws) → x.entry < suc ((get_or ws i d).entry)
  before x h =
      let p = In_front ws (i + 1) x h in
      let m = up p.0 i d (let q = p.1 in omega arith) l in
      let e : (get_or ws p.0 d).entry ≡ x.entry = ap (λ (w : held.Weight). w.entry) (p.3 d) in
      omega (arith, m, e)

  -- where the sum passes the limit, its entry is the first
  pub passes_there : summed (λ w. w.size) (take i ws) ≤ schema_limit → schema_limit < summed (λ w. w.size) (take i ws) + (get_or ws i d).size → Passes schema_limit (map weight_of ws) ((get_or ws i d).entry)
  passes_there a b =
      record {
        before =
            let s = sum_is (λ w. cond (nat_lt w.entry ((get_or ws i d).entry)) w.size 0) (map weight_of ws) in
            let m = summed_map (λ w. cond (nat_lt w.entry ((get_or ws i d).entry)) w.size 0) weight_of ws in
            let p = summed_split (λ w. cond (nat_lt w.entry ((get_or ws i d).entry)) w.size 0) ws i in
            let z = part_zero ((get_or ws i d).entry) (drop i ws) behind in
            let q = part_le ((get_or ws i d).entry) (take i ws) in
            omega (arith, s, m, p, z, q, a);
        over =
            let s = sum_is (λ w. cond (nat_lt w.entry (suc ((get_or ws i d).entry))) w.size 0) (map weight_of ws) in
            let m = summed_map (λ w. cond (nat_lt w.entry (suc ((get_or ws i d).entry))) w.size 0) weight_of ws in
            let p = summed_split (λ w. cond (nat_lt w.entry (suc ((get_or ws i d).entry))) w.size 0) ws (i + 1) in
            let z = part_whole (suc ((get_or ws i d).entry)) (take (i + 1) ws) before in
            let q = summed_more (λ w. w.size) ws i (get_or ws i d) l (get_or_same ws i d l) in
            omega (arith, s, m, p, z, q, b);
      }

-- ---- sorted, and with numbers that stop one past the limit

sorted_same : (f : Weight → ℕ) (xs ys : List held.Weight) → IsPermutation xs ys → sum_by f (map weight_of ys) ≡ sum_by f (map weight_of xs)
sorted_same f xs ys p =
    sum_is f (map weight_of ys) ∙ summed_map f weight_of ys ∙ sym (sum_is (λ x. f (weight_of x)) ys) ∙ sum_by-IsPermutation (λ x. f (weight_of x)) xs ys p
    ∙ sum_is (λ x. f (weight_of x)) xs ∙ sym (summed_map f weight_of xs) ∙ sym (sum_is f (map weight_of xs))

capped_sums : (f g : Weight → ℕ) → ((w : Weight) → g w ≡ capped (f w)) → (ws : List Weight) → capped (summed g ws) ≡ capped (summed f ws)
capped_sums f g h [] = refl
capped_sums f g h (w ∷ ws) = let r = capped_sums f g h ws in let e = h w in omega (arith, r, e)

capped_part : (b : Bool) (n : ℕ) → cond b (capped n) 0 ≡ capped (cond b n 0)
capped_part true n = refl
capped_part false n = omega arith

module _ (ws : List Weight) (xs ys : List held.Weight) (e : map weight_of xs ≡ map capped_weight ws) (p : IsPermutation xs ys) where
  same_capped : (f g : Weight → ℕ) → ((w : Weight) → f (capped_weight w) ≡ g w) → ((w : Weight) → g w ≡ capped (f w)) → capped (sum_by f (map weight_of ys)) ≡ capped (sum_by f ws)
  same_capped f g k h =
      let a = sorted_same f xs ys p in
      let b : sum_by f (map weight_of xs) ≡ sum_by f (map capped_weight ws) = ap (sum_by f) e in
      let c = sum_is f (map capped_weight ws) ∙ summed_map f capped_weight ws in
      let d = capped_sums f (λ w. f (capped_weight w)) (λ w. k w ∙ h w) ws in
      let z = sum_is f ws in
      ap capped (a ∙ b ∙ c) ∙ d ∙ ap capped (sym z)

  same_whole : capped (whole_size (map weight_of ys)) ≡ capped (whole_size ws)
  same_whole = same_capped (λ w. w.size) (λ w. capped w.size) (λ w. refl) (λ w. refl)

  same_before : (entry : ℕ) → capped (size_before entry (map weight_of ys)) ≡ capped (size_before entry ws)
  same_before entry = same_capped (λ w. cond (nat_lt w.entry entry) w.size 0) (λ w. cond (nat_lt w.entry entry) (capped w.size) 0) (λ w. refl) (λ w. capped_part (nat_lt w.entry entry) w.size)

  pub same_first : (o : Option ℕ) → MatchOption o (whole_size (map weight_of ys) ≤ schema_limit) (λ entry. Passes schema_limit (map weight_of ys) entry) → MatchOption o (whole_size ws ≤ schema_limit) (λ entry. Passes schema_limit ws entry)
  same_first None l = let s = same_whole in omega (arith, s, l)
  same_first (Some entry) q =
      let s = same_before entry in
      let t = same_before (suc entry) in
      record { before = let b = q.before in omega (arith, s, b); over = let o = q.over in omega (arith, t, o) }

pub whole_is : (ws : List held.Weight) → whole_size (map weight_of ws) ≡ summed (λ w. w.size) ws
whole_is ws = sum_is (λ w. w.size) (map weight_of ws) ∙ summed_map (λ w. w.size) weight_of ws

-- ---- what was counted

pub counted : (depth : ℕ) (d : Draft) (templates : List Template) (rules : List DraftRule) (entries : List LexEntry) (start one two : List held.Weight) → templates ≡ d.templates → rules ≡ d.rules → entries ≡ d.entries → start ≡ []
    → map weight_of one ≡ map weight_of start ++ map (λ r. capped_weight (rule_count (call_count (map template_form templates) depth) (rule_form r))) rules
    → map weight_of two ≡ map weight_of one ++ map (λ e. capped_weight (reading_count (call_count (map template_form templates) depth) (word_form e))) entries
    → map weight_of two ≡ map capped_weight (draft_counts (call_count (map template_form d.templates) depth) (draft_form d))
counted depth d templates rules entries start one two et er ee es h g =
    let a : map weight_of one ≡ map (λ r. capped_weight (rule_count (call_count (map template_form templates) depth) (rule_form r))) rules = h ∙ ap (λ (xs : List held.Weight). map weight_of xs ++ map (λ r. capped_weight (rule_count (call_count (map template_form templates) depth) (rule_form r))) rules) es in
    g ∙ ap (λ (ws : List Weight). ws ++ map (λ e. capped_weight (reading_count (call_count (map template_form templates) depth) (word_form e))) entries) (a ∙ maps capped_weight (rule_count (call_count (map template_form templates) depth)) rule_form rules)
    ∙ ap (λ (ws : List Weight). map capped_weight (map (rule_count (call_count (map template_form templates) depth)) (map rule_form rules)) ++ ws) (maps capped_weight (reading_count (call_count (map template_form templates) depth)) word_form entries)
    ∙ sym (map-append capped_weight (map (rule_count (call_count (map template_form templates) depth)) (map rule_form rules)) (map (reading_count (call_count (map template_form templates) depth)) (map word_form entries)))
    ∙ ap (λ (rs : List DraftRule). map capped_weight (map (rule_count (call_count (map template_form templates) depth)) (map rule_form rs) ++ map (reading_count (call_count (map template_form templates) depth)) (map word_form entries))) er
    ∙ ap (λ (es : List LexEntry). map capped_weight (map (rule_count (call_count (map template_form templates) depth)) (map rule_form d.rules) ++ map (reading_count (call_count (map template_form templates) depth)) (map word_form es))) ee
    ∙ ap (λ (ts : List Template). map capped_weight (draft_counts (call_count (map template_form ts) depth) (draft_form d))) et
