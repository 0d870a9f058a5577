-- The grammar of a thin file is loaded from it.
use Rattle.std.proofs.Common.{◌≡◌, ◌≢◌, ℕ, suc, ◌<◌, Option, Some, None, List, [], ◌∷◌, map, slice_get, refl, sym, ap, ◌∙◌, subst, arith, inl, inr}
use Rattle.lfg_terms.specs.declared.grammar.Item.{Item}
use Rattle.lfg_terms.specs.declared.grammar.Rule.{Rule}
use Rattle.lfg_terms.specs.declared.grammar.Lex.{Lex}
use Rattle.lfg_terms.specs.declared.grammar.Grammar.{Grammar}
use Rattle.lfg_model.specs.Derive.{item_at}
use Rattle.lfg_model.specs.Grounded.{HasOnlyCategory, Unary, Chain, link as step, links as steps}
use Rattle.lfg_model.specs.Links.{Reaches, nothing, one_more, defining, up_first, HasLink, CanBeUnlinked}
use Rattle.lfg_model.specs.Lists.{In, here, later}
use Rattle.lfg_model.specs.Loads.{HasWords, IsUnaryCycle, IsUnlinked}
use Rattle.lfg_model.specs.Settings.{IsBadSetting, placed, AreSettings}
use Rattle.lfg_model.specs.Terms.{Name, annotation_of}
use Rattle.lfg_model.specs.TemplateRules.{NoneHas}
use Rattle.lfg_model.specs.Thin.{Daughter, Phrase, Entry, link, item_of, rule_of_phrase, lex_of_entry, IsThinGrammar}
use Rattle.lfg_model.specs.ThinDrafts.{root_setting}
use Rattle.lfg_model.specs.ThinLoads.{ThinFilesAreLoaded}
use Rattle.lfg_model.proofs.ListLaws.{In-map, In_from_map}
use Rattle.lfg_model.proofs.OneTree.{same_some}
use Rattle.lfg_model.proofs.ThinAssembly.{thin_assembles}
use Rattle.lfg_model.proofs.ThinDraftLaws.{thin_files_are_drafted}
use Rattle.lfg_model.proofs.ThinExpansion.{plain_of, thin_expands}
use Rattle.lfg_model.proofs.ThinLaws.{in_row}
use Rattle.lfg_model.proofs.ThinSizes.{thin_few}
use Rattle.lfg_model.proofs.ThinTreeLaws.{In-place_of, once_places, item_place, phrase_of, item_from}

-- ---- settings

root_good : (root : Name) → AreSettings (root_setting root ∷ [])
root_good root = record { good = good; rooted = (root, refl) }
  where
    good : NoneHas IsBadSetting (placed (root_setting root ∷ []))
    good p here (inl i) = elim i [ ]
    good p here (inr o) = o
    good p (later i) b = elim i [ ]

-- ---- the checks

place_of : {X : Type 0} {x : X} {xs : List X} → In x xs → (k : ℕ) × (slice_get xs k ≡ Some x)
place_of here = (0, refl)
place_of (later i) = let h = place_of i in (suc h.0, h.1)

-- the place of a phrase with this category
record IsPlace (ps : List Phrase) (cat : Name) (k : ℕ) : Type 0 where
  phrase : Phrase
  at : slice_get ps k ≡ Some phrase
  is : phrase.cat ≡ cat

-- the link of a daughter is a link
is_linked : (f : Option Name) → CanBeUnlinked (annotation_of (link f ∷ [])) → ⊥
is_linked None u = go u.schemata u.reached u.unlinked
  where
    go : (xs : List _) → Reaches (annotation_of (link None ∷ [])) xs → ¬ HasLink xs → ⊥
    go xs (one_more defining nothing) n = n (record { schema = _; reached = here; links = up_first refl (record { arrow = refl; bare = refl }) })
is_linked (Some a) u = go u.schemata u.reached u.unlinked
  where
    go : (xs : List _) → Reaches (annotation_of (link (Some a) ∷ [])) xs → ¬ HasLink xs → ⊥
    go xs (one_more defining nothing) n = n (record { schema = _; reached = here; links = up_first refl (record { arrow = refl; bare = refl }) })

-- what is the only category of a row is that of an item of it
only_item : (r : Rule) (w : List ℕ) (cat : Name) → HasOnlyCategory r w cat → (k : ℕ) × (i : Item) × (item_at r.items k ≡ Some i) × (i.cat ≡ Some cat)
only_item r [] cat h = absurd h
only_item r (occ ∷ rest) cat (inl h) = only_item r rest cat h.1
only_item r (occ ∷ rest) cat (inr h) = (occ, h.0.0, h.0.1, h.0.2)

module _ (g : Grammar) (thin : IsThinGrammar g) where
  phrase_in : {r : Rule} → In r g.rules → (p : Phrase) × In p thin.draft.phrases × (rule_of_phrase p ≡ r)
  phrase_in {r} i = In_from_map rule_of_phrase thin.draft.phrases (subst (λ (rs : List Rule). In r rs) thin.gives.rules i)

  no_words : NoneHas (HasWords g) g.rules
  no_words r i h =
      let p = phrase_in i in
      let x = In_from_map (λ (y : Lex). y.cat) g.lexicon h in
      let y = In_from_map lex_of_entry thin.draft.entries (subst (λ (xs : List Lex). In x.0 xs) thin.gives.lexicon x.1) in
      let same : (let q : Phrase = p.0 in q.cat) ≡ (let z : Entry = y.0 in z.cat) = ap (λ (z : Rule). z.cat) p.2 ∙ sym x.2 ∙ sym (ap (λ (z : Lex). z.cat) y.2) in
      thin.consistent.apart y.0 y.1 (subst (λ (c : Name). In c (map (λ (q : Phrase). q.cat) thin.draft.phrases)) same (In-map (λ (q : Phrase). q.cat) p.1))

  -- a unary step goes to a later rule
  step_later : (below above : Name) (j : ℕ) → Unary g below above → IsPlace thin.draft.phrases below j → (k : ℕ) × IsPlace thin.draft.phrases above k × (k < j)
  step_later below above j u at =
      let q = phrase_of g thin above u.0 u.1 in
      let k = place_of q.listed in
      let o = only_item u.0 u.2.0 below u.2.2 in
      let p = item_place (let r : Rule = u.0 in r.items) o.0 o.1 o.2 in
      let x = item_from g thin above u.0 q p.0 o.1 p.1 in
      let named : Some (let y : Daughter = x.0 in y.cat) ≡ Some below = ap (λ (z : Item). z.cat) x.2 ∙ o.3 in (
        k.0,
        record { phrase = q.phrase; at = k.1; is = q.category },
        thin.consistent.later k.0 j q.phrase at.phrase x.0 k.1 (In-place_of (let z = q.phrase in z.daughters) p.0 x.0 x.1) at.at (at.is ∙ sym (same_some _ below named)),
      )

  chain_later : {below above : Name} (j : ℕ) → Chain (Unary g) below above → IsPlace thin.draft.phrases below j → (k : ℕ) × IsPlace thin.draft.phrases above k × (k < j)
  chain_later j (step u) at = step_later _ _ j u at
  chain_later j (steps u c) at =
      let h = chain_later j c at in
      let k = step_later _ _ h.0 u h.1 in
      (k.0, k.1, let a = h.2 in let b = k.2 in omega arith)

  no_cycle : NoneHas (IsUnaryCycle g) g.rules
  no_cycle r i c =
      let p = phrase_in i in
      let j = place_of p.1 in
      let h = chain_later j.0 c (record { phrase = p.0; at = j.1; is = ap (λ (z : Rule). z.cat) p.2 }) in
      let same : h.0 ≡ j.0 = once_places (λ (q : Phrase). q.cat) thin.draft.phrases thin.consistent.one_rule h.0 j.0 h.1.phrase p.0 h.1.at j.1 (h.1.is ∙ sym (ap (λ (z : Rule). z.cat) p.2)) in
      let less = h.2 in
      omega (arith, same, less)

  all_linked : NoneHas IsUnlinked g.rules
  all_linked r i u =
      let p = phrase_in i in
      let q : Phrase = p.0 in
      let x = In_from_map item_of q.daughters (subst (λ (z : Rule). In u.item z.items) (sym p.2) u.among) in
      is_linked (let y : Daughter = x.0 in y.function) (subst (λ (z : Item). CanBeUnlinked (annotation_of z.schemata)) (sym x.2) u.unlinked)

pub thin_files_are_loaded : ThinFilesAreLoaded
thin_files_are_loaded bytes g t =
    let h = thin_files_are_drafted bytes g t in
    let filled : (p : Phrase) → In p (let d = t.draft in d.phrases) → p.daughters ≢ [] = λ p i. in_row t.says.phrases.row i in
    let thin : IsThinGrammar g = record { draft = t.draft; consistent = t.consistent; filled = filled; gives = t.gives } in
    record {
      assembled = record {
        plain = plain_of h.form;
        is_plain = record {
          draft = h.form;
          configured = record { drafts = h.drafts; settings = subst AreSettings (sym (let i = h.is in i.settings)) (root_good (let d = t.draft in d.root)) };
          expanded = thin_expands t.draft h.form h.is t.consistent (thin_few bytes g t h.form h.is);
        };
        assembles = thin_assembles t.draft h.form g h.is t.consistent filled t.gives;
      };
      apart = no_words g thin;
      acyclic = no_cycle g thin;
      linked = all_linked g thin;
    }
