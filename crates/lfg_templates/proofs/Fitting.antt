-- A draft that keeps the rules on its calls: how deep they go, and what follows from the count.
use Rattle.std.proofs.Common.{◌≡◌, ℕ, ◌≤◌, Option, Some, None, List, ◌++◌, length, sym, subst}
use Rattle.std.proofs.lemmas.Option.{MatchOption-at_none, MatchOption-at_some}
use Rattle.std.specs.List.{flat_map}
use Rattle.std.specs.Option.{MatchOption}
use Rattle.lfg_model.specs.Lists.{In}
use Rattle.lfg_model.specs.DraftForms.{TemplateForm, DraftForm, PlainForm}
use Rattle.lfg_model.specs.Templates.{Expands, template_named}
use Rattle.lfg_model.specs.TemplateRules.{Call, call_at, calls, rule_calls, template_calls, reading_calls, Weight, whole_size, Passes, schema_limit, IsExpanded, FirstTooMuch}
use Rattle.lfg_model.proofs.ListLaws.{In-map, In-flat_map, In-append_left, In-append_right}
use Rattle.lfg_templates.specs.Counts.{call_count, draft_counts}
use Rattle.lfg_templates.specs.Depth.{DraftLeads}
use Rattle.lfg_templates.specs.Faults.{Fits}
use Rattle.lfg_templates.proofs.Deepening.{deep_enough}
use Rattle.lfg_templates.proofs.Expanding.{made_draft, weighed}

-- calls go no deeper than there are templates
pub fits_lead : (d : DraftForm) → Fits d → DraftLeads d (length d.templates)
fits_lead d f =
    let bodies : (t : TemplateForm) → In t d.templates → (c : Call) → In c (calls t.body) → template_named d.templates c.name ≡ None → ⊥ =
    λ t i c k e. f.defined (call_at t.entry c) (In-append_left (flat_map reading_calls d.words) (In-append_right (flat_map rule_calls d.rules) (In-flat_map template_calls i (In-map (call_at t.entry) k)))) e in
    record {
      rules = λ r i c k. deep_enough d.templates f.acyclic bodies c
          (λ e. f.defined (call_at r.entry c) (In-append_left (flat_map reading_calls d.words) (In-append_left (flat_map template_calls d.templates) (In-flat_map rule_calls i (In-map (call_at r.entry) k)))) e);
      words = λ r i c k. deep_enough d.templates f.acyclic bodies c
          (λ e. f.defined (call_at r.entry c) (In-append_right (flat_map rule_calls d.rules ++ flat_map template_calls d.templates) (In-flat_map reading_calls i (In-map (call_at r.entry) k))) e);
    }

pub lead_at : (d : DraftForm) (depth : ℕ) → depth ≡ length d.templates → Fits d → DraftLeads d depth
lead_at d depth e f = subst (λ (n : ℕ). DraftLeads d n) (sym e) (fits_lead d f)

pub too_much : (d : DraftForm) (depth : ℕ) (o : Option ℕ) (entry : ℕ) → depth ≡ length d.templates → Fits d
    → MatchOption o (whole_size (draft_counts (call_count d.templates depth) d) ≤ schema_limit) (λ n. Passes schema_limit (draft_counts (call_count d.templates depth) d) n) → o ≡ Some entry → FirstTooMuch d entry
too_much d depth o entry e f m s =
    let l = lead_at d depth e f in
    let made = made_draft d depth l in
    record {
      once = f.once;
      defined = f.defined;
      fitting = f.fitting;
      acyclic = f.acyclic;
      becomes = made.becomes;
      expands = made.is;
      passes = subst (λ (ws : List Weight). Passes schema_limit ws entry) (sym (weighed d made.becomes depth l made.is))
          (MatchOption-at_some (whole_size (draft_counts (call_count d.templates depth) d) ≤ schema_limit) (λ n. Passes schema_limit (draft_counts (call_count d.templates depth) d) n) entry s m);
    }

pub not_too_much : (d : DraftForm) (p : PlainForm) (depth : ℕ) (o : Option ℕ) → depth ≡ length d.templates → Fits d
    → MatchOption o (whole_size (draft_counts (call_count d.templates depth) d) ≤ schema_limit) (λ n. Passes schema_limit (draft_counts (call_count d.templates depth) d) n) → o ≡ None → Expands d p → IsExpanded d p
not_too_much d p depth o e f m s x = record {
  once = f.once;
  defined = f.defined;
  fitting = f.fitting;
  acyclic = f.acyclic;
  expands = x;
  few = subst (λ (ws : List Weight). whole_size ws ≤ schema_limit) (sym (weighed d p depth (lead_at d depth e f) x))
      (MatchOption-at_none (whole_size (draft_counts (call_count d.templates depth) d) ≤ schema_limit) (λ n. Passes schema_limit (draft_counts (call_count d.templates depth) d) n) s m);
}
