-- A grammar that is loaded from a file keeps the conditions of a loaded grammar.
use Rattle.std.proofs.Common.{◌≡◌, ℕ, Some, List, sym, ◌∙◌, subst, arith, codes}
use Rattle.std.specs.Cmp.Lexicographic.{same_text}
use Rattle.lfg_terms.specs.declared.grammar.Rule.{Rule}
use Rattle.lfg_terms.specs.declared.grammar.Grammar.{Grammar}
use Rattle.lfg_model.specs.Derive.{rule_of}
use Rattle.lfg_model.specs.Grounded.{Unary, Chain, link, links}
use Rattle.lfg_model.specs.Lists.{In}
use Rattle.lfg_model.specs.Loaded.{LoadsGivesLoaded, LoadedHasNoEdgeTwice}
use Rattle.lfg_model.specs.Loads.{Loads}
use Rattle.lfg_model.specs.Terms.{Name, same_name}
use Rattle.lfg_model.proofs.AssemblyLaws.{each_back}
use Rattle.lfg_model.proofs.EdgesOnce.{no_edge_twice}
use Rattle.lfg_model.proofs.ManWalksTree.{In_from_find}
use Rattle.lfg_model.proofs.SoundCounts.{grammar_counts, each_length}
use Rattle.lfg_model.proofs.SoundEntries.{free_draft}
use Rattle.lfg_model.proofs.SoundExpansion.{free_plain}
use Rattle.lfg_model.proofs.SoundHeads.{one_rule}
use Rattle.lfg_model.proofs.SoundLoads.{sound_items, sound_words, free_names, set_within}
use Rattle.lfg_model.proofs.SoundWalks.{no_empty_cycle, walks_filled}

-- the rule of a category is one of the grammar's, and heads the category
rule_in : (g : Grammar) (cat : Name) (rule : Rule) → rule_of g cat ≡ Some rule → In rule g.rules × (rule.cat ≡ cat)
rule_in g cat rule e = let f = In_from_find (λ r. same_name r.cat cat) g.rules rule e in (f.0, same_text rule.cat cat (sym f.1))

-- a category above others has a rule
top_rule : (g : Grammar) {below cat : Name} → Chain (Unary g) below cat → (rule : Rule) × (rule_of g cat ≡ Some rule)
top_rule g (link r) = (r.0, r.1)
top_rule g (links r c) = (r.0, r.1)

module _ (bytes : List ℕ) (g : Grammar) (l : Loads bytes g) where
  unary : (cat : Name) → ¬ Chain (Unary g) cat cat
  unary cat c =
      let t = top_rule g c in
      let r = rule_in g cat t.0 t.1 in
      let P : Name → Type 0 = λ n. Chain (Unary g) n n in
      l.acyclic t.0 r.0 (subst P (sym r.1) c)

pub loads_gives_loaded : LoadsGivesLoaded
loads_gives_loaded bytes g l =
    let plain = l.assembled.plain in
    let is_plain = l.assembled.is_plain in
    let a = l.assembled.assembles in
    let draft = free_draft bytes is_plain.draft is_plain.configured.drafts in
    let expanded = is_plain.expanded in
    let free = free_plain draft.0 is_plain.draft plain draft.1 expanded.expands in
    let nodes = set_within (codes "GENSIZE") 400 60 plain.settings g.gensize (omega arith) (omega arith) a.gensize in
    let facts = set_within (codes "MAXFACTS") 200000 200000 plain.settings g.maxfacts (omega arith) (omega arith) a.maxfacts in
    record {
      graphs = λ r i. (let q = each_back a.rules i in q.2.graph.form);
      sizes = λ r i. (let q = each_back a.rules i in q.2.graph.size ∙ sym (each_length q.2.items));
      grounded = record {
        unary = unary bytes g l;
        empties = λ cat rule occ is. (let q = each_back a.rules (rule_in g cat rule is).0 in no_empty_cycle a.depth q.0 rule q.2 (free.rules q.0 q.1).side occ);
        filled = λ cat rule w is. (let q = each_back a.rules (rule_in g cat rule is).0 in walks_filled a.depth q.0 rule q.2 (free.rules q.0 q.1).side w);
      };
      one_rule = one_rule is_plain.draft plain g expanded.once draft.1.once expanded.expands a;
      apart = l.apart;
      linked = l.linked;
      items = sound_items plain g free a;
      words = sound_words plain g free a;
      free = free_names plain g free a;
      cats = a.cats;
      few = (let counts = grammar_counts plain g a in let limit = expanded.few in omega (arith, counts, limit));
      some_nodes = nodes.0;
      most_nodes = nodes.1;
      some_facts = facts.0;
      most_facts = facts.1;
    }

pub loaded_has_no_edge_twice : LoadedHasNoEdgeTwice
loaded_has_no_edge_twice g s l d e h = no_edge_twice g s l.grounded d e h
