use Rattle.std.proofs.Common.{◌≡◌, List, refl, sym, ◌∙◌, subst}
use Rattle.lfg_terms.specs.Order.{name_cmp}
use Rattle.lfg_terms.specs.declared.grammar.Grammar.{Grammar}
use Rattle.lfg_terms.specs.declared.grammar.Lex.{Lex}
use Rattle.lfg_terms.specs.declared.grammar.Rule.{Rule}
use Rattle.lfg_model.specs.Lists.{Lists}
use Rattle.lfg_model.specs.Loads.{IsCategoryOf, LoadsRule, LoadsWord}
use Rattle.lfg_model.specs.Templates.{Each}
use Rattle.lfg_model.specs.Terms.{Name}
use Rattle.lfg_grammar.proofs.parts.assemble.Goals as goal

pub returns-clause-grammar : goal.returns-clause-grammar
returns-clause-grammar c = λ p read parts.
    let g : Grammar = record {
      root = c.args.settings.root;
      governable = c.args.settings.governable;
      gensize = c.args.settings.gensize;
      maxfacts = c.args.settings.maxfacts;
      cats = c.in_ok-new.field-0;
      rules = c.in_ok-new-2.field-0;
      lexicon = c.in_ok-new-3.field-0;
    } in
    record {
      root = read.root;
      governable = read.governable;
      gensize = read.gensize;
      maxfacts = read.maxfacts;
      depth = c.args.settings.depth;
      is_depth = read.depth;
      rules = subst (λ (rs : List Rule). Each (LoadsRule c.args.settings.depth) p.rules rs) (sym c.in_ok-new-2.ensures) (c.in_ok-rules.ensures.rules c.args.settings.depth p.rules parts.rules);
      words = subst (λ (ws : List Lex). Each (LoadsWord c.args.settings.depth) p.words ws) (sym c.in_ok-new-3.ensures) parts.words;
      cats = subst (λ (ns : List Name). Lists name_cmp (IsCategoryOf g) ns) (sym c.in_ok-new.ensures) (c.in_ok-cats.ensures g refl (c.in_ok-new-2.ensures ∙ sym c.deref.ensures.value) (c.in_ok-new-3.ensures ∙ sym c.deref-2.ensures.value));
    }
